-- What save comes to on each of its ways is what the model says.
use mathlib.Core.Path.{◌≡◌, refl, ap, sym, ◌∙◌}
use mathlib.Core.Bool.{true, false}
use mathlib.Core.List.{List, ◌++◌}
use Prim.Native.Nat.{ℕ, ◌+◌, ◌*◌, ◌/◌, ◌<◌, ◌≤◌}
use native.Mathlib.Omega.{arith}
use lib.ListN.{length, drop}
use lib.Seq.{sets, sets-eq}
use Rattle.slots.specs.Answers.{given, refused}
use Rattle.slots.proofs.Laws.{given_is}
use Rattle.upload_rules.proofs.Ranges.{no_test}
use Rattle.set_rules.specs.Words.{Set, tables_of, Fit, fits}
use Rattle.set_rules.specs.Accepting.{accepts}
use Rattle.set_rules.proofs.Fit.{fits_exactly}
use Rattle.set_rules.proofs.Judged.{judged}
use Rattle.file_rules.specs.File.{set_bytes, set_size}
use Rattle.file_rules.specs.Saving.{saved, saves}
use Rattle.file_rules.proofs.Returning.{bins_most}
use Rattle.file_rules.proofs.Saving.{size_is, save_done, save_one, save_two}
use Rattle.file.specs.Room.{FileRoom}

-- The size, as the code counts it.
abbrev pub size_of : Set → ℕ
size_of s = 16 + 4 * tables_of s + 4 * length s.bins + 12 * (length s.heads / 3) + 41 * (length s.names / 2)

module _ (s : Set) (out : List ℕ) where
  size_own : set_size s ≡ size_of s
  unfolding set_size
  size_own = refl

  pub unfit_saves : fits s ≡ false → saved (refused 1) out ≡ saves s out
  unfit_saves e = sym (save_one s out (λ f l. no_test e ((fits_exactly s).1 f)))

  pub short_saves : {size : ℕ} → size ≡ size_of s → length out < size → saved (refused 1) out ≡ saves s out
  short_saves e l = sym (save_one s out (λ f m. omega (arith, size_own)))

  module _ (e : fits s ≡ true) where
    fit : Fit s
    fit = (fits_exactly s).0 e

    pub fit_lengths : (tables_of s ≤ 8) × (length s.bins ≤ 8160) × (length s.heads ≤ 12288) × (length s.names ≤ 8192)
    fit_lengths =
        let f = fit in
        (f.most, bins_most s f, omega (arith, f.three, f.headers_most), omega (arith, f.two, f.slots_most))

    pub size_small : {size : ℕ} → size ≡ size_of s → size < 4294967296
    size_small z = let l = fit_lengths in omega (arith, l.0, l.1, l.2, l.3)

    pub has_room_lem : {size : ℕ} → size ≡ size_of s → size ≤ length out
        → FileRoom (length s.lengths) (length s.bins) (length s.heads) (length s.names) (length out)
    has_room_lem z m =
        let f = fit in
        let l = fit_lengths in
        record {
          tables = l.0;
          words = l.1;
          headers = l.2;
          slots = l.3;
          room = omega (arith, f.three);
        }

    pub damaged_saves : {size : ℕ} → size ≡ size_of s → size ≤ length out → given 0 ≡ accepts s → saved (refused 2) out ≡ saves s out
    damaged_saves z m g =
        sym (save_two s out fit (λ h. omega (arith, given_is (g ∙ (judged.accepting s).yes.1 (fit, h)))) (omega (arith, size_own)))

    pub done-saves : {size : ℕ} {l : List ℕ} → size ≡ size_of s → size ≤ length out → given 1 ≡ accepts s → l ≡ sets out 0 (set_bytes s)
        → saved (given size) l ≡ saves s out
    done-saves {size} {l} z m g w =
        let h = ((judged.accepting s).yes.0 (sym g)).1 in
        let three = fit.three in
        let long : length (set_bytes s) ≡ set_size s = size_is s (omega arith) in
        let own : size ≡ set_size s = z ∙ sym size_own in
        let whole : l ≡ set_bytes s ++ drop (set_size s) out =
        w ∙ sets-eq (set_bytes s) out 0 (omega arith)
        ∙ ap (λ (n : ℕ). set_bytes s ++ drop n out) (let q : 0 + length (set_bytes s) ≡ set_size s = omega arith in q) in
        (λ i. saved (given (own i)) (whole i)) ∙ sym (save_done s out fit h (omega arith))
