-- What a file leaves that is accepted: the bytes are those of one set, its words stand in the slices, and so lookup and walk find it there.
use mathlib.Core.Path.{◌≡◌, refl, ap, sym, ◌∙◌}
use mathlib.Core.Logic.{◌↔◌}
use mathlib.Core.List.{List, ◌++◌}
use Prim.Native.Nat.{ℕ, ◌≤◌}
use native.Mathlib.Omega.{arith}
use lib.ListN.{length, drop}
use Rattle.slots.specs.Answers.{given}
use Rattle.slots.proofs.Laws.{number, given_is}
use Rattle.endian.specs.Bytes.{Bytes}
use Rattle.upload_rules.specs.Reader.{said}
use Rattle.set_rules.specs.Words.{Set, Fit}
use Rattle.set_rules.specs.Accepted.{Accepted}
use Rattle.set_rules.specs.Lookup.{lookups}
use Rattle.set_rules.specs.Cursor.{starts}
use Rattle.set_rules.specs.Walk.{nexts}
use Rattle.set_rules.proofs.Walked.{walked}
use Rattle.file_rules.specs.File.{set_size, counts_in}
use Rattle.file_rules.specs.Saving.{saved, saves}
use Rattle.file_rules.specs.Loader.{loader_of}
use Rattle.file_rules.specs.Loading.{Loading, loading, LoadOutcome, load_outcome, cut_out, load_whole}
use Rattle.file_rules.specs.Faults.{WholeFile, LoadVerdict}
use Rattle.file_rules.specs.Left.{padded, ReadsAs}
use Rattle.file_rules.proofs.Returning.{cut_back, padded_cut, returned}
use Rattle.file_rules.proofs.Concluding.{came_whole, verdicts}
use Rattle.file_rules.proofs.Saving.{size_is, save_done}
use Rattle.file_rules.specs.Faults as F

pub reads_as : (s u : Set) → Fit s → Accepted s → u ≡ s → ReadsAs s u
reads_as s u f a e =
    record {
      map = rw e (walked.mapping_accepted s f a);
      walk = rw e (walked.whole_walk s f a);
      looks = λ t hash key. ap (λ (x : Set). lookups x t hash key) e;
      begins = λ t. ap (λ (x : Set). starts x t) e;
      steps = λ c. ap (λ (x : Set). nexts x c) e;
    }

module _ (t : Set) {l : List ℕ} (k : Bytes l) where
  -- The set of the bytes.
  pub set_one : (s u : Set) → WholeFile t l s → WholeFile t l u → s ≡ u
  set_one s u w v =
      sym (cut_back s t w.loadable)
      ∙ ap (λ (d : Loading). cut_out d.loader d.set) (sym (came_whole t k s w) ∙ came_whole t k u v)
      ∙ cut_back u t v.loadable

  module _ (s : Set) (w : WholeFile t l s) (f : Fit s) (a : Accepted s) where
    pub whole_comes : load_whole t l
        ≡ load_outcome (given (length l)) (loading (loader_of 4 0 0 (counts_in s) (said (given (length l)))) (padded s t))
    whole_comes =
        ap (load_whole t) w.is ∙ returned s t w.loadable f a
        ∙ ap
        (λ (n : ℕ). load_outcome (given n) (loading (loader_of 4 0 0 (counts_in s) (said (given n))) (padded s t)))
        (ap length (sym w.is))

    pub whole_cut : cut_out (load_whole t l).left.loader (load_whole t l).left.set ≡ s
    whole_cut =
        ap (λ (o : LoadOutcome). cut_out o.left.loader o.left.set) whole_comes
        ∙ padded_cut s t w.loadable (said (given (length l)))

    pub whole_saves : (out : List ℕ) → length l ≤ length out
        → saves (cut_out (load_whole t l).left.loader (load_whole t l).left.set) out ≡ saved (given (length l)) (l ++ drop (length l) out)
    whole_saves out m =
        let z : set_size s ≡ length l = sym (size_is s w.loadable.three) ∙ ap length (sym w.is) in
        ap (λ (x : Set). saves x out) whole_cut ∙ save_done s out f a (omega arith)
        ∙ (λ i. saved (given (z i)) (sym w.is i ++ drop (z i) out))

  -- The end call answers a number exactly of such bytes.
  abbrev AcceptsWith : ℕ → Type 0
  AcceptsWith n = (s : Set) × WholeFile t l s × Fit s × Accepted s × (length l ≡ n)

  accepts_number : (n : ℕ) → (load_whole t l).answer ≡ given n → (m : ℕ) → m ≡ 0 → LoadVerdict t l m → AcceptsWith n
  accepts_number n e _ z (F.accepts s w f a) = (s, w, f, a, given_is (ap (λ (o : LoadOutcome). o.answer) (sym (whole_comes s w f a)) ∙ e))
  accepts_number n e _ z (F.unfit s w f) = absurd (omega arith)
  accepts_number n e _ z (F.damaged s w f a) = absurd (omega arith)
  accepts_number n e _ z (F.over o) = absurd (omega arith)
  accepts_number n e _ z (F.long o) = absurd (omega arith)
  accepts_number n e _ z (F.short o) = absurd (omega arith)

  pub whole_accepts : (n : ℕ) → ((load_whole t l).answer ≡ given n) ↔ AcceptsWith n
  whole_accepts n = (
    λ e. accepts_number n e _ (number e) ((verdicts t k _).0 refl),
    λ y. ap (λ (o : LoadOutcome). o.answer) (whole_comes y.0 y.1 y.2 y.3) ∙ ap given y.4,
  )

  pub own_saves : (n : ℕ) → (load_whole t l).answer ≡ given n → (out : List ℕ) → n ≤ length out
      → saves (cut_out (load_whole t l).left.loader (load_whole t l).left.set) out ≡ saved (given n) (l ++ drop n out)
  own_saves n e out m =
      let y = (whole_accepts n).0 e in
      let z = y.4 in
      whole_saves y.0 y.1 y.2 y.3 out (omega arith) ∙ (λ i. saved (given (z i)) (l ++ drop (z i) out))
