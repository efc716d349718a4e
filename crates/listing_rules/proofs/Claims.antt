-- Every claim of the crate holds: what the end call answers decides, and an accepted file's set is the one that the counts cut out.
use mathlib.Core.Path.{◌≡◌, ap}
use mathlib.Core.List.{List}
use Prim.Native.Nat.{ℕ, ◌≤◌}
use native.Mathlib.Omega.{arith}
use native.Mathlib.Decide.{ℕ_discrete}
use lib.ListN.{length}
use borrow.Author.Tests.{eq-eqb, ne_eqb}
use Rattle.endian.specs.Bytes.{Bytes}
use Rattle.script_rules.specs.Letters.{word_line}
use Rattle.script_rules.specs.Blanks.{blanks_filled, piece, is_blank}
use Rattle.set_rules.specs.Words.{Set, Fit}
use Rattle.set_rules.specs.Accepted.{Accepted}
use Rattle.file_rules.specs.File.{set_bytes, Wide}
use Rattle.file_rules.specs.Faults.{Larger, WholeFile, LoadVerdict, accepts}
use Rattle.file_rules.specs.Loading.{LoadOutcome, cut_out, load_whole}
use Rattle.file_rules.proofs.Claims as file-rules
use Rattle.listing_rules.specs.Lines.{set_text, load_text}
use Rattle.listing_rules.specs.Claims.{SetShown, Claims}
use Rattle.listing_rules.proofs.Showing.{shown}
use Rattle.listing_rules.proofs.Room.{set_short, no_short}

-- Number 0, and a set that is cut out.
set_told : (o : LoadOutcome) {s : Set} → o.answer.number ≡ 0 → cut_out o.left.loader o.left.set ≡ s → load_text o ≡ set_text s
unfolding load_text
set_told o e f = rw (eq-eqb o.answer.number 0 e) (ap set_text f)

accepted : (t : Set) (l : List ℕ) → Bytes l → (s : Set) → WholeFile t l s → Fit s → Accepted s → SetShown s (load_text (load_whole t l))
accepted t l b s w f a =
    let loads = (file-rules.claims).loads t l b in
    let told = set_told (load_whole t l) ((loads.verdicts 0).1 (accepts s w f a)) (loads.own s w f a) in
    rw told (shown s f a)

saved : (s : Set) → Fit s → Wide s → Accepted s → (t : Set) → Larger s t → SetShown s (load_text (load_whole t (set_bytes s)))
saved s f w a t g =
    let back = (file-rules.claims).back s f w a t g in
    let told = set_told (load_whole t (set_bytes s)) (ap (λ (o : LoadOutcome). o.answer.number) back.back) back.same in
    rw told (shown s f a)

refused : (t : Set) (l : List ℕ) → Bytes l → (n : ℕ) → 1 ≤ n → LoadVerdict t l n → load_text (load_whole t l) ≡ word_line "no " n
unfolding load_text blanks_filled piece is_blank
refused t l b n h v = rw ((((file-rules.claims).loads t l b).verdicts n).1 v, ne_eqb n 0 (λ z. omega arith))

room : (t : Set) (l : List ℕ) → Bytes l → length (load_text (load_whole t l)) ≤ 524288
unfolding load_text
room t l b = go (ℕ_discrete (load_whole t l).answer.number 0)
  where
    of_set : LoadVerdict t l 0 → (load_whole t l).answer.number ≡ 0 → length (load_text (load_whole t l)) ≤ 524288
    of_set (accepts s w f a) e = rw (set_told (load_whole t l) e (((file-rules.claims).loads t l b).own s w f a)) (set_short s f)

    go : Dec ((load_whole t l).answer.number ≡ 0) → length (load_text (load_whole t l)) ≤ 524288
    go (yes e) = of_set ((((file-rules.claims).loads t l b).verdicts 0).0 e) e
    go (no d) = rw (ne_eqb (load_whole t l).answer.number 0 d) (no_short (load_whole t l).answer.number)

pub claims : Claims
claims = record { accepted = accepted; saved = saved; refused = refused; room = room }
