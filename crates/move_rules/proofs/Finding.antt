-- Lookup on an accepted set is told by its entries, and so is what a whole walk gives. So two accepted sets with the same names and the
-- same entries from a table on answer alike from that table, and their walks give the same slots.
use mathlib.Core.Path.{◌≡◌, ap, sym, ◌∙◌}
use mathlib.Core.Logic.{◌⊎◌, inl, inr, ◌↔◌}
use mathlib.Core.List.{List}
use Prim.Native.Nat.{ℕ, ◌-◌, ◌<◌}
use native.Mathlib.Decide.{ℕ_discrete}
use native.Mathlib.Omega.{arith}
use Rattle.slots.specs.Answers.{Answer, given, nothing}
use Rattle.slots.proofs.Laws.{nothing-given}
use Rattle.tree_rules.proofs.Trail.{answers}
use Rattle.set_rules.specs.Words.{Set, Fit, tables_of}
use Rattle.set_rules.specs.Accepted.{Accepted}
use Rattle.set_rules.specs.Lookup.{lookups}
use Rattle.tree_rules.specs.Tree.{times}
use Rattle.set_rules.specs.Cursor.{starts}
use Rattle.set_rules.specs.Held.{EntryFrom}
use Rattle.set_rules.specs.Whole.{Listing}
use Rattle.set_rules.specs.Walked.{WholeWalk}
use Rattle.set_rules.proofs.Walked.{walked}
use Rattle.set_rules.proofs.Looking as looking
use Rattle.set_rules.proofs.Holding.{looks_up}
use Rattle.set_rules.proofs.Mapping.{map_claims}

Told : Answer → Type 0
Told a = ((x : ℕ) × (a ≡ given x)) ⊎ (a ≡ nothing)

module _ (s : Set) (fit : Fit s) (acc : Accepted s) (from hash key : ℕ) (there : from < tables_of s) where
  told : Told (lookups s from hash key).answer
  unfolding Told
  told = go (looking.outcome s from hash key there) (answers (looking.known_loop s from hash key fit there))
    where
      go : {a : Answer} → looking.Outcome s from hash key there a → (lookups s from hash key).answer ≡ a
          → Told (lookups s from hash key).answer
      go (looking.Outcome.lost h) e = absurd ((looks_up s fit acc hash key from there).never 9 (omega arith) e)
      go (looking.Outcome.hit {slot} h) e = inl (slot, e)
      go (looking.Outcome.miss h) e = inr e

module _ (s t : Set) (fit : Fit s) (fit' : Fit t) (acc : Accepted s) (acc' : Accepted t) (named : t.names ≡ s.names) (from : ℕ)
    (there : from < tables_of s) (there' : from < tables_of t) (same : (x : ℕ) → EntryFrom t from x ↔ EntryFrom s from x) where
  pub same_lookup : (hash key : ℕ) → (lookups t from hash key).answer ≡ (lookups s from hash key).answer
  unfolding Told
  same_lookup hash key = go (told s fit acc from hash key there) (told t fit' acc' from hash key there')
    where
      over : (x : ℕ) → (lookups s from hash key).answer ≡ given x → (lookups t from hash key).answer ≡ given x
      over x e = let r = ((map_claims s fit acc).at from hash key x there).0 e in
          ((map_claims t fit' acc').at from hash key x there').1 ((same x).1 r.0, rw named r.1)

      back : (x : ℕ) → (lookups t from hash key).answer ≡ given x → (lookups s from hash key).answer ≡ given x
      back x e = let r = ((map_claims t fit' acc').at from hash key x there').0 e in
          ((map_claims s fit acc).at from hash key x there).1 ((same x).0 r.0, rw named at r.1)

      go : Told (lookups s from hash key).answer → Told (lookups t from hash key).answer
          → (lookups t from hash key).answer ≡ (lookups s from hash key).answer
      go (inl u) b = over u.0 u.1 ∙ sym u.1
      go (inr u) (inl v) = absurd (nothing-given (sym u ∙ back v.0 v.1))
      go (inr u) (inr v) = v ∙ sym u

module _ (s t : Set) (fit : Fit s) (fit' : Fit t) (acc : Accepted s) (acc' : Accepted t) (from : ℕ)
    (there : from < tables_of s) (there' : from < tables_of t) (same : (x : ℕ) → EntryFrom t from x ↔ EntryFrom s from x) where
  pub same_walk : (l m : List ℕ) → Listing s (starts s from).cursor l → Listing t (starts t from).cursor m
      → (x : ℕ) → times x m ≡ times x l
  same_walk l m a b x =
      ap (times x) (v.only m b) ∙ go (ℕ_discrete (times x v.given-slots) 0) (ℕ_discrete (times x w.given-slots) 0)
      ∙ sym (ap (times x) (w.only l a))
    where
      w : WholeWalk s from
      w = walked.whole_walk s fit acc from there

      v : WholeWalk t from
      v = walked.whole_walk t fit' acc' from there'

      go : Dec (times x v.given-slots ≡ 0) → Dec (times x w.given-slots ≡ 0) → times x v.given-slots ≡ times x w.given-slots
      go (yes e) (yes f) = e ∙ sym f
      go (yes e) (no f) = absurd (omega (arith, (v.entries x).1 ((same x).1 ((w.entries x).0 (omega arith)))))
      go (no e) (yes f) = absurd (omega (arith, (w.entries x).1 ((same x).0 ((v.entries x).0 (omega arith)))))
      go (no e) (no f) = omega (arith, v.once x, w.once x)
