-- A part of the answers is held against what is expected byte by byte: each stands there, or is the first that does not.
use mathlib.Core.Path.{◌≡◌, refl, ap, sym, ◌∙◌}
use mathlib.Core.Logic.{◌≢◌, ◌⊎◌, inl, inr}
use mathlib.Core.Bool.{Bool, true, false, false≢true}
use mathlib.Core.List.{List, [], ◌∷◌, ◌++◌}
use Prim.Native.Nat.{ℕ, suc, ◌+◌, ◌<◌, ◌≤◌}
use native.Mathlib.Decide.{ℕ_discrete, dec_lt}
use native.Mathlib.Omega.{arith}
use lib.ListN.{length, drop, get_or}
use lib.Seq.{drop-cons}
use lib.Dec.{eqb, ltb}
use borrow.Author.Tests.{lt-ltb, le-ltb, eq-eqb, ne_eqb}
use Rattle.slots.specs.Words.{◌and◌}
use Rattle.script_rules.proofs.Reading.{past}
use Rattle.trials.specs.Playing.{all_same, how_far, agreed}
use Rattle.trials.specs.Claims.{Parts, Agrees}

-- A byte that stands at a place, and one that does not.
record Stands (expected : List ℕ) (from b : ℕ) : Type 0 where
  within : from < length expected
  byte : get_or expected from 0 ≡ b

abbrev pub Other : List ℕ → ℕ → ℕ → Type 0
Other expected from b = (length expected ≤ from) ⊎ (get_or expected from 0 ≢ b)

stands : (expected : List ℕ) (from b : ℕ) → Stands expected from b ⊎ Other expected from b
stands expected from b = go (dec_lt from (length expected)) (ℕ_discrete (get_or expected from 0) b)
  where
    go : Dec (from < length expected) → Dec (get_or expected from 0 ≡ b) → Stands expected from b ⊎ Other expected from b
    go (yes l) (yes e) = inl (record { within = l; byte = e })
    go (yes l) (no n) = inr (inr n)
    go (no n) e = inr (inl (omega arith))

abbrev pub test : List ℕ → ℕ → ℕ → Bool
test expected from b = ltb from (length expected) and eqb (get_or expected from 0) b

module _ (expected : List ℕ) (from b : ℕ) where
  yes_test : Stands expected from b → test expected from b ≡ true
  yes_test s = rw (lt-ltb _ _ s.within, eq-eqb _ _ s.byte)

  pub no_test : Other expected from b → test expected from b ≡ false
  no_test (inl h) = rw (le-ltb _ _ h)
  no_test (inr n) = go (ltb from (length expected))
    where
      go : (t : Bool) → (t and eqb (get_or expected from 0) b) ≡ false
      go true = ne_eqb _ _ n
      go false = refl

-- Yes: the part stands there, and all of it has come.
record Came (expected : List ℕ) (from : ℕ) (part : List ℕ) : Type 0 where
  stood : drop from expected ≡ part ++ drop (from + length part) expected
  came : how_far (agreed expected from part) ≡ from + length part

yes_came : (expected : List ℕ) (from : ℕ) (part : List ℕ) → all_same (agreed expected from part) ≡ true → Came expected from part
unfolding agreed
yes_came expected from [] e = let z : from + 0 ≡ from = omega arith in record { stood = rw z; came = sym z }
yes_came expected from (b ∷ part) e = go (stands expected from b) (yes_came expected (suc from) part)
  where
    go : Stands expected from b ⊎ Other expected from b
        → (all_same (agreed expected (suc from) part) ≡ true → Came expected (suc from) part)
        → Came expected from (b ∷ part)
    go (inl s) again =
        let rest = again (rw (yes_test expected from b s) at e) in
        let z : suc from + length part ≡ from + suc (length part) = omega arith in
        record {
          stood = drop-cons expected from 0 s.within ∙ rw (s.byte, rest.stood, z);
          came = rw (yes_test expected from b s) (rest.came ∙ z);
        }
    go (inr o) again = absurd (false≢true (rw (no_test expected from b o) at e))

stood_yes : (expected : List ℕ) (from : ℕ) (part rest : List ℕ) → drop from expected ≡ part ++ rest
    → all_same (agreed expected from part) ≡ true
unfolding agreed
stood_yes expected from [] rest e = refl
stood_yes expected from (b ∷ part) rest e = go (dec_lt from (length expected)) (stood_yes expected (suc from) part rest)
  where
    go : Dec (from < length expected) → (drop (suc from) expected ≡ part ++ rest → all_same (agreed expected (suc from) part) ≡ true)
        → all_same (agreed expected from (b ∷ part)) ≡ true
    go (yes l) again =
        let both : get_or expected from 0 ∷ drop (suc from) expected ≡ b ∷ (part ++ rest) = sym (drop-cons expected from 0 l) ∙ e in
        let byte : get_or expected from 0 ≡ b = cc in
        let tail : drop (suc from) expected ≡ part ++ rest = cc in
        rw (yes_test expected from b (record { within = l; byte = byte })) (again tail)
    go (no n) again =
        let none : [] ≡ b ∷ (part ++ rest) = sym (past expected from (omega arith)) ∙ e in
        let z : ◌≡◌ {A = ℕ} 0 1 = cc in
        absurd (omega arith)

-- No: up to the first byte that does not stand there.
no_parts : (expected : List ℕ) (from : ℕ) (part : List ℕ) → all_same (agreed expected from part) ≡ false
    → Parts expected from part (how_far (agreed expected from part))
unfolding agreed
no_parts expected from [] e = absurd (false≢true (sym e))
no_parts expected from (b ∷ part) e = go (stands expected from b) (no_parts expected (suc from) part)
  where
    go : Stands expected from b ⊎ Other expected from b
        → (all_same (agreed expected (suc from) part) ≡ false → Parts expected (suc from) part (how_far (agreed expected (suc from) part)))
        → Parts expected from (b ∷ part) (how_far (agreed expected from (b ∷ part)))
    go (inl s) again =
        let rest = again (rw (yes_test expected from b s) at e) in
        let p = rest.place in
        let w = rest.within in
        rw (yes_test expected from b s) (record {
          alike = suc rest.alike;
          within = omega arith;
          place = omega arith;
          before = rw (drop-cons expected from 0 s.within, s.byte) (ap (λ (l : List ℕ). b ∷ l) rest.before);
          other = rest.other;
        })
    go (inr o) again = rw (no_test expected from b o) (record {
      alike = 0;
      within = omega arith;
      place = omega arith;
      before = refl;
      other = o;
    })

pub agrees : (expected : List ℕ) (from : ℕ) (part : List ℕ) → Agrees expected from part
agrees expected from part = record {
  same = (λ e. (drop (from + length part) expected, (yes_came expected from part e).stood), λ h. stood_yes expected from part h.0 h.1);
  come = λ e. (yes_came expected from part e).came;
  parts = no_parts expected from part;
}

-- A part in two pieces: the second goes on where the first ended, or the first says no.
pub agreed-more : (expected : List ℕ) (from : ℕ) (a b : List ℕ) → all_same (agreed expected from a) ≡ true
    → agreed expected from (a ++ b) ≡ agreed expected (how_far (agreed expected from a)) b
unfolding agreed
agreed-more expected from [] b e = refl
agreed-more expected from (x ∷ a) b e = go (stands expected from x) (agreed-more expected (suc from) a b)
  where
    go : Stands expected from x ⊎ Other expected from x
        → (all_same (agreed expected (suc from) a) ≡ true
        → agreed expected (suc from) (a ++ b) ≡ agreed expected (how_far (agreed expected (suc from) a)) b)
        → agreed expected from (x ∷ (a ++ b)) ≡ agreed expected (how_far (agreed expected from (x ∷ a))) b
    go (inl s) again = rw (yes_test expected from x s) (again (rw (yes_test expected from x s) at e))
    go (inr o) again = absurd (false≢true (rw (no_test expected from x o) at e))

pub agreed_stop : (expected : List ℕ) (from : ℕ) (a b : List ℕ) → all_same (agreed expected from a) ≡ false
    → agreed expected from (a ++ b) ≡ agreed expected from a
unfolding agreed
agreed_stop expected from [] b e = absurd (false≢true (sym e))
agreed_stop expected from (x ∷ a) b e = go (stands expected from x) (agreed_stop expected (suc from) a b)
  where
    go : Stands expected from x ⊎ Other expected from x
        → (all_same (agreed expected (suc from) a) ≡ false → agreed expected (suc from) (a ++ b) ≡ agreed expected (suc from) a)
        → agreed expected from (x ∷ (a ++ b)) ≡ agreed expected from (x ∷ a)
    go (inl s) again = rw (yes_test expected from x s) (again (rw (yes_test expected from x s) at e))
    go (inr o) again = rw (no_test expected from x o)
