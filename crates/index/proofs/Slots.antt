-- The steps of the loops over the slots. What is asked of a slot does not read the header.
use mathlib.Core.Path.{◌≡◌, refl, sym, ◌∙◌}
use mathlib.Core.Bool.{Bool, true, false}
use mathlib.Core.List.{List}
use Prim.Native.Nat.{ℕ, zero, suc, ◌+◌, ◌-◌, ◌<◌, ◌≤◌}
use native.Mathlib.Numerals.{sub-one}
use native.Mathlib.Omega.{arith}
use lib.Dec.{eqb}
use Rattle.slots.specs.Words.{pick, state, free, cell}
use Rattle.slots.specs.Answers.{none, some}
use Rattle.slots.proofs.Laws.{none_some, some_is}
use Rattle.tree_rules.specs.Chain.{tally}
use Rattle.index_rules.specs.Live.{Live, lent_tree}
use Rattle.index_rules.specs.Sound.{used, is_cleared}
use Rattle.index.specs.Sound.{state_fine, states_fine, used_if_fine}

pub any_head : (names cells a b sizes : List ℕ) (k : ℕ)
    → states_fine k (lent_tree names cells a sizes) ≡ states_fine k (lent_tree names cells b sizes)
unfolding states_fine state_fine is_cleared
any_head names cells a b sizes zero = refl
any_head names cells a b sizes (suc k) = rw (any_head names cells a b sizes k)

pub and-true : (b : Bool) → pick b true false ≡ b
and-true true = refl
and-true false = refl

-- A test of each slot, asked of the first k: the last of them, and then those below it.
module _ (test : ℕ → Bool) (all : ℕ → Bool) (nothing : all 0 ≡ true) (step : (k : ℕ) → all (suc k) ≡ pick (test k) (all k) false) where
  pub fine_none : (k : ℕ) → k ≤ 0 → true ≡ all k
  fine_none zero h = sym nothing
  fine_none (suc k) h = absurd (omega arith)

  pub fine-not : (k : ℕ) → 0 < k → {fine : Bool} → fine ≡ test (k - 1) → fine ≡ false → false ≡ all k
  fine-not zero h e f = absurd (omega arith)
  fine-not (suc k) h e f = let g = rw sub-one at e in sym (step k ∙ rw (← g, f))

  pub fine_on : (k : ℕ) → 0 < k → {fine : Bool} → fine ≡ test (k - 1) → fine ≡ true → all (k - 1) ≡ all k
  fine_on zero h e f = absurd (omega arith)
  fine_on (suc k) h e f = let g = rw sub-one at e in rw sub-one (sym (step k ∙ rw (← g, f)))

-- Where the pass tells a number all are fine, and else one is not.
module _ (k : ℕ) (t : Live) where
  pub one_not : none ≡ used_if_fine k t → states_fine k t ≡ false
  one_not e = go (states_fine k t) e
    where
      go : (b : Bool) → none ≡ pick b (some (tally k (used t.cells))) none → b ≡ false
      go true e = absurd (none_some e)
      go false e = refl

  pub all_fine : {m : ℕ} → some m ≡ used_if_fine k t → (states_fine k t ≡ true) × (m ≡ tally k (used t.cells))
  all_fine {m} e = go (states_fine k t) e
    where
      go : (b : Bool) → some m ≡ pick b (some (tally k (used t.cells))) none → (b ≡ true) × (m ≡ tally k (used t.cells))
      go true e = (refl, some_is e)
      go false e = absurd (none_some (sym e))

pub tally_on : (f : ℕ → ℕ) (k : ℕ) → 0 < k → tally k f ≡ f (k - 1) + tally (k - 1) f
unfolding tally
tally_on f zero h = absurd (omega arith)
tally_on f (suc k) h = rw sub-one

pub tally_none : (f : ℕ → ℕ) (k : ℕ) → k ≤ 0 → tally k f ≡ 0
unfolding tally
tally_none f zero h = refl
tally_none f (suc k) h = absurd (omega arith)

pub used_one : (cells : List ℕ) (i : ℕ) → used cells i ≤ 1
used_one cells i = go (eqb (cell cells i state) free)
  where
    go : (b : Bool) → pick b 0 1 ≤ 1
    go true = omega arith
    go false = omega arith
