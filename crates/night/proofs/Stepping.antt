-- A step of each way, on plain values: each law takes what the reads and the tests gave, in the order of the code.
use mathlib.Core.Path.{◌≡◌, refl}
use mathlib.Core.Logic.{◌≢◌}
use mathlib.Core.Bool.{Bool, true, false}
use mathlib.Core.List.{List}
use Prim.Native.Nat.{ℕ, zero, suc, ◌+◌, ◌<◌, ◌≤◌}
use native.Mathlib.Numerals.{add-one}
use native.Mathlib.Omega.{arith}
use lib.Dec.{eqb}
use borrow.Author.Tests.{eq-eqb, ne_eqb}
use Rattle.slots.specs.Words.{null, pick, state, parent, left, code, black, cell, Side, leftward, toward}
use Rattle.night_rules.specs.Account.{WayDown, Account, no_way}
use Rattle.night_rules.specs.Why.{leads_to, first_below, next_above, one_if_black, blacks_above, word_of_side, way_on}

-- Along one field to x.
module _ (cells : List ℕ) (f x k : ℕ) where
  pub leads_there : (budget : ℕ) → k ≡ x → true ≡ leads_to budget cells f x k
  unfolding leads_to
  leads_there zero e = rw (eq-eqb k x e)
  leads_there (suc budget) e = rw (eq-eqb k x e)

  pub leads_end : (budget : ℕ) → budget ≤ 0 → eqb k x ≡ leads_to budget cells f x k
  unfolding leads_to
  leads_end zero h = refl
  leads_end (suc budget) h = absurd (omega arith)

  pub leads_on : (budget rest : ℕ) {q : ℕ} → budget ≡ rest + 1 → k ≢ x → q ≡ cell cells k f
      → leads_to rest cells f x q ≡ leads_to budget cells f x k
  unfolding leads_to
  leads_on budget rest h d e = rw (h, add-one, leads_to, ne_eqb k x d, ← e)

-- Down by left links.
module _ (cells : List ℕ) (i : ℕ) where
  pub below_end : (budget : ℕ) → budget ≤ 0 → i ≡ first_below budget cells i
  unfolding first_below
  below_end zero h = refl
  below_end (suc budget) h = absurd (omega arith)

  pub below_here : (budget : ℕ) {l : ℕ} → 0 < budget → l ≡ cell cells i left → l ≡ null → i ≡ first_below budget cells i
  unfolding first_below
  below_here zero h e z = absurd (omega arith)
  below_here (suc budget) {l} h e z = rw (← e, eq-eqb l null z)

  pub below_on : (budget rest : ℕ) {l : ℕ} → budget ≡ rest + 1 → l ≡ cell cells i left → l ≢ null
      → first_below rest cells l ≡ first_below budget cells i
  unfolding first_below
  below_on budget rest {l} h e d = rw (h, add-one, first_below, ← e, ne_eqb l null d)

-- Up by parents to the first that has the way on its left.
module _ (cells : List ℕ) (i : ℕ) where
  pub above_end : (budget : ℕ) → budget ≤ 0 → null ≡ next_above budget cells i
  unfolding next_above
  above_end zero h = refl
  above_end (suc budget) h = absurd (omega arith)

  module _ {p : ℕ} (e : p ≡ cell cells i parent) where
    pub above_none : (budget : ℕ) → 0 < budget → p ≡ null → null ≡ next_above budget cells i
    unfolding next_above
    above_none zero h z = absurd (omega arith)
    above_none (suc budget) h z = rw (← e, eq-eqb p null z)

    pub above_here : (budget : ℕ) {l : ℕ} → 0 < budget → p ≢ null → l ≡ cell cells p left → l ≡ i → p ≡ next_above budget cells i
    unfolding next_above
    above_here zero h d g z = absurd (omega arith)
    above_here (suc budget) {l} h d g z = rw (← e, ne_eqb p null d, ← g, eq-eqb l i z)

    pub above_on : (budget rest : ℕ) {l : ℕ} → budget ≡ rest + 1 → p ≢ null → l ≡ cell cells p left → l ≢ i
        → next_above rest cells p ≡ next_above budget cells i
    unfolding next_above
    above_on budget rest {l} h d g z = rw (h, add-one, next_above, ← e, ne_eqb p null d, ← g, ne_eqb l i z)

-- Up by parents, with the black slots met.
module _ (cells : List ℕ) where
  pub one_small : (i : ℕ) → one_if_black cells i ≤ 1
  unfolding one_if_black
  one_small i = go (eqb (cell cells i state) (code black))
    where
      go : (b : Bool) → pick b 1 0 ≤ 1
      go true = omega arith
      go false = omega arith

  -- What was read as it is at most 1.
  pub one_fits : {o : ℕ} (i : ℕ) → o ≡ one_if_black cells i → o ≤ 1
  one_fits i e = omega (arith, one_small i)

  within : (x : Bool) {k o budget : ℕ} → k ≤ budget → o ≤ 1 → pick x 0 (k + o) ≤ suc budget
  within true h g = omega arith
  within false h g = omega arith

  pub blacks_within : (budget i : ℕ) → blacks_above budget cells i ≤ budget
  unfolding blacks_above
  blacks_within zero i = omega arith
  blacks_within (suc budget) i =
      within (eqb (cell cells i parent) null) (blacks_within budget (cell cells i parent)) (one_small (cell cells i parent))

  module _ (i m : ℕ) where
    pub blacks_end : (budget : ℕ) → budget ≤ 0 → m ≡ blacks_above budget cells i + m
    unfolding blacks_above
    blacks_end zero h = omega arith
    blacks_end (suc budget) h = absurd (omega arith)

    module _ {p : ℕ} (e : p ≡ cell cells i parent) where
      pub blacks_none : (budget : ℕ) → 0 < budget → p ≡ null → m ≡ blacks_above budget cells i + m
      unfolding blacks_above
      blacks_none zero h z = absurd (omega arith)
      blacks_none (suc budget) h z = rw (← e, eq-eqb p null z) (omega arith)

      pub blacks_on : (budget rest : ℕ) {o : ℕ} → budget ≡ rest + 1 → p ≢ null → o ≡ one_if_black cells p
          → blacks_above rest cells p + (m + o) ≡ blacks_above budget cells i + m
      unfolding blacks_above
      blacks_on budget rest h d g = rw (h, add-one, blacks_above, ← e, ne_eqb p null d, ← g) (omega arith)

-- From a slot by its link on a side, then by left links.
module _ (cells : List ℕ) (i : ℕ) (σ : Side) (m : ℕ) where
  abbrev Stops : ℕ → Type 0
  Stops budget = record { last = i; side = word_of_side σ; blacks = m } ≡ way_on budget cells i σ m

  pub way_end : (budget : ℕ) → budget ≤ 0 → Stops budget
  unfolding way_on
  way_end zero h = refl
  way_end (suc budget) h = absurd (omega arith)

  module _ {q : ℕ} (e : q ≡ cell cells i (toward σ)) where
    pub way_here : (budget : ℕ) → 0 < budget → q ≡ null → Stops budget
    unfolding way_on
    way_here zero h z = absurd (omega arith)
    way_here (suc budget) h z = rw (← e, eq-eqb q null z)

    pub way_on_lem : (budget rest : ℕ) {o : ℕ} → budget ≡ rest + 1 → q ≢ null → o ≡ one_if_black cells q
        → way_on rest cells q leftward (m + o) ≡ way_on budget cells i σ m
    unfolding way_on
    way_on_lem budget rest h d g = rw (h, add-one, way_on, ← e, ne_eqb q null d, ← g)

-- The black slots above, as they were read, are at most the steps.
pub above_fits : (cells : List ℕ) (n i : ℕ) {a : ℕ} → a ≡ blacks_above n cells i → a ≤ n
above_fits cells n i e = omega (arith, blacks_within cells n i)

pub to_fits : (cells : List ℕ) (n i : ℕ) {k : ℕ} → k ≡ blacks_above n cells i + one_if_black cells i → k ≤ n + 1
to_fits cells n i e = omega (arith, blacks_within cells n i, one_small cells i)

-- What is told where no way is.
pub no_ways : (rule slot other : ℕ) {w v : WayDown} → w ≡ no_way → v ≡ no_way
    → ◌≡◌ {A = Account} (record { rule = rule; slot = slot; other = other; one = w; two = v })
    (record { rule = rule; slot = slot; other = other; one = no_way; two = no_way })
no_ways rule slot other e f = rw (e, f)
