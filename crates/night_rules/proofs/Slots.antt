-- What T1 and T2 say of the slots: a used slot can be found where the count is not 0, and a free slot leads nowhere.
use mathlib.Core.Path.{◌≡◌, refl, sym, ◌∙◌}
use mathlib.Core.Logic.{◌≢◌, inl, inr}
use Prim.Native.Nat.{ℕ, zero, suc, ◌<◌}
use native.Mathlib.Decide.{ℕ_discrete}
use native.Mathlib.Omega.{arith}
use borrow.Author.Tests.{eq-eqb}
use Rattle.slots.specs.Words.{null, state, parent, prev, next, free, cell, Side, leftward, rightward, toward}
use Rattle.slots.specs.Words.{Colour, black, red, code}
use Rattle.slots.proofs.Laws.{cell-null}
use Rattle.tree_rules.specs.Find.{slots_of}
use Rattle.tree_rules.specs.Check.{Named}
use Rattle.tree_rules.specs.Chain.{tally}
use Rattle.index_rules.specs.Live.{Live, Fit, first_of, count_of}
use Rattle.index_rules.specs.Sound.{used, T1, T2}
use Rattle.index_rules.proofs.Rules.{small, ends, used-not}
use Rattle.night_rules.specs.Shows.{Used}

-- What can be decided and is not refuted holds.
pub sure : {A : Type 0} → Dec A → ((A → ⊥) → ⊥) → A
sure (yes a) n = a
sure (no d) n = absurd (n d)

tally_some : (n : ℕ) (u : ℕ → ℕ) → tally n u ≢ 0 → (k : ℕ) × (k < n) × (u k ≢ 0)
unfolding tally
tally_some zero u d = absurd (d refl)
tally_some (suc n) u d = go (ℕ_discrete (u n) 0) (λ z. tally_some n u z)
  where
    go : Dec (u n ≡ 0) → (tally n u ≢ 0 → (k : ℕ) × (k < n) × (u k ≢ 0)) → (k : ℕ) × (k < suc n) × (u k ≢ 0)
    go (yes e) again = let h = again (λ z. d (omega arith)) in (h.0, omega (arith, h.1), h.2)
    go (no f) again = (n, omega arith, f)

tally_none : (n : ℕ) (u : ℕ → ℕ) → tally n u ≡ 0 → (k : ℕ) → k < n → u k ≡ 0
unfolding tally
tally_none zero u e k l = absurd (omega arith)
tally_none (suc n) u e k l = go (ℕ_discrete k n) (λ b. tally_none n u (omega arith) k b)
  where
    go : Dec (k ≡ n) → (k < n → u k ≡ 0) → u k ≡ 0
    go (yes z) again = let y : u k ≡ u n = cc in omega arith
    go (no d) again = again (omega arith)

pub used_one : {t : Live} {i : ℕ} → Used t i → used t.cells i ≡ 1
used_one {t} {i} h = used-not t.cells i h.busy

-- A number that says used, says it of a used slot.
pub not-zero : (t : Live) (i : ℕ) → i < slots_of t.names → used t.cells i ≢ 0 → Used t i
not-zero t i l d = record { inside = l; busy = λ e. d (rw (eq-eqb (cell t.cells i state) free e)) }

pub free-zero : (t : Live) (i : ℕ) → cell t.cells i state ≡ free → used t.cells i ≡ 0
free-zero t i e = rw (eq-eqb (cell t.cells i state) free e)

-- A field that every cleared slot has null.
pub record LinkField (t : Live) (f : ℕ) : Type 0 where
  pub named : (i : ℕ) → i < slots_of t.names → Named (slots_of t.names) (cell t.cells i f)
  pub clear : (i : ℕ) → i < slots_of t.names → cell t.cells i state ≡ free → cell t.cells i f ≡ null

module _ {t : Live} (fit : Fit t) (one : T1 t) where
  abbrev n : ℕ
  n = slots_of t.names

  pub solid : {i : ℕ} → i < n → i ≢ null
  solid l e = omega (arith, small fit)

  pub no_cell : (f : ℕ) → cell t.cells null f ≡ null
  no_cell f = cell-null t.cells f (ends fit)

  pub colour_of_lem : {i : ℕ} → Used t i → (c : Colour) × (cell t.cells i state ≡ code c)
  colour_of_lem {i} h = go (ℕ_discrete (cell t.cells i state) 1)
    where
      go : Dec (cell t.cells i state ≡ 1) → (c : Colour) × (cell t.cells i state ≡ code c)
      go (yes e) = (black, e)
      go (no d) = (red, omega (arith, one.states i h.inside, h.busy))

  pub parents : LinkField t parent
  parents = record { named = λ i l. (one.links i l).parents; clear = λ i l e. (one.cleared i l e).parents }

  pub prevs : LinkField t prev
  prevs = record { named = λ i l. (one.links i l).prevs; clear = λ i l e. (one.cleared i l e).prevs }

  pub nexts : LinkField t next
  nexts = record { named = λ i l. (one.links i l).nexts; clear = λ i l e. (one.cleared i l e).nexts }

  pub sides : (σ : Side) → LinkField t (toward σ)
  sides leftward = record { named = λ i l. (one.links i l).lefts; clear = λ i l e. (one.cleared i l e).lefts }
  sides rightward = record { named = λ i l. (one.links i l).rights; clear = λ i l e. (one.cleared i l e).rights }

  pub inside : {f i : ℕ} → LinkField t f → i < n → cell t.cells i f ≢ null → cell t.cells i f < n
  inside {f} {i} h l d = go (h.named i l)
    where
      go : Named n (cell t.cells i f) → cell t.cells i f < n
      go (inl e) = absurd (d e)
      go (inr b) = b

  -- A slot with a link is used; null has none.
  pub linked : {f i : ℕ} → LinkField t f → i < n → cell t.cells i f ≢ null → Used t i
  linked {f} {i} h l d = record { inside = l; busy = λ e. d (h.clear i l e) }

  pub linked_named : {f p : ℕ} → LinkField t f → Named n p → cell t.cells p f ≢ null → Used t p
  linked_named {f} {p} h (inl e) d = absurd (d (rw e (no_cell f)))
  linked_named h (inr b) d = linked h b d

  -- The count is 0 exactly where no slot is used.
  pub used-count : {i : ℕ} → Used t i → count_of t ≢ 0
  used-count {i} h e =
      omega (arith, used_one h, tally_none n (used t.cells) (sym one.count ∙ e) i h.inside)

  pub some_used : count_of t ≢ 0 → (i : ℕ) × Used t i
  some_used d =
      let h = tally_some n (used t.cells) (λ e. d (one.count ∙ e)) in (h.0, not-zero t h.0 h.1 h.2)

  pub none_used : count_of t ≡ 0 → (i : ℕ) → i < n → used t.cells i ≡ 0
  none_used e i l = tally_none n (used t.cells) (sym one.count ∙ e) i l

  module _ (two : T2 t) where
    pub first_solid : count_of t ≢ 0 → first_of t < n
    first_solid d = go one.first
      where
        go : Named n (first_of t) → first_of t < n
        go (inl e) = absurd (d (two.first.0 e))
        go (inr b) = b
