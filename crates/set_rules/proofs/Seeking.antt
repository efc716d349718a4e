-- What one turn of the walk's loop comes to, by the bin that it finds; turns past those that are needed change nothing.
use mathlib.Core.Path.{◌≡◌, refl, sym, ap, ◌∙◌}
use mathlib.Core.Logic.{◌⊎◌, inl, inr}
use mathlib.Core.List.{[]}
use Prim.Native.Nat.{ℕ, zero, suc, ◌+◌, ◌-◌, ◌<◌, ◌≤◌}
use native.Mathlib.Decide.{dec_lt}
use native.Mathlib.Omega.{arith}
use lib.Dec.{leb}
use borrow.Author.Tests.{le-leb, lt-leb, lt-ltb, le-ltb}
use Rattle.slots.specs.Words.{pick}
use Rattle.set_rules.specs.Words.{Set, tables_of, length_at, first_at, Bin, empty, moved, bad, list, tree}
use Rattle.set_rules.specs.Walk.{WalkPoint, deepest, bin_here, below, went_on, InTables, Sought, ended, lost, taken, entered, sought}
use Rattle.set_rules.specs.Walk.{turns_in}
use Rattle.set_rules.proofs.Turns.{left, left-advanced, left_within, left_down, twice_at, under_some}
use Rattle.set_rules.proofs.Standing.{Within, within_or_end, stands-advanced, stands_down, left_some, left_all}
use Rattle.tree_rules.specs.Find.{slots_of}

module _ (s : Set) (base : ℕ) where
  abbrev pub Good : WalkPoint → Type 0
  Good p = InTables s.lengths base p

  abbrev pub Here : WalkPoint → Type 0
  Here p = Within s.lengths base p

  abbrev pub left_at : WalkPoint → ℕ
  left_at p = left s.lengths base p.depth p.indexes

  pub sought_end : (t : ℕ) (p : WalkPoint) → length_at s (base + p.depth) ≤ deepest p → sought t s base p ≡ ended
  unfolding sought
  sought_end zero p h = refl
  sought_end (suc t) p h = simp (le-leb _ _ h)

  sought_turn : (t : ℕ) (p : WalkPoint) → Here p → {b : Bin} → bin_here s base p ≡ b
      → sought (suc t) s base p ≡ entered s base p b (λ q. sought t s base q)
  unfolding sought
  sought_turn t p h e = rw (lt-leb _ _ h, e)

  -- What is left falls.
  pub falls-onward : (p : WalkPoint) → Good p → Here p → left_at (went_on s base p) < left_at p
  falls-onward p h w =
      let d = p.depth in
      let x = p.indexes in
      let a = left-advanced s.lengths base h.twice d x h.eight (omega (arith, h.deep, h.few)) h.deep in
      let b = left_within s.lengths base d x w in
      let u = under_some (tables_of s - (base + d)) (omega (arith, h.deep)) in
      omega (arith, a, b, u)

  pub falls_below : (p : WalkPoint) → Good p → Here p → base + suc p.depth < tables_of s → left_at (below s base p) < left_at p
  falls_below p h w l = left_down s.lengths base h.twice p.depth _ p.indexes w l

  pub good_onward : (p : WalkPoint) → Good p → Here p → Good (went_on s base p)
  good_onward p h w = stands-advanced s.lengths base p.depth p.indexes h w

  pub good_below : (p : WalkPoint) → Good p → Here p → base + suc p.depth < tables_of s → Good (below s base p)
  good_below p h w l = stands_down s.lengths base p _ h w l (omega (arith, twice_at s.lengths base h.twice p.depth l))

  -- A turn's outcome depends on what follows the points that it may go to.
  same_turn : (p : WalkPoint) (b : Bin) (f g : WalkPoint → Sought) → f (went_on s base p) ≡ g (went_on s base p)
      → (base + suc p.depth < tables_of s → f (below s base p) ≡ g (below s base p))
      → entered s base p b f ≡ entered s base p b g
  same_turn p empty f g a b = a
  same_turn p bad f g a b = refl
  same_turn p (list x) f g a b = refl
  same_turn p (tree h) f g a b = refl
  same_turn p moved f g a b = go (dec_lt (base + p.depth + 1) (tables_of s))
    where
      go : Dec (base + p.depth + 1 < tables_of s) → entered s base p moved f ≡ entered s base p moved g
      go (yes l) = simp (lt-ltb _ _ l) (b (omega arith))
      go (no l) = simp (le-ltb (base + p.depth + 1) (tables_of s) (omega arith))

  none_left : (p : WalkPoint) → Good p → left_at p ≤ 0 → (t : ℕ) → sought t s base p ≡ ended
  none_left p h l t = go (within_or_end s.lengths base p h)
    where
      go : (Here p) ⊎ ((p.depth ≡ 0) × (length_at s (base + p.depth) ≤ deepest p)) → sought t s base p ≡ ended
      go (inl w) = absurd (omega (arith, left_some s.lengths base p h w))
      go (inr e) = sought_end t p e.1

  pub enough : (t u : ℕ) (p : WalkPoint) → Good p → left_at p ≤ t → left_at p ≤ u → sought t s base p ≡ sought u s base p
  enough zero u p h a b = none_left p h a 0 ∙ sym (none_left p h a u)
  enough (suc t) zero p h a b = none_left p h b (suc t) ∙ sym (none_left p h b 0)
  enough (suc t) (suc u) p h a b = go (within_or_end s.lengths base p h) (λ q k c d. enough t u q k c d)
    where
      go : (Here p) ⊎ ((p.depth ≡ 0) × (length_at s (base + p.depth) ≤ deepest p))
          → ((q : WalkPoint) → Good q → left_at q ≤ t → left_at q ≤ u → sought t s base q ≡ sought u s base q)
          → sought (suc t) s base p ≡ sought (suc u) s base p
      go (inr e) again = sought_end (suc t) p e.1 ∙ sym (sought_end (suc u) p e.1)
      go (inl w) again =
          let i = falls-onward p h w in
          sought_turn t p w refl
          ∙ same_turn p (bin_here s base p) (λ q. sought t s base q) (λ q. sought u s base q)
          (again (went_on s base p) (good_onward p h w) (omega (arith, i)) (omega (arith, i)))
          (λ l. again (below s base p) (good_below p h w l) (omega (arith, falls_below p h w l)) (omega (arith, falls_below p h w l)))
          ∙ sym (sought_turn u p w refl)

  -- The loop with all its turns: what it comes to from a point, by the bin there.
  abbrev pub seeks : WalkPoint → Sought
  seeks p = sought (turns_in s base) s base p

  some_turns : (p : WalkPoint) → Good p → Here p → (t : ℕ) × (turns_in s base ≡ suc t)
  some_turns p h w =
      (turns_in s base - 1, omega (arith, left_some s.lengths base p h w, left_all s.lengths base p h))

  module _ (p : WalkPoint) (h : Good p) (w : Here p) where
    at_turn : {b : Bin} → bin_here s base p ≡ b → seeks p ≡ entered s base p b seeks
    at_turn {b} e =
        let m = some_turns p h w in
        let all = left_all s.lengths base p h in
        let i = falls-onward p h w in
        ap (λ (t : ℕ). sought t s base p) m.1 ∙ sought_turn m.0 p w e
        ∙ same_turn p b (λ q. sought m.0 s base q) seeks
        (enough m.0 (turns_in s base) (went_on s base p) (good_onward p h w) (omega (arith, i, all, m.1)) (omega (arith, i, all)))
        (λ l. enough m.0 (turns_in s base) (below s base p) (good_below p h w l) (omega (arith, falls_below p h w l, all, m.1))
        (omega (arith, falls_below p h w l, all)))

    pub at-empty : bin_here s base p ≡ empty → seeks p ≡ seeks (went_on s base p)
    at-empty e = at_turn e

    pub at_bad : bin_here s base p ≡ bad → seeks p ≡ lost
    at_bad e = at_turn e

    pub at_list : {x : ℕ} → bin_here s base p ≡ list x → seeks p ≡ taken s base p x
    at_list e = at_turn e

    pub at_moved : bin_here s base p ≡ moved → base + suc p.depth < tables_of s → seeks p ≡ seeks (below s base p)
    at_moved e l = at_turn e ∙ simp (lt-ltb (base + p.depth + 1) (tables_of s) (omega arith))

    pub at_last : bin_here s base p ≡ moved → tables_of s ≤ base + suc p.depth → seeks p ≡ lost
    at_last e l = at_turn e ∙ simp (le-ltb (base + p.depth + 1) (tables_of s) (omega arith))

    pub at_stray : {k : ℕ} → bin_here s base p ≡ tree k → slots_of s.names ≤ first_at s k → seeks p ≡ lost
    at_stray {k} e l = at_turn e ∙ simp (le-ltb (first_at s k) (slots_of s.names) l)

    pub at_tree : {k : ℕ} → bin_here s base p ≡ tree k → first_at s k < slots_of s.names → seeks p ≡ taken s base p (first_at s k)
    at_tree {k} e l = at_turn e ∙ simp (lt-ltb (first_at s k) (slots_of s.names) l)

  pub at_end : (p : WalkPoint) → length_at s (base + p.depth) ≤ deepest p → seeks p ≡ ended
  at_end p h = sought_end (turns_in s base) p h

-- The loop over the bins reads no cell.
abbrev pub bare : Set → Set
bare s = record { lengths = s.lengths; bins = s.bins; heads = s.heads; names = s.names; cells = [] }

bare_turn : (s : Set) (base : ℕ) (p : WalkPoint) (b : Bin) (f : WalkPoint → Sought) → entered (bare s) base p b f ≡ entered s base p b f
bare_turn s base p empty f = refl
bare_turn s base p moved f = refl
bare_turn s base p bad f = refl
bare_turn s base p (list x) f = refl
bare_turn s base p (tree h) f = refl

pub no_cells : (s : Set) (base t : ℕ) (p : WalkPoint) → sought t (bare s) base p ≡ sought t s base p
unfolding sought
no_cells s base zero p = refl
no_cells s base (suc t) p =
    ap (λ (o : Sought). pick (leb (length_at s (base + p.depth)) (deepest p)) ended o)
    (bare_turn s base p (bin_here s base p) (λ q. sought t (bare s) base q)
    ∙ same_turn s base p (bin_here s base p) (λ q. sought t (bare s) base q) (λ q. sought t s base q) (no_cells s base t (went_on s base p))
    (λ l. no_cells s base t (below s base p)))
