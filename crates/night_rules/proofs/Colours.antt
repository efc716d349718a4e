-- T5: a red root and a red slot with a red child are seen at the slot itself.
use mathlib.Core.Path.{◌≡◌, refl, ap, sym, ◌∙◌}
use mathlib.Core.Logic.{◌⊎◌, inl, inr}
use Prim.Native.Nat.{ℕ, ◌<◌}
use native.Mathlib.Omega.{arith}
use Rattle.slots.specs.Words.{state, left, right, cell, Colour, black, red, code, Side, leftward, rightward}
use Rattle.slots.proofs.Laws.{cell-null}
use Rattle.tree_rules.specs.Find.{slots_of}
use Rattle.tree_rules.specs.Tree.{Tree, node, top, colour, Hangs, Calm, nothing, darkly, redly, Coloured}
use Rattle.index_rules.specs.Live.{Live, Fit, root_of}
use Rattle.index_rules.specs.Sound.{T3}
use Rattle.index_rules.proofs.Rules.{ends}
use Rattle.night_rules.specs.Shows.{Used, Shows5, red_root, red_child}
use Rattle.night_rules.specs.Why.{shows5}
use Rattle.night_rules.proofs.Parts.{PartOf, whole, of_left, of_right, PartBelow, part_of, limb, limb_hangs, hue_of}
use Rattle.night_rules.proofs.Testing.{Decides, eq_tests, and_tests, or_tests}

part_calm : {t s : Tree} → Calm t → PartOf t s → Calm s
part_calm c whole = c
part_calm (darkly a b) (of_left p) = part_calm a p
part_calm (darkly a b) (of_right p) = part_calm b p
part_calm (redly x y a b) (of_left p) = part_calm a p
part_calm (redly x y a b) (of_right p) = part_calm b p

red_not_black : {A : Type 0} {c : Colour} → code c ≡ code red → c ≡ black → A
red_not_black {c = black} e f = absurd (omega arith)
red_not_black {c = red} e f = absurd (omega (arith, ap code f))

calm_red : {c : Colour} {l : Tree} {i : ℕ} {r : Tree} → code c ≡ code red → Calm (node c l i r) → (colour l ≡ black) × (colour r ≡ black)
calm_red e (darkly a b) = absurd (omega arith)
calm_red e (redly x y a b) = (x, y)

module _ {t : Live} (fit : Fit t) where
  -- A link leads to a red slot exactly where its tree is red.
  red_top : {q : ℕ} {s : Tree} → Hangs (slots_of t.names) t.cells q s → cell t.cells (top s) state ≡ code red → colour s ≡ black → ⊥
  red_top Hangs.none e f = omega (arith, cell-null t.cells state (ends fit))
  red_top (Hangs.some w a b) e f = red_not_black (sym w.hued ∙ e) f

  black_top : {q : ℕ} {s : Tree} → Hangs (slots_of t.names) t.cells q s → (cell t.cells (top s) state ≡ code red → ⊥)
      → colour s ≡ black
  black_top Hangs.none d = refl
  black_top (Hangs.some {c = c} {i = i} w a b) d = go c w.hued
    where
      go : (c : Colour) → cell t.cells i state ≡ code c → c ≡ black
      go black e = refl
      go red e = absurd (d e)

  module _ {tree : Tree} (three : T3 t tree) where
    -- Where no slot shows T5 broken, it holds.
    pub five_complete : ((i : ℕ) → Shows5 t i → ⊥) → Coloured tree
    five_complete none = record { root = root; calm = calms three.rooted.hangs }
      where
        calms : {q : ℕ} {s : Tree} → Hangs (slots_of t.names) t.cells q s → Calm s
        calms Hangs.none = nothing
        calms (Hangs.some {c = black} w a b) = darkly (calms a) (calms b)
        calms (Hangs.some {c = red} {i = i} w a b) =
            redly (black_top a (λ e. none i (red_child w.inside leftward w.hued (rw w.lefts e))))
            (black_top b (λ e. none i (red_child w.inside rightward w.hued (rw w.rights e)))) (calms a) (calms b)

        top_in : {q : ℕ} {s : Tree} → Hangs (slots_of t.names) t.cells q s → cell t.cells (top s) state ≡ code red
            → top s < slots_of t.names
        top_in Hangs.none e = absurd (omega (arith, cell-null t.cells state (ends fit)))
        top_in (Hangs.some w a b) e = w.inside

        root : colour tree ≡ black
        root =
            black_top three.rooted.hangs
            (λ e. none (top tree) (red_root (top_in three.rooted.hangs e) (sym three.rooted.from) e))

    pub five_none : Coloured tree → (i : ℕ) → Shows5 t i → ⊥
    five_none h i (red_root l e f) = red_top three.rooted.hangs (rw (e ∙ three.rooted.from) at f) h.root
    five_none h i (red_child l σ e f) = red_top (limb_hangs b σ).1 (rw (limb_hangs b σ).0 at f) (calm σ)
      where
        u : Used t i
        u = record { inside = l; busy = omega arith }

        b : PartBelow (slots_of t.names) t.cells tree i
        b = part_of three u

        c : (colour b.lefts ≡ black) × (colour b.rights ≡ black)
        c = calm_red (sym (hue_of b) ∙ e) (part_calm h.calm b.part)

        calm : (σ : Side) → colour (limb b σ) ≡ black
        calm leftward = c.0
        calm rightward = c.1

abbrev Reddened : Live → ℕ → Type 0
Reddened t i =
    (i ≡ root_of t)
    ⊎ ((cell t.cells (cell t.cells i left) state ≡ code red) ⊎ (cell t.cells (cell t.cells i right) state ≡ code red))

pub five_tests : (t : Live) (i : ℕ) → i < slots_of t.names → Decides (shows5 t i) (Shows5 t i)
unfolding shows5
five_tests t i l = (λ e. (let p = h.0 e in to p.0 p.1), λ s. h.1 (from s))
  where
    h : Decides (shows5 t i) ((cell t.cells i state ≡ code red) × Reddened t i)
    h = and_tests (eq_tests _ _) (or_tests (eq_tests _ _) (or_tests (eq_tests _ _) (eq_tests _ _)))

    to : cell t.cells i state ≡ code red → Reddened t i → Shows5 t i
    to r (inl e) = red_root l e r
    to r (inr (inl e)) = red_child l leftward r e
    to r (inr (inr e)) = red_child l rightward r e

    from : Shows5 t i → (cell t.cells i state ≡ code red) × Reddened t i
    from (red_root b e r) = (r, inl e)
    from (red_child b leftward r e) = (r, inr (inl e))
    from (red_child b rightward r e) = (r, inr (inr e))
