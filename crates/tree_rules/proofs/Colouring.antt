-- T5: the words of a tree say its colours, and null has none, so the walk's tests are those of the tree.
use Rattle.std.proofs.Common.{◌≡◌, ℕ, zero, suc, ◌*◌, ◌≤◌, Bool, true, false, eqb, ◌↔◌, List, length, sym, refl, ◌∙◌, arith, ne_eqb}
use mathlib.Core.Bool.{false≢true}
use Rattle.slots.specs.Words.{null, pick, state, cell, Colour, black, red, code}
use Rattle.slots.proofs.Laws.{cell-null}
use Rattle.tree_rules.specs.Tree.{Tree, leaf, node, top, colour, slots, Hangs, Rooted, Calm, nothing, darkly, redly, Coloured}
use Rattle.tree_rules.specs.Rules.{all_calm, coloured}
use Rattle.tree_rules.proofs.Reaching.{length_node, all, rooted_most}

abbrev is_red : Colour → Bool
is_red black = false
is_red red = true

not_red : (c : Colour) → is_red c ≡ false → c ≡ black
not_red black e = refl
not_red red e = absurd (false≢true (sym e))

-- T5's tests on the tree itself.
calms : Tree → Bool
calms leaf = true
calms (node c l i r) =
    pick (pick (is_red c) (pick (is_red (colour l)) false (pick (is_red (colour r)) false true)) true)
    (pick (calms l) (calms r) false) false

neither : (a b : Bool) → pick a false (pick b false true) ≡ true → (a ≡ false) × (b ≡ false)
neither true b e = absurd (false≢true e)
neither false true e = absurd (false≢true e)
neither false false e = (refl, refl)

calms_calm : (t : Tree) → calms t ≡ true → Calm t
unfolding calms
calms_calm leaf e = nothing
calms_calm (node black l i r) e = let h = all (calms l) (calms r) e in darkly (calms_calm l h.0) (calms_calm r h.1)
calms_calm (node red l i r) e =
    let g = all (pick (is_red (colour l)) false (pick (is_red (colour r)) false true)) _ e in
    let f = neither (is_red (colour l)) (is_red (colour r)) g.0 in
    let h = all (calms l) (calms r) g.1 in
    redly (not_red (colour l) f.0) (not_red (colour r) f.1) (calms_calm l h.0) (calms_calm r h.1)

calm_calms : {t : Tree} → Calm t → calms t ≡ true
unfolding calms
calm_calms nothing = refl
calm_calms (darkly a b) = rw (calm_calms a, calm_calms b)
calm_calms (redly x y a b) = rw (x, y, calm_calms a, calm_calms b)

module _ (n : ℕ) (cells : List ℕ) (small : n ≤ null) (ends : length cells ≤ 7 * null) where
  -- A link leads to a red slot where its tree is red.
  state-colour : {q : ℕ} {t : Tree} → Hangs n cells q t → eqb (cell cells (top t) state) 2 ≡ is_red (colour t)
  state-colour Hangs.none = rw (cell-null cells state ends)
  state-colour (Hangs.some {c = c} w a b) = rw w.hued (go c)
    where
      go : (c : Colour) → eqb (code c) 2 ≡ is_red c
      go black = refl
      go red = refl

  walk_calms : (depth : ℕ) {q : ℕ} {t : Tree} → Hangs n cells q t → length (slots t) ≤ depth → all_calm depth cells (top t) ≡ calms t
  unfolding all_calm slots calms
  walk_calms zero Hangs.none h = refl
  walk_calms (suc depth) Hangs.none h = refl
  walk_calms zero (Hangs.some {c = c} {l} {i} {r} w a b) h = absurd (omega (arith, length_node c l i r))
  walk_calms (suc depth) (Hangs.some {c = c} {l} {i} {r} w a b) h =
      rw (
        ne_eqb i null (omega arith),
        w.lefts,
        w.rights,
        state-colour (Hangs.some w a b),
        state-colour a,
        state-colour b,
        walk_calms depth a (omega (arith, length_node c l i r)),
        walk_calms depth b (omega (arith, length_node c l i r)),
      )

  module _ (root : ℕ) {t : Tree} (tree : Rooted n cells root t) where
    coloured_tree : coloured n cells root ≡ pick (is_red (colour t)) false (calms t)
    unfolding coloured
    coloured_tree = rw (tree.from, state-colour tree.hangs, walk_calms n tree.hangs (rooted_most n cells small root tree))

    pub coloured-coloured : (coloured n cells root ≡ true) ↔ Coloured t
    coloured-coloured = (λ e. to (is_red (colour t)) refl (sym coloured_tree ∙ e), λ h. coloured_tree ∙ rw (h.root, calm_calms h.calm))
      where
        to : (a : Bool) → is_red (colour t) ≡ a → pick a false (calms t) ≡ true → Coloured t
        to true p e = absurd (false≢true e)
        to false p e = record { root = not_red (colour t) p; calm = calms_calm t e }
