-- T6: the walk's number is what every way down meets. There is a way in every tree, so two numbers that differ belong to two ways that do.
use Rattle.std.proofs.Common.{◌≡◌, ℕ, zero, suc, ◌+◌, ◌≤◌, Bool, true, false, eqb, ◌↔◌, List, length, sym, refl, ap, ◌∙◌, arith, eq-eqb}
use Rattle.std.proofs.Common.{ne_eqb, eqb-true}
use mathlib.Core.Bool.{false≢true}
use Rattle.slots.specs.Words.{null, pick, Colour, black, red, code}
use Rattle.slots.specs.Answers.{Value, none, some}
use Rattle.tree_rules.specs.Tree.{Tree, leaf, node, top, slots, Hangs, Rooted, blacks, Meets, end, leftward, rightward, Level}
use Rattle.tree_rules.specs.Rules.{then, levelled, level, is_some}
use Rattle.tree_rules.proofs.Reaching.{length_node, refuted, rooted_most}

-- The number of a slot that counts so much, from those of its two children.
abbrev pub joined : ℕ → Value → Value → Value
joined own x y = then x (λ a. then y (λ b. pick (eqb a b) (some (own + a)) none))

pub joined-parts : (own : ℕ) (x y : Value) (m : ℕ) → joined own x y ≡ some m → (a : ℕ) × (x ≡ some a) × (y ≡ some a) × (own + a ≡ m)
joined-parts own none y m e = refuted e
joined-parts own (some a) none m e = refuted e
joined-parts own (some a) (some b) m e = go (eqb a b) refl e
  where
    go : (t : Bool) → eqb a b ≡ t → pick t (some (own + a)) none ≡ some m → (k : ℕ) × (some a ≡ some k) × (some b ≡ some k) × (own + k ≡ m)
    go true p e = (a, refl, ap some (sym (eqb-true a b p)), cc)
    go false p e = refuted e

-- T6's number on the tree itself.
unfoldable pub levels : Tree → Value
levels leaf = some 0
levels (node c l i r) = joined (blacks c) (levels l) (levels r)

-- Every way meets it.
pub levels_meets : {t : Tree} {k : ℕ} (m : ℕ) → levels t ≡ some m → Meets t k → k ≡ m
unfolding levels
levels_meets m e end = cc
levels_meets m e (leftward {c = c} {l} {i} {r} w) =
    let h = joined-parts (blacks c) (levels l) (levels r) m e in omega (arith, levels_meets h.0 h.1 w, h.3)
levels_meets m e (rightward {c = c} {l} {i} {r} w) =
    let h = joined-parts (blacks c) (levels l) (levels r) m e in omega (arith, levels_meets h.0 h.2 w, h.3)

pub way : (t : Tree) → (k : ℕ) × Meets t k
way leaf = (0, end)
way (node c l i r) = let h = way l in (blacks c + h.0, leftward h.1)

pub level_levels : (t : Tree) → Level t → (m : ℕ) × (levels t ≡ some m)
unfolding levels
level_levels leaf h = (0, refl)
level_levels (node c l i r) h =
    go (level_levels l (λ j k x y. omega (arith, h (blacks c + j) (blacks c + k) (leftward x) (leftward y))))
    (level_levels r (λ j k x y. omega (arith, h (blacks c + j) (blacks c + k) (rightward x) (rightward y))))
  where
    go : (a : ℕ) × (levels l ≡ some a) → (b : ℕ) × (levels r ≡ some b) → (m : ℕ) × (joined (blacks c) (levels l) (levels r) ≡ some m)
    go x y =
        let v = way l in
        let w = way r in
        let e : x.0 ≡ y.0 =
        omega (
          arith,
          levels_meets x.0 x.1 v.1,
          levels_meets y.0 y.1 w.1,
          h (blacks c + v.0) (blacks c + w.0) (leftward v.1) (rightward w.1),
        ) in
        (blacks c + x.0, rw (x.1, y.1, eq-eqb x.0 y.0 e))

module _ (n : ℕ) (cells : List ℕ) (small : n ≤ null) where
  pub walk_levels : (depth : ℕ) {q : ℕ} {t : Tree} → Hangs n cells q t → length (slots t) ≤ depth → levelled depth cells (top t) ≡ levels t
  unfolding levelled slots levels
  walk_levels zero Hangs.none h = refl
  walk_levels (suc depth) Hangs.none h = refl
  walk_levels zero (Hangs.some {c = c} {l} {i} {r} w a b) h = absurd (omega (arith, length_node c l i r))
  walk_levels (suc depth) (Hangs.some {c = c} {l} {i} {r} w a b) h =
      rw (
        ne_eqb i null (omega arith),
        w.lefts,
        w.rights,
        w.hued,
        walk_levels depth a (omega (arith, length_node c l i r)),
        walk_levels depth b (omega (arith, length_node c l i r)),
      )
      (go c (levels l) (levels r))
    where
      own : (c : Colour) (a : ℕ) → pick (eqb (code c) 2) a (a + 1) ≡ blacks c + a
      own black a = omega arith
      own red a = omega arith

      go : (c : Colour) (x y : Value)
          → then x (λ a. then y (λ b. pick (eqb a b) (some (pick (eqb (code c) 2) a (a + 1))) none)) ≡ joined (blacks c) x y
      go c none y = refl
      go c (some a) none = refl
      go c (some a) (some b) = rw (own c a)

  module _ (root : ℕ) {t : Tree} (tree : Rooted n cells root t) where
    level_tree : level n cells root ≡ is_some (levels t)
    unfolding level
    level_tree = rw (tree.from, walk_levels n tree.hangs (rooted_most n cells small root tree))

    pub level-level : (level n cells root ≡ true) ↔ Level t
    level-level = (λ e. to (levels t) refl (sym level_tree ∙ e), λ h. level_tree ∙ ap is_some (level_levels t h).1)
      where
        to : (x : Value) → levels t ≡ x → is_some x ≡ true → Level t
        to none p e = absurd (false≢true e)
        to (some m) p e = λ j k x y. levels_meets m p x ∙ sym (levels_meets m p y)
