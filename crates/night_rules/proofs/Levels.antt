-- T6: where two ways differ, a slot deepest down has two sides that are level and differ; and where none has, the tree is level.
use mathlib.Core.Path.{◌≡◌, refl, ap, sym, ◌∙◌}
use mathlib.Core.Logic.{◌≢◌}
use mathlib.Core.List.{List}
use Prim.Native.Nat.{ℕ, ◌+◌, ◌≤◌}
use native.Mathlib.Decide.{ℕ_discrete}
use native.Mathlib.Omega.{arith}
use borrow.Author.Tests.{eq-eqb}
use Rattle.slots.specs.Words.{null, state, left, right, cell, Colour, black, red, code, leftward, rightward, Side, toward}
use Rattle.slots.specs.Answers.{Value, none, some}
use Rattle.slots.proofs.Laws.{some_is}
use Rattle.tree_rules.specs.Find.{slots_of}
use Rattle.tree_rules.specs.Tree.{Tree, leaf, node, top, Hangs, blacks, Meets, Level}
use Rattle.tree_rules.proofs.Reaching.{refuted, solid}
use Rattle.tree_rules.proofs.Levelling.{joined, joined-parts, levels, levels_meets, level_levels, way}
use Rattle.index_rules.specs.Live.{Live, Fit}
use Rattle.index_rules.specs.Sound.{used, T3}
use Rattle.index_rules.proofs.Rules.{small}
use Rattle.night_rules.specs.Shows.{Used, black_at, Down, Shows6}
use Rattle.night_rules.proofs.Parts.{PartOf, whole, of_left, of_right, PartBelow, part_times, part_hangs, node_has, member_used}
use Rattle.night_rules.proofs.Parts.{part_of, limb, limb_hangs}

black_hue : (cells : List ℕ) (i : ℕ) (c : Colour) → cell cells i state ≡ code c → black_at cells i ≡ blacks c
black_hue cells i black e = rw e
black_hue cells i red e = rw e

module _ (n : ℕ) (cells : List ℕ) (small : n ≤ null) where
  -- The ways by the words are those of the tree.
  pub down_meets : {q i k : ℕ} {t : Tree} → Hangs n cells q t → i ≡ top t → Down cells i k → Meets t k
  down_meets Hangs.none e (Down.end z) = Meets.end
  down_meets Hangs.none e (Down.by σ d w) = absurd (d e)
  down_meets (Hangs.some w a b) e (Down.end z) = absurd (solid small w.inside (sym e ∙ z))
  down_meets (Hangs.some {c = c} {l} {i = j} {r} w a b) e (Down.by {i} {k} leftward d v) =
      rw (ap (black_at cells) e ∙ black_hue cells j c w.hued)
      (Meets.leftward (down_meets a (ap (λ (x : ℕ). cell cells x left) e ∙ w.lefts) v))
  down_meets (Hangs.some {c = c} {l} {i = j} {r} w a b) e (Down.by {i} {k} rightward d v) =
      rw (ap (black_at cells) e ∙ black_hue cells j c w.hued)
      (Meets.rightward (down_meets b (ap (λ (x : ℕ). cell cells x right) e ∙ w.rights) v))

  meets_down : {q k : ℕ} {t : Tree} → Hangs n cells q t → Meets t k → Down cells (top t) k
  meets_down Hangs.none Meets.end = Down.end refl
  meets_down (Hangs.some {c = c} {l} {i} {r} w a b) (Meets.leftward {k = k} m) =
      let h : Down cells i (black_at cells i + k) = Down.by {k = k} leftward (solid small w.inside) (rw w.lefts (meets_down a m)) in
      rw (black_hue cells i c w.hued) at h
  meets_down (Hangs.some {c = c} {l} {i} {r} w a b) (Meets.rightward {k = k} m) =
      let h : Down cells i (black_at cells i + k) = Down.by {k = k} rightward (solid small w.inside) (rw w.rights (meets_down b m)) in
      rw (black_hue cells i c w.hued) at h

-- Two sides that are level, with two numbers.
pub record Tilted (l r : Tree) : Type 0 where
  pub one : ℕ
  pub two : ℕ
  pub first : levels l ≡ some one
  pub second : levels r ≡ some two
  pub differ : one ≢ two

record Tilt (t : Tree) : Type 0 where
  hue : Colour
  lefts : Tree
  slot : ℕ
  rights : Tree
  part : PartOf t (node hue lefts slot rights)
  tilted : Tilted lefts rights

tilt : (t : Tree) → levels t ≡ none → Tilt t
unfolding levels
tilt leaf e = refuted (sym e)
tilt (node c l i r) e = go (levels l) refl (levels r) refl e (tilt l) (tilt r)
  where
    go : (x : Value) → levels l ≡ x → (y : Value) → levels r ≡ y → joined (blacks c) x y ≡ none → (levels l ≡ none → Tilt l)
        → (levels r ≡ none → Tilt r) → Tilt (node c l i r)
    go none p y q e f g =
        let h = f p in
        record { hue = h.hue; lefts = h.lefts; slot = h.slot; rights = h.rights; part = of_left h.part; tilted = h.tilted }
    go (some a) p none q e f g =
        let h = g q in
        record { hue = h.hue; lefts = h.lefts; slot = h.slot; rights = h.rights; part = of_right h.part; tilted = h.tilted }
    go (some a) p (some b) q e f g = two (ℕ_discrete a b)
      where
        two : Dec (a ≡ b) → Tilt (node c l i r)
        two (yes z) = let y : joined (blacks c) (some a) (some b) ≡ some (blacks c + a) = rw (eq-eqb a b z) in refuted (sym e ∙ y)
        two (no d) =
            record {
              hue = c;
              lefts = l;
              slot = i;
              rights = r;
              part = whole;
              tilted = record { one = a; two = b; first = p; second = q; differ = d };
            }

-- Every part of a level tree is level.
part_level : {t s : Tree} (m : ℕ) → levels t ≡ some m → PartOf t s → (k : ℕ) × (levels s ≡ some k)
unfolding levels
part_level m e whole = (m, e)
part_level m e (of_left {c} {l} {i} {r} p) = let h = joined-parts (blacks c) (levels l) (levels r) m e in part_level h.0 h.1 p
part_level m e (of_right {c} {l} {i} {r} p) = let h = joined-parts (blacks c) (levels l) (levels r) m e in part_level h.0 h.2 p

not-tilted : (c : Colour) (l : Tree) (i : ℕ) (r : Tree) (k : ℕ) → levels (node c l i r) ≡ some k → Tilted l r → ⊥
unfolding levels
not-tilted c l i r k e h =
    let p = joined-parts (blacks c) (levels l) (levels r) k e in
    let a : h.one ≡ p.0 = some_is (sym h.first ∙ p.1) in
    let b : h.two ≡ p.0 = some_is (sym h.second ∙ p.2) in h.differ (a ∙ sym b)

levels_level : {t : Tree} (m : ℕ) → levels t ≡ some m → Level t
levels_level m e j k x y = levels_meets m e x ∙ sym (levels_meets m e y)

module _ {t : Live} (fit : Fit t) {tree : Tree} (three : T3 t tree) where
  abbrev n : ℕ
  n = slots_of t.names

  -- What the two links of a slot show.
  module _ {i : ℕ} (b : PartBelow n t.cells tree i) where
    downs : (σ : Side) {k : ℕ} → Meets (limb b σ) k → Down t.cells (cell t.cells i (toward σ)) k
    downs σ m = rw (limb_hangs b σ).0 (meets_down n t.cells (small fit) (limb_hangs b σ).1 m)

    meets : (σ : Side) {k : ℕ} → Down t.cells (cell t.cells i (toward σ)) k → Meets (limb b σ) k
    meets σ d = down_meets n t.cells (small fit) (limb_hangs b σ).1 (limb_hangs b σ).0 d

    pub shown_tilted : Shows6 t i → Tilted b.lefts b.rights
    shown_tilted h =
        let x = level_levels b.lefts (λ j k u v. h.lefts j k (downs leftward u) (downs leftward v)) in
        let y = level_levels b.rights (λ j k u v. h.rights j k (downs rightward u) (downs rightward v)) in
        let u = way b.lefts in
        let v = way b.rights in
        record {
          one = x.0;
          two = y.0;
          first = x.1;
          second = y.1;
          differ = λ e. h.differ u.0 v.0 (downs leftward u.1) (downs rightward v.1)
              (levels_meets x.0 x.1 u.1 ∙ e ∙ sym (levels_meets y.0 y.1 v.1));
        }

    pub tilted_shown : Used t i → Tilted b.lefts b.rights → Shows6 t i
    tilted_shown u h =
        record {
          used = u;
          lefts = λ j k x y. levels_level h.one h.first j k (meets leftward x) (meets leftward y);
          rights = λ j k x y. levels_level h.two h.second j k (meets rightward x) (meets rightward y);
          differ = λ j k x y e. h.differ
              (sym (levels_meets h.one h.first (meets leftward x)) ∙ e ∙ levels_meets h.two h.second (meets rightward y));
        }

  -- Where no slot shows T6 broken, it holds.
  pub six_complete : ((i : ℕ) → Shows6 t i → ⊥) → Level tree
  six_complete shows = go (levels tree) refl
    where
      go : (x : Value) → levels tree ≡ x → Level tree
      go (some m) e = levels_level m e
      go none e =
          let h = tilt tree e in
          let p = part_hangs three.rooted.hangs h.part in
          let b : PartBelow n t.cells tree h.slot =
          record { over = p.0; hue = h.hue; lefts = h.lefts; rights = h.rights; hangs = p.1; part = h.part } in
          let u = member_used three h.slot
          (omega (arith, part_times h.slot h.part, node_has h.hue h.lefts h.slot h.rights)) in
          absurd (shows h.slot (tilted_shown b u h.tilted))

  pub six_none : Level tree → (i : ℕ) → Shows6 t i → ⊥
  six_none level i h =
      let b = part_of three h.used in
      let m = level_levels tree level in
      let k = part_level m.0 m.1 b.part in not-tilted b.hue b.lefts i b.rights k.0 k.1 (shown_tilted b h)
