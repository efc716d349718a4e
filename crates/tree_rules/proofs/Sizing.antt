-- Four rules asked at once are the four; and the size of a tree is given where the words hold one that obeys T3 to T6 and whose slots have
-- their sizes: the walk of T3 finds it, and the others are asked of that one.
use Rattle.std.proofs.Common.{◌≡◌, ℕ, ◌+◌, ◌-◌, ◌*◌, ◌≤◌, Bool, true, false, ◌↔◌, List, [], length, refl, ap, ◌∙◌, arith}
use Rattle.slots.specs.Words.{null, pick}
use Rattle.slots.specs.Answers.{Value, none, some}
use Rattle.tree_rules.specs.Find.{slots_of}
use Rattle.tree_rules.specs.Tree.{slots, Shaped}
use Rattle.slots.proofs.Laws.{some_is}
use Rattle.tree_rules.specs.Sizes.{SizedSlots}
use Rattle.tree_rules.specs.Rules.{then, reached, rises, coloured, level, all_sized, obeyed, obeyed_sized, tree_size}
use Rattle.tree_rules.proofs.Reaching.{refuted, reached_tree, tree_reached, rooted_most}
use Rattle.tree_rules.proofs.Rising.{rises_rising}
use Rattle.tree_rules.proofs.Colouring.{coloured-coloured}
use Rattle.tree_rules.proofs.Levelling.{level-level}
use Rattle.tree_rules.proofs.Weighing.{all_sized_lem, level_sized}

-- The four rules are obeyed where each is.
pub record Obeyed (names cells : List ℕ) (root v rest : ℕ) : Type 0 where
  pub reaches : reached v (slots_of names) cells null root v ≡ some rest
  pub rise : rises names cells root ≡ true
  pub hues : coloured (slots_of names) cells root ≡ true
  pub even : level (slots_of names) cells root ≡ true

module _ (names cells : List ℕ) (root v rest : ℕ) where
  pub obeyed_each : obeyed names cells root v ≡ some rest → Obeyed names cells root v rest
  unfolding obeyed
  obeyed_each e =
      go (reached v (slots_of names) cells null root v) refl (rises names cells root) refl (coloured (slots_of names) cells root) refl
      (level (slots_of names) cells root) refl e
    where
      go : (o : Value) → reached v (slots_of names) cells null root v ≡ o
          → (a : Bool) → rises names cells root ≡ a → (b : Bool) → coloured (slots_of names) cells root ≡ b → (c : Bool)
          → level (slots_of names) cells root ≡ c
          → then o (λ rest. pick a (pick b (pick c (some rest) none) none) none) ≡ some rest
          → Obeyed names cells root v rest
      go none p a x b y c z e = refuted e
      go (some m) p false x b y c z e = refuted e
      go (some m) p true x false y c z e = refuted e
      go (some m) p true x true y false z e = refuted e
      go (some m) p true x true y true z e = record { reaches = p ∙ e; rise = x; hues = y; even = z }

  pub each_obeyed : Obeyed names cells root v rest → obeyed names cells root v ≡ some rest
  unfolding obeyed
  each_obeyed h = rw (h.reaches, h.rise, h.hues, h.even)

module _ (names cells : List ℕ) (small : slots_of names ≤ null) (ends : length cells ≤ 7 * null) (root v rest : ℕ) where
  obeyed_shaped : obeyed names cells root v ≡ some rest → (m : ℕ) × Shaped names cells root m × (m + rest ≡ v)
  obeyed_shaped e =
      let o = obeyed_each names cells root v rest e in
      let h = reached_tree (slots_of names) cells small root v rest o.reaches in (
        length (slots h.0),
        record {
          tree = h.0;
          rooted = h.1;
          rising = (rises_rising names cells small root h.1).0 o.rise;
          coloured = (coloured-coloured (slots_of names) cells small ends root h.1).0 o.hues;
          level = (level-level (slots_of names) cells small root h.1).0 o.even;
          size = refl;
        },
        h.2,
      )

  shaped_obeyed : (m : ℕ) × Shaped names cells root m × (m + rest ≡ v) → obeyed names cells root v ≡ some rest
  shaped_obeyed k =
      let h = k.1 in
      let z : v - length (slots h.tree) ≡ rest = omega (arith, h.size, k.2) in
      each_obeyed names cells root v rest (record {
        reaches = tree_reached (slots_of names) cells small root v h.rooted (omega (arith, h.size, k.2)) ∙ ap some z;
        rise = (rises_rising names cells small root h.rooted).1 h.rising;
        hues = (coloured-coloured (slots_of names) cells small ends root h.rooted).1 h.coloured;
        even = (level-level (slots_of names) cells small root h.rooted).1 h.level;
      })

  pub obeyed_spent : (obeyed names cells root v ≡ some rest) ↔ ((m : ℕ) × Shaped names cells root m × (m + rest ≡ v))
  obeyed_spent = (obeyed_shaped, shaped_obeyed)

-- Where no size is stored, T8 asks nothing.
pub obeyed-unsized : (names cells : List ℕ) (root v : ℕ) → obeyed_sized names cells [] root v ≡ obeyed names cells root v
unfolding obeyed_sized
obeyed-unsized names cells root v = go (obeyed names cells root v) refl
  where
    none_either : (b : Bool) → pick b none none ≡ none
    none_either true = refl
    none_either false = refl

    go : (o : Value) → obeyed names cells root v ≡ o → pick (all_sized (slots_of names) cells [] root) o none ≡ o
    go none p = none_either (all_sized (slots_of names) cells [] root)
    go (some rest) p = rw (level_sized cells (slots_of names) root (obeyed_each names cells root v rest p).even)

-- T8 with the others.
module _ (names cells sizes : List ℕ) (root v rest : ℕ) where
  pub sized_both : obeyed_sized names cells sizes root v ≡ some rest
      → (all_sized (slots_of names) cells sizes root ≡ true) × (obeyed names cells root v ≡ some rest)
  unfolding obeyed_sized
  sized_both e = go (all_sized (slots_of names) cells sizes root) e
    where
      go : (b : Bool) → pick b (obeyed names cells root v) none ≡ some rest → (b ≡ true) × (obeyed names cells root v ≡ some rest)
      go true e = (refl, e)
      go false e = refuted e

  pub both_sized : all_sized (slots_of names) cells sizes root ≡ true → obeyed names cells root v ≡ some rest
      → obeyed_sized names cells sizes root v ≡ some rest
  unfolding obeyed_sized
  both_sized w o = rw (w, o)

module _ (names cells sizes : List ℕ) (small : slots_of names ≤ null) (ends : length cells ≤ 7 * null)
    (long : length sizes ≡ slots_of names)
    (root m : ℕ) where
  size_shaped : tree_size names cells sizes root ≡ some m → (s : Shaped names cells root m) × SizedSlots sizes s.tree
  unfolding tree_size
  size_shaped e = go (obeyed_sized names cells sizes root (slots_of names)) refl e
    where
      go : (o : Value) → obeyed_sized names cells sizes root (slots_of names) ≡ o → then o (λ rest. some (slots_of names - rest)) ≡ some m
          → (s : Shaped names cells root m) × SizedSlots sizes s.tree
      go none p e = refuted e
      go (some rest) p e =
          let b = sized_both names cells sizes root (slots_of names) rest p in
          let k = obeyed_shaped names cells small ends root (slots_of names) rest b.1 in
          let f : slots_of names - rest ≡ m = some_is e in
          let z : k.0 ≡ m = omega (arith, k.2, f) in
          let s : Shaped names cells root m = rw (← z) k.1 in
          (s, (all_sized_lem (slots_of names) cells sizes small long root s.rooted).0 b.0)

  shaped_size : (s : Shaped names cells root m) × SizedSlots sizes s.tree → tree_size names cells sizes root ≡ some m
  unfolding tree_size
  shaped_size p =
      let h = p.0 in
      let most = rooted_most (slots_of names) cells small root h.rooted in
      let w = (all_sized_lem (slots_of names) cells sizes small long root h.rooted).1 p.1 in
      let o = shaped_obeyed names cells small ends root (slots_of names) (slots_of names - m) (m, h, omega (arith, most, h.size)) in
      rw (both_sized names cells sizes root (slots_of names) (slots_of names - m) w o) (ap some (omega (arith, most, h.size)))

  pub tree_size_lem : (tree_size names cells sizes root ≡ some m) ↔ ((s : Shaped names cells root m) × SizedSlots sizes s.tree)
  tree_size_lem = (size_shaped, shaped_size)
