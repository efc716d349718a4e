-- T8: the number below a slot's link is that of its part of the tree.
use mathlib.Core.Path.{◌≡◌, refl, sym, ◌∙◌}
use mathlib.Core.Logic.{◌≢◌}
use mathlib.Core.List.{List, ◌∷◌}
use Prim.Native.Nat.{ℕ, zero, suc, ◌+◌, ◌<◌, ◌≤◌}
use native.Mathlib.Decide.{ℕ_discrete, dec_lt}
use native.Mathlib.Omega.{arith}
use lib.ListN.{length, get_or-eq_default}
use lib.Dec.{eqb}
use borrow.Author.Tests.{eq-eqb, ne_eqb}
use Rattle.slots.specs.Words.{null, state, free, cell, Colour}
use Rattle.slots.proofs.Laws.{pick_eq}
use Rattle.tree_rules.specs.Find.{slots_of}
use Rattle.tree_rules.specs.Tree.{Tree, node, top, slots, times, Hangs}
use Rattle.tree_rules.specs.Rules.{with_parts}
use Rattle.tree_rules.specs.Sizes.{size_word, size_in}
use Rattle.tree_rules.proofs.Reaching.{length_node, solid, rooted_most, hangs_inside}
use Rattle.tree_rules.proofs.Counting.{times_append, hit}
use Rattle.tree_rules.proofs.Weighing.{only_same, only_none, size_in_none}
use Rattle.index_rules.specs.Live.{Live, Fit, root_of}
use Rattle.index_rules.specs.Sound.{T1, T3, T8}
use Rattle.index_rules.proofs.Fit.{half}
use Rattle.index_rules.proofs.Rules.{small}
use Rattle.index_rules.proofs.Weighing.{free_off}
use Rattle.night_rules.specs.Shows.{Used, Shows8, missized, sized_free}
use Rattle.night_rules.specs.Why.{neg, number_below, shows8}
use Rattle.night_rules.proofs.Slots.{sure}
use Rattle.night_rules.proofs.Parts.{PartOf, whole, of_left, of_right, part_of, part_length, part_times, node_has}
use Rattle.night_rules.proofs.Testing.{Decides, eq_tests, neg_tests}

counts : (k : ℕ) (c : Colour) (l : Tree) (i : ℕ) (r : Tree)
    → times k (slots (node c l i r)) ≡ hit k i + times k (slots l) + times k (slots r)
unfolding slots times
counts k c l i r = omega (arith, times_append k (slots l) (i ∷ slots r))

-- The number of a slot is that of its part.
part_size : {t : Tree} {c : Colour} {l : Tree} {i : ℕ} {r : Tree} → PartOf t (node c l i r) → ((k : ℕ) → times k (slots t) ≤ 1)
    → size_in i t ≡ length (slots (node c l i r))
unfolding size_in
part_size {c = c} {l} {i} {r} whole once =
    let m = counts i c l i r in
    let h = node_has c l i r in
    omega (
      arith,
      only_same i (length (slots (node c l i r))),
      size_in_none i l (omega (arith, once i, self i)),
      size_in_none i r (omega (arith, once i, self i)),
    )
  where
    self : (i : ℕ) → hit i i ≡ 1
    self i = pick_eq {m = i} {n = i} 1 0 refl
part_size {c = c} {l} {i} {r} (of_left {c = d} {l = a} {i = j} {r = b} p) once =
    let m = counts i d a j b in
    let y = part_times i p in
    let z = node_has c l i r in
    omega (
      arith,
      only_none i j (length (slots (node d a j b))) (omega (arith, once i)),
      size_in_none i b (omega (arith, once i)),
      part_size p (λ k. omega (arith, once k, counts k d a j b)),
    )
part_size {c = c} {l} {i} {r} (of_right {c = d} {l = a} {i = j} {r = b} p) once =
    let m = counts i d a j b in
    let y = part_times i p in
    let z = node_has c l i r in
    omega (
      arith,
      only_none i j (length (slots (node d a j b))) (omega (arith, once i)),
      size_in_none i a (omega (arith, once i)),
      part_size p (λ k. omega (arith, once k, counts k d a j b)),
    )

walk_number : {n q : ℕ} {cells : List ℕ} {t : Tree} (b : ℕ) → n ≤ null → Hangs n cells q t → length (slots t) ≤ b
    → number_below b cells (top t) ≡ length (slots t)
unfolding number_below slots with_parts
walk_number zero s Hangs.none h = refl
walk_number (suc b) s Hangs.none h = refl
walk_number zero s (Hangs.some {c = c} {l} {i} {r} w x y) h = absurd (omega (arith, length_node c l i r))
walk_number (suc b) s (Hangs.some {c = c} {l} {i} {r} w x y) h =
    rw (
      ne_eqb i null (solid s w.inside),
      w.lefts,
      w.rights,
      walk_number b s x (omega (arith, length_node c l i r)),
      walk_number b s y (omega (arith, length_node c l i r)),
    )
    (omega (arith, length_node c l i r))

module _ {t : Live} (fit : Fit t) (one : T1 t) {tree : Tree} (three : T3 t tree) where
  pub eight_complete : ((i : ℕ) → Shows8 t tree i → ⊥) → T8 t tree
  eight_complete none k = go (dec_lt k (slots_of t.names)) (ℕ_discrete (cell t.cells k state) free)
    where
      go : Dec (k < slots_of t.names) → Dec (cell t.cells k state ≡ free) → size_word t.sizes k ≡ size_in k tree
      go (yes l) (no d) = sure (ℕ_discrete _ _) (λ m. none k (missized (record { inside = l; busy = d }) m))
      go (yes l) (yes e) =
          let z : size_word t.sizes k ≡ 0 = sure (ℕ_discrete _ _) (λ m. none k (sized_free l e m)) in
          z ∙ sym (size_in_none k tree (free_off fit one three k l e))
      go (no d) e =
          let z : size_word t.sizes k ≡ 0 = get_or-eq_default t.sizes 0 (omega (arith, fit.each, half fit)) in
          z ∙ sym (size_in_none k tree (out (ℕ_discrete (times k (slots tree)) 0)))
        where
          out : Dec (times k (slots tree) ≡ 0) → times k (slots tree) ≡ 0
          out (yes e) = e
          out (no m) = absurd (d (hangs_inside (slots_of t.names) t.cells {k = k} three.rooted.hangs (omega arith)))

  pub eight_none : T8 t tree → (i : ℕ) → Shows8 t tree i → ⊥
  eight_none h i (missized u d) = d (h i)
  eight_none h i (sized_free l e d) = d (h i ∙ size_in_none i tree (free_off fit one three i l e))

  pub number_in : {i : ℕ} → Used t i → number_below (slots_of t.names) t.cells i ≡ size_in i tree
  number_in {i} u =
      let b = part_of three u in
      let m = rooted_most (slots_of t.names) t.cells (small fit) (root_of t) three.rooted in
      walk_number (slots_of t.names) (small fit) b.hangs (omega (arith, part_length b.part))
      ∙ sym (part_size b.part three.rooted.once)

  pub number_most : {i : ℕ} → Used t i → size_in i tree ≤ slots_of t.names
  number_most {i} u =
      let b = part_of three u in
      let m = rooted_most (slots_of t.names) t.cells (small fit) (root_of t) three.rooted in
      omega (arith, part_size b.part three.rooted.once, part_length b.part)

  pub eight_tests : (i : ℕ) → i < slots_of t.names → Decides (shows8 t i) (Shows8 t tree i)
  unfolding shows8
  eight_tests i l = go (ℕ_discrete (cell t.cells i state) free)
    where
      differs : (m : ℕ) → Decides (neg (eqb (size_word t.sizes i) m)) (size_word t.sizes i ≢ m)
      differs m = neg_tests (eq_tests _ _)

      go : Dec (cell t.cells i state ≡ free) → Decides (shows8 t i) (Shows8 t tree i)
      go (yes e) = rw (eq-eqb (cell t.cells i state) free e) (λ z. sized_free l e ((differs 0).0 z), λ s. (differs 0).1 (from s))
        where
          from : Shows8 t tree i → size_word t.sizes i ≢ 0
          from (missized u d) = absurd (u.busy e)
          from (sized_free b f d) = d
      go (no m) =
          let u : Used t i = record { inside = l; busy = m } in
          rw (ne_eqb (cell t.cells i state) free m, number_in u)
          (λ z. missized u ((differs (size_in i tree)).0 z), λ s. (differs (size_in i tree)).1 (from s))
        where
          from : Shows8 t tree i → size_word t.sizes i ≢ size_in i tree
          from (missized u d) = d
          from (sized_free b f d) = absurd (m f)
