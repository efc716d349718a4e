-- What the bins at and below a bin hold, as the check goes: it passes where each list and each tree is good and where a bin whose parent is
-- not Moved is empty, and takes a visit a slot.
use mathlib.Core.Path.{◌≡◌, refl, ap, ◌∙◌}
use mathlib.Core.Logic.{◌≢◌}
use mathlib.Core.Bool.{Bool, true, false}
use mathlib.Core.List.{List, [], ◌++◌}
use Prim.Native.Nat.{ℕ, zero, suc, ◌+◌, ◌-◌, ◌≤◌}
use native.Mathlib.Omega.{arith}
use lib.ListN.{length, length-append}
use lib.Dec.{eqb}
use borrow.Author.Tests.{eqb-false, ne_eqb}
use Rattle.slots.specs.Words.{pick}
use Rattle.slots.specs.Answers.{Value, none, some}
use Rattle.tree_rules.specs.Tree.{Tree, slots, times}
use Rattle.tree_rules.specs.Rules.{then}
use Rattle.tree_rules.proofs.Reaching.{refuted, rooted_most}
use Rattle.set_rules.specs.Words.{Set, Fit, tables_of, length_at, root_at, first_at, count_at, Bin, empty, moved, bad, list, tree, bin_at}
use Rattle.set_rules.specs.Accepted.{Listed, Apart, ListSlot}
use Rattle.set_rules.specs.Accepting.{list_fine, tree_fine, may_stand, own_fine, bin_asks, below_fine, bin_fine, table_fine}
use Rattle.set_rules.proofs.Fit.{small}
use Rattle.set_rules.proofs.Lists.{Home, list_walked, walked_list}
use Rattle.set_rules.proofs.Trees.{Grown, fine-grown, grown-fine}
use Rattle.tree_rules.specs.Find.{slots_of}

-- Bin i of table k may hold these slots, as a list or as a tree.
pub data Held (s : Set) (k i : ℕ) : Bin → List ℕ → Type 0 where
  as_list : {a : ℕ} {l : List ℕ} → Listed (slots_of s.names) s.cells a l → Apart s.names l
      → ((x : ℕ) → 1 ≤ times x l → ListSlot s.cells x)
      → Home s.names (length_at s k) i l → Held s k i (list a) l
  as_tree : {h : ℕ} {t : Tree} → Grown s (length_at s k) i h t → Held s k i (tree h) (slots t)

-- A bin with all below it, or only what is below it.
pub data Part : Type 0 where
  whole beneath : Part

-- With so many tables after table k, the bins hold these slots; `may` where they need not be empty.
pub data Good (s : Set) : Part → ℕ → ℕ → ℕ → Bool → List ℕ → Type 0 where
  empties : {left k i : ℕ} {may : Bool} {l : List ℕ} → bin_at s k i ≡ empty → Good s beneath left k i false l → Good s whole left k i may l
  moves : {left k i : ℕ} {l : List ℕ} → bin_at s k i ≡ moved → left ≢ 0 → Good s beneath left k i true l → Good s whole left k i true l
  holding : {left k i : ℕ} {b : Bin} {l m : List ℕ} → bin_at s k i ≡ b → Held s k i b l → Good s beneath left k i false m
      → Good s whole left k i true (l ++ m)
  final : {k i : ℕ} {may : Bool} → Good s beneath zero k i may []
  two : {left k i : ℕ} {may : Bool} {l m : List ℕ} → Good s whole left (suc k) i may l → Good s whole left (suc k) (i + length_at s k) may m
      → Good s beneath (suc left) k i may (l ++ m)

-- The first so many bins of table 0, with all below them.
pub data Row (s : Set) : ℕ → List ℕ → Type 0 where
  start : Row s 0 []
  more : {i : ℕ} {l m : List ℕ} → Good s whole (tables_of s - 1) 0 i true l → Row s i m → Row s (suc i) (l ++ m)

module _ {s : Set} (fit : Fit s) where
  -- What a check that passed has found.
  record Found (p : Part) (left k i : ℕ) (may : Bool) (v rest : ℕ) : Type 0 where
    slots : List ℕ
    good : Good s p left k i may slots
    spent : length slots + rest ≡ v

  abbrev Belows : ℕ → ℕ → ℕ → Type 0
  Belows left k i = (may : Bool) (v rest : ℕ) → below_fine left s k i may v ≡ some rest → Found beneath left k i may v rest

  -- A bin that holds a list or a tree, with what is below it.
  held_found : {left k i v m rest : ℕ} {b : Bin} {l : List ℕ} → bin_at s k i ≡ b → Held s k i b l → length l + m ≡ v
      → Found beneath left k i false m rest
      → Found whole left k i true v rest
  held_found {l = l} p h e f =
      record { slots = l ++ f.slots; good = holding p h f.good; spent = simp length-append (omega (arith, f.spent)) }

  asks_found : (left k i : ℕ) → Belows left k i → (may : Bool) (v rest : ℕ) (b : Bin) → bin_at s k i ≡ b
      → bin_asks s left k i (below_fine left s k i) may v b ≡ some rest → Found whole left k i may v rest
  unfolding bin_asks may_stand own_fine
  asks_found left k i again may v rest empty p e =
      let f = again false v rest e in record { slots = f.slots; good = empties p f.good; spent = f.spent }
  asks_found left k i again true v rest moved p e = go (eqb left 0) refl e
    where
      go : (b : Bool) → eqb left 0 ≡ b → pick (pick b false true) (below_fine left s k i true v) none ≡ some rest
          → Found whole left k i true v rest
      go true z e = refuted e
      go false z e =
          let f = again true v rest e in record { slots = f.slots; good = moves p (eqb-false left 0 z) f.good; spent = f.spent }
  asks_found left k i again false v rest moved p e = go (eqb left 0) e
    where
      go : (b : Bool) → pick (pick b false false) (below_fine left s k i true v) none ≡ some rest → Found whole left k i false v rest
      go true e = refuted e
      go false e = refuted e
  asks_found left k i again true v rest (list a) p e = go (list_fine v s.names s.cells (length_at s k) i a) refl e
    where
      go : (o : Value) → list_fine v s.names s.cells (length_at s k) i a ≡ o → then o (below_fine left s k i false) ≡ some rest
          → Found whole left k i true v rest
      go none z e = refuted e
      go (some m) z e =
          let w = list_walked s (small fit) (length_at s k) i v a m z in
          held_found p (as_list w.ends w.apart w.plain w.home) w.spent (again false m rest e)
  asks_found left k i again false v rest (list a) p e = refuted e
  asks_found left k i again true v rest (tree h) p e =
      go (tree_fine s.names s.cells (length_at s k) i (root_at s h) (first_at s h) (count_at s h) v) refl e
    where
      go : (o : Value) → tree_fine s.names s.cells (length_at s k) i (root_at s h) (first_at s h) (count_at s h) v ≡ o
          → then o (below_fine left s k i false) ≡ some rest → Found whole left k i true v rest
      go none z e = refuted e
      go (some m) z e =
          let w = fine-grown fit (length_at s k) i h v m z in
          held_found p (as_tree w.1) w.2 (again false m rest e)
  asks_found left k i again false v rest (tree h) p e = refuted e
  asks_found left k i again may v rest bad p e = refuted e

  below-found : (left k i : ℕ) → Belows left k i
  unfolding below_fine
  below-found zero k i may v rest e = let z : v ≡ rest = cc in record { slots = []; good = final; spent = omega arith }
  below-found (suc left) k i may v rest e =
      go (bin_asks s left (suc k) i (below_fine left s (suc k) i) may v (bin_at s (suc k) i)) refl e
      (λ j v m h. asks_found left (suc k) j (below-found left (suc k) j) may v m (bin_at s (suc k) j) refl h)
    where
      go : (o : Value) → bin_asks s left (suc k) i (below_fine left s (suc k) i) may v (bin_at s (suc k) i) ≡ o
          → then o (λ w. bin_asks s left (suc k) (i + length_at s k) (below_fine left s (suc k) (i + length_at s k)) may w
          (bin_at s (suc k) (i + length_at s k))) ≡ some rest
          → ((j v m : ℕ) → bin_asks s left (suc k) j (below_fine left s (suc k) j) may v (bin_at s (suc k) j) ≡ some m
          → Found whole left (suc k) j may v m)
          → Found beneath (suc left) k i may v rest
      go none z e one = refuted e
      go (some m) z e one =
          let f = one i v m z in
          let g = one (i + length_at s k) m rest e in
          record {
            slots = f.slots ++ g.slots;
            good = two f.good g.good;
            spent = simp length-append (omega (arith, f.spent, g.spent));
          }

  bin-found : (left k i : ℕ) (may : Bool) (v rest : ℕ) → bin_fine left s k i may v ≡ some rest → Found whole left k i may v rest
  unfolding bin_fine
  bin-found left k i may v rest e = asks_found left k i (below-found left k i) may v rest (bin_at s k i) refl e

  pub row_found : (i v rest : ℕ) → table_fine i s v ≡ some rest → (l : List ℕ) × Row s i l × (length l + rest ≡ v)
  unfolding table_fine
  row_found zero v rest e = let z : v ≡ rest = cc in ([], start, omega arith)
  row_found (suc i) v rest e = go (bin_fine (tables_of s - 1) s 0 i true v) refl e (λ m h. row_found i m rest h)
    where
      go : (o : Value) → bin_fine (tables_of s - 1) s 0 i true v ≡ o → then o (λ w. table_fine i s w) ≡ some rest
          → ((m : ℕ) → table_fine i s m ≡ some rest → (l : List ℕ) × Row s i l × (length l + rest ≡ m))
          → (l : List ℕ) × Row s (suc i) l × (length l + rest ≡ v)
      go none z e again = refuted e
      go (some m) z e again =
          let f = bin-found (tables_of s - 1) 0 i true v m z in
          let g = again m e in
          (f.slots ++ g.0, more f.good g.1, simp length-append (omega (arith, f.spent, g.2)))

  -- And the other way: with as many visits as slots, and what is over is handed back.
  abbrev run : Part → ℕ → ℕ → ℕ → Bool → ℕ → Value
  run whole left k i may v = bin_asks s left k i (below_fine left s k i) may v (bin_at s k i)
  run beneath left k i may v = below_fine left s k i may v

  held_run : (left k i v : ℕ) (b : Bin) {l : List ℕ} → Held s k i b l → length l ≤ v
      → bin_asks s left k i (below_fine left s k i) true v b ≡ below_fine left s k i false (v - length l)
  unfolding bin_asks may_stand own_fine
  held_run left k i v (list a) (as_list e u p h) m = rw (walked_list s (small fit) (length_at s k) i v e u p h m)
  held_run left k i v (tree h) (as_tree {t = t} g) m =
      rw (grown-fine fit (length_at s k) i h v t g m (rooted_most (slots_of s.names) s.cells (small fit) _ g.rooted))
  held_run left k i v empty x m = elim x [ ]
  held_run left k i v moved x m = elim x [ ]
  held_run left k i v bad x m = elim x [ ]

  good_run : {p : Part} {left k i : ℕ} {may : Bool} {l : List ℕ} → Good s p left k i may l → (v : ℕ) → length l ≤ v
      → run p left k i may v ≡ some (v - length l)
  unfolding bin_asks below_fine may_stand own_fine
  good_run (empties p g) v m = rw p (good_run g v m)
  good_run (moves {left = left} p d g) v m = rw (p, ne_eqb left 0 d) (good_run g v m)
  good_run (holding {left = left} {k} {i} {b} {l} {m = l'} p h g) v m =
      let e = simp length-append at m in
      rw p (held_run left k i v b h (omega arith) ∙ good_run g (v - length l) (omega arith) ∙ ap some (omega (arith, length-append l l')))
  good_run final v m = ap some (omega arith)
  good_run (two {left = left} {k} {i} {may} {l} {m = l'} f g) v m =
      rw (good_run f v (omega (arith, length-append l l')))
      (good_run g (v - length l) (omega (arith, length-append l l')) ∙ ap some (omega (arith, length-append l l')))

  pub row_run : {i : ℕ} {l : List ℕ} → Row s i l → (v : ℕ) → length l ≤ v → table_fine i s v ≡ some (v - length l)
  unfolding table_fine bin_fine
  row_run start v m = ap some (omega arith)
  row_run (more {l = l} {m = l'} g r) v m =
      rw (good_run g v (omega (arith, length-append l l')))
      (row_run r (v - length l) (omega (arith, length-append l l')) ∙ ap some (omega (arith, length-append l l')))
