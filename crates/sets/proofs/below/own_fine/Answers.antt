-- Each way out closes by the kind of bin that led there.
use mathlib.Core.Path.{◌≡◌}
use mathlib.Core.Logic.{◌⊎◌, inl, inr}
use mathlib.Core.List.{[]}
use Prim.Native.Nat.{ℕ}
use Rattle.slots.specs.Answers.{some}
use Rattle.set_rules.specs.Words.{Set}
use Rattle.set_rules.specs.Accepting.{own_fine}
use Rattle.sets.specs.Bins.{bin_as}
use Rattle.sets.specs.declared.bin.Bin.{Bin}
use Rattle.sets.specs.declared.bin.Bin.TheVariants.{Empty, Moved, Bad}
use Rattle.sets.proofs.Steps.{own_tree}
use Rattle.sets.proofs.below.own_fine.Goals as goal

pub returns-in-List : goal.returns-in-List
unfolding own_fine
returns-in-List c = rw c.in-List.is c.list_fine.ensures

pub returns-in-Tree : goal.returns-in-Tree
unfolding own_fine
returns-in-Tree c =
    let a = c.args in
    let s : Set = record { lengths = []; bins = []; heads = a.heads.now; names = a.names.now; cells = a.cells.now } in
    rw c.in-Tree.is
    (own_tree s a.length a.i c.in-Tree.h a.visits c.header-root.ensures c.header-first.ensures
    c.header-count.ensures c.tree_fine.ensures)

none_own : (s : Set) (len i : ℕ) (b : Bin) (v : ℕ) → (b ≡ Empty) ⊎ ((b ≡ Moved) ⊎ (b ≡ Bad)) → some v ≡ own_fine s len i (bin_as b) v
unfolding own_fine
none_own s len i b v (inl e) = rw e
none_own s len i b v (inr (inl e)) = rw e
none_own s len i b v (inr (inr e)) = rw e

pub returns-in-Empty : goal.returns-in-Empty
returns-in-Empty c = none_own _ _ _ _ _ c.in-Empty.is
