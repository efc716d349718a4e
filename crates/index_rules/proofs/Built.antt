-- What suffices for a sound tree: a tree and a chain over the same slots, all others cleared, and the right count.
use mathlib.Core.Path.{◌≡◌}
use mathlib.Core.List.{List}
use Prim.Native.Nat.{ℕ, ◌<◌}
use lib.ListN.{length}
use Rattle.slots.specs.Words.{null, state, free, cell}
use Rattle.tree_rules.specs.Tree.{Tree, slots, times, Rooted, Rising, Coloured, Level}
use Rattle.tree_rules.specs.Chain.{Chain}
use Rattle.tree_rules.specs.Sizes.{SizedBy}
use Rattle.index_rules.specs.Live.{Live, root_of, first_of, count_of}
use Rattle.index_rules.specs.Sound.{Cleared}
use Rattle.tree_rules.specs.Find.{slots_of}

pub record Built (t : Live) : Type 0 where
  pub tree : Tree
  pub chain : List ℕ
  pub rooted : Rooted (slots_of t.names) t.cells (root_of t) tree
  pub rising : Rising t.names (slots tree)
  pub coloured : Coloured tree
  pub level : Level tree
  pub linked : Chain (slots_of t.names) t.cells null (first_of t) chain
  pub same : (k : ℕ) → k < slots_of t.names → times k (slots tree) ≡ times k chain
  pub others : (k : ℕ) → k < slots_of t.names → times k (slots tree) ≡ 0 → (cell t.cells k state ≡ free) × Cleared t k
  pub count : count_of t ≡ length (slots tree)
  pub sized : SizedBy t.sizes tree
