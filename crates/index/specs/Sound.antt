-- What one pass over the slots, and one walk of the tree, answer for.
use Rattle.std.specs.Prelude.{Bool, true, ℕ, zero, suc, eqb, leb}
use Rattle.slots.specs.Words.{pick, state, free, cell, ◌and◌}
use Rattle.slots.specs.Answers.{Value, none, some}
use Rattle.tree_rules.specs.Check.{in_range}
use Rattle.tree_rules.specs.Find.{slots_of}
use Rattle.tree_rules.specs.Rules.{all_sized}
use Rattle.tree_rules.specs.Chain.{tally}
use Rattle.tree_rules.specs.Sizes.{size_word}
use Rattle.index_rules.specs.Live.{Live, root_of, first_of, count_of}
use Rattle.index_rules.specs.Sound.{used, is_cleared, rule3, rule4, rule5, rule6}

-- T1 of a slot but for its links, and T8 of a free one; the same of the first k.
unfoldable pub state_fine : Live → ℕ → Bool
state_fine t i =
    pick (eqb (cell t.cells i state) free) (is_cleared t i and eqb (size_word t.sizes i) 0) (leb (cell t.cells i state) 2)

unfoldable pub states_fine : ℕ → Live → Bool
states_fine zero t = true
states_fine (suc k) t = state_fine t k and states_fine k t

-- How many of the first k slots are not free, where each is fine.
abbrev pub used_if_fine : ℕ → Live → Value
used_if_fine k t = pick (states_fine k t) (some (tally k (used t.cells))) none

-- T1 but for the links of the slots, and T8 of the free ones.
unfoldable pub rule1_unlinked : Live → Bool
rule1_unlinked t =
    let n = slots_of t.names in
    states_fine n t and in_range n (root_of t) and in_range n (first_of t) and eqb (count_of t) (tally n (used t.cells))

-- T3 to T6, and T8 of the tree's slots.
abbrev pub tree_rules : Live → Bool
tree_rules t = rule3 t and rule4 t and rule5 t and rule6 t and all_sized (slots_of t.names) t.cells t.sizes (root_of t)
