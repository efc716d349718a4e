-- find: 1 where the words are not fit, else what find_tree_node gives from the header's root.
use Rattle.std.specs.Prelude.{ℕ}
use Rattle.slots.specs.Words.{pick}
use Rattle.slots.specs.Answers.{refused}
use Rattle.tree_rules.specs.Find.{Search, ends, found}
use Rattle.index_rules.specs.Live.{Unsized, root_word, fits_unsized}

unfoldable pub finds : Unsized → ℕ → ℕ → Search
finds t hash key = pick (fits_unsized t) (found t.names t.cells (root_word t.head) hash key) (ends (refused 1))
