-- check, the source's own: 1 where the words are not fit, else what check_invariants answers from the header's root.
use Rattle.slots.specs.Words.{pick}
use Rattle.slots.specs.Answers.{Answer, refused}
use Rattle.tree_rules.specs.Check.{checked}
use Rattle.index_rules.specs.Live.{Unsized, root_word, fits_unsized}

unfoldable pub checks : Unsized → Answer
checks t = pick (fits_unsized t) (checked t.names t.cells (root_word t.head)) (refused 1)
