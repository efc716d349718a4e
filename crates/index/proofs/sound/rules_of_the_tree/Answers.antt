-- The size of the tree, or that there is none, against the count.
use mathlib.Core.Path.{sym, ap, ◌∙◌}
use Rattle.index_rules.specs.Live.{lent_tree}
use Rattle.tree.specs.Rules.{size_of}
use Rattle.index.proofs.Walked.{no_size, by_count}
use Rattle.index.proofs.sound.rules_of_the_tree.Goals as goal

pub returns-in_default : goal.returns-in_default
returns-in_default c =
    let a = c.args in
    no_size (lent_tree a.names.now a.cells.now a.head.now a.sizes.now) c.word-root.ensures
    (ap size_of (sym c.in_default.is) ∙ c.tree_size.ensures)

pub returns : goal.returns
returns c =
    let a = c.args in
    by_count (lent_tree a.names.now a.cells.now a.head.now a.sizes.now)
    c.word-root.ensures
    (ap size_of (sym c.in-Some.is) ∙ c.tree_size.ensures)
    c.word-count.ensures
