-- Each way out closes by the reads and the tests that led there; the chain hands back at most its visits.
use mathlib.Core.Path.{sym, ap, ◌∙◌}
use Prim.Native.Nat.{◌/◌}
use lib.ListN.{length}
use Rattle.slots.specs.Words.{null}
use Rattle.tree_rules.proofs.Visits.{chained_within}
use Rattle.tree.specs.Rules.{rest_of}
use Rattle.index.proofs.sound.rule7.Goals as goal

pub overflow_sub-result : goal.overflow_sub-result
overflow_sub-result c =
    let a = c.args in
    let n = length a.names.now / 2 in
    chained_within
    n
    a.cells.now
    n
    null
    c.word-first.result
    c.in-Some.rest
    (sym c.chain.ensures ∙ ap rest_of c.in-Some.is)
