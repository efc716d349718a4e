-- No byte, or some.
use Rattle.set_rules.specs.Words.{lent_set}
use Rattle.file_rules.specs.Loading.{loading}
use Rattle.file.specs.Meanings.{loader_words}
use Rattle.figure_rules.specs.Stream.{figures}
use Rattle.tally.proofs.Streaming.{none_awaited, some_awaited}
use Rattle.tally.proofs.input.await_set.Goals as goal

pub returns-then-left-eq0 : goal.returns-then-left-eq0
returns-then-left-eq0 c =
    let a = c.args in
    let s = lent_set a.lengths.now a.bins.now a.heads.now a.names.now a.cells.now in
    none_awaited (loading (loader_words a.loader) s) (figures a.totals.now a.over) c.if-left-eq0.true c.set_ends.ensures

pub returns : goal.returns
returns c =
    let a = c.args in
    let s = lent_set a.lengths.now a.bins.now a.heads.now a.names.now a.cells.now in
    some_awaited a.left (loading (loader_words a.loader) s) (figures a.totals.now a.over) c.if-left-eq0.false
