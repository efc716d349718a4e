-- The end call of a loader that goes on, and the tally of what it leaves.
use Rattle.set_rules.specs.Words.{lent_set}
use Rattle.file_rules.specs.Loading.{loading}
use Rattle.file.specs.Meanings.{loader_words}
use Rattle.figure_rules.specs.Stream.{figures}
use Rattle.tally.proofs.Streaming.{set_ended}
use Rattle.tally.proofs.input.set_ends.Goals as goal

pub returns : goal.returns
returns c =
    let a = c.args in
    let s = lent_set a.lengths.now a.bins.now a.heads.now a.names.now a.cells.now in
    set_ended (loading (loader_words a.loader) s) (figures a.totals.now a.over) c.requires c.end-load.ensures
    c.tally_load-over.ensures
