-- The loader starts, takes all bytes and ends.
use mathlib.Core.Path.{ap}
use Rattle.set_rules.specs.Words.{lent_set}
use Rattle.file_rules.specs.Loading.{LoadOutcome, load_start}
use Rattle.finisher.proofs.Filing.{whole_loaded}
use Rattle.finisher.proofs.answer.load_whole.Goals as goal

pub returns : goal.returns
unfolding load_start
returns c =
    let a = c.args in
    let s = lent_set a.lengths.now a.bins.now a.heads.now a.names.now a.cells.now in
    whole_loaded s a.bytes.now (ap (λ (o : LoadOutcome). o.left.loader) c.start-started.ensures) c.chunk-read.ensures
    c.end.ensures
