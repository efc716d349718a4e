-- The loader is that of a start.
use mathlib.Core.Path.{ap}
use mathlib.Core.Bool.{false}
use mathlib.Core.List.{[]}
use Rattle.file_rules.specs.Loading.{LoadOutcome, load_start}
use Rattle.figure_rules.specs.Stream.{figures, stream}
use Rattle.tally.proofs.stream.Stream.start.Goals as goal

pub returns : goal.returns
unfolding load_start
returns c =
    ap (λ (o : LoadOutcome). stream 0 0 o.left (figures [] false)) c.start-started.ensures
