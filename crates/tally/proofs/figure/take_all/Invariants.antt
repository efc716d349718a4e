-- The bytes left come to what all of them come to.
use lib.ListN.{length}
use Rattle.set_rules.specs.Words.{lent_set}
use Rattle.tally.specs.Meanings.{stream_of}
use Rattle.tally.proofs.Streaming.{Going}
use Rattle.tally.proofs.figure.take_all.Given as goal

abbrev pub invariant-loop-rest : goal.invariant-loop-rest
invariant-loop-rest l =
    Going (stream_of l.initial.stream
    (lent_set l.initial.lengths l.initial.bins l.initial.heads l.initial.names l.initial.cells) l.initial.totals) l.piece
    (stream_of l.stream (lent_set l.lengths l.bins l.heads l.names l.cells) l.totals) l.rest

abbrev pub decreases-loop-rest : goal.decreases-loop-rest
decreases-loop-rest l = length l.rest
