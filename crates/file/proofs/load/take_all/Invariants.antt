-- The bytes left come to what all of them come to.
use lib.ListN.{length}
use Rattle.set_rules.specs.Words.{lent_set}
use Rattle.file_rules.specs.Loading.{loading}
use Rattle.file.specs.Meanings.{loader_words}
use Rattle.file.proofs.Stepping.{Going}
use Rattle.file.proofs.load.take_all.Given as goal

abbrev pub invariant-loop-rest : goal.invariant-loop-rest
invariant-loop-rest l =
    Going (loading (loader_words l.initial.loader)
    (lent_set l.initial.lengths l.initial.bins l.initial.heads l.initial.names l.initial.cells)) l.chunk
    (loading (loader_words l.loader) (lent_set l.lengths l.bins l.heads l.names l.cells)) l.rest

abbrev pub decreases-loop-rest : goal.decreases-loop-rest
decreases-loop-rest l = length l.rest
