-- The loop's invariant: the calls left come to what all of them come to, and the next one is ready.
use Rattle.index_rules.specs.Index.{lent}
use Rattle.batch.proofs.Making.{Turn}
use Rattle.batch.proofs.batch.run.Given as goal

abbrev pub invariant-loop-k : goal.invariant-loop-k
invariant-loop-k l =
    Turn (lent l.initial.names l.initial.cells l.initial.head l.initial.sizes l.initial.lines) l.calls l.m l.initial.answers
    (lent l.names l.cells l.head l.sizes l.lines) l.answers l.floor l.k
