use Rattle.mover.proofs.Heading.{spare_own, spare_blank, spare_on, spare_out}
use Rattle.mover.proofs.headers.spare.Goals.{then-h-own-via-then-h-own, then-h-own-via-else-h-own+then-word}
use Rattle.mover.proofs.headers.spare.Goals as goal

pub returns-then-h-own : goal.returns-then-h-own
returns-then-h-own c = (
  elim c.then-h-own.branch [
    | then-h-own-via-then-h-own w ↦ spare_own _ _ _ _ c.loop-h.invariant c.loop-h-test.true w.if-h-own.true
    | then-h-own-via-else-h-own+then-word w ↦
        spare_blank _ _ _ _ c.loop-h.invariant c.loop-h-test.true w.if-h-own.false w.word.ensures w.if-word.true
  ],
  c.loop-h-test.true,
)

pub loop-h-preserved : goal.loop-h-preserved
loop-h-preserved c =
    spare_on _ _ _ _ c.loop-h.invariant c.loop-h-test.true c.if-h-own.false c.word.ensures c.if-word.false

pub returns : goal.returns
returns c = (spare_out _ _ _ _ c.loop-h.invariant c.loop-h-test.false, tt)
