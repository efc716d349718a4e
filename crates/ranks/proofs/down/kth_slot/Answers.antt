use Rattle.std.proofs.Common.{◌∙◌}
use Rattle.ranks.proofs.Ways.{kth_here, kth_left, kth_right, kth_end}
use Rattle.ranks.proofs.down.kth_slot.Goals as goal

pub returns-then-rest-w : goal.returns-then-rest-w
returns-then-rest-w c =
    kth_here _ _ _ _ c.get-l.ensures c.word-w.ensures _ c.loop-left-test.true c.if-rest-w.true ∙ c.loop-left.invariant

pub loop-left-preserved-then-rest-w-2 : goal.loop-left-preserved-then-rest-w-2
loop-left-preserved-then-rest-w-2 c =
    kth_left _ _ _ _ c.get-l.ensures c.word-w.ensures _ c.loop-left-test.true c.if-rest-w-2.true ∙ c.loop-left.invariant

pub loop-left-preserved : goal.loop-left-preserved
loop-left-preserved c =
    kth_right _ _ _ _ c.get-l.ensures c.word-w.ensures _ c.loop-left-test.true c.if-rest-w-2.false c.if-rest-w.false c.get-i.ensures
    ∙ c.loop-left.invariant

pub returns : goal.returns
returns c = kth_end _ _ _ _ _ c.loop-left-test.false ∙ c.loop-left.invariant
