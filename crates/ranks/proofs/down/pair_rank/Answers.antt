use Rattle.std.proofs.Common.{refl, ◌∙◌}
use Rattle.slots.specs.Words.{sum}
use Rattle.ranks.proofs.Ways.{rank_null, rank_left, rank_here, rank_right, rank_end}
use Rattle.ranks.proofs.down.pair_rank.Goals as goal

pub returns-then-i : goal.returns-then-i
returns-then-i c =
    rank_null _ _ _ _ _ _ _ _ c.loop-left-test.true c.if-i.true ∙ c.loop-left.invariant

pub loop-left-preserved-then-comes_before : goal.loop-left-preserved-then-comes_before
loop-left-preserved-then-comes_before c =
    rank_left _ _ _ _ _ _ _ _ c.loop-left-test.true c.if-i.false c.name-at.ensures c.name-own.ensures c.get-l.ensures
    c.comes_before.ensures c.if-comes_before.true
    ∙ c.loop-left.invariant

pub returns-then-not-comes_before : goal.returns-then-not-comes_before
unfolding sum
returns-then-not-comes_before c =
    rank_here _ _ _ _ _ _ _ _ c.loop-left-test.true c.if-i.false c.name-at.ensures c.name-own.ensures c.get-l.ensures
    c.comes_before.ensures c.word-w.ensures c.comes_before-else-comes_before.ensures
    c.if-comes_before.false c.if-not-comes_before.true refl
    ∙ c.loop-left.invariant

pub loop-left-preserved : goal.loop-left-preserved
unfolding sum
loop-left-preserved c =
    rank_right _ _ _ _ _ _ _ _ c.loop-left-test.true c.if-i.false c.name-at.ensures c.name-own.ensures c.get-l.ensures
    c.comes_before.ensures c.word-w.ensures c.comes_before-else-comes_before.ensures
    c.if-comes_before.false c.if-not-comes_before.false refl
    refl c.get-i.ensures
    ∙ c.loop-left.invariant

pub returns : goal.returns
returns c = rank_end _ _ _ _ _ _ _ _ c.loop-left-test.false ∙ c.loop-left.invariant
