use native.Mathlib.Omega.{arith}
use Rattle.tally.proofs.Counting.{range_left, range_kept, ranges_all}
use Rattle.tally.proofs.totals.words_fit.Goals as goal

pub returns-then-most-sets : goal.returns-then-most-sets
returns-then-most-sets c =
    range_left c.args.totals.now c.loop-j.j (omega arith) c.most_added-most.ensures c.word-total.ensures c.requires.0 c.loop-j.invariant
    c.if-most-sets.true

pub loop-j-preserved : goal.loop-j-preserved
loop-j-preserved c =
    range_kept c.args.totals.now c.loop-j.j (omega arith) c.most_added-most.ensures c.word-total.ensures c.requires.0 c.loop-j.invariant
    c.if-most-sets.false

pub returns : goal.returns
returns c = ranges_all c.args.totals.now (omega arith) c.loop-j.invariant
