-- The number of bytes is below, above, or that of the dump.
use Rattle.dump.proofs.Measuring.{weigh_short, weigh_long, weigh_whole}
use Rattle.dump.proofs.measure.weigh.Goals as goal

pub returns-then-len-size : goal.returns-then-len-size
returns-then-len-size c = weigh_short _ _ _ c.dump_size-size.ensures c.if-len-size.true

pub returns-then-size-len : goal.returns-then-size-len
returns-then-size-len c =
    weigh_long _ _ _ c.dump_size-size.ensures c.if-len-size.false c.if-size-len.true

pub returns : goal.returns
returns c =
    weigh_whole _ _ _ c.dump_size-size.ensures c.if-len-size.false c.if-size-len.false
