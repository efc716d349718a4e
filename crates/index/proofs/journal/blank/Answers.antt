use mathlib.Core.Path.{◌∙◌}
use Rattle.index.proofs.Writing.{blank_on, blank_end}
use Rattle.index.proofs.journal.blank.Goals as goal

pub loop-c-preserved : goal.loop-c-preserved
loop-c-preserved c =
    blank_on c.loop-c.lines c.args.m c.loop-c.c c.loop-c-test.true c.put_line.ensures ∙ c.loop-c.invariant

pub returns : goal.returns
returns c = blank_end c.loop-c.lines c.args.m c.loop-c.c c.loop-c-test.false ∙ c.loop-c.invariant
