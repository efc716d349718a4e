use mathlib.Core.Path.{◌∙◌}
use Rattle.script_rules.specs.Feeding.{lent_desk}
use Rattle.console.proofs.Bytes.{feeding_on, kept_within}
use Rattle.console.specs.Meanings.{held_line}
use borrow.Author.Rules.{rules}
use Rattle.console.proofs.feed.feed.Goals as goal

pub loop-i-preserved : goal.loop-i-preserved
loop-i-preserved c =
    let a = c.args in
    let here =
    lent_desk (held_line c.loop-i.kept) c.loop-i.names c.loop-i.cells c.loop-i.head c.loop-i.sizes
    c.loop-i.lines c.loop-i.out c.loop-i.written in (
      feeding_on a.chunk.now c.loop-i.i here c.loop-i-test.true c.if-out-written-lt-LONGEST.false c.take_byte-step.ensures
          ∙ c.loop-i.invariant.0,
      kept_within here _ c.take_byte-step.ensures c.loop-i.invariant.1,
      search rules,
    )
