-- The tests come in the order of the model's.
use Rattle.dump.proofs.Measuring.{gauge_stub, gauge_none, gauge_many, gauge_lines, gauge_weighed}
use Rattle.dump.proofs.measure.gauge.Goals.{then-n-lt1-via-then-n-lt1, then-n-lt1-via-else-n-lt1+then-n-gt-MOST_SLOTS}
use Rattle.dump.proofs.measure.gauge.Goals as goal

pub returns-then-bytes-lt8 : goal.returns-then-bytes-lt8
returns-then-bytes-lt8 c = gauge_stub _ c.if-bytes-lt8.true

pub returns-then-n-lt1 : goal.returns-then-n-lt1
returns-then-n-lt1 c =
    elim c.then-n-lt1.branch [
      | then-n-lt1-via-then-n-lt1 w ↦ gauge_none _ c.if-bytes-lt8.false c.word_at-n.ensures w.if-n-lt1.true
      | then-n-lt1-via-else-n-lt1+then-n-gt-MOST_SLOTS w ↦
          gauge_many _ c.if-bytes-lt8.false c.word_at-n.ensures w.if-n-lt1.false w.if-n-gt-MOST_SLOTS.true
    ]

pub returns-then-c-gt-MOST_LINES : goal.returns-then-c-gt-MOST_LINES
returns-then-c-gt-MOST_LINES c =
    gauge_lines _ c.if-bytes-lt8.false c.word_at-n.ensures c.if-n-lt1.false c.if-n-gt-MOST_SLOTS.false
    c.word_at-c.ensures c.if-c-gt-MOST_LINES.true

pub returns : goal.returns
returns c =
    gauge_weighed _ c.if-bytes-lt8.false c.word_at-n.ensures c.if-n-lt1.false c.if-n-gt-MOST_SLOTS.false
    c.word_at-c.ensures c.if-c-gt-MOST_LINES.false
    c.weigh.ensures
