use mathlib.Core.Path.{refl, ◌∙◌}
use native.Mathlib.Omega.{arith}
use Rattle.script_rules.specs.Feeding.{lent_paper}
use Rattle.tally.proofs.Telling.{row_told, rows_turn, rows_over}
use Rattle.tally.proofs.tell.tell_rows.Goals as goal

pub loop-i-init : goal.loop-i-init
loop-i-init c = refl

pub loop-i-preserved : goal.loop-i-preserved
loop-i-preserved c =
    let l = c.loop-i in
    let t = c.args.totals.now in
    rows_turn t (lent_paper l.out l.end) l.i (omega arith) (c.fill-end.ensures ∙ row_told t _ l.i c.word.ensures) ∙ l.invariant

pub returns : goal.returns
returns c =
    let l = c.loop-i in
    let t = c.args.totals.now in
    rows_over t (lent_paper l.out l.end) l.i (omega arith) ∙ l.invariant
