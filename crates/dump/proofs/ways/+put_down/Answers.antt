-- The slots above come first.
use mathlib.Core.Path.{ap, ◌∙◌}
use Rattle.script_rules.specs.Feeding.{typed, lent_paper}
use Rattle.dump.proofs.Telling.{then, down_end, down_root, down_more}
use Rattle.dump.proofs.ways.+put_down.Goals as goal

pub returns-then-budget-eq0 : goal.returns-then-budget-eq0
returns-then-budget-eq0 t c =
    let a = c.args in c.put_step.ensures ∙ ap (typed _) (down_end a.cells.now a.i a.budget c.if-budget-eq0.true)

pub returns-then-p : goal.returns-then-p
returns-then-p t c =
    let a = c.args in
    c.put_step-then-p.ensures ∙ ap (typed _) (down_root a.cells.now a.i c.get-p.ensures a.budget c.if-p.true)

pub returns : goal.returns
returns t c =
    let a = c.args in
    then (lent_paper a.out.now a.at) _ _ c.put_down-above.ensures (then _ _ _ c.put_word-next.ensures c.put_step-2.ensures)
    ∙ ap (typed _) (down_more a.cells.now a.i c.get-p.ensures a.budget c.if-budget-eq0.false c.if-p.false)
