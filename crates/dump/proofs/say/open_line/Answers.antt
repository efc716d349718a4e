-- A null slot is the header.
use mathlib.Core.Path.{ap, ◌∙◌}
use Rattle.script_rules.specs.Feeding.{typed}
use Rattle.dump.proofs.Telling.{opens_header, opens_slot}
use Rattle.dump.proofs.say.open_line.Goals as goal

pub returns-then-slot-eq-NULL : goal.returns-then-slot-eq-NULL
returns-then-slot-eq-NULL c =
    c.fill.ensures ∙ ap (typed _) (opens_header _ _ c.if-slot-eq-NULL.true)

pub returns : goal.returns
returns c =
    c.fill-2.ensures ∙ ap (typed _) (opens_slot _ _ c.if-slot-eq-NULL.false)
