-- Each finding has its text.
use mathlib.Core.Path.{ap, ◌∙◌}
use Rattle.script_rules.specs.Feeding.{typed}
use Rattle.dump.proofs.Telling.{found_text_lem}
use Rattle.dump.proofs.say.tell_tree.Goals as goal

pub returns-in-Ok-None : goal.returns-in-Ok-None
returns-in-Ok-None c =
    c.put_word.ensures ∙ ap (typed _) (found_text_lem _ (rw c.in-Ok-None.field-0-is at c.in-Ok-None.ensures))

pub returns-in-Ok-Some : goal.returns-in-Ok-Some
returns-in-Ok-Some c =
    c.tell_broken.ensures ∙ ap (typed _) (found_text_lem _ (rw c.in-Ok-Some.field-0-is at c.in-Ok-Some.ensures))

pub returns-in-Err : goal.returns-in-Err
returns-in-Err c = c.fill.ensures ∙ ap (typed _) (found_text_lem _ c.in-Err.ensures)
