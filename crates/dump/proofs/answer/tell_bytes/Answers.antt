-- A dump has its text, and what is wrong with other bytes has its own.
use mathlib.Core.Path.{ap, sym, ◌∙◌}
use Rattle.script_rules.specs.Feeding.{typed}
use Rattle.dump.specs.Measures.{measure_of}
use Rattle.dump_rules.proofs.Measuring.{whole_is}
use Rattle.dump.proofs.Telling.{measured_text}
use Rattle.dump.proofs.answer.tell_bytes.Goals as goal

pub tell_dump-requires : goal.tell_dump-requires
tell_dump-requires c = let w = whole_is _ (sym c.in-Ok.ensures) in (w.most, w.lined)

pub returns-in-Ok : goal.returns-in-Ok
returns-in-Ok c = c.tell_dump.ensures ∙ ap (typed _) (measured_text _ c.in-Ok.ensures)

pub returns-in-Err : goal.returns-in-Err
returns-in-Err c = c.tell_wrong.ensures _ c.in-Err.ensures
