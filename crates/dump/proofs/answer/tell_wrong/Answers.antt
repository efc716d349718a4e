-- Each thing that is wrong has its text.
use mathlib.Core.Path.{ap, sym, ◌∙◌}
use Rattle.script_rules.specs.Feeding.{typed}
use Rattle.dump.specs.Measures.{no_dump_of}
use Rattle.dump.proofs.Telling.{measured_text, short_text, long_text}
use Rattle.dump.proofs.answer.tell_wrong.Goals as goal

pub returns-in-Stub : goal.returns-in-Stub
returns-in-Stub c bytes e = c.fill.ensures ∙ ap (typed _) (measured_text _ (ap no_dump_of (sym c.in-Stub.is) ∙ e))

pub returns-in-SlotsOut : goal.returns-in-SlotsOut
returns-in-SlotsOut c bytes e = c.fill-in-SlotsOut.ensures ∙ ap (typed _) (measured_text _ (ap no_dump_of (sym c.in-SlotsOut.is) ∙ e))

pub returns-in-LinesOut : goal.returns-in-LinesOut
returns-in-LinesOut c bytes e = c.fill-in-LinesOut.ensures ∙ ap (typed _) (measured_text _ (ap no_dump_of (sym c.in-LinesOut.is) ∙ e))

pub returns-in-Short : goal.returns-in-Short
returns-in-Short c bytes e =
    c.fill-in-Short.ensures ∙ ap (typed _) (short_text _ _ _ _ c.dump_size.ensures (ap no_dump_of (sym c.in-Short.is) ∙ e))

pub returns-in-Long : goal.returns-in-Long
returns-in-Long c bytes e =
    c.fill-in-Long.ensures ∙ ap (typed _) (long_text _ _ _ c.dump_size-in-Long.ensures (ap no_dump_of (sym c.in-Long.is) ∙ e))
