-- What the values of this crate's structs mean.
use Rattle.std.specs.Prelude.{List, ℕ}
use Rattle.slots.specs.Coded.{told_by, done, unfit_told}
use Rattle.index_rules.specs.Index.{Index}
use Rattle.script_rules.specs.Feeding.{Line as Held, Fed as Outcome}
use Rattle.console.specs.declared.feed.Line.{Line}
use Rattle.console.specs.declared.feed.Fed.{Fed}

abbrev pub held_line : Line → Held
held_line l = record { bytes = l.bytes; count = l.count }

-- A call's answer, with what it leaves of the tree, the journal and the buffer.
abbrev pub fed_of : Fed → Index → List ℕ → Outcome
fed_of r ix out = record {
  number = (told_by done unfit_told r.answer).number;
  desk = record { line = held_line r.line; index = ix; paper = record { bytes = out; at = r.written } };
  taken = r.taken;
}
