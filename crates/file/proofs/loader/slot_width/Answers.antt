-- Each word of a slot by its number.
use Rattle.file_rules.specs.Layout.{slot_width}
use Rattle.file.proofs.Tables.{width_past}
use Rattle.file.proofs.loader.slot_width.Goals as goal

pub returns-in-0 : goal.returns-in-0
unfolding slot_width
returns-in-0 c = rw c.in-0.is

pub returns-in-1 : goal.returns-in-1
unfolding slot_width
returns-in-1 c = rw c.in-1.is

pub returns-in-3 : goal.returns-in-3
unfolding slot_width
returns-in-3 c = rw c.in-3.is

pub returns-in_default : goal.returns-in_default
returns-in_default c = let n = c.in_default.in_default-own.rest in width_past _ n.0.0.1 n.0.1 n.1
