-- The test of the slot's words, and that of its pair, are the model's.
use Rattle.sets.proofs.Steps.{slot_parts}
use Rattle.sets.proofs.lists.list_slot_fine.Goals as goal

pub returns-then-slot_home : goal.returns-then-slot_home
returns-then-slot_home c =
    let a = c.args in
    rw (
      slot_parts a.names.now a.cells.now a.length a.i a.x a.visits,
      ← c.slot_home.ensures,
      c.if-slot_home.true,
      ← c.get.ensures,
    )
    c.unlike.ensures

pub returns-else-slot_home : goal.returns-else-slot_home
returns-else-slot_home c =
    let a = c.args in
    rw (
      slot_parts a.names.now a.cells.now a.length a.i a.x a.visits,
      ← c.slot_home.ensures,
      c.if-slot_home.false,
    )
