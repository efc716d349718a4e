-- A name, or a cell.
use native.Mathlib.Omega.{arith}
use Rattle.file.proofs.Bytewise.{slot_name, slot_cell, cell-small}
use Rattle.file.proofs.bytes.put_slot_word.Goals as goal

pub returns-then-f-lt2 : goal.returns-then-f-lt2
returns-then-f-lt2 c =
    slot_name _ _ _ _ _ c.if-f-lt2.true c.put_word.ensures

pub put_four-requires : goal.put_four-requires
put_four-requires c =
    (omega (arith, c.requires.0, c.requires.1), cell-small _ _ c.if-f-lt2.false c.requires.2)

pub returns : goal.returns
returns c =
    slot_cell _ _ _ _ _ c.if-f-lt2.false c.put_four.ensures
