-- Names, then the place, the state and the links.
use native.Mathlib.Omega.{arith}
use Rattle.file.proofs.Tables.{slot_long_first, slot_long_state, slot_long_last}
use Rattle.file.proofs.loader.slot_long.Goals as goal

pub returns-then-f-lt3 : goal.returns-then-f-lt3
returns-then-f-lt3 c = (slot_long_first _ c.if-f-lt3.true, omega (arith, c.if-f-lt3.true))

pub returns-then-f-eq3 : goal.returns-then-f-eq3
returns-then-f-eq3 c = (slot_long_state _ c.if-f-eq3.true, omega arith)

pub returns : goal.returns
returns c =
    (slot_long_last _ c.if-f-lt3.false c.if-f-eq3.false, omega (arith, c.requires))
