-- The count, and then words.
use native.Mathlib.Omega.{arith}
use Rattle.file.proofs.Tables.{begun_none, begun_some}
use Rattle.file.proofs.loader.begun_long.Goals as goal

pub returns-then-f-eq0 : goal.returns-then-f-eq0
returns-then-f-eq0 c = (begun_none _ _ c.if-f-eq0.true, omega arith)

pub returns : goal.returns
returns c =
    (begun_some _ _ c.if-f-eq0.false c.words_long.ensures.0, omega (arith, c.words_long.ensures.1))
