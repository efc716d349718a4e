-- By the test.
use borrow.Author.Tests.{eq-eqb, ne_eqb}
use Rattle.file.proofs.bytes.counted.Goals as goal

pub returns-then-s-own : goal.returns-then-s-own
returns-then-s-own c = rw (eq-eqb _ _ c.if-s-own.true)

pub returns : goal.returns
returns c = rw (ne_eqb _ _ c.if-s-own.false)
