-- Each limit by its section.
use mathlib.Core.Path.{refl}
use native.Mathlib.Omega.{arith}
use Rattle.file_rules.specs.Layout.{most_of}
use Rattle.file.proofs.Tables.{most_past}
use Rattle.file.proofs.loader.most_of.Goals as goal

pub returns-in-0 : goal.returns-in-0
unfolding most_of
returns-in-0 c = rw c.in-0.is (refl, omega arith)

pub returns-in-1 : goal.returns-in-1
unfolding most_of
returns-in-1 c = rw c.in-1.is (refl, omega arith)

pub returns-in_default : goal.returns-in_default
returns-in_default c = let n = c.in_default.in_default-own.rest in (most_past _ n.0.1 n.1, omega arith)
