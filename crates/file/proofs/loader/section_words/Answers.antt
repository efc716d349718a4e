-- Each section by its number.
use mathlib.Core.Path.{refl}
use native.Mathlib.Omega.{arith}
use Rattle.file_rules.specs.Layout.{section_words}
use Rattle.file.proofs.Tables.{words_past}
use Rattle.file.proofs.loader.section_words.Goals as goal

pub returns-in-0 : goal.returns-in-0
unfolding section_words
returns-in-0 c = rw c.in-0.is (refl, omega arith)

pub returns-in-1 : goal.returns-in-1
unfolding section_words
returns-in-1 c = rw c.in-1.is (refl, omega arith)

pub returns-in-2 : goal.returns-in-2
unfolding section_words
returns-in-2 c = rw c.in-2.is (refl, omega arith)

pub returns-in_default : goal.returns-in_default
returns-in_default c = let n = c.in_default.in_default-own.rest in (words_past _ _ n.0.0.1 n.0.1 n.1, omega arith)
