-- The bytes of the sections before.
use mathlib.Core.Path.{◌≡◌}
use Prim.Native.Nat.{◌*◌, ◌≤◌}
use Rattle.file_rules.specs.Loader.{wholes_long}
use Rattle.file.specs.Meanings.{loader_words}
use Rattle.file.proofs.loader.wholes_long.Given as goal

abbrev pub invariant-loop-s : goal.invariant-loop-s
invariant-loop-s l = (l.bytes ≡ wholes_long (loader_words l.r) l.s) × (l.bytes ≤ 400004 * l.s)
