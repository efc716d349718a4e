-- The lowest from here on is the lowest from the start on, as long as none was met.
use mathlib.Core.Path.{◌≡◌}
use Prim.Native.Nat.{◌-◌}
use Rattle.move_rules.specs.Moving.{spare_from}
use Rattle.mover.proofs.headers.spare.Given as goal

abbrev pub invariant-loop-h : goal.invariant-loop-h
invariant-loop-h l = spare_from (l.headers - l.h) l.heads l.own l.h ≡ spare_from (l.headers - l.first) l.heads l.own l.first
