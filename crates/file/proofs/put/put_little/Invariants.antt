-- The loop's invariant: the bytes that are still to be stored, from here on, come to what all of them come to from the start.
use mathlib.Core.Path.{◌≡◌}
use Prim.Native.Nat.{◌+◌, ◌-◌}
use lib.Seq.{sets}
use Rattle.endian.specs.Bytes.{little}
use Rattle.file.proofs.put.put_little.Given as goal

abbrev pub invariant-loop-i : goal.invariant-loop-i
invariant-loop-i l = sets l.out (l.at + l.i) (little (l.k - l.i) l.rest) ≡ sets l.initial.out l.at (little l.k l.x)
