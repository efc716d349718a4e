-- The loop's invariant: the bytes of the rest, written from here, leave what all leave.
use mathlib.Core.Path.{◌≡◌}
use Prim.Native.Nat.{◌-◌}
use lib.ListN.{length}
use Rattle.endian.specs.Bytes.{little}
use Rattle.script_rules.specs.Feeding.{typed, lent_paper}
use Rattle.dump.proofs.write.put_little.Given as goal

abbrev pub invariant-loop : goal.invariant-loop
invariant-loop l =
    (typed (lent_paper l.out l.end) (little (l.k - l.counter) l.rest) ≡ typed (lent_paper l.initial.out l.at) (little l.k l.x)) ×
    (length l.out ≡ length l.initial.out)
