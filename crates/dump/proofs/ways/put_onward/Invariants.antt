-- The loop's invariant: the rest of the way, written from here, leaves what the whole leaves.
use mathlib.Core.Path.{◌≡◌}
use Prim.Native.Nat.{◌-◌}
use lib.ListN.{length}
use Rattle.script_rules.specs.Feeding.{typed, lent_paper}
use Rattle.dump_rules.specs.Sentence.{onward}
use Rattle.dump.proofs.ways.put_onward.Given as goal

abbrev pub invariant-loop : goal.invariant-loop
invariant-loop l =
    (typed (lent_paper l.out l.end) (onward (l.budget - l.counter) l.cells l.link)
    ≡ typed (lent_paper l.initial.out l.at) (onward l.budget l.cells l.i))
    × (length l.out ≡ length l.initial.out)
