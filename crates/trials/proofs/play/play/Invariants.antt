-- The loop's invariant: what is left to play from here comes to what the whole comes to. The measure is what is left of the input: a call
-- takes some of its piece, and no more than there is.
use mathlib.Core.Path.{◌≡◌}
use Prim.Native.Nat.{◌-◌, ◌^◌, ◌<◌, ◌≤◌}
use lib.ListN.{length}
use Rattle.index_rules.specs.Index.{lent}
use Rattle.script_rules.specs.Feeding.{desk_of}
use Rattle.console.specs.Meanings.{held_line}
use Rattle.trials.specs.Playing.{playing}
use Rattle.trials.proofs.Steps.{Left}
use Rattle.trials.proofs.play.play.Given as goal

abbrev pub invariant-loop-at : goal.invariant-loop-at
invariant-loop-at l =
    Left l.cut l.expected l.input l.at l.said (desk_of (held_line l.kept) (lent l.names l.cells l.head l.sizes l.lines) l.out)
    (playing l.cut l.expected l.input (lent l.initial.names l.initial.cells l.initial.head l.initial.sizes l.initial.lines) l.initial.out)
    × (l.at ≤ length l.input)
    × (length l.input < 2 ^ 64)
    × (length l.names ≡ length l.initial.names)
    × (length l.cells ≡ length l.initial.cells)
    × (length l.head ≡ length l.initial.head)
    × (length l.sizes ≡ length l.initial.sizes)
    × (length l.lines ≡ length l.initial.lines)
    × (length l.out ≡ length l.initial.out)

abbrev pub decreases-loop-at : goal.decreases-loop-at
decreases-loop-at l =
    length l.input - l.at
