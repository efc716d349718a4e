-- The loop's invariant: the rest of the chunk, fed from here, comes to what the whole of it comes to.
use mathlib.Core.Path.{◌≡◌}
use Prim.Native.Nat.{◌^◌, ◌<◌, ◌≤◌}
use lib.ListN.{length, drop}
use Rattle.script_rules.specs.Feeding.{lent_desk, feeding}
use Rattle.console.specs.Meanings.{held_line}
use Rattle.console.proofs.feed.feed.Given as goal

abbrev pub invariant-loop-i : goal.invariant-loop-i
invariant-loop-i l =
    (feeding (drop l.i l.chunk) l.i (lent_desk (held_line l.kept) l.names l.cells l.head l.sizes l.lines l.out l.written)
    ≡ feeding l.chunk 0
    (lent_desk
    (held_line l.initial.kept) l.initial.names l.initial.cells l.initial.head l.initial.sizes l.initial.lines l.initial.out 0))
    × (l.written ≤ length l.out)
    × (l.written < 2 ^ 64)
