-- The lines from here on leave what all lines leave.
use mathlib.Core.Path.{◌≡◌}
use Prim.Native.Nat.{◌-◌, ◌/◌}
use lib.ListN.{length}
use Rattle.set_rules.specs.Words.{lent_set}
use Rattle.set_rules.specs.Cursor.{starts}
use Rattle.script_rules.specs.Feeding.{typed, lent_paper}
use Rattle.sets.specs.Cursors.{cursor_of}
use Rattle.listing_rules.specs.Lines.{walk_lines}
use Rattle.listing.proofs.lines.tell_walk.Given as goal

abbrev pub invariant-loop-told : goal.invariant-loop-told
invariant-loop-told l =
    (typed (lent_paper l.out l.end)
    (walk_lines (length l.names / 2 - l._told) (lent_set l.lengths l.bins l.heads l.names l.cells) (cursor_of l.cursor))
    ≡ typed (lent_paper l.initial.out l.at)
    (walk_lines (length l.names / 2) (lent_set l.lengths l.bins l.heads l.names l.cells)
    (starts (lent_set l.lengths l.bins l.heads l.names l.cells) 0).cursor))
    × (length l.out ≡ length l.initial.out)
