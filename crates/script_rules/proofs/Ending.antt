-- What the call at the end of the input comes to.
use mathlib.Core.Path.{◌≡◌}
use mathlib.Core.Logic.{◌≢◌}
use Prim.Native.Nat.{◌<◌, ◌≤◌}
use lib.ListN.{length}
use borrow.Author.Tests.{lt-ltb, le-ltb, eq-eqb, ne_eqb}
use Rattle.script_rules.specs.Commands.{spoken}
use Rattle.script_rules.specs.Feeding.{Line, blank_line, held_of, longest, CommandTurn, performed, Desk, answered, Fed, fed, finishes}

module _ (d : Desk) where
  pub ends_short : length d.paper.bytes < longest → ◌≡◌ {A = Fed} (record { number = 1; desk = d; taken = 0 }) (finishes d)
  unfolding finishes
  ends_short h = rw (lt-ltb _ _ h)

  module _ (room : longest ≤ length d.paper.bytes) where
    pub ends_none : d.line.count ≡ 0 → fed 0 d ≡ finishes d
    unfolding finishes
    ends_none e = rw (le-ltb _ _ room, eq-eqb _ _ e)

    pub ends_line : {t : CommandTurn} {l : Line} → d.line.count ≢ 0 → t ≡ performed d.index d.paper (spoken (held_of d.line))
        → l ≡ blank_line
        → fed 0 (record { line = l; index = t.index; paper = t.paper }) ≡ finishes d
    unfolding finishes answered
    ends_line n f g = rw (le-ltb _ _ room, ne_eqb _ _ n, f, g)
