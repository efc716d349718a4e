-- The table from here on is that from table 0 on.
use mathlib.Core.Path.{◌≡◌}
use mathlib.Core.List.{List}
use Prim.Native.Nat.{ℕ, ◌-◌}
use Rattle.set_rules.specs.Words.{lent_set}
use Rattle.listing_rules.specs.Lines.{home_table}
use Rattle.listing.proofs.lines.home_table.Given as goal

abbrev pub invariant-loop-k : goal.invariant-loop-k
invariant-loop-k l =
    (heads names cells : List ℕ) → home_table (7 - l.k) (lent_set l.lengths l.bins heads names cells) l.k l.hash
    ≡ home_table 7 (lent_set l.lengths l.bins heads names cells) 0 l.hash
