-- The loop's invariant: the slots met so far and those met from here are those met from the start.
use mathlib.Core.Path.{◌≡◌}
use Prim.Native.Nat.{◌-◌, ◌^◌, ◌<◌}
use Rattle.script_rules.specs.Answers.{met}
use Rattle.console.proofs.Listing.{raised}
use Rattle.console.proofs.answer.count_chain.Given as goal

abbrev pub invariant-loop-count : goal.invariant-loop-count
invariant-loop-count l = (raised l.count (met (l.n - l.count) l.n l.cells l.i) ≡ met l.n l.n l.cells l.first) × (l.i < 2 ^ 32)
