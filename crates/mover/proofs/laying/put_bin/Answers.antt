-- The word is written where it is there, and nothing where it is not.
use mathlib.Core.Path.{sym}
use Prim.Native.Nat.{◌+◌, ◌≤◌}
use native.Mathlib.Omega.{arith}
use lib.ListN.{length}
use lib.Seq.{set_out}
use Rattle.set_rules.specs.Words.{bins_before}
use Rattle.mover.proofs.laying.put_bin.Goals as goal

pub returns-then-bins-from : goal.returns-then-bins-from
returns-then-bins-from c =
    let a = c.args in
    let h : length a.bins.now ≤ bins_before a.lengths.now a.k + a.i =
    omega (arith, c.if-bins-from.true, c.bins_before-from.ensures) in
    sym (set_out a.bins.now _ a.w h)

pub returns-then-bins-from-2 : goal.returns-then-bins-from-2
returns-then-bins-from-2 c =
    let a = c.args in
    let h : length a.bins.now ≤ bins_before a.lengths.now a.k + a.i =
    omega (arith, c.if-bins-from-2.true, c.bins_before-from.ensures) in
    sym (set_out a.bins.now _ a.w h)

pub returns : goal.returns
returns c = rw (← c.bins_before-from.ensures)
