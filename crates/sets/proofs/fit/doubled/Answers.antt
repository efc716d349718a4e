use mathlib.Core.Path.{◌≡◌, sym}
use mathlib.Core.Logic.{◌≢◌}
use borrow.Author.Rules.{rules}
use Prim.Native.Nat.{◌+◌, ◌-◌, ◌*◌}
use native.Mathlib.Omega.{arith}
use lib.ListN.{length, get_or}
use Rattle.sets.proofs.Sized.{doubled_none, doubled_on, doubled_no}
use Rattle.sets.proofs.fit.doubled.Goals as goal

pub loop-k-init : goal.loop-k-init
loop-k-init c =
    let l = c.args.lengths.now in
    (doubled_none l, c.word-short.ensures, search rules, search rules, search rules)

pub returns-then-long-short : goal.returns-then-long-short
returns-then-long-short c =
    let l = c.args.lengths.now in
    let k = c.loop-k.k in
    let i = c.loop-k.invariant in
    let n : get_or l k 0 ≢ 2 * get_or l (k - 1) 0 = omega (arith, c.if-long-short.true, i.1) in
    sym (doubled_no l k i.2 n (length l - 1) (omega (arith, c.loop-k-test.true)))

pub loop-k-preserved : goal.loop-k-preserved
loop-k-preserved c =
    let l = c.args.lengths.now in
    let k = c.loop-k.k in
    let i = c.loop-k.invariant in
    let e : get_or l k 0 ≡ 2 * get_or l (k - 1) 0 = omega (arith, c.if-long-short.false, i.1) in
    let z : k + 1 - 1 ≡ k = omega arith in
    rw z (doubled_on l k i.2 i.0 e, search rules, search rules, search rules, search rules)

pub returns : goal.returns
returns c =
    let l = c.args.lengths.now in
    let z : c.loop-k.k - 1 ≡ length l - 1 = omega (arith, c.loop-k-test.false) in
    sym (rw z at c.loop-k.invariant.0)
