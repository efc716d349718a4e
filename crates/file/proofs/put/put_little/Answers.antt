use mathlib.Core.Path.{sym, ◌∙◌}
use native.Mathlib.Omega.{arith}
use Rattle.file.proofs.Laying.{bytes_start, bytes_on, bytes_end}
use Rattle.file.proofs.put.put_little.Goals as goal

pub loop-i-init : goal.loop-i-init
loop-i-init c = bytes_start _ _ _ _

pub loop-i-preserved : goal.loop-i-preserved
loop-i-preserved c =
    let a = c.args in
    let l = c.loop-i in
    bytes_on l.out a.at l.i a.k l.rest c.low_byte.result c.loop-i-test.true c.low_byte.ensures ∙ l.invariant

pub returns : goal.returns
returns c =
    let a = c.args in
    let l = c.loop-i in
    sym (bytes_end l.out a.at l.i a.k l.rest (omega arith)) ∙ l.invariant
