-- Each way out of the loop is a law of the search after so many looks.
use native.Mathlib.Omega.{arith}
use borrow.Author.Tests.{eq-eqb, ne_eqb}
use Rattle.tree_rules.specs.Find.{slots_of}
use Rattle.tree.proofs.Searching.{begun, ended, outside, spent, met, onward}
use Rattle.set_rules.specs.Lookup.{sought_in_list}
use Rattle.set_rules.proofs.Looks.{list_runs}
use Rattle.sets.proofs.Looking.{read_here, read_on_lem}
use Rattle.sets.proofs.lookup.find_in_list.Goals as goal

pub loop-looks-init : goal.loop-looks-init
loop-looks-init c =
    let a = c.args in
    begun (slots_of a.names.now) (λ v. sought_in_list a.names.now a.cells.now v a.first a.hash a.key)

pub returns-then-p : goal.returns-then-p
returns-then-p c =
    let a = c.args in
    ended (list_runs a.names.now a.cells.now a.hash a.key) c.loop-looks.p c.loop-looks.looks c.loop-looks.invariant c.if-p.true

pub returns-then-slots-p : goal.returns-then-slots-p
returns-then-slots-p c =
    let a = c.args in
    outside (list_runs a.names.now a.cells.now a.hash a.key) c.loop-looks.p c.loop-looks.looks c.loop-looks.invariant
    c.if-slots-p.true (rw (ne_eqb _ _ c.if-p.false))

pub returns-then-has : goal.returns-then-has
returns-then-has c =
    let a = c.args in
    met (list_runs a.names.now a.cells.now a.hash a.key) c.loop-looks.p c.loop-looks.looks c.loop-looks.invariant
    c.if-p.false c.if-slots-p.false c.loop-looks-test.true (read_here _ _ _ _ _ c.has_pair-has.ensures c.if-has.true)

pub loop-looks-preserved : goal.loop-looks-preserved
loop-looks-preserved c =
    let a = c.args in
    onward (list_runs a.names.now a.cells.now a.hash a.key) c.loop-looks.p c.loop-looks.looks c.loop-looks.invariant
    c.if-p.false c.if-slots-p.false c.loop-looks-test.true
    (read_on_lem _ _ _ _ _ c.has_pair-has.ensures c.if-has.false c.get-p.ensures)

pub returns-then-p-2 : goal.returns-then-p-2
returns-then-p-2 c =
    let a = c.args in
    spent (list_runs a.names.now a.cells.now a.hash a.key) c.loop-looks.p c.loop-looks.looks c.loop-looks.invariant
    (omega (arith, c.loop-looks-test.false, c.loop-looks.auto)) (rw (eq-eqb _ _ c.if-p-2.true))

pub returns : goal.returns
returns c =
    let a = c.args in
    spent (list_runs a.names.now a.cells.now a.hash a.key) c.loop-looks.p c.loop-looks.looks c.loop-looks.invariant
    (omega (arith, c.loop-looks-test.false, c.loop-looks.auto)) (rw (ne_eqb _ _ c.if-p-2.false))
