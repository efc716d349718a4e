-- Each way out of the loop is a law of the search after so many looks.
use mathlib.Core.Path.{sym, ap, ◌∙◌}
use native.Mathlib.Omega.{arith}
use Rattle.tree_rules.specs.Find.{slots_of, searched, found}
use Rattle.tree_rules.proofs.Looks.{tree_runs}
use Rattle.tree.specs.Find.{seen_of}
use Rattle.tree.proofs.Searching.{begun, ended, outside, spent, met, onward}
use Rattle.tree.proofs.find.find_tree_node.Goals as goal

pub loop-looks-init : goal.loop-looks-init
unfolding found
loop-looks-init c =
    let a = c.args in
    begun (slots_of a.names.now) (λ v. searched a.names.now a.cells.now v a.root a.hash a.key)

pub returns-then-slots-p : goal.returns-then-slots-p
returns-then-slots-p c =
    let a = c.args in
    outside (tree_runs a.names.now a.cells.now a.hash a.key) c.loop-looks.p c.loop-looks.looks c.loop-looks.invariant
    c.if-slots-p.true c.off.ensures

pub returns-then-p : goal.returns-then-p
returns-then-p c =
    let a = c.args in
    ended (tree_runs a.names.now a.cells.now a.hash a.key) c.loop-looks.p c.loop-looks.looks c.loop-looks.invariant c.if-p.true

pub returns-in_default : goal.returns-in_default
returns-in_default c =
    let a = c.args in
    met (tree_runs a.names.now a.cells.now a.hash a.key) c.loop-looks.p c.loop-looks.looks c.loop-looks.invariant
    c.if-p.false c.if-slots-p.false c.loop-looks-test.true (ap seen_of (sym c.in_default.is) ∙ c.look-onward.ensures)

pub loop-looks-preserved : goal.loop-looks-preserved
loop-looks-preserved c =
    let a = c.args in
    onward (tree_runs a.names.now a.cells.now a.hash a.key) c.loop-looks.p c.loop-looks.looks c.loop-looks.invariant
    c.if-p.false c.if-slots-p.false c.loop-looks-test.true (ap seen_of (sym c.in-Some.is) ∙ c.look-onward.ensures)

pub returns : goal.returns
returns c =
    let a = c.args in
    spent (tree_runs a.names.now a.cells.now a.hash a.key) c.loop-looks.p c.loop-looks.looks c.loop-looks.invariant
    (omega (arith, c.loop-looks-test.false, c.loop-looks.auto)) c.off-2.ensures
