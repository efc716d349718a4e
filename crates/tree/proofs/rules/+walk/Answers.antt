-- Each way out is a law of one visit; the depth falls with each call.
-- Parts: the ways out by the tests of the slot itself; the left part; the right part; both parts, which are joined.
use mathlib.Core.Path.{◌≡◌, sym, ap, ◌∙◌}
use Prim.Native.Nat.{◌-◌}
use native.Mathlib.Omega.{arith}
use Rattle.std.proofs.Common.{rules}
use Rattle.tree.specs.Rules.{breaks, part_of, judged}
use Rattle.tree.proofs.Judging.{walk_null, walk_outside, walk_spent, walk_deep, walk_wrong, walk_loud, Visit, walk_left_breaks}
use Rattle.tree.proofs.Judging.{walk_falls, walk_right_breaks, BothParts, both_parts, walk_joined}
use Rattle.tree.proofs.rules.+walk.Goals as goal
use Rattle.tree.proofs.rules.+walk.Goals.{then-l, else-l, then-r, else-r}

pub returns-then-i-eq-NULL : goal.returns-then-i-eq-NULL
returns-then-i-eq-NULL t c = search (rules, walk_null)

pub returns-then-names-i : goal.returns-then-names-i
returns-then-names-i t c = search (rules, walk_outside)

pub returns-then-visits-eq0 : goal.returns-then-visits-eq0
returns-then-visits-eq0 t c = search (rules, walk_spent)

pub returns-then-depth-eq0 : goal.returns-then-depth-eq0
returns-then-depth-eq0 t c = search (rules, walk_deep)

pub returns-then-not-upright : goal.returns-then-not-upright
returns-then-not-upright t c = search (rules, walk_wrong)

pub returns-then-not-calm : goal.returns-then-not-calm
returns-then-not-calm t c = search (rules, walk_loud)

pub returns-in_err-lefts : goal.returns-in_err-lefts
returns-in_err-lefts t c =
    let a = c.args in
    let v : Visit a.names.now a.cells.now a.q a.i a.depth a.visits = search rules in
    let lefts : part_of c.if-l.below ≡ judged a.names.now a.cells.now a.sizes.now a.i a.last c.get-l.result (a.depth - 1) (a.visits - 1)
    = elim c.if-l.branch [ then-l w ↦ search (rules, walk_null) | else-l w ↦ search rules ] in
    let e : breaks ≡ judged a.names.now a.cells.now a.sizes.now a.q a.last a.i a.depth a.visits
    = walk_left_breaks a.names.now a.cells.now a.sizes.now a.q a.last a.i a.depth a.visits v c.get-l.ensures
    (ap part_of (sym c.in_err-lefts.was) ∙ lefts) in
    search rules

pub returns-then-not-rising : goal.returns-then-not-rising
returns-then-not-rising t c =
    let a = c.args in
    let v : Visit a.names.now a.cells.now a.q a.i a.depth a.visits = search rules in
    let lefts : part_of c.if-l.below ≡ judged a.names.now a.cells.now a.sizes.now a.i a.last c.get-l.result (a.depth - 1) (a.visits - 1)
    = elim c.if-l.branch [ then-l w ↦ search (rules, walk_null) | else-l w ↦ search rules ] in
    walk_falls a.names.now a.cells.now a.sizes.now a.q a.last a.i a.depth a.visits v c.get-l.ensures
    (ap part_of (sym c.in_ok-lefts.was) ∙ lefts) c.follow-rising.ensures c.if-not-rising.true

pub returns-in_err-rights : goal.returns-in_err-rights
returns-in_err-rights t c =
    let a = c.args in
    let v : Visit a.names.now a.cells.now a.q a.i a.depth a.visits = search rules in
    let lefts : part_of c.if-l.below ≡ judged a.names.now a.cells.now a.sizes.now a.i a.last c.get-l.result (a.depth - 1) (a.visits - 1)
    = elim c.if-l.branch [ then-l w ↦ search (rules, walk_null) | else-l w ↦ search rules ] in
    let rights : part_of c.if-r.after
    ≡ judged a.names.now a.cells.now a.sizes.now a.i a.i c.get-r.result (a.depth - 1) c.in_ok-lefts.lefts.rest
    = elim c.if-r.branch [ then-r w ↦ search (rules, walk_null) | else-r w ↦ search rules ] in
    let e : breaks ≡ judged a.names.now a.cells.now a.sizes.now a.q a.last a.i a.depth a.visits
    = walk_right_breaks a.names.now a.cells.now a.sizes.now a.q a.last a.i a.depth a.visits v c.get-l.ensures
    (ap part_of (sym c.in_ok-lefts.was) ∙ lefts) c.follow-rising.ensures c.if-not-rising.false c.get-r.ensures
    (ap part_of (sym c.in_err-rights.was) ∙ rights) in
    search rules

pub join-requires-clause-spent : goal.join-requires-clause-spent
join-requires-clause-spent t c =
    let a = c.args in
    let v : Visit a.names.now a.cells.now a.q a.i a.depth a.visits = search rules in
    let lefts : part_of c.if-l.below ≡ judged a.names.now a.cells.now a.sizes.now a.i a.last c.get-l.result (a.depth - 1) (a.visits - 1)
    = elim c.if-l.branch [ then-l w ↦ search (rules, walk_null) | else-l w ↦ search rules ] in
    let rights : part_of c.if-r.after
    ≡ judged a.names.now a.cells.now a.sizes.now a.i a.i c.get-r.result (a.depth - 1) c.in_ok-lefts.lefts.rest
    = elim c.if-r.branch [ then-r w ↦ search (rules, walk_null) | else-r w ↦ search rules ] in
    let w : BothParts a.names.now a.cells.now a.sizes.now a.q a.last a.i a.depth a.visits
    = both_parts a.names.now a.cells.now a.sizes.now a.q a.last a.i a.depth a.visits v c.get-l.ensures
    (ap part_of (sym c.in_ok-lefts.was) ∙ lefts) c.follow-rising.ensures c.if-not-rising.false c.get-r.ensures
    (ap part_of (sym c.in_ok-rights.was) ∙ rights) in
    omega (arith, w.first, w.second)

pub join-requires-clause-few : goal.join-requires-clause-few
join-requires-clause-few t c =
    let a = c.args in
    let v : Visit a.names.now a.cells.now a.q a.i a.depth a.visits = search rules in
    let lefts : part_of c.if-l.below ≡ judged a.names.now a.cells.now a.sizes.now a.i a.last c.get-l.result (a.depth - 1) (a.visits - 1)
    = elim c.if-l.branch [ then-l w ↦ search (rules, walk_null) | else-l w ↦ search rules ] in
    let rights : part_of c.if-r.after
    ≡ judged a.names.now a.cells.now a.sizes.now a.i a.i c.get-r.result (a.depth - 1) c.in_ok-lefts.lefts.rest
    = elim c.if-r.branch [ then-r w ↦ search (rules, walk_null) | else-r w ↦ search rules ] in
    let w : BothParts a.names.now a.cells.now a.sizes.now a.q a.last a.i a.depth a.visits
    = both_parts a.names.now a.cells.now a.sizes.now a.q a.last a.i a.depth a.visits v c.get-l.ensures
    (ap part_of (sym c.in_ok-lefts.was) ∙ lefts) c.follow-rising.ensures c.if-not-rising.false c.get-r.ensures
    (ap part_of (sym c.in_ok-rights.was) ∙ rights) in
    omega (arith, w.shallow, c.if-depth-eq0.false, c.ranges.depth)

pub returns : goal.returns
returns t c =
    let a = c.args in
    let v : Visit a.names.now a.cells.now a.q a.i a.depth a.visits = search rules in
    let lefts : part_of c.if-l.below ≡ judged a.names.now a.cells.now a.sizes.now a.i a.last c.get-l.result (a.depth - 1) (a.visits - 1)
    = elim c.if-l.branch [ then-l w ↦ search (rules, walk_null) | else-l w ↦ search rules ] in
    let rights : part_of c.if-r.after
    ≡ judged a.names.now a.cells.now a.sizes.now a.i a.i c.get-r.result (a.depth - 1) c.in_ok-lefts.lefts.rest
    = elim c.if-r.branch [ then-r w ↦ search (rules, walk_null) | else-r w ↦ search rules ] in
    let w : BothParts a.names.now a.cells.now a.sizes.now a.q a.last a.i a.depth a.visits
    = both_parts a.names.now a.cells.now a.sizes.now a.q a.last a.i a.depth a.visits v c.get-l.ensures
    (ap part_of (sym c.in_ok-lefts.was) ∙ lefts) c.follow-rising.ensures c.if-not-rising.false c.get-r.ensures
    (ap part_of (sym c.in_ok-rights.was) ∙ rights) in
    walk_joined w c.join.ensures
