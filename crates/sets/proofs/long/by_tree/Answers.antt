use mathlib.Core.Path.{sym, ◌∙◌}
use borrow.Author.Rules.{rules}
use borrow.Author.Tests.{not-false, not-true}
use Rattle.sets.proofs.Hanging.{begun, passed, spent, not_home, answer_none, answer_else, repeated, hung}
use Rattle.sets.proofs.long.by_tree.Goals as goal

pub loop-x-init : goal.loop-x-init
loop-x-init c =
    let a = c.args in (
      begun a.names.now a.cells.now a.bins a.i a.first a.visits _ _ (search rules),
      search rules,
      search rules,
      search rules,
      search rules,
    )

pub returns-then-left-eq0 : goal.returns-then-left-eq0
returns-then-left-eq0 c =
    let a = c.args in
    spent a.names.now a.cells.now a.bins a.i a.first a.visits c.requires c.loop-x.invariant.0
    c.loop-x-test.true c.if-left-eq0.true

pub returns-then-not-home : goal.returns-then-not-home
returns-then-not-home c =
    let a = c.args in
    not_home a.names.now a.cells.now a.bins a.i a.first a.visits c.requires c.loop-x.invariant.0
    c.loop-x-test.true c.if-left-eq0.false
    (sym c.slot_home-home.ensures ∙ not-true c.slot_home-home.result c.if-not-home.true-raw)

pub returns-in-At : goal.returns-in-At
returns-in-At c =
    let a = c.args in
    repeated a.names.now a.cells.now a.bins a.i a.first a.visits c.requires c.loop-x.invariant.0
    c.loop-x-test.true c.if-left-eq0.false c.name-hash.ensures c.name-key.ensures
    (answer_else c.find_tree_node.result c.find_tree_node.ensures c.in-At.is)

pub loop-x-preserved : goal.loop-x-preserved
loop-x-preserved c =
    let a = c.args in (
      rw c.get-next.ensures
          (hung a.names.now a.cells.now a.bins a.i a.first a.visits c.requires c.loop-x.invariant.0
          c.loop-x-test.true c.if-left-eq0.false c.name-hash.ensures c.name-key.ensures
          (sym c.slot_home-home.ensures ∙ not-false c.slot_home-home.result c.if-not-home.false-raw)
          (answer_none c.find_tree_node.result c.find_tree_node.ensures c.in-Nothing.is)
          c.hang_slot-top.ensures),
      search rules,
      search rules,
      search rules,
      search rules,
    )

pub returns : goal.returns
returns c =
    let a = c.args in
    passed a.names.now a.cells.now a.bins a.i a.first a.visits c.requires c.loop-x.invariant.0 c.loop-x-test.false
