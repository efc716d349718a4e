use mathlib.Core.Path.{sym, ◌∙◌}
use Prim.Native.Nat.{ℕ, ◌≤◌, ◌-◌}
use native.Mathlib.Omega.{arith}
use borrow.Author.Rules.{rules}
use Rattle.tree_rules.proofs.Visits.{chain_null, chain_outside, chain_spent, chain_astray, chain_on}
use Rattle.tree.proofs.chain.chain.Goals as goal

one_less_lem : (v n : ℕ) → v ≤ n → v - 1 ≤ n
one_less_lem v n h = omega arith

pub returns-then-n-i : goal.returns-then-n-i
returns-then-n-i c =
    let a = c.args in
    chain_outside a.n a.cells.now c.loop-i.q c.loop-i.i c.loop-i.visits c.loop-i-test.true
    c.if-n-i.true
    ∙ c.loop-i.invariant.0

pub returns-then-visits-eq0 : goal.returns-then-visits-eq0
returns-then-visits-eq0 c =
    let a = c.args in
    chain_spent a.n a.cells.now c.loop-i.q c.loop-i.i c.loop-i.visits c.loop-i-test.true
    c.if-visits-eq0.true
    ∙ c.loop-i.invariant.0

pub returns-then-back-q : goal.returns-then-back-q
returns-then-back-q c =
    let a = c.args in
    chain_astray a.n a.cells.now c.loop-i.q c.loop-i.i c.loop-i.visits c.loop-i-test.true
    c.if-n-i.false c.get-back.ensures c.if-back-q.true
    ∙ c.loop-i.invariant.0

pub loop-i-preserved : goal.loop-i-preserved
loop-i-preserved c =
    let a = c.args in (
      sym
          (chain_on
          a.n
          a.cells.now
          c.loop-i.q
          c.loop-i.i
          c.loop-i.visits
          c.loop-i-test.true
          c.if-n-i.false
          c.if-visits-eq0.false
          c.get-back.ensures
          c.if-back-q.false
          c.get-next.ensures)
          ∙ c.loop-i.invariant.0,
      search rules,
      search rules,
      one_less_lem c.loop-i.visits a.n c.loop-i.invariant.3,
    )

pub returns : goal.returns
returns c =
    let a = c.args in
    chain_null a.n a.cells.now c.loop-i.q c.loop-i.i c.loop-i.visits c.loop-i-test.false
    ∙ c.loop-i.invariant.0
