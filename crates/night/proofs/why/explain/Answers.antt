-- The two whole rules first, then the search.
use borrow.Author.Rules.{rules}
use Rattle.index_rules.specs.Live.{lent_tree}
use Rattle.night_rules.specs.Why.{shows1}
use Rattle.night.specs.Shown.{shows_rule, sought}
use Rattle.night.proofs.why.explain.Goals as goal

pub returns-then-not-rule1 : goal.returns-then-not-rule1
unfolding sought shows_rule
returns-then-not-rule1 c =
    let a = c.args in
    let t = lent_tree a.names.now a.cells.now a.head.now a.sizes.now in
    let e = c.lowest-i.ensures.lowest (shows1 t) (λ i l b p. search rules) in
    rw (← c.rule1.ensures a.sizes.now, c.if-not-rule1.true, ← e, ← c.unwrap_or.ensures)
    c.tells_slot.ensures

pub returns-then-not-rule2 : goal.returns-then-not-rule2
unfolding sought
returns-then-not-rule2 c =
    let a = c.args in
    rw (
      ← c.rule1.ensures a.sizes.now,
      c.if-not-rule1.false,
      ← c.rule2.ensures a.names.now a.cells.now a.sizes.now,
      c.if-not-rule2.true,
    )
    c.tells_slot-then-not-rule2.ensures

pub returns : goal.returns
unfolding sought
returns c =
    let a = c.args in
    rw (
      ← c.rule1.ensures a.sizes.now,
      c.if-not-rule1.false,
      ← c.rule2.ensures a.names.now a.cells.now a.sizes.now,
      c.if-not-rule2.false,
    )
    c.first_shown.ensures
