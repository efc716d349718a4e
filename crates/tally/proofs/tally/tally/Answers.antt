-- Each way out is one of the model's.
use native.Mathlib.Omega.{arith}
use Rattle.set_rules.specs.Words.{lent_set}
use Rattle.tally.proofs.Tallied.{unfit_tallies, in_range_lem, wide_room, counted-word, many_tallies, turned-tallies, taken-tallies}
use Rattle.tally.proofs.Tallied.{yes_fits, not-fits}
use Rattle.tally.proofs.tally.tally.Goals as goal

pub returns-then-not-fit : goal.returns-then-not-fit
returns-then-not-fit c =
    let a = c.args in
    let s = lent_set a.lengths.now a.bins.now a.heads.now a.names.now a.cells.now in
    unfit_tallies s a.totals.now c.fit_totals-fit.ensures c.if-not-fit.true

pub overflow_add-sets : goal.overflow_add-sets
overflow_add-sets c =
    let a = c.args in
    let s = lent_set a.lengths.now a.bins.now a.heads.now a.names.now a.cells.now in
    omega (
      arith,
      counted-word s a.totals.now c.fit_totals-fit.ensures c.if-not-fit.false c.word-sets.ensures
          c.word-refused.ensures,
    )

pub returns-then-sets-refused-ge-MOST_SETS : goal.returns-then-sets-refused-ge-MOST_SETS
returns-then-sets-refused-ge-MOST_SETS c =
    let a = c.args in
    let s = lent_set a.lengths.now a.bins.now a.heads.now a.names.now a.cells.now in
    many_tallies s a.totals.now c.fit_totals-fit.ensures c.if-not-fit.false c.word-sets.ensures
    c.word-refused.ensures
    c.if-sets-refused-ge-MOST_SETS.true

pub returns-then-not-accepted : goal.returns-then-not-accepted
returns-then-not-accepted c =
    let a = c.args in
    let s = lent_set a.lengths.now a.bins.now a.heads.now a.names.now a.cells.now in
    turned-tallies s a.totals.now c.fit_totals-fit.ensures c.if-not-fit.false c.word-sets.ensures
    c.word-refused.ensures
    c.if-sets-refused-ge-MOST_SETS.false
    (not-fits s c.accept.result c.accept.ensures c.unwrap_or-accepted.ensures c.if-not-accepted.true)
    c.add_to.ensures

pub add_set-requires : goal.add_set-requires
add_set-requires c =
    let a = c.args in
    let s = lent_set a.lengths.now a.bins.now a.heads.now a.names.now a.cells.now in
    let fine = c.if-not-fit.false in (
      (yes_fits s c.accept.result c.accept.ensures c.unwrap_or-accepted.ensures c.if-not-accepted.false).0,
      (in_range_lem s a.totals.now c.fit_totals-fit.ensures fine).long,
      wide_room s a.totals.now c.fit_totals-fit.ensures fine,
    )

pub returns : goal.returns
returns c =
    let a = c.args in
    let s = lent_set a.lengths.now a.bins.now a.heads.now a.names.now a.cells.now in
    let both = yes_fits s c.accept.result c.accept.ensures c.unwrap_or-accepted.ensures c.if-not-accepted.false in
    taken-tallies s a.totals.now c.fit_totals-fit.ensures c.if-not-fit.false c.word-sets.ensures
    c.word-refused.ensures
    c.if-sets-refused-ge-MOST_SETS.false
    both.0
    both.1
    c.add_set.ensures
