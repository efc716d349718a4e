-- The tests of fitness and of the cursor decide between 1, 11 and the step.
use mathlib.Core.Path.{sym, ◌∙◌}
use borrow.Author.Tests.{not-false}
use Rattle.set_rules.specs.Words.{Set}
use Rattle.sets.proofs.Sized.{fits_few}
use Rattle.sets.specs.Cursors.{cursor_of}
use Rattle.sets.proofs.Walking.{next_unfit, next_bad, next-stands, next-walked}
use Rattle.sets.proofs.walk.Cursor.step.Goals as goal

pub returns-then-not-fits : goal.returns-then-not-fits
returns-then-not-fits c =
    let a = c.args in
    let s : Set =
    record { lengths = a.lengths.now; bins = a.bins.now; heads = a.heads.now; names = a.names.now; cells = a.cells.now } in
    next_unfit s (cursor_of a.self) c.fit_set-fits.ensures c.if-not-fits.true

pub fine-right-requires : goal.fine-right-requires
fine-right-requires c =
    fits_few _ (sym c.fit_set-fits.ensures ∙ not-false c.fit_set-fits.result c.if-not-fits.false-raw)

pub returns-then-not-right : goal.returns-then-not-right
returns-then-not-right c =
    let a = c.args in
    let s : Set =
    record { lengths = a.lengths.now; bins = a.bins.now; heads = a.heads.now; names = a.names.now; cells = a.cells.now } in
    next_bad s (cursor_of a.self) c.fit_set-fits.ensures c.if-not-fits.false
    c.fine-right.ensures c.if-not-right.true

pub walk-requires : goal.walk-requires
walk-requires c =
    let a = c.args in
    let s : Set =
    record { lengths = a.lengths.now; bins = a.bins.now; heads = a.heads.now; names = a.names.now; cells = a.cells.now } in
    next-stands s (cursor_of a.self) c.fit_set-fits.ensures c.if-not-fits.false
    c.fine-right.ensures c.if-not-right.false

pub returns : goal.returns
returns c =
    let a = c.args in
    let s : Set =
    record { lengths = a.lengths.now; bins = a.bins.now; heads = a.heads.now; names = a.names.now; cells = a.cells.now } in
    next-walked
    s
    (cursor_of a.self)
    c.fit_set-fits.ensures
    c.if-not-fits.false
    c.fine-right.ensures
    c.if-not-right.false
    c.walk.ensures
