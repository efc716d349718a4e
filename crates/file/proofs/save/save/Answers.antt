-- Each way out is one of the model's.
use mathlib.Core.Path.{ap, sym, ◌∙◌}
use native.Mathlib.Omega.{arith}
use Rattle.set_rules.specs.Words.{lent_set}
use Rattle.upload_rules.proofs.Ranges.{no_test}
use Rattle.slots.specs.Coded.{verdict}
use Rattle.file.proofs.Stepping.{unfit_told}
use Rattle.file.proofs.Saving.{unfit_saves, short_saves, fit_lengths, size_small, has_room_lem, damaged_saves, done-saves}
use Rattle.file.proofs.save.save.Goals as goal

pub returns-then-not-fit : goal.returns-then-not-fit
returns-then-not-fit c =
    let a = c.args in
    let s = lent_set a.lengths.now a.bins.now a.heads.now a.names.now a.cells.now in
    unfit_saves s a.out.now (sym c.fit_set-fit.ensures ∙ c.if-not-fit.true)

pub file_size-size-requires : goal.file_size-size-requires
file_size-size-requires c =
    let a = c.args in
    let s = lent_set a.lengths.now a.bins.now a.heads.now a.names.now a.cells.now in
    fit_lengths s a.out.now (sym c.fit_set-fit.ensures ∙ c.if-not-fit.false)

pub returns-then-out-size : goal.returns-then-out-size
returns-then-out-size c =
    let a = c.args in
    let s = lent_set a.lengths.now a.bins.now a.heads.now a.names.now a.cells.now in
    short_saves s a.out.now c.file_size-size.ensures c.if-out-size.true

pub returns-in_err-accepted : goal.returns-in_err-accepted
returns-in_err-accepted c =
    let a = c.args in
    let s = lent_set a.lengths.now a.bins.now a.heads.now a.names.now a.cells.now in
    absurd (no_test (unfit_told s (c.in_err-accepted.ensures)) (sym c.fit_set-fit.ensures ∙ c.if-not-fit.false))

pub returns-then-not-accepted : goal.returns-then-not-accepted
returns-then-not-accepted c =
    let a = c.args in
    let s = lent_set a.lengths.now a.bins.now a.heads.now a.names.now a.cells.now in
    damaged_saves s a.out.now (sym c.fit_set-fit.ensures ∙ c.if-not-fit.false) c.file_size-size.ensures c.if-out-size.false
    (ap verdict (sym c.if-not-accepted.true) ∙ c.in_ok-accepted.ensures)

pub put_set-requires : goal.put_set-requires
put_set-requires c =
    let a = c.args in
    let s = lent_set a.lengths.now a.bins.now a.heads.now a.names.now a.cells.now in
    has_room_lem s a.out.now (sym c.fit_set-fit.ensures ∙ c.if-not-fit.false) c.file_size-size.ensures c.if-out-size.false

pub overflow_cast-result : goal.overflow_cast-result
overflow_cast-result c =
    let a = c.args in
    let s = lent_set a.lengths.now a.bins.now a.heads.now a.names.now a.cells.now in
    omega (arith, size_small s a.out.now (sym c.fit_set-fit.ensures ∙ c.if-not-fit.false) c.file_size-size.ensures)

pub returns : goal.returns
returns c =
    let a = c.args in
    let s = lent_set a.lengths.now a.bins.now a.heads.now a.names.now a.cells.now in
    done-saves s a.out.now (sym c.fit_set-fit.ensures ∙ c.if-not-fit.false) c.file_size-size.ensures c.if-out-size.false
    (ap verdict (sym c.if-not-accepted.false) ∙ c.in_ok-accepted.ensures) c.put_set.ensures
