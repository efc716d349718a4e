-- A load that is given, or refused.
use mathlib.Core.Path.{refl, ap, ◌∙◌}
use Rattle.set_rules.specs.Words.{lent_set}
use Rattle.file.specs.Meanings.{loaded_of}
use Rattle.figure_rules.specs.Stream.{figures, with_set}
use Rattle.tally.proofs.Streaming.{given_number, refused_number, none_tallied, cut_tallied}
use Rattle.tally.proofs.input.tally_load.Goals as goal

pub returns-then-is_err : goal.returns-then-is_err
returns-then-is_err c =
    let a = c.args in
    let s = lent_set a.lengths.now a.bins.now a.heads.now a.names.now a.cells.now in
    c.tally_none.ensures
    ∙ ap (with_set (figures a.totals.now a.over))
    (none_tallied (loaded_of a.load s) refl (refused_number a.load.reply c.is_err.ensures.value c.if-is_err.true))

pub returns : goal.returns
returns c =
    let a = c.args in
    let s = lent_set a.lengths.now a.bins.now a.heads.now a.names.now a.cells.now in
    c.tally_cut.ensures
    ∙ ap (with_set (figures a.totals.now a.over))
    (cut_tallied (loaded_of a.load s) refl (given_number a.load.reply c.is_err.ensures.value c.if-is_err.false))
