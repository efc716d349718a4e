-- Words that do not fit, or the counts and then the entries.
use mathlib.Core.Path.{ap, ◌∙◌}
use Rattle.set_rules.specs.Words.{lent_set}
use Rattle.script_rules.specs.Feeding.{typed}
use Rattle.listing.proofs.Lining.{few_slots, set_told, unfit_told}
use Rattle.listing.proofs.lines.tell_set.Goals as goal

pub returns-then-not-fits : goal.returns-then-not-fits
returns-then-not-fits c =
    let a = c.args in
    let s = lent_set a.lengths.now a.bins.now a.heads.now a.names.now a.cells.now in
    c.fill.ensures ∙ ap (typed _) (unfit_told s c.fit_set-fits.ensures c.if-not-fits.true)

pub tell_counts-counted-requires : goal.tell_counts-counted-requires
tell_counts-counted-requires c =
    let a = c.args in
    let s = lent_set a.lengths.now a.bins.now a.heads.now a.names.now a.cells.now in
    few_slots s c.fit_set-fits.ensures c.if-not-fits.false

pub returns : goal.returns
returns c =
    let a = c.args in
    let s = lent_set a.lengths.now a.bins.now a.heads.now a.names.now a.cells.now in
    set_told s _ c.fit_set-fits.ensures c.if-not-fits.false c.tell_counts-counted.ensures c.tell_walk.ensures
