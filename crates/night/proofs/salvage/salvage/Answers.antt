-- Words that are not fit are refused; else all slots are gone through.
use mathlib.Core.Path.{sym, ◌∙◌}
use borrow.Author.Tests.{not-false, not-true}
use Rattle.night.proofs.Saving.{unfit, fit, saves}
use Rattle.night.proofs.salvage.salvage.Goals as goal

pub returns-then-not-fits_salvage : goal.returns-then-not-fits_salvage
returns-then-not-fits_salvage c =
    unfit _ _ _ _ (sym c.fits_salvage.ensures ∙ not-true c.fits_salvage.result c.if-not-fits_salvage.true-raw)

pub save_all-requires : goal.save_all-requires
save_all-requires c =
    fit _ _ _ _ (sym c.fits_salvage.ensures ∙ not-false c.fits_salvage.result c.if-not-fits_salvage.false-raw)

pub returns : goal.returns
returns c =
    saves _ _ _ _ (sym c.fits_salvage.ensures ∙ not-false c.fits_salvage.result c.if-not-fits_salvage.false-raw) c.save_all.ensures
