-- The tests in turn are the model's.
use Rattle.night.proofs.Saving.{other_names, other_cells, too_short, words_fit_lem}
use Rattle.night.proofs.salvage.fits_salvage.Goals as goal

pub returns-then-names-names2 : goal.returns-then-names-names2
returns-then-names-names2 c = other_names _ _ _ _ c.if-names-names2.true

pub returns-then-cells-cells2 : goal.returns-then-cells-cells2
returns-then-cells-cells2 c = other_cells _ _ _ _ c.if-names-names2.false c.if-cells-cells2.true

pub returns-then-report-names : goal.returns-then-report-names
returns-then-report-names c =
    too_short _ _ _ _ c.if-names-names2.false c.if-cells-cells2.false c.if-report-names.true

pub returns : goal.returns
returns c =
    words_fit_lem _ _ _ _ c.if-names-names2.false c.if-cells-cells2.false c.if-report-names.false c.is_cleared_tree.ensures
