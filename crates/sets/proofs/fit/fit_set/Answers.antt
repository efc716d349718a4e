-- The three tests in a row are the model's; tables that fit have as many bins as the closed form says.
use mathlib.Core.Path.{sym, ap, ◌∙◌}
use lib.ListN.{length}
use lib.Dec.{eqb}
use Rattle.slots.proofs.Laws.{and-next}
use Rattle.set_rules.specs.Words.{fits}
use Rattle.sets.specs.Bins.{fit_slots}
use Rattle.sets.proofs.fit.fit_set.Goals as goal

pub bins_in-requires : goal.bins_in-requires
bins_in-requires c = sym c.fit_tables.ensures ∙ c.if-fit_tables.true

pub returns-then-bins-bins_in : goal.returns-then-bins-bins_in
unfolding fits fit_slots
returns-then-bins-bins_in c =
    let a = c.args in
    rw (← c.fit_tables.ensures, ← c.fit_slots.ensures)
    (and-next _ c.if-fit_tables.branch-raw (λ w. (w.if-fit_tables.true, w.value-is ∙ ap (eqb (length a.bins.now)) w.bins_in.ensures))
    (λ w. (w.if-fit_tables.false, w.value-is))
    (rw c.if-bins-bins_in.true))

pub returns-else-bins-bins_in : goal.returns-else-bins-bins_in
unfolding fits
returns-else-bins-bins_in c =
    let a = c.args in
    rw (← c.fit_tables.ensures)
    (and-next _ c.if-fit_tables.branch-raw (λ w. (w.if-fit_tables.true, w.value-is ∙ ap (eqb (length a.bins.now)) w.bins_in.ensures))
    (λ w. (w.if-fit_tables.false, w.value-is))
    (rw c.if-bins-bins_in.false))
