-- The walk's end and the count of the slots that are not free decide.
use mathlib.Core.Path.{sym, ap, ◌∙◌}
use native.Mathlib.Omega.{arith}
use Rattle.tree.specs.Rules.{rest_of}
use Rattle.set_rules.specs.Accepting.{all_held}
use Rattle.set_rules.proofs.Fit.{fits_fit}
use Rattle.sets.proofs.Steps.{table_within}
use Rattle.sets.proofs.accept.all_held.Goals as goal

pub returns-in_default : goal.returns-in_default
unfolding all_held
returns-in_default c =
    rw (← c.table_fine-walk.ensures, c.in_default.is)

pub overflow_cast-n : goal.overflow_cast-n
overflow_cast-n c =
    let fit = fits_fit _ c.requires in
    omega (arith, fit.two, fit.slots_most)

pub overflow_sub-result : goal.overflow_sub-result
overflow_sub-result c =
    table_within (record {
      lengths = c.args.lengths.now;
      bins = c.args.bins.now;
      heads = c.args.heads.now;
      names = c.args.names.now;
      cells = c.args.cells.now;
    }) c.requires _ _ _ (sym c.table_fine-walk.ensures ∙ ap rest_of c.in-Some.is)

pub returns : goal.returns
unfolding all_held
returns c =
    rw (← c.table_fine-walk.ensures, c.in-Some.is, ← c.used_slots-used.ensures)
