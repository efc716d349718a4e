-- A fit call makes the model's three writes: the slots, the header, the journal. That the lengths fit bounds the casts.
use mathlib.Core.Path.{sym, ◌∙◌}
use native.Mathlib.Omega.{arith}
use Rattle.index_rules.proofs.Freshing.{lengths_fit}
use Rattle.index.proofs.fresh.fresh.Goals as goal

pub overflow_cast-n : goal.overflow_cast-n
overflow_cast-n c =
    let fit = lengths_fit _ (sym c.fit_lengths.ensures ∙ c.if-not-fit_lengths.false) in
    omega (arith, fit.tree.two, fit.tree.most)

pub overflow_cast-capacity : goal.overflow_cast-capacity
overflow_cast-capacity c =
    let fit = lengths_fit _ (sym c.fit_lengths.ensures ∙ c.if-not-fit_lengths.false) in
    omega (arith, c.capacity_of-capacity.ensures, fit.words, fit.most)
