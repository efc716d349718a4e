-- Tables that fit double, so the sum has a closed form.
use native.Mathlib.Omega.{arith}
use Rattle.sets.proofs.Sized.{some_table, all_bins}
use Rattle.sets.proofs.fit.bins_in.Goals as goal

pub overflow_sub-lengths : goal.overflow_sub-lengths
overflow_sub-lengths c = omega (arith, some_table c.args.lengths.now c.requires)

pub overflow_sub-result : goal.overflow_sub-result
overflow_sub-result c = omega (arith, all_bins c.args.lengths.now c.requires, c.word-first.ensures, c.word-last.ensures)

pub returns : goal.returns
returns c = omega (arith, all_bins c.args.lengths.now c.requires, c.word-first.ensures, c.word-last.ensures)
