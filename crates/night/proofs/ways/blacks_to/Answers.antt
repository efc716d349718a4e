-- The slots above are at most the steps, so the sum is a word.
use native.Mathlib.Omega.{arith}
use Rattle.night.proofs.Stepping.{above_fits, one_fits}
use Rattle.night.proofs.ways.blacks_to.Goals as goal

pub overflow_add-result : goal.overflow_add-result
overflow_add-result c =
    omega (arith, above_fits _ _ _ c.blacks_above-above.ensures, one_fits _ _ c.one_if_black-one.ensures, c.requires)
