-- The black slots to the slot, then its left links.
use native.Mathlib.Omega.{arith}
use Rattle.night.proofs.Stepping.{to_fits}
use Rattle.night.proofs.ways.by_left.Goals as goal

pub lefts-requires : goal.lefts-requires
lefts-requires c = omega (arith, to_fits _ _ _ c.blacks_to-k.ensures, c.requires)

pub returns : goal.returns
returns c = rw (← c.blacks_to-k.ensures) c.lefts.ensures
