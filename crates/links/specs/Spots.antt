-- The values of the code as the models have them, and the steps of a removal that the models say in place.
use Rattle.std.specs.Prelude.{ℕ, Bool, ◌==◌}
use Rattle.slots.specs.Words.{pick, left, right, black}
use Rattle.redblack.specs.Links.{Links, read, stored, painted}
use Rattle.redblack.specs.Hanging as hanging
use Rattle.redblack.specs.Deletion.{balanced_deletion}
use Rattle.links.specs.declared.spot.Spot.{Spot}

-- A spot of the code, as the models have it.
abbrev pub spot_of : Spot → hanging.Spot
spot_of s = record { above = s.above; side = s.side }

-- q's link to p leads to x.
abbrev pub relinked : Links → ℕ → ℕ → ℕ → Links
relinked s q p x = pick (read s q left == p) (stored s q left x) (stored s q right x)

-- Balanced from x on, unless the slot that goes is red.
abbrev pub rebalanced : ℕ → Links → ℕ → Bool → Links
rebalanced budget s x is_red = pick is_red s (balanced_deletion budget s x)

-- x is painted black where it is the root.
abbrev pub blackened : Links → ℕ → Links
blackened s x = pick (s.root == x) (painted s x black) s
