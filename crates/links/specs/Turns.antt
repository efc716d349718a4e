-- The values of the code, as the models have them.
use Rattle.std.specs.Prelude.{ℕ, List, Option, None, Some}
use Rattle.redblack.specs.Links.{Links, lent_links, Turn, done, more}

-- The loop ends, or goes on from a slot.
abbrev pub onward : Links → Option ℕ → Turn
onward s None = done s
onward s (Some x) = more s x

-- What a step comes to, over the cells and the sizes that it leaves.
abbrev pub turn_of : (ℕ × Option ℕ) → List ℕ → List ℕ → Turn
turn_of t cells sizes = onward (lent_links cells t.0 sizes) t.1
