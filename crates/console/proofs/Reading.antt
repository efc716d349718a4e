-- How a line is read: the bytes from a place on, and a word at the front.
use mathlib.Core.Path.{◌≡◌, refl, ap, ◌∙◌}
use mathlib.Core.Bool.{Bool, true, false, ◌&&◌}
use mathlib.Core.List.{List, [], ◌∷◌}
use Prim.Native.Nat.{ℕ}
use lib.ListN.{length, take}
use lib.Dec.{eqb}
use Rattle.std.specs.Cmp.Lexicographic.{pointwise}
use Rattle.slots.specs.Words.{pick}
use Rattle.script_rules.specs.Text.{starts_with}
use Rattle.script_rules.proofs.Reading.{from, past}

-- The bytes from a place on are the byte there and those after it; past the end there are none.
pub ruleset bytes_from = (from, past)

same_and : (a b : Bool) → (a && b) ≡ pick a b false
same_and true b = refl
same_and false b = refl

-- std's test of a word at the front of a line is the rules'.
pub same_begins : (word l : List ℕ) → pointwise eqb word (take (length word) l) ≡ starts_with word l
unfolding starts_with
same_begins [] l = refl
same_begins (w ∷ ws) [] = refl
same_begins (w ∷ ws) (b ∷ l) = same_and (eqb w b) _ ∙ ap (λ r. pick (eqb w b) r false) (same_begins ws l)
