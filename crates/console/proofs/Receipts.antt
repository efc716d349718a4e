-- A text is written within its buffer.
use mathlib.Core.Path.{◌≡◌}
use mathlib.Core.List.{List}
use Prim.Native.Nat.{ℕ}
use Rattle.script_rules.specs.Feeding.{Paper, typed}
use Rattle.script_rules.proofs.Feeding.{Within, typed_within}

pub text_within : (p : Paper) {q : Paper} (l : List ℕ) → q ≡ typed p l → Within p → Within q
text_within p l e w = rw e (typed_within p l w)
