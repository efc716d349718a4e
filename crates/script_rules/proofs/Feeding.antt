-- What is written stays within the buffer, and a call is refused or takes bytes.
use mathlib.Core.Path.{◌≡◌}
use mathlib.Core.List.{List, [], ◌∷◌}
use Prim.Native.Nat.{ℕ, ◌<◌, ◌≤◌}
use native.Mathlib.Decide.{dec_lt}
use native.Mathlib.Omega.{arith}
use lib.ListN.{length, length-set}
use borrow.Author.Tests.{lt-ltb, le-ltb}
use Rattle.script_rules.specs.Feeding.{Paper, typed_one, typed, longest, Desk, Fed, feeding, feeds}

-- Writing does not pass the buffer's end, and keeps its length.
abbrev pub Within : Paper → Type 0
Within p = p.at ≤ length p.bytes

one_within : (p : Paper) (b : ℕ) → Within p → Within (typed_one p b)
one_within p b h = go (dec_lt p.at (length p.bytes))
  where
    go : Dec (p.at < length p.bytes) → Within (typed_one p b)
    go (yes l) = simp (lt-ltb _ _ l, length-set) (omega arith)
    go (no n) = simp (le-ltb p.at (length p.bytes) (omega arith)) h

pub typed_within : (p : Paper) (l : List ℕ) → Within p → Within (typed p l)
unfolding typed
typed_within p [] h = h
typed_within p (b ∷ l) h = typed_within (typed_one p b) l (one_within p b h)

pub feeds_short : (chunk : List ℕ) (d : Desk) → length d.paper.bytes < longest
    → ◌≡◌ {A = Fed} (record { number = 1; desk = d; taken = 0 }) (feeds chunk d)
unfolding feeds
feeds_short chunk d h = rw (lt-ltb _ _ h)

pub feeds_long : (chunk : List ℕ) (d : Desk) → longest ≤ length d.paper.bytes → feeding chunk 0 d ≡ feeds chunk d
unfolding feeds
feeds_long chunk d h = rw (le-ltb _ _ h)
