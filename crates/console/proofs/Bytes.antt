-- What a byte and a chunk come to, step by step.
use mathlib.Core.Path.{◌≡◌}
use mathlib.Core.List.{List}
use Prim.Native.Nat.{ℕ, ◌+◌, ◌<◌, ◌≤◌}
use native.Mathlib.Numerals.{add-one}
use lib.ListN.{length, drop, get_or}
use borrow.Author.Tests.{lt-ltb, le-ltb}
use Rattle.script_rules.specs.Feeding.{longest, Desk, fed_byte, fed}
use Rattle.script_rules.specs.Feeding.{room_left, feeding}
use Rattle.script_rules.proofs.Reading.{from, past}
use Rattle.script_rules.proofs.Feeding.{Within, feeds_short, feeds_long}
use Rattle.script_rules.proofs.Cutting.{byte_within}

pub kept_within : (d : Desk) {e : Desk} (b : ℕ) → e ≡ fed_byte d b → Within d.paper → Within e.paper
kept_within d b f h = rw f (byte_within d b h)

module _ (chunk : List ℕ) (i : ℕ) (d : Desk) where
  pub feeding_over : length chunk ≤ i → fed i d ≡ feeding (drop i chunk) i d
  unfolding feeding
  feeding_over h = rw (past chunk i h)

  pub feeding_full : i < length chunk → room_left d.paper < longest → fed i d ≡ feeding (drop i chunk) i d
  unfolding feeding
  feeding_full h r = rw (from chunk i h, lt-ltb _ _ r)

  pub feeding_on : {e : Desk} → i < length chunk → longest ≤ room_left d.paper → e ≡ fed_byte d (get_or chunk i 0)
      → feeding (drop (i + 1) chunk) (i + 1) e ≡ feeding (drop i chunk) i d
  unfolding feeding
  feeding_on h r f = rw (from chunk i h, le-ltb _ _ r, f, add-one i)

pub ruleset chunk_feeding = (feeds_short, feeds_long, feeding_over, feeding_full, feeding_on, kept_within)
