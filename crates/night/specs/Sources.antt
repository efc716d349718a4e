-- Which slots of the first tree the second tree's slots came from, kept beside the report while a salvage runs.
use Rattle.std.specs.Prelude.{◌≡◌, List, ℕ, ◌<◌, length, get_or}
use Rattle.slots.specs.Words.{null, name_of, hash_part, key_part}
use Rattle.slots.specs.Answers.{some}
use Rattle.index_rules.specs.Live.{Live}
use Rattle.index_rules.specs.Insert.{sought_in}
use Rattle.night_rules.specs.Saved.{KeptSlot, kept_below}

-- Slot s below i is kept, and has x kept ones before it.
pub record SourceOf (report : List ℕ) (i x s : ℕ) : Type 0 where
  pub inside : s < i
  pub kept : KeptSlot report s
  pub rank : kept_below report s ≡ x

-- Word x of the sources is the slot that went to slot x, for each of those kept below i.
pub record Sources (report : List ℕ) (i kept : ℕ) (from : List ℕ) : Type 0 where
  pub long : length from ≡ 4096
  pub each : (x : ℕ) → x < kept → SourceOf report i x (get_or from x null)

-- What slot i is asked and kept by: the sources of the slots below it, the second tree having no others.
pub record SlotReady (names : List ℕ) (u : Live) (report : List ℕ) (i kept : ℕ) (from : List ℕ) : Type 0 where
  pub sources : Sources report i kept from
  pub many : kept ≡ kept_below report i
  pub told : i < length report
  pub below : (x : ℕ) → sought_in u (name_of names i hash_part) (name_of names i key_part) ≡ some x → x < kept
