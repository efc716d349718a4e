-- What remove and replace ask alike of a pair that has to be there.
use Rattle.std.specs.Prelude.{ℕ, eqb}
use Rattle.slots.specs.Words.{pick}
use Rattle.slots.specs.Answers.{some, none, given, refused}
use Rattle.index_rules.specs.Sound.{sound}
use Rattle.index_rules.specs.Index.{Index, Outcome, outcome, fits_index, length_of, lines_of}
use Rattle.index_rules.specs.Insert.{sought_in}

-- "1, 2, 4, 6", and else the slot that has the pair is answered, and what is left goes by it. A refusal writes nothing.
unfoldable pub where_present : Index → ℕ → ℕ → (ℕ → Index) → Outcome
where_present ix hash key leaving =
    pick (fits_index ix)
    (pick (sound ix.live)
    (elim (sought_in ix.live hash key) [
      | none ↦ outcome (refused 4) ix
      | some x ↦ pick (eqb (length_of ix.lines) (lines_of ix.lines)) (outcome (refused 6) ix) (outcome (given x) (leaving x))
    ])
    (outcome (refused 2) ix))
    (outcome (refused 1) ix)
