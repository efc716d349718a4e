-- What the values of this crate's enums mean, and what its entry points answer.
use Rattle.std.specs.Prelude.{Bool, false, Result, ℕ, ◌*◌, ◌/◌, eqb, leb}
use Rattle.slots.specs.Words.{pick, most_slots}
use Rattle.slots.specs.Answers.{Answer, given, refused}
use Rattle.slots.specs.Coded.{told_by, unfit_told}
use Rattle.slots.specs.declared.answer.Unfit.{Unfit}
use Rattle.set_rules.specs.Words.{empty, moved, list, tree, bad, bini}
use Rattle.set_rules.specs.Words.{Bin as SetBin}
use Rattle.sets.specs.declared.bin.Bin.{Bin}
use Rattle.sets.specs.declared.bin.Bin.TheVariants.{Empty, Moved, List, Tree, Bad}

abbrev pub bin_as : Bin → SetBin
bin_as Empty = empty
bin_as Moved = moved
bin_as (List slot) = list slot
bin_as (Tree header) = tree header
bin_as Bad = bad

-- The index of the bin for a hash.
abbrev pub home_of : Result ℕ Unfit → Answer
home_of = told_by given unfit_told

-- "We refuse length 0 with 1."
unfoldable pub binis : ℕ → ℕ → Answer
binis len hash = pick (eqb len 0) (refused 1) (given (bini len hash))

-- The last five tests of `fits`, on the lengths of three slices.
unfoldable pub fit_slots : ℕ → ℕ → ℕ → Bool
fit_slots heads names cells =
    let n = names / 2 in
    let h = heads / 3 in
    pick (leb n most_slots)
    (pick (eqb names (2 * n))
    (pick (eqb cells (7 * n)) (pick (leb h most_slots) (eqb heads (3 * h)) false) false)
    false)
    false
