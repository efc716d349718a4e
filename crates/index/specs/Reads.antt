-- The number and value of each answer of find, with its looks, of the source's check and of the full check; and what is asked
-- again after it.
use Rattle.std.specs.Prelude.{Bool, Option, Result, ℕ, leb}
use Rattle.slots.specs.Words.{pick, most_slots}
use Rattle.slots.specs.Answers.{Answer, given, refused}
use Rattle.tree_rules.specs.Find.{Counted}
use Rattle.index_rules.specs.Live.{count_of}
use Rattle.index_rules.specs.Index.{Index, fits_index}
use Rattle.slots.specs.Coded.{told_by, verdict, unfit_told}
use Rattle.slots.specs.declared.answer.Unfit.{Unfit}
use Rattle.tree.specs.Check.{checked_of as fault_told}
use Rattle.tree.specs.Find.{searched_by}
use Rattle.tree.specs.declared.check.Fault.{Fault}
use Rattle.tree.specs.declared.find.Found.{Found}

abbrev pub found_of : Result (Found ℕ) Unfit → Counted
found_of = searched_by unfit_told

abbrev pub checked_of : Result (Option Fault) Unfit → Answer
checked_of = told_by fault_told unfit_told

abbrev pub sound_of : Result Bool Unfit → Answer
sound_of = told_by verdict unfit_told

-- What is asked again where the full check has said yes.
unfoldable pub taken_as_sound : Index → Answer
taken_as_sound ix = pick (fits_index ix) (pick (leb (count_of ix.live) most_slots) (given 1) (given 0)) (refused 1)
