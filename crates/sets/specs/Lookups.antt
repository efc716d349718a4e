-- The number and value of what lookup answers, and its looks.
use Rattle.std.specs.Prelude.{Result, ℕ}
use Rattle.slots.specs.Answers.{Answer, refused}
use Rattle.tree_rules.specs.Find.{Counted}
use Rattle.tree.specs.Find.{searched_by}
use Rattle.tree.specs.declared.find.Found.{Found}
use Rattle.sets.specs.declared.lookup.NoTable.{NoTable}
use Rattle.sets.specs.declared.lookup.NoTable.TheVariants.{Unfit, Unknown}

abbrev pub no_table_of : NoTable → Answer
no_table_of Unfit = refused 1
no_table_of Unknown = refused 10

-- A refused call looks at no slot.
abbrev pub looked_of : Result (Found ℕ) NoTable → Counted
looked_of = searched_by no_table_of
