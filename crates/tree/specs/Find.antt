-- What the values of this crate's results mean.
use Rattle.std.specs.Prelude.{Option, None, Some, Result, Ok, Err, ℕ, ltb}
use Rattle.slots.specs.Words.{null, pick}
use Rattle.slots.specs.Answers.{Answer, given, nothing, refused}
use Rattle.slots.specs.Coded.{answer_of}
use Rattle.tree_rules.specs.Find.{Look, here, on, Counted, with_looks}
use Rattle.tree.specs.declared.find.Counted.{Counted as CountedCode}
use Rattle.tree.specs.declared.find.Found.{Found}
use Rattle.tree.specs.declared.find.Found.TheVariants.{At, Nothing, Lost}

abbrev pub seen_of : Option ℕ → Look
seen_of None = here
seen_of (Some q) = on q

-- The number and value of each answer, and its looks.
abbrev pub searched_of : Found ℕ → Counted
searched_of (At slot looks) = with_looks looks (given slot)
searched_of (Nothing looks) = with_looks looks nothing
searched_of (Lost looks) = with_looks looks (refused 9)

-- A search, or the refusal of one that has looked at no slot.
abbrev pub searched_by : {E : Type 0} → (E → Answer) → Result (Found ℕ) E → Counted
searched_by refusal (Ok f) = searched_of f
searched_by refusal (Err e) = with_looks 0 (refusal e)

-- The looks in a word: the highest word where there are more.
abbrev pub in_a_word : Counted → Counted
in_a_word c = with_looks (pick (ltb c.looks 4294967296) c.looks null) c.answer

abbrev pub counted_of : CountedCode → Counted
counted_of c = with_looks c.looks (answer_of c.answer)
