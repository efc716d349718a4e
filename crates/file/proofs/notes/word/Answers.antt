-- 0, or one more than the word of the answer.
use mathlib.Core.Path.{ap, ◌∙◌}
use Prim.Native.Nat.{ℕ, ◌+◌, ◌*◌}
use native.Mathlib.Omega.{arith}
use Rattle.file.proofs.Noting.{said_few, said_word, unsaid_word}
use Rattle.file.proofs.notes.word.Goals as goal

pub overflow_add-result : goal.overflow_add-result
overflow_add-result c = let few = said_few _ c.answer-answer.result c.answer-answer.ensures in omega arith

pub returns-in-Some : goal.returns-in-Some
returns-in-Some c = said_word c.answer-answer.result c.in-Some.is c.answer-answer.ensures
    (c.packed.ensures ∙ ap (λ (v : ℕ). v + 4294967296 * c.answer-answer.result.number) c.unwrap_or.ensures)

pub returns-in-None : goal.returns-in-None
returns-in-None c = unsaid_word c.in-None.is
