-- What a move of a bin comes to, said of the word that it answers and of the set that it leaves by the rules of section 17.
use Rattle.std.specs.Prelude.{◌≡◌, ◌↔◌, List, ℕ, ◌/◌, ◌<◌, ◌≤◌, length}
use Rattle.set_rules.specs.Words.{Set, Fit, tables_of}
use Rattle.set_rules.specs.Accepted.{Accepted}
use Rattle.move_rules.specs.Moving.{MoveOutcome}
use Rattle.move_rules.specs.Moved.{SplitBin, CannotMove, RunOut, BinMoved}
use Rattle.word_rules.specs.Told.{WordTells}
use Rattle.word_rules.specs.Leaving.{RefusedBy}
use Rattle.word_rules.specs.Words.{MoveWorded}

-- oz_move of bin i of table k, on any words: of the rules' call that comes to o the word tells the answer, each number exactly when its
-- reason holds.
pub record MoveTold (s : Set) (k i : ℕ) (o : MoveOutcome) (r : MoveWorded) : Type 0 where
  pub tells : WordTells 4294967296 o.answer r.word
  -- "Refusals: 1, 10, 2 (here: not accepted), 16 Cannot move .., 5 where headers run out, in that order."
  pub one : (r.word / 4294967296 ≡ 1) ↔ (Fit s → ⊥)
  pub ten : (r.word / 4294967296 ≡ 10) ↔ (Fit s × (tables_of s ≤ k))
  pub two : (r.word / 4294967296 ≡ 2) ↔ (Fit s × (k < tables_of s) × (Accepted s → ⊥))
  pub sixteen : (r.word / 4294967296 ≡ 16) ↔ (Fit s × (k < tables_of s) × Accepted s × CannotMove s k i)
  pub five : (all low high : List ℕ) → SplitBin s k i all low high
      → (r.word / 4294967296 ≡ 5) ↔ (Fit s × (k < tables_of s) × Accepted s × (CannotMove s k i → ⊥) × RunOut s k i low high)
  -- "A refused call writes nothing"
  pub stays : RefusedBy r.word → r.left ≡ s
  -- "It answers the entries moved", and the set that is left is s with this bin moved
  pub moves : (all low high : List ℕ) → SplitBin s k i all low high → Fit s → Accepted s → (CannotMove s k i → ⊥)
      → (RunOut s k i low high → ⊥)
      → (r.word ≡ length all) × BinMoved s k i low high r.left
