-- The number and value of what a move answers, and what is written of a bin that is moved.
use Rattle.std.specs.Prelude.{◌≡◌, true, Option, None, Some, Result, Ok, Err, ℕ, suc, leb}
use Rattle.slots.specs.Words.{null, pick}
use Rattle.slots.specs.Answers.{Answer, given, refused}
use Rattle.slots.specs.Coded.{told_by}
use Rattle.set_rules.specs.Words.{Set, fits}
use Rattle.set_rules.specs.Accepting.{accepted}
use Rattle.move_rules.specs.Moving.{most_listed, lacks, half_first, bin_taken, half_laid}
use Rattle.mover.specs.declared.moving.MoveRefusal.{MoveRefusal}
use Rattle.mover.specs.declared.moving.MoveRefusal.TheVariants.{Unfit, Unknown, Damaged, CannotMove, Full}

abbrev pub move_refusal_of : MoveRefusal → Answer
move_refusal_of Unfit = refused 1
move_refusal_of Unknown = refused 10
move_refusal_of Damaged = refused 2
move_refusal_of CannotMove = refused 16
move_refusal_of Full = refused 5

-- The entries moved, or the refusal.
abbrev pub move_of : Result ℕ MoveRefusal → Answer
move_of = told_by given move_refusal_of

-- What the headers' scan finds, as a link.
abbrev pub found_or_null : Option ℕ → ℕ
found_or_null None = null
found_or_null (Some h) = h

-- The header of a half of so many entries, none of one that becomes a list.
abbrev pub header_of_half : ℕ → ℕ → Option ℕ
header_of_half count h = pick (leb count most_listed) None (Some h)

-- The header h for a half of so many entries, or the refusal where it wants one and has none.
abbrev pub headed : ℕ → ℕ → Result (Option ℕ) MoveRefusal
headed count h = pick (lacks count h) (Err Full) (Ok (header_of_half count h))

-- The one after it.
abbrev pub header_after : Option ℕ → ℕ
header_after None = 0
header_after (Some h) = suc h

-- Bin i of table k taken out, and its halves, so many each, laid in bins i and j below, under the headers g and h.
unfoldable pub halves_laid : Set → ℕ → ℕ → ℕ → ℕ → ℕ → ℕ → ℕ → Set
halves_laid s k i j g h low high =
    half_laid (half_laid (bin_taken s k i) (suc k) i g (half_first s k i i) low) (suc k) j h (half_first s k i j) high

-- Both tests of a set say yes.
pub record FitAccepted (s : Set) : Type 0 where
  pub fit : fits s ≡ true
  pub accepts : accepted s ≡ true
