-- The word that an exported routine answers: value + 2^32 * number.
use Rattle.std.specs.Prelude.{List, ℕ, ◌+◌, ◌*◌}
use Rattle.slots.specs.Answers.{Answer, word_of, answer_word}
use Rattle.tree_rules.specs.Find.{Counted}
use Rattle.index_rules.specs.Live.{Live}
use Rattle.index_rules.specs.Index.{Index, Outcome}
use Rattle.index_rules.specs.Batch.{Batched}
use Rattle.night_rules.specs.Account.{Explained}
use Rattle.night_rules.specs.Salvage.{Salvaged}
use Rattle.set_rules.specs.Words.{Set}
use Rattle.move_rules.specs.Moving.{MoveOutcome}
use Rattle.figure_rules.specs.Tally.{TallyOutcome}

-- "with looks it is value + 2^32 * number + 2^48 * looks": how many slots were looked at stands above the answer's 48 bits.
unfoldable pub search_word : Counted → ℕ
search_word c = answer_word c.answer + 281474976710656 * c.looks

-- "0 for Passes"; a test t of the source's check that fails at slot s is s + 2^32 * (100 + t).
unfoldable pub check_word : Answer → ℕ
check_word = word_of 0

-- What a call that writes comes to: its word, and all that it leaves in the lent slices.
pub record Worded : Type 0 where
  pub word : ℕ
  pub left : Index

unfoldable pub worded : Outcome → Worded
worded o = record { word = answer_word o.answer; left = o.left }

-- And a batch, which leaves words of answers too.
pub record BatchWorded : Type 0 where
  pub word : ℕ
  pub left : Index
  pub answers : List ℕ

unfoldable pub batch_worded : Batched → BatchWorded
batch_worded b = record { word = answer_word b.answer; left = b.left; answers = b.answers }

-- And the reason of a tree, which leaves the words of `shown`.
pub record WhyWorded : Type 0 where
  pub word : ℕ
  pub shown : List ℕ

unfoldable pub why_worded : Explained → WhyWorded
why_worded e = record { word = answer_word e.answer; shown = e.shown }

-- And a salvage, which leaves the second tree and the report.
pub record SalvageWorded : Type 0 where
  pub word : ℕ
  pub into : Live
  pub report : List ℕ

unfoldable pub salvage_worded : Salvaged → SalvageWorded
salvage_worded o = record { word = answer_word o.answer; into = o.into; report = o.report }

-- And a move, which leaves the set.
pub record MoveWorded : Type 0 where
  pub word : ℕ
  pub left : Set

unfoldable pub move_worded : MoveOutcome → MoveWorded
move_worded o = record { word = answer_word o.answer; left = o.set }

-- And a tally, which leaves the totals.
pub record TallyWorded : Type 0 where
  pub word : ℕ
  pub totals : List ℕ

unfoldable pub tally_worded : TallyOutcome → TallyWorded
tally_worded o = record { word = answer_word o.answer; totals = o.totals }
