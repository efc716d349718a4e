-- Of feed, finish and receipt beside their contracts: each public routine has one outcome, what it returns with all that is left in the
-- lent slices.
use Rattle.std.specs.Prelude.{◌≡◌, List, ℕ}
use Rattle.slots.specs.Answers.{OneAnswer}
use Rattle.index_rules.specs.Live.{Live}
use Rattle.index_rules.specs.Index.{Index}
use Rattle.script_rules.specs.Feeding.{Paper, Desk, blank_line, receipts, feeds, finishes}
use Rattle.console.specs.Meanings.{held_line, fed_of}
use Rattle.console.specs.declared.feed.Fed.{Fed}

-- What a call returns, and the words of the six slices after it.
pub record FeedCall : Type 0 where
  pub fed : Fed
  pub names : List ℕ
  pub cells : List ℕ
  pub head : List ℕ
  pub sizes : List ℕ
  pub lines : List ℕ
  pub out : List ℕ

abbrev pub index_of : FeedCall → Index
index_of c = record { live = record { names = c.names; cells = c.cells; head = c.head; sizes = c.sizes }; lines = c.lines }

pub record Feeding : Type 0 where
  pub blank_one : OneAnswer (λ l. held_line l ≡ blank_line)
  pub feed_one : (chunk : List ℕ) (d : Desk) → OneAnswer (λ c. fed_of c.fed (index_of c) c.out ≡ feeds chunk d)
  pub finish_one : (d : Desk) → OneAnswer (λ c. fed_of c.fed (index_of c) c.out ≡ finishes d)
  pub receipt_one : (number : ℕ) (t : Live) (p : Paper) → OneAnswer (λ q. q ≡ receipts number t p)
