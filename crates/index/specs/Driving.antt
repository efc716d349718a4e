-- Of the drivers and the journal beside their contracts: each public routine has one outcome.
use Rattle.std.specs.Prelude.{◌≡◌, List, ℕ, ◌-◌, set, eqb}
use Rattle.slots.specs.Words.{rename, hash_part, key_part}
use Rattle.slots.specs.Answers.{OneAnswer}
use Rattle.index_rules.specs.Live.{Live}
use Rattle.index_rules.specs.Index.{fits_journal, length_of, lines_of, line_word, line_made}
use Rattle.index_rules.specs.Insert.{free_from, headed}
use Rattle.index_rules.specs.Rollback.{blanked}
use Rattle.index_rules.specs.Checked.{lesser}
use Rattle.index.specs.Frees.{appended_if, shrunk_if, grown_if}

pub record Driving : Type 0 where
  pub lowest_free_one : (cells : List ℕ) (n floor : ℕ) → OneAnswer (λ r. r ≡ free_from (n - floor) cells floor)
  pub lesser_one : (a b : ℕ) → OneAnswer (λ r. r ≡ lesser a b)
  pub head_put_one : (head : List ℕ) (root first count : ℕ) → OneAnswer (λ l. l ≡ headed head root first count)
  pub put-pair_one : (names : List ℕ) (x hash key : ℕ) → OneAnswer (λ l. l ≡ rename (rename names x hash_part hash) x key_part key)
  pub grow_one : (t : Live) (x y hash key p : ℕ) → OneAnswer (λ u. u ≡ grown_if t x y hash key p)
  pub shrink_one : (t : Live) (x : ℕ) → OneAnswer (λ u. u ≡ shrunk_if t x)
  pub length_of_one : (lines : List ℕ) → OneAnswer (λ r. r ≡ length_of lines)
  pub capacity_of_one : (lines : List ℕ) → OneAnswer (λ r. r ≡ lines_of lines)
  pub fit_journal_one : (lines : List ℕ) → OneAnswer (λ r. r ≡ fits_journal lines)
  pub is_full_one : (lines : List ℕ) → OneAnswer (λ r. r ≡ eqb (length_of lines) (lines_of lines))
  pub line_word_one : (lines : List ℕ) (k f : ℕ) → OneAnswer (λ r. r ≡ line_word lines k f)
  pub append_one : (lines : List ℕ) (kind hash key p prior_hash prior_key : ℕ)
      → OneAnswer (λ l. l ≡ appended_if lines (line_made kind hash key p prior_hash prior_key))
  pub cut_one : (lines : List ℕ) (m count : ℕ) → OneAnswer (λ l. l ≡ set (blanked count lines m) 0 m)
