-- What crate `exports` proves beside its contracts: each exported routine has one outcome. What its words tell is claimed in `word_rules`.
use Rattle.std.specs.Prelude.{◌≡◌, List, ℕ}
use Rattle.slots.specs.Answers.{answer_word, OneAnswer}
use Rattle.tree_rules.specs.Find.{counted}
use Rattle.index_rules.specs.Live.{Live, Unsized}
use Rattle.index_rules.specs.Index.{Index}
use Rattle.index_rules.specs.Find.{finds}
use Rattle.index_rules.specs.Check.{checks}
use Rattle.index_rules.specs.Sound.{sounds}
use Rattle.index_rules.specs.Ranks.{kths, positions}
use Rattle.index_rules.specs.Insert.{inserts}
use Rattle.index_rules.specs.Remove.{removes}
use Rattle.index_rules.specs.Replace.{replaces}
use Rattle.index_rules.specs.Rollback.{rolls}
use Rattle.index_rules.specs.Batch.{batches}
use Rattle.index_rules.specs.Fresh.{freshes}
use Rattle.night_rules.specs.Why.{whys}
use Rattle.night_rules.specs.Salvage.{salvages}
use Rattle.set_rules.specs.Words.{Set}
use Rattle.set_rules.specs.Accepting.{accepts}
use Rattle.set_rules.specs.Lookup.{lookups}
use Rattle.file_rules.specs.Saving.{saves}
use Rattle.move_rules.specs.Moving.{moves}
use Rattle.figure_rules.specs.Tally.{tallies}
use Rattle.word_rules.specs.Words.{search_word, check_word, Worded, worded, BatchWorded, batch_worded, WhyWorded, why_worded}
use Rattle.word_rules.specs.Words.{SalvageWorded, salvage_worded, MoveWorded, move_worded, TallyWorded, tally_worded}
use Rattle.word_rules.specs.Readers.{ReadWorded, started_reader, chunk_read, ended_reader}
use Rattle.word_rules.specs.Loaders.{SaveWorded, save_worded, LoaderWorded, started_loader, LoadWorded}
use Rattle.word_rules.specs.Loaders.{chunk_loaded, ended_loader}
use Rattle.word_rules.specs.Cursors.{Kept, started_cursor, walked_cursor}

pub record Claims : Type 0 where
  pub find_one : (t : Unsized) (hash key : ℕ) → OneAnswer (λ (r : ℕ). r ≡ search_word (counted (finds t hash key)))
  pub check_one : (t : Unsized) → OneAnswer (λ (r : ℕ). r ≡ check_word (checks t))
  pub sound_one : (t : Live) → OneAnswer (λ (r : ℕ). r ≡ answer_word (sounds t))
  pub why_one : (t : Live) (shown : List ℕ) → OneAnswer (λ (r : WhyWorded). r ≡ why_worded (whys t shown))
  pub salvage_one : (names cells : List ℕ) (u : Live) (report : List ℕ)
      → OneAnswer (λ (r : SalvageWorded). r ≡ salvage_worded (salvages names cells u report))
  pub kth_one : (t : Live) (k : ℕ) → OneAnswer (λ (r : ℕ). r ≡ answer_word (kths t k))
  pub position_one : (t : Live) (hash key : ℕ) → OneAnswer (λ (r : ℕ). r ≡ answer_word (positions t hash key))
  pub insert_one : (ix : Index) (hash key place : ℕ) → OneAnswer (λ (r : Worded). r ≡ worded (inserts ix hash key place))
  pub remove_one : (ix : Index) (hash key : ℕ) → OneAnswer (λ (r : Worded). r ≡ worded (removes ix hash key))
  pub replace_one : (ix : Index) (hash key place : ℕ) → OneAnswer (λ (r : Worded). r ≡ worded (replaces ix hash key place))
  pub fresh_one : (ix : Index) → OneAnswer (λ (r : Worded). r ≡ worded (freshes ix))
  pub rollback_one : (ix : Index) (mark : ℕ) → OneAnswer (λ (r : Worded). r ≡ worded (rolls ix mark))
  pub batch_one : (ix : Index) (calls answers : List ℕ) → OneAnswer (λ (r : BatchWorded). r ≡ batch_worded (batches ix calls answers))
  pub read_start_one : (ix : Index) (reader : List ℕ) → OneAnswer (λ (r : ReadWorded). r ≡ started_reader ix reader)
  pub read_chunk_one : (ix : Index) (reader chunk : List ℕ) → OneAnswer (λ (r : ReadWorded). r ≡ chunk_read ix reader chunk)
  pub read_end_one : (ix : Index) (reader : List ℕ) → OneAnswer (λ (r : ReadWorded). r ≡ ended_reader ix reader)
  pub save_one : (s : Set) (out : List ℕ) → OneAnswer (λ (r : SaveWorded). r ≡ save_worded (saves s out))
  pub load_start_one : (w : List ℕ) → OneAnswer (λ (r : LoaderWorded). r ≡ started_loader w)
  pub load_chunk_one : (t : Set) (w chunk : List ℕ) → OneAnswer (λ (r : LoadWorded). r ≡ chunk_loaded t w chunk)
  pub load_end_one : (t : Set) (w : List ℕ) → OneAnswer (λ (r : LoadWorded). r ≡ ended_loader t w)
  pub move_one : (s : Set) (k i : ℕ) → OneAnswer (λ (r : MoveWorded). r ≡ move_worded (moves s k i))
  pub tally_one : (s : Set) (t : List ℕ) → OneAnswer (λ (r : TallyWorded). r ≡ tally_worded (tallies s t))
  pub accept_one : (s : Set) → OneAnswer (λ (r : ℕ). r ≡ answer_word (accepts s))
  pub lookup_one : (s : Set) (table hash key : ℕ) → OneAnswer (λ (r : ℕ). r ≡ search_word (counted (lookups s table hash key)))
  pub start_one : (s : Set) (table : ℕ) (cursor : List ℕ) → OneAnswer (λ (r : Kept). r ≡ started_cursor s table cursor)
  pub walk_one : (s : Set) (cursor : List ℕ) → OneAnswer (λ (r : Kept). r ≡ walked_cursor s cursor)
