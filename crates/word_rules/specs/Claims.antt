-- What each exported word tells: a word has one number and one value, it tells which answer it is, the words of a reader, of a loader, of
-- a cursor, of a reason and of a report are what the rules' tables say; and what is said of uploads, files and the walk holds of them.
use Rattle.std.specs.Prelude.{◌≡◌, ◌↔◌, List, [], ◌∷◌, ℕ, ◌+◌, ◌*◌, ◌<◌, length}
use Rattle.slots.specs.Words.{null}
use Rattle.slots.specs.Answers.{Answer, nothing, answer_word}
use Rattle.tree_rules.specs.Find.{counted}
use Rattle.index_rules.specs.Live.{Live, Unsized}
use Rattle.index_rules.specs.Index.{Index, FitIndex}
use Rattle.index_rules.specs.Find.{finds}
use Rattle.index_rules.specs.Check.{checks}
use Rattle.index_rules.specs.Sound.{Sound, sounds}
use Rattle.index_rules.specs.Contents.{contents}
use Rattle.index_rules.specs.Calls.{Places}
use Rattle.index_rules.specs.Ranks.{kths, positions}
use Rattle.index_rules.specs.Insert.{inserts}
use Rattle.index_rules.specs.Remove.{removes}
use Rattle.index_rules.specs.Replace.{replaces}
use Rattle.index_rules.specs.Rollback.{rolls}
use Rattle.index_rules.specs.Fresh.{freshes}
use Rattle.night_rules.specs.Why.{whys}
use Rattle.night_rules.specs.Salvage.{salvages}
use Rattle.set_rules.specs.Words.{Set, Fit, tables_of}
use Rattle.set_rules.specs.Accepted.{Accepted}
use Rattle.set_rules.specs.Accepting.{accepts}
use Rattle.set_rules.specs.Lookup.{lookups}
use Rattle.set_rules.specs.Cursor.{Cursor}
use Rattle.set_rules.specs.Walk.{nexts}
use Rattle.set_rules.specs.Whole.{Listing}
use Rattle.endian.specs.Bytes.{Bytes}
use Rattle.upload_rules.specs.Reader.{Reader}
use Rattle.upload_rules.specs.Reading.{session, read_chunk, read_end}
use Rattle.file_rules.specs.Saving.{saves}
use Rattle.file_rules.specs.Loader.{Loader}
use Rattle.file_rules.specs.Loading.{loading, load_chunk, load_end}
use Rattle.move_rules.specs.Moving.{moves}
use Rattle.figure_rules.specs.Tally.{tallies}
use Rattle.word_rules.specs.Words.{search_word, check_word, worded, why_worded}
use Rattle.word_rules.specs.Words.{salvage_worded, move_worded, tally_worded}
use Rattle.word_rules.specs.Readers.{saying, reader_in, chunk_read, ended_reader}
use Rattle.word_rules.specs.Loaders.{save_worded, saying_loader, loader_in}
use Rattle.word_rules.specs.Loaders.{chunk_loaded, ended_loader}
use Rattle.word_rules.specs.Cursors.{cursor_in, walked_cursor}
use Rattle.word_rules.specs.Told.{WordTells, LooksTold}
use Rattle.word_rules.specs.Lent.{ReaderWords, LoaderWords, CursorWords, ReportWord}
use Rattle.word_rules.specs.Filed.{SaveTold, LoadStartTold, LoadTold, UnknownLoader, LoadContinued, FileTold}
use Rattle.word_rules.specs.Moved.{MoveTold}
use Rattle.word_rules.specs.Tallied.{TallyTold}
use Rattle.word_rules.specs.Leaving.{WritesTold, BatchTold, UnknownReader, StartTold, ReadTold, Continued, UploadTold, CursorMade}
use Rattle.word_rules.specs.Leaving.{WalkTold, WordsListing, WordsWalk, ReasonTold, SalvageTold}

pub record Claims : Type 0 where
  -- "The answer is value + 2^32 * number."
  pub numbers_apart : (m n v w : ℕ) → v < 4294967296 → w < 4294967296 → v + 4294967296 * m ≡ w + 4294967296 * n → m ≡ n
  pub values_apart : (m n v w : ℕ) → v < 4294967296 → w < 4294967296 → v + 4294967296 * m ≡ w + 4294967296 * n → v ≡ w
  -- two answers with one word are one answer, and an answer has one word
  pub answers_apart : {bare : ℕ} {a b : Answer} {word : ℕ} → WordTells bare a word → WordTells bare b word → a ≡ b
  pub one_word : {bare : ℕ} {a : Answer} {v w : ℕ} → WordTells bare a v → WordTells bare a w → v ≡ w
  -- what each word tells
  pub find_tells : (t : Unsized) (hash key : ℕ) → LooksTold (finds t hash key) (search_word (counted (finds t hash key)))
  pub check_tells : (t : Unsized) → WordTells 0 (checks t) (check_word (checks t))
  pub sound_tells : (t : Live) → WordTells null (sounds t) (answer_word (sounds t))
  pub why_tells : (t : Live) (shown : List ℕ) → ReasonTold t shown (whys t shown) (why_worded (whys t shown))
  pub salvage_tells : (names cells : List ℕ) (u : Live) (report : List ℕ)
      → SalvageTold names cells u report (salvages names cells u report) (salvage_worded (salvages names cells u report))
  -- a slot has one word
  pub report_one : (names cells : List ℕ) (i v w : ℕ) → ReportWord names cells i v → ReportWord names cells i w → v ≡ w
  pub kth_tells : (t : Live) (k : ℕ) → WordTells null (kths t k) (answer_word (kths t k))
  pub position_tells : (t : Live) (hash key : ℕ) → WordTells null (positions t hash key) (answer_word (positions t hash key))
  pub insert_tells : (ix : Index) (hash key place : ℕ) → WritesTold (inserts ix hash key place) (worded (inserts ix hash key place))
  pub remove_tells : (ix : Index) (hash key : ℕ) → WritesTold (removes ix hash key) (worded (removes ix hash key))
  pub replace_tells : (ix : Index) (hash key place : ℕ) → WritesTold (replaces ix hash key place) (worded (replaces ix hash key place))
  pub fresh_tells : (ix : Index) → WritesTold (freshes ix) (worded (freshes ix))
  pub rollback_tells : (ix : Index) (mark : ℕ) → WritesTold (rolls ix mark) (worded (rolls ix mark))
  pub batch_tells : (ix : Index) (calls answers : List ℕ) → BatchTold ix calls answers
  pub accept_tells : (s : Set) → WordTells null (accepts s) (answer_word (accepts s))
  pub lookup_tells : (s : Set) (table hash key : ℕ)
      → LooksTold (lookups s table hash key) (search_word (counted (lookups s table hash key)))
  -- the reader: the words say a reader exactly if they are that reader's by the table of section 12, and each call leaves such words
  pub reader_words : (w : List ℕ) (r : Reader) → (reader_in w ≡ saying r) ↔ ReaderWords w r
  -- "so that eight zeros are no reader": a chunk and the end call on them answer 1 and change nothing, by read_none
  pub zeros_none : (r : Reader) → ReaderWords (0 ∷ 0 ∷ 0 ∷ 0 ∷ 0 ∷ 0 ∷ 0 ∷ 0 ∷ []) r → ⊥
  pub reader_one : (v w : List ℕ) (r : Reader) → ReaderWords v r → ReaderWords w r → v ≡ w
  pub read_start_lem : (ix : Index) (w : List ℕ) → StartTold ix w
  pub read_chunk_lem : (ix : Index) (w l : List ℕ) → Bytes l → (r : Reader) → ReaderWords w r
      → ReadTold (read_chunk (session r ix) l) (chunk_read ix w l)
  pub read_end_lem : (ix : Index) (w : List ℕ) (r : Reader) → ReaderWords w r → ReadTold (read_end (session r ix)) (ended_reader ix w)
  -- "out of them chunk and end answer 1, which is not noted, and change nothing"
  pub read_none : (ix : Index) (w l : List ℕ) → ((r : Reader) → ReaderWords w r → ⊥)
      → UnknownReader ix w (chunk_read ix w l) × UnknownReader ix w (ended_reader ix w)
  pub reading : (ix : Index) (w : List ℕ) → Continued ix w
  pub uploading : (ix : Index) → FitIndex ix → (h : Sound ix.live) → Places (contents h) → (w : List ℕ) → length w ≡ 8
      → (l : List ℕ) → Bytes l → UploadTold ix h w l
  -- save, and the loader likewise
  pub save_tells : (s : Set) (out : List ℕ) → SaveTold s out (saves s out) (save_worded (saves s out))
  pub loader_words_lem : (w : List ℕ) (r : Loader) → (loader_in w ≡ saying_loader r) ↔ LoaderWords w r
  pub loader_one : (v w : List ℕ) (r : Loader) → LoaderWords v r → LoaderWords w r → v ≡ w
  pub load_start_lem : (w : List ℕ) → LoadStartTold w
  pub load_chunk_lem : (t : Set) (w l : List ℕ) → Bytes l → (r : Loader) → LoaderWords w r
      → LoadTold (load_chunk (loading r t) l) (chunk_loaded t w l)
  pub load_end_lem : (t : Set) (w : List ℕ) (r : Loader) → LoaderWords w r → LoadTold (load_end (loading r t)) (ended_loader t w)
  pub load_none : (t : Set) (w l : List ℕ) → ((r : Loader) → LoaderWords w r → ⊥)
      → UnknownLoader t w (chunk_loaded t w l) × UnknownLoader t w (ended_loader t w)
  pub load_going : (t : Set) (w : List ℕ) → LoadContinued t w
  pub load_file : (t : Set) (w : List ℕ) → length w ≡ 8 → (l : List ℕ) → Bytes l → FileTold t w l
  -- a move of a bin, and the tally of a set
  pub move_tells : (s : Set) (k i : ℕ) → MoveTold s k i (moves s k i) (move_worded (moves s k i))
  pub tally_tells : (s : Set) (t : List ℕ) → TallyTold s t (tallies s t) (tally_worded (tallies s t))
  -- the cursor likewise
  pub cursor_words : (w : List ℕ) → length w ≡ 11 → (c : Cursor) → (cursor_in w ≡ c) ↔ CursorWords w c
  pub start_tells : (s : Set) (t : ℕ) (w : List ℕ) → CursorMade s t w
  pub walk_tells : (s : Set) (w : List ℕ) → WalkTold s w
  -- calls of the walk give what steps give, so a whole walk of an accepted set is what the rules say
  pub walk_lists : (s : Set) (w : List ℕ) (c : Cursor) → CursorWords w c → (l : List ℕ) → WordsListing s w l ↔ Listing s c l
  pub walk_whole : (s : Set) → Fit s → Accepted s → (t : ℕ) → t < tables_of s → (w : List ℕ) → length w ≡ 11 → WordsWalk s t w
  -- null in the walk's word is Done, with a cursor of eleven words
  pub walk_done : (s : Set) (cursor : List ℕ)
      → ((walked_cursor s cursor).word ≡ null) ↔ ((length cursor ≡ 11) × ((nexts s (cursor_in cursor)).answer ≡ nothing))
