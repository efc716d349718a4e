-- The reader, the loader, the cursor, the reason and the report that words are, by the rules' tables: nothing here knows how they are
-- read and written.
use Rattle.std.specs.Prelude.{◌≡◌, ◌≢◌, List, ℕ, ◌+◌, ◌<◌, ◌≤◌, length, get_or}
use Rattle.slots.specs.Words.{state, cell}
use Rattle.slots.specs.Pairs.{pair_of}
use Rattle.slots.specs.Answers.{Answer, some, given, refused}
use Rattle.set_rules.specs.Cursor.{Cursor}
use Rattle.upload_rules.specs.Reader.{Note, unsaid, said, Reader}
use Rattle.file_rules.specs.Loader.{Loader}
use Rattle.night_rules.specs.Account.{Account}
use Rattle.night_rules.specs.Saved.{Usable}
use Rattle.word_rules.specs.Told.{WordTells}

-- An answer of the reader: "the entries taken since the start, or a refusal".
pub data ReaderAnswer : Answer → Type 0 where
  takes : {n : ℕ} → n < 4294967296 → ReaderAnswer (given n)
  -- "3 with the slot of the pair at that point"
  present : {x : ℕ} → x < 4294967296 → ReaderAnswer (record { number = 3; value = some x })
  -- "18 Wrong kind, 3, 5, 6 as the insert gives them, 13 Long past section 4, 12 Short at the end call"
  wrong_kind : ReaderAnswer (refused 18)
  full : ReaderAnswer (refused 5)
  unlined : ReaderAnswer (refused 6)
  long : ReaderAnswer (refused 13)
  short : ReaderAnswer (refused 12)
  -- "where the rollback is refused in turn, its 1, 2, 7 or 8"
  unfit : ReaderAnswer (refused 1)
  damaged : ReaderAnswer (refused 2)
  bad_mark : ReaderAnswer (refused 7)
  misfit : ReaderAnswer (refused 8)

-- "0 while nothing is noted, else 1 + the answer word"
pub data NoteTold (Says : Answer → Type 0) : Note → ℕ → Type 0 where
  nothing : NoteTold Says unsaid 0
  noted : {a : Answer} {word : ℕ} → Says a → WordTells 4294967296 a word → NoteTold Says (said a) (1 + word)

-- "The reader is eight words of 64 bits": "section", "got", "owed", "hash", "key", "mark", "taken", "note".
pub record ReaderWords (w : List ℕ) (r : Reader) : Type 0 where
  pub eight : length w ≡ 8
  pub section : get_or w 0 0 ≡ r.section
  pub got : get_or w 1 0 ≡ r.got
  pub owed : get_or w 2 0 ≡ r.owed
  pub hash : get_or w 3 0 ≡ r.hash
  pub key : get_or w 4 0 ≡ r.key
  -- "the mark of the start, and 1 more, so that eight zeros are no reader"
  pub mark : get_or w 5 0 ≡ r.mark + 1
  pub taken : get_or w 6 0 ≡ r.taken
  pub note : NoteTold ReaderAnswer r.note (get_or w 7 0)
  -- the word is "1 to 2^32"
  pub narrow : r.mark < 4294967296

-- An answer of the loader: "the bytes taken since the start", or "14 Over limit", "13 Long", "12 Short", "1 where the set that the counts
-- cut out of the slices does not fit, and 2 where it is not accepted".
pub data LoaderAnswer : Answer → Type 0 where
  loads : {n : ℕ} → n < 4294967296 → LoaderAnswer (given n)
  over_limit : LoaderAnswer (refused 14)
  long_file : LoaderAnswer (refused 13)
  short_file : LoaderAnswer (refused 12)
  unfit_set : LoaderAnswer (refused 1)
  damaged_set : LoaderAnswer (refused 2)

-- "The loader is eight words of 64 bits": "section", "at", "part", the four counts "tables", "words", "headers", "slots", and "note".
pub record LoaderWords (w : List ℕ) (r : Loader) : Type 0 where
  pub eight : length w ≡ 8
  pub section : get_or w 0 0 ≡ r.section
  pub at : get_or w 1 0 ≡ r.at
  pub part : get_or w 2 0 ≡ r.part
  pub four : length r.counts ≡ 4
  pub counts : (s : ℕ) → s < 4 → get_or w (3 + s) 0 ≡ get_or r.counts s 0
  pub note : NoteTold LoaderAnswer r.note (get_or w 7 0)

-- "A cursor is 11 words: base table, depth, eight indexes, last slot"
pub record CursorWords (w : List ℕ) (c : Cursor) : Type 0 where
  pub eleven : length w ≡ 11
  pub base : get_or w 0 0 ≡ c.base
  pub depth : get_or w 1 0 ≡ c.depth
  pub eight : length c.indexes ≡ 8
  pub indexes : (j : ℕ) → j < 8 → get_or w (2 + j) 0 ≡ get_or c.indexes j 0
  pub last : get_or w 10 0 ≡ c.last

-- "The words are: slot, other, then two ways, each its last slot, side, blacks."
pub record AccountWords (w : List ℕ) (a : Account) : Type 0 where
  pub eight : length w ≡ 8
  pub slot : get_or w 0 0 ≡ a.slot
  pub other : get_or w 1 0 ≡ a.other
  -- "The first way goes by the left link, the second by the right."
  pub one_last : get_or w 2 0 ≡ a.one.last
  pub one_side : get_or w 3 0 ≡ a.one.side
  pub one_blacks : get_or w 4 0 ≡ a.one.blacks
  pub two_last : get_or w 5 0 ≡ a.two.last
  pub two_side : get_or w 6 0 ≡ a.two.side
  pub two_blacks : get_or w 7 0 ≡ a.two.blacks

-- Where a rule is told, or 0, the word at this place says nothing: T2 has no slot, none but T4 another one, none but T6 two ways.
pub data SaysNothing : ℕ → ℕ → Type 0 where
  -- "for a sound tree all eight are"
  sound : {at : ℕ} → SaysNothing 0 at
  -- "null: the header"
  header : SaysNothing 2 0
  other : {rule : ℕ} → rule ≢ 4 → SaysNothing rule 1
  ways : {rule at : ℕ} → rule ≢ 6 → 2 ≤ at → SaysNothing rule at

-- "Of the slots of these states that have one pair the lowest is kept."
pub record SavedSlot (names cells : List ℕ) (i : ℕ) : Type 0 where
  pub usable : Usable cells i
  pub lowest : (s : ℕ) → s < i → Usable cells s → pair_of names s ≢ pair_of names i

-- "The report has a word of 32 bits for each slot of the first tree": the table, by that tree's names and cells alone.
pub data ReportWord (names cells : List ℕ) (i : ℕ) : ℕ → Type 0 where
  kept : SavedSlot names cells i → ReportWord names cells i 0
  free : cell cells i state ≡ 0 → ReportWord names cells i 1
  unknown : 2 < cell cells i state → ReportWord names cells i 2
  -- "s is a lower kept slot with its pair"
  repeats : {s : ℕ} → Usable cells i → s < i → SavedSlot names cells s → pair_of names s ≡ pair_of names i
      → ReportWord names cells i (3 + s)
