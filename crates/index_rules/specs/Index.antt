-- A live tree with its journal: the words that insert, remove, replace and rollback are lent.
use Rattle.std.specs.Prelude.{Bool, List, ◌≡◌, ℕ, ◌+◌, ◌-◌, ◌*◌, ◌/◌, ◌≤◌, length, get_or, set, eqb, leb}
use Rattle.slots.specs.Words.{◌and◌, most_lines}
use Rattle.slots.specs.Answers.{Answer}
use Rattle.index_rules.specs.Live.{Live, Fit, fits, lent_tree}

pub record Index : Type 0 where
  pub live : Live
  pub lines : List ℕ

abbrev pub index : Live → List ℕ → Index
index t lines = record { live = t; lines = lines }

-- The tree with its journal that five lent slices are.
abbrev pub lent : List ℕ → List ℕ → List ℕ → List ℕ → List ℕ → Index
lent names cells head sizes lines = index (lent_tree names cells head sizes) lines

-- What a call comes to: its answer, and all that it leaves in the lent slices.
pub record Outcome : Type 0 where
  pub answer : Answer
  pub left : Index

abbrev pub outcome : Answer → Index → Outcome
outcome a ix = record { answer = a; left = ix }

-- "capacity 0 to 1,024 lines, and a length. Lines are numbered from 0." The length is word 0, then six words to a line.
abbrev pub line_words : ℕ
line_words = 6

abbrev pub length_of : List ℕ → ℕ
length_of lines = get_or lines 0 0

abbrev pub lines_of : List ℕ → ℕ
lines_of lines = (length lines - 1) / line_words

pub record FitIndex (ix : Index) : Type 0 where
  pub tree : Fit ix.live
  pub capacity : ℕ
  pub most : capacity ≤ most_lines
  pub words : length ix.lines ≡ 1 + line_words * capacity
  pub within : length_of ix.lines ≤ capacity

-- The words are those of so many whole lines, and the length does not pass them.
unfoldable pub whole_lines : List ℕ → Bool
whole_lines lines = let c = lines_of lines in leb c most_lines and eqb (length lines) (1 + line_words * c)

unfoldable pub fits_journal : List ℕ → Bool
fits_journal lines = whole_lines lines and leb (length_of lines) (lines_of lines)

unfoldable pub fits_index : Index → Bool
fits_index ix = fits ix.live and fits_journal ix.lines

-- "A line is insert (kind 1), remove (kind 2) or replace (kind 3), with pair and place"; a remove line "also notes the pair that stood just
-- before it in the chain, or that none did": a kind of its own says that one is noted.
pub record JournalLine : Type 0 where
  pub kind : ℕ
  pub hash : ℕ
  pub key : ℕ
  pub place : ℕ
  pub prior_hash : ℕ
  pub prior_key : ℕ

abbrev pub insert_kind : ℕ
insert_kind = 1

abbrev pub remove_kind : ℕ
remove_kind = 2

abbrev pub replace_kind : ℕ
replace_kind = 3

abbrev pub noted_kind : ℕ
noted_kind = 4294967298

-- The line of these words.
abbrev pub line_made : ℕ → ℕ → ℕ → ℕ → ℕ → ℕ → JournalLine
line_made kind hash key p prior_hash prior_key =
    record { kind = kind; hash = hash; key = key; place = p; prior_hash = prior_hash; prior_key = prior_key }

-- A line that notes no pair.
abbrev pub plain_line : ℕ → ℕ → ℕ → ℕ → JournalLine
plain_line kind hash key p = line_made kind hash key p 0 0

-- A remove line that notes the pair before.
abbrev pub noted_line : ℕ → ℕ → ℕ → ℕ → ℕ → JournalLine
noted_line hash key p prior_hash prior_key = line_made noted_kind hash key p prior_hash prior_key

-- Both places of a replace line in one word: the new place, and the old one above its 32 bits.
abbrev pub both_places : ℕ → ℕ → ℕ
both_places new old = new + 4294967296 * old

-- Word f of line k, and line k.
abbrev pub at : ℕ → ℕ → ℕ
at k f = 1 + line_words * k + f

abbrev pub line_word : List ℕ → ℕ → ℕ → ℕ
line_word lines k f = get_or lines (at k f) 0

abbrev pub line_of : List ℕ → ℕ → JournalLine
line_of lines k =
    record {
      kind = line_word lines k 0;
      hash = line_word lines k 1;
      key = line_word lines k 2;
      place = line_word lines k 3;
      prior_hash = line_word lines k 4;
      prior_key = line_word lines k 5;
    }

-- Line k is j.
unfoldable pub lined : List ℕ → ℕ → JournalLine → List ℕ
lined lines k j =
    set
    (set (set (set (set (set lines (at k 0) j.kind) (at k 1) j.hash) (at k 2) j.key) (at k 3) j.place) (at k 4) j.prior_hash)
    (at k 5) j.prior_key

-- "Each accepted insert, remove or replace appends one."
unfoldable pub appended : List ℕ → JournalLine → List ℕ
appended lines j = set (lined lines (length_of lines) j) 0 (length_of lines + 1)
