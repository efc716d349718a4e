-- The loader's eight words, their ranges, and what it answers.
use Rattle.std.specs.Prelude.{◌≡◌, Bool, true, List, [], ◌∷◌, ℕ, zero, suc, ◌+◌, ◌*◌, ◌/◌, ◌%◌, ◌^◌, ◌<◌, ◌≤◌}
use Rattle.std.specs.Prelude.{length, get_or, eqb, ltb, leb}
use Rattle.slots.specs.Words.{pick, ◌and◌}
use Rattle.slots.specs.Answers.{Answer}
use Rattle.upload_rules.specs.Reader.{Note, unsaid, said, note_answer}
use Rattle.set_rules.specs.Words.{Set}
use Rattle.file_rules.specs.Layout.{slot_width, field_of, section_words, most_of, can_hold}

pub record Loader : Type 0 where
  -- the sections that are whole
  pub section : ℕ
  -- "8 * the words of the next one that have come, its count the first of them, + the bytes of the next word that have come"
  pub at : ℕ
  -- the number of those bytes
  pub part : ℕ
  -- tables, words, headers, slots
  pub counts : List ℕ
  pub note : Note

abbrev pub loader_of : ℕ → ℕ → ℕ → List ℕ → Note → Loader
loader_of section at part counts note = record { section = section; at = at; part = part; counts = counts; note = note }

-- The count of section s.
abbrev pub count_taken : Loader → ℕ → ℕ
count_taken r s = get_or r.counts s 0

-- The loader of a start.
abbrev pub new_loader : Loader
new_loader = loader_of 0 0 0 (0 ∷ (0 ∷ (0 ∷ (0 ∷ [])))) unsaid

-- The loader with an answer noted.
abbrev pub note_in : Loader → Answer → Loader
note_in r a = loader_of r.section r.at r.part r.counts (said a)

-- The bytes of the next word, where f words of section s have come: of the count four.
unfoldable pub next_width : ℕ → ℕ → ℕ
next_width s zero = 4
next_width s (suc j) = (field_of s j).width

-- How many counts have come.
unfoldable pub counts_come : Loader → ℕ
counts_come r = pick (eqb (r.at / 8) 0) r.section (r.section + 1)

-- The ranges: "0 in section 4; no more words than the count allows, fewer bytes than the next word has"; "below 256 to the power of their
-- number"; "each at most its limit, 0 while it has not come".
pub record FitLoader (r : Loader) : Type 0 where
  pub four : length r.counts ≡ 4
  pub sections : r.section ≤ 4
  pub words : r.at / 8 ≤ section_words r.section (count_taken r r.section)
  pub bytes : r.at % 8 < next_width r.section (r.at / 8)
  pub number : r.part < 256 ^ (r.at % 8)
  pub ended : r.section ≡ 4 → r.at ≡ 0
  pub limits : (s : ℕ) → s < 4 → count_taken r s ≤ most_of s
  pub later : (s : ℕ) → s < 4 → counts_come r ≤ s → count_taken r s ≡ 0

-- The count of section s is in its range.
unfoldable pub count_fits : Loader → ℕ → Bool
count_fits r s = leb (count_taken r s) (pick (ltb s (counts_come r)) (most_of s) 0)

-- The test of the ranges.
unfoldable pub fits_loader : Loader → Bool
fits_loader r =
    eqb (length r.counts) 4 and leb r.section 4
    and leb (r.at / 8) (section_words r.section (count_taken r r.section))
    and ltb (r.at % 8) (next_width r.section (r.at / 8)) and ltb r.part (256 ^ (r.at % 8))
    and pick (eqb r.section 4) (eqb r.at 0) true
    and count_fits r 0 and count_fits r 1 and count_fits r 2 and count_fits r 3

-- The slices hold what the counts say. A count that has not come is 0, and asks nothing of them.
abbrev pub RoomFor : Loader → Set → Type 0
RoomFor r t = (s : ℕ) → s < 4 → can_hold t s (count_taken r s) ≡ true

unfoldable pub has_room : Loader → Set → Bool
has_room r t =
    can_hold t 0 (count_taken r 0) and can_hold t 1 (count_taken r 1) and can_hold t 2 (count_taken r 2) and can_hold t 3 (count_taken r 3)

-- The bytes of the first f words of a slot.
unfoldable pub slot_long : ℕ → ℕ
slot_long zero = 0
slot_long (suc f) = slot_long f + slot_width f

-- The bytes of the first j words of section s behind its count; a slot is 41 bytes.
unfoldable pub words_long : ℕ → ℕ → ℕ
words_long zero j = 4 * j
words_long (suc zero) j = 4 * j
words_long (suc (suc zero)) j = 4 * j
words_long (suc (suc (suc s))) j = 41 * (j / 9) + slot_long (j % 9)

-- The bytes of the first f words of section s, its count the first of them.
unfoldable pub begun_long : ℕ → ℕ → ℕ
begun_long s zero = 0
begun_long s (suc j) = 4 + words_long s j

-- The bytes of the first s sections.
unfoldable pub wholes_long : Loader → ℕ → ℕ
wholes_long r zero = 0
wholes_long r (suc s) = wholes_long r s + (4 + words_long s (section_words s (count_taken r s)))

-- "the bytes taken since the start"
unfoldable pub taken_of : Loader → ℕ
taken_of r = wholes_long r r.section + (begun_long r.section (r.at / 8) + r.at % 8)

-- What a call answers: what is noted, or else the bytes taken.
abbrev pub loader_answer : Loader → Answer
loader_answer r = note_answer r.note (taken_of r)
