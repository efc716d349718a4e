-- What start, chunk and end of the loader do: bytes are taken one after the other, a word is written at its last byte, and on a refusal
-- the slices are zeroed.
use Rattle.std.specs.Prelude.{◌≡◌, Bool, true, List, [], ◌∷◌, ◌++◌, ℕ, zero, suc, ◌+◌, ◌-◌, ◌*◌, ◌/◌, ◌%◌, ◌^◌}
use Rattle.std.specs.Prelude.{length, set, take, replicate, eqb, ltb, leb}
use Rattle.slots.specs.Words.{pick, ◌and◌}
use Rattle.slots.specs.Answers.{Answer, given, refused}
use Rattle.upload_rules.specs.Reader.{unsaid, is_open}
use Rattle.set_rules.specs.Words.{Set, lent_set, fits}
use Rattle.set_rules.specs.Accepting.{accepted}
use Rattle.file_rules.specs.Layout.{field_of, section_words, most_of, can_hold, put_field}
use Rattle.file_rules.specs.Loader.{Loader, loader_of, new_loader, count_taken, note_in, next_width, fits_loader, has_room, taken_of}
use Rattle.file_rules.specs.Loader.{FitLoader, RoomFor}
use Rattle.file_rules.specs.Loader.{loader_answer}

-- All that the loader's calls work on.
pub record Loading : Type 0 where
  pub loader : Loader
  pub set : Set

abbrev pub loading : Loader → Set → Loading
loading r t = record { loader = r; set = t }

-- What a call comes to: its answer, and all that it leaves.
pub record LoadOutcome : Type 0 where
  pub answer : Answer
  pub left : Loading

abbrev pub load_outcome : Answer → Loading → LoadOutcome
load_outcome a d = record { answer = a; left = d }

-- "The lent slices are then zeroed, every word of them."
abbrev pub zeros_for : List ℕ → List ℕ
zeros_for l = replicate (length l) 0

abbrev pub zero_set : Set → Set
zero_set t = lent_set (zeros_for t.lengths) (zeros_for t.bins) (zeros_for t.heads) (zeros_for t.names) (zeros_for t.cells)

-- A refusal: "the answer is noted in the loader. Its other words stay as they were before that byte".
unfoldable pub load_refused : Loader → Set → Answer → Loading
load_refused r t a = loading (note_in r a) (zero_set t)

-- The loader at another place of the file.
abbrev pub loader_at : Loader → ℕ → ℕ → ℕ → Loader
loader_at r section at part = loader_of section at part r.counts unsaid

-- The loader after f words of its section, the count the first of them: it waits for the next one, or for the next section.
unfoldable pub after_words : Loader → ℕ → Loader
after_words r f =
    pick (eqb f (section_words r.section (count_taken r r.section) + 1))
    (loader_at r (r.section + 1) 0 0)
    (loader_at r r.section (8 * f) 0)

-- The loader with a count taken.
abbrev pub with_count : Loader → ℕ → Loader
with_count r c = loader_of r.section r.at r.part (set r.counts r.section c) unsaid

-- "14 Over limit once a complete count passes its limit .. or its lent slice"
unfoldable pub may_count : Set → ℕ → ℕ → Bool
may_count t s c = leb c (most_of s) and can_hold t s c

-- A whole word, where f words of the section have come before it: the count, or a word that is written.
unfoldable pub word_came : Loader → Set → ℕ → ℕ → Loading
word_came r t zero c = pick (may_count t r.section c) (loading (after_words (with_count r c) 1) t) (load_refused r t (refused 14))
word_came r t (suc j) v = loading (after_words r (suc (suc j))) (put_field t (field_of r.section j) v)

-- A word's bytes so far, with one more on top.
unfoldable pub with_byte : Loader → ℕ → ℕ
with_byte r b = r.part + 256 ^ (r.at % 8) * b

-- A byte, nothing being noted: after the last section it is 13; else "its earlier bytes wait in `part`", or it is a word's last.
unfoldable pub byte_stored : Loader → Set → ℕ → Loading
byte_stored r t b =
    pick (eqb r.section 4) (load_refused r t (refused 13))
    (pick (ltb (r.at % 8 + 1) (next_width r.section (r.at / 8)))
    (loading (loader_at r r.section (r.at + 1) (with_byte r b)) t)
    (word_came r t (r.at / 8) (with_byte r b)))

-- A byte: "After a refusal every later call repeats it, whatever is lent, and changes nothing."
unfoldable pub byte_loaded : Loading → ℕ → Loading
byte_loaded d b = pick (is_open d.loader.note) (byte_stored d.loader d.set b) d

unfoldable pub bytes_loaded : Loading → List ℕ → Loading
bytes_loaded d [] = d
bytes_loaded d (b ∷ l) = bytes_loaded (byte_loaded d b) l

-- "the set that the counts cut out of the slices"
unfoldable pub cut_out : Loader → Set → Set
cut_out r t =
    lent_set (take (count_taken r 0) t.lengths) (take (count_taken r 1) t.bins) (take (3 * count_taken r 2) t.heads)
    (take (2 * count_taken r 3) t.names)
    (take (7 * count_taken r 3) t.cells)

-- "on success the unfilled rest of each is zero"
abbrev pub rest_zeroed : ℕ → List ℕ → List ℕ
rest_zeroed n l = take n l ++ replicate (length l - n) 0

unfoldable pub rests_zeroed : Loader → Set → Set
rests_zeroed r t =
    lent_set (rest_zeroed (count_taken r 0) t.lengths) (rest_zeroed (count_taken r 1) t.bins)
    (rest_zeroed (3 * count_taken r 2) t.heads)
    (rest_zeroed (2 * count_taken r 3) t.names)
    (rest_zeroed (7 * count_taken r 3) t.cells)

-- The end of the bytes, nothing being noted: "12 Short at the end call", "then at the end call 1 where the set that the counts cut out of
-- the slices does not fit, and 2 where it is not accepted"; "An accepted end call is noted likewise".
unfoldable pub end_judged : Loader → Set → Loading
end_judged r t =
    pick (eqb r.section 4)
    (pick (fits (cut_out r t))
    (pick (accepted (cut_out r t)) (loading (note_in r (given (taken_of r))) (rests_zeroed r t)) (load_refused r t (refused 2)))
    (load_refused r t (refused 1)))
    (load_refused r t (refused 12))

unfoldable pub end_loaded : Loading → Loading
end_loaded d = pick (is_open d.loader.note) (end_judged d.loader d.set) d

-- A loader in range, with slices that hold its counts while nothing is noted.
pub record GoesOn (d : Loading) : Type 0 where
  pub fit : FitLoader d.loader
  pub room : d.loader.note ≡ unsaid → RoomFor d.loader d.set

-- "the loader's length and its ranges, out of which both are 1; the note, given again whatever is lent; the slices, where one too short for
-- a count that was taken is 1"
unfoldable pub may_go_on : Loading → Bool
may_go_on d = fits_loader d.loader and pick (is_open d.loader.note) (has_room d.loader d.set) true

-- The answer of what a call leaves; where it may not go on it is 1, and nothing changes.
abbrev pub if_may : Loading → Loading → LoadOutcome
if_may d e = pick (may_go_on d) (load_outcome (loader_answer e.loader) e) (load_outcome (refused 1) d)

-- start: "it writes the loader and touches nothing else"
unfoldable pub load_start : Loading → LoadOutcome
load_start d = load_outcome (given 1) (loading new_loader d.set)

-- chunk
unfoldable pub load_chunk : Loading → List ℕ → LoadOutcome
load_chunk d l = if_may d (bytes_loaded d l)

-- end
unfoldable pub load_end : Loading → LoadOutcome
load_end d = if_may d (end_loaded d)

-- Chunks one after another: what the last answers, and what is left.
unfoldable pub load_chunks : LoadOutcome → List (List ℕ) → LoadOutcome
load_chunks o [] = o
load_chunks o (l ∷ ls) = load_chunks (load_chunk o.left l) ls

-- A whole file in one chunk, from a start, and the end call.
abbrev pub load_whole : Set → List ℕ → LoadOutcome
load_whole t l = load_end (load_chunk (loading new_loader t) l).left
