-- The loader that the calls of a set's file are lent: eight words, and what a call leaves in them; and save's word.
use Rattle.std.specs.Prelude.{List, [], ◌∷◌, ℕ, length, get_or, set, eqb}
use Rattle.slots.specs.Words.{pick}
use Rattle.slots.specs.Answers.{given, refused, answer_word}
use Rattle.upload_rules.specs.Notes.{NoteSaid, known, unknown, note_word}
use Rattle.set_rules.specs.Words.{Set}
use Rattle.file_rules.specs.Saving.{Saved}
use Rattle.file_rules.specs.Loader.{Loader, loader_of, new_loader, count_taken}
use Rattle.file_rules.specs.Loading.{loading, LoadOutcome, load_chunk, load_end}
use Rattle.file.specs.Notes.{load_note_at}

-- What save comes to: its word, and what it leaves in `out`.
pub record SaveWorded : Type 0 where
  pub word : ℕ
  pub out : List ℕ

unfoldable pub save_worded : Saved → SaveWorded
save_worded o = record { word = answer_word o.answer; out = o.out }

-- The words say a loader, or none: the note is no answer of the loader.
pub data LoaderSaid : Type 0 where
  saying_loader : Loader → LoaderSaid
  saying_no_loader : LoaderSaid

abbrev pub loader_noted : List ℕ → NoteSaid → LoaderSaid
loader_noted w (known n) =
    saying_loader
    (loader_of (get_or w 0 0) (get_or w 1 0) (get_or w 2 0) (get_or w 3 0 ∷ (get_or w 4 0 ∷ (get_or w 5 0 ∷ (get_or w 6 0 ∷ [])))) n)
loader_noted w unknown = saying_no_loader

-- 1 where "the loader is not eight words".
unfoldable pub loader_in : List ℕ → LoaderSaid
loader_in w = pick (eqb (length w) 8) (loader_noted w (load_note_at (get_or w 7 0))) saying_no_loader

unfoldable pub loader_written : List ℕ → Loader → List ℕ
loader_written w r =
    let low = set (set (set (set w 0 r.section) 1 r.at) 2 r.part) 3 (count_taken r 0) in
    set (set (set (set low 4 (count_taken r 1)) 5 (count_taken r 2)) 6 (count_taken r 3)) 7 (note_word r.note)

-- What a start comes to: its word, and what it leaves in the loader's words.
pub record LoaderWorded : Type 0 where
  pub word : ℕ
  pub loader : List ℕ

abbrev pub loader_worded : ℕ → List ℕ → LoaderWorded
loader_worded word w = record { word = word; loader = w }

unfoldable pub started_loader : List ℕ → LoaderWorded
started_loader w =
    pick (eqb (length w) 8) (loader_worded (answer_word (given 1)) (loader_written w new_loader))
    (loader_worded (answer_word (refused 1)) w)

-- What a chunk or an end call comes to: its word, and what it leaves in the slices and in the loader's words.
pub record LoadWorded : Type 0 where
  pub word : ℕ
  pub left : Set
  pub loader : List ℕ

abbrev pub load_worded : ℕ → Set → List ℕ → LoadWorded
load_worded word t w = record { word = word; left = t; loader = w }

abbrev pub load_into : List ℕ → LoadOutcome → LoadWorded
load_into w o = load_worded (answer_word o.answer) o.left.set (loader_written w o.left.loader)

unfoldable pub chunk_loaded : Set → List ℕ → List ℕ → LoadWorded
chunk_loaded t w chunk =
    elim (loader_in w) [
      | saying_loader r ↦ load_into w (load_chunk (loading r t) chunk)
      | saying_no_loader ↦ load_worded (answer_word (refused 1)) t w
    ]

unfoldable pub ended_loader : Set → List ℕ → LoadWorded
ended_loader t w =
    elim (loader_in w) [
      | saying_loader r ↦ load_into w (load_end (loading r t))
      | saying_no_loader ↦ load_worded (answer_word (refused 1)) t w
    ]
