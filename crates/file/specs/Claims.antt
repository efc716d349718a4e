-- What crate `file` proves beside its contracts: answers of save and of the loader are told apart by their numbers and values, loaders by
-- their words, notes by their word, and each public routine has one outcome, what it returns with all that is left in the lent slices.
use Rattle.std.specs.Prelude.{◌≡◌, Option, Result, List, [], ℕ, ◌*◌, ◌<◌, take}
use Rattle.slots.specs.Answers.{Answer, OneAnswer, value_beside}
use Rattle.slots.specs.Coded.{answer_of}
use Rattle.upload_rules.specs.Reader.{Note, said}
use Rattle.upload_rules.specs.Notes.{known, note_word}
use Rattle.set_rules.specs.Words.{Set, lent_set}
use Rattle.file_rules.specs.Saving.{saved, saves}
use Rattle.file_rules.specs.Loading.{Loading, loading, LoadOutcome, may_go_on, load_start, load_chunk, load_end}
use Rattle.file_rules.specs.Loader.{new_loader}
use Rattle.file.specs.Saved.{save_of}
use Rattle.file.specs.Meanings.{load_reply_of, loader_words, loaded_of}
use Rattle.file.specs.Notes.{load_note_at_of, load_note_at}
use Rattle.slots.specs.declared.answer.Unsound.{Unsound}
use Rattle.file.specs.declared.reply.LoadRefusal.{LoadRefusal}
use Rattle.file.specs.declared.loader.Loader.{Loader}
use Rattle.file.specs.declared.load.Load.{Load}

-- What save returns, and `out` after it.
pub record SaveReturned : Type 0 where
  pub reply : Result ℕ Unsound
  pub out : List ℕ

-- What a call of the loader returns, and the words of the five slices after it.
pub record LoadReturned : Type 0 where
  pub load : Load
  pub lengths : List ℕ
  pub bins : List ℕ
  pub heads : List ℕ
  pub names : List ℕ
  pub cells : List ℕ

abbrev pub returned_by : (Load → Set → LoadOutcome) → LoadReturned → LoadOutcome
returned_by f r = f r.load (lent_set r.lengths r.bins r.heads r.names r.cells)

pub record Claims : Type 0 where
  pub save_reply_one_to_one : (a b : Result ℕ Unsound) → save_of a ≡ save_of b → a ≡ b
  pub answer_one : (a : Answer) → OneAnswer (λ r. answer_of r ≡ a)
  pub save_one : (s : Set) (out : List ℕ) → OneAnswer (λ (r : SaveReturned). saved (save_of r.reply) r.out ≡ saves s out)
  pub load_reply_one_to_one : (a b : Result ℕ LoadRefusal) → load_reply_of a ≡ load_reply_of b → a ≡ b
  pub loader_one_to_one : (a b : Loader) → loader_words a ≡ loader_words b → a ≡ b
  -- start is lent no slice: what it returns is one
  pub start_one : OneAnswer (λ r. loaded_of r (lent_set [] [] [] [] []) ≡ load_start (loading new_loader (lent_set [] [] [] [] [])))
  pub chunk_one : (d : Loading) (chunk : List ℕ) → OneAnswer (λ r. returned_by loaded_of r ≡ load_chunk d chunk)
  pub end_one : (d : Loading) → OneAnswer (λ r. returned_by loaded_of r ≡ load_end d)
  pub may_go_on_one : (d : Loading) → OneAnswer (λ r. r ≡ may_go_on d)
  -- the front of a slice that a count cuts out
  pub front_words_one : (count : ℕ) (words : List ℕ) → OneAnswer (λ r. r ≡ take count words)
  pub front_heads_one : (count : ℕ) (heads : List ℕ) → OneAnswer (λ r. r ≡ take (3 * count) heads)
  pub front_names_one : (count : ℕ) (names : List ℕ) → OneAnswer (λ r. r ≡ take (2 * count) names)
  pub front_cells_one : (count : ℕ) (cells : List ℕ) → OneAnswer (λ r. r ≡ take (7 * count) cells)
  -- a note and its word: a noted answer's word says that answer, and a word that says a note is that note's
  pub load_note_one_to_one : (a b : Option (Option (Result ℕ LoadRefusal))) → load_note_at_of a ≡ load_note_at_of b → a ≡ b
  pub word_one : (n : Note) → OneAnswer (λ r. r ≡ note_word n)
  pub of_word_one : (w : ℕ) → OneAnswer (λ r. load_note_at_of r ≡ load_note_at w)
  pub load_word_back : (a : Result ℕ LoadRefusal) → value_beside 0 (load_reply_of a).number (load_reply_of a).value < 4294967296
      → load_note_at (note_word (said (load_reply_of a))) ≡ known (said (load_reply_of a))
  pub load_said_back : (w : ℕ) (n : Note) → load_note_at w ≡ known n → note_word n ≡ w
