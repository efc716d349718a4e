-- What save and the loader's calls come to, said of the words that they answer and leave by the rules of section 16.
use Rattle.std.specs.Prelude.{◌≡◌, ◌≢◌, ◌↔◌, List, ◌++◌, ℕ, ◌/◌, ◌<◌, ◌≤◌, length, drop}
use Rattle.slots.specs.Answers.{Answer, given, refused}
use Rattle.endian.specs.Bytes.{Bytes}
use Rattle.upload_rules.specs.Reader.{said}
use Rattle.set_rules.specs.Words.{Set, Fit}
use Rattle.set_rules.specs.Accepted.{Accepted}
use Rattle.file_rules.specs.File.{set_bytes, set_size, counts_in}
use Rattle.file_rules.specs.Saving.{Saved}
use Rattle.file_rules.specs.Faults.{WholeFile, LoadVerdict}
use Rattle.file_rules.specs.Left.{padded, Zeroed}
use Rattle.file_rules.specs.Loader.{Loader, loader_of, new_loader, FitLoader}
use Rattle.file_rules.specs.Loading.{LoadOutcome}
use Rattle.word_rules.specs.Told.{WordTells}
use Rattle.word_rules.specs.Lent.{LoaderWords}
use Rattle.word_rules.specs.Leaving.{RefusedBy}
use Rattle.word_rules.specs.Loaders.{SaveWorded, started_loader, LoadWorded, chunk_loaded, ended_loader}

-- oz_save, on any words: of the rules' call that comes to o the word tells the answer, and what is left is what the rules say.
pub record SaveTold (s : Set) (out : List ℕ) (o : Saved) (r : SaveWorded) : Type 0 where
  pub tells : WordTells 4294967296 o.answer r.word
  -- "save 1 (also output too short), 2 (not accepted); nothing is written then"
  pub one : (r.word / 4294967296 ≡ 1) ↔ ((Fit s × (set_size s ≤ length out)) → ⊥)
  pub two : (r.word / 4294967296 ≡ 2) ↔ (Fit s × (set_size s ≤ length out) × (Accepted s → ⊥))
  pub stays : RefusedBy r.word → r.out ≡ out
  -- "Save writes the file at the front of `out` and answers the number of its bytes; bytes past it stay."
  pub writes : r.word / 4294967296 ≡ 0 → (r.word ≡ set_size s) × (r.out ≡ set_bytes s ++ drop (set_size s) out)
  -- and there is no other refusal
  pub only : RefusedBy r.word → r.word / 4294967296 ≤ 2

-- oz_load_start, on any words of the loader.
pub record LoadStartTold (w : List ℕ) : Type 0 where
  -- "The start answers 1 and begins anew, whatever the loader's words were"
  pub begins : length w ≡ 8 → ((started_loader w).word ≡ 1) × LoaderWords (started_loader w).loader new_loader
  -- "The loader's start gives 1 alone"
  pub another : length w ≢ 8 → WordTells 4294967296 (refused 1) (started_loader w).word × ((started_loader w).loader ≡ w)

-- A call of the loader that comes to o: the word tells the answer, the slices are left, and the words are the loader that is left.
pub record LoadTold (o : LoadOutcome) (r : LoadWorded) : Type 0 where
  pub tells : WordTells 4294967296 o.answer r.word
  pub left : r.left ≡ o.left.set
  pub loader : LoaderWords r.loader o.left.loader

-- The words are told as 1 and stay.
abbrev pub UnknownLoader : Set → List ℕ → LoadWorded → Type 0
UnknownLoader t w r = WordTells 4294967296 (refused 1) r.word × (r.left ≡ t) × (r.loader ≡ w)

-- Chunks and end calls one after the other, each lent what the one before left.
pub record LoadContinued (t : Set) (w : List ℕ) : Type 0 where
  -- "Any cutting, inside a count too, the slices untouched in between, gives the same answer and the same slices; the loader is the same
  -- too."
  pub cutting : (a b : List ℕ) → Bytes a
      → chunk_loaded (chunk_loaded t w a).left (chunk_loaded t w a).loader b ≡ chunk_loaded t w (a ++ b)
  -- "After a refusal every later call repeats it, whatever is lent, and changes nothing. An accepted end call is noted likewise"
  pub again : (l m : List ℕ) → Bytes l → RefusedBy (chunk_loaded t w l).word
      → (chunk_loaded (chunk_loaded t w l).left (chunk_loaded t w l).loader m ≡ chunk_loaded t w l)
      × (ended_loader (chunk_loaded t w l).left (chunk_loaded t w l).loader ≡ chunk_loaded t w l)
  pub ended : (l : List ℕ) → (chunk_loaded (ended_loader t w).left (ended_loader t w).loader l ≡ ended_loader t w)
      × (ended_loader (ended_loader t w).left (ended_loader t w).loader ≡ ended_loader t w)
  -- "whatever is lent": any slices
  pub noted : (r : Loader) (a : Answer) → LoaderWords w r → FitLoader r → r.note ≡ said a → (l : List ℕ)
      → (WordTells 4294967296 a (chunk_loaded t w l).word × ((chunk_loaded t w l).left ≡ t) × ((chunk_loaded t w l).loader ≡ w))
      × (WordTells 4294967296 a (ended_loader t w).word × ((ended_loader t w).left ≡ t) × ((ended_loader t w).loader ≡ w))

-- What start, one chunk of these bytes and the end call leave, on any eight words.
abbrev pub load_after_start : Set → List ℕ → List ℕ → LoadWorded
load_after_start t w l = chunk_loaded t (started_loader w).loader l

abbrev pub end_after_load : Set → List ℕ → List ℕ → LoadWorded
end_after_load t w l = ended_loader (load_after_start t w l).left (load_after_start t w l).loader

-- A file into any slices, nobody else writing.
pub record FileTold (t : Set) (w l : List ℕ) : Type 0 where
  -- each number of the end call exactly when its reason holds
  pub verdicts : (n : ℕ) → ((end_after_load t w l).word / 4294967296 ≡ n) ↔ LoadVerdict t l n
  -- "The end call answers n exactly if the bytes are the file of a set that fits and is accepted, which the limits allow and the lent
  -- slices hold, and n is their number."
  pub accepted : (n : ℕ) → n < 4294967296 → ((end_after_load t w l).word ≡ n)
      ↔ ((s : Set) × WholeFile t l s × Fit s × Accepted s × (length l ≡ n))
  -- "The set's words then stand at the front of the slices; on success the unfilled rest of each is zero, and the loader's words 3 to 6 are
  -- the four counts."
  pub leaves : (s : Set) → WholeFile t l s → Fit s → Accepted s → ((end_after_load t w l).left ≡ padded s t)
      × LoaderWords (end_after_load t w l).loader (loader_of 4 0 0 (counts_in s) (said (given (length l))))
  -- "the lent slices are then zeroed, every word of them"
  pub zeros : RefusedBy (end_after_load t w l).word → Zeroed t (end_after_load t w l).left
  pub chunk_zeros : RefusedBy (load_after_start t w l).word → Zeroed t (load_after_start t w l).left
