-- What an input is: sets' files, each after its length, and its end or a rest that is cut short. No stream is in it; the set that a file
-- counts as is said by the loader of a whole file, and claimed in the rules' words.
use Rattle.std.specs.Prelude.{◌≡◌, List, [], ◌∷◌, ◌++◌, ℕ, ◌<◌, ◌≤◌, length}
use Rattle.endian.specs.Bytes.{Bytes, little}
use Rattle.tree_rules.specs.Find.{slots_of}
use Rattle.set_rules.specs.Words.{Set, headers_in, Fit}
use Rattle.set_rules.specs.Accepted.{Accepted}
use Rattle.file_rules.specs.File.{set_bytes, Wide}
use Rattle.file_rules.specs.Faults.{Loadable}
use Rattle.file_rules.specs.Loading.{load_whole}
use Rattle.figure_rules.specs.Stream.{week_slices, no_set, set_to_tally}

-- "each after its byte length in four bytes, the lowest first"
unfoldable pub block : List ℕ → List ℕ
block l = little 4 (length l) ++ l

unfoldable pub blocks : List (List ℕ) → List ℕ
blocks [] = []
blocks (l ∷ ls) = block l ++ blocks ls

-- Files of bytes whose lengths four bytes hold.
pub data Files : List (List ℕ) → Type 0 where
  no_file : Files []
  one_more_lem : {l : List ℕ} {ls : List (List ℕ)} → Bytes l → length l < 4294967296 → Files ls → Files (l ∷ ls)

-- The set that a whole file is tallied as, in slices as long as the program's.
unfoldable pub file_set : List ℕ → Set
file_set l = set_to_tally (load_whole week_slices l)

unfoldable pub file_sets : List (List ℕ) → List Set
file_sets [] = []
file_sets (l ∷ ls) = file_set l ∷ file_sets ls

-- "cut short by the input's end, in its length too"
pub data CutShort : List ℕ → Type 0 where
  in_length : {l : List ℕ} → 1 ≤ length l → length l < 4 → CutShort l
  in_set : (n : ℕ) (l : List ℕ) → n < 4294967296 → length l < n → CutShort (little 4 n ++ l)

pub data Input (l : List ℕ) : Type 0 where
  whole : (ls : List (List ℕ)) → Files ls → l ≡ blocks ls → Input l
  cut : (ls : List (List ℕ)) (rest : List ℕ) → Files ls → CutShort rest → l ≡ blocks ls ++ rest → Input l

-- Not "past 512 slots, 1,024 bin words or 256 headers".
pub record SmallEnough (s : Set) : Type 0 where
  pub bins : length s.bins ≤ 1024
  pub headers : headers_in s ≤ 256
  pub slots : slots_of s.names ≤ 512

-- The file of a set that fits, is accepted and is small enough.
pub record CountedFile (l : List ℕ) (s : Set) : Type 0 where
  pub fit : Fit s
  pub accepted : Accepted s
  pub small : SmallEnough s
  pub wide : Wide s
  pub is : l ≡ set_bytes s

-- The files of sets.
unfoldable pub files_of : List Set → List (List ℕ)
files_of [] = []
files_of (s ∷ l) = set_bytes s ∷ files_of l

-- Sets that files may hold, and what each is tallied as: itself, or none where it is past the program's slices.
pub data Sent : List Set → List Set → Type 0 where
  none_sent : Sent [] []
  itself : {s : Set} {l m : List Set} → Loadable s s → SmallEnough s → Sent l m → Sent (s ∷ l) (s ∷ m)
  past : {s : Set} {l m : List Set} → Loadable s s → (SmallEnough s → ⊥) → Sent l m → Sent (s ∷ l) (no_set ∷ m)
