-- What crate `file_rules` proves of save and the loader, in one record. Every statement of the crate stands here.
use Rattle.std.specs.Prelude.{◌≡◌, ◌≢◌, ◌↔◌, List, [], ◌∷◌, ◌++◌, ℕ, ◌≤◌, length, drop}
use Rattle.slots.specs.Answers.{Answer, given, refused}
use Rattle.endian.specs.Bytes.{Bytes}
use Rattle.upload_rules.specs.Reader.{unsaid, said}
use Rattle.upload_rules.specs.Reading.{joined_bytes}
use Rattle.set_rules.specs.Words.{Set, Fit}
use Rattle.set_rules.specs.Accepted.{Accepted}
use Rattle.file_rules.specs.File.{set_bytes, set_size, counts_in, Wide}
use Rattle.file_rules.specs.Sample.{sample_set, sample_bytes}
use Rattle.file_rules.specs.Saving.{saved, saves}
use Rattle.file_rules.specs.Faults.{Larger, OverLimit, LongFile, WholeFile, LoadVerdict}
use Rattle.file_rules.specs.Left.{padded, Zeroed, ReadsAs}
use Rattle.file_rules.specs.Loader.{note_in, loader_of, new_loader, FitLoader, RoomFor}
use Rattle.file_rules.specs.Loading.{Loading, loading, load_outcome, cut_out, load_start, load_chunk, load_end, load_chunks, load_whole}

-- save on any words.
pub record Saves (s : Set) (out : List ℕ) : Type 0 where
  -- "Save writes the file at the front of `out` and answers the number of its bytes; bytes past it stay."
  pub done : Fit s → Accepted s → set_size s ≤ length out → saves s out ≡ saved (given (set_size s)) (set_bytes s ++ drop (set_size s) out)
  pub size : Fit s → length (set_bytes s) ≡ set_size s
  -- "save 1 (also output too short), 2 (not accepted); nothing is written then"
  pub one : (Fit s → set_size s ≤ length out → ⊥) → saves s out ≡ saved (refused 1) out
  pub two : Fit s → (Accepted s → ⊥) → set_size s ≤ length out → saves s out ≡ saved (refused 2) out

-- "Loading what was saved gives the set back": s was saved, and its file came whole into the slices t, whatever they held.
pub record SavedLoads (s : Set) (fit : Fit s) (wide : Wide s) (ok : Accepted s) (t : Set) (larger : Larger s t) : Type 0 where
  -- answer, loader and slices: the set's words and zeros, and the loader has the four counts
  pub back : load_whole t (set_bytes s)
      ≡ load_outcome (given (set_size s)) (loading (loader_of 4 0 0 (counts_in s) (said (given (set_size s)))) (padded s t))
  -- the set that the counts cut out is the set, and "demand 2 reads over loaded sets too"
  pub same : cut_out (load_whole t (set_bytes s)).left.loader (load_whole t (set_bytes s)).left.set ≡ s
  pub reads : ReadsAs s (cut_out (load_whole t (set_bytes s)).left.loader (load_whole t (set_bytes s)).left.set)

-- start on any words.
pub record LoadStarts (d : Loading) : Type 0 where
  -- "The start answers 1 and begins anew, whatever the loader's words were: it writes the loader and touches nothing else."
  pub begins : load_start d ≡ load_outcome (given 1) (loading new_loader d.set)
  pub inside : FitLoader (load_start d).left.loader

-- chunk and end on any words, with any loader.
pub record LoadCalls (d : Loading) : Type 0 where
  -- "Any cutting, inside a count too, the slices untouched in between, gives the same answer and the same slices; the loader is the same
  -- too."
  pub cutting : (a b : List ℕ) → Bytes a → load_chunk (load_chunk d a).left b ≡ load_chunk d (a ++ b)
  pub cuttings : (l : List ℕ) (ls : List (List ℕ)) → Bytes (l ++ joined_bytes ls)
      → load_chunks (load_chunk d l) ls ≡ load_chunk d (l ++ joined_bytes ls)
  -- "After a refusal every later call repeats it, whatever is lent, and changes nothing. An accepted end call is noted likewise"
  pub again : (l m : List ℕ) → Bytes l → (load_chunk d l).answer.number ≢ 0
      → (load_chunk (load_chunk d l).left m ≡ load_chunk d l) × (load_end (load_chunk d l).left ≡ load_chunk d l)
  pub ended : (l : List ℕ) → (load_chunk (load_end d).left l ≡ load_end d) × (load_end (load_end d).left ≡ load_end d)
  pub stays : FitLoader d.loader → (a : Answer) → d.loader.note ≡ said a → (l : List ℕ)
      → (load_chunk d l ≡ load_outcome a d) × (load_end d ≡ load_outcome a d)
  -- "the loader's length and its ranges, out of which both are 1": "not noted, and nothing changes"
  pub outside : (FitLoader d.loader → ⊥) → (l : List ℕ)
      → (load_chunk d l ≡ load_outcome (refused 1) d) × (load_end d ≡ load_outcome (refused 1) d)
  -- "the slices, where one too short for a count that was taken is 1, for an empty chunk and the end call too"
  pub crowded : d.loader.note ≡ unsaid → (RoomFor d.loader d.set → ⊥) → (l : List ℕ)
      → (load_chunk d l ≡ load_outcome (refused 1) d) × (load_end d ≡ load_outcome (refused 1) d)
  -- "A byte leaves a loader in range, and so does a refusal."
  pub inside : FitLoader d.loader → (l : List ℕ) → Bytes l
      → FitLoader (load_chunk d l).left.loader × FitLoader (load_end d).left.loader
  -- "the lent slices are then zeroed, every word of them, and the answer is noted in the loader. Its other words stay as they were before
  -- that byte": of a byte and of the end call; an accepted end call notes its answer and keeps the other words too
  pub refuses : FitLoader d.loader → RoomFor d.loader d.set → d.loader.note ≡ unsaid → (b : ℕ)
      → (load_chunk d (b ∷ [])).answer.number ≢ 0
      → ((load_chunk d (b ∷ [])).left.loader ≡ note_in d.loader (load_chunk d (b ∷ [])).answer)
      × Zeroed d.set (load_chunk d (b ∷ [])).left.set
  pub ends : FitLoader d.loader → RoomFor d.loader d.set → d.loader.note ≡ unsaid
      → ((load_end d).left.loader ≡ note_in d.loader (load_end d).answer)
      × ((load_end d).answer.number ≢ 0 → Zeroed d.set (load_end d).left.set)

-- The bytes that came since the start, in one chunk: what is said of it is by `cuttings` said of any chunks.
pub record Loads (t : Set) (l : List ℕ) (bytes : Bytes l) : Type 0 where
  -- each number of the end call exactly when its reason holds, and no refusal has a value with it
  pub verdicts : (n : ℕ) → ((load_whole t l).answer.number ≡ n) ↔ LoadVerdict t l n
  pub plain : (load_whole t l).answer.number ≢ 0 → (load_whole t l).answer ≡ refused (load_whole t l).answer.number
  -- of a chunk: 13 and 14, and else "the bytes taken since the start"
  pub long : ((load_chunk (loading new_loader t) l).answer ≡ refused 13) ↔ LongFile t l
  pub over : ((load_chunk (loading new_loader t) l).answer ≡ refused 14) ↔ OverLimit t l
  pub taken : (OverLimit t l → ⊥) → (LongFile t l → ⊥) → (load_chunk (loading new_loader t) l).answer ≡ given (length l)
  -- "the lent slices are then zeroed"
  pub chunk_zeros : (load_chunk (loading new_loader t) l).answer.number ≢ 0 → Zeroed t (load_chunk (loading new_loader t) l).left.set
  pub zeros : (load_whole t l).answer.number ≢ 0 → Zeroed t (load_whole t l).left.set
  -- "The end call answers n exactly if the bytes are the file of a set that fits and is accepted, which the limits allow and the lent
  -- slices hold, and n is their number."
  pub accepted : (n : ℕ) → ((load_whole t l).answer ≡ given n) ↔ ((s : Set) × WholeFile t l s × Fit s × Accepted s × (length l ≡ n))
  -- the bytes say which set it is
  pub one_set : (s u : Set) → WholeFile t l s → WholeFile t l u → s ≡ u
  -- then "an accepted file saves to its own bytes", and the set is there for lookup and walk
  pub leaves : (s : Set) → WholeFile t l s → Fit s → Accepted s
      → (load_whole t l).left ≡ loading (loader_of 4 0 0 (counts_in s) (said (given (length l)))) (padded s t)
  pub own : (s : Set) → WholeFile t l s → Fit s → Accepted s → cut_out (load_whole t l).left.loader (load_whole t l).left.set ≡ s
  pub reads : (s : Set) → WholeFile t l s → Fit s → Accepted s
      → ReadsAs s (cut_out (load_whole t l).left.loader (load_whole t l).left.set)
  pub resaved : (n : ℕ) → (load_whole t l).answer ≡ given n → (out : List ℕ) → n ≤ length out
      → saves (cut_out (load_whole t l).left.loader (load_whole t l).left.set) out ≡ saved (given n) (l ++ drop n out)

pub record Claims : Type 0 where
  -- a file byte by byte
  pub worked : set_bytes sample_set ≡ sample_bytes
  pub save : (s : Set) (out : List ℕ) → Saves s out
  pub back : (s : Set) (fit : Fit s) (wide : Wide s) (ok : Accepted s) (t : Set) (larger : Larger s t) → SavedLoads s fit wide ok t larger
  -- "A fit set has at most 8,160 bins, so that no set which fits is over a limit."
  pub bins : (s : Set) → Fit s → length s.bins ≤ 8160
  pub start : (d : Loading) → LoadStarts d
  pub calls : (d : Loading) → LoadCalls d
  pub loads : (t : Set) (l : List ℕ) (bytes : Bytes l) → Loads t l bytes
