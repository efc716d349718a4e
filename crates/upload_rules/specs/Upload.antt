-- What an upload is: four sections of pairs, their bytes, and their entries. Nothing here knows of a reader.
use Rattle.std.specs.Prelude.{◌≡◌, List, [], ◌∷◌, ◌++◌, ℕ, suc, ◌+◌, ◌^◌, ◌<◌, length}
use Rattle.endian.specs.Bytes.{little}
use Rattle.slots.specs.Pairs.{Pair}
use Rattle.index_rules.specs.Contents.{Entry, entry}

-- "entries of eight bytes hash and eight bytes key"
unfoldable pub pair_bytes : Pair → List ℕ
pair_bytes p = little 8 p.hash ++ little 8 p.key

unfoldable pub pairs_bytes : List Pair → List ℕ
pairs_bytes [] = []
pairs_bytes (p ∷ l) = pair_bytes p ++ pairs_bytes l

-- "each a kind byte and a two-byte little-endian count"
unfoldable pub header_bytes : ℕ → ℕ → List ℕ
header_bytes kind count = kind ∷ little 2 count

-- "then that many entries"
unfoldable pub section_bytes : ℕ → List Pair → List ℕ
section_bytes kind l = header_bytes kind (length l) ++ pairs_bytes l

-- "sections of kinds 1 to 4 in that order": those of the kinds from k on.
unfoldable pub sections_bytes : ℕ → List (List Pair) → List ℕ
sections_bytes k [] = []
sections_bytes k (s ∷ ss) = section_bytes k s ++ sections_bytes (suc k) ss

-- A section's count is two bytes, hash and key eight.
pub data Pairs : List Pair → Type 0 where
  none : Pairs []
  more : {p : Pair} {l : List Pair} → p.hash < 2 ^ 64 → p.key < 2 ^ 64 → Pairs l → Pairs (p ∷ l)

pub data Sections : List (List Pair) → Type 0 where
  none : Sections []
  more : {s : List Pair} {ss : List (List Pair)} → Pairs s → length s < 2 ^ 16 → Sections ss → Sections (s ∷ ss)

-- "An upload is exactly four sections": the bytes are those of these.
pub record Upload (bytes : List ℕ) (ss : List (List Pair)) : Type 0 where
  pub four : length ss ≡ 4
  pub fit : Sections ss
  pub is : bytes ≡ sections_bytes 1 ss

-- "the offset of its first byte in the upload as place": the entries of pairs whose first byte is at this offset.
unfoldable pub entries_at : ℕ → List Pair → List Entry
entries_at from [] = []
entries_at from (p ∷ l) = entry p.hash p.key from ∷ entries_at (from + length (pair_bytes p)) l

-- The entries of sections of the kinds from k on, whose first byte is at this offset.
unfoldable pub entries_of : ℕ → ℕ → List (List Pair) → List Entry
entries_of k from [] = []
entries_of k from (s ∷ ss) =
    entries_at (from + length (header_bytes k (length s))) s ++ entries_of (suc k) (from + length (section_bytes k s)) ss
