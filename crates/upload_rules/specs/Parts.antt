-- What may have come of an upload, and why its next bytes are refused. Bytes, contents and the index's own insert: nothing here knows of a
-- reader.
use Rattle.std.specs.Prelude.{◌≡◌, ◌≢◌, List, [], ◌∷◌, ◌++◌, map, ℕ, suc, ◌+◌, ◌^◌, ◌<◌, ◌≤◌, length}
use Rattle.slots.specs.Pairs.{Pair, pair_of}
use Rattle.tree_rules.specs.Find.{slots_of}
use Rattle.redblack.specs.Holding.{Stands}
use Rattle.index_rules.specs.Live.{Live}
use Rattle.index_rules.specs.Sound.{Sound}
use Rattle.index_rules.specs.Index.{Index, length_of, lines_of}
use Rattle.index_rules.specs.Contents.{Entry, contents, put, HasPair, Lacks}
use Rattle.index_rules.specs.Calls.{Call, insert_call, after}
use Rattle.upload_rules.specs.Upload.{pair_bytes, pairs_bytes, header_bytes, sections_bytes, Pairs, Sections, entries_at, entries_of}
use Rattle.endian.specs.Bytes.{Bytes}

-- Whole sections; or besides them the next one's kind byte; or that and the low byte of its count; or its header with this count, the
-- pairs of some entries, and some bytes of the next.
pub data UploadPart : Type 0 where
  between kinded : List (List Pair) → UploadPart
  counting : List (List Pair) → ℕ → UploadPart
  within : List (List Pair) → ℕ → List Pair → List ℕ → UploadPart

unfoldable pub part_bytes : UploadPart → List ℕ
part_bytes (between ss) = sections_bytes 1 ss
part_bytes (kinded ss) = sections_bytes 1 ss ++ (suc (length ss) ∷ [])
part_bytes (counting ss low) = sections_bytes 1 ss ++ (suc (length ss) ∷ (low ∷ []))
part_bytes (within ss count ps held) = sections_bytes 1 ss ++ (header_bytes (suc (length ss)) count ++ (pairs_bytes ps ++ held))

-- The entries that are whole.
unfoldable pub part_entries : UploadPart → List Entry
part_entries (between ss) = entries_of 1 0 ss
part_entries (kinded ss) = entries_of 1 0 ss
part_entries (counting ss low) = entries_of 1 0 ss
part_entries (within ss count ps held) =
    entries_of 1 0 ss ++ entries_at (length (sections_bytes 1 ss) + length (header_bytes (suc (length ss)) count)) ps

-- No more than four sections, each field as wide as it is, and a section or an entry that has begun is not whole.
pub data Partial : UploadPart → Type 0 where
  whole : {ss : List (List Pair)} → Sections ss → length ss ≤ 4 → Partial (between ss)
  kind : {ss : List (List Pair)} → Sections ss → length ss < 4 → Partial (kinded ss)
  low : {ss : List (List Pair)} {b : ℕ} → Sections ss → length ss < 4 → b < 256 → Partial (counting ss b)
  entries : {ss : List (List Pair)} {count : ℕ} {ps : List Pair} {held : List ℕ} → Sections ss → length ss < 4
      → count < 2 ^ 16 → Pairs ps → length ps < count → Bytes held → length held < 16 → Partial (within ss count ps held)

-- "pairs that differ from each other and from those there": the entries' from those of the contents l.
pub data Differ (l : List Entry) : List Entry → Type 0 where
  none : Differ l []
  more : {e : Entry} {es : List Entry} → Lacks e.hash e.key l → Lacks e.hash e.key es → Differ l es → Differ l (e ∷ es)

-- The entries can all be taken: their pairs differ, and there are slots and lines for them.
pub record Enters (ix : Index) (h : Sound ix.live) (es : List Entry) : Type 0 where
  pub differ : Differ (contents h) es
  pub room : length (contents h) + length es ≤ slots_of ix.live.names
  pub journal : length_of ix.lines + length es ≤ lines_of ix.lines

-- Contents with these entries more.
unfoldable pub put_all : List Entry → List Entry → List Entry
put_all [] l = l
put_all (e ∷ es) l = put_all es (put e l)

-- The bytes begin with whole sections whose entries can be taken, and then comes this byte.
pub record AtSections (ix : Index) (h : Sound ix.live) (bytes : List ℕ) (ss : List (List Pair)) (b : ℕ) : Type 0 where
  pub rest : List ℕ
  pub partial : Partial (between ss)
  pub enters : Enters ix h (part_entries (between ss))
  pub is : bytes ≡ part_bytes (between ss) ++ (b ∷ rest)

-- They begin with a part whose entries, these, can be taken, and then come the sixteen bytes of an entry of this pair.
pub record AtEntry (ix : Index) (h : Sound ix.live) (bytes : List ℕ) (es : List Entry) (p : Pair) : Type 0 where
  pub sections : List (List Pair)
  pub count : ℕ
  pub pairs : List Pair
  pub rest : List ℕ
  pub partial : Partial (within sections count pairs [])
  pub entries : es ≡ part_entries (within sections count pairs [])
  pub enters : Enters ix h es
  pub is : bytes ≡ part_bytes (within sections count pairs []) ++ (pair_bytes p ++ rest)
  pub hash : p.hash < 2 ^ 64
  pub key : p.key < 2 ^ 64

-- The bytes are refused with this number: "the first in byte order is the answer".
pub data Refusal (ix : Index) (h : Sound ix.live) (bytes : List ℕ) : ℕ → Type 0 where
  -- "18 Wrong kind": a section begins with another byte than its kind
  wrong_kind : {ss : List (List Pair)} {b : ℕ} → AtSections ix h bytes ss b → length ss < 4 → b ≢ suc (length ss) → Refusal ix h bytes 18
  -- "13 Long past section 4"
  long : {ss : List (List Pair)} {b : ℕ} → AtSections ix h bytes ss b → length ss ≡ 4 → Refusal ix h bytes 13
  -- "3, 5, 6 as the insert gives them": an entry whose pair is there, or that finds no free slot, or no line
  present : {es : List Entry} {p : Pair} → AtEntry ix h bytes es p → HasPair p.hash p.key (put_all es (contents h))
      → Refusal ix h bytes 3
  full : {es : List Entry} {p : Pair} → AtEntry ix h bytes es p → Lacks p.hash p.key (put_all es (contents h))
      → length (contents h) + length es ≡ slots_of ix.live.names → Refusal ix h bytes 5
  unlined : {es : List Entry} {p : Pair} → AtEntry ix h bytes es p → Lacks p.hash p.key (put_all es (contents h))
      → length (contents h) + length es < slots_of ix.live.names → length_of ix.lines + length es ≡ lines_of ix.lines
      → Refusal ix h bytes 6

-- The bytes are this part of an upload, and its entries can be taken.
pub record IsPart (ix : Index) (h : Sound ix.live) (bytes : List ℕ) (part : UploadPart) : Type 0 where
  pub partial : Partial part
  pub enters : Enters ix h (part_entries part)
  pub is : bytes ≡ part_bytes part

-- "12 Short at the end call": they are a part that is not four sections.
pub record Short (ix : Index) (h : Sound ix.live) (bytes : List ℕ) : Type 0 where
  pub part : UploadPart
  pub comes : IsPart ix h bytes part
  pub unfinished : (ss : List (List Pair)) → length ss ≡ 4 → part ≢ between ss

-- The calls that insert these entries.
abbrev pub insert_calls : List Entry → List Call
insert_calls es = map (λ (e : Entry). insert_call e.hash e.key e.at) es

-- The slot x of a sound tree has the pair p.
abbrev pub SlotHas : Live → ℕ → Pair → Type 0
SlotHas t x p = (h : Sound t) × Stands x h.tree × (pair_of t.names x ≡ p)

-- "3 with the slot of the pair at that point": in the index as it is once the entries before are inserted, this slot has the pair.
pub record PresentIn (ix : Index) (h : Sound ix.live) (bytes : List ℕ) (x : ℕ) : Type 0 where
  pub before : List Entry
  pub own : Pair
  pub comes : AtEntry ix h bytes before own
  pub has : SlotHas (after (insert_calls before) ix).live x own
