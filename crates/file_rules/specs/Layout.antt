-- The words of a file in their order: for each word of a section the slice and the index that it is read into, and its bytes.
use Rattle.std.specs.Prelude.{Bool, List, ℕ, zero, suc, ◌+◌, ◌*◌, ◌/◌, ◌%◌, length, get_or, set, leb}
use Rattle.slots.specs.Words.{null, ◌and◌}
use Rattle.set_rules.specs.Words.{Set, lent_set}

-- The five slices of a set.
pub data Slice : Type 0 where
  ofLengths ofBins ofHeads ofNames ofCells : Slice

abbrev pub slice_in : Set → Slice → List ℕ
slice_in t ofLengths = t.lengths
slice_in t ofBins = t.bins
slice_in t ofHeads = t.heads
slice_in t ofNames = t.names
slice_in t ofCells = t.cells

-- What a read of a word that is not there answers.
abbrev pub missing : Slice → ℕ
missing ofLengths = 0
missing ofBins = 0
missing ofHeads = null
missing ofNames = 0
missing ofCells = null

abbrev pub put_in : Set → Slice → ℕ → ℕ → Set
put_in t ofLengths i v = lent_set (set t.lengths i v) t.bins t.heads t.names t.cells
put_in t ofBins i v = lent_set t.lengths (set t.bins i v) t.heads t.names t.cells
put_in t ofHeads i v = lent_set t.lengths t.bins (set t.heads i v) t.names t.cells
put_in t ofNames i v = lent_set t.lengths t.bins t.heads (set t.names i v) t.cells
put_in t ofCells i v = lent_set t.lengths t.bins t.heads t.names (set t.cells i v)

pub record Field : Type 0 where
  pub slice : Slice
  pub index : ℕ
  pub width : ℕ

abbrev pub field : Slice → ℕ → ℕ → Field
field x i w = record { slice = x; index = i; width = w }

-- The bytes of word f of the nine of a slot: "hash and key eight bytes, state one, everything else four".
unfoldable pub slot_width : ℕ → ℕ
slot_width zero = 8
slot_width (suc zero) = 8
slot_width (suc (suc zero)) = 4
slot_width (suc (suc (suc zero))) = 1
slot_width (suc (suc (suc (suc f)))) = 4

-- Word f of the nine of slot i: hash and key in names, the others in cells.
unfoldable pub slot_field : ℕ → ℕ → Field
slot_field i zero = field ofNames (2 * i + 0) (slot_width 0)
slot_field i (suc zero) = field ofNames (2 * i + 1) (slot_width 1)
slot_field i (suc (suc f)) = field ofCells (7 * i + f) (slot_width (suc (suc f)))

-- Word j of section s: 0 table lengths, 1 bin words, 2 headers, 3 slots.
unfoldable pub field_of : ℕ → ℕ → Field
field_of zero j = field ofLengths j 4
field_of (suc zero) j = field ofBins j 4
field_of (suc (suc zero)) j = field ofHeads j 4
field_of (suc (suc (suc s))) j = slot_field (j / 9) (j % 9)

-- The words of c items of section s.
unfoldable pub section_words : ℕ → ℕ → ℕ
section_words zero c = c
section_words (suc zero) c = c
section_words (suc (suc zero)) c = 3 * c
section_words (suc (suc (suc s))) c = 9 * c

-- The limit of section s: "8 tables, 8,160 bin words, 4,096 headers, 4,096 slots".
unfoldable pub most_of : ℕ → ℕ
most_of zero = 8
most_of (suc zero) = 8160
most_of (suc (suc zero)) = 4096
most_of (suc (suc (suc s))) = 4096

-- The lent slices can hold c items of section s; "of slots: names and cells both".
unfoldable pub can_hold : Set → ℕ → ℕ → Bool
can_hold t zero c = leb c (length t.lengths)
can_hold t (suc zero) c = leb c (length t.bins)
can_hold t (suc (suc zero)) c = leb (3 * c) (length t.heads)
can_hold t (suc (suc (suc s))) c = leb (2 * c) (length t.names) and leb (7 * c) (length t.cells)

-- A word in the slices, and the slices after a write to it.
abbrev pub field_in : Set → Field → ℕ
field_in t f = get_or (slice_in t f.slice) f.index (missing f.slice)

abbrev pub put_field : Set → Field → ℕ → Set
put_field t f v = put_in t f.slice f.index v
