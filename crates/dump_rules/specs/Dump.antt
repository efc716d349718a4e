-- What a dump of an index is, how its length is judged, and how its words are read.
use Rattle.std.specs.Prelude.{◌≡◌, List, ◌++◌, ℕ, ◌+◌, ◌*◌, ◌≤◌, ◌^◌, length, drop, leb, ltb}
use Rattle.slots.specs.Words.{pick, most_slots, most_lines, ◌and◌}
use Rattle.endian.specs.Bytes.{little, words_bytes, word_in, words_in}
use Rattle.endian.specs.Claims.{AllBelow}
use Rattle.index_rules.specs.Index.{Index, lent, line_words}

-- "names, cells, head, sizes, lines, every word little-endian in its width"
unfoldable pub body_bytes : Index → List ℕ
body_bytes ix =
    words_bytes 8 ix.live.names
    ++ (words_bytes 4 ix.live.cells
    ++ (words_bytes 4 ix.live.head ++ (words_bytes 4 ix.live.sizes ++ words_bytes 8 ix.lines)))

-- "A dump of an index of n slots and c lines is n and c, four bytes each, and then" these.
unfoldable pub dump_bytes : ℕ → ℕ → Index → List ℕ
dump_bytes n c ix = little 4 n ++ (little 4 c ++ body_bytes ix)

-- An index of n slots and c lines within the limits, whose words are as wide as their slices'.
pub record DumpOf (n c : ℕ) (ix : Index) : Type 0 where
  pub least : 1 ≤ n
  pub most : n ≤ most_slots
  pub lined : c ≤ most_lines
  pub names : length ix.live.names ≡ 2 * n
  pub cells : length ix.live.cells ≡ 7 * n
  pub head : length ix.live.head ≡ 3
  pub sizes : length ix.live.sizes ≡ n
  pub lines : length ix.lines ≡ 1 + line_words * c
  pub wide_names : AllBelow (256 ^ 8) ix.live.names
  pub wide_cells : AllBelow (256 ^ 4) ix.live.cells
  pub wide_head : AllBelow (256 ^ 4) ix.live.head
  pub wide_sizes : AllBelow (256 ^ 4) ix.live.sizes
  pub wide_lines : AllBelow (256 ^ 8) ix.lines

-- "28 + 48 n + 48 c bytes"
abbrev pub dump_size : ℕ → ℕ → ℕ
dump_size n c = 28 + 48 * n + 48 * c

-- What some bytes are, by their two counts and their number.
pub data Measure : Type 0 where
  whole : ℕ → ℕ → Measure
  stub : ℕ → Measure
  slots_out : ℕ → Measure
  lines_out : ℕ → Measure
  short : ℕ → ℕ → ℕ → Measure
  long : ℕ → ℕ → Measure

-- The two counts are within the limits: the number of bytes decides.
unfoldable pub weighed : ℕ → ℕ → ℕ → Measure
weighed b n c = pick (ltb b (dump_size n c)) (short b n c) (pick (ltb (dump_size n c) b) (long n c) (whole n c))

unfoldable pub measured : List ℕ → Measure
measured l =
    let n = word_in 4 l 0 in
    let c = word_in 4 l 1 in
    pick (ltb (length l) 8) (stub (length l))
    (pick (leb 1 n and leb n most_slots)
    (pick (leb c most_lines) (weighed (length l) n c) (lines_out c))
    (slots_out n))

-- The words of five slices of these lengths, one slice after another.
unfoldable pub loaded_as : ℕ → ℕ → ℕ → ℕ → ℕ → List ℕ → Index
loaded_as names cells head sizes lines l =
    let a = drop (8 * names) l in
    let b = drop (4 * cells) a in
    let d = drop (4 * head) b in
    let e = drop (4 * sizes) d in
    lent (words_in 8 l 0 names) (words_in 4 a 0 cells) (words_in 4 b 0 head) (words_in 4 d 0 sizes) (words_in 8 e 0 lines)

-- The index of n slots and c lines that the bytes of a dump are.
abbrev pub loaded : ℕ → ℕ → List ℕ → Index
loaded n c l = loaded_as (2 * n) (7 * n) 3 n (1 + line_words * c) (drop 8 l)
