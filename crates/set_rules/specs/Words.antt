-- A frozen set: the words that its entry points are lent, and what they name.
use Rattle.std.specs.Prelude.{◌≡◌, Bool, true, false, List, ℕ, zero, suc, ◌+◌, ◌-◌, ◌*◌, ◌/◌, ◌^◌, ◌<◌, ◌≤◌, length, get_or, eqb, leb, ltb}
use Rattle.std.specs.Int.Bits.{bit_and}
use Rattle.slots.specs.Words.{null, pick, ◌and◌, most_slots}
use Rattle.tree_rules.specs.Find.{slots_of}

-- `lengths`: the number of bins of each table; `bins`: all tables' bins in a row; `heads`: root, first and count of each tree header;
-- `names` and `cells`: the slots, as in a live tree.
pub record Set : Type 0 where
  pub lengths : List ℕ
  pub bins : List ℕ
  pub heads : List ℕ
  pub names : List ℕ
  pub cells : List ℕ

-- The set that five lent slices are.
abbrev pub lent_set : List ℕ → List ℕ → List ℕ → List ℕ → List ℕ → Set
lent_set lengths bins heads names cells = record { lengths = lengths; bins = bins; heads = heads; names = names; cells = cells }

abbrev pub tables_of : Set → ℕ
tables_of s = length s.lengths

-- The number of bins of table k; 0 where there is no such table.
abbrev pub length_at : Set → ℕ → ℕ
length_at s k = get_or s.lengths k 0

abbrev pub headers_in : Set → ℕ
headers_in s = length s.heads / 3

-- How many bins the first k tables have: where the bins of table k begin.
unfoldable pub bins_before : List ℕ → ℕ → ℕ
bins_before lengths zero = 0
bins_before lengths (suc k) = bins_before lengths k + get_or lengths k 0

-- The word of bin i of table k.
abbrev pub bin_word : Set → ℕ → ℕ → ℕ
bin_word s k i = get_or s.bins (bins_before s.lengths k + i) 0

-- The header h: its root, its first and its count.
abbrev pub root_at : Set → ℕ → ℕ
root_at s h = get_or s.heads (3 * h) null

abbrev pub first_at : Set → ℕ → ℕ
first_at s h = get_or s.heads (3 * h + 1) null

abbrev pub count_at : Set → ℕ → ℕ
count_at s h = get_or s.heads (3 * h + 2) null

-- "There are 1 to 8 tables, at most 4,096 slots and 4,096 tree headers. Table 0 has a power of two of bins, each later table twice the
-- one before, the last at most 4,096." Bins are as many as the lengths add up to; a set may have no slot and no header.
-- What is not fit is 1.
pub record Fit (s : Set) : Type 0 where
  pub least : 1 ≤ tables_of s
  pub most : tables_of s ≤ 8
  pub power : (e : ℕ) × (length_at s 0 ≡ 2 ^ e)
  pub twice : (k : ℕ) → suc k < tables_of s → length_at s (suc k) ≡ 2 * length_at s k
  pub last : length_at s (tables_of s - 1) ≤ most_slots
  pub all : length s.bins ≡ bins_before s.lengths (tables_of s)
  pub slots : ℕ
  pub slots_most : slots ≤ most_slots
  pub two : length s.names ≡ 2 * slots
  pub seven : length s.cells ≡ 7 * slots
  pub headers : ℕ
  pub headers_most : headers ≤ most_slots
  pub three : length s.heads ≡ 3 * headers

-- x is p, or p doubled once, and so on through k numbers.
unfoldable pub doubling : ℕ → ℕ → ℕ → Bool
doubling zero x p = false
doubling (suc k) x p = pick (eqb x p) true (doubling k x (2 * p))

-- Each of the tables 1 to k is twice as long as the one before.
unfoldable pub doubled : ℕ → List ℕ → Bool
doubled zero lengths = true
doubled (suc k) lengths = eqb (get_or lengths (suc k) 0) (2 * get_or lengths k 0) and doubled k lengths

-- The tables' lengths obey their rule. 1, 2, 4, .. 4,096 are thirteen numbers.
unfoldable pub fit_tables : List ℕ → Bool
fit_tables lengths =
    let t = length lengths in
    leb 1 t and leb t 8 and doubling 13 (get_or lengths 0 0) 1 and doubled (t - 1) lengths and leb (get_or lengths (t - 1) 0) most_slots

-- The test of `Fit`.
unfoldable pub fits : Set → Bool
fits s =
    let n = slots_of s.names in
    let h = headers_in s in
    fit_tables s.lengths
    and eqb (length s.bins) (bins_before s.lengths (tables_of s))
    and leb n most_slots
    and eqb (length s.names) (2 * n)
    and eqb (length s.cells) (7 * n)
    and leb h most_slots
    and eqb (length s.heads) (3 * h)

-- "A bin is one word: 0 empty, 1 Moved, 2 to 4,097 a list from slot word-2, 4,098 to 8,193 tree header word-4,098; any other, or one
-- naming no slot or header of the set, is bad."
pub data Bin : Type 0 where
  empty moved bad : Bin
  list tree : ℕ → Bin

-- The first word that names a tree's header.
abbrev pub first_tree : ℕ
first_tree = 4098

-- The bin that the word w is in a set of n slots and h headers.
unfoldable pub bin_of : ℕ → ℕ → ℕ → Bin
bin_of n h w =
    pick (eqb w 0) empty
    (pick (eqb w 1) moved
    (pick (leb w 4097) (pick (ltb (w - 2) n) (list (w - 2)) bad)
    (pick (leb w 8193) (pick (ltb (w - first_tree) h) (tree (w - first_tree)) bad) bad)))

-- The bin that word p of the row of all bins is, and bin i of table k.
abbrev pub word_bin : Set → ℕ → Bin
word_bin s p = bin_of (slots_of s.names) (headers_in s) (get_or s.bins p 0)

abbrev pub bin_at : Set → ℕ → ℕ → Bin
bin_at s k i = bin_of (slots_of s.names) (headers_in s) (bin_word s k i)

-- "The bin for a hash is hash AND (length-1)."
unfoldable pub bini : ℕ → ℕ → ℕ
bini len hash = bit_and hash (len - 1)
