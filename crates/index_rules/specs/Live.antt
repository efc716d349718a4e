-- A live tree: the words that its entry points are lent.
use Rattle.std.specs.Prelude.{Bool, List, ◌≡◌, ℕ, ◌*◌, ◌≤◌, length, get_or, eqb, leb}
use Rattle.slots.specs.Words.{null, ◌and◌, most_slots}
use Rattle.tree_rules.specs.Find.{slots_of}

pub record Live : Type 0 where
  pub names : List ℕ
  pub cells : List ℕ
  pub head : List ℕ
  pub sizes : List ℕ

-- The tree that four lent slices are.
abbrev pub lent_tree : List ℕ → List ℕ → List ℕ → List ℕ → Live
lent_tree names cells head sizes = record { names = names; cells = cells; head = head; sizes = sizes }

-- What find and the source's check are lent: the tree without its sizes.
pub record Unsized : Type 0 where
  pub names : List ℕ
  pub cells : List ℕ
  pub head : List ℕ

abbrev pub unsized : List ℕ → List ℕ → List ℕ → Unsized
unsized names cells head = record { names = names; cells = cells; head = head }

abbrev pub unsized_of : Live → Unsized
unsized_of t = unsized t.names t.cells t.head

-- "A header holds root, first and the count."
abbrev pub root_word : List ℕ → ℕ
root_word head = get_or head 0 null

abbrev pub root_of : Live → ℕ
root_of t = root_word t.head

abbrev pub first_of : Live → ℕ
first_of t = get_or t.head 1 null

abbrev pub count_of : Live → ℕ
count_of t = get_or t.head 2 null

-- "Capacity 1 to 4,096 slots": a hash and a key to a slot, seven cells to a slot, three words of header, and a size to a slot. What is not
-- fit is 1.
pub record FitUnsized (t : Unsized) : Type 0 where
  pub capacity : ℕ
  pub least : 1 ≤ capacity
  pub most : capacity ≤ most_slots
  pub two : length t.names ≡ 2 * capacity
  pub seven : length t.cells ≡ 7 * capacity
  pub three : length t.head ≡ 3

pub record Fit (t : Live) : Type 0 where
  pub capacity : ℕ
  pub least : 1 ≤ capacity
  pub most : capacity ≤ most_slots
  pub two : length t.names ≡ 2 * capacity
  pub seven : length t.cells ≡ 7 * capacity
  pub three : length t.head ≡ 3
  pub each : length t.sizes ≡ capacity

-- The tests of it.
unfoldable pub fits_unsized : Unsized → Bool
fits_unsized t =
    let n = slots_of t.names in
    leb 1 n and leb n most_slots and eqb (length t.names) (2 * n) and eqb (length t.cells) (7 * n) and eqb (length t.head) 3

unfoldable pub fits : Live → Bool
fits t = fits_unsized (unsized_of t) and eqb (length t.sizes) (slots_of t.names)
