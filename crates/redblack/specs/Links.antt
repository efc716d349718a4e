-- One tree's links: the cells, and the root; and beside them the sizes, which no law of the links reads.
use Rattle.std.specs.Prelude.{Bool, List, ℕ, eqb}
use Rattle.tree_rules.specs.Sizes.{size_word}
use Rattle.slots.specs.Words.{pick, state, cell, write, Colour, black, red, code}

pub record Links : Type 0 where
  pub cells : List ℕ
  pub root : ℕ
  pub sizes : List ℕ

-- The links that lent slices of cells and sizes have with a root.
abbrev pub lent_links : List ℕ → ℕ → List ℕ → Links
lent_links cells root sizes = record { cells = cells; root = root; sizes = sizes }

abbrev pub read : Links → ℕ → ℕ → ℕ
read s i f = cell s.cells i f

abbrev pub stored : Links → ℕ → ℕ → ℕ → Links
stored s i f v = record { cells = write s.cells i f v; root = s.root; sizes = s.sizes }

abbrev pub rooted : Links → ℕ → Links
rooted s r = record { cells = s.cells; root = r; sizes = s.sizes }

abbrev pub painted : Links → ℕ → Colour → Links
painted s i c = stored s i state (code c)

-- The stored size of a slot, 0 where there is none, as at null; and the same links with other sizes.
abbrev pub size_at : Links → ℕ → ℕ
size_at s i = size_word s.sizes i

abbrev pub resized : Links → List ℕ → Links
resized s l = record { cells = s.cells; root = s.root; sizes = l }

-- A slot is red where its state is 2; at null, where there is no state, none is.
abbrev pub is_red : Links → ℕ → Bool
is_red s i = eqb (read s i state) 2

abbrev pub colour_of : Links → ℕ → Colour
colour_of s i = pick (is_red s i) red black

-- What a turn of a loop comes to: the end, or another turn at x.
pub data Turn : Type 0 where
  done : Links → Turn
  more : Links → ℕ → Turn
