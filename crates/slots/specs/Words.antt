-- The words of a slot: what a field is, what a read gives and what a write leaves.
use Rattle.std.specs.Prelude.{List, Bool, true, false, ℕ, ◌+◌, ◌*◌, ◌%◌, length, get_or, set, leb}

abbrev pub pick : {A : Type 0} → Bool → A → A → A
pick true a b = a
pick false a b = b

-- Two tests one after the other.
infixr 30 ◌and◌
abbrev pub ◌and◌ : Bool → Bool → Bool
a and b = pick a b false

-- The limits: slots of a tree or a set, also headers and the bins of a table; lines of a journal; the names of so many slots.
abbrev pub most_slots : ℕ
most_slots = 4096

abbrev pub most_lines : ℕ
most_lines = 1024

abbrev pub most_names : ℕ
most_names = 8192

-- "Null is 4,294,967,295."
abbrev pub null : ℕ
null = 4294967295

-- "A slot holds hash (u64), key (u64), place (u32), state (0 free, 1 black, 2 red) and five links: parent, left, right, prev, next."
abbrev pub place : ℕ
place = 0

abbrev pub state : ℕ
state = 1

abbrev pub parent : ℕ
parent = 2

abbrev pub left : ℕ
left = 3

abbrev pub right : ℕ
right = 4

abbrev pub prev : ℕ
prev = 5

abbrev pub next : ℕ
next = 6

abbrev pub free : ℕ
free = 0

pub data Colour : Type 0 where
  black red : Colour

abbrev pub code : Colour → ℕ
code black = 1
code red = 2

-- The two sides, and the link that leads there: what is said of one side is said of both.
pub data Side : Type 0 where
  leftward rightward : Side

abbrev pub other : Side → Side
other leftward = rightward
other rightward = leftward

abbrev pub toward : Side → ℕ
toward leftward = left
toward rightward = right

-- The parts of a slot's name.
abbrev pub hash_part : ℕ
hash_part = 0

abbrev pub key_part : ℕ
key_part = 1

-- Word f of the w words of slot i, d where there is no such word; and the words after a write to it.
abbrev pub word : ℕ → ℕ → List ℕ → ℕ → ℕ → ℕ
word w d l i f = get_or l (w * i + f) d

abbrev pub store : ℕ → List ℕ → ℕ → ℕ → ℕ → List ℕ
store w l i f v = set l (w * i + f) v

-- A slot has seven cells, and null stands where there is none.
abbrev pub fields : ℕ
fields = 7

unfoldable pub cell : List ℕ → ℕ → ℕ → ℕ
cell l i f = word fields null l i f

unfoldable pub write : List ℕ → ℕ → ℕ → ℕ → List ℕ
write l i f v = store fields l i f v

-- Its name is two words, and 0 stands where there is none.
abbrev pub parts : ℕ
parts = 2

unfoldable pub name_of : List ℕ → ℕ → ℕ → ℕ
name_of l i f = word parts 0 l i f

unfoldable pub rename : List ℕ → ℕ → ℕ → ℕ → List ℕ
rename l i f v = store parts l i f v

-- All the words of slot i are there, w to a slot.
unfoldable pub roomy : ℕ → List ℕ → ℕ → Bool
roomy w l i = leb (w * i + w) (length l)

-- A sum of words of 32 bits: past the last it begins again at 0.
unfoldable pub sum : ℕ → ℕ → ℕ
sum m n = (m + n) % 4294967296
