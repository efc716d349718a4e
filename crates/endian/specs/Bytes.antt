-- Numbers as bytes, "little-endian, which is the lowest byte first", and words of one width in a row.
use Rattle.std.specs.Prelude.{List, [], ◌∷◌, ◌++◌, ℕ, zero, suc, ◌+◌, ◌*◌, ◌/◌, ◌%◌, ◌<◌, length, take, drop, ltb}
use Rattle.slots.specs.Words.{pick}

-- The numbers of a list are bytes.
pub data Bytes : List ℕ → Type 0 where
  nothing : Bytes []
  another : {b : ℕ} {l : List ℕ} → b < 256 → Bytes l → Bytes (b ∷ l)

-- So many bytes of a number, the lowest first.
unfoldable pub little : ℕ → ℕ → List ℕ
little zero x = []
little (suc n) x = (x % 256) ∷ little n (x / 256)

-- The number whose bytes these are.
unfoldable pub number_of : List ℕ → ℕ
number_of [] = 0
number_of (b ∷ l) = b + 256 * number_of l

-- The bytes of words of k bytes each.
unfoldable pub words_bytes : ℕ → List ℕ → List ℕ
words_bytes k [] = []
words_bytes k (x ∷ l) = little k x ++ words_bytes k l

-- Word i of k bytes each; 0 where it is not whole.
unfoldable pub word_in : ℕ → List ℕ → ℕ → ℕ
word_in k l i = pick (ltb i (length l / k)) (number_of (take k (drop (k * i) l))) 0

-- So many of these words, from word i on.
unfoldable pub words_in : ℕ → List ℕ → ℕ → ℕ → List ℕ
words_in k l i zero = []
words_in k l i (suc m) = word_in k l i ∷ words_in k l (suc i) m
