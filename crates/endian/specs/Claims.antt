-- What crate `endian` proves, in one record. Every statement of the crate stands here.
use Rattle.std.specs.Prelude.{◌≡◌, List, [], ◌∷◌, ◌++◌, ℕ, ◌*◌, ◌^◌, ◌<◌, ◌≤◌, length, map, take, drop, eqb}
use Rattle.slots.specs.Words.{pick}
use Rattle.slots.specs.Answers.{OneAnswer}
use Rattle.endian.specs.Bytes.{Bytes, little, number_of, words_bytes, word_in, words_in}

-- Each number of a list is below a bound.
pub data AllBelow (most : ℕ) : List ℕ → Type 0 where
  none : AllBelow most []
  more : {x : ℕ} {l : List ℕ} → x < most → AllBelow most l → AllBelow most (x ∷ l)

pub record Claims : Type 0 where
  -- a number is that of its bytes, and bytes are those of their number
  pub number_back : (k x : ℕ) → x < 256 ^ k → number_of (little k x) ≡ x
  pub bytes_back : {l : List ℕ} → Bytes l → little (length l) (number_of l) ≡ l
  -- words are read back from their bytes, whatever follows, and what follows stands behind them
  pub words_back : (k : ℕ) → 0 < k → (words rest : List ℕ) → AllBelow (256 ^ k) words
      → words_in k (words_bytes k words ++ rest) 0 (length words) ≡ words
  pub rest_behind : (k : ℕ) (words rest : List ℕ) → drop (k * length words) (words_bytes k words ++ rest) ≡ rest
  -- the first bytes are those of the words that are read from them
  pub front_own : (k m : ℕ) → 0 < k → (l : List ℕ) → Bytes l → k * m ≤ length l → words_bytes k (words_in k l 0 m) ≡ take (k * m) l
  -- each routine has one answer, at words of any width, and so at words of eight bytes and of four
  pub word_at_one : (of : ℕ → ℕ) (width : ℕ) (bytes : List ℕ) (i : ℕ) → OneAnswer (λ r. r ≡ of (word_in width bytes i))
  pub read-words_one : (of : ℕ → ℕ) (width : ℕ) (words bytes : List ℕ) → OneAnswer (λ r. r ≡ map of (words_in width bytes 0 (length words)))
  pub after-words_one : (width : ℕ) (bytes : List ℕ) (count : ℕ) → OneAnswer (λ r. r ≡ drop (width * count) bytes)
  pub wide_at_one : (bytes : List ℕ) (i : ℕ) → OneAnswer (λ r. r ≡ word_in 8 bytes i)
  pub word-at_one : (bytes : List ℕ) (i : ℕ) → OneAnswer (λ r. r ≡ word_in 4 bytes i)
  pub read_wides_one : (words bytes : List ℕ) → OneAnswer (λ r. r ≡ words_in 8 bytes 0 (length words))
  pub read_words_one : (words bytes : List ℕ) → OneAnswer (λ r. r ≡ words_in 4 bytes 0 (length words))
  pub after_wides_one : (bytes : List ℕ) (count : ℕ) → OneAnswer (λ r. r ≡ drop (8 * count) bytes)
  pub after_words_one : (bytes : List ℕ) (count : ℕ) → OneAnswer (λ r. r ≡ drop (4 * count) bytes)
  pub whole_one : (k : ℕ) (bytes : List ℕ) → OneAnswer (λ r. r ≡ pick (eqb (length bytes) k) (number_of bytes) 0)
