-- What crate `slots` proves, in one record: the laws of a slot's words, of the order of pairs, and that each public routine has one answer.
use Rattle.std.specs.Prelude.{◌≡◌, ◌≢◌, ◌⊎◌, ◌↔◌, List, true, false, None, Result, ⊤, ℕ, ◌+◌, ◌*◌, ◌<◌, eqb, length, get_or, set}
use Rattle.slots.specs.Words.{pick, state, black, red, code, fields, parts, word, store, cell, write, name_of, rename, roomy}
use Rattle.slots.specs.Pairs.{Pair, pair, Less, before}
use Rattle.slots.specs.Answers.{given, nothing, refused, word_of, answer_word, OneAnswer}
use Rattle.slots.specs.Coded.{answer_of, verdict, done, told_if_any, told_by, unsound_told}
use Rattle.slots.specs.declared.answer.Unsound.{Unsound}
use Rattle.slots.specs.declared.answer.Unsound.TheVariants.{Unfit, Damaged}
use Rattle.slots.specs.declared.answer.Answer.{Answer}

-- The laws of reads and writes where a slot has w words and d stands for a word that is not there.
pub record Words (w d : ℕ) : Type 0 where
  -- a word just written, of a slot that is there
  pub same : (l : List ℕ) (i f v : ℕ) → roomy w l i ≡ true → f < w → word w d (store w l i f v) i f ≡ v
  -- a word of another field
  pub across : (l : List ℕ) (i f v j g : ℕ) → f ≢ g → f < w → g < w → word w d (store w l i f v) j g ≡ word w d l j g
  -- a word of another slot
  pub elsewhere : (l : List ℕ) (i f v j g : ℕ) → j ≢ i → f < w → g < w → word w d (store w l i f v) j g ≡ word w d l j g
  -- a write keeps the number of words
  pub kept : (l : List ℕ) (i f v : ℕ) → length (store w l i f v) ≡ length l

pub record Claims : Type 0 where
  -- cells and names obey the same laws
  pub cells : (d : ℕ) → Words fields d
  pub names : (d : ℕ) → Words parts d
  -- "pairs are ordered by hash, then key": irreflexive, transitive, and of two pairs exactly one is less, or they are equal
  pub irreflexive : (p : Pair) → Less p p → ⊥
  pub transitive : (p q r : Pair) → Less p q → Less q r → Less p r
  pub total : (p q : Pair) → Less p q ⊎ ((p ≡ q) ⊎ Less q p)
  pub not_both : (p q : Pair) → Less p q → Less q p → ⊥
  pub not_equal : (p q : Pair) → Less p q → p ≢ q
  -- and the test of it answers yes exactly then
  pub tested : (hash key at own : ℕ) → (before hash key at own ≡ true) ↔ Less (pair hash key) (pair at own)
  -- an answer's number and value are all of it
  pub answer_one_to_one : (a b : Answer) → answer_of a ≡ answer_of b → a ≡ b
  -- yes is told as 1 and no as 0, a call that has no number to give as 1, nothing by no value, and the refusals 1 and 2 by their numbers
  pub verdict_told : (verdict true ≡ given 1) × (verdict false ≡ given 0)
  pub done_told : (u : ⊤) → done u ≡ given 1
  pub nothing_told : told_if_any given None ≡ nothing
  pub refusals_told : (unsound_told Unfit ≡ refused 1) × (unsound_told Damaged ≡ refused 2)
  -- of a result that gives a number or is such a refusal, the answer is all of it
  pub told_one_to_one : (a b : Result ℕ Unsound) → told_by given unsound_told a ≡ told_by given unsound_told b → a ≡ b
  -- each public routine promises one outcome
  pub given_one : (value : ℕ) → OneAnswer (λ r. answer_of r ≡ given value)
  pub nothing_one : OneAnswer (λ r. answer_of r ≡ nothing)
  pub refused_one : (number : ℕ) → OneAnswer (λ r. answer_of r ≡ refused number)
  pub packed_one : (number value : ℕ) → OneAnswer (λ r. r ≡ value + 4294967296 * number)
  pub word_with_one : (bare : ℕ) (a : Answer) → OneAnswer (λ r. r ≡ word_of bare (answer_of a))
  pub answer_word_one : (a : Answer) → OneAnswer (λ r. r ≡ answer_word (answer_of a))
  -- these two of words of 32 bits and of 64
  pub word_one : (words : List ℕ) (k none : ℕ) → OneAnswer (λ r. r ≡ get_or words k none)
  pub put-word_one : (words : List ℕ) (k v : ℕ) → OneAnswer (λ l. l ≡ set words k v)
  pub get_one : (l : List ℕ) (i f : ℕ) → OneAnswer (λ r. r ≡ cell l i f)
  pub put_one : (l : List ℕ) (i f v : ℕ) → OneAnswer (λ l'. l' ≡ write l i f v)
  pub name_one : (l : List ℕ) (i f : ℕ) → OneAnswer (λ r. r ≡ name_of l i f)
  pub put_name_one : (l : List ℕ) (i f v : ℕ) → OneAnswer (λ l'. l' ≡ rename l i f v)
  pub is_red_one : (l : List ℕ) (i : ℕ) → OneAnswer (λ r. r ≡ eqb (cell l i state) 2)
  pub colour_one : (l : List ℕ) (i : ℕ) → OneAnswer (λ r. r ≡ code (pick (eqb (cell l i state) 2) red black))
  pub comes_before_one : (hash key at own : ℕ) → OneAnswer (λ r. r ≡ before hash key at own)
