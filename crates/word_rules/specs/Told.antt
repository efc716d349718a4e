-- What the word of an answer tells, in the rules' words: nothing here knows how a word is made.
use Rattle.std.specs.Prelude.{◌≡◌, ◌≢◌, ℕ, ◌+◌, ◌/◌, ◌%◌, ◌<◌, ◌≤◌, length}
use Rattle.slots.specs.Words.{null, most_slots}
use Rattle.slots.specs.Answers.{Answer, some, given, nothing, refused}
use Rattle.tree_rules.specs.Find.{Search}

-- The answers that are told apart by number and value, and the value of each. Bare is that of number 0 where nothing comes with it, so no
-- value that comes is as large; 2^32, which is no value, where something always comes.
pub data Valued (bare : ℕ) : Answer → ℕ → Type 0 where
  gives : {v : ℕ} → v < bare → Valued bare (given v) v
  none : bare < 4294967296 → Valued bare nothing bare
  -- "A refusal has the value 0, 3 its slot."
  refuses : {n : ℕ} → 1 ≤ n → n ≤ 18 → n ≢ 3 → Valued bare (refused n) 0
  present : {x : ℕ} → x < 4294967296 → Valued bare (record { number = 3; value = some x }) x
  -- "A test t of the source's check that fails at slot s is s + 2^32 * (100 + t)."
  fails : {t s : ℕ} → 1 ≤ t → t ≤ 8 → s < most_slots → Valued bare (record { number = 100 + t; value = some s }) s

-- "The answer is value + 2^32 * number."
pub record WordTells (bare : ℕ) (a : Answer) (word : ℕ) : Type 0 where
  pub beside : ℕ
  pub valued : Valued bare a beside
  pub number : word / 4294967296 ≡ a.number
  pub value : word % 4294967296 ≡ beside

-- "with looks it is value + 2^32 * number + 2^48 * looks, so a number is read as 16 bits": how many slots were looked at.
pub record LooksTold (s : Search) (word : ℕ) : Type 0 where
  pub tells : WordTells null s.answer (word % 281474976710656)
  pub number : word / 4294967296 % 65536 ≡ s.answer.number
  pub value : word % 4294967296 ≡ tells.beside
  pub looks : word / 281474976710656 ≡ length s.looks
  -- a slot and how many were looked at are small
  pub below : (x : ℕ) → s.answer ≡ given x → x < most_slots
  pub within : length s.looks ≤ most_slots
