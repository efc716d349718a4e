-- What crate `trials` proves, in one record. Every statement of the crate stands here or in a record that is named here.
use Rattle.std.specs.Prelude.{◌≡◌, ◌≢◌, ◌↔◌, ◌⊎◌, true, false, List, ◌++◌, ℕ, ◌+◌, ◌<◌, ◌≤◌, length, take, drop, get_or}
use Rattle.slots.specs.Answers.{OneAnswer}
use Rattle.index_rules.specs.Index.{Index}
use Rattle.script_rules.specs.Feeding.{blank_line, longest, Fed, finishes, heard, desk_of, printed}
use Rattle.trials.specs.Playing.{all_same, how_far, agreed, playing}
use Rattle.trials.specs.Comparing.{same_words, same_index}

-- The first byte of a part that is not as expected: those before it stand there, and it is one too many or another.
pub record Parts (expected : List ℕ) (from : ℕ) (part : List ℕ) (at : ℕ) : Type 0 where
  pub alike : ℕ
  pub within : alike < length part
  pub place : at ≡ from + alike
  pub before : take alike (drop from expected) ≡ take alike part
  pub other : (length expected ≤ at) ⊎ (get_or expected at 0 ≢ get_or part alike 0)

pub record Agrees (expected : List ℕ) (from : ℕ) (part : List ℕ) : Type 0 where
  -- yes exactly if the part stands there, and then all of it has come
  pub same : (all_same (agreed expected from part) ≡ true) ↔ ((rest : List ℕ) × (drop from expected ≡ part ++ rest))
  pub come : all_same (agreed expected from part) ≡ true → how_far (agreed expected from part) ≡ from + length part
  -- no with the place of the first byte that is not as expected
  pub parts : all_same (agreed expected from part) ≡ false → Parts expected from part (how_far (agreed expected from part))

-- The call at the end of an input, and all that is printed up to then, however the input is cut.
abbrev pub last_call : Index → List ℕ → List ℕ → Fed
last_call ix input buffer = let h = heard blank_line ix input in finishes (desk_of h.line h.index buffer)

abbrev pub all_printed : Index → List ℕ → List ℕ → List ℕ
all_printed ix input buffer = (heard blank_line ix input).text ++ printed (last_call ix input buffer)

-- An input played in pieces of at least a byte, with room for any answer.
pub record Plays (cut : ℕ) (expected input : List ℕ) (ix : Index) (out : List ℕ) : Type 0 where
  -- yes to the last byte exactly if what is expected is all that is printed
  pub same : let m = (playing cut expected input ix out).met in
      ((all_same m ≡ true) × (how_far m ≡ length expected)) ↔ (expected ≡ all_printed ix input out)
  -- and then the tree and the journal are what all of the input leaves
  pub left : all_same (playing cut expected input ix out).met ≡ true
      → (playing cut expected input ix out).index ≡ (last_call ix input out).desk.index
  -- no with the place of the first byte that is not as expected
  pub parts : all_same (playing cut expected input ix out).met ≡ false
      → Parts expected 0 (all_printed ix input out) (how_far (playing cut expected input ix out).met)

pub record Claims : Type 0 where
  pub agrees : (expected : List ℕ) (from : ℕ) (part : List ℕ) → Agrees expected from part
  pub agrees_one : (expected : List ℕ) (from : ℕ) (part : List ℕ) → OneAnswer (λ m. m ≡ agreed expected from part)
  pub plays : (cut : ℕ) (expected input : List ℕ) (ix : Index) (out : List ℕ) → 1 ≤ cut → longest ≤ length out
      → Plays cut expected input ix out
  pub play_one : (cut : ℕ) (expected input : List ℕ) (ix : Index) (out : List ℕ) → OneAnswer (λ p. p ≡ playing cut expected input ix out)
  -- yes exactly if they are the same
  pub same_names : (a b : List ℕ) → (same_words a b ≡ true) ↔ (a ≡ b)
  pub same_names_one : (a b : List ℕ) → OneAnswer (λ r. r ≡ same_words a b)
  pub same_index_lem : (a b : Index) → (same_index a b ≡ true) ↔ (a ≡ b)
  pub same_index_one : (a b : Index) → OneAnswer (λ r. r ≡ same_index a b)
  pub first_one : (n : ℕ) (words : List ℕ) → OneAnswer (λ part. part ≡ take n words)
