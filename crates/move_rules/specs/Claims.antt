-- What crate `move_rules` proves, in one record. Every statement of the crate stands here.
use Rattle.std.specs.Prelude.{◌≡◌, ◌≢◌, ◌⊎◌, ◌↔◌, List, ◌++◌, ℕ, suc, ◌<◌, ◌≤◌, length, drop}
use Rattle.slots.specs.Answers.{given, refused}
use Rattle.endian.specs.Bytes.{Bytes}
use Rattle.script_rules.specs.Text.{decimal}
use Rattle.script_rules.specs.Letters.{letters, word_line}
use Rattle.set_rules.specs.Words.{Set, Fit, tables_of, length_at}
use Rattle.set_rules.specs.Accepted.{Accepted}
use Rattle.file_rules.specs.File.{set_bytes, set_size}
use Rattle.file_rules.specs.Faults.{WholeFile, LoadVerdict}
use Rattle.move_rules.specs.Moving.{moves}
use Rattle.move_rules.specs.Moved.{SplitBin, CannotMove, RunOut, BinMoved}
use Rattle.move_rules.specs.Finishing.{finishing}
use Rattle.move_rules.specs.Finished.{SameEntries, MovedBefore, OnlyLast, MovesMade}
use Rattle.move_rules.specs.Printed.{Written, written, largest_slices, file_written}
use Rattle.move_rules.specs.Worked.{WorkedMoves}

-- A move of bin i of table k, on any words. "Refusals: 1, 10, 2 (here: not accepted), 16 Cannot move .., 5 where headers run out, in that
-- order": each exactly when.
pub record MoveRefusals (s : Set) (k i : ℕ) : Type 0 where
  pub one : ((moves s k i).answer ≡ refused 1) ↔ (Fit s → ⊥)
  pub ten : ((moves s k i).answer ≡ refused 10) ↔ (Fit s × (tables_of s ≤ k))
  pub two : ((moves s k i).answer ≡ refused 2) ↔ (Fit s × (k < tables_of s) × (Accepted s → ⊥))
  pub sixteen : ((moves s k i).answer ≡ refused 16) ↔ (Fit s × (k < tables_of s) × Accepted s × CannotMove s k i)
  pub five : (all low high : List ℕ) → SplitBin s k i all low high
      → ((moves s k i).answer ≡ refused 5)
      ↔ (Fit s × (k < tables_of s) × Accepted s × (CannotMove s k i → ⊥) × RunOut s k i low high)
  -- a refused call writes nothing
  pub unchanged : (moves s k i).answer.number ≢ 0 → (moves s k i).set ≡ s

-- Where it is not refused the bin is moved, and as many entries are told as it had.
pub record MovesWell (s : Set) (k i : ℕ) : Type 0 where
  -- a bin of an accepted set that may be moved has a listing and two halves, and no others
  pub splits : Fit s → Accepted s → (CannotMove s k i → ⊥) → (all : List ℕ) × (low : List ℕ) × (high : List ℕ) × SplitBin s k i all low high
  pub one_split : Fit s → Accepted s → (CannotMove s k i → ⊥) → (all low high all' low' high' : List ℕ) → SplitBin s k i all low high
      → SplitBin s k i all' low' high'
      → (all ≡ all') × (low ≡ low') × (high ≡ high')
  pub moved : (all low high : List ℕ) → SplitBin s k i all low high → Fit s → Accepted s → (CannotMove s k i → ⊥)
      → (RunOut s k i low high → ⊥)
      → ((moves s k i).answer ≡ given (length all)) × BinMoved s k i low high (moves s k i).set

-- All bins of an accepted set moved, those of the last table excepted: "the tables from 0 up and the bins from 0 up, 16 is passed over".
pub record FinishesWell (s : Set) : Type 0 where
  -- whether it is stopped or not, the set has what it had
  pub same : SameEntries s (finishing s).set
  -- moves lead to it, and as many entries are told as they moved
  pub gone : MovesMade s (finishing s).gone (finishing s).set
  -- where nothing stops it "only the last table has entries"
  pub done : (finishing s).number ≡ 0 → OnlyLast (finishing s).set
  -- only a lack of headers stops it; the number, the table and the bin are those of the move that is refused, and all bins before are Moved
  pub stopped : (finishing s).number ≢ 0
      → ((finishing s).number ≡ 5)
      × (suc (finishing s).table < tables_of s)
      × ((finishing s).bin < length_at s (finishing s).table)
      × ((moves (finishing s).set (finishing s).table (finishing s).bin).answer ≡ refused (finishing s).number)
      × MovedBefore (finishing s).set (finishing s).table (finishing s).bin

-- All bins of a set whose every move is refused with n, since it does not fit or is not accepted: nothing is moved, and the first bin that
-- there is, of a table that is not the last, stops it.
pub record FinishRefused (s : Set) (n : ℕ) : Type 0 where
  pub set : (finishing s).set ≡ s
  pub gone : (finishing s).gone ≡ 0
  pub number : ((finishing s).number ≡ n) ⊎ ((finishing s).number ≡ 0)
  pub stops : (k : ℕ) → suc k < tables_of s → 1 ≤ length_at s k → (finishing s).number ≡ n

-- What `./finish` writes of the bytes l: one of three things, each with its reason.
pub data FileVerdict (l out : List ℕ) : Written → Type 0 where
  -- of an accepted file the file of a set that has what its set has, "only the last table has entries then", and "how many entries were
  -- moved"; bytes behind it stay
  finished : (s t : Set) (n : ℕ) → WholeFile largest_slices l s → Fit s → Accepted s → SameEntries s t → OnlyLast t → MovesMade s n t
      → FileVerdict l out (written (set_size t) (set_bytes t ++ drop (set_size t) out) (word_line "moved " n))
  -- where headers run out no byte: all bins before are Moved, and this one is refused
  stopped : (s t : Set) (n k i : ℕ) → WholeFile largest_slices l s → Fit s → Accepted s → SameEntries s t → MovesMade s n t
      → MovedBefore t k i
      → suc k < tables_of t
      → i < length_at t k
      → (moves t k i).answer ≡ refused 5
      → FileVerdict l out
      (written 0 out (letters "no 5 table " ++ (decimal k ++ (letters " bin " ++ (decimal i ++ letters "\n")))))
  -- of any other file no byte, and its number
  refused_file : (n : ℕ) → 1 ≤ n → LoadVerdict largest_slices l n → FileVerdict l out (written 0 out (word_line "no " n))

pub record Claims : Type 0 where
  pub refusals : (s : Set) (k i : ℕ) → MoveRefusals s k i
  pub moving : (s : Set) (k i : ℕ) → MovesWell s k i
  pub finishes : (s : Set) → Fit s → Accepted s → FinishesWell s
  pub finishes_unfit : (s : Set) → (Fit s → ⊥) → FinishRefused s 1
  pub finishes_damaged : (s : Set) → Fit s → (Accepted s → ⊥) → FinishRefused s 2
  -- with room for the file of any set
  pub files : (l out : List ℕ) → Bytes l → 249776 ≤ length out → FileVerdict l out (file_written l out)
  -- a line has room in 128 bytes
  pub room : (l out : List ℕ) → length (file_written l out).line ≤ 128
  pub worked : WorkedMoves
