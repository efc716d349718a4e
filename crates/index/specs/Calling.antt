-- Of insert, remove, replace and fresh beside their contracts: their answers are told apart by their numbers and values, and each entry
-- point has one outcome, the answer with all that is left in the lent slices.
use Prim.{Unit}
use Rattle.std.specs.Prelude.{◌≡◌, List, ℕ, Result}
use Rattle.slots.specs.Answers.{Answer, OneAnswer}
use Rattle.index_rules.specs.Index.{Index, Outcome}
use Rattle.index_rules.specs.Insert.{inserts}
use Rattle.index_rules.specs.Remove.{removes}
use Rattle.index_rules.specs.Replace.{replaces}
use Rattle.index_rules.specs.Checked.{raised_by, lowered_by, inserts_sound, removes_sound, replaces_sound}
use Rattle.index_rules.specs.Fresh.{freshes}
use Rattle.index.specs.Calls.{inserted_of, presence_of}
use Rattle.index.specs.Fresh.{fresh_of}
use Rattle.slots.specs.declared.answer.Unfit.{Unfit}
use Rattle.index.specs.declared.insert.InsertRefusal.{InsertRefusal}
use Rattle.index.specs.declared.present.PairRefusal.{PairRefusal}

-- What a call returns, and the words of the five slices after it.
pub record CallReturned (A : Type 0) : Type 0 where
  pub answer : A
  pub names : List ℕ
  pub cells : List ℕ
  pub head : List ℕ
  pub sizes : List ℕ
  pub lines : List ℕ

abbrev pub outcome_of : {A : Type 0} → (A → Answer) → CallReturned A → Outcome
outcome_of f c =
    record {
      answer = f c.answer;
      left = record { live = record { names = c.names; cells = c.cells; head = c.head; sizes = c.sizes }; lines = c.lines };
    }

pub record Calling : Type 0 where
  pub inserted_one_to_one : (a b : Result ℕ InsertRefusal) → inserted_of a ≡ inserted_of b → a ≡ b
  pub insert_sound_one : (floor : ℕ) (ix : Index) (hash key p : ℕ)
      → OneAnswer (λ c. outcome_of inserted_of c ≡ inserts_sound floor ix hash key p)
  pub insert_one : (ix : Index) (hash key p : ℕ) → OneAnswer (λ c. outcome_of inserted_of c ≡ inserts ix hash key p)
  pub raise_one : (inserted : Result ℕ InsertRefusal) (floor : ℕ) → OneAnswer (λ r. r ≡ raised_by (inserted_of inserted) floor)
  pub lower_one : (removed : Result ℕ PairRefusal) (floor : ℕ) → OneAnswer (λ r. r ≡ lowered_by (presence_of removed) floor)
  pub presence_one_to_one : (a b : Result ℕ PairRefusal) → presence_of a ≡ presence_of b → a ≡ b
  pub remove_sound_one : (ix : Index) (hash key : ℕ) → OneAnswer (λ c. outcome_of presence_of c ≡ removes_sound ix hash key)
  pub remove_one : (ix : Index) (hash key : ℕ) → OneAnswer (λ c. outcome_of presence_of c ≡ removes ix hash key)
  pub replace_sound_one : (ix : Index) (hash key p : ℕ) → OneAnswer (λ c. outcome_of presence_of c ≡ replaces_sound ix hash key p)
  pub replace_one : (ix : Index) (hash key p : ℕ) → OneAnswer (λ c. outcome_of presence_of c ≡ replaces ix hash key p)
  pub freshness_one_to_one : (a b : Result Unit Unfit) → fresh_of a ≡ fresh_of b → a ≡ b
  pub fresh_one : (ix : Index) → OneAnswer (λ c. outcome_of fresh_of c ≡ freshes ix)
