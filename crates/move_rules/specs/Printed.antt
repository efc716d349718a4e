-- What `./finish` writes of a set's file: the file of what is left, at the front of a lent buffer, and a line.
use Rattle.std.specs.Prelude.{List, [], ◌∷◌, ℕ, replicate, eqb}
use Rattle.slots.specs.Words.{pick}
use Rattle.slots.specs.Answers.{value_beside}
use Rattle.script_rules.specs.Blanks.{says}
use Rattle.script_rules.specs.Feeding.{Paper, typed}
use Rattle.set_rules.specs.Words.{Set, lent_set}
use Rattle.file_rules.specs.Saving.{Saved, saves}
use Rattle.file_rules.specs.Loading.{LoadOutcome, cut_out, load_whole}
use Rattle.move_rules.specs.Finishing.{Finish, finishing}

-- How many bytes the file has, 0 where none is written; the buffer that it stands in; the line.
pub record Written : Type 0 where
  pub bytes : ℕ
  pub out : List ℕ
  pub line : List ℕ

abbrev pub written : ℕ → List ℕ → List ℕ → Written
written bytes out line = record { bytes = bytes; out = out; line = line }

-- A refusal with no table and no bin.
abbrev pub none_written : ℕ → List ℕ → Written
none_written n out = written 0 out (says "no #\n" (n ∷ []))

-- All bins are moved: what save answered, and "how many entries were moved".
unfoldable pub saved_written : ℕ → Saved → Written
saved_written gone w =
    pick (eqb w.answer.number 0)
    (written (value_beside 0 w.answer.number w.answer.value) w.out (says "moved #\n" (gone ∷ [])))
    (none_written w.answer.number w.out)

-- "at any other refusal it prints `no`, the number, the table and the bin on standard error, and writes no file"
unfoldable pub finish_written : Finish → List ℕ → Written
finish_written f out =
    pick (eqb f.number 0) (saved_written f.gone (saves f.set out))
    (written 0 out (says "no # table # bin #\n" (f.number ∷ (f.table ∷ (f.bin ∷ [])))))

-- What the end call answers: of a set that is accepted the set is finished, of a refusal its number is told.
unfoldable pub load_written : LoadOutcome → List ℕ → Written
load_written o out =
    pick (eqb o.answer.number 0) (finish_written (finishing (cut_out o.left.loader o.left.set)) out)
    (none_written o.answer.number out)

-- The slices of the largest set: 8 tables, 8,160 bin words, 4,096 headers and 4,096 slots.
unfoldable pub largest_slices : Set
largest_slices = lent_set (replicate 8 0) (replicate 8160 0) (replicate 12288 0) (replicate 8192 0) (replicate 28672 0)

-- What is written of the bytes of a file.
unfoldable pub file_written : List ℕ → List ℕ → Written
file_written l out = load_written (load_whole largest_slices l) out

-- The same with the line on a paper of its own.
pub record WrittenOut : Type 0 where
  pub bytes : ℕ
  pub out : List ℕ
  pub text : Paper

abbrev pub written_out : ℕ → List ℕ → Paper → WrittenOut
written_out bytes out text = record { bytes = bytes; out = out; text = text }

abbrev pub lined_out : Written → Paper → WrittenOut
lined_out w p = written_out w.bytes w.out (typed p w.line)
