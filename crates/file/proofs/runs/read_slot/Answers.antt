-- The pair, the place and the state, the links.
use native.Mathlib.Omega.{arith}
use Rattle.file.proofs.Running.{from_place}
use Rattle.file.proofs.Running.{cells_put}
use Rattle.file.proofs.runs.read_slot.Goals as goal

pub read_pair-requires : goal.read_pair-requires
read_pair-requires c =
    c.requires.0

pub overflow_cast-bytes : goal.overflow_cast-bytes
overflow_cast-bytes c =
    omega (arith, c.type_inv.bytes 20)

pub read_links-requires : goal.read_links-requires
read_links-requires c =
    c.requires.0

pub returns : goal.returns
returns c = (
  c.read_pair.ensures,
  cells_put _ _ _ c.put_word.ensures c.word_at.ensures c.put_word-2.ensures c.read_links.ensures
      (from_place c.args.bytes.now 21),
)
