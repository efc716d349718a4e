-- The word is compared.
use Rattle.mover.proofs.moving.says_moved.Goals as goal

pub returns : goal.returns
returns c = rw c.bin_word.ensures
