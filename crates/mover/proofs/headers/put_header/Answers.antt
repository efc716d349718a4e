-- The three writes are those of `headed_at`.
use Rattle.move_rules.specs.Moving.{headed_at}
use Rattle.mover.proofs.headers.put_header.Goals as goal

pub returns : goal.returns
unfolding headed_at
returns c =
    rw (c.put_word-3.ensures, c.put_word-2.ensures, c.put_word.ensures)
