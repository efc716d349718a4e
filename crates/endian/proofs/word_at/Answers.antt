-- A word is whole, or is 0.
use mathlib.Core.Path.{ap, ◌∙◌}
use Rattle.endian.proofs.Reading.{word_cut, word_short}
use Rattle.endian.proofs.word_at.Goals as goal

pub returns-then-i-bytes : goal.returns-then-i-bytes
returns-then-i-bytes g c =
    let l = c.args.bytes.now in
    let w = g.T.Word.WIDTH in
    c.whole.ensures
    ∙ ap g.T.Word.of (word_cut w l c.args.i c.WIDTH-then-i-bytes.ensures c.WIDTH-then-i-bytes-2.ensures g.met.T.Word.some
    (rw (c.WIDTH.ensures) at c.if-i-bytes.true))

pub returns : goal.returns
returns g c =
    c.whole-2.ensures
    ∙ ap g.T.Word.of (word_short g.T.Word.WIDTH c.args.bytes.now c.args.i (rw (c.WIDTH.ensures) at c.if-i-bytes.false))
