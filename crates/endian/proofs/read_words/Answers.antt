use mathlib.Core.Path.{refl}
use native.Mathlib.Omega.{arith}
use Rattle.endian.specs.Bytes.{words_in}
use Rattle.endian.proofs.Reading.{written_on}
use Rattle.endian.proofs.read_words.Goals as goal

pub loop-i-init : goal.loop-i-init
unfolding words_in
loop-i-init g c = refl

pub loop-i-preserved : goal.loop-i-preserved
loop-i-preserved g c =
    let l = c.loop-i in
    let t = g.T.Word in
    written_on t.of t.WIDTH c.args.bytes.now l.words l.i l.invariant (omega arith) c.word_at.ensures
