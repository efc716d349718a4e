use mathlib.Core.Path.{◌∙◌}
use Rattle.index.proofs.Freshening.{bare_on, bare_end}
use Rattle.index.proofs.fresh.bare.Goals as goal

pub loop-k-preserved : goal.loop-k-preserved
loop-k-preserved c =
    bare_on c.loop-k.names c.loop-k.cells c.args.head.now c.loop-k.sizes c.loop-k.k c.loop-k-test.true
    c.put_pair.ensures c.wipe.ensures c.put_word.ensures
    ∙ c.loop-k.invariant

pub returns : goal.returns
returns c =
    bare_end c.loop-k.names c.loop-k.cells c.args.head.now c.loop-k.sizes c.loop-k.k c.loop-k-test.false ∙ c.loop-k.invariant
