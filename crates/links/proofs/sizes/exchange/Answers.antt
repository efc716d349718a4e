-- Both sizes are read before one is written, as `swapped` has it.
use Rattle.links.proofs.Sizing.{exchange}
use Rattle.links.proofs.sizes.exchange.Goals as goal

pub returns : goal.returns
returns c =
    let a = c.args in
    exchange a.sizes.now a.p a.t
    c.word-old.ensures
    c.word-new.ensures
    c.put_word.ensures
    c.put_word-2.ensures
