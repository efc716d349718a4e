-- The write and the way up are those of `weighed`, under any root.
use Rattle.links.proofs.Sizing.{weigh}
use Rattle.links.proofs.sizes.weigh.Goals as goal

pub returns : goal.returns
returns c =
    let a = c.args in
    weigh a.budget a.cells.now a.sizes.now a.x a.v a.d
    c.put_word.ensures
    c.get-above.ensures
    c.climb.ensures
