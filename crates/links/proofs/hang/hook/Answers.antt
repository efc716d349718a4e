-- The four writes are those of `hooked`, under any root.
use Rattle.links.proofs.Spotting.{hook}
use Rattle.links.proofs.hang.hook.Goals as goal

pub returns : goal.returns
returns c =
    let a = c.args in
    hook a.cells.now a.x a.above a.side
    c.put.ensures
    c.put-2.ensures
    c.put-3.ensures
    c.put-4.ensures
