-- Pair, place, state and links, one behind the other.
use Rattle.file.proofs.Laying.{slot_put}
use Rattle.file.proofs.put.put_slot.Goals as goal

pub returns : goal.returns
returns c =
    let a = c.args in
    slot_put a.out.now a.at a.names.now a.cells.now a.i c.put_pair.ensures c.put_cell.ensures
    c.put_cell-2.ensures
    c.put_links.ensures
