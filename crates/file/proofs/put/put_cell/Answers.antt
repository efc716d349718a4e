-- The bytes are those of the cell that is read.
use Rattle.file.proofs.Laying.{put_as}
use Rattle.file.proofs.put.put_cell.Goals as goal

pub returns : goal.returns
returns c =
    let a = c.args in
    put_as a.out.now a.at a.k c.put_little.ensures c.get.ensures
