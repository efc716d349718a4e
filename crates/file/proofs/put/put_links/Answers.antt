-- Each link comes behind the four bytes of the one before.
use Rattle.slots.specs.Words.{parent, left, right, prev, next, cell}
use Rattle.file.specs.Links.{links_bytes}
use Rattle.file.proofs.Laying.{five_words}
use Rattle.file.proofs.put.put_links.Goals as goal

pub returns : goal.returns
unfolding links_bytes
returns c =
    let a = c.args in
    let own = cell a.cells.now a.i in
    five_words a.out.now a.at (own parent) (own left) (own right) (own prev) (own next) c.put_cell.ensures
    c.put_cell-2.ensures
    c.put_cell-3.ensures
    c.put_cell-4.ensures
    c.put_cell-5.ensures
