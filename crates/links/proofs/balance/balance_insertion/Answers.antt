-- The slot is painted red, and the rest is the loop's.
use Rattle.redblack.specs.Links.{lent_links}
use Rattle.links.proofs.Balancing.{started}
use Rattle.links.proofs.balance.balance_insertion.Goals as goal

pub returns : goal.returns
returns c =
    let a = c.args in
    started a.budget (lent_links a.cells.now a.root a.sizes.now) a.x
    c.paint.ensures
    c.insertion_turns.ensures
