-- The balancing is left out where `rebalanced` leaves it out.
use Rattle.links.proofs.unlink.rebalance.Goals as goal

pub returns-then-redness : goal.returns-then-redness
returns-then-redness c = rw c.if-redness.true

pub returns : goal.returns
returns c =
    rw c.if-redness.false c.balance_deletion.ensures
