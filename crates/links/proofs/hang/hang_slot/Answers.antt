-- The place, the hooking and the balancing are those of `inserted`.
use Rattle.redblack.specs.Links.{lent_links}
use Rattle.links.proofs.Spotting.{hang}
use Rattle.links.proofs.hang.hang_slot.Goals as goal

pub returns : goal.returns
returns c =
    let a = c.args in
    hang a.budget a.names.now (lent_links a.cells.now a.root a.sizes.now) a.x a.hash a.key
    c.find_spot-at.ensures
    c.hook.ensures
    c.weigh.ensures
    c.balance_insertion.ensures
