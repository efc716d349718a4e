-- All is read before a link changes, and the writes are those of `traded`, in order.
use Rattle.std.proofs.Common.{◌∙◌}
use Rattle.redblack.specs.Links.{lent_links}
use Rattle.links.proofs.Unlinking.{trade}
use Rattle.links.proofs.unlink.trade.Goals as goal

pub shape_of-cells : goal.shape_of-cells
shape_of-cells c =
    c.replace-top.auto.cells
    ∙ c.put-8.auto.cells
    ∙ c.put-7.auto.cells
    ∙ c.put-6.auto.cells
    ∙ c.put-5.auto.cells
    ∙ c.put-4.auto.cells
    ∙ c.put-3.auto.cells
    ∙ c.lower.auto.cells
    ∙ c.put-2.auto.cells
    ∙ c.put.auto.cells

pub returns : goal.returns
returns c =
    let a = c.args in
    trade (lent_links a.cells.now a.root a.sizes.now) a.p a.t
    c.colour-high.ensures
    c.colour-low.ensures
    c.get-pl.ensures
    c.get-tr.ensures
    c.get-pp.ensures
    c.get-pr.ensures
    c.get-tp.ensures
    c.put.ensures
    c.put-2.ensures
    c.lower.ensures
    c.put-3.ensures
    c.put-4.ensures
    c.put-5.ensures
    c.put-6.ensures
    c.put-7.ensures
    c.put-8.ensures
    c.replace-top.ensures
    c.exchange.ensures
