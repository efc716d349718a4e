-- Each kind of bin is what the model says of it.
use mathlib.Core.Path.{ap}
use Rattle.sets.specs.Bins.{bin_as}
use Rattle.tally.proofs.Counting.{bin-empty, bin_moved, bin_bad, bin_list, bin_tree}
use Rattle.tally.proofs.add.add_bin.Goals as goal

pub returns-in-Empty : goal.returns-in-Empty
returns-in-Empty c = bin-empty c.args.totals.now (ap bin_as c.in-Empty.is)

pub returns-in-Moved : goal.returns-in-Moved
returns-in-Moved c = bin_moved c.args.totals.now (ap bin_as c.in-Moved.is)

pub returns-in-List : goal.returns-in-List
returns-in-List c =
    let a = c.args in
    bin_list a.totals.now (ap bin_as c.in-List.is) c.add_to.ensures

pub returns-in-Tree : goal.returns-in-Tree
returns-in-Tree c =
    let a = c.args in
    bin_tree a.totals.now (ap bin_as c.in-Tree.is) c.add_to-in-Tree.ensures

pub returns-in-Bad : goal.returns-in-Bad
returns-in-Bad c = bin_bad c.args.totals.now (ap bin_as c.in-Bad.is)
