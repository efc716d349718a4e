-- The number of the test picks the reading that decides it; past the seventh it is the last.
use Rattle.std.proofs.Common.{rules}
use Rattle.tree_rules.specs.Check.{test}
use Rattle.tree.proofs.Testing.{last_test}
use Rattle.tree.proofs.check.test.Goals as goal

pub returns-in-1 : goal.returns-in-1
unfolding test
returns-in-1 c = rw c.in-1.is c.points_back.ensures

pub returns-in-2 : goal.returns-in-2
unfolding test
returns-in-2 c = rw c.in-2.is c.points_back-in-2.ensures

pub returns-in-3 : goal.returns-in-3
unfolding test
returns-in-3 c = rw c.in-3.is c.is_child.ensures

pub returns-in-4 : goal.returns-in-4
unfolding test
returns-in-4 c = rw c.in-4.is c.points_back-in-4.ensures

pub returns-in-5 : goal.returns-in-5
unfolding test
returns-in-5 c = rw c.in-5.is c.left_hash.ensures

pub returns-in-6 : goal.returns-in-6
unfolding test
returns-in-6 c = rw c.in-6.is c.points_back-in-6.ensures

pub returns-in-7 : goal.returns-in-7
unfolding test
returns-in-7 c = rw c.in-7.is c.right_hash.ensures

pub returns-in_default : goal.returns-in_default
returns-in_default c = search (rules, last_test)
