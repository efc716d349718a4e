-- The answer is what the walk from the root comes to, with a visit for each slot.
use mathlib.Core.Path.{ap, ◌∙◌}
use Rattle.tree_rules.specs.Check.{walk_answer, checked}
use Rattle.tree.specs.Check.{checked_of}
use Rattle.tree.proofs.Visiting.{told}
use Rattle.tree.proofs.check.check_invariants.Goals as goal

pub returns : goal.returns
unfolding checked
returns c = ap checked_of c.err.ensures.value ∙ told c.visit.result ∙ ap walk_answer c.visit.ensures
