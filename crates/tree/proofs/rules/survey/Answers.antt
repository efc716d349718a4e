-- Of a tree with no sizes T8 asks nothing.
use mathlib.Core.Path.{◌∙◌}
use Rattle.tree_rules.proofs.Claims.{claims}
use Rattle.tree.proofs.rules.survey.Goals as goal

pub returns : goal.returns
returns c =
    let a = c.args in
    c.survey_sized.ensures ∙ claims.unsized a.names.now a.cells.now a.root a.visits
