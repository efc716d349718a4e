use mathlib.Core.Path.{◌∙◌}
use Rattle.trials.proofs.Comparing.{same_pointwise}
use Rattle.trials.proofs.same.same_names.Goals as goal

pub returns : goal.returns
returns c = c.eq.ensures ∙ same_pointwise _ _
