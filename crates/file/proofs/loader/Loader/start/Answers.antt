-- The loader of a start.
use mathlib.Core.Path.{sym}
use mathlib.Core.List.{[]}
use Rattle.set_rules.specs.Words.{lent_set}
use Rattle.file_rules.specs.Loader.{new_loader}
use Rattle.file_rules.specs.Loading.{loading}
use Rattle.file_rules.proofs.Claims.{claims}
use Rattle.file.proofs.loader.Loader.start.Goals as goal

pub returns : goal.returns
returns c = sym (claims.start (loading new_loader (lent_set [] [] [] [] []))).begins
