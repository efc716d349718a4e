-- Each count by its section.
use Rattle.file.proofs.Tables.{count_past}
use Rattle.file.proofs.loader.count_of.Goals as goal

pub returns-in_default : goal.returns-in_default
returns-in_default c = let n = c.in_default.in_default-own.rest in count_past _ _ _ _ _ n.0.0.0.1 n.0.0.1 n.0.1 n.1
