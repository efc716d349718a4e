-- A command's answer is written within its buffer.
use mathlib.Core.Path.{◌≡◌}
use Rattle.index_rules.specs.Index.{Index}
use Rattle.script_rules.specs.Commands.{Command}
use Rattle.script_rules.specs.Feeding.{Paper, CommandTurn, performed}
use Rattle.script_rules.proofs.Feeding.{Within, typed_within}

pub turn_within : (ix : Index) (p : Paper) (c : Command) {t : CommandTurn} → t ≡ performed ix p c → Within p → Within t.paper
turn_within ix p c e w = rw e (typed_within p _ w)
