-- Every claim of `Balancing` holds: what equals one value is one value.
use Rattle.std.proofs.Common.{sym, ◌∙◌}
use Rattle.links.specs.Balancing.{Balancing}

pub balancing : Balancing
balancing = record { balance_insertion_one = λ budget s x a b p q. p ∙ sym q; balance_deletion_one = λ budget s x a b p q. p ∙ sym q }
