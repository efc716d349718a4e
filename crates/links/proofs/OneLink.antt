-- Every claim of `Linking` holds: what equals one value is one value.
use Rattle.std.proofs.Common.{sym, ◌∙◌}
use Rattle.links.specs.Linking.{Linking}

pub linking : Linking
linking = record { hang_slot_one = λ budget names s x hash key a b p q. p ∙ sym q; unlink_slot_one = λ budget s p a b f g. f ∙ sym g }
