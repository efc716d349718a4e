-- The sizes that are lent are none, and stay so.
use Rattle.mover.proofs.Joining.{joins}
use Rattle.mover.proofs.passes.join.Goals as goal

pub returns : goal.returns
returns c =
    let h = c.hang_slot in
    joins _ _ _ _ _ _ _ _ _ h.new.sizes c.requires c.name-hash.ensures c.name-key.ensures h.auto.sizes h.ensures
