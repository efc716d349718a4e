-- A dump is saved, and other bytes are told.
use mathlib.Core.Path.{sym}
use Rattle.dump_rules.proofs.Measuring.{whole_is}
use Rattle.dump.proofs.Writing.{no_dump, rescued_none, rescued_dump}
use Rattle.dump.proofs.rescue.save_bytes.Goals as goal

pub save_dump-requires : goal.save_dump-requires
save_dump-requires c =
    let w = whole_is _ (sym c.in-Ok.ensures) in (w.most, w.lined)

pub returns-in-Ok : goal.returns-in-Ok
returns-in-Ok c =
    let told = c.save_dump.ensures in
    rescued_dump _ _ _ c.in-Ok.ensures told.0 told.1

pub returns-in-Err : goal.returns-in-Err
returns-in-Err c =
    let told = c.save_none.ensures in
    rescued_none _ _ _ c.in-Err.ensures (no_dump _) told.0 told.1
