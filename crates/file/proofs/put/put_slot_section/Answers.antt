-- The slots come behind the four bytes of the count.
use mathlib.Core.List.{[]}
use Prim.Native.Nat.{◌/◌}
use lib.ListN.{length}
use Rattle.set_rules.specs.Words.{lent_set}
use Rattle.file_rules.specs.File.{slots_bytes}
use Rattle.file.proofs.Laying.{counted-put}
use Rattle.file.proofs.put.put_slot_section.Goals as goal

pub returns : goal.returns
returns c =
    let a = c.args in
    let n = length a.names.now / 2 in
    counted-put a.out.now a.at n (slots_bytes (lent_set [] [] [] a.names.now a.cells.now) n) c.put_little.ensures
    c.put_slots.ensures
