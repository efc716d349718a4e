-- Three words are added to, and each has room.
use native.Mathlib.Omega.{arith}
use Rattle.tally.proofs.Counting.{room_more, entry_made}
use Rattle.tally.proofs.add.add_entry.Goals as goal

pub add_to-requires : goal.add_to-requires
add_to-requires c = omega (arith, c.requires.0 2)

pub add_to-requires-2 : goal.add_to-requires-2
add_to-requires-2 c =
    omega (arith, room_more c.args.totals.now 2 1 8192 4096 c.requires.0 c.add_to.ensures (omega arith) 5, c.requires.1)

pub add_to-requires-3 : goal.add_to-requires-3
add_to-requires-3 c =
    let one = room_more c.args.totals.now 2 1 8192 8191 c.requires.0 c.add_to.ensures (omega arith) in
    let two = room_more _ 5 c.args.looks 8191 1 one c.add_to-2.ensures (omega (arith, c.requires.1)) in
    two c.row_word.result

pub returns : goal.returns
returns c =
    let a = c.args in
    entry_made a.totals.now a.looks c.add_to.ensures c.add_to-2.ensures c.row_word.ensures c.add_to-3.ensures
