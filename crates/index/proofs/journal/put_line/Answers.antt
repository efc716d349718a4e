-- The six writes are those of `lined`; a line whose number is not below the length has no word.
use Rattle.index.proofs.Writing.{no_line_lem}
use Rattle.index.proofs.journal.put_line.Goals as goal

pub returns-then-lines-k : goal.returns-then-lines-k
returns-then-lines-k c =
    let a = c.args in
    no_line_lem a.lines.now a.k a.kind a.hash a.key a.place a.prehash a.prekey
    c.if-lines-k.true
