-- The bytes are so many, and the standard library reads them the lowest first.
use mathlib.Core.Path.{ap, ◌∙◌}
use lib.ListN.{length}
use Rattle.endian.proofs.Reading.{number_four, read_whole}
use Rattle.endian.proofs.U32Word.whole.Goals as goal

pub returns-in-Ok : goal.returns-in-Ok
returns-in-Ok c =
    let chunk = c.in-Ok.ensures.1 in
    read_whole c.args.bytes.now c.in-Ok.all chunk.long chunk.same
    (c.from_le_bytes.ensures ∙ number_four c.in-Ok.all (ap length chunk.same ∙ chunk.long))
