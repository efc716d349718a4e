-- Bytes of a set, or one of a length.
use mathlib.Core.Path.{refl}
use native.Mathlib.Omega.{arith}
use Rattle.set_rules.specs.Words.{lent_set}
use Rattle.file.proofs.Running.{all_bytes}
use Rattle.tally.specs.Meanings.{stream_of}
use Rattle.tally.proofs.Streaming.{byte_step}
use Rattle.tally.proofs.input.step.Goals as goal

pub returns : goal.returns
returns c =
    let a = c.args in
    let s = lent_set a.lengths.now a.bins.now a.heads.now a.names.now a.cells.now in
    let d = stream_of a.r s a.totals.now in
    let k = all_bytes a.rest.now (λ i. omega (arith, c.type_inv.rest i)) in
    byte_step d a.rest.now c.requires.1 k c.requires.0 c.if-r-eq4.false refl c.length_byte-stream.ensures
