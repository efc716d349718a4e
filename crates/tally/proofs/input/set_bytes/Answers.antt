-- The bytes of the set are one chunk, and those behind them are awaited.
use mathlib.Core.Path.{sym, ◌∙◌}
use native.Mathlib.Omega.{arith}
use Rattle.set_rules.specs.Words.{lent_set}
use Rattle.file.proofs.Running.{all_bytes}
use Rattle.tally.specs.Meanings.{stream_of}
use Rattle.tally.proofs.Streaming.{own_long, chunk_goes, set_step}
use Rattle.tally.proofs.input.set_bytes.Goals as goal

pub slice_bounds-chunk-end : goal.slice_bounds-chunk-end
slice_bounds-chunk-end c =
    let a = c.args in
    let s = lent_set a.lengths.now a.bins.now a.heads.now a.names.now a.cells.now in
    let d = stream_of a.r s a.totals.now in
    sym (own_long d a.rest.now c.requires.2 c.requires.0 c.own_bytes-used.ensures)

pub await_set-stream-requires : goal.await_set-stream-requires
await_set-stream-requires c =
    let a = c.args in
    let s = lent_set a.lengths.now a.bins.now a.heads.now a.names.now a.cells.now in
    let d = stream_of a.r s a.totals.now in
    let k = all_bytes a.rest.now (λ i. omega (arith, c.type_inv.rest i)) in
    chunk_goes d a.rest.now c.requires.2 c.requires.0 c.own_bytes-used.ensures k c.chunk-load.ensures

pub shape_of-lengths : goal.shape_of-lengths
shape_of-lengths c =
    c.await_set-stream.auto.lengths ∙ c.chunk-load.auto.lengths

pub shape_of-bins : goal.shape_of-bins
shape_of-bins c =
    c.await_set-stream.auto.bins ∙ c.chunk-load.auto.bins

pub returns : goal.returns
returns c =
    let a = c.args in
    let s = lent_set a.lengths.now a.bins.now a.heads.now a.names.now a.cells.now in
    let d = stream_of a.r s a.totals.now in
    let k = all_bytes a.rest.now (λ i. omega (arith, c.type_inv.rest i)) in
    set_step d a.rest.now c.requires.2 c.requires.0 c.own_bytes-used.ensures k c.chunk-load.ensures c.requires.1
    c.await_set-stream.ensures
