-- Each way out is one of the model's. A bin that may be moved keeps every number within its word.
use mathlib.Core.Path.{refl, ap, ◌∙◌}
use Prim.Native.Nat.{◌+◌}
use native.Mathlib.Omega.{arith}
use Rattle.set_rules.specs.Words.{lent_set}
use Rattle.mover.specs.Moved.{header_after}
use Rattle.mover.proofs.Heading.{headed_err, headed_ok, after_is, real}
use Rattle.mover.proofs.Moves.{half_most, within, low_short, high_short, moved, passed}
use Rattle.mover.proofs.moving.move_entries.Goals as goal

pub overflow_cast-n : goal.overflow_cast-n
overflow_cast-n c =
    let a = c.args in
    let s = lent_set a.lengths.now a.bins.now a.heads.now a.names.now a.cells.now in
    omega (arith, (within s a.k a.i c.requires.0 c.requires.1).slots)

pub overflow_cast-headers : goal.overflow_cast-headers
overflow_cast-headers c =
    let a = c.args in
    let s = lent_set a.lengths.now a.bins.now a.heads.now a.names.now a.cells.now in
    omega (arith, (within s a.k a.i c.requires.0 c.requires.1).headers)

pub overflow_add-j : goal.overflow_add-j
overflow_add-j c =
    let a = c.args in
    let s = lent_set a.lengths.now a.bins.now a.heads.now a.names.now a.cells.now in
    let w = within s a.k a.i c.requires.0 c.requires.1 in
    omega (arith, w.index, w.width, c.length_at-length.ensures)

pub half_count-low-requires : goal.half_count-low-requires
half_count-low-requires c =
    let a = c.args in
    let s = lent_set a.lengths.now a.bins.now a.heads.now a.names.now a.cells.now in
    (refl, (within s a.k a.i c.requires.0 c.requires.1).table)

pub half_count-high-requires : goal.half_count-high-requires
half_count-high-requires c =
    let a = c.args in
    let s = lent_set a.lengths.now a.bins.now a.heads.now a.names.now a.cells.now in
    (refl, (within s a.k a.i c.requires.0 c.requires.1).table)

pub returns-in_err-g : goal.returns-in_err-g
returns-in_err-g c =
    let a = c.args in
    let s = lent_set a.lengths.now a.bins.now a.heads.now a.names.now a.cells.now in
    let lack = headed_err _ _ c.in_err-g.ensures in
    rw (passed _ _ c.from_residual.ensures.1, lack.1)
    (low_short s a.k a.i c.half_count-low.ensures c.length_at-length.ensures c.half_count-high.ensures c.header_of-own.ensures refl lack.0)

pub after_low-requires : goal.after_low-requires
after_low-requires c = let has = headed_ok _ _ c.in_ok-g.ensures in rw has.1 (real _ _ has.0)

pub returns-in_err-h : goal.returns-in_err-h
returns-in_err-h c =
    let a = c.args in
    let s = lent_set a.lengths.now a.bins.now a.heads.now a.names.now a.cells.now in
    let has = headed_ok _ _ c.in_ok-g.ensures in
    let lack = headed_err _ _ c.in_err-h.ensures in
    rw (passed _ _ c.from_residual-in_err-h.ensures.1, lack.1)
    (high_short s a.k a.i c.half_count-low.ensures c.length_at-length.ensures c.half_count-high.ensures c.header_of-own.ensures refl
    has.0 (c.after_low.ensures ∙ ap header_after has.1 ∙ after_is _ _) refl lack.0)

pub lay_halves-requires : goal.lay_halves-requires
lay_halves-requires c =
    let a = c.args in
    let s = lent_set a.lengths.now a.bins.now a.heads.now a.names.now a.cells.now in
    (refl, (within s a.k a.i c.requires.0 c.requires.1).table)

pub overflow_add-result : goal.overflow_add-result
overflow_add-result c =
    let a = c.args in
    let s = lent_set a.lengths.now a.bins.now a.heads.now a.names.now a.cells.now in
    omega (
      arith,
      c.half_count-low.ensures,
      c.half_count-high.ensures,
      half_most s a.k a.i (a.i + c.length_at-length.result),
      half_most s a.k a.i a.i,
      (within s a.k a.i c.requires.0 c.requires.1).slots,
    )

pub returns : goal.returns
returns c =
    let a = c.args in
    let s = lent_set a.lengths.now a.bins.now a.heads.now a.names.now a.cells.now in
    let low = headed_ok _ _ c.in_ok-g.ensures in
    let high = headed_ok _ _ c.in_ok-h.ensures in
    moved s a.k a.i c.half_count-low.ensures c.length_at-length.ensures c.half_count-high.ensures c.header_of-own.ensures refl
    low.0 (c.after_low.ensures ∙ ap header_after low.1 ∙ after_is _ _) refl high.0
    (c.lay_halves.ensures _ _ low.1 high.1)
