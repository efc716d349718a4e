-- Each section by its slice.
use native.Mathlib.Omega.{arith}
use Rattle.file.proofs.Running.{in_lengths, in_bins, in_heads, section_lengths, section_bins, section_heads}
use Rattle.file.proofs.runs.read_section.Goals as goal

pub read_tail-requires : goal.read_tail-requires
read_tail-requires c =
    let a = c.args in
    (c.requires.1, in_lengths a.lengths.now a.bins.now a.heads.now _ _ c.if-s-eq0.true c.requires.2)

pub returns-then-s-eq0 : goal.returns-then-s-eq0
returns-then-s-eq0 c =
    let a = c.args in (
      c.read_tail.ensures.0,
      section_lengths a.lengths.now a.bins.now a.heads.now _ _ _ c.if-s-eq0.true
          c.read_tail.ensures.1,
    )

pub read_tail-requires-then-s-eq1 : goal.read_tail-requires-then-s-eq1
read_tail-requires-then-s-eq1 c =
    let a = c.args in
    (c.requires.1, in_bins a.lengths.now a.bins.now a.heads.now _ _ c.if-s-eq1.true c.requires.2)

pub returns-then-s-eq1 : goal.returns-then-s-eq1
returns-then-s-eq1 c =
    let a = c.args in (
      c.read_tail-then-s-eq1.ensures.0,
      section_bins a.lengths.now a.bins.now a.heads.now _ _ _ c.if-s-eq1.true
          c.read_tail-then-s-eq1.ensures.1,
    )

pub read_tail-requires-2 : goal.read_tail-requires-2
read_tail-requires-2 c =
    let a = c.args in (
      c.requires.1,
      in_heads a.lengths.now a.bins.now a.heads.now _ _
          (omega (arith, c.if-s-eq0.false, c.if-s-eq1.false, c.requires.0)) c.requires.2,
    )

pub returns : goal.returns
returns c =
    let a = c.args in (
      c.read_tail-2.ensures.0,
      section_heads a.lengths.now a.bins.now a.heads.now _ _ _ (omega (arith, c.if-s-eq0.false, c.if-s-eq1.false, c.requires.0))
          c.read_tail-2.ensures.1,
    )
