use mathlib.Core.Path.{◌≡◌, refl, sym, ◌∙◌}
use native.Mathlib.Omega.{arith}
use Rattle.set_rules.specs.Words.{lent_set}
use Rattle.listing.proofs.Lining.{home_here, home_on, home_last}
use Rattle.listing.proofs.lines.home_table.Goals as goal

pub loop-k-init : goal.loop-k-init
loop-k-init c = λ heads names cells. refl

pub returns-then-word-ne-MOVED : goal.returns-then-word-ne-MOVED
returns-then-word-ne-MOVED c =
    let a = c.args in
    λ heads names cells.
    let s = lent_set a.lengths.now a.bins.now heads names cells in
    sym (home_here s a.hash c.loop-k.k c.length_at-length.ensures c.index-i.ensures c.bin_word-word.ensures
    (omega (arith, c.loop-k-test.true)) c.if-word-ne-MOVED.true)
    ∙ c.loop-k.invariant heads names cells

pub loop-k-preserved : goal.loop-k-preserved
loop-k-preserved c =
    let a = c.args in
    λ heads names cells.
    let s = lent_set a.lengths.now a.bins.now heads names cells in
    home_on s a.hash c.loop-k.k c.length_at-length.ensures c.index-i.ensures c.bin_word-word.ensures
    (omega (arith, c.loop-k-test.true)) c.if-word-ne-MOVED.false
    ∙ c.loop-k.invariant heads names cells

pub returns : goal.returns
returns c =
    let a = c.args in
    λ heads names cells.
    let s = lent_set a.lengths.now a.bins.now heads names cells in
    let z : c.loop-k.k ≡ 7 = omega (arith, c.loop-k-test.false, c.loop-k.auto) in
    sym z ∙ sym (home_last s a.hash c.loop-k.k (omega (arith, c.loop-k-test.false))) ∙ c.loop-k.invariant heads names cells
