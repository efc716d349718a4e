use mathlib.Core.Path.{◌≡◌, refl, ap, ◌∙◌}
use mathlib.Core.List.{[]}
use native.Mathlib.Omega.{arith}
use lib.ListN.{length}
use Rattle.set_rules.specs.Words.{lent_set}
use Rattle.figure_rules.specs.Tally.{bins_tallied}
use Rattle.tally.proofs.Looping.{bins_start, bins_on, bin_room}
use Rattle.tally.proofs.add.add_bins.Goals as goal

pub loop-word-init : goal.loop-word-init
loop-word-init c = bins_start _ _

pub add_bin-requires : goal.add_bin-requires
add_bin-requires c =
    let a = c.args in
    let s = lent_set [] a.bins.now a.heads.now a.names.now [] in
    bin_room s a.totals.now c.loop-word.word-index c.loop-word.invariant c.requires.1 c.requires.2 (omega (arith, c.requires.0))

pub loop-word-preserved : goal.loop-word-preserved
loop-word-preserved c =
    let a = c.args in
    let s = lent_set [] a.bins.now a.heads.now a.names.now [] in
    bins_on s a.totals.now c.loop-word.word-index c.loop-word.invariant refl refl refl c.bin_of.ensures c.add_bin.ensures

pub returns : goal.returns
returns c =
    let a = c.args in
    let s = lent_set [] a.bins.now a.heads.now a.names.now [] in
    let all : c.loop-word.word-index ≡ length a.bins.now = omega arith in
    c.loop-word.invariant ∙ ap (λ k. bins_tallied s k a.totals.now) all
