-- Each rest behind its count.
use native.Mathlib.Omega.{arith}
use Rattle.set_rules.specs.Words.{lent_set}
use Rattle.file.specs.Meanings.{loader_words}
use Rattle.file.proofs.Ranging.{fit_small}
use Rattle.file.proofs.Clearing.{rests_zeroed_lem}
use Rattle.file.proofs.clear.clear_rests.Goals as goal

pub overflow_mul-r : goal.overflow_mul-r
overflow_mul-r c =
    let small = fit_small (loader_words c.args.r) c.requires 2 in omega arith

pub overflow_mul-r-2 : goal.overflow_mul-r-2
overflow_mul-r-2 c =
    let small = fit_small (loader_words c.args.r) c.requires 3 in omega arith

pub overflow_mul-r-3 : goal.overflow_mul-r-3
overflow_mul-r-3 c =
    let small = fit_small (loader_words c.args.r) c.requires 3 in omega arith

pub returns : goal.returns
returns c =
    let a = c.args in
    let s = lent_set a.lengths.now a.bins.now a.heads.now a.names.now a.cells.now in
    rests_zeroed_lem (loader_words c.args.r) s c.fill_from.ensures c.fill_from-2.ensures c.fill_from-3.ensures
    c.fill_from-4.ensures c.fill_from-5.ensures
