-- Each slice is cut behind what its count says.
use mathlib.Core.Path.{sym}
use native.Mathlib.Omega.{arith}
use lib.Seq.{length-take-le}
use Rattle.set_rules.specs.Words.{lent_set}
use Rattle.file_rules.specs.Loading.{cut_out}
use Rattle.file.specs.Meanings.{loader_words}
use Rattle.file.proofs.Ranging.{fit_small}
use Rattle.file.proofs.Stepping.{cut_within}
use Rattle.file.proofs.load.judge.Goals as goal

pub slice_bounds-accept-end : goal.slice_bounds-accept-end
slice_bounds-accept-end c =
    let a = c.args in
    let s = lent_set a.lengths.now a.bins.now a.heads.now a.names.now a.cells.now in
    let w = cut_within (loader_words c.args.r) s c.requires.0 c.requires.1 in sym (length-take-le _ _ w.0)

pub slice_bounds-accept-end-2 : goal.slice_bounds-accept-end-2
slice_bounds-accept-end-2 c =
    let a = c.args in
    let s = lent_set a.lengths.now a.bins.now a.heads.now a.names.now a.cells.now in
    let w = cut_within (loader_words c.args.r) s c.requires.0 c.requires.1 in sym (length-take-le _ _ w.1)

pub overflow_mul-headers : goal.overflow_mul-headers
overflow_mul-headers c =
    let small = fit_small (loader_words c.args.r) c.requires.0 2 in omega arith

pub slice_bounds-accept-end-3 : goal.slice_bounds-accept-end-3
slice_bounds-accept-end-3 c =
    let a = c.args in
    let s = lent_set a.lengths.now a.bins.now a.heads.now a.names.now a.cells.now in
    let w = cut_within (loader_words c.args.r) s c.requires.0 c.requires.1 in sym (length-take-le _ _ w.2)

pub overflow_mul-slots : goal.overflow_mul-slots
overflow_mul-slots c =
    let small = fit_small (loader_words c.args.r) c.requires.0 3 in omega arith

pub slice_bounds-accept-end-4 : goal.slice_bounds-accept-end-4
slice_bounds-accept-end-4 c =
    let a = c.args in
    let s = lent_set a.lengths.now a.bins.now a.heads.now a.names.now a.cells.now in
    let w = cut_within (loader_words c.args.r) s c.requires.0 c.requires.1 in sym (length-take-le _ _ w.3)

pub overflow_mul-slots-2 : goal.overflow_mul-slots-2
overflow_mul-slots-2 c =
    let small = fit_small (loader_words c.args.r) c.requires.0 3 in omega arith

pub slice_bounds-accept-end-5 : goal.slice_bounds-accept-end-5
slice_bounds-accept-end-5 c =
    let a = c.args in
    let s = lent_set a.lengths.now a.bins.now a.heads.now a.names.now a.cells.now in
    let w = cut_within (loader_words c.args.r) s c.requires.0 c.requires.1 in sym (length-take-le _ _ w.4)

pub returns : goal.returns
unfolding cut_out
returns c = c.accept.ensures
