-- The fronts of the slices are as long as the dump's, and the second index is zeros.
use native.Mathlib.Omega.{arith}
use lib.ListN.{length-take}
use Rattle.dump.proofs.Writing.{take-zeros, same_bytes, same_text, fronts_zero, fronts_loaded}
use Rattle.dump.proofs.rescue.save_dump.Goals as goal

pub slice_bounds-save_loaded-end : goal.slice_bounds-save_loaded-end
slice_bounds-save_loaded-end c = simp length-take (omega arith)

pub slice_bounds-save_loaded-end-2 : goal.slice_bounds-save_loaded-end-2
slice_bounds-save_loaded-end-2 c = simp length-take (omega arith)

pub slice_bounds-save_loaded-end-4 : goal.slice_bounds-save_loaded-end-4
slice_bounds-save_loaded-end-4 c = simp length-take (omega arith)

pub slice_bounds-save_loaded-end-5 : goal.slice_bounds-save_loaded-end-5
slice_bounds-save_loaded-end-5 c = simp length-take (omega arith)

pub slice_bounds-save_loaded-end-6 : goal.slice_bounds-save_loaded-end-6
slice_bounds-save_loaded-end-6 c = simp length-take (omega arith)

pub slice_bounds-save_loaded-end-7 : goal.slice_bounds-save_loaded-end-7
slice_bounds-save_loaded-end-7 c = simp length-take (omega arith)

pub slice_bounds-save_loaded-end-9 : goal.slice_bounds-save_loaded-end-9
slice_bounds-save_loaded-end-9 c = simp length-take (omega arith)

pub slice_bounds-save_loaded-end-10 : goal.slice_bounds-save_loaded-end-10
slice_bounds-save_loaded-end-10 c = simp length-take (omega arith)

pub slice_bounds-save_loaded-end-11 : goal.slice_bounds-save_loaded-end-11
slice_bounds-save_loaded-end-11 c = simp length-take (omega arith)

pub returns : goal.returns
returns c =
    let a = c.args in
    let told = c.save_loaded.ensures in
    let few = c.requires.0 in
    let lined = c.requires.1 in
    let first = fronts_loaded a.n a.c few lined {names = 8192} {cells = 28672} {sizes = 4096} {lines = 6145} (omega arith)
    (omega arith) (omega arith) (omega arith) a.bytes.now in
    let second = fronts_zero a.n a.c few lined {names = 8192} {cells = 28672} {sizes = 4096} {lines = 6145} (omega arith)
    (omega arith) (omega arith) (omega arith) in
    let report = take-zeros a.n 4096 few in
    (same_bytes _ a.n first second report a.c told.0, same_text _ a.n first second report told.1)
