-- The fronts of the slices are as long as the dump's.
use mathlib.Core.Path.{ap, ◌∙◌}
use native.Mathlib.Omega.{arith}
use lib.ListN.{length-take}
use Rattle.script_rules.specs.Feeding.{typed}
use Rattle.dump_rules.specs.Sentence.{index_text}
use Rattle.dump.proofs.Telling.{loaded_fronts}
use Rattle.dump.proofs.answer.tell_dump.Goals as goal

pub slice_bounds-tell_loaded-end : goal.slice_bounds-tell_loaded-end
slice_bounds-tell_loaded-end c = simp length-take (omega arith)

pub slice_bounds-tell_loaded-end-2 : goal.slice_bounds-tell_loaded-end-2
slice_bounds-tell_loaded-end-2 c = simp length-take (omega arith)

pub slice_bounds-tell_loaded-end-4 : goal.slice_bounds-tell_loaded-end-4
slice_bounds-tell_loaded-end-4 c = simp length-take (omega arith)

pub slice_bounds-tell_loaded-end-5 : goal.slice_bounds-tell_loaded-end-5
slice_bounds-tell_loaded-end-5 c = simp length-take (omega arith)

pub returns : goal.returns
returns c =
    let a = c.args in
    c.tell_loaded.ensures
    ∙ ap (typed _)
    (ap (index_text a.c)
    (loaded_fronts a.bytes.now a.n a.c (simp length-take (omega arith)) (simp length-take (omega arith)) (omega arith)
    (simp length-take (omega arith)) (simp length-take (omega arith))))
