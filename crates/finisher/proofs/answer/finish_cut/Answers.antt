-- Each slice is cut by its count.
use mathlib.Core.Path.{refl, ap, ◌∙◌}
use native.Mathlib.Omega.{arith}
use lib.ListN.{length-take}
use Rattle.script_rules.specs.Feeding.{lent_paper}
use Rattle.set_rules.specs.Words.{Set, lent_set}
use Rattle.file.specs.Meanings.{loader_words}
use Rattle.move_rules.specs.Finishing.{finishing}
use Rattle.move_rules.specs.Printed.{finish_written, lined_out}
use Rattle.finisher.proofs.Filing.{cut_is}
use Rattle.finisher.proofs.answer.finish_cut.Goals as goal

pub slice_bounds-finish_set-end : goal.slice_bounds-finish_set-end
slice_bounds-finish_set-end c = simp length-take (omega arith)

pub slice_bounds-finish_set-end-3 : goal.slice_bounds-finish_set-end-3
slice_bounds-finish_set-end-3 c = simp length-take (omega arith)

pub slice_bounds-finish_set-end-5 : goal.slice_bounds-finish_set-end-5
slice_bounds-finish_set-end-5 c = simp length-take (omega arith)

pub slice_bounds-finish_set-end-6 : goal.slice_bounds-finish_set-end-6
slice_bounds-finish_set-end-6 c = simp length-take (omega arith)

pub slice_bounds-finish_set-end-8 : goal.slice_bounds-finish_set-end-8
slice_bounds-finish_set-end-8 c = simp length-take (omega arith)

pub returns : goal.returns
returns c =
    let a = c.args in
    let s = lent_set a.lengths.now a.bins.now a.heads.now a.names.now a.cells.now in
    let cut = cut_is (loader_words a.r) s (c.front-tables.ensures.1 a.lengths.now refl) (c.front-words.ensures.1 a.bins.now refl)
    (c.front-headers.ensures.1 a.heads.now refl) (c.front-named.ensures.1 a.names.now refl)
    (c.front-linked.ensures.1 a.cells.now refl) in
    c.finish_set.ensures
    ∙ ap (λ (t : Set). lined_out (finish_written (finishing t) a.out.now) (lent_paper a.text.now 0)) cut
