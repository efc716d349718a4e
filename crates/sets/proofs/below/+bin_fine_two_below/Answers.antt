-- Each way out is a law of one bin, or of the two below one.
use mathlib.Core.Path.{refl, sym, ap, ◌∙◌}
use native.Mathlib.Omega.{arith}
use Rattle.tree.specs.Rules.{rest_of}
use Rattle.set_rules.specs.Words.{Set}
use Rattle.sets.proofs.Steps.{room_from, room_near, room_far, bin-read, bin_astray, bin_wrong, bin_on}
use Rattle.sets.proofs.Steps.{below_none, below_wrong, below_both}
use Rattle.sets.proofs.below.+bin_fine_two_below.Goals as goal

pub bin_fine-returns-then-not-stands : goal.bin_fine-returns-then-not-stands
bin_fine-returns-then-not-stands t c =
    let a = c.args in
    let s : Set = record { lengths = a.lengths.now; bins = a.bins.now; heads = a.heads.now; names = a.names.now; cells = a.cells.now } in
    bin_astray s a.left a.k a.i a.may a.visits (bin-read s c.requires c.bin_from-bin.ensures) c.may_stand-stands.ensures
    c.if-not-stands.true

pub bin_fine-returns-in_err-rest : goal.bin_fine-returns-in_err-rest
bin_fine-returns-in_err-rest t c =
    let a = c.args in
    let s : Set = record { lengths = a.lengths.now; bins = a.bins.now; heads = a.heads.now; names = a.names.now; cells = a.cells.now } in
    rw c.from_residual.ensures
    (bin_wrong s a.left a.k a.i a.may a.visits (bin-read s c.requires c.bin_from-bin.ensures) c.may_stand-stands.ensures
    c.if-not-stands.false c.length_at-length.ensures (ap rest_of (sym c.in_err-rest.was) ∙ c.own_fine.ensures))

pub bin_fine-returns : goal.bin_fine-returns
bin_fine-returns t c =
    let a = c.args in
    let s : Set = record { lengths = a.lengths.now; bins = a.bins.now; heads = a.heads.now; names = a.names.now; cells = a.cells.now } in
    bin_on s a.left a.k a.i a.may a.visits (bin-read s c.requires c.bin_from-bin.ensures) c.may_stand-stands.ensures
    c.if-not-stands.false c.length_at-length.ensures
    (ap rest_of (sym c.in_ok-rest.was) ∙ c.own_fine.ensures) c.is_moved-opened.ensures c.two_below.ensures

pub two_below-returns-then-left-eq0 : goal.two_below-returns-then-left-eq0
two_below-returns-then-left-eq0 t c =
    let a = c.args in
    let s : Set = record { lengths = a.lengths.now; bins = a.bins.now; heads = a.heads.now; names = a.names.now; cells = a.cells.now } in
    below_none s a.left a.k a.i a.may a.visits c.if-left-eq0.true

pub two_below-overflow_add-next : goal.two_below-overflow_add-next
two_below-overflow_add-next t c =
    let r = c.requires in
    omega (arith, room_from r, r.tables, r.index, r.lengths_most c.args.k, c.length_at-length.ensures)

pub two_below-overflow_add-k : goal.two_below-overflow_add-k
two_below-overflow_add-k t c =
    let r = c.requires in
    omega (arith, room_from r, r.tables, r.index, r.lengths_most c.args.k, c.length_at-length.ensures)

pub two_below-overflow_add-k-2 : goal.two_below-overflow_add-k-2
two_below-overflow_add-k-2 t c =
    let r = c.requires in
    omega (arith, room_from r, r.tables, r.index, r.lengths_most c.args.k, c.length_at-length.ensures)

pub two_below-overflow_add-i : goal.two_below-overflow_add-i
two_below-overflow_add-i t c =
    let r = c.requires in
    omega (arith, room_from r, r.tables, r.index, r.lengths_most c.args.k, c.length_at-length.ensures)

pub two_below-bin_fine-requires : goal.two_below-bin_fine-requires
two_below-bin_fine-requires t c =
    (omega (arith, c.decreases, c.if-left-eq0.false), room_near c.requires c.if-left-eq0.false c.length_at-length.ensures refl)

pub two_below-returns-in_err-rest : goal.two_below-returns-in_err-rest
two_below-returns-in_err-rest t c =
    let a = c.args in
    let s : Set = record { lengths = a.lengths.now; bins = a.bins.now; heads = a.heads.now; names = a.names.now; cells = a.cells.now } in
    rw c.from_residual.ensures
    (below_wrong s a.left a.k a.i a.may a.visits c.if-left-eq0.false (ap rest_of (sym c.in_err-rest.was) ∙ c.bin_fine.ensures))

pub two_below-bin_fine-requires-2 : goal.two_below-bin_fine-requires-2
two_below-bin_fine-requires-2 t c =
    (omega (arith, c.decreases, c.if-left-eq0.false), room_far c.requires c.if-left-eq0.false c.length_at-length.ensures refl)

pub two_below-returns : goal.two_below-returns
two_below-returns t c =
    let a = c.args in
    let s : Set = record { lengths = a.lengths.now; bins = a.bins.now; heads = a.heads.now; names = a.names.now; cells = a.cells.now } in
    below_both s a.left a.k a.i a.may a.visits c.if-left-eq0.false c.length_at-length.ensures
    (ap rest_of (sym c.in_ok-rest.was) ∙ c.bin_fine.ensures) c.bin_fine-2.ensures
