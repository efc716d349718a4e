use mathlib.Core.Path.{sym, ap, ◌∙◌}
use Prim.Native.Nat.{ℕ}
use native.Mathlib.Omega.{arith}
use borrow.Author.Rules.{rules}
use Rattle.tree.specs.Rules.{rest_of}
use Rattle.set_rules.specs.Accepting.{table_fine}
use Rattle.set_rules.proofs.Fit.{fits_fit}
use Rattle.sets.proofs.Steps.{room_first, table_none, table_wrong, table_step}
use Rattle.sets.proofs.accept.table_fine.Goals as goal

pub overflow_cast-left : goal.overflow_cast-left
overflow_cast-left c =
    let fit = fits_fit _ c.requires in
    omega (arith, fit.most)

pub overflow_sub-left : goal.overflow_sub-left
overflow_sub-left c =
    let fit = fits_fit _ c.requires in
    omega (arith, fit.least)

pub loop-i-init : goal.loop-i-init
loop-i-init c =
    let a = c.args in (
      ap (λ (i : ℕ). table_fine i (record {
        lengths = a.lengths.now;
        bins = a.bins.now;
        heads = a.heads.now;
        names = a.names.now;
        cells = a.cells.now;
      }) a.visits) c.length_at-i.ensures,
      omega (arith, c.length_at-i.ensures),
      search rules,
    )

pub bin_fine-requires : goal.bin_fine-requires
bin_fine-requires c =
    room_first (record {
      lengths = c.args.lengths.now;
      bins = c.args.bins.now;
      heads = c.args.heads.now;
      names = c.args.names.now;
      cells = c.args.cells.now;
    }) c.requires c.loop-i.i c.loop-i.invariant.1

pub returns-in_err-rest : goal.returns-in_err-rest
returns-in_err-rest c =
    let a = c.args in
    rw c.from_residual.ensures
    (table_wrong
    (record { lengths = a.lengths.now; bins = a.bins.now; heads = a.heads.now; names = a.names.now; cells = a.cells.now })
    c.loop-i.i c.loop-i.rest c.loop-i-test.true
    (sym (ap rest_of c.in_err-rest.was) ∙ c.bin_fine.ensures)
    ∙ c.loop-i.invariant.0)

pub loop-i-preserved : goal.loop-i-preserved
loop-i-preserved c =
    let a = c.args in (
      table_step (record {
        lengths = a.lengths.now;
        bins = a.bins.now;
        heads = a.heads.now;
        names = a.names.now;
        cells = a.cells.now;
      }) c.loop-i.i c.loop-i.rest c.loop-i-test.true
          (sym (ap rest_of c.in_ok-rest.was) ∙ c.bin_fine.ensures)
          ∙ c.loop-i.invariant.0,
      search rules,
      search rules,
    )

pub returns : goal.returns
returns c =
    let a = c.args in
    table_none (record {
      lengths = a.lengths.now;
      bins = a.bins.now;
      heads = a.heads.now;
      names = a.names.now;
      cells = a.cells.now;
    }) c.loop-i.i c.loop-i.rest c.loop-i-test.false ∙ c.loop-i.invariant.0
