-- A refusal leaves all as it is; else the lines are undone and cut off, as the model says.
use Rattle.index.specs.declared.rollback.RollbackRefusal.TheVariants.{Misfit}
use Rattle.index.proofs.Asking.{passed}
use Rattle.index.proofs.Rolling.{kept, opening, names_most, cells_most, head_three, sizes_most, count_room, misfits, rolled}
use Rattle.index.proofs.Rolling.{not_lines}
use Rattle.index.proofs.rollback.rollback_sound.Goals as goal

pub returns-in_err-count : goal.returns-in_err-count
returns-in_err-count c =
    rw (passed _ _ c.from_residual.ensures.1) (kept _ c.args.mark _ (not_lines c.in_err-count.field-0.0) c.in_err-count.ensures)

pub undo-requires : goal.undo-requires
undo-requires c =
    let o = opening _ c.args.mark _ c.in_ok-count.ensures in
    record {
      names_len_bound = names_most o;
      cells_len_bound = cells_most o;
      head_len = head_three o;
      sizes_len_bound = sizes_most o;
      count_bound = count_room o;
    }

pub returns-in_err-undo : goal.returns-in_err-undo
returns-in_err-undo c =
    rw (passed Misfit _ c.from_residual-in_err-undo.ensures.1)
    (misfits (opening _ c.args.mark _ c.in_ok-count.ensures) c.in_err-undo.ensures.sizes_after c.in_err-undo.ensures.fact)

pub returns : goal.returns
returns c = rolled (opening _ c.args.mark _ c.in_ok-count.ensures) c.in_ok-undo.ensures.sizes_after c.cut.ensures
