-- What a move comes to is what the model says.
use mathlib.Core.Path.{ap, ◌∙◌}
use borrow.Author.Rules.{rules}
use Rattle.std.specs.Prelude.{Err}
use Rattle.set_rules.specs.Words.{lent_set}
use Rattle.mover.proofs.Turns.{move_stays, went_on, passed_over, stopped, most_moved}
use Rattle.mover.proofs.finishing.finish_bin.Goals as goal

pub returns-in-Ok : goal.returns-in-Ok
returns-in-Ok c =
    let a = c.args in
    let s = lent_set a.lengths.now a.bins.now a.heads.now a.names.now a.cells.now in
    let e = c.move_accepted.ensures in (
      λ gone. went_on s _ a.k a.i _ e c.in-Ok.entries gone c.in-Ok.is,
      move_stays s _ a.k a.i _ e c.requires.0,
      most_moved s _ a.k a.i _ e c.in-Ok.entries c.requires.0 c.in-Ok.is,
    )

pub returns-in-CannotMove : goal.returns-in-CannotMove
returns-in-CannotMove c =
    let a = c.args in
    let s = lent_set a.lengths.now a.bins.now a.heads.now a.names.now a.cells.now in
    let e = c.move_accepted.ensures in
    let z = c.in-Err.is ∙ ap Err c.in-CannotMove.is in
    (λ gone. passed_over s _ a.k a.i _ e gone z, move_stays s _ a.k a.i _ e c.requires.0, search rules)

pub returns-in_default : goal.returns-in_default
returns-in_default c =
    let a = c.args in
    let s = lent_set a.lengths.now a.bins.now a.heads.now a.names.now a.cells.now in
    let e = c.move_accepted.ensures in (
      λ gone. stopped s _ a.k a.i _ e c.in-Err.refusal gone c.in-Err.is c.in_default.not-CannotMove,
      move_stays s _ a.k a.i _ e c.requires.0,
      search rules,
    )
