-- A red root breaks the rules; of a black one the walk answers.
use mathlib.Core.Path.{ap, ◌∙◌}
use native.Mathlib.Omega.{arith}
use Rattle.tree.proofs.Judging.{rest_left, red_root_lem, black_root}
use Rattle.tree.proofs.rules.survey_sized.Goals as goal

pub returns-then-red : goal.returns-then-red
returns-then-red c =
    let a = c.args in
    red_root_lem a.names.now a.cells.now a.sizes.now a.root a.visits c.is_red-red.ensures c.if-red.true

pub returns-in_err-whole : goal.returns-in_err-whole
returns-in_err-whole c =
    let a = c.args in
    rw c.from_residual.ensures
    (ap rest_left c.in_err-whole.ensures
    ∙ black_root a.names.now a.cells.now a.sizes.now a.root a.visits c.is_red-red.ensures
    c.if-red.false (omega (arith, c.ranges.visits)) c.deepest-depth.ensures)

pub returns : goal.returns
returns c =
    let a = c.args in
    ap rest_left c.in_ok-whole.ensures
    ∙ black_root a.names.now a.cells.now a.sizes.now a.root a.visits c.is_red-red.ensures
    c.if-red.false (omega (arith, c.ranges.visits)) c.deepest-depth.ensures
