-- The tests in the rules' order settle the model's, and the answer is the one that they come to.
use mathlib.Core.Path.{sym, ap, ◌∙◌}
use Rattle.slots.specs.Coded.{verdict}
use Rattle.index.specs.declared.present.PairRefusal.TheVariants.{Unfit}
use Rattle.index.proofs.Asking.{passed, sought-at, sought-not}
use Rattle.index.proofs.Presenting.{unfit, damaged, absent, journal_full, there}
use Rattle.index.proofs.present.present.Goals as goal

pub returns-in_err-taken_as_sound : goal.returns-in_err-taken_as_sound
returns-in_err-taken_as_sound c leaving =
    rw (passed Unfit _ c.from_residual.ensures.1) (unfit _ _ _ c.in_err-taken_as_sound.ensures leaving)

pub returns-then-not-branch : goal.returns-then-not-branch
returns-then-not-branch c =
    damaged _ _ _ (ap verdict (sym c.if-not-branch.true) ∙ c.in_ok-taken_as_sound.ensures)

pub returns-in_default : goal.returns-in_default
returns-in_default c =
    absent _ _ _ (ap verdict (sym c.if-not-branch.false) ∙ c.in_ok-taken_as_sound.ensures)
    (sought-not _ _ _ c.word-root.ensures c.find_tree_node-found.result c.find_tree_node-found.ensures
    c.in_default.not-At)

pub returns-then-is_full : goal.returns-then-is_full
returns-then-is_full c =
    journal_full _ _ _ (ap verdict (sym c.if-not-branch.false) ∙ c.in_ok-taken_as_sound.ensures)
    (sought-at _ _ _ c.word-root.ensures c.find_tree_node-found.result c.find_tree_node-found.ensures c.in-At.is)
    (sym c.is_full.ensures ∙ c.if-is_full.true)

pub returns : goal.returns
returns c =
    there _ _ _ (ap verdict (sym c.if-not-branch.false) ∙ c.in_ok-taken_as_sound.ensures)
    (sought-at _ _ _ c.word-root.ensures c.find_tree_node-found.result c.find_tree_node-found.ensures c.in-At.is)
    (sym c.is_full.ensures ∙ c.if-is_full.false)
