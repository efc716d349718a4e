-- The tests in the rules' order settle the model's, and the answer is the one that they come to.
use mathlib.Core.Path.{sym, ap, ◌∙◌}
use native.Mathlib.Omega.{arith}
use Rattle.slots.specs.Coded.{verdict}
use Rattle.index.specs.declared.insert.InsertRefusal.TheVariants.{Unfit}
use Rattle.index.proofs.Asking.{passed, sought-at, sought-not}
use Rattle.index.proofs.Inserting.{unfit, damaged, few, present, full, journal_full, taken}
use Rattle.index.proofs.insert.ask.Goals as goal

pub returns-in_err-taken_as_sound : goal.returns-in_err-taken_as_sound
returns-in_err-taken_as_sound c p =
    rw (passed Unfit _ c.from_residual.ensures.1) (unfit _ _ _ _ c.in_err-taken_as_sound.ensures p)

pub returns-then-not-branch : goal.returns-then-not-branch
returns-then-not-branch c =
    damaged _ _ _ _ (ap verdict (sym c.if-not-branch.true) ∙ c.in_ok-taken_as_sound.ensures)

pub returns-in-At : goal.returns-in-At
returns-in-At c =
    present _ _ _ _ (ap verdict (sym c.if-not-branch.false) ∙ c.in_ok-taken_as_sound.ensures)
    (sought-at _ _ _ c.word-root.ensures c.find_tree_node-found.result c.find_tree_node-found.ensures c.in-At.is)

pub overflow_cast-names : goal.overflow_cast-names
overflow_cast-names c =
    omega (arith, few 0 _ 0 0 (ap verdict (sym c.if-not-branch.false) ∙ c.in_ok-taken_as_sound.ensures))

pub returns-then-x : goal.returns-then-x
returns-then-x c =
    full _ _ _ _ (ap verdict (sym c.if-not-branch.false) ∙ c.in_ok-taken_as_sound.ensures)
    (sought-not _ _ _ c.word-root.ensures c.find_tree_node-found.result c.find_tree_node-found.ensures
    c.in_default.not-At)
    c.lowest_free-x.ensures
    c.if-x.true

pub returns-then-is_full : goal.returns-then-is_full
returns-then-is_full c =
    journal_full _ _ _ _ (ap verdict (sym c.if-not-branch.false) ∙ c.in_ok-taken_as_sound.ensures)
    (sought-not _ _ _ c.word-root.ensures c.find_tree_node-found.result c.find_tree_node-found.ensures
    c.in_default.not-At)
    c.lowest_free-x.ensures
    c.if-x.false
    (sym c.is_full.ensures ∙ c.if-is_full.true)

pub returns : goal.returns
returns c =
    taken _ _ _ _ (ap verdict (sym c.if-not-branch.false) ∙ c.in_ok-taken_as_sound.ensures)
    (sought-not _ _ _ c.word-root.ensures c.find_tree_node-found.result c.find_tree_node-found.ensures
    c.in_default.not-At)
    c.lowest_free-x.ensures
    c.if-x.false
    (sym c.is_full.ensures ∙ c.if-is_full.false)
