-- The number is that of the word.
use mathlib.Core.Path.{ap, ◌∙◌}
use mathlib.Core.List.{[], ◌∷◌}
use Prim.Native.Nat.{ℕ}
use Rattle.script_rules.specs.Blanks.{blanks_filled}
use Rattle.script_rules.specs.Feeding.{typed, lent_paper}
use Rattle.tally.proofs.tell.tell_word.Goals as goal

pub returns : goal.returns
returns c =
    let a = c.args in
    c.fill.ensures
    ∙ ap (λ (v : ℕ). typed (lent_paper a.out.now a.at) (blanks_filled a.sentence.now (v ∷ []))) c.word.ensures
