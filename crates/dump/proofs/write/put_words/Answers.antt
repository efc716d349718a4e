use mathlib.Core.Path.{sym, ◌∙◌}
use borrow.Author.Rules.{rules}
use Rattle.dump.proofs.Writing.{words_turn, words_over}
use Rattle.dump.proofs.write.put_words.Goals as goal

pub loop-x-preserved : goal.loop-x-preserved
loop-x-preserved g c =
    let written = rw c.number.ensures at c.put_little-end.ensures in
    (words_turn g.W.Number.number _ _ _ _ c.loop-x-test.true c.x-item.is written ∙ c.loop-x.invariant.0, search rules)

pub returns : goal.returns
returns g c = sym (words_over g.W.Number.number _ _ _ _ c.loop-x-test.false) ∙ c.loop-x.invariant.0
