use mathlib.Core.Path.{refl, sym, ◌∙◌}
use native.Mathlib.Omega.{arith}
use Rattle.file.proofs.Laying.{words_start, word-put, words_end}
use Rattle.file.proofs.put.put_words.Goals as goal

pub loop-i-init : goal.loop-i-init
loop-i-init c = words_start _ _ _

pub loop-i-preserved : goal.loop-i-preserved
loop-i-preserved c =
    let l = c.loop-i in
    let a = c.args in
    (word-put l.out a.at l.i a.words.now refl c.put_little.ensures (omega arith)).0 ∙ l.invariant

pub returns : goal.returns
returns c =
    let l = c.loop-i in
    let a = c.args in
    sym (words_end l.out a.at l.i a.words.now (omega arith) (omega arith)) ∙ l.invariant
