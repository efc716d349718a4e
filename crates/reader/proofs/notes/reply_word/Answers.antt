-- The word that is packed is that of the answer.
use mathlib.Core.Path.{ap, ◌∙◌}
use Prim.Native.Nat.{◌+◌, ◌*◌}
use Rattle.reader.proofs.Noting.{word_packed}
use Rattle.reader.proofs.notes.reply_word.Goals as goal

pub returns : goal.returns
returns c =
    let a = c.answer-answer.result in
    ap (λ w. 1 + w) (c.packed.ensures ∙ ap (λ v. v + 4294967296 * a.number) c.unwrap_or.ensures)
    ∙ word_packed c.args.reply a.number a.value c.answer-answer.ensures
