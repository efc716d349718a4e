-- A loader of eight words is written.
use mathlib.Core.Path.{ap, ◌∙◌}
use mathlib.Core.List.{[]}
use Rattle.slots.specs.Answers.{answer_word}
use Rattle.set_rules.specs.Words.{lent_set}
use Rattle.exports.proofs.Filing.{start_short, start_made}
use Rattle.exports.proofs.files.oz_load_start.Goals as goal

pub returns-then-loader-ne8 : goal.returns-then-loader-ne8
returns-then-loader-ne8 c =
    start_short c.args.loader.now c.if-loader-ne8.true c.packed.ensures

pub returns : goal.returns
returns c =
    let t = lent_set [] [] [] [] [] in
    start_made c.args.loader.now t c.if-loader-ne8.false c.start-started.ensures c.write_loader.ensures
    (c.answer_word.ensures ∙ ap answer_word c.answer.ensures)
