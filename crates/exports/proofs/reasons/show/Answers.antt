-- A refusal has no words; what is told has eight, each written where the table has it.
use mathlib.Core.Path.{ap, sym, ◌∙◌}
use Rattle.night.specs.Shown.{telling_shown}
use Rattle.night.specs.Told.{account_of}
use Rattle.night.specs.Whys.{why_of}
use Rattle.std.specs.Prelude.{Result}
use Rattle.slots.specs.declared.answer.Unfit.{Unfit}
use Rattle.night.specs.declared.account.Account.{Account}
use Rattle.word_rules.proofs.Explaining.{shown_written}
use Rattle.word_rules.proofs.Holding.{long}
use Rattle.exports.proofs.reasons.show.Goals as goal

pub returns : goal.returns
returns c =
    let w = c.args.shown.now in
    shown_written (long w c.requires) (account_of c.in-Ok.account) c.put_word.ensures c.put_word-2.ensures
    c.put_word-3.ensures c.put_word-4.ensures c.put_word-5.ensures c.put_word-6.ensures c.put_word-7.ensures
    c.put_word-8.ensures
    ∙ ap (λ (e : Result Account Unfit). telling_shown (why_of e) w) (sym c.in-Ok.is)
