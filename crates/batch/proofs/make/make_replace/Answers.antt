-- On a ready index the call without the check is the single call.
use mathlib.Core.Path.{refl}
use Rattle.index_rules.specs.Calls.{replace_call}
use Rattle.batch.proofs.Making.{made, replace_is}
use Rattle.batch.proofs.make.make_replace.Goals as goal

pub returns : goal.returns
returns c =
    let a = c.args in
    made c.requires (replace_call a.hash a.key a.place) a.k
    (replace_is c.requires a.hash a.key a.place c.replace_sound-replaced.ensures) c.answer.ensures c.answer_word.ensures
    c.put_word.ensures
    refl
