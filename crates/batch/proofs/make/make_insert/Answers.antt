-- On a ready index the call without the check is the single call.
use Rattle.index_rules.specs.Calls.{insert_call}
use Rattle.batch.proofs.Making.{made, insert_is}
use Rattle.batch.proofs.make.make_insert.Goals as goal

pub returns : goal.returns
returns c =
    let a = c.args in
    made c.requires (insert_call a.hash a.key a.place) a.k
    (insert_is c.requires a.hash a.key a.place c.insert_sound-inserted.ensures) c.answer.ensures c.answer_word.ensures
    c.put_word.ensures
    c.raise.ensures
