-- On a ready index the call without the check is the single call.
use Rattle.index_rules.specs.Calls.{remove_call}
use Rattle.batch.proofs.Making.{made, remove_is}
use Rattle.batch.proofs.make.make_remove.Goals as goal

pub returns : goal.returns
returns c =
    let a = c.args in
    made c.requires (remove_call a.hash a.key) a.k (remove_is c.requires a.hash a.key c.remove_sound-removed.ensures)
    c.answer.ensures c.answer_word.ensures
    c.put_word.ensures
    c.lower.ensures
