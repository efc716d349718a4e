-- The count settles the model's, and then come the lines.
use Rattle.console.proofs.Listing.{list_all}
use Rattle.console.proofs.answer.tell_list.Goals as goal

pub returns : goal.returns
returns c =
    list_all _ _ c.fit.ensures c.if-not-fit.false c.word-first.ensures c.in-Some.ensures c.tell-lines.ensures c.tell_entries.ensures
