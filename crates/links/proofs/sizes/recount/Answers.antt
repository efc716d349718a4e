-- The reads and writes are those of `recounted`, in order.
use Rattle.links.proofs.Sizing.{recount}
use Rattle.links.proofs.sizes.recount.Goals as goal

pub returns : goal.returns
returns c =
    let a = c.args in
    recount a.sizes.now a.p a.r a.a a.b
    c.word-old.ensures
    c.put_word.ensures
    c.word-one.ensures
    c.word-two.ensures
    c.add-both.ensures
    c.add-all.ensures
    c.put_word-2.ensures
