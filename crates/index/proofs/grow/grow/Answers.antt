-- What is read is read before a write, and the writes are those of `grown`, in order.
use Rattle.index.proofs.Growing.{grow, follower, top}
use Rattle.index_rules.specs.Live.{lent_tree}
use Rattle.index.proofs.grow.grow.Goals as goal

pub returns : goal.returns
returns c =
    let a = c.args in
    let t = lent_tree a.names.now a.cells.now a.head.now a.sizes.now in
    grow t a.x a.y a.hash a.key a.place
    c.if-names-gt-MOST_NAMES.false
    c.word-count.ensures
    c.if-count.false
    c.word-root.ensures
    (follower t a.x a.y c.word-first.ensures c.if-y-eq-NULL.branch-raw c.get-behind.ensures (λ w. (w.if-y-eq-NULL.true, w.q-is))
    (λ w. (w.if-y-eq-NULL.false, w.q-is)))
    (top t a.x a.y c.word-first.ensures c.if-y-eq-NULL-2.branch-raw (λ w. (w.if-y-eq-NULL-2.true, w.front-is))
    (λ w. (w.if-y-eq-NULL-2.false, w.front-is)))
    c.put_pair.ensures
    c.put.ensures
    c.seat.ensures
    c.hang_slot-top.ensures
    c.head_put.ensures
