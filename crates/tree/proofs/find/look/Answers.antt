-- The words that the model reads, and where the hash is another one the side alone.
use mathlib.Core.Path.{sym, ◌∙◌}
use Rattle.tree.proofs.Searching.{aside, alike}
use Rattle.tree.proofs.find.look.Goals as goal

pub returns-then-at-hash : goal.returns-then-at-hash
returns-then-at-hash c =
    let a = c.args in
    rw (c.by_hash.ensures, c.name_of-at.ensures, c.get-left.ensures, c.get-right.ensures)
    (aside a.names.now a.cells.now a.p a.hash a.key (λ z. c.if-at-hash.true (c.name_of-at.ensures ∙ z)))

pub returns : goal.returns
returns c =
    let a = c.args in
    rw (c.by_key.ensures, c.name_of-own.ensures, c.get-left.ensures, c.get-right.ensures)
    (alike a.names.now a.cells.now a.p a.hash a.key (sym c.name_of-at.ensures ∙ c.if-at-hash.false))
