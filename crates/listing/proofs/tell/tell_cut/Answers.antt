-- Each slice is cut by its count.
use mathlib.Core.Path.{ap, ◌∙◌}
use Rattle.set_rules.specs.Words.{Set, lent_set}
use Rattle.script_rules.specs.Feeding.{typed, lent_paper}
use Rattle.file.specs.Meanings.{loader_words}
use Rattle.file.proofs.Cutting.{cut_is}
use Rattle.listing_rules.specs.Lines.{set_text}
use Rattle.listing.proofs.tell.tell_cut.Goals as goal

pub returns : goal.returns
returns c =
    let a = c.args in
    let s = lent_set a.lengths.now a.bins.now a.heads.now a.names.now a.cells.now in
    c.tell_set.ensures
    ∙ ap (λ (x : Set). typed (lent_paper a.out.now 0) (set_text x))
    (cut_is (loader_words a.r) s c.front_words-tables.ensures c.front_words-words.ensures c.front_heads-headers.ensures
    c.front_names-named.ensures c.front_cells-linked.ensures)
