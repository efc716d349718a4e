-- Each slice is cut by its count, and the tally is one set more.
use mathlib.Core.Path.{ap, ◌∙◌}
use Rattle.set_rules.specs.Words.{Set, lent_set}
use Rattle.file.specs.Meanings.{loader_words}
use Rattle.file.proofs.Cutting.{cut_is}
use Rattle.figure_rules.specs.Tally.{tallies}
use Rattle.figure_rules.specs.Stream.{figures}
use Rattle.tally.proofs.Streaming.{one_more_lem}
use Rattle.tally.proofs.input.tally_cut.Goals as goal

pub returns : goal.returns
returns c =
    let a = c.args in
    let s = lent_set a.lengths.now a.bins.now a.heads.now a.names.now a.cells.now in
    let cut = cut_is (loader_words a.r) s c.front_words-tables.ensures c.front_words-words.ensures c.front_heads-headers.ensures
    c.front_names-named.ensures c.front_cells-linked.ensures in
    one_more_lem (figures a.totals.now a.over) _ (c.tally-reply.ensures ∙ ap (λ (x : Set). tallies x a.totals.now) cut)
    c.over_after.ensures
