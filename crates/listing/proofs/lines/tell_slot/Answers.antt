-- The six numbers are those of the line.
use mathlib.Core.Path.{ap, ◌∙◌}
use Rattle.set_rules.specs.Words.{lent_set}
use Rattle.script_rules.specs.Feeding.{typed}
use Rattle.listing.proofs.Lining.{slot_told_lem}
use Rattle.listing.proofs.lines.tell_slot.Goals as goal

pub returns : goal.returns
returns c =
    let a = c.args in
    λ heads.
    let s = lent_set a.lengths.now a.bins.now heads a.names.now a.cells.now in
    c.fill.ensures
    ∙ ap (typed _)
    (slot_told_lem s a.x c.name-hash.ensures (c.home_table-table.ensures heads a.names.now a.cells.now)
    c.length_at-length.ensures c.index-bin.ensures c.name-key.ensures c.get-place.ensures)
