-- Each section comes behind the bytes of those before it.
use Rattle.set_rules.specs.Words.{lent_set}
use Rattle.file.proofs.Laying.{set-put}
use Rattle.file.proofs.put.put_set.Goals as goal

pub returns : goal.returns
returns c =
    let a = c.args in
    set-put (lent_set a.lengths.now a.bins.now a.heads.now a.names.now a.cells.now) a.out.now
    c.put_section.ensures
    c.put_section-2.ensures
    c.put_section-3.ensures
    c.put_slot_section.ensures
