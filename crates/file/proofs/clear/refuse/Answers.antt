-- Every word from the first on.
use Rattle.set_rules.specs.Words.{lent_set}
use Rattle.file.specs.Meanings.{loader_words}
use Rattle.file.proofs.Clearing.{refused_zeroed}
use Rattle.file.proofs.clear.refuse.Goals as goal

pub returns : goal.returns
returns c =
    let a = c.args in
    let s = lent_set a.lengths.now a.bins.now a.heads.now a.names.now a.cells.now in
    refused_zeroed (loader_words c.args.r) s _ c.fill_from.ensures c.fill_from-2.ensures c.fill_from-3.ensures
    c.fill_from-4.ensures c.fill_from-5.ensures c.note_in.ensures
