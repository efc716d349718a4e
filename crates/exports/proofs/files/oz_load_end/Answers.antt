-- The words say no loader, or the call is made on the loader that they say.
use mathlib.Core.Path.{ap, ◌∙◌}
use Rattle.slots.specs.Answers.{answer_word}
use Rattle.set_rules.specs.Words.{lent_set}
use Rattle.exports.specs.Coded.{loader_at_of}
use Rattle.exports.proofs.Filing.{end_none, end_some}
use Rattle.exports.proofs.files.oz_load_end.Goals as goal

pub returns-in_default : goal.returns-in_default
returns-in_default c =
    let a = c.args in
    let s = lent_set a.lengths.now a.bins.now a.heads.now a.names.now a.cells.now in
    end_none s a.loader.now c.read_loader.ensures (ap loader_at_of c.in_default.is) c.packed.ensures

pub returns : goal.returns
returns c =
    let a = c.args in
    let s = lent_set a.lengths.now a.bins.now a.heads.now a.names.now a.cells.now in
    end_some s a.loader.now c.read_loader.ensures (ap loader_at_of c.in-Some.is)
    (c.answer_word.ensures ∙ ap answer_word c.answer.ensures) c.write_loader.ensures c.end-load.ensures
