-- The number decides, and what is written lies within the buffer.
use mathlib.Core.Path.{refl, ap, sym, ◌∙◌}
use native.Mathlib.Omega.{arith}
use Rattle.slots.specs.Answers.{Answer}
use Rattle.set_rules.specs.Words.{lent_set}
use Rattle.script_rules.specs.Feeding.{typed}
use Rattle.console.proofs.Receipts.{text_within}
use Rattle.file.specs.Meanings.{load_reply_of, loaded_of}
use Rattle.listing.proofs.Lining.{no_told, yes_told, refused_load}
use Rattle.listing.proofs.tell.tell.Goals as goal

pub returns-in-Ok : goal.returns-in-Ok
returns-in-Ok c =
    let a = c.args in
    let s = lent_set a.lengths.now a.bins.now a.heads.now a.names.now a.cells.now in
    let told = c.tell_cut.ensures ∙ ap (typed _) (yes_told (loaded_of a.load s) (sym (ap load_reply_of c.in-Ok.is)) refl) in
    record { result_after = told; bounds = text_within _ _ told (omega arith) }

pub returns-in-Err : goal.returns-in-Err
returns-in-Err c =
    let a = c.args in
    let s = lent_set a.lengths.now a.bins.now a.heads.now a.names.now a.cells.now in
    let is = c.answer.ensures ∙ sym (ap load_reply_of c.in-Err.is) in
    let told =
    c.fill.ensures
    ∙ ap (typed _)
    (no_told (loaded_of a.load s) is (λ z. refused_load c.in-Err.refusal (sym (ap (λ (x : Answer). x.number) c.answer.ensures) ∙ z))) in
    record { result_after = told; bounds = text_within _ _ told (omega arith) }
