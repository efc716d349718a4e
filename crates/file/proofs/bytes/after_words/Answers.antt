-- The next word, or the next section.
use Rattle.file.specs.Meanings.{loader_words}
use mathlib.Core.Path.{◌∙◌}
use Rattle.file.proofs.Tables.{after-done, after-not}
use Rattle.file.proofs.bytes.after_words.Goals as goal

pub returns-then-f-all : goal.returns-then-f-all
returns-then-f-all c =
    c.loader_at.ensures ∙ after-done (loader_words c.args.r) _ c.count_of-count.ensures c.section_words-all.ensures.0
    c.if-f-all.true

pub returns : goal.returns
returns c =
    c.loader_at-2.ensures ∙ after-not (loader_words c.args.r) _ c.count_of-count.ensures c.section_words-all.ensures.0 c.if-f-all.false
