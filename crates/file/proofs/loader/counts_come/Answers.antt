-- Before the count of the section, or behind it.
use Rattle.file.specs.Meanings.{loader_words}
use Rattle.file.proofs.Tables.{come_before, come_after}
use Rattle.file.proofs.loader.counts_come.Goals as goal

pub returns-then-r-eq0 : goal.returns-then-r-eq0
returns-then-r-eq0 c =
    come_before (loader_words c.args.r) c.if-r-eq0.true

pub returns : goal.returns
returns c =
    come_after (loader_words c.args.r) c.if-r-eq0.false
