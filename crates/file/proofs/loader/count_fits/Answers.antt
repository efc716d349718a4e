-- By the two tests.
use Rattle.file.specs.Meanings.{loader_words}
use Rattle.file.proofs.Tables.{counted_come, counted_later}
use Rattle.file.proofs.loader.count_fits.Goals as goal

pub returns-then-s-come : goal.returns-then-s-come
returns-then-s-come c =
    counted_come (loader_words c.args.r) _ c.counts_come-come.ensures c.count_of-count.ensures c.most_of.ensures.0 c.if-s-come.true

pub returns : goal.returns
returns c =
    counted_later (loader_words c.args.r) _ c.counts_come-come.ensures c.count_of-count.ensures c.if-s-come.false
