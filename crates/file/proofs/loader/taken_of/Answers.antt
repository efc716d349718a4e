-- The bytes of whole sections, and those of the next.
use Rattle.file.specs.Meanings.{loader_words}
use Rattle.file.proofs.Ranging.{words_most, taken_is}
use Rattle.file.proofs.loader.taken_of.Goals as goal

pub begun_long-requires : goal.begun_long-requires
begun_long-requires c =
    words_most (loader_words c.args.r) c.requires

pub returns : goal.returns
returns c =
    taken_is (loader_words c.args.r) c.requires c.wholes_long.ensures.0 c.begun_long.ensures.0
