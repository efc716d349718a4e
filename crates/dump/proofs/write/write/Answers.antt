-- The counts and the slices are written one after another.
use Rattle.dump.proofs.Writing.{dump_written}
use Rattle.dump.proofs.write.write.Goals as goal

pub returns : goal.returns
returns c =
    dump_written _ _ _ _ c.put_little-counted.ensures c.put_little-lined.ensures c.put_words-named.ensures c.put_words-linked.ensures
    c.put_words-headed.ensures c.put_words-sized.ensures c.put_words.ensures
