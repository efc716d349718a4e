-- Where the lines fit they are undone; where they do not, the words that were kept aside come back.
use Prim.{tt}
use Rattle.index_rules.specs.Checked.{unrolled_from}
use Rattle.index.proofs.Undoing.{words_back, head_back, tree_back}
use Rattle.index.proofs.rollback.undo.Goals as goal

pub returns-then-count-eq0 : goal.returns-then-count-eq0
unfolding unrolled_from
returns-then-count-eq0 c = let e = c.if-count-eq0.true in record { sizes_after = rw e; fact = tt }

pub returns-in-Err : goal.returns-in-Err
returns-in-Err c = record {
  sizes_after = c.in-Err.ensures;
  fact = tree_back
      (words_back c.copy_words.new.dst c.unroll.new.names c.copy_words.ensures c.unroll.auto.names
      c.copy_words-in-Err.ensures c.copy_words-in-Err.auto.dst)
      (words_back c.copy_words-2.new.dst c.unroll.new.cells c.copy_words-2.ensures c.unroll.auto.cells
      c.copy_words-in-Err-2.ensures c.copy_words-in-Err-2.auto.dst)
      (head_back c.unroll.new.head c.requires.head_len c.unroll.auto.head c.word-root.ensures c.word-first.ensures
      c.word-entries.ensures c.head_put.ensures)
      (words_back c.copy_words-3.new.dst c.unroll.new.sizes c.copy_words-3.ensures
      c.unroll.auto.sizes c.copy_words-in-Err-3.ensures c.copy_words-in-Err-3.auto.dst);
}
