-- The line's kind decides which of the drivers undoes it.
use Prim.{tt}
use Rattle.index_rules.specs.Live.{lent_tree}
use Rattle.index.proofs.Undoing.{line_insert, line_remove, line_noted, line_replace, line_other, frees_own, frees_none}
use Rattle.index.proofs.lines.undo_line.Goals as goal

pub returns-then-kind-eq-INSERT : goal.returns-then-kind-eq-INSERT
returns-then-kind-eq-INSERT c =
    let a = c.args in record {
      sizes_after = line_insert (lent_tree a.names.now a.cells.now a.head.now a.sizes.now) a.lines.now a.k a.x
          c.line_word-kind.ensures
          c.line_word-hash.ensures
          c.line_word-key.ensures
          c.line_word-place.ensures
          c.if-kind-eq-INSERT.true
          c.take_back.ensures.sizes_after;
      freed_is = frees_own (lent_tree a.names.now a.cells.now a.head.now a.sizes.now) a.lines.now a.k
          c.line_word-kind.ensures c.line_word-hash.ensures c.line_word-key.ensures c.take_back.result c.if-kind-eq-INSERT.true
          c.take_back.ensures.freed_is;
    }

pub returns-then-kind-eq-REMOVE : goal.returns-then-kind-eq-REMOVE
returns-then-kind-eq-REMOVE c =
    let a = c.args in record {
      sizes_after = line_remove (lent_tree a.names.now a.cells.now a.head.now a.sizes.now) a.lines.now a.k a.x
          c.line_word-kind.ensures
          c.line_word-hash.ensures
          c.line_word-key.ensures
          c.line_word-place.ensures
          c.if-kind-eq-INSERT.false
          c.if-kind-eq-REMOVE.true
          c.put_back.ensures.by_index;
      freed_is = frees_none (lent_tree a.names.now a.cells.now a.head.now a.sizes.now) a.lines.now a.k
          c.line_word-kind.ensures c.line_word-hash.ensures c.line_word-key.ensures c.put_back.result c.if-kind-eq-INSERT.false
          c.put_back.ensures.freed_is;
    }

pub returns-then-kind-eq-NOTED_REMOVE : goal.returns-then-kind-eq-NOTED_REMOVE
returns-then-kind-eq-NOTED_REMOVE c =
    let a = c.args in record {
      sizes_after = line_noted (lent_tree a.names.now a.cells.now a.head.now a.sizes.now) a.lines.now a.k a.x
          c.line_word-kind.ensures
          c.line_word-hash.ensures
          c.line_word-key.ensures
          c.line_word-place.ensures
          c.if-kind-eq-INSERT.false
          c.if-kind-eq-REMOVE.false
          c.if-kind-eq-NOTED_REMOVE.true
          c.line_word-prehash.ensures
          c.line_word-prekey.ensures
          c.put_behind.ensures.by_index;
      freed_is = frees_none (lent_tree a.names.now a.cells.now a.head.now a.sizes.now) a.lines.now a.k
          c.line_word-kind.ensures c.line_word-hash.ensures c.line_word-key.ensures c.put_behind.result c.if-kind-eq-INSERT.false
          c.put_behind.ensures.freed_is;
    }

pub returns-then-kind-eq-REPLACE : goal.returns-then-kind-eq-REPLACE
returns-then-kind-eq-REPLACE c =
    let a = c.args in record {
      sizes_after = line_replace (lent_tree a.names.now a.cells.now a.head.now a.sizes.now) a.lines.now a.k a.x
          c.line_word-kind.ensures
          c.line_word-hash.ensures
          c.line_word-key.ensures
          c.line_word-place.ensures
          c.if-kind-eq-INSERT.false
          c.if-kind-eq-REMOVE.false
          c.if-kind-eq-NOTED_REMOVE.false
          c.if-kind-eq-REPLACE.true
          c.place_back.ensures.sizes_after;
      freed_is = frees_none (lent_tree a.names.now a.cells.now a.head.now a.sizes.now) a.lines.now a.k
          c.line_word-kind.ensures c.line_word-hash.ensures c.line_word-key.ensures c.place_back.result c.if-kind-eq-INSERT.false
          c.place_back.ensures.freed_is;
    }

pub returns : goal.returns
returns c =
    let a = c.args in record {
      sizes_after = line_other (lent_tree a.names.now a.cells.now a.head.now a.sizes.now) a.lines.now a.k a.x
          c.line_word-kind.ensures
          c.line_word-hash.ensures
          c.line_word-key.ensures
          c.line_word-place.ensures
          c.if-kind-eq-INSERT.false
          c.if-kind-eq-REMOVE.false
          c.if-kind-eq-NOTED_REMOVE.false
          c.if-kind-eq-REPLACE.false;
      freed_is = tt;
    }
