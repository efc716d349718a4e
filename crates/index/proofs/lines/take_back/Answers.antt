-- Each way out closes by the search and the tests that led there; the slot found is the one that is freed.
use Prim.{tt}
use mathlib.Core.Path.{ap, sym, ◌∙◌}
use Rattle.index_rules.specs.Checked.{slot_in}
use Rattle.index.proofs.Room.{shrunk-is}
use Rattle.index.proofs.Asking.{sought-at, sought-not}
use Rattle.index.proofs.Undoing.{back_absent, back_other, back_done}
use Rattle.index.proofs.lines.take_back.Goals as goal

pub returns-in_default : goal.returns-in_default
returns-in_default c = record {
  sizes_after = back_absent _ _ _ _
      (sought-not _ _ _ c.word-root.ensures c.find_tree_node-found.result c.find_tree_node-found.ensures
      c.in_default.not-At);
  freed_is = tt;
}

pub returns-then-own-place : goal.returns-then-own-place
returns-then-own-place c =
    let s = sought-at _ _ _ c.word-root.ensures c.find_tree_node-found.result c.find_tree_node-found.ensures c.in-At.is in
    record { sizes_after = back_other _ _ _ _ s c.get-own.ensures c.if-own-place.true; freed_is = tt }

pub returns : goal.returns
returns c =
    let s = sought-at _ _ _ c.word-root.ensures c.find_tree_node-found.result c.find_tree_node-found.ensures c.in-At.is in
    record {
      sizes_after =
          back_done _ _ _ _ s c.get-own.ensures c.if-own-place.false (c.shrink.ensures ∙ shrunk-is _ c.requires _);
      freed_is =
          ap slot_in (sym s);
    }
