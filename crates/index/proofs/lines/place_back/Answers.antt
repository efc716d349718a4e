-- Each way out closes by the search and the test that led there; half of a word of 64 bits is one of 32.
use Prim.{tt}
use mathlib.Core.Path.{refl}
use native.Mathlib.Omega.{arith}
use Rattle.index.proofs.Asking.{sought-at, sought-not}
use Rattle.index.proofs.Undoing.{place_absent, place_other, place-done}
use Rattle.index.proofs.lines.place_back.Goals as goal

pub returns-in_default : goal.returns-in_default
returns-in_default c = record {
  sizes_after = place_absent _ _ _ _
      (sought-not _ _ _ c.word-root.ensures c.find_tree_node-found.result c.find_tree_node-found.ensures
      c.in_default.not-At);
  freed_is = tt;
}

pub returns-then-own-places : goal.returns-then-own-places
returns-then-own-places c =
    let s = sought-at _ _ _ c.word-root.ensures c.find_tree_node-found.result c.find_tree_node-found.ensures c.in-At.is in
    record { sizes_after = place_other _ _ _ _ s c.get-own.ensures c.if-own-places.true; freed_is = tt }

pub returns : goal.returns
returns c =
    let s = sought-at _ _ _ c.word-root.ensures c.find_tree_node-found.result c.find_tree_node-found.ensures c.in-At.is in
    record {
      sizes_after =
          place-done _ _ _ _ s c.get-own.ensures c.if-own-places.false (omega (arith, c.ranges.places)) c.put.ensures;
      freed_is = refl;
    }
