-- The test of fitness decides between 1 and the search, whose answers are handed on; its looks are few enough for a word.
use mathlib.Core.Path.{◌∙◌}
use native.Mathlib.Omega.{arith}
use Prim.Native.Nat.{◌<◌}
use Rattle.tree.specs.Find.{searched_of}
use Rattle.tree.proofs.Claims.{few_looks}
use Rattle.index.proofs.Gate.{find_unfit, find_fit, looks_word}
use Rattle.index.proofs.find.find.Goals as goal

pub returns-then-not-fit_unsized : goal.returns-then-not-fit_unsized
returns-then-not-fit_unsized c = find_unfit _ c.fit_unsized.ensures _ _ c.if-not-fit_unsized.true

pub returns : goal.returns
returns c =
    let few : (searched_of c.find_tree_node-found.result).looks < 4294967296 =
    omega (
      arith,
      looks_word _ c.fit_unsized.ensures c.if-not-fit_unsized.false _ _ _ c.find_tree_node-found.ensures,
    )
    in
    find_fit _ c.fit_unsized.ensures _ _ c.if-not-fit_unsized.false c.word-root.ensures
    (c.in_a_word.ensures ∙ few_looks _ few ∙ c.find_tree_node-found.ensures)
