-- The noted pair is not there, or the pair comes back behind it.
use Prim.{tt}
use Rattle.index.proofs.Asking.{sought-at, sought-not}
use Rattle.index.proofs.Undoing.{behind_none, behind_some}
use Rattle.index.proofs.lines.put_behind.Goals as goal

pub returns-in_default : goal.returns-in_default
returns-in_default c = record {
  by_index = λ kind. behind_none _ _ _ _ _ _
      (sought-not _ _ _ c.word-root.ensures c.find_tree_node-found.result c.find_tree_node-found.ensures
      c.in_default.not-At);
  freed_is = tt;
}

pub returns : goal.returns
returns c =
    let a = c.args in
    let s = sought-at _ _ _ c.word-root.ensures c.find_tree_node-found.result c.find_tree_node-found.ensures c.in-At.is in
    record {
      by_index = λ kind. behind_some _ _ _ _ _ _ s (c.put_back.ensures.by_index kind a.prehash a.prekey);
      freed_is =
          c.put_back.ensures.freed_is;
    }
