-- Each way out closes by the search and the tests that led there; no slot is freed.
use Prim.{tt}
use mathlib.Core.Path.{refl, ◌∙◌}
use Rattle.index_rules.specs.Index.{line_made}
use Rattle.index.proofs.Room.{grown-is}
use Rattle.index.proofs.Asking.{sought-at, sought-not}
use Rattle.index.proofs.Undoing.{put_there, put-done}
use Rattle.index.proofs.lines.put_back.Goals as goal

pub returns-in-At : goal.returns-in-At
returns-in-At c =
    let a = c.args in record {
      by_index = λ kind prehash prekey. put_there _ (line_made kind a.hash a.key a.place prehash prekey) a.x a.y
          (sought-at _ _ _ c.word-root.ensures c.find_tree_node-found.result c.find_tree_node-found.ensures c.in-At.is);
      freed_is = tt;
    }

pub returns : goal.returns
returns c =
    let a = c.args in record {
      by_index = λ kind prehash prekey. put-done _ (line_made kind a.hash a.key a.place prehash prekey) a.x a.y
          (sought-not _ _ _ c.word-root.ensures c.find_tree_node-found.result c.find_tree_node-found.ensures
          c.in_default.not-At)
          c.if-x-eq-NULL.false c.if-place-ge-MOST_PLACES.false
          (c.grow.ensures ∙ grown-is _ c.requires.names_len_bound _ _ _ _ _ c.requires.null_bound);
      freed_is = refl;
    }
