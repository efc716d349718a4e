-- The library answers what the model does, and its word is that answer's, with the looks.
use mathlib.Core.Path.{ap, sym, subst, ◌∙◌}
use Prim.Native.Nat.{◌<◌}
use native.Mathlib.Omega.{arith}
use Rattle.tree_rules.specs.Find.{Counted}
use Rattle.index_rules.specs.Live.{unsized}
use Rattle.slots.specs.Answers.{answer_word}
use Rattle.word_rules.specs.Words.{search_word}
use Rattle.word_rules.proofs.Answering.{finds-plain, finds_looks, answer_below}
use Rattle.exports.proofs.reads.oz_find.Goals as goal

pub search_word-requires : goal.search_word-requires
search_word-requires c =
    let is = c.counted_by.ensures ∙ c.find-found.ensures in
    let a = c.args in
    let t = unsized a.names.now a.cells.now a.head.now in
    record {
      counted_bound = subst (λ (x : Counted). answer_word x.answer < 281474976710656) (sym is) (answer_below (finds-plain t a.hash a.key));
      counted_bound_2 = subst (λ (x : Counted). x.looks < 65536) (sym is) (omega (arith, finds_looks t a.hash a.key));
    }

pub returns : goal.returns
returns c = c.search_word.ensures ∙ ap search_word (c.counted_by.ensures ∙ c.find-found.ensures)
