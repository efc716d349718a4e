-- The library answers what the model does, and its word is that answer's, with the looks.
use mathlib.Core.Path.{ap, sym, subst, ◌∙◌}
use Prim.Native.Nat.{◌<◌}
use native.Mathlib.Omega.{arith}
use Rattle.tree_rules.specs.Find.{Counted}
use Rattle.set_rules.specs.Words.{lent_set}
use Rattle.slots.specs.Answers.{answer_word}
use Rattle.word_rules.specs.Words.{search_word}
use Rattle.word_rules.proofs.Answering.{lookups-plain, lookups_looks, answer_below}
use Rattle.exports.proofs.frozen.oz_lookup.Goals as goal

pub search_word-requires : goal.search_word-requires
search_word-requires c =
    let is = c.counted_by.ensures ∙ c.lookup-looked.ensures in
    let a = c.args in
    let s = lent_set a.lengths.now a.bins.now a.heads.now a.names.now a.cells.now in
    record {
      counted_bound = subst (λ (x : Counted). answer_word x.answer < 281474976710656) (sym is)
          (answer_below (lookups-plain s a.table a.hash a.key));
      counted_bound_2 = subst (λ (x : Counted). x.looks < 65536) (sym is) (omega (arith, lookups_looks s a.table a.hash a.key));
    }

pub returns : goal.returns
returns c = c.search_word.ensures ∙ ap search_word (c.counted_by.ensures ∙ c.lookup-looked.ensures)
