-- The search says whether the pair is there; then the slot that it came from is told, or the second tree grows by one slot.
use mathlib.Core.Path.{◌∙◌}
use native.Mathlib.Omega.{arith}
use Rattle.index.proofs.Asking.{sought-at, sought-not}
use Rattle.index.proofs.Room.{grown-is}
use Rattle.night.proofs.Saving.{sources_stay, sources_more, repeat_most, pair_repeats, pair-kept, came_source}
use Rattle.night.proofs.salvage.save_pair.Goals as goal

pub overflow_add-s : goal.overflow_add-s
overflow_add-s c =
    omega (
      arith,
      repeat_most _ _ _ (came_source _ _ _ _ _ _ c.requires.slot_ready c.name-hash.ensures c.name-key.ensures
          (sought-at _ _ _ c.word-root.ensures c.find_tree_node-found.result c.find_tree_node-found.ensures c.in-At.is)
          c.word-s.ensures) c.requires.i_lt_most_slots,
    )

pub returns-in-At : goal.returns-in-At
returns-in-At c = (
  pair_repeats _ _ _ _ _ _ c.name-hash.ensures c.name-key.ensures
      (sought-at _ _ _ c.word-root.ensures c.find_tree_node-found.result c.find_tree_node-found.ensures c.in-At.is)
      (came_source _ _ _ _ _ _ c.requires.slot_ready c.name-hash.ensures c.name-key.ensures
      (sought-at _ _ _ c.word-root.ensures c.find_tree_node-found.result c.find_tree_node-found.ensures c.in-At.is)
      c.word-s.ensures)
      c.put_word.ensures,
  sources_stay _ _ _ _ _ c.put_word.ensures c.requires.slot_ready.sources,
)

pub overflow_add-result : goal.overflow_add-result
overflow_add-result c =
    omega (arith, c.requires.i_lt_most_slots, c.requires.kept_le_i)

pub returns : goal.returns
returns c =
    let ready = c.requires.slot_ready in (
      pair-kept _ _ _ _ _ _ c.name-hash.ensures c.name-key.ensures
          (sought-not _ _ _ c.word-root.ensures c.find_tree_node-found.result c.find_tree_node-found.ensures
          c.in_default.not-At)
          c.get-place.ensures
          (c.grow.ensures ∙ grown-is _ c.requires.names2_len_bound _ _ _ _ _ c.requires.null_bound)
          c.put_word-2.ensures,
      sources_more _ _ _ _ ready.sources ready.many ready.told c.requires.i_lt_most_slots c.put_word-2.ensures
          c.put_word-3.ensures,
    )
