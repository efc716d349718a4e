-- The state decides: free, unknown, or a pair that is sought.
use Rattle.night.proofs.Saving.{sources_stay, slot_free, slot_unknown, slot_pair}
use Rattle.night.proofs.salvage.save_slot.Goals as goal

pub returns-then-state-eq-FREE : goal.returns-then-state-eq-FREE
returns-then-state-eq-FREE c = (
  slot_free _ _ _ _ _ _ c.get-state.ensures c.if-state-eq-FREE.true c.put_word.ensures,
  sources_stay _ _ _ _ _ c.put_word.ensures
      c.requires.slot_ready.sources,
)

pub returns-then-state-gt-RED : goal.returns-then-state-gt-RED
returns-then-state-gt-RED c = (
  slot_unknown _ _ _ _ _ _ c.get-state.ensures c.if-state-eq-FREE.false c.if-state-gt-RED.true c.put_word-then-state-gt-RED.ensures,
  sources_stay _ _ _ _ _ c.put_word-then-state-gt-RED.ensures c.requires.slot_ready.sources,
)

pub save_pair-requires : goal.save_pair-requires
save_pair-requires c =
    c.requires

pub returns : goal.returns
returns c =
    let e = c.save_pair.ensures in
    (slot_pair _ _ _ _ _ _ c.get-state.ensures c.if-state-eq-FREE.false c.if-state-gt-RED.false e.0, e.1)
