-- The parts are written one after another.
use Rattle.dump.proofs.Telling.{way_whole}
use Rattle.dump.proofs.ways.put_way.Goals as goal

pub returns : goal.returns
returns c =
    way_whole _ _ _ _ _ c.fill-named.ensures c.put_down-above.ensures c.get-link.ensures c.put_onward-below.ensures c.put_word.ensures
