-- One way after the other.
use Rattle.dump.proofs.Telling.{both_ways_lem}
use Rattle.dump.proofs.ways.put_ways.Goals as goal

pub returns : goal.returns
returns c =
    both_ways_lem _ _ _ _ c.put_way-one.ensures c.put_way.ensures
