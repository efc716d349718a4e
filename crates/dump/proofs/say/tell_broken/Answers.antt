-- The parts are written one after another.
use Rattle.script_rules.specs.Feeding.{lent_paper}
use Rattle.night.specs.Told.{account_of}
use Rattle.night.specs.Breaches.{breach_of}
use Rattle.dump.proofs.Telling.{broken_ways, broken_plain}
use Rattle.dump.proofs.say.tell_broken.Goals as goal

pub returns-then-told-eq6 : goal.returns-then-told-eq6
returns-then-told-eq6 c =
    let a = c.args in
    broken_ways (lent_paper a.out.now a.at) a.n a.cells.now (account_of a.told) (breach_of a.breach)
    c.open_line-opened.ensures c.say-said.ensures c.if-told-eq6.true c.put_ways.ensures

pub returns : goal.returns
returns c =
    let a = c.args in
    broken_plain (lent_paper a.out.now a.at) a.n a.cells.now (account_of a.told) (breach_of a.breach)
    c.open_line-opened.ensures c.say-said.ensures c.if-told-eq6.false
