-- Each section by its slices.
use Rattle.set_rules.specs.Words.{lent_set}
use Rattle.file.proofs.Tables.{holds_tables, holds_bins, holds_heads, holds_not, holds_slots}
use Rattle.file.proofs.room.can_hold.Goals as goal

pub returns-then-s-eq0 : goal.returns-then-s-eq0
returns-then-s-eq0 c =
    let a = c.args in
    let s = lent_set a.lengths.now a.bins.now a.heads.now a.names.now a.cells.now in
    holds_tables s _ _ c.if-s-eq0.true c.has.ensures

pub returns-then-s-eq1 : goal.returns-then-s-eq1
returns-then-s-eq1 c =
    let a = c.args in
    let s = lent_set a.lengths.now a.bins.now a.heads.now a.names.now a.cells.now in
    holds_bins s _ _ c.if-s-eq1.true c.has-then-s-eq1.ensures

pub returns-then-s-eq2 : goal.returns-then-s-eq2
returns-then-s-eq2 c =
    let a = c.args in
    let s = lent_set a.lengths.now a.bins.now a.heads.now a.names.now a.cells.now in
    holds_heads s _ _ c.if-s-eq2.true c.has-then-s-eq2.ensures

pub returns-then-not-named : goal.returns-then-not-named
returns-then-not-named c =
    let a = c.args in
    let s = lent_set a.lengths.now a.bins.now a.heads.now a.names.now a.cells.now in
    holds_not s _ _ c.if-s-eq0.false c.if-s-eq1.false c.if-s-eq2.false
    c.has-named.ensures c.if-not-named.true

pub returns : goal.returns
returns c =
    let a = c.args in
    let s = lent_set a.lengths.now a.bins.now a.heads.now a.names.now a.cells.now in
    holds_slots s _ _ c.if-s-eq0.false c.if-s-eq1.false c.if-s-eq2.false
    c.has-named.ensures c.if-not-named.false c.has-2.ensures
