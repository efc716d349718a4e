use mathlib.Core.Path.{◌≡◌}
use mathlib.Core.Bool.{true}
use Prim.Native.Nat.{ℕ}
use native.Mathlib.Omega.{arith}
use Rattle.set_rules.specs.Words.{lent_set}
use Rattle.file_rules.specs.Layout.{can_hold}
use Rattle.file_rules.specs.Loader.{count_taken}
use Rattle.file.specs.Meanings.{loader_words}
use Rattle.file.proofs.Ranging.{one_more_lem, fit_small, no_room, room_so, all_room}
use Rattle.file.proofs.room.has_room.Goals as goal

pub loop-s-init : goal.loop-s-init
loop-s-init c = λ k l. absurd (omega arith)

pub can_hold-holds-requires : goal.can_hold-holds-requires
can_hold-holds-requires c =
    let small = fit_small (loader_words c.args.r) c.requires c.loop-s.s in omega (arith, c.count_of-count.ensures)

pub returns-then-not-holds : goal.returns-then-not-holds
returns-then-not-holds c =
    let a = c.args in
    let s = lent_set a.lengths.now a.bins.now a.heads.now a.names.now a.cells.now in
    no_room (loader_words c.args.r) s _ c.loop-s-test.true c.count_of-count.ensures c.can_hold-holds.ensures
    c.if-not-holds.true

pub loop-s-preserved : goal.loop-s-preserved
loop-s-preserved c =
    let a = c.args in
    let s = lent_set a.lengths.now a.bins.now a.heads.now a.names.now a.cells.now in
    one_more_lem
    (λ (k : ℕ). can_hold s k
    (count_taken (loader_words c.args.r) k) ≡ true)
    _ c.loop-s.invariant
    (room_so (loader_words c.args.r) s _ c.count_of-count.ensures c.can_hold-holds.ensures
    c.if-not-holds.false)

pub returns : goal.returns
returns c =
    let a = c.args in
    let s = lent_set a.lengths.now a.bins.now a.heads.now a.names.now a.cells.now in
    all_room (loader_words c.args.r) s _ c.loop-s-test.false c.loop-s.invariant
