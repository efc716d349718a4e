-- Each way out is a law of the walk with as much fuel as visits; the visits fall with each call.
use mathlib.Core.Path.{sym}
use Prim.Native.Nat.{◌-◌}
use native.Mathlib.Omega.{arith}
use Rattle.std.proofs.Common.{rules}
use Rattle.tree_rules.proofs.Walking.{walked_within}
use Rattle.tree.proofs.Visiting.{absent, outside, spent, loose, fails, left_stops, both}
use Rattle.tree.proofs.check.+visit.Goals as goal

pub returns-then-i-eq-NULL : goal.returns-then-i-eq-NULL
returns-then-i-eq-NULL t c = search (rules, absent)

pub returns-then-slots-i : goal.returns-then-slots-i
returns-then-slots-i t c = search (rules, outside)

pub returns-then-visits-eq0 : goal.returns-then-visits-eq0
returns-then-visits-eq0 t c = search (rules, spent)

pub returns-then-not-named : goal.returns-then-not-named
returns-then-not-named t c = search (rules, loose)

pub returns-in-Some : goal.returns-in-Some
returns-in-Some t c = search (rules, fails)

pub returns-in_err-rest : goal.returns-in_err-rest
returns-in_err-rest t c = search (rules, left_stops)

pub visit-requires-2 : goal.visit-requires-2
visit-requires-2 t c =
    let a = c.args in
    omega (
      arith,
      walked_within a.names.now a.cells.now (a.visits - 1) c.get-l.result (a.visits - 1) c.in_ok-rest.rest (omega arith)
          (sym c.in_ok-rest.ensures),
      c.decreases,
      c.if-visits-eq0.false,
    )

pub returns : goal.returns
returns t c = search (rules, both)
