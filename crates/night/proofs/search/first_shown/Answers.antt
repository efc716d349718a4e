-- Each search in turn says whether a slot shows its rule.
use native.Mathlib.Omega.{arith}
use borrow.Author.Rules.{rules}
use borrow.Author.Tests.{ne_eqb}
use Rattle.slots.specs.Words.{null}
use Rattle.index_rules.specs.Live.{lent_tree}
use Rattle.night_rules.specs.Why.{shows3, shows4, shows5, shows6, shows7, shows8, way_by}
use Rattle.night.specs.Shown.{shows_rule, told_by, first_shown}
use Rattle.night.proofs.Sought.{none_told}
use Rattle.night.proofs.search.first_shown.Goals as goal

pub returns-in-Some : goal.returns-in-Some
unfolding first_shown shows_rule told_by way_by
returns-in-Some c =
    let a = c.args in
    let t = lent_tree a.names.now a.cells.now a.head.now a.sizes.now in
    let three = c.in-Some.ensures.lowest (shows3 t) (λ i l b p. search rules) in
    rw (← three, ne_eqb c.in-Some.three null (omega (arith, c.in-Some.ensures.inside)))
    c.tells_slot.ensures

pub returns-in-Some-lowest : goal.returns-in-Some-lowest
unfolding first_shown shows_rule told_by way_by
returns-in-Some-lowest c =
    let a = c.args in
    let t = lent_tree a.names.now a.cells.now a.head.now a.sizes.now in
    let no_three = none_told c.in_default.is (c.lowest.ensures.lowest (shows3 t) (λ i l b p. search rules)) in
    let four = c.in-Some-lowest.ensures.lowest (shows4 t) (λ i l b p. search rules) in
    rw (no_three, ← four, ne_eqb c.in-Some-lowest.four null (omega (arith, c.in-Some-lowest.ensures.inside)), ← c.next_slot.ensures)
    c.tells_pair.ensures

pub returns-in-Some-lowest-2 : goal.returns-in-Some-lowest-2
unfolding first_shown shows_rule told_by way_by
returns-in-Some-lowest-2 c =
    let a = c.args in
    let t = lent_tree a.names.now a.cells.now a.head.now a.sizes.now in
    let no_three = none_told c.in_default.is (c.lowest.ensures.lowest (shows3 t) (λ i l b p. search rules)) in
    let no_four = none_told c.in_default-lowest.is (c.lowest-2.ensures.lowest (shows4 t) (λ i l b p. search rules)) in
    let five = c.in-Some-lowest-2.ensures.lowest (shows5 t) (λ i l b p. search rules) in
    rw (no_three, no_four, ← five, ne_eqb c.in-Some-lowest-2.five null (omega (arith, c.in-Some-lowest-2.ensures.inside)))
    c.tells_slot-in-Some-lowest-2.ensures

pub returns-in-Some-lowest-3 : goal.returns-in-Some-lowest-3
unfolding first_shown shows_rule told_by way_by
returns-in-Some-lowest-3 c =
    let a = c.args in
    let t = lent_tree a.names.now a.cells.now a.head.now a.sizes.now in
    let no_three = none_told c.in_default.is (c.lowest.ensures.lowest (shows3 t) (λ i l b p. search rules)) in
    let no_four = none_told c.in_default-lowest.is (c.lowest-2.ensures.lowest (shows4 t) (λ i l b p. search rules)) in
    let no_five = none_told c.in_default-lowest-2.is (c.lowest-3.ensures.lowest (shows5 t) (λ i l b p. search rules)) in
    let six = c.in-Some-lowest-3.ensures.lowest (shows6 t) (λ i l b p. search rules) in
    rw (
      no_three,
      no_four,
      no_five,
      ← six,
      ne_eqb c.in-Some-lowest-3.six null (omega (arith, c.in-Some-lowest-3.ensures.inside)),
      ← c.by_left.ensures,
      ← c.by_right.ensures,
    )
    c.tells_ways.ensures

pub returns-in-Some-lowest-4 : goal.returns-in-Some-lowest-4
unfolding first_shown shows_rule told_by way_by
returns-in-Some-lowest-4 c =
    let a = c.args in
    let t = lent_tree a.names.now a.cells.now a.head.now a.sizes.now in
    let no_three = none_told c.in_default.is (c.lowest.ensures.lowest (shows3 t) (λ i l b p. search rules)) in
    let no_four = none_told c.in_default-lowest.is (c.lowest-2.ensures.lowest (shows4 t) (λ i l b p. search rules)) in
    let no_five = none_told c.in_default-lowest-2.is (c.lowest-3.ensures.lowest (shows5 t) (λ i l b p. search rules)) in
    let no_six = none_told c.in_default-lowest-3.is (c.lowest-4.ensures.lowest (shows6 t) (λ i l b p. search rules)) in
    let seven = c.in-Some-lowest-4.ensures.lowest (shows7 t) (λ i l b p. search rules) in
    rw (
      no_three,
      no_four,
      no_five,
      no_six,
      ← seven,
      ne_eqb c.in-Some-lowest-4.seven null (omega (arith, c.in-Some-lowest-4.ensures.inside)),
    )
    c.tells_slot-in-Some-lowest-4.ensures

pub returns-in-Some-lowest-5 : goal.returns-in-Some-lowest-5
unfolding first_shown shows_rule told_by way_by
returns-in-Some-lowest-5 c =
    let a = c.args in
    let t = lent_tree a.names.now a.cells.now a.head.now a.sizes.now in
    let no_three = none_told c.in_default.is (c.lowest.ensures.lowest (shows3 t) (λ i l b p. search rules)) in
    let no_four = none_told c.in_default-lowest.is (c.lowest-2.ensures.lowest (shows4 t) (λ i l b p. search rules)) in
    let no_five = none_told c.in_default-lowest-2.is (c.lowest-3.ensures.lowest (shows5 t) (λ i l b p. search rules)) in
    let no_six = none_told c.in_default-lowest-3.is (c.lowest-4.ensures.lowest (shows6 t) (λ i l b p. search rules)) in
    let no_seven = none_told c.in_default-lowest-4.is (c.lowest-5.ensures.lowest (shows7 t) (λ i l b p. search rules)) in
    let eight = c.in-Some-lowest-5.ensures.lowest (shows8 t) (λ i l b p. search rules) in
    rw (
      no_three,
      no_four,
      no_five,
      no_six,
      no_seven,
      ← eight,
      ne_eqb c.in-Some-lowest-5.eight null (omega (arith, c.in-Some-lowest-5.ensures.inside)),
    )
    c.tells_slot-in-Some-lowest-5.ensures

pub returns : goal.returns
unfolding first_shown shows_rule told_by way_by
returns c =
    let a = c.args in
    let t = lent_tree a.names.now a.cells.now a.head.now a.sizes.now in
    let no_three = none_told c.in_default.is (c.lowest.ensures.lowest (shows3 t) (λ i l b p. search rules)) in
    let no_four = none_told c.in_default-lowest.is (c.lowest-2.ensures.lowest (shows4 t) (λ i l b p. search rules)) in
    let no_five = none_told c.in_default-lowest-2.is (c.lowest-3.ensures.lowest (shows5 t) (λ i l b p. search rules)) in
    let no_six = none_told c.in_default-lowest-3.is (c.lowest-4.ensures.lowest (shows6 t) (λ i l b p. search rules)) in
    let no_seven = none_told c.in_default-lowest-4.is (c.lowest-5.ensures.lowest (shows7 t) (λ i l b p. search rules)) in
    let no_eight = none_told c.in_default-lowest-5.is (c.lowest-6.ensures.lowest (shows8 t) (λ i l b p. search rules)) in
    rw (no_three, no_four, no_five, no_six, no_seven, no_eight)
    c.tells_slot-2.ensures
