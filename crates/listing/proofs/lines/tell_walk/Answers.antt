use mathlib.Core.Path.{◌≡◌, refl, ap, sym, ◌∙◌}
use Prim.Native.Nat.{◌+◌, ◌-◌, ◌/◌}
use native.Mathlib.Omega.{arith}
use lib.ListN.{length}
use Rattle.slots.specs.Coded.{value_of}
use Rattle.set_rules.specs.Words.{lent_set}
use Rattle.set_rules.specs.Cursor.{Cursor, Step}
use Rattle.script_rules.specs.Feeding.{typed, lent_paper}
use Rattle.sets.specs.Cursors.{cursor_of}
use Rattle.listing_rules.specs.Lines.{walk_lines}
use Rattle.listing.proofs.Lining.{walk_turn, walk_ends, walk_over, start_at, entry_told}
use borrow.Author.Rules.{rules}
use Rattle.listing.proofs.lines.tell_walk.Goals as goal

pub loop-told-init : goal.loop-told-init
loop-told-init c =
    let a = c.args in
    let s = lent_set a.lengths.now a.bins.now a.heads.now a.names.now a.cells.now in
    let p = lent_paper a.out.now a.at in
    let n = length a.names.now / 2 in
    let z : n - 0 ≡ n = omega arith in (
      rw z (ap (λ (x : Cursor). typed p (walk_lines n s x))
          (ap cursor_of c.unwrap_or-cursor.ensures ∙ start_at c.start-start.result c.blank.result c.blank.ensures
          ∙ ap (λ (x : Step). x.cursor) c.start-start.ensures)),
      refl,
    )

pub returns-in_default : goal.returns-in_default
returns-in_default c =
    let a = c.args in
    let s = lent_set a.lengths.now a.bins.now a.heads.now a.names.now a.cells.now in
    let l = c.loop-told in
    walk_ends s (lent_paper l.out l.end) (length a.names.now / 2 - l._told) (cursor_of l.cursor) _ c.next-step.ensures
    (entry_told c.next-step.result.answer ∙ ap value_of (sym c.unwrap_or-entry.ensures ∙ c.in_default.is))
    ∙ l.invariant.0

pub loop-told-preserved : goal.loop-told-preserved
loop-told-preserved c =
    let a = c.args in
    let s = lent_set a.lengths.now a.bins.now a.heads.now a.names.now a.cells.now in
    let l = c.loop-told in
    let n = length a.names.now / 2 in
    let z : n - (l._told + 1) ≡ n - l._told - 1 = omega arith in
    let is = entry_told c.next-step.result.answer ∙ ap value_of (sym c.unwrap_or-entry.ensures ∙ c.in-Some.is) in (
      rw z (walk_turn s (lent_paper l.out l.end) (n - l._told) (cursor_of l.cursor) _ c.next-step.ensures
          (omega (arith, c.loop-told-test.true))
          is (c.tell_slot-end.ensures a.heads.now)
          ∙ l.invariant.0),
      search rules,
    )

pub returns : goal.returns
returns c =
    let a = c.args in
    let s = lent_set a.lengths.now a.bins.now a.heads.now a.names.now a.cells.now in
    let l = c.loop-told in
    walk_over s (lent_paper l.out l.end) (length a.names.now / 2 - l._told) (cursor_of l.cursor)
    (omega (arith, c.loop-told-test.false)) ∙ l.invariant.0
