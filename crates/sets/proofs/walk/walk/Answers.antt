-- The last slot's next decides; where there is none, what the loop over the bins comes to is handed on.
use mathlib.Core.Path.{sym, ap, ◌∙◌}
use Rattle.set_rules.specs.Words.{Set}
use Rattle.sets.specs.Cursors.{sought_of, cursor_of}
use Rattle.sets.proofs.Walking.{link_stray, link_next, from_bins, lost_told}
use Rattle.std.specs.Prelude.{Option, Result, Ok, ℕ}
use Rattle.sets.specs.declared.walk.Lost.{Lost}
use Rattle.sets.proofs.walk.walk.Goals as goal

pub returns-then-names-link : goal.returns-then-names-link
returns-then-names-link c =
    let a = c.args in
    let s : Set =
    record { lengths = a.lengths.now; bins = a.bins.now; heads = a.heads.now; names = a.names.now; cells = a.cells.now } in
    link_stray s (cursor_of a.cursor) c.get-link.ensures c.if-link.true c.if-names-link.true

pub returns-then-link : goal.returns-then-link
returns-then-link c =
    let a = c.args in
    let s : Set =
    record { lengths = a.lengths.now; bins = a.bins.now; heads = a.heads.now; names = a.names.now; cells = a.cells.now } in
    link_next s (cursor_of a.cursor) c.get-link.ensures c.trim-kept.ensures c.if-link.true c.if-names-link.false

pub seek-requires : goal.seek-requires
seek-requires c =
    let a = c.args in
    let s : Set =
    record { lengths = a.lengths.now; bins = a.bins.now; heads = a.heads.now; names = a.names.now; cells = a.cells.now } in
    let pre = c.requires in
    rw c.trim-indexes.ensures pre

pub returns-in-Some : goal.returns-in-Some
returns-in-Some c =
    let a = c.args in
    let s : Set =
    record { lengths = a.lengths.now; bins = a.bins.now; heads = a.heads.now; names = a.names.now; cells = a.cells.now } in
    from_bins
    s
    (cursor_of a.cursor)
    c.get-link.ensures
    c.trim-indexes.ensures
    c.if-link.false
    (ap (λ (o : Result (Option (ℕ × ℕ)) Lost). sought_of o c.seek.new.indexes)
    (sym (c.in_ok-sought.was ∙ ap (λ (o : Option (ℕ × ℕ)). Ok o) c.in-Some.is))
    ∙ c.seek.ensures)

pub returns-in-None : goal.returns-in-None
returns-in-None c =
    let a = c.args in
    let s : Set =
    record { lengths = a.lengths.now; bins = a.bins.now; heads = a.heads.now; names = a.names.now; cells = a.cells.now } in
    rw c.length_at-length.ensures
    (from_bins
    s
    (cursor_of a.cursor)
    c.get-link.ensures
    c.trim-indexes.ensures
    c.if-link.false
    (ap (λ (o : Result (Option (ℕ × ℕ)) Lost). sought_of o c.seek.new.indexes)
    (sym (c.in_ok-sought.was ∙ ap (λ (o : Option (ℕ × ℕ)). Ok o) c.in-None.is))
    ∙ c.seek.ensures))

pub returns-in_err-sought : goal.returns-in_err-sought
returns-in_err-sought c =
    let a = c.args in
    let s : Set =
    record { lengths = a.lengths.now; bins = a.bins.now; heads = a.heads.now; names = a.names.now; cells = a.cells.now } in
    lost_told s (cursor_of a.cursor) c.from_residual.result c.from_residual.ensures.0 c.from_residual.ensures.1
    ∙ from_bins
    s
    (cursor_of a.cursor)
    c.get-link.ensures
    c.trim-indexes.ensures
    c.if-link.false
    c.in_err-sought.ensures
