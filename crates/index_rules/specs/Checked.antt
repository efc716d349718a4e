-- The calls once the full check has said yes: without that check, and with the lowest free slot looked for from a floor on, below which no
-- slot is free. They take any words; on a sound tree they come to what the calls come to.
use Rattle.std.specs.Prelude.{◌≢◌, List, ℕ, zero, suc, ◌+◌, ◌-◌, ◌<◌, set, eqb, leb, ltb}
use Rattle.slots.specs.Words.{null, pick, state, free, cell, most_slots}
use Rattle.slots.specs.Answers.{Answer, Value, some, none, given, refused}
use Rattle.tree_rules.specs.Find.{slots_of}
use Rattle.index_rules.specs.Live.{Live, count_of}
use Rattle.index_rules.specs.Sound.{Sound, sound}
use Rattle.index_rules.specs.Index.{Index, index, FitIndex, Outcome, outcome, fits_index, length_of, lines_of, JournalLine, insert_kind}
use Rattle.index_rules.specs.Index.{plain_line, line_of, appended}
use Rattle.index_rules.specs.Insert.{free_from, sought_in, grown}
use Rattle.index_rules.specs.Remove.{after_remove}
use Rattle.index_rules.specs.Replace.{after_replace}
use Rattle.index_rules.specs.Calls.{Call, insert_call, remove_call, replace_call, rollback_call}
use Rattle.index_rules.specs.Rollback.{Undo, stays, misfit, undone_into, blanked}

-- No slot below f is free.
abbrev pub NoneBelow : ℕ → Live → Type 0
NoneBelow f t = (k : ℕ) → k < f → cell t.cells k state ≢ free

-- The check would say yes.
pub record Passes (ix : Index) : Type 0 where
  pub fit : FitIndex ix
  pub sound : Sound ix.live

-- The full check of a tree with its journal: 1 where the two are unfit, else yes, which is 1, or no, which is 0.
unfoldable pub sounds_index : Index → Answer
sounds_index ix = pick (fits_index ix) (pick (sound ix.live) (given 1) (given 0)) (refused 1)

-- The check would say yes, and no slot below the floor is free: what holds before and after each call that is made without the check.
pub record Ready (ix : Index) (floor : ℕ) : Type 0 where
  pub passes : Passes ix
  pub none : NoneBelow floor ix.live

abbrev pub lesser : ℕ → ℕ → ℕ
lesser a b = pick (ltb a b) a b

-- The lowest free slot from f on, null where there is none.
unfoldable pub lowest_from : ℕ → Live → ℕ
lowest_from f t = free_from (slots_of t.names - f) t.cells f

-- The slot of a value, null where there is none.
abbrev pub slot_in : Value → ℕ
slot_in (some x) = x
slot_in none = null

-- The floor after a call, by its answer: the slot that an insert took, null where it found none; a removed slot, where it is lower.
unfoldable pub raised_by : Answer → ℕ → ℕ
raised_by a f = pick (eqb a.number 0) (slot_in a.value) (pick (eqb a.number 5) null f)

unfoldable pub lowered_by : Answer → ℕ → ℕ
lowered_by a f = pick (eqb a.number 0) (lesser (slot_in a.value) f) f

abbrev pub floor_after : Call → Answer → ℕ → ℕ
floor_after (insert_call hash key p) a f = raised_by a f
floor_after (remove_call hash key) a f = lowered_by a f
floor_after (replace_call hash key p) a f = f
floor_after (rollback_call m) a f = 0

-- What each of them asks first: 1 as ever, and of 2 only that the count passes no capacity, so that it can be counted up.
unfoldable pub on_checked : Index → Outcome → Outcome
on_checked ix o = pick (fits_index ix) (pick (leb (count_of ix.live) most_slots) o (outcome (refused 2) ix)) (outcome (refused 1) ix)

unfoldable pub inserts_sound : ℕ → Index → ℕ → ℕ → ℕ → Outcome
inserts_sound f ix hash key p =
    let t = ix.live in
    let x = lowest_from f t in
    on_checked ix
    (elim (sought_in t hash key) [
      | some slot ↦ outcome (record { number = 3; value = some slot }) ix
      | none ↦ pick (eqb x null) (outcome (refused 5) ix)
          (pick (eqb (length_of ix.lines) (lines_of ix.lines)) (outcome (refused 6) ix)
          (outcome (given x) (index (grown t x null hash key p) (appended ix.lines (plain_line insert_kind hash key p)))))
    ])

-- What remove and replace ask alike.
unfoldable pub present_sound : Index → ℕ → ℕ → (ℕ → Index) → Outcome
present_sound ix hash key leaving =
    on_checked ix
    (elim (sought_in ix.live hash key) [
      | none ↦ outcome (refused 4) ix
      | some x ↦ pick (eqb (length_of ix.lines) (lines_of ix.lines)) (outcome (refused 6) ix) (outcome (given x) (leaving x))
    ])

unfoldable pub removes_sound : Index → ℕ → ℕ → Outcome
removes_sound ix hash key = present_sound ix hash key (after_remove ix hash key)

unfoldable pub replaces_sound : Index → ℕ → ℕ → ℕ → Outcome
replaces_sound ix hash key p = present_sound ix hash key (after_replace ix hash key p)

-- The slot that undoing a line frees, null where it frees none.
unfoldable pub freed_by : Live → JournalLine → ℕ
freed_by t j = pick (eqb j.kind insert_kind) (slot_in (sought_in t j.hash j.key)) null

-- So many lines above m undone, from the last down: the next search for a free slot goes on where the last one ended, or at a lower slot
-- that was freed since.
unfoldable pub unrolled_from : ℕ → ℕ → Live → List ℕ → ℕ → Undo
unrolled_from zero f t lines m = stays t
unrolled_from (suc c) f t lines m =
    elim (undone_into (lowest_from f t) t (line_of lines (m + c))) [
      | stays u ↦ unrolled_from c (lesser (freed_by t (line_of lines (m + c))) (lowest_from f t)) u lines m
      | misfit ↦ misfit
    ]

unfoldable pub rolls_sound : Index → ℕ → Outcome
rolls_sound ix m =
    let c = length_of ix.lines - m in
    on_checked ix
    (pick (ltb (length_of ix.lines) m) (outcome (refused 7) ix)
    (elim (unrolled_from c 0 ix.live ix.lines m) [
      | stays t ↦ outcome (given c) (index t (set (blanked c ix.lines m) 0 m))
      | misfit ↦ outcome (refused 8) ix
    ]))
