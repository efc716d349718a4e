-- What is noted stays; whole words, whole slots, or else one byte.
-- Parts: what is noted stays; whole words may be read, and the step that they make; whole slots may be read, and the step that they make;
-- one byte; all in one law.
use mathlib.Core.Path.{refl}
use mathlib.Core.List.{List}
use Prim.Native.Nat.{ℕ, ◌*◌, ◌/◌}
use native.Mathlib.Omega.{arith}
use Rattle.set_rules.specs.Words.{lent_set}
use Rattle.file.specs.Runs.{slots_names, slots_cells}
use Rattle.file.specs.Meanings.{loader_words}
use Rattle.file.proofs.Ranging.{fit_small}
use Rattle.file.proofs.Running.{all_bytes, tail_back}
use Rattle.file.proofs.Stepping.{note_open, note_said, step_said, step_byte}
use Rattle.file.proofs.Stepping.{words_behind, words_room, words_least, step_words, slots-behind}
use Rattle.file.proofs.Stepping.{slots_least, slots_within, step_slots}
use Rattle.file.proofs.runs.step.Goals as goal

pub returns-then-is_some : goal.returns-then-is_some
returns-then-is_some c =
    let a = c.args in
    let s = lent_set a.lengths.now a.bins.now a.heads.now a.names.now a.cells.now in
    let b = all_bytes a.rest.now (λ i. omega (arith, c.type_inv.rest i)) in
    step_said (loader_words a.r) s a.rest.now c.requires.0 b (note_said _ c.is_some.ensures c.if-is_some.true).1 c.requires.1

pub section_words-end-requires : goal.section_words-end-requires
section_words-end-requires c =
    let small = fit_small (loader_words c.args.r) c.requires.0.fit c.args.r.section in omega (arith, c.count_of-count.ensures)

pub overflow_sub-come : goal.overflow_sub-come
overflow_sub-come c =
    omega (arith, (c.words_ready-words.ensures c.if-words.true).counted)

pub read_section-n-requires : goal.read_section-n-requires
read_section-n-requires c =
    let a = c.args in
    let s = lent_set a.lengths.now a.bins.now a.heads.now a.names.now a.cells.now in
    let b = all_bytes a.rest.now (λ i. omega (arith, c.type_inv.rest i)) in
    let u = note_open _ c.is_some.ensures c.if-is_some.false in
    let ready = c.words_ready-words.ensures c.if-words.true in (
      ready.section,
      omega (
        arith,
        words_behind (loader_words a.r) s a.rest.now c.requires.0 b u
            (c.words_ready-words.ensures c.if-words.true) c.count_of-count.ensures c.section_words-end.ensures.0,
      ),
      words_room
          (loader_words a.r) s a.rest.now c.requires.0 b u (c.words_ready-words.ensures c.if-words.true) c.count_of-count.ensures
          c.section_words-end.ensures.0,
    )

pub after_words-loader-requires : goal.after_words-loader-requires
after_words-loader-requires c =
    let a = c.args in
    let s = lent_set a.lengths.now a.bins.now a.heads.now a.names.now a.cells.now in
    let b = all_bytes a.rest.now (λ i. omega (arith, c.type_inv.rest i)) in
    let u = note_open _ c.is_some.ensures c.if-is_some.false in
    let ready = c.words_ready-words.ensures c.if-words.true in
    let few = words_least (loader_words a.r) s a.rest.now c.requires.0 b u (c.words_ready-words.ensures c.if-words.true)
    c.count_of-count.ensures c.section_words-end.ensures.0 c.read_section-n.ensures.0 in (
      omega (arith, ready.section),
      omega (arith, few.2, ready.counted, c.section_words-end.ensures.1),
      fit_small (loader_words a.r) c.requires.0.fit a.r.section,
    )

pub returns-then-words : goal.returns-then-words
returns-then-words c =
    let a = c.args in
    let s = lent_set a.lengths.now a.bins.now a.heads.now a.names.now a.cells.now in
    let b = all_bytes a.rest.now (λ i. omega (arith, c.type_inv.rest i)) in
    let u = note_open _ c.is_some.ensures c.if-is_some.false in
    step_words (loader_words a.r) s a.rest.now c.requires.0 b u (c.words_ready-words.ensures c.if-words.true)
    c.count_of-count.ensures c.section_words-end.ensures.0 c.read_section-n.ensures.0
    (c.read_section-n.ensures.1 a.names.now a.cells.now) c.after_words-loader.ensures

pub overflow_sub-r : goal.overflow_sub-r
overflow_sub-r c =
    let a = c.args in
    let s = lent_set a.lengths.now a.bins.now a.heads.now a.names.now a.cells.now in
    let b = all_bytes a.rest.now (λ i. omega (arith, c.type_inv.rest i)) in
    let u = note_open _ c.is_some.ensures c.if-is_some.false in
    let behind = slots-behind (loader_words a.r) s a.rest.now c.requires.0 b u (c.slots_ready-slots.ensures c.if-slots.true) in
    let small = fit_small (loader_words a.r) c.requires.0.fit 3 in
    omega arith

pub slice_bounds-read_slots-count : goal.slice_bounds-read_slots-count
slice_bounds-read_slots-count c =
    let a = c.args in
    let s = lent_set a.lengths.now a.bins.now a.heads.now a.names.now a.cells.now in
    let b = all_bytes a.rest.now (λ i. omega (arith, c.type_inv.rest i)) in
    let u = note_open _ c.is_some.ensures c.if-is_some.false in
    let room = slots_within (loader_words a.r) s a.rest.now c.requires.0 b u (c.slots_ready-slots.ensures c.if-slots.true) in
    omega (arith, room.0)

pub slice_bounds-read_slots-start : goal.slice_bounds-read_slots-start
slice_bounds-read_slots-start c =
    let a = c.args in
    let s = lent_set a.lengths.now a.bins.now a.heads.now a.names.now a.cells.now in
    let b = all_bytes a.rest.now (λ i. omega (arith, c.type_inv.rest i)) in
    let u = note_open _ c.is_some.ensures c.if-is_some.false in
    let room = slots_within (loader_words a.r) s a.rest.now c.requires.0 b u (c.slots_ready-slots.ensures c.if-slots.true) in
    omega (arith, room.0)

pub slice_bounds-read_slots-count-then-slots : goal.slice_bounds-read_slots-count-then-slots
slice_bounds-read_slots-count-then-slots c =
    let a = c.args in
    let s = lent_set a.lengths.now a.bins.now a.heads.now a.names.now a.cells.now in
    let b = all_bytes a.rest.now (λ i. omega (arith, c.type_inv.rest i)) in
    let u = note_open _ c.is_some.ensures c.if-is_some.false in
    let room = slots_within (loader_words a.r) s a.rest.now c.requires.0 b u (c.slots_ready-slots.ensures c.if-slots.true) in
    omega (arith, room.1)

pub slice_bounds-read_slots-start-then-slots : goal.slice_bounds-read_slots-start-then-slots
slice_bounds-read_slots-start-then-slots c =
    let a = c.args in
    let s = lent_set a.lengths.now a.bins.now a.heads.now a.names.now a.cells.now in
    let b = all_bytes a.rest.now (λ i. omega (arith, c.type_inv.rest i)) in
    let u = note_open _ c.is_some.ensures c.if-is_some.false in
    let room = slots_within (loader_words a.r) s a.rest.now c.requires.0 b u (c.slots_ready-slots.ensures c.if-slots.true) in
    omega (arith, room.1)

pub read_slots-requires : goal.read_slots-requires
read_slots-requires c =
    let a = c.args in
    let s = lent_set a.lengths.now a.bins.now a.heads.now a.names.now a.cells.now in
    let b = all_bytes a.rest.now (λ i. omega (arith, c.type_inv.rest i)) in
    let u = note_open _ c.is_some.ensures c.if-is_some.false in
    let few = slots_least (loader_words a.r) s a.rest.now c.requires.0 b u (c.slots_ready-slots.ensures c.if-slots.true)
    c.min-n.ensures in
    let small = fit_small (loader_words a.r) c.requires.0.fit 3 in
    (omega (arith, few.2), few.1)

pub overflow_mul-n : goal.overflow_mul-n
overflow_mul-n c =
    let a = c.args in
    let s = lent_set a.lengths.now a.bins.now a.heads.now a.names.now a.cells.now in
    let b = all_bytes a.rest.now (λ i. omega (arith, c.type_inv.rest i)) in
    let u = note_open _ c.is_some.ensures c.if-is_some.false in
    let few = slots_least (loader_words a.r) s a.rest.now c.requires.0 b u (c.slots_ready-slots.ensures c.if-slots.true)
    c.min-n.ensures in
    let small = fit_small (loader_words a.r) c.requires.0.fit 3 in
    omega (arith, few.2)

pub overflow_add-come-then-slots : goal.overflow_add-come-then-slots
overflow_add-come-then-slots c =
    let a = c.args in
    let s = lent_set a.lengths.now a.bins.now a.heads.now a.names.now a.cells.now in
    let b = all_bytes a.rest.now (λ i. omega (arith, c.type_inv.rest i)) in
    let u = note_open _ c.is_some.ensures c.if-is_some.false in
    let few = slots_least (loader_words a.r) s a.rest.now c.requires.0 b u (c.slots_ready-slots.ensures c.if-slots.true)
    c.min-n.ensures in
    let small = fit_small (loader_words a.r) c.requires.0.fit 3 in
    omega (arith, few.2)

pub after_words-loader-requires-then-slots : goal.after_words-loader-requires-then-slots
after_words-loader-requires-then-slots c =
    let a = c.args in
    let s = lent_set a.lengths.now a.bins.now a.heads.now a.names.now a.cells.now in
    let b = all_bytes a.rest.now (λ i. omega (arith, c.type_inv.rest i)) in
    let u = note_open _ c.is_some.ensures c.if-is_some.false in
    let few = slots_least (loader_words a.r) s a.rest.now c.requires.0 b u (c.slots_ready-slots.ensures c.if-slots.true)
    c.min-n.ensures in
    let small = fit_small (loader_words a.r) c.requires.0.fit 3 in
    let ready = c.slots_ready-slots.ensures c.if-slots.true in
    (omega (arith, ready.section), omega (arith, few.2, ready.between), fit_small (loader_words a.r) c.requires.0.fit a.r.section)

pub overflow_mul-result-then-slots : goal.overflow_mul-result-then-slots
overflow_mul-result-then-slots c =
    let a = c.args in
    let s = lent_set a.lengths.now a.bins.now a.heads.now a.names.now a.cells.now in
    let b = all_bytes a.rest.now (λ i. omega (arith, c.type_inv.rest i)) in
    let u = note_open _ c.is_some.ensures c.if-is_some.false in
    let few = slots_least (loader_words a.r) s a.rest.now c.requires.0 b u (c.slots_ready-slots.ensures c.if-slots.true)
    c.min-n.ensures in
    let small = fit_small (loader_words a.r) c.requires.0.fit 3 in
    omega (arith, few.2)

pub returns-then-slots : goal.returns-then-slots
returns-then-slots c =
    let a = c.args in
    let s = lent_set a.lengths.now a.bins.now a.heads.now a.names.now a.cells.now in
    let b = all_bytes a.rest.now (λ i. omega (arith, c.type_inv.rest i)) in
    let u = note_open _ c.is_some.ensures c.if-is_some.false in
    let n = c.min-n.result in
    let from = a.r.at / 72 in
    step_slots (loader_words a.r) s a.rest.now c.requires.0 b u (c.slots_ready-slots.ensures c.if-slots.true) c.min-n.ensures
    (tail_back a.names.now (2 * from) (λ (l : List ℕ). slots_names l 0 a.rest.now n) c.read_slots.ensures.0)
    (tail_back a.cells.now (7 * from) (λ (l : List ℕ). slots_cells l 0 a.rest.now n) c.read_slots.ensures.1)
    c.after_words-loader-then-slots.ensures

pub take_byte-loader-requires : goal.take_byte-loader-requires
take_byte-loader-requires c =
    c.requires.0.fit

pub returns : goal.returns
returns c =
    let a = c.args in
    let s = lent_set a.lengths.now a.bins.now a.heads.now a.names.now a.cells.now in
    let b = all_bytes a.rest.now (λ i. omega (arith, c.type_inv.rest i)) in
    let u = note_open _ c.is_some.ensures c.if-is_some.false in
    step_byte (loader_words a.r) s a.rest.now c.requires.0 b u c.requires.1 refl c.take_byte-loader.ensures
