-- What bytes and words leave on a lent buffer, one after another, on plain values.
use mathlib.Core.Path.{◌≡◌, refl, ap, sym, ◌∙◌}
use mathlib.Core.Logic.{◌≢◌}
use mathlib.Core.List.{List, [], ◌∷◌}
use Prim.Native.Nat.{ℕ, zero, suc, ◌+◌, ◌-◌, ◌*◌, ◌/◌, ◌%◌, ◌<◌, ◌≤◌}
use native.Mathlib.Numerals.{add-one}
use native.Mathlib.Omega.{arith}
use lib.ListN.{length, take, drop, get_or, replicate, length-replicate}
use lib.Seq.{drop-cons}
use Rattle.std.specs.Prelude.{Result, Ok, Err, map}
use Rattle.std.specs.Result.{result_unwrap_or}
use Rattle.night.specs.Salvages.{salvage_of}
use Rattle.slots.specs.declared.answer.Unfit.{Unfit}
use Rattle.std.proofs.lemmas.List.{map-id}
use borrow.Author.Tests.{eq-eqb, ne_eqb, lt-ltb, le-ltb}
use Rattle.slots.specs.Words.{null, state, cell, most_slots, most_lines}
use Rattle.endian.specs.Bytes.{little, words_bytes}
use Rattle.script_rules.specs.Feeding.{Paper, typed_one, typed}
use Rattle.tree_rules.specs.Chain.{tally}
use Rattle.index_rules.specs.Sound.{used}
use Rattle.index_rules.specs.Index.{Index, index, lent, line_words}
use Rattle.index_rules.specs.Fresh.{freshes}
use Rattle.night_rules.specs.Salvage.{Salvaged, salvages}
use Rattle.script_rules.specs.Blanks.{says}
use Rattle.dump_rules.specs.Dump.{body_bytes, dump_bytes, Measure, whole, stub, slots_out, lines_out, short, long, measured, loaded_as}
use Rattle.dump_rules.specs.Dump.{loaded}
use Rattle.dump_rules.specs.Sentence.{measure_text, why_text}
use Rattle.dump_rules.specs.Rescue.{saved_into, loss_text, loss_texts, kept_of, rescue_text, saved_bytes, saved_text}
use Rattle.dump_rules.specs.Rescue.{loaded_bytes, loaded_text, zeros, measure_bytes, measure_words, rescue_bytes, rescue_words, papers}
use Rattle.dump_rules.specs.Rescue.{rescues}
use Rattle.dump.specs.Measures.{no_dump_of}
use Rattle.dump.specs.declared.measure.NoDump.{NoDump as NoDumpCode}
use Rattle.dump.specs.declared.measure.NoDump.TheVariants.{Stub, SlotsOut, LinesOut, Short, Long}
use Rattle.dump.proofs.Telling.{then, nothing-more, loaded_fronts}

-- A number's bytes: the lowest, and then those of the rest.
pub little_turn : (p : Paper) (x k rest : ℕ) {q : Paper} → k ≡ rest + 1 → q ≡ typed_one p (x % 256)
    → typed q (little rest (x / 256)) ≡ typed p (little k x)
unfolding little typed
little_turn p x k rest h e = rw (h, add-one, e)

pub little-over : (p : Paper) (x k : ℕ) → k ≤ 0 → typed p (little k x) ≡ p
unfolding little typed
little-over p x zero h = refl
little-over p x (suc k) h = absurd (omega arith)

-- Words of k bytes each: the word at a place, and then those behind it.
module _ {W : Type 0} (number : W → ℕ) (k : ℕ) (words : List W) (p : Paper) (i : ℕ) where
  pub words_turn : {x : W} {q : Paper} → i < length words → x ≡ get_or words i x → q ≡ typed p (little k (number x))
      → typed q (words_bytes k (map number (drop (i + 1) words))) ≡ typed p (words_bytes k (map number (drop i words)))
  unfolding words_bytes
  words_turn {x} h at e = rw (add-one i, drop-cons words i x h, ← at) (then p _ _ e refl)

  pub words_over : length words ≤ i → typed p (words_bytes k (map number (drop i words))) ≡ p
  unfolding words_bytes
  words_over h = go words i h
    where
      go : (l : List W) (j : ℕ) → length l ≤ j → typed p (words_bytes k (map number (drop j l))) ≡ p
      go [] zero h = sym (nothing-more p)
      go [] (suc j) h = sym (nothing-more p)
      go (x ∷ l) zero h = absurd (omega arith)
      go (x ∷ l) (suc j) h = go l j (omega arith)

-- The line of a slot: its state is unknown, it repeats another, or there is none.
module _ (cells report : List ℕ) (i : ℕ) {w : ℕ} (is : w ≡ get_or report i null) where
  pub loss_unknown : {s : ℕ} → w ≡ 2 → s ≡ cell cells i state → says "slot #: unknown state #\n" (i ∷ (s ∷ [])) ≡ loss_text cells report i
  unfolding loss_text
  loss_unknown h e = rw (← is, eq-eqb w 2 h, e)

  pub loss_repeats : w ≢ 2 → 2 < w → says "slot #: repeats slot #\n" (i ∷ ((w - 3) ∷ [])) ≡ loss_text cells report i
  unfolding loss_text
  loss_repeats d h = rw (← is, ne_eqb w 2 d, lt-ltb 2 w h)

  pub loss_none : w ≢ 2 → w ≤ 2 → [] ≡ loss_text cells report i
  unfolding loss_text
  loss_none d h = rw (← is, ne_eqb w 2 d, le-ltb 2 w h)

-- Slot by slot.
module _ (cells report : List ℕ) (p : Paper) (n i : ℕ) where
  pub losses_turn : {q : Paper} → i < n → q ≡ typed p (loss_text cells report i)
      → typed q (loss_texts (n - (i + 1)) cells report (i + 1)) ≡ typed p (loss_texts (n - i) cells report i)
  unfolding loss_texts
  losses_turn h e =
      let one : n - i ≡ suc (n - (i + 1)) = omega arith in
      rw (one, add-one i) (then p _ _ e refl)

  pub losses_over : n ≤ i → typed p (loss_texts (n - i) cells report i) ≡ p
  unfolding loss_texts
  losses_over h = let none : n - i ≡ 0 = omega arith in rw none (sym (nothing-more p))

-- A number that is a word's own.
own : (p : Paper) (k : ℕ) (l : List ℕ) {q : Paper} → q ≡ typed p (words_bytes k (map (λ x. x) l)) → q ≡ typed p (words_bytes k l)
own p k l e = e ∙ ap (λ m. typed p (words_bytes k m)) (map-id l)

-- The two counts, and the five slices one after another.
pub dump_written : (p : Paper) (n c : ℕ) (ix : Index) {q1 q2 q3 q4 q5 q6 q7 : Paper} → q1 ≡ typed p (little 4 n)
    → q2 ≡ typed q1 (little 4 c)
    → q3 ≡ typed q2 (words_bytes 8 (map (λ x. x) ix.live.names)) → q4 ≡ typed q3 (words_bytes 4 (map (λ x. x) ix.live.cells))
    → q5 ≡ typed q4 (words_bytes 4 (map (λ x. x) ix.live.head)) → q6 ≡ typed q5 (words_bytes 4 (map (λ x. x) ix.live.sizes))
    → q7 ≡ typed q6 (words_bytes 8 (map (λ x. x) ix.lines)) → q7 ≡ typed p (dump_bytes n c ix)
unfolding dump_bytes body_bytes
dump_written p n c ix e1 e2 e3 e4 e5 e6 e7 =
    then p _ _ e1
    (then _ _ _ e2
    (then _ _ _ (own _ 8 _ e3)
    (then _ _ _ (own _ 4 _ e4) (then _ _ _ (own _ 4 _ e5) (then _ _ _ (own _ 4 _ e6) (own _ 8 _ e7))))))

-- The lines and the number kept.
pub saved-told : (p : Paper) (n : ℕ) (cells report : List ℕ) (kept : ℕ) {q r : Paper} {m : ℕ} → q ≡ typed p (loss_texts n cells report 0)
    → m ≡ tally n (used cells) → r ≡ typed q (says "kept # of #\n" (kept ∷ (m ∷ []))) → r ≡ typed p (rescue_text n cells report kept)
unfolding rescue_text
saved-told p n cells report kept e f g =
    then p (loss_texts n cells report 0) (says "kept # of #\n" (kept ∷ (tally n (used cells) ∷ []))) e (rw f at g)

-- What was made empty, and what was saved into it, is dumped and told.
module _ (names cells : List ℕ) (e u : Index) (report : List ℕ) (o : Salvaged) (made : u ≡ (freshes e).left)
    (saved : o ≡ salvages names cells u.live report) where
  saved-is : o ≡ saved_into names cells e report
  unfolding saved_into
  saved-is = rw (← made) saved

  pub dumped_saved : (p : Paper) (n c : ℕ) {q : Paper} → q ≡ typed p (dump_bytes n c (index o.into u.lines))
      → q ≡ typed p (saved_bytes n c names cells e report)
  unfolding saved_bytes
  dumped_saved p n c f = rw (← saved-is, ← made) f

  pub told-saved : (p : Paper) (n : ℕ) {q : Paper} {k : ℕ} → k ≡ kept_of o.answer.value
      → q ≡ typed p (rescue_text n cells o.report k) → q ≡ typed p (saved_text n names cells e report)
  unfolding saved_text
  told-saved p n g f = rw (← saved-is, ← g) f

-- The slots kept, 0 for a refusal.
pub kept_is : (r : Result ℕ Unfit) {k : ℕ} → k ≡ result_unwrap_or r 0 → k ≡ kept_of (salvage_of r).value
kept_is (Ok kept) e = e
kept_is (Err _) e = e

-- The front of zeros is zeros.
pub take-zeros : (k m : ℕ) → k ≤ m → take {A = ℕ} k (replicate m 0) ≡ replicate k 0
take-zeros zero m h = refl
take-zeros (suc k) zero h = absurd (omega arith)
take-zeros (suc k) (suc m) h = ap (λ (l : List ℕ). 0 ∷ l) (take-zeros k m (omega arith))

-- An index that is another by its equation.
module _ (p : Paper) (n : ℕ) {ix jx : Index} (is : ix ≡ jx) {e f : Index} (at : e ≡ f) {report told : List ℕ} (on : report ≡ told)
    {q : Paper} where
  pub same_bytes : (c : ℕ) → q ≡ typed p (loaded_bytes n c ix e report) → q ≡ typed p (loaded_bytes n c jx f told)
  same_bytes c g = g ∙ ap (typed p) (rw (is, at, on))

  pub same_text : q ≡ typed p (loaded_text n ix e report) → q ≡ typed p (loaded_text n jx f told)
  same_text g = g ∙ ap (typed p) (rw (is, at, on))

-- The fronts of zeros that are long enough.
module _ (n c : ℕ) (few : n ≤ most_slots) (lined : c ≤ most_lines) {names cells sizes lines : ℕ} (all : 2 * most_slots ≤ names)
    (each : 7 * most_slots ≤ cells) (one : most_slots ≤ sizes) (journal : 1 + line_words * most_lines ≤ lines) where
  pub fronts_zero : lent (take (2 * n) (replicate names 0)) (take (7 * n) (replicate cells 0)) (replicate 3 0) (take n (replicate sizes 0))
      (take (1 + line_words * c) (replicate lines 0))
      ≡ zeros n c
  fronts_zero =
      rw (
        take-zeros (2 * n) names (omega arith),
        take-zeros (7 * n) cells (omega arith),
        take-zeros n sizes (omega arith),
        take-zeros (1 + line_words * c) lines (omega arith),
      )

  pub fronts_loaded : (l : List ℕ)
      → loaded_as (length (take {A = ℕ} (2 * n) (replicate names 0))) (length (take {A = ℕ} (7 * n) (replicate cells 0)))
      (length (replicate {A = ℕ} 3 0)) (length (take {A = ℕ} n (replicate sizes 0)))
      (length (take {A = ℕ} (1 + line_words * c) (replicate lines 0))) (drop 8 l)
      ≡ loaded n c l
  fronts_loaded l =
      loaded_fronts l n c (rw (take-zeros (2 * n) names (omega arith)) (length-replicate (2 * n) 0))
      (rw (take-zeros (7 * n) cells (omega arith)) (length-replicate (7 * n) 0)) refl
      (rw (take-zeros n sizes (omega arith)) (length-replicate n 0))
      (rw (take-zeros (1 + line_words * c) lines (omega arith)) (length-replicate (1 + line_words * c) 0))

-- Bytes that are no dump are told as `./why` tells them, and nothing is dumped.
abbrev NoDump : Measure → Type 0
NoDump (whole n c) = ⊥
NoDump (stub b) = Unit {0}
NoDump (slots_out n) = Unit {0}
NoDump (lines_out c) = Unit {0}
NoDump (short b n c) = Unit {0}
NoDump (long n c) = Unit {0}

pub no_dump : (wrong : NoDumpCode) → NoDump (no_dump_of wrong)
no_dump (Stub b) = tt
no_dump (SlotsOut n) = tt
no_dump (LinesOut c) = tt
no_dump (Short b n c) = tt
no_dump (Long n c) = tt

measure_none : (l : List ℕ) (m : Measure) → NoDump m → ([] ≡ measure_bytes l m) × (measure_text l m ≡ measure_words l m)
measure_none l (whole n c) h = absurd h
measure_none l (stub b) h = (refl, refl)
measure_none l (slots_out n) h = (refl, refl)
measure_none l (lines_out c) h = (refl, refl)
measure_none l (short b n c) h = (refl, refl)
measure_none l (long n c) h = (refl, refl)

module _ (l : List ℕ) (p q : Paper) {m : Measure} (is : m ≡ measured l) where
  pub rescued_none : NoDump m → {d : ℕ} {r : Paper} → d ≡ p.at → r ≡ typed q (why_text l)
      → (record { bytes = p.bytes; at = d } ≡ typed p (rescue_bytes l)) × (r ≡ typed q (rescue_words l))
  unfolding rescue_bytes rescue_words why_text
  rescued_none h e f =
      let z = measure_none l m h in (
        ap (λ k. record { bytes = p.bytes; at = k }) e ∙ nothing-more p ∙ ap (typed p) (z.0 ∙ ap (measure_bytes l) is),
        f ∙ ap (typed q) (ap (measure_text l) (sym is) ∙ z.1 ∙ ap (measure_words l) is),
      )

  pub rescued_dump : {r s : Paper} → r ≡ typed p (measure_bytes l m) → s ≡ typed q (measure_words l m)
      → (r ≡ typed p (rescue_bytes l)) × (s ≡ typed q (rescue_words l))
  unfolding rescue_bytes rescue_words
  rescued_dump e f = (e ∙ ap (typed p) (ap (measure_bytes l) is), f ∙ ap (typed q) (ap (measure_words l) is))

pub both_papers : (l : List ℕ) (p q : Paper) {r s : Paper} → r ≡ typed p (rescue_bytes l) → s ≡ typed q (rescue_words l)
    → papers r s ≡ rescues l p q
unfolding rescues
both_papers l p q e f = rw (e, f)
