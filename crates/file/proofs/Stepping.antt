-- What is taken at once is taken as its bytes would be, so a chunk comes to what its bytes come to; and how the end is judged.
use mathlib.Core.Path.{◌≡◌, refl, ap, sym, ◌∙◌, subst}
use mathlib.Core.Bool.{Bool, true, false}
use mathlib.Core.Logic.{◌≢◌}
use mathlib.Core.List.{List, [], ◌∷◌, ◌++◌}
use Prim.Native.Nat.{ℕ, zero, suc, ◌+◌, ◌-◌, ◌*◌, ◌/◌, ◌%◌, ◌<◌, ◌≤◌, min}
use native.Mathlib.Omega.{arith}
use lib.ListN.{length, get_or, take, drop, take-append-drop}
use lib.Seq.{take-length, length-take-le}
use lib.Dec.{leb}
use borrow.Author.Tests.{leb-true, eq-eqb, ne_eqb}
use Rattle.slots.specs.Answers.{Answer, given, refused}
use Rattle.slots.proofs.Laws.{number, given_is}
use Rattle.endian.specs.Bytes.{Bytes, words_in}
use Rattle.endian.proofs.Endian.{bytes_split}
use Rattle.upload_rules.specs.Reader.{unsaid, said}
use Rattle.upload_rules.proofs.Ranges.{no_test}
use Rattle.index_rules.proofs.Fit.{both}
use Rattle.set_rules.specs.Words.{Set, lent_set, fits}
use Rattle.set_rules.specs.Accepting.{accepted, accepts}
use Rattle.file_rules.specs.Layout.{slice_in, field_of, section_words, can_hold}
use Rattle.file_rules.specs.Loader.{Loader, loader_of, count_taken, note_in, FitLoader, RoomFor, taken_of, loader_answer}
use Rattle.file_rules.specs.Loading.{Loading, loading, load_outcome, load_refused, after_words, byte_stored, bytes_loaded, cut_out}
use Rattle.file_rules.specs.Loading.{rests_zeroed, end_judged, GoesOn, may_go_on, load_chunk, load_end}
use Rattle.file_rules.proofs.Ranges.{byte_open, bytes_go, end_open, end_said, end_goes}
use Rattle.file_rules.proofs.Testing.{in_goes, chunk_in, chunk_out, end_in, end_out}
use Rattle.file_rules.proofs.Written.{bytes_said}
use Rattle.file_rules.proofs.Bringing.{bytes_loaded_append, between_words}
use Rattle.std.specs.Prelude.{Option, None, Some, is_some, Result}
use Rattle.file.specs.Meanings.{load_reply_of, load_note_of}
use Rattle.file.specs.declared.reply.LoadRefusal.{LoadRefusal}
use Rattle.file.specs.Runs.{words_put, slots_names, slots_cells, WordsReady, SlotsReady, StepTaken}
use Rattle.file.proofs.Running.{words_run, slots_run, names_tail, cells_tail}

-- What a step leaves goes on.
taken : (d : Loading) (rest : List ℕ) (used : ℕ) (e : Loading) → GoesOn d → Bytes rest → 1 ≤ used → used ≤ length rest
    → bytes_loaded d (take used rest) ≡ e
    → StepTaken d rest used e
taken d rest used e h b l m same =
    record { some = l; most = m; same = same; goes = subst GoesOn same (bytes_go d (bytes_split used b).0 h) }

pub step_said : (r : Loader) (t : Set) (rest : List ℕ) {a : Answer} → GoesOn (loading r t) → Bytes rest → r.note ≡ said a → 1 ≤ length rest
    → StepTaken (loading r t) rest (length rest) (loading r t)
step_said r t rest h b e l =
    taken (loading r t) rest (length rest) (loading r t) h b l (omega arith)
    (ap (bytes_loaded (loading r t)) (take-length rest) ∙ bytes_said (loading r t) rest e)

pub step_byte : (r : Loader) (t : Set) (rest : List ℕ) {b : ℕ} {e : Loading} → GoesOn (loading r t) → Bytes rest → r.note ≡ unsaid
    → 1 ≤ length rest
    → b ≡ get_or rest 0 0
    → e ≡ byte_stored r t b
    → StepTaken (loading r t) rest 1 e
unfolding bytes_loaded
step_byte r t [] h bs u l e f = absurd (omega arith)
step_byte r t (x ∷ rest) {b} {e = q} h bs u l e f =
    taken (loading r t) (x ∷ rest) 1 q h bs (omega arith) (omega arith)
    (byte_open (loading r t) x u ∙ ap (byte_stored r t) (sym e) ∙ sym f)

-- A loader between two words is told by its section, the words that have come, and the counts.
between : (r : Loader) (f : ℕ) → FitLoader r → r.note ≡ unsaid → r.at ≡ 8 * f → r ≡ between_words r.section f r.counts
between r f h u e =
    let z : r.at % 8 ≡ 0 = omega arith in
    let small = rw z at h.number in
    let none : r.part ≡ 0 = omega arith in
    λ i. loader_of r.section (e i) (none i) r.counts (u i)

-- The slice of a section of words holds what its count says.
pub section_room : (lengths bins heads names cells : List ℕ) (s c : ℕ) → s < 3
    → can_hold (lent_set lengths bins heads names cells) s c ≡ true
    → section_words s c ≤ length (slice_in (lent_set lengths bins heads [] []) (field_of s 0).slice)
unfolding section_words can_hold field_of
section_room lengths bins heads names cells zero c l h = leb-true _ _ h
section_room lengths bins heads names cells (suc zero) c l h = leb-true _ _ h
section_room lengths bins heads names cells (suc (suc zero)) c l h = leb-true _ _ h
section_room lengths bins heads names cells (suc (suc (suc s))) c l h = absurd (omega arith)

-- The slices of slots hold what their count says.
pub slots_room : (t : Set) (c : ℕ) → can_hold t 3 c ≡ true → (2 * c ≤ length t.names) × (7 * c ≤ length t.cells)
unfolding can_hold
slots_room t c h =
    let b = both (leb (2 * c) (length t.names)) (leb (7 * c) (length t.cells)) h in
    (leb-true _ _ b.0, leb-true _ _ b.1)

-- Words at once.
module _ (r : Loader) (t : Set) (rest : List ℕ) (h : GoesOn (loading r t)) (b : Bytes rest) (u : r.note ≡ unsaid) where
  module _ (ready : WordsReady r (length rest)) {count end : ℕ} (ec : count ≡ count_taken r r.section)
      (ee : end ≡ section_words r.section count) where
    pub words_behind : r.at / 8 - 1 < end
    words_behind =
        let w = h.fit.words in
        let c = ready.counted in
        let z : section_words r.section (count_taken r r.section) ≡ end = rw (← ec, ee) in
        omega arith

    pub words_room : end ≤ length (slice_in (lent_set t.lengths t.bins t.heads [] []) (field_of r.section 0).slice)
    words_room =
        let l = ready.section in
        let z : section_words r.section (count_taken r r.section) ≡ end = rw (← ec, ee) in
        let m = section_room t.lengths t.bins t.heads t.names t.cells r.section (count_taken r r.section) l
        (h.room u r.section (omega arith)) in
        rw z at m

    pub words_least : {n : ℕ} → n ≡ min (end - (r.at / 8 - 1)) (length rest / 4)
        → (1 ≤ n) × (4 * n ≤ length rest) × (r.at / 8 - 1 + n ≤ end)
    words_least e = let l = words_behind in let w = ready.whole in (omega arith, omega arith, omega arith)

    pub step_words : {n : ℕ} {q : Loader} {v : Set} → n ≡ min (end - (r.at / 8 - 1)) (length rest / 4)
        → v ≡ words_put t r.section (r.at / 8 - 1) (words_in 4 rest 0 n)
        → q ≡ after_words r (r.at / 8 + n)
        → StepTaken (loading r t) rest (4 * n) (loading q v)
    unfolding after_words
    step_words {n} {q} {v} en ev eq =
        let j = r.at / 8 - 1 in
        let c = ready.counted in
        let m = ready.between in
        let l = words_behind in
        let few = words_least en in
        let z : section_words r.section (count_taken r r.section) ≡ end = rw (← ec, ee) in
        let at : r.at ≡ 8 * suc j = omega arith in
        let come : suc (j + n) ≡ r.at / 8 + n = omega arith in
        taken (loading r t) rest (4 * n) (loading q v) h b (omega (arith, few.0)) few.1
        (ap (λ (x : Loader). bytes_loaded (loading x t) (take (4 * n) rest)) (between r (suc j) h.fit u at)
        ∙ words_run r.section r.counts rest j n t ready.section b few.1 (rw z l) (rw z few.2)
        ∙ (λ i. loading (after_words r (come i)) (sym ev i))
        ∙ ap (λ (x : Loader). loading x v) (sym eq))

  -- Slots at once.
  module _ (ready : SlotsReady r (length rest)) where
    pub slots-behind : r.at / 72 < count_taken r 3
    unfolding section_words
    slots-behind =
        let e = ready.section in
        let w = rw e at h.fit.words in
        let m = ready.between in
        omega arith

    pub slots_least : {n : ℕ} → n ≡ min (count_taken r 3 - r.at / 72) (length rest / 41)
        → (1 ≤ n) × (41 * n ≤ length rest) × (r.at / 72 + n ≤ count_taken r 3)
    slots_least e = let l = slots-behind in let w = ready.whole in (omega arith, omega arith, omega arith)

    pub slots_within : (2 * (r.at / 72) ≤ length t.names) × (7 * (r.at / 72) ≤ length t.cells)
    slots_within =
        let l = slots-behind in
        let room = slots_room t (count_taken r 3) (h.room u 3 (omega arith)) in
        (omega (arith, room.0), omega (arith, room.1))

    pub step_slots : {n : ℕ} {q : Loader} {x y : List ℕ} → n ≡ min (count_taken r 3 - r.at / 72) (length rest / 41)
        → x ≡ take (2 * (r.at / 72)) t.names ++ slots_names (drop (2 * (r.at / 72)) t.names) 0 rest n
        → y ≡ take (7 * (r.at / 72)) t.cells ++ slots_cells (drop (7 * (r.at / 72)) t.cells) 0 rest n
        → q ≡ after_words r (r.at / 8 + 9 * n)
        → StepTaken (loading r t) rest (41 * n) (loading q (lent_set t.lengths t.bins t.heads x y))
    unfolding after_words
    step_slots {n} {q} {x} {y} en ex ey eq =
        let from = r.at / 72 in
        let m = ready.between in
        let e = ready.section in
        let l = slots-behind in
        let few = slots_least en in
        let room = slots_within in
        let at : r.at ≡ 8 * suc (9 * from) = omega arith in
        let come : suc (9 * (from + n)) ≡ r.at / 8 + 9 * n = omega arith in
        let names : x ≡ slots_names t.names from rest n =
        ex ∙ names_tail (take (2 * from) t.names) (drop (2 * from) t.names) rest from n
        (length-take-le (2 * from) t.names room.0)
        ∙ ap (λ (z : List ℕ). slots_names z from rest n) (take-append-drop (2 * from) t.names) in
        let cells : y ≡ slots_cells t.cells from rest n =
        ey ∙ cells_tail (take (7 * from) t.cells) (drop (7 * from) t.cells) rest from n
        (length-take-le (7 * from) t.cells room.1)
        ∙ ap (λ (z : List ℕ). slots_cells z from rest n) (take-append-drop (7 * from) t.cells) in
        let own : r ≡ between_words 3 (suc (9 * from)) r.counts =
        between r (suc (9 * from)) h.fit u at ∙ ap (λ (s : ℕ). between_words s (suc (9 * from)) r.counts) e in
        let after : after_words (between_words 3 0 r.counts) (r.at / 8 + 9 * n) ≡ after_words r (r.at / 8 + 9 * n) =
        ap (λ (s : ℕ). after_words (between_words s 0 r.counts) (r.at / 8 + 9 * n)) (sym e) in
        let u2 = lent_set t.lengths t.bins t.heads x y in
        taken (loading r t) rest (41 * n) (loading q u2) h b (omega (arith, few.0)) few.1
        (ap (λ (z : Loader). bytes_loaded (loading z t) (take (41 * n) rest)) own
        ∙ slots_run t.lengths t.bins t.heads t.names t.cells r.counts rest from n b l few.2 few.1
        ∙ (λ i. loading (after_words (between_words 3 0 r.counts) (come i))
        (lent_set t.lengths t.bins t.heads (sym names i) (sym cells i)))
        ∙ ap (λ (z : Loader). loading z u2) (after ∙ sym eq))

-- The chunk's loop: the bytes left come to what all of them come to.
pub record Going (d : Loading) (chunk : List ℕ) (e : Loading) (rest : List ℕ) : Type 0 where
  pub same : bytes_loaded e rest ≡ bytes_loaded d chunk
  pub goes : GoesOn e

pub going_start : (d : Loading) (chunk : List ℕ) → GoesOn d → Going d chunk d chunk
going_start d chunk h = record { same = refl; goes = h }

pub going_on : {d e q : Loading} {chunk rest left : List ℕ} {used : ℕ} → Going d chunk e rest → StepTaken e rest used q → left ≡ drop used
    rest
    → Going d chunk q left
going_on {d} {e} {q} {chunk} {rest} {left} {used} g s f =
    record {
      same =
          ap (bytes_loaded q) f
          ∙ ap (λ (x : Loading). bytes_loaded x (drop used rest)) (sym s.same)
          ∙ sym (bytes_loaded_append e (take used rest) (drop used rest))
          ∙ ap (bytes_loaded e) (take-append-drop used rest)
          ∙ g.same;
      goes = s.goes;
    }

pub going_end : {d e : Loading} {chunk rest : List ℕ} → Going d chunk e rest → length rest ≡ 0 → (e ≡ bytes_loaded d chunk) × FitLoader
    e.loader
unfolding bytes_loaded
going_end {rest = []} g l = (g.same, g.goes.fit)
going_end {rest = x ∷ rest} g l = absurd (omega arith)

-- What is noted, and that nothing is.
pub note_open : (n : Option (Result ℕ LoadRefusal)) {b : Bool} → b ≡ is_some n → b ≡ false → load_note_of n ≡ unsaid
note_open None e f = refl
note_open (Some r) e f = absurd (no_test f e)

pub note_said : (n : Option (Result ℕ LoadRefusal)) {b : Bool} → b ≡ is_some n → b ≡ true → (a : Answer) × (load_note_of n ≡ said a)
note_said None e f = absurd (no_test e f)
note_said (Some r) e f = (load_reply_of r, refl)

-- chunk and end.
module _ (d : Loading) {may : Bool} (e : may ≡ may_go_on d) where
  pub goes : may ≡ true → GoesOn d
  goes f = in_goes d (sym e ∙ f)

  pub chunk_unfit : (l : List ℕ) → may ≡ false → load_outcome (refused 1) d ≡ load_chunk d l
  chunk_unfit l f = sym (chunk_out d l (sym e ∙ f))

  pub end_unfit : may ≡ false → load_outcome (refused 1) d ≡ load_end d
  end_unfit f = sym (end_out d (sym e ∙ f))

  pub chunk_done : (l : List ℕ) {q : Loading} {a : Answer} → may ≡ true → q ≡ bytes_loaded d l → a ≡ loader_answer q.loader
      → load_outcome a q ≡ load_chunk d l
  chunk_done l {q} f g k =
      ap (λ (x : Answer). load_outcome x q) k ∙ ap (λ (x : Loading). load_outcome (loader_answer x.loader) x) g ∙ sym
      (chunk_in d l (goes f))

  pub end_noted : {a b : Answer} → may ≡ true → d.loader.note ≡ said b → a ≡ loader_answer d.loader → load_outcome a d ≡ load_end d
  end_noted f n k =
      ap (λ (x : Answer). load_outcome x d) k ∙ ap (λ (x : Loading). load_outcome (loader_answer x.loader) x) (sym (end_said d n))
      ∙ sym (end_in d (goes f))

  pub end_done : {q : Loading} {a : Answer} → may ≡ true → d.loader.note ≡ unsaid → q ≡ end_judged d.loader d.set
      → a ≡ loader_answer q.loader
      → load_outcome a q ≡ load_end d
  end_done {q} f n g k =
      ap (λ (x : Answer). load_outcome x q) k ∙ ap (λ (x : Loading). load_outcome (loader_answer x.loader) x) (g ∙ sym (end_open d n))
      ∙ sym (end_in d (goes f))

  pub end_fit : {q : Loading} → may ≡ true → d.loader.note ≡ unsaid → q ≡ end_judged d.loader d.set → FitLoader q.loader
  end_fit f n g = rw (g ∙ sym (end_open d n)) (end_goes d (goes f)).fit

-- The three verdicts of acceptance.
module _ (s : Set) where
  yes_told : given 1 ≡ accepts s → (fits s ≡ true) × (accepted s ≡ true)
  unfolding accepts
  yes_told e = go (fits s) (accepted s) refl refl
    where
      go : (f a : Bool) → fits s ≡ f → accepted s ≡ a → (fits s ≡ true) × (accepted s ≡ true)
      go true true ef ea = (ef, ea)
      go true false ef ea = let z = rw (ef, ea) at e in absurd (omega (arith, given_is z))
      go false a ef ea = let z = rw ef at e in absurd (omega (arith, number z))

  no_told : given 0 ≡ accepts s → (fits s ≡ true) × (accepted s ≡ false)
  unfolding accepts
  no_told e = go (fits s) (accepted s) refl refl
    where
      go : (f a : Bool) → fits s ≡ f → accepted s ≡ a → (fits s ≡ true) × (accepted s ≡ false)
      go true true ef ea = let z = rw (ef, ea) at e in absurd (omega (arith, given_is z))
      go true false ef ea = (ef, ea)
      go false a ef ea = let z = rw ef at e in absurd (omega (arith, number z))

  pub unfit_told : refused 1 ≡ accepts s → fits s ≡ false
  unfolding accepts
  unfit_told e = go (fits s) (accepted s) refl refl
    where
      go : (f a : Bool) → fits s ≡ f → accepted s ≡ a → fits s ≡ false
      go true true ef ea = let z = rw (ef, ea) at e in absurd (omega (arith, number z))
      go true false ef ea = let z = rw (ef, ea) at e in absurd (omega (arith, number z))
      go false a ef ea = ef

module _ (r : Loader) (t : Set) where
  pub judged_short : {q : Loading} → r.section ≢ 4 → q ≡ load_refused r t (refused 12) → q ≡ end_judged r t
  unfolding end_judged
  judged_short n e = e ∙ rw (ne_eqb r.section 4 n)

  module _ (four : r.section ≡ 4) where
    pub judged_yes : {q : Loader} {u : Set} → given 1 ≡ accepts (cut_out r t) → u ≡ rests_zeroed r t → q ≡ note_in r (given (taken_of r))
        → loading q u ≡ end_judged r t
    unfolding end_judged
    judged_yes a e f = let v = yes_told (cut_out r t) a in (λ i. loading (f i) (e i)) ∙ rw (eq-eqb r.section 4 four, v.0, v.1)

    pub judged_no : {q : Loading} → given 0 ≡ accepts (cut_out r t) → q ≡ load_refused r t (refused 2) → q ≡ end_judged r t
    unfolding end_judged
    judged_no a e = let v = no_told (cut_out r t) a in e ∙ rw (eq-eqb r.section 4 four, v.0, v.1)

    pub judged_unfit : {q : Loading} → refused 1 ≡ accepts (cut_out r t) → q ≡ load_refused r t (refused 1) → q ≡ end_judged r t
    unfolding end_judged
    judged_unfit a e = e ∙ rw (eq-eqb r.section 4 four, unfit_told (cut_out r t) a)

  -- The slices hold the set that is cut out.
  pub cut_within : FitLoader r → RoomFor r t
      → (count_taken r 0 ≤ length t.lengths) × (count_taken r 1 ≤ length t.bins) × (3 * count_taken r 2 ≤ length t.heads)
      × (2 * count_taken r 3 ≤ length t.names)
      × (7 * count_taken r 3 ≤ length t.cells)
  unfolding can_hold
  cut_within h room =
      let s = slots_room t (count_taken r 3) (room 3 (omega arith)) in
      (leb-true _ _ (room 0 (omega arith)), leb-true _ _ (room 1 (omega arith)), leb-true _ _ (room 2 (omega arith)), s.0, s.1)
