-- All bins moved, on plain values: each turn of a loop is the model's, a move leaves a set that fits and is accepted, once it is stopped
-- nothing more is moved, and where every move is refused alike the first bin that there is stops it.
use mathlib.Core.Path.{◌≡◌, refl, ap, sym, subst, ◌∙◌}
use mathlib.Core.Logic.{◌≢◌}
use mathlib.Core.Bool.{Bool, true, false}
use Prim.Native.Nat.{ℕ, zero, suc, ◌+◌, ◌-◌, ◌<◌, ◌≤◌}
use native.Mathlib.Decide.{ℕ_discrete}
use native.Mathlib.Numerals.{add-one}
use native.Mathlib.Omega.{arith}
use lib.Dec.{ltb}
use borrow.Author.Tests.{ne_eqb}
use Rattle.std.specs.Prelude.{Result, Ok, Err}
use Rattle.slots.specs.Words.{pick}
use Rattle.slots.specs.Answers.{value_beside, given, refused}
use Rattle.set_rules.specs.Words.{Set, tables_of, length_at, fits}
use Rattle.set_rules.specs.Accepting.{accepted}
use Rattle.set_rules.proofs.Fit.{fits_fit, fit_fits, length_bound}
use Rattle.set_rules.proofs.Accepting.{accepted_yes}
use Rattle.move_rules.specs.Moving.{half_count, high_index, low_header, high_header, lacks, movable, both_laid, MoveOutcome, move_outcome}
use Rattle.move_rules.specs.Moving.{moves_bin, moves}
use Rattle.move_rules.specs.Finishing.{Finish, finish_begun, move_told, bin_finished, bins_finished, tables_finished, finishing}
use Rattle.move_rules.proofs.Deciding.{View, view}
use Rattle.move_rules.proofs.Claims as move-rules
use Rattle.mover.specs.Moved.{move_of, move_refusal_of, FitAccepted}
use Rattle.mover.specs.Finished.{finish_of, came_to, AllRefused}
use Rattle.mover.specs.declared.moving.MoveRefusal.{MoveRefusal}
use Rattle.mover.specs.declared.moving.MoveRefusal.TheVariants.{Unfit, Unknown, Damaged, CannotMove, Full}
use Rattle.mover.proofs.Moves.{half_most, unfit_moves, damaged_moves}

-- What a move leaves fits and is accepted.
still : {s : Set} {k i : ℕ} {o : MoveOutcome} → View s k i o → FitAccepted s → FitAccepted o.set
still (View.unfit n) h = h
still (View.no_table f b) h = h
still (View.not-accepted f b n) h = h
still (View.cannot f b a c) h = h
still (View.short f a m r) h = h
still (View.went f a m r w b) h = record { fit = fit_fits b.fit; accepts = accepted_yes b.fit b.accepted }

-- The entries that an outcome tells.
abbrev told : MoveOutcome → ℕ
told o = value_beside 0 o.answer.number o.answer.value

under : (b : Bool) (o p : MoveOutcome) → told o ≤ 8192 → told p ≤ 8192 → told (pick b o p) ≤ 8192
under true o p x y = x
under false o p x y = y

told_most : (s : Set) (k i : ℕ) → fits s ≡ true → told (moves s k i) ≤ 8192
unfolding moves moves_bin
told_most s k i e =
    let f = fits_fit s e in
    let low = half_count s k i i in
    let high = half_count s k i (high_index s k i) in
    let went = move_outcome (given (low + high)) (both_laid s k i) in
    let none : ℕ → MoveOutcome = λ n. move_outcome (refused n) s in
    let well : told went ≤ 8192 = omega (arith, half_most s k i i, half_most s k i (high_index s k i), f.two, f.slots_most) in
    let after = pick (lacks high (high_header s k i)) (none 5) went in
    let made = pick (lacks low (low_header s k i)) (none 5) after in
    let may = pick (movable s k i) made (none 16) in
    let judged = pick (accepted s) may (none 2) in
    let there = pick (ltb k (tables_of s)) judged (none 10) in
    under (fits s) there (none 1)
    (under (ltb k (tables_of s)) judged (none 10)
    (under (accepted s) may (none 2)
    (under (movable s k i) made (none 16)
    (under (lacks low (low_header s k i)) (none 5) after (omega arith)
    (under (lacks high (high_header s k i)) (none 5) went (omega arith) well))
    (omega arith))
    (omega arith))
    (omega arith))
    (omega arith)

-- No refusal has the number 0, and one alone has 16.
pub not_none : (q : MoveRefusal) → (move_refusal_of q).number ≢ 0
not_none Unfit e = omega (arith, e)
not_none Unknown e = omega (arith, e)
not_none Damaged e = omega (arith, e)
not_none CannotMove e = omega (arith, e)
not_none Full e = omega (arith, e)

not_sixteen : (q : MoveRefusal) → q ≢ CannotMove → (move_refusal_of q).number ≢ 16
not_sixteen Unfit d e = omega (arith, e)
not_sixteen Unknown d e = omega (arith, e)
not_sixteen Damaged d e = omega (arith, e)
not_sixteen CannotMove d e = d refl
not_sixteen Full d e = omega (arith, e)

-- A move of bin i of table k.
module _ (s u : Set) (k i : ℕ) where
  -- What a refused move leaves is what there was.
  kept : (q : MoveRefusal) → move_outcome (move_refusal_of q) u ≡ moves s k i → u ≡ s
  kept q e =
      ap (λ (o : MoveOutcome). o.set) e
      ∙ ((move-rules.claims).refusals s k i).unchanged (λ y. not_none q (ap (λ (o : MoveOutcome). o.answer.number) e ∙ y))

  module _ (r : Result ℕ MoveRefusal) (e : move_outcome (move_of r) u ≡ moves s k i) where
    pub move_stays : FitAccepted s → FitAccepted u
    move_stays h = subst (λ (o : MoveOutcome). FitAccepted o.set) (sym e) (still (view s k i) h)

    -- After so many entries: what is moved is added, a bin that cannot move is passed over, and another refusal stops it.
    pub went_on : (n gone : ℕ) → r ≡ Ok n → finish_of (Ok (gone + n)) u ≡ bin_finished (finish_of (Ok gone) s) k i
    unfolding bin_finished move_told
    went_on n gone z = rw (← e, z)

    pub passed_over : (gone : ℕ) → r ≡ Err CannotMove → finish_of (Ok (gone + 0)) u ≡ bin_finished (finish_of (Ok gone) s) k i
    unfolding bin_finished move_told
    passed_over gone z =
        let o : move_outcome (refused 16) u ≡ moves s k i = ap (λ x. move_outcome (move_of x) u) (sym z) ∙ e in
        let same : u ≡ s = kept CannotMove o in
        let none : gone + 0 ≡ gone = omega arith in
        rw (← o, none, same)

    pub stopped : (q : MoveRefusal) (gone : ℕ) → r ≡ Err q → q ≢ CannotMove
        → finish_of (came_to gone k i (Err q)) u ≡ bin_finished (finish_of (Ok gone) s) k i
    unfolding bin_finished move_told
    stopped q gone z d =
        let o : move_outcome (move_refusal_of q) u ≡ moves s k i = ap (λ x. move_outcome (move_of x) u) (sym z) ∙ e in
        let same : u ≡ s = kept q o in
        rw (← o, ne_eqb (move_refusal_of q).number 0 (not_none q), ne_eqb (move_refusal_of q).number 16 (not_sixteen q d), same)

    pub most_moved : (n : ℕ) → FitAccepted s → r ≡ Ok n → n ≤ 8192
    most_moved n h z =
        let o : move_outcome (given n) u ≡ moves s k i = ap (λ x. move_outcome (move_of x) u) (sym z) ∙ e in
        subst (λ (o : MoveOutcome). told o ≤ 8192) (sym o) (told_most s k i h.fit)

-- The loops: a turn, and once it is stopped nothing more is moved.
pub bins_turn : {g h : Finish} (f : Finish) (k i : ℕ) → g ≡ bins_finished i f k → h ≡ bin_finished g k i → h ≡ bins_finished (i + 1) f k
unfolding bins_finished
bins_turn f k i e w = w ∙ rw (add-one i, ← e)

bins_stay : (m j : ℕ) (f : Finish) → f.number ≢ 0 → bins_finished m f j ≡ f
unfolding bins_finished bin_finished
bins_stay zero j f d = refl
bins_stay (suc m) j f d = rw (bins_stay m j f d, ne_eqb f.number 0 d)

pub bins_over : {g : Finish} (f : Finish) (k i m : ℕ) → g ≡ bins_finished i f k → g.number ≢ 0 → i ≤ m → g ≡ bins_finished m f k
unfolding bins_finished bin_finished
bins_over {g} f k i zero e d h = let z : i ≡ 0 = omega arith in e ∙ rw z
bins_over {g} f k i (suc m) e d h = go (ℕ_discrete i (suc m)) (λ n. bins_over f k i m e d (omega arith))
  where
    go : Dec (i ≡ suc m) → (i ≢ suc m → g ≡ bins_finished m f k) → g ≡ bins_finished (suc m) f k
    go (yes z) before = e ∙ rw z
    go (no n) before = rw (← before n, ne_eqb g.number 0 d)

pub tables_turn : {g h : Finish} (s : Set) (k : ℕ) → g ≡ tables_finished k (finish_begun s) → h ≡ bins_finished (length_at s k) g k
    → h ≡ tables_finished (k + 1) (finish_begun s)
unfolding tables_finished
tables_turn s k e w = w ∙ rw (add-one k, ← e)

tables_stay : {g : Finish} (s : Set) (k m : ℕ) → g ≡ tables_finished k (finish_begun s) → g.number ≢ 0 → k ≤ m
    → g ≡ tables_finished m (finish_begun s)
unfolding tables_finished
tables_stay {g} s k zero e d h = let z : k ≡ 0 = omega arith in e ∙ rw z
tables_stay {g} s k (suc m) e d h = go (ℕ_discrete k (suc m)) (λ n. tables_stay s k m e d (omega arith))
  where
    go : Dec (k ≡ suc m) → (k ≢ suc m → g ≡ tables_finished m (finish_begun s)) → g ≡ tables_finished (suc m) (finish_begun s)
    go (yes z) before = e ∙ rw z
    go (no n) before = rw (← before n) (sym (bins_stay (length_at s m) m g d))

pub tables_stopped : {g : Finish} (s : Set) (k : ℕ) → g ≡ tables_finished k (finish_begun s) → g.number ≢ 0 → k ≤ tables_of s - 1
    → g ≡ finishing s
unfolding finishing
tables_stopped s k e d h = tables_stay s k (tables_of s - 1) e d h

pub tables-over : {g : Finish} (s : Set) (k : ℕ) → g ≡ tables_finished k (finish_begun s) → k ≤ tables_of s - 1 → tables_of s - 1 ≤ k
    → g ≡ finishing s
unfolding finishing
tables-over s k e a b = let z : tables_of s - 1 ≡ k = omega arith in e ∙ rw z

-- The limits of a set that fits.
pub record Limits (s : Set) (k : ℕ) : Type 0 where
  pub least : 1 ≤ tables_of s
  pub most : tables_of s ≤ 8
  pub width : length_at s k ≤ 4096

pub limits : (s : Set) (k : ℕ) → FitAccepted s → Limits s k
limits s k h = let f = fits_fit s h.fit in record { least = f.least; most = f.most; width = length_bound f k }

-- Every move is refused alike.
module _ (s : Set) (r : MoveRefusal) (h : AllRefused s r) where
  abbrev halted : ℕ → Finish
  halted k = finish_of (Err record { refusal = r; table = k; bin = 0; gone = 0 }) s

  first_stops : (k : ℕ) → k < tables_of s → halted k ≡ bins_finished 1 (finish_begun s) k
  unfolding bins_finished bin_finished move_told
  first_stops k b =
      rw (← h.each k 0 b, ne_eqb (move_refusal_of r).number 0 (not_none r), ne_eqb (move_refusal_of r).number 16 (not_sixteen r h.stops))

  -- Tables without bins are passed over.
  none_before : (k : ℕ) → ((j : ℕ) → j < k → length_at s j ≡ 0) → finish_begun s ≡ tables_finished k (finish_begun s)
  unfolding tables_finished bins_finished
  none_before zero e = refl
  none_before (suc k) e = rw (← none_before k (λ j b. e j (omega arith)), e k (omega arith))

  pub stopped_first : (k : ℕ) → ((j : ℕ) → j < k → length_at s j ≡ 0) → k + 1 < tables_of s → length_at s k ≢ 0 → halted k ≡ finishing s
  stopped_first k e b d =
      let at_bin = bins_over (finish_begun s) k 1 (length_at s k) (first_stops k (omega arith)) (not_none r) (omega arith) in
      tables_stopped s (k + 1) (tables_turn s k (none_before k e) at_bin) (not_none r) (omega arith)

  pub none_stopped : ((j : ℕ) → j < tables_of s - 1 → length_at s j ≡ 0) → finish_begun s ≡ finishing s
  unfolding finishing
  none_stopped e = none_before (tables_of s - 1) e

-- A set that does not fit, and one that is not accepted.
pub all_unfit : (s : Set) → fits s ≡ false → AllRefused s Unfit
all_unfit s e = record { stops = λ z. (cc); each = λ k i b. unfit_moves s k i e }

pub all_damaged : (s : Set) → fits s ≡ true → accepted s ≡ false → AllRefused s Damaged
all_damaged s f e = record { stops = λ z. (cc); each = λ k i b. damaged_moves s k i f b e }
