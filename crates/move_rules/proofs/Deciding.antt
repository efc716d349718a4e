-- What each test of the model settles: whether the bin may be moved, and whether the headers suffice. So a move comes to one of six things,
-- each where its conditions hold.
use mathlib.Core.Path.{◌≡◌, refl, ap, sym, subst, ◌∙◌}
use mathlib.Core.Logic.{◌≢◌, inl, inr}
use mathlib.Core.Bool.{Bool, true, false, false≢true}
use mathlib.Core.List.{List}
use Prim.Native.Nat.{ℕ, zero, suc, ◌+◌, ◌%◌, ◌<◌, ◌≤◌}
use native.Mathlib.Omega.{arith}
use lib.ListN.{length}
use lib.Dec.{ltb}
use borrow.Author.Tests.{ltb-true, ltb-false}
use Rattle.slots.specs.Answers.{given, refused}
use Rattle.set_rules.specs.Words.{Set, Fit, tables_of, length_at, fits, Bin, empty, moved, bad, list, tree, bin_at}
use Rattle.set_rules.specs.Accepted.{BinThere, Accepted}
use Rattle.set_rules.specs.Accepting.{accepted, is_moved}
use Rattle.set_rules.proofs.Fit.{fits_fit, fit_fits}
use Rattle.set_rules.proofs.Accepting.{yes_accepted, accepted_yes}
use Rattle.move_rules.specs.Moving.{high_index, half_count, low_header, high_header, lacks, both_laid, parent_moved, movable, MoveOutcome}
use Rattle.move_rules.specs.Moving.{move_outcome, moves_bin, moves}
use Rattle.move_rules.specs.Moved.{CannotMove, RunOut, for_one, for_two, BinMoved}
use Rattle.move_rules.proofs.Halves.{entries_in, low_half, high_half, low_count, high_count, both_count}
use Rattle.move_rules.proofs.Choosing.{low_chosen, low_short, high_chosen, high_short}
use Rattle.move_rules.proofs.Moving.{half_done, whole_done, moved_well}

is_moved_lem : (b : Bin) → is_moved b ≡ true → b ≡ moved
is_moved_lem empty e = absurd (false≢true e)
is_moved_lem moved e = refl
is_moved_lem bad e = absurd (false≢true e)
is_moved_lem (list a) e = absurd (false≢true e)
is_moved_lem (tree h) e = absurd (false≢true e)

not_moved : (b : Bin) → is_moved b ≡ false → b ≢ moved
not_moved b e z = false≢true (sym e ∙ ap is_moved z)

-- A bin that may be moved.
pub record May (s : Set) (k i : ℕ) : Type 0 where
  pub there : BinThere s k i
  pub lower : suc k < tables_of s
  pub unmoved : bin_at s k i ≢ moved
  pub above : (j : ℕ) → k ≡ suc j → bin_at s j (i % length_at s j) ≡ moved

pub may_not : {s : Set} {k i : ℕ} → May s k i → CannotMove s k i → ⊥
may_not m (CannotMove.no_next b) = omega (arith, m.lower)
may_not m (CannotMove.no_bin b) = omega (arith, m.there.index)
may_not m (CannotMove.already e) = m.unmoved e
may_not m (CannotMove.not_yet j e d) = d (m.above j e)

parent_yes : (s : Set) (k i : ℕ) → parent_moved s k i ≡ true → (j : ℕ) → k ≡ suc j → bin_at s j (i % length_at s j) ≡ moved
unfolding parent_moved
parent_yes s zero i e j z = absurd (omega arith)
parent_yes s (suc k) i e j z = let y : k ≡ j = omega arith in rw (← y) (is_moved_lem _ e)

parent_no : (s : Set) (k i : ℕ) → parent_moved s k i ≡ false → CannotMove s k i
unfolding parent_moved
parent_no s zero i e = absurd (false≢true (sym e))
parent_no s (suc k) i e = CannotMove.not_yet k refl (not_moved _ e)

pub may_move : (s : Set) (k i : ℕ) → (movable s k i ≡ true → May s k i) × (movable s k i ≡ false → CannotMove s k i)
unfolding movable
may_move s k i =
    go (ltb (suc k) (tables_of s)) refl (ltb i (length_at s k)) refl (is_moved (bin_at s k i)) refl
  where
    go : (a : Bool) → ltb (suc k) (tables_of s) ≡ a → (b : Bool) → ltb i (length_at s k) ≡ b → (c : Bool) → is_moved (bin_at s k i) ≡ c
        → (movable s k i ≡ true → May s k i) × (movable s k i ≡ false → CannotMove s k i)
    go false x b y c z = rw x (λ e. absurd (false≢true e), λ e. CannotMove.no_next (ltb-false _ _ x))
    go true x false y c z = rw (x, y) (λ e. absurd (false≢true e), λ e. CannotMove.no_bin (ltb-false _ _ y))
    go true x true y true z = rw (x, y, z) (λ e. absurd (false≢true e), λ e. CannotMove.already (is_moved_lem _ z))
    go true x true y false z =
        let l : suc k < tables_of s = ltb-true _ _ x in
        rw (x, y, z) (
          λ e. record {
            there = record { table = omega arith; index = ltb-true _ _ y };
            lower = l;
            unmoved = not_moved _ z;
            above = parent_yes s k i e;
          },
          λ e. parent_no s k i e,
        )

-- Where a bin may be moved and no half lacks a header, it is moved; else the headers run out.
module _ {s : Set} {k i : ℕ} (fit : Fit s) (acc : Accepted s) (m : May s k i) where
  abbrev low : List ℕ
  low = low_half s k i

  abbrev high : List ℕ
  high = high_half s k i

  all_moved : lacks (half_count s k i i) (low_header s k i) ≡ false
      → lacks (half_count s k i (high_index s k i)) (high_header s k i) ≡ false
      → BinMoved s k i low high (both_laid s k i)
  all_moved a b =
      let lows = low_chosen fit acc m.there a in
      let highs = high_chosen fit acc m.there a b in
      let d = half_done fit acc m.there m.lower m.unmoved m.above (λ z. (lows z).0) in
      let g = whole_done fit acc m.there m.lower m.unmoved m.above d highs in
      subst (λ (t : Set). BinMoved s k i low high t) (sym g.is)
      (moved_well fit acc m.there m.lower m.unmoved m.above d g lows highs)

  -- Where none lacks a header, the headers do not run out.
  enough : lacks (half_count s k i i) (low_header s k i) ≡ false
      → lacks (half_count s k i (high_index s k i)) (high_header s k i) ≡ false
      → RunOut s k i low high → ⊥
  enough a b (for_one (inl big) none) = none _ (low_chosen fit acc m.there a big).0
  enough a b (for_one (inr big) none) = none _ (high_chosen fit acc m.there a b big).frees
  enough a b (for_two big bigger same) =
      let r = high_chosen fit acc m.there a b bigger in
      r.other big (same _ _ r.frees (low_chosen fit acc m.there a big).0)

  told : half_count s k i i + half_count s k i (high_index s k i) ≡ length (entries_in s (bin_at s k i))
  told = omega (arith, low_count fit acc m.there, high_count fit acc m.there, both_count fit acc m.there m.lower)

-- What a move comes to, in the order of the refusals.
pub data View (s : Set) (k i : ℕ) : MoveOutcome → Type 0 where
  unfit : (Fit s → ⊥) → View s k i (move_outcome (refused 1) s)
  no_table : Fit s → tables_of s ≤ k → View s k i (move_outcome (refused 10) s)
  not-accepted : Fit s → k < tables_of s → (Accepted s → ⊥) → View s k i (move_outcome (refused 2) s)
  cannot : Fit s → k < tables_of s → Accepted s → CannotMove s k i → View s k i (move_outcome (refused 16) s)
  short : Fit s → Accepted s → May s k i → RunOut s k i (low_half s k i) (high_half s k i) → View s k i (move_outcome (refused 5) s)
  went : {t : Set} {n : ℕ} → Fit s → Accepted s → May s k i → (RunOut s k i (low_half s k i) (high_half s k i) → ⊥)
      → n ≡ length (entries_in s (bin_at s k i))
      → BinMoved s k i (low_half s k i) (high_half s k i) t
      → View s k i (move_outcome (given n) t)

-- A bin that may be moved.
view_bin : {s : Set} {k i : ℕ} → Fit s → Accepted s → May s k i → View s k i (moves_bin s k i)
unfolding moves_bin
view_bin {s} {k} {i} fit acc m =
    go (lacks (half_count s k i i) (low_header s k i)) refl (lacks (half_count s k i (high_index s k i)) (high_header s k i)) refl
  where
    go : (a : Bool) → lacks (half_count s k i i) (low_header s k i) ≡ a → (b : Bool)
        → lacks (half_count s k i (high_index s k i)) (high_header s k i) ≡ b
        → View s k i (moves_bin s k i)
    go true e b f = rw e (short fit acc m (low_short fit acc m.there e))
    go false e true f = rw (e, f) (short fit acc m (high_short fit acc m.there e f))
    go false e false f = rw (e, f) (went fit acc m (enough fit acc m e f) (told fit acc m) (all_moved fit acc m e f))

pub view : (s : Set) (k i : ℕ) → View s k i (moves s k i)
unfolding moves
view s k i = go (fits s) refl (ltb k (tables_of s)) refl (accepted s) refl (movable s k i) refl
  where
    go : (a : Bool) → fits s ≡ a → (b : Bool) → ltb k (tables_of s) ≡ b → (c : Bool) → accepted s ≡ c → (d : Bool) → movable s k i ≡ d
        → View s k i (moves s k i)
    go false u b v c w d x = rw u (unfit (λ h. false≢true (sym u ∙ fit_fits h)))
    go true u false v c w d x = rw (u, v) (no_table (fits_fit s u) (ltb-false _ _ v))
    go true u true v false w d x =
        rw (u, v, w) (not-accepted (fits_fit s u) (ltb-true _ _ v) (λ h. false≢true (sym w ∙ accepted_yes (fits_fit s u) h)))
    go true u true v true w false x =
        rw (u, v, w, x) (cannot (fits_fit s u) (ltb-true _ _ v) (yes_accepted (fits_fit s u) w) ((may_move s k i).1 x))
    go true u true v true w true x =
        rw (u, v, w, x) (view_bin (fits_fit s u) (yes_accepted (fits_fit s u) w) ((may_move s k i).0 x))
