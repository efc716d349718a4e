-- Every claim of the crate holds.
use mathlib.Core.Path.{◌≡◌, refl, ap, sym, ◌∙◌}
use mathlib.Core.Logic.{◌≢◌, ◌↔◌}
use mathlib.Core.Bool.{Bool, true, false}
use mathlib.Core.List.{List}
use Prim.Native.Nat.{ℕ, ◌<◌, ◌≤◌}
use native.Mathlib.Omega.{arith}
use lib.ListN.{length}
use Rattle.slots.specs.Answers.{given, refused}
use Rattle.slots.proofs.Laws.{number}
use Rattle.set_rules.specs.Words.{Set, Fit, tables_of, bin_at}
use Rattle.set_rules.specs.Accepted.{Accepted}
use Rattle.move_rules.specs.Moving.{movable, MoveOutcome, move_outcome, moves}
use Rattle.move_rules.specs.Moved.{SplitBin, CannotMove, RunOut, BinMoved}
use Rattle.move_rules.specs.Claims.{Claims}
use Rattle.move_rules.proofs.Halves.{entries_in, low_half, high_half}
use Rattle.move_rules.proofs.Splitting.{splits, all_is, low_is, high_is}
use Rattle.move_rules.proofs.Deciding.{May, may_not, may_move, View, view}
use Rattle.move_rules.proofs.Finishing.{finished_well}
use Rattle.move_rules.proofs.Stopping.{stopped}
use Rattle.move_rules.proofs.Printing.{file_told, line_short}
use Rattle.move_rules.proofs.Worked.{worked_moves}

may_of : {s : Set} (k i : ℕ) → (CannotMove s k i → ⊥) → May s k i
may_of {s} k i n = go (movable s k i) refl
  where
    go : (b : Bool) → movable s k i ≡ b → May s k i
    go true e = (may_move s k i).0 e
    go false e = absurd (n ((may_move s k i).1 e))

-- Two answers of different numbers differ.
clash : {a b : ℕ} {A : Type 0} → a ≢ b → refused a ≡ refused b → A
clash d e = absurd (d (number e))

given_clash : {v b : ℕ} {A : Type 0} → 0 ≢ b → given v ≡ refused b → A
given_clash d e = absurd (d (number e))

module _ (s : Set) (k i : ℕ) where
  one : {o : MoveOutcome} → View s k i o → (o.answer ≡ refused 1) ↔ (Fit s → ⊥)
  one (View.unfit n) = (λ e. n, λ x. refl)
  one (View.no_table f b) = (λ e. clash (omega arith) e, λ n. absurd (n f))
  one (View.not-accepted f b n) = (λ e. clash (omega arith) e, λ n. absurd (n f))
  one (View.cannot f b h c) = (λ e. clash (omega arith) e, λ n. absurd (n f))
  one (View.short f h m a) = (λ e. clash (omega arith) e, λ n. absurd (n f))
  one (View.went f h m a w b) = (λ e. given_clash (omega arith) e, λ n. absurd (n f))

  ten : {o : MoveOutcome} → View s k i o → (o.answer ≡ refused 10) ↔ (Fit s × (tables_of s ≤ k))
  ten (View.unfit n) = (λ e. clash (omega arith) e, λ x. absurd (n x.0))
  ten (View.no_table f b) = (λ e. (f, b), λ x. refl)
  ten (View.not-accepted f b n) = (λ e. clash (omega arith) e, λ x. absurd (omega (arith, x.1)))
  ten (View.cannot f b h c) = (λ e. clash (omega arith) e, λ x. absurd (omega (arith, x.1)))
  ten (View.short f h m a) = (λ e. clash (omega arith) e, λ x. absurd (omega (arith, x.1, m.there.table)))
  ten (View.went f h m a w b) = (λ e. given_clash (omega arith) e, λ x. absurd (omega (arith, x.1, m.there.table)))

  two : {o : MoveOutcome} → View s k i o → (o.answer ≡ refused 2) ↔ (Fit s × (k < tables_of s) × (Accepted s → ⊥))
  two (View.unfit n) = (λ e. clash (omega arith) e, λ x. absurd (n x.0))
  two (View.no_table f b) = (λ e. clash (omega arith) e, λ x. absurd (omega (arith, x.1)))
  two (View.not-accepted f b n) = (λ e. (f, b, n), λ x. refl)
  two (View.cannot f b h c) = (λ e. clash (omega arith) e, λ x. absurd (x.2 h))
  two (View.short f h m a) = (λ e. clash (omega arith) e, λ x. absurd (x.2 h))
  two (View.went f h m a w b) = (λ e. given_clash (omega arith) e, λ x. absurd (x.2 h))

  sixteen : {o : MoveOutcome} → View s k i o → (o.answer ≡ refused 16) ↔ (Fit s × (k < tables_of s) × Accepted s × CannotMove s k i)
  sixteen (View.unfit n) = (λ e. clash (omega arith) e, λ x. absurd (n x.0))
  sixteen (View.no_table f b) = (λ e. clash (omega arith) e, λ x. absurd (omega (arith, x.1)))
  sixteen (View.not-accepted f b n) = (λ e. clash (omega arith) e, λ x. absurd (n x.2))
  sixteen (View.cannot f b h c) = (λ e. (f, b, h, c), λ x. refl)
  sixteen (View.short f h m a) = (λ e. clash (omega arith) e, λ x. absurd (may_not m x.3))
  sixteen (View.went f h m a w b) = (λ e. given_clash (omega arith) e, λ x. absurd (may_not m x.3))

  five : {o : MoveOutcome} → View s k i o → (all low high : List ℕ) → SplitBin s k i all low high
      → (o.answer ≡ refused 5) ↔ (Fit s × (k < tables_of s) × Accepted s × (CannotMove s k i → ⊥) × RunOut s k i low high)
  five (View.unfit n) all low high c = (λ e. clash (omega arith) e, λ x. absurd (n x.0))
  five (View.no_table f b) all low high c = (λ e. clash (omega arith) e, λ x. absurd (omega (arith, x.1)))
  five (View.not-accepted f b n) all low high c = (λ e. clash (omega arith) e, λ x. absurd (n x.2))
  five (View.cannot f b h n) all low high c = (λ e. clash (omega arith) e, λ x. absurd (x.3 n))
  five (View.short f h m a) all low high c = (
    λ e. (f, m.there.table, h, may_not m, rw (low_is f h m.there m.unmoved c, high_is f h m.there m.unmoved c) a),
    λ x. refl,
  )
  five (View.went f h m a w b) all low high c = (
    λ e. given_clash (omega arith) e,
    λ x. absurd (a (rw (low_is f h m.there m.unmoved c, high_is f h m.there m.unmoved c) at x.4)),
  )

  unchanged : {o : MoveOutcome} → View s k i o → o.answer.number ≢ 0 → o.set ≡ s
  unchanged (View.unfit n) d = refl
  unchanged (View.no_table f b) d = refl
  unchanged (View.not-accepted f b n) d = refl
  unchanged (View.cannot f b h c) d = refl
  unchanged (View.short f h m a) d = refl
  unchanged (View.went f h m a w b) d = absurd (d refl)

  went_well : {o : MoveOutcome} → View s k i o → (all low high : List ℕ) → SplitBin s k i all low high → Fit s → Accepted s
      → (CannotMove s k i → ⊥)
      → (RunOut s k i low high → ⊥)
      → (o.answer ≡ given (length all)) × BinMoved s k i low high o.set
  went_well (View.unfit n) all low high c f h d r = absurd (n f)
  went_well (View.no_table x b) all low high c f h d r = absurd (omega (arith, (may_of k i d).there.table))
  went_well (View.not-accepted x b n) all low high c f h d r = absurd (n h)
  went_well (View.cannot x b y n) all low high c f h d r = absurd (d n)
  went_well (View.short x y m a) all low high c f h d r =
      absurd (r (rw (low_is f h m.there m.unmoved c, high_is f h m.there m.unmoved c) a))
  went_well (View.went x y m a w b) all low high c f h d r = (
    ap given (w ∙ ap length (sym (all_is f h m.there m.unmoved c))),
    rw (low_is f h m.there m.unmoved c, high_is f h m.there m.unmoved c) b,
  )

-- A move that answers a refusal comes to it with the set as it was.
refusal_is : (s : Set) (k i n : ℕ) → n ≢ 0 → (moves s k i).answer ≡ refused n → moves s k i ≡ move_outcome (refused n) s
refusal_is s k i n d e =
    let t = unchanged s k i (view s k i) (λ z. d (sym (number e) ∙ z)) in λ x. move_outcome (e x) (t x)

pub claims : Claims
claims =
    record {
      refusals = λ s k i. record {
        one = one s k i (view s k i);
        ten = ten s k i (view s k i);
        two = two s k i (view s k i);
        sixteen = sixteen s k i (view s k i);
        five = five s k i (view s k i);
        unchanged = unchanged s k i (view s k i);
      };
      moving = λ s k i. record {
        splits = λ f h n. (let m = may_of k i n in
            (entries_in s (bin_at s k i), low_half s k i, high_half s k i, splits f h m.there m.unmoved));
        one_split = λ f h n a b c d e g x y. (let m = may_of k i n in (
          all_is f h m.there m.unmoved x ∙ sym (all_is f h m.there m.unmoved y),
          low_is f h m.there m.unmoved x ∙ sym (low_is f h m.there m.unmoved y),
          high_is f h m.there m.unmoved x ∙ sym (high_is f h m.there m.unmoved y),
        ));
        moved = went_well s k i (view s k i);
      };
      finishes = λ s f h. finished_well f h;
      finishes_unfit = λ s n. stopped s 1 (omega arith) (omega arith)
          (λ k i b. refusal_is s k i 1 (omega arith) ((one s k i (view s k i)).1 n));
      finishes_damaged = λ s f n. stopped s 2 (omega arith) (omega arith)
          (λ k i b. refusal_is s k i 2 (omega arith) ((two s k i (view s k i)).1 (f, b, n)));
      files = file_told;
      room = line_short;
      worked = worked_moves;
    }
