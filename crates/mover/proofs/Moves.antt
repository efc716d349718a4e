-- What a move comes to on each of its ways is what the model says.
use mathlib.Core.Path.{◌≡◌, refl, ap, sym, ◌∙◌}
use mathlib.Core.Bool.{Bool, true, false}
use mathlib.Core.List.{List}
use Prim.Native.Nat.{ℕ, zero, suc, ◌+◌, ◌-◌, ◌/◌, ◌<◌, ◌≤◌}
use native.Mathlib.Omega.{arith}
use lib.ListN.{length}
use lib.Dec.{eqb, leb}
use borrow.Author.Tests.{lt-ltb, le-ltb}
use Rattle.std.specs.Prelude.{Result, Ok, Err}
use Rattle.std.specs.Result.{IsErrAnd}
use Rattle.slots.specs.Words.{null, pick, next, cell}
use Rattle.slots.specs.Answers.{given, refused}
use Rattle.slots.specs.Coded.{verdict}
use Rattle.slots.proofs.Laws.{number, given_is}
use Rattle.set_rules.specs.Words.{Set, tables_of, length_at, fits, bin_of, bin_word}
use Rattle.set_rules.specs.Accepting.{accepted, accepts, is_home}
use Rattle.set_rules.proofs.Fit.{fits_fit, length_bound}
use Rattle.move_rules.specs.Passes.{home_count}
use Rattle.move_rules.specs.Moving.{header_in, half_count, half_first, most_listed, spare_from, header_for, low_header, high_header, lacks}
use Rattle.move_rules.specs.Moving.{bin_taken}
use Rattle.move_rules.specs.Moving.{half_laid, low_laid, both_laid, movable, MoveOutcome, move_outcome, moves_bin, moves}
use Rattle.move_rules.proofs.Deciding.{may_move}
use Rattle.mover.specs.Moved.{halves_laid, FitAccepted}

-- Both halves laid, one after the other.
pub both : (s : Set) (k i j g h low high : ℕ) {a b : ℕ} {t u v : Set} → a ≡ half_first s k i i → b ≡ half_first s k i j
    → t ≡ bin_taken s k i
    → u ≡ half_laid t (k + 1) i g a low
    → v ≡ half_laid u (k + 1) j h b high
    → v ≡ halves_laid s k i j g h low high
unfolding halves_laid
both s k i j g h low high p q e f w = let z : k + 1 ≡ suc k = omega arith in w ∙ rw (f, e, p, q, z)

-- A count is no more than the slots that are left.
count_most : (v : ℕ) (names cells : List ℕ) (len j p : ℕ) → home_count v names cells len j p ≤ v
unfolding home_count
count_most zero names cells len j p = omega arith
count_most (suc v) names cells len j p = go (eqb p null) (is_home names len j p) (count_most v names cells len j (cell cells p next))
  where
    go : (a b : Bool) {n : ℕ} → n ≤ v → pick a 0 (pick b 1 0 + n) ≤ suc v
    go true b l = omega arith
    go false true l = omega arith
    go false false l = omega arith

module _ (s : Set) (k i : ℕ) where
  pub half_most : (j : ℕ) → half_count s k i j ≤ length s.names / 2
  unfolding half_count
  half_most j = count_most _ _ _ _ _ _

  -- The numbers of a move stay within their words.
  pub record Within : Type 0 where
    pub table : k < 8
    pub width : length_at s k ≤ 4096
    pub index : i < length_at s k
    pub slots : length s.names ≤ 8192
    pub headers : length s.heads ≤ 12288

  pub within : fits s ≡ true → movable s k i ≡ true → Within
  within e m =
      let f = fits_fit s e in
      let p = (may_move s k i).0 m in
      record {
        table = omega (arith, p.lower, f.most);
        width = length_bound f k;
        index = p.there.index;
        slots = omega (arith, f.two, f.slots_most);
        headers = omega (arith, f.three, f.headers_most);
      }

  -- The headers that the code finds.
  module _ {low high len own g : ℕ} (a : low ≡ half_count s k i i) (z : len ≡ length_at s k) (b : high ≡ half_count s k i (i + len))
      (o : own ≡ header_in (bin_of (length s.names / 2) (length s.heads / 3) (bin_word s k i)))
      (e : g ≡ pick (leb low most_listed) null (spare_from (length s.heads / 3 - 0) s.heads own 0)) where
    low_is : g ≡ low_header s k i
    unfolding low_header header_for
    low_is = e ∙ rw (a, o)

    high_counts : high ≡ half_count s k i (i + length_at s k)
    high_counts = b ∙ rw z

    pub low_short : lacks low g ≡ true → move_outcome (refused 5) s ≡ moves_bin s k i
    unfolding moves_bin
    low_short y = let n : lacks (half_count s k i i) (low_header s k i) ≡ true = rw (← a, ← low_is) y in rw n

    module _ {from h : ℕ} (y : lacks low g ≡ false) (c : from ≡ pick (leb low most_listed) 0 (suc g))
        (d : h ≡ pick (leb high most_listed) null (spare_from (length s.heads / 3 - from) s.heads own from)) where
      low_has : lacks (half_count s k i i) (low_header s k i) ≡ false
      low_has = rw (← a, ← low_is) y

      high_is : h ≡ high_header s k i
      unfolding high_header header_for
      high_is = d ∙ rw (c, low_is, high_counts, a, o)

      pub high_short : lacks high h ≡ true → move_outcome (refused 5) s ≡ moves_bin s k i
      unfolding moves_bin
      high_short q =
          let n : lacks (half_count s k i (i + length_at s k)) (high_header s k i) ≡ true = rw (← high_counts, ← high_is) q in
          rw (low_has, n)

      pub moved : {u : Set} → lacks high h ≡ false → u ≡ halves_laid s k i (i + len) g h low high
          → move_outcome (given (low + high)) u ≡ moves_bin s k i
      unfolding moves_bin both_laid low_laid halves_laid
      moved {u = u} q r =
          let n : lacks (half_count s k i (i + length_at s k)) (high_header s k i) ≡ false = rw (← high_counts, ← high_is) q in
          let l : u ≡ both_laid s k i = r ∙ rw (z, high_is, low_is, high_counts, a) in
          let m : low + high ≡ half_count s k i i + half_count s k i (i + length_at s k) = rw (high_counts, a) in
          rw (low_has, n) (λ x. move_outcome (given (m x)) (l x))

-- An error that is handed on is the only one.
pub passed : {T E : Type 0} (k : E) (r : Result T E) → IsErrAnd r (λ e. e ≡ k) → r ≡ Err k
passed k (Ok v) h = absurd h
passed k (Err e) h = ap Err h

-- What acceptance answers settles both tests.
module _ (s : Set) where
  pub judged_unfit : refused 1 ≡ accepts s → fits s ≡ false
  unfolding accepts
  judged_unfit e = go (fits s) (accepted s) e refl
    where
      go : (f a : Bool) → refused 1 ≡ pick f (pick a (given 1) (given 0)) (refused 1) → fits s ≡ f → fits s ≡ false
      go true true e z = absurd (omega (arith, number e))
      go true false e z = absurd (omega (arith, number e))
      go false a e z = z

  pub judged : (b : Bool) → verdict b ≡ accepts s → (fits s ≡ true) × (accepted s ≡ b)
  unfolding accepts
  judged b e = go b (fits s) (accepted s) e refl refl
    where
      go : (b f a : Bool) → verdict b ≡ pick f (pick a (given 1) (given 0)) (refused 1) → fits s ≡ f → accepted s ≡ a
          → (fits s ≡ true) × (accepted s ≡ b)
      go true true true e z y = (z, y)
      go true true false e z y = absurd (omega (arith, given_is e))
      go false true true e z y = absurd (omega (arith, given_is e))
      go false true false e z y = (z, y)
      go true false a e z y = absurd (omega (arith, number e))
      go false false a e z y = absurd (omega (arith, number e))

module _ (s : Set) (k i : ℕ) where
  pub unfit_moves : fits s ≡ false → move_outcome (refused 1) s ≡ moves s k i
  unfolding moves
  unfit_moves e = rw e

  module _ (f : fits s ≡ true) where
    pub table_moves : tables_of s ≤ k → move_outcome (refused 10) s ≡ moves s k i
    unfolding moves
    table_moves b = rw (f, le-ltb k (tables_of s) b)

    module _ (b : k < tables_of s) where
      pub damaged_moves : accepted s ≡ false → move_outcome (refused 2) s ≡ moves s k i
      unfolding moves
      damaged_moves e = rw (f, lt-ltb k (tables_of s) b, e)

  module _ (h : FitAccepted s) (b : k < tables_of s) {t : Bool} (m : t ≡ movable s k i) where
    pub cannot_moves : t ≡ false → move_outcome (refused 16) s ≡ moves s k i
    unfolding moves
    cannot_moves n = rw (h.fit, lt-ltb k (tables_of s) b, h.accepts, sym m ∙ n)

    pub may_moves : t ≡ true → {o : MoveOutcome} → o ≡ moves_bin s k i → o ≡ moves s k i
    unfolding moves
    may_moves n g = g ∙ rw (h.fit, lt-ltb k (tables_of s) b, h.accepts, sym m ∙ n)
