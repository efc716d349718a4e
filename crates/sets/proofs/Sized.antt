-- What each way out of a loop over the tables' lengths says, where the bins of tables that double begin, and which numbers the thirteen
-- powers are.
use mathlib.Core.Path.{◌≡◌, refl, sym, ap}
use mathlib.Core.Logic.{◌≢◌, ◌⊎◌, inl, inr}
use mathlib.Core.Bool.{Bool, true, false, false≢true}
use mathlib.Core.List.{List}
use Prim.Native.Nat.{ℕ, zero, suc, ◌+◌, ◌-◌, ◌*◌, ◌<◌, ◌≤◌, min}
use native.Mathlib.Numerals.{add-one, sub-one}
use native.Mathlib.Decide.{ℕ_discrete, dec_lt}
use native.Mathlib.Nat.{mul-suc}
use native.Mathlib.Omega.{arith}
use lib.ListN.{length, get_or, get_or-eq_default}
use lib.Dec.{leb}
use borrow.Author.Tests.{leb-true, eq-eqb, ne_eqb, le-leb, lt-leb}
use Rattle.index_rules.proofs.Fit.{both}
use Rattle.set_rules.proofs.Fit.{doubled_twice}
use Rattle.set_rules.specs.Words.{Set, tables_of, bins_before, doubling, doubled, fit_tables, fits}

-- One table more.
pub begins_on : (l : List ℕ) (j : ℕ) → bins_before l (j + 1) ≡ bins_before l j + get_or l j 0
unfolding bins_before
begins_on l j = rw add-one

-- Where no table has more than m bins.
pub begins_most : (m : ℕ) (l : List ℕ) → ((j : ℕ) → get_or l j 0 ≤ m) → (k : ℕ) → bins_before l k ≤ m * k
unfolding bins_before
begins_most m l most zero = omega arith
begins_most m l most (suc k) = rw (mul-suc m k) (omega (arith, most k, begins_most m l most k))

-- Past the last table nothing is added.
pub begins_past : (l : List ℕ) (j : ℕ) → length l ≤ j → (k : ℕ) → j ≤ k → bins_before l k ≡ bins_before l j
unfolding bins_before
begins_past l j h zero g = let z : j ≡ 0 = omega arith in rw z
begins_past l j h (suc k) g = go (ℕ_discrete (suc k) j) (λ n. begins_past l j h k (omega arith))
  where
    go : Dec (suc k ≡ j) → (suc k ≢ j → bins_before l k ≡ bins_before l j) → bins_before l (suc k) ≡ bins_before l j
    go (yes e) rest = ap (bins_before l) e
    go (no n) rest = omega (arith, rest n, get_or-eq_default l 0 {n = k} (omega arith))

-- So the first k tables have as many as those of them that are there.
pub begins_within : (l : List ℕ) (k m : ℕ) → m ≡ min (length l) k → bins_before l m ≡ bins_before l k
begins_within l k m e = go (dec_lt (length l) k)
  where
    go : Dec (length l < k) → bins_before l m ≡ bins_before l k
    go (yes h) = let z : m ≡ length l = omega arith in rw z (sym (begins_past l (length l) (omega arith) k (omega arith)))
    go (no h) = let z : m ≡ k = omega arith in ap (bins_before l) z

-- Where each table is twice as long as the one before, it has as many bins as those before it and the first again.
pub begins_at : (l : List ℕ) (k : ℕ) → ((j : ℕ) → j < k → get_or l (suc j) 0 ≡ 2 * get_or l j 0)
    → bins_before l k + get_or l 0 0 ≡ get_or l k 0
unfolding bins_before
begins_at l zero twice = omega arith
begins_at l (suc k) twice = omega (arith, twice k (omega arith), begins_at l k (λ j b. twice j (omega arith)))

-- The tables up to k double.
module _ (l : List ℕ) where
  pub doubled_none : doubled 0 l ≡ true
  unfolding doubled
  doubled_none = refl

  -- One table more.
  pub doubled_on : (k : ℕ) → 1 ≤ k → doubled (k - 1) l ≡ true → get_or l k 0 ≡ 2 * get_or l (k - 1) 0 → doubled k l ≡ true
  unfolding doubled
  doubled_on zero h d e = absurd (omega arith)
  doubled_on (suc k) h d e = simp (eq-eqb _ _ (rw sub-one at e), rw sub-one at d)

  -- A table that is not twice as long as the one before is wrong whatever comes after it.
  pub doubled_no : (k : ℕ) → 1 ≤ k → get_or l k 0 ≢ 2 * get_or l (k - 1) 0 → (m : ℕ) → k ≤ m → doubled m l ≡ false
  doubled_no zero h n m g = absurd (omega arith)
  doubled_no (suc k) h n m g = go (doubled m l) refl
    where
      go : (b : Bool) → doubled m l ≡ b → doubled m l ≡ false
      go false e = e
      go true e = absurd (n (rw sub-one (doubled_twice m l e k (omega arith))))

-- The thirteen powers, 1 and 2 by range.
pub powers : (x : ℕ)
    → (x ≡ 4)
    ⊎ ((x ≡ 8) ⊎ ((x ≡ 16) ⊎ ((x ≡ 32) ⊎ ((x ≡ 64) ⊎ ((x ≡ 128) ⊎ ((x ≡ 256) ⊎ ((x ≡ 512) ⊎ ((x ≡ 1024) ⊎ ((x ≡ 2048) ⊎ (x ≡ 4096))))))))))
    → true ≡ doubling 13 x 1
unfolding doubling
powers x (inl e) = rw e
powers x (inr (inl e)) = rw e
powers x (inr (inr (inl e))) = rw e
powers x (inr (inr (inr (inl e)))) = rw e
powers x (inr (inr (inr (inr (inl e))))) = rw e
powers x (inr (inr (inr (inr (inr (inl e)))))) = rw e
powers x (inr (inr (inr (inr (inr (inr (inl e))))))) = rw e
powers x (inr (inr (inr (inr (inr (inr (inr (inl e)))))))) = rw e
powers x (inr (inr (inr (inr (inr (inr (inr (inr (inl e))))))))) = rw e
powers x (inr (inr (inr (inr (inr (inr (inr (inr (inr (inl e)))))))))) = rw e
powers x (inr (inr (inr (inr (inr (inr (inr (inr (inr (inr e)))))))))) = rw e

pub low_powers : (x : ℕ) → 1 ≤ x → x < 3 → true ≡ doubling 13 x 1
unfolding doubling
low_powers x a b = go (ℕ_discrete x 1)
  where
    go : Dec (x ≡ 1) → true ≡ doubling 13 x 1
    go (yes e) = rw e
    go (no n) = let z : x ≡ 2 = omega arith in rw z

pub no_power : (x : ℕ)
    → ((x ≡ 4)
    ⊎ ((x ≡ 8) ⊎ ((x ≡ 16) ⊎ ((x ≡ 32) ⊎ ((x ≡ 64) ⊎ ((x ≡ 128) ⊎ ((x ≡ 256) ⊎ ((x ≡ 512) ⊎ ((x ≡ 1024) ⊎ ((x ≡ 2048) ⊎ (x ≡ 4096))))))))))
    → ⊥)
    → (x ≢ 1) → (x ≢ 2)
    → false ≡ doubling 13 x 1
unfolding doubling
no_power x n one two =
    simp (
      ne_eqb x 1 one,
      ne_eqb x 2 two,
      ne_eqb x 4 (λ e. n (inl e)),
      ne_eqb x 8 (λ e. n (inr (inl e))),
      ne_eqb x 16 (λ e. n (inr (inr (inl e)))),
      ne_eqb x 32 (λ e. n (inr (inr (inr (inl e))))),
      ne_eqb x 64 (λ e. n (inr (inr (inr (inr (inl e)))))),
      ne_eqb x 128 (λ e. n (inr (inr (inr (inr (inr (inl e))))))),
      ne_eqb x 256 (λ e. n (inr (inr (inr (inr (inr (inr (inl e)))))))),
      ne_eqb x 512 (λ e. n (inr (inr (inr (inr (inr (inr (inr (inl e))))))))),
      ne_eqb x 1024 (λ e. n (inr (inr (inr (inr (inr (inr (inr (inr (inl e)))))))))),
      ne_eqb x 2048 (λ e. n (inr (inr (inr (inr (inr (inr (inr (inr (inr (inl e))))))))))),
      ne_eqb x 4096 (λ e. n (inr (inr (inr (inr (inr (inr (inr (inr (inr (inr e))))))))))),
    )

-- Tables that fit are few.
pub few : (l : List ℕ) → fit_tables l ≡ true → length l ≤ 8
unfolding fit_tables
few l h = go (dec_lt (length l) 1) (dec_lt 8 (length l))
  where
    go : Dec (length l < 1) → Dec (8 < length l) → length l ≤ 8
    go (yes a) b = omega arith
    go (no a) (yes b) = absurd (false≢true (simp (le-leb 1 (length l) (omega arith), lt-leb (length l) 8 b) at h))
    go (no a) (no b) = omega arith

-- .. and there is one.
pub some_table : (l : List ℕ) → fit_tables l ≡ true → 1 ≤ length l
unfolding fit_tables
some_table l e = leb-true 1 (length l) (both (leb 1 (length l)) _ e).0

-- Tables that fit double, so their bins are the last's twice, less the first's.
pub all_bins : (l : List ℕ) → fit_tables l ≡ true → bins_before l (length l) + get_or l 0 0 ≡ 2 * get_or l (length l - 1) 0
unfolding fit_tables
all_bins l e =
    let p = both (leb 1 (length l)) _ e in
    let q = both (leb (length l) 8) _ p.1 in
    let u = both (doubling 13 (get_or l 0 0) 1) _ q.1 in
    let v = both (doubled (length l - 1) l) _ u.1 in
    let z : length l - 1 + 1 ≡ length l = omega (arith, leb-true 1 (length l) p.0) in
    omega (arith, begins_at l (length l - 1) (doubled_twice _ l v.0), rw z at (begins_on l (length l - 1)))

-- No table, or too many.
module _ (l : List ℕ) where
  pub no_table : length l < 1 → false ≡ fit_tables l
  unfolding fit_tables
  no_table h = simp (lt-leb _ _ h)

  pub too_many : 1 ≤ length l → 8 < length l → false ≡ fit_tables l
  unfolding fit_tables
  too_many least h = simp (le-leb _ _ least, lt-leb _ _ h)

pub fits_few : (s : Set) → fits s ≡ true → tables_of s ≤ 8
unfolding fits
fits_few s h = go (fit_tables s.lengths) refl
  where
    go : (b : Bool) → fit_tables s.lengths ≡ b → tables_of s ≤ 8
    go true e = few s.lengths e
    go false e = absurd (false≢true (simp e at h))
