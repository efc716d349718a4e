-- The test of fitness holds exactly of fit words: the first length is one of thirteen powers of two, since no later one is shorter.
-- Each table's length is then a power of two, and the bin that a hash names is the hash modulo it.
use mathlib.Core.Path.{◌≡◌, refl, sym, ◌∙◌}
use mathlib.Core.Logic.{◌≢◌, ◌↔◌, ◌⊎◌, inl, inr}
use mathlib.Core.Bool.{Bool, true, false, false≢true}
use mathlib.Core.List.{List}
use Prim.Native.Nat.{ℕ, zero, suc, ◌+◌, ◌-◌, ◌*◌, ◌%◌, ◌^◌, ◌≤◌, ◌<◌}
use native.Mathlib.Decide.{ℕ_discrete, dec_le}
use native.Mathlib.Nat.{pow-succ', pow-le-pow_right, one-le-pow, mul_comm, mul_assoc, mod-lt, mod-eq_of_lt, mod-eq-sub-mod, add-mod_right}
use native.Mathlib.Nat.{mod-mod_of_dvd, dvd-mul_left}
use native.Mathlib.Omega.{arith}
use lib.ListN.{length, get_or, get_or-eq_default}
use lib.Bits.{and_mask}
use lib.Dec.{eqb, leb}
use borrow.Author.Tests.{eqb-true, leb-true, eq-eqb, le-leb}
use Rattle.slots.specs.Words.{null, pick}
use Rattle.index_rules.proofs.Fit.{both}
use Rattle.index_rules.proofs.Rules.{and}
use Rattle.set_rules.specs.Words.{Set, tables_of, length_at, headers_in, bins_before, Fit, doubling, doubled, fit_tables, fits, bini}
use Rattle.tree_rules.specs.Find.{slots_of}

step_power : (p e : ℕ) → 2 * p * 2 ^ e ≡ p * 2 ^ suc e
step_power p e = rw (pow-succ' 2 e, mul_comm 2 p, mul_assoc p 2 (2 ^ e))

-- The powers of two times p.
doubling_power : (k x p : ℕ) → doubling k x p ≡ true → (e : ℕ) × (x ≡ p * 2 ^ e)
unfolding doubling
doubling_power zero x p h = absurd (false≢true h)
doubling_power (suc k) x p h = go (eqb x p) refl h (λ y. doubling_power k x (2 * p) y)
  where
    go : (b : Bool) → eqb x p ≡ b → pick b true (doubling k x (2 * p)) ≡ true
        → (doubling k x (2 * p) ≡ true → (e : ℕ) × (x ≡ 2 * p * 2 ^ e)) → (e : ℕ) × (x ≡ p * 2 ^ e)
    go true z y again = (0, eqb-true x p z ∙ omega arith)
    go false z y again = let r = again y in (suc r.0, r.1 ∙ step_power p r.0)

power_doubling : (k x p e : ℕ) → e < k → x ≡ p * 2 ^ e → doubling k x p ≡ true
unfolding doubling
power_doubling zero x p e l h = absurd (omega arith)
power_doubling (suc k) x p zero l h = rw (eq-eqb x p (h ∙ omega arith))
power_doubling (suc k) x p (suc e) l h = go (eqb x p) (power_doubling k x (2 * p) e (omega arith) (h ∙ sym (step_power p e)))
  where
    go : (b : Bool) → doubling k x (2 * p) ≡ true → pick b true (doubling k x (2 * p)) ≡ true
    go true r = refl
    go false r = r

-- Each length is twice the one before.
pub doubled_twice : (k : ℕ) (l : List ℕ) → doubled k l ≡ true → (j : ℕ) → j < k → get_or l (suc j) 0 ≡ 2 * get_or l j 0
unfolding doubled
doubled_twice zero l e j b = absurd (omega arith)
doubled_twice (suc k) l e j b =
    let h = both (eqb (get_or l (suc k) 0) (2 * get_or l k 0)) _ e in go (ℕ_discrete j k) h.0 (λ d. doubled_twice k l h.1 j (omega arith))
  where
    go : Dec (j ≡ k) → eqb (get_or l (suc k) 0) (2 * get_or l k 0) ≡ true → (j ≢ k → get_or l (suc j) 0 ≡ 2 * get_or l j 0)
        → get_or l (suc j) 0 ≡ 2 * get_or l j 0
    go (yes z) f rest = rw z (eqb-true _ _ f)
    go (no z) f rest = rest z

twice_doubled : (k : ℕ) (l : List ℕ) → ((j : ℕ) → j < k → get_or l (suc j) 0 ≡ 2 * get_or l j 0) → doubled k l ≡ true
unfolding doubled
twice_doubled zero l h = refl
twice_doubled (suc k) l h = and (eq-eqb _ _ (h k (omega arith))) (twice_doubled k l (λ j b. h j (omega arith)))

module _ {s : Set} (fit : Fit s) where
  -- No table is shorter than one before it, and the last has at most 4,096 bins.
  not_shorter : (d k : ℕ) → k + d < tables_of s → length_at s k ≤ length_at s (k + d)
  not_shorter zero k l = let z : k + 0 ≡ k = omega arith in rw z (omega arith)
  not_shorter (suc d) k l =
      let z : k + suc d ≡ suc (k + d) = omega arith in rw z (omega (arith, not_shorter d k (omega arith), fit.twice (k + d) (omega arith)))

  pub length_bound : (k : ℕ) → length_at s k ≤ 4096
  length_bound k = go (dec_le (tables_of s) k)
    where
      go : Dec (tables_of s ≤ k) → length_at s k ≤ 4096
      go (yes l) = omega (arith, get_or-eq_default s.lengths 0 l)
      go (no d) =
          let z : k + (tables_of s - 1 - k) ≡ tables_of s - 1 = omega arith in
          omega (arith, rw z at (not_shorter (tables_of s - 1 - k) k (omega arith)), fit.last)

  few_powers : fit.power.0 < 13
  few_powers = go (dec_le 13 fit.power.0)
    where
      go : Dec (13 ≤ fit.power.0) → fit.power.0 < 13
      go (no d) = omega arith
      go (yes l) =
          absurd (omega (arith, pow-le-pow_right {n = 2} (omega arith) l, fit.power.1, length_bound 0))

  pub slots_are : slots_of s.names ≡ fit.slots
  slots_are = omega (arith, fit.two)

  pub headers_are : headers_in s ≡ fit.headers
  headers_are = omega (arith, fit.three)

  fit_tables_lem : fit_tables s.lengths ≡ true
  unfolding fit_tables
  fit_tables_lem =
      and (le-leb _ _ fit.least) (and (le-leb _ _ fit.most)
      (and (power_doubling 13 _ 1 fit.power.0 few_powers (fit.power.1 ∙ omega arith))
      (and (twice_doubled (tables_of s - 1) s.lengths (λ j b. fit.twice j (omega arith))) (le-leb _ _ fit.last))))

  pub fit_fits : fits s ≡ true
  unfolding fits
  fit_fits =
      and fit_tables_lem (and (eq-eqb _ _ fit.all) (and (le-leb (slots_of s.names) 4096 (omega (arith, slots_are, fit.slots_most)))
      (and (eq-eqb (length s.names) (2 * slots_of s.names) (omega (arith, slots_are, fit.two)))
      (and (eq-eqb (length s.cells) (7 * slots_of s.names) (omega (arith, slots_are, fit.seven)))
      (and (le-leb (headers_in s) 4096 (omega (arith, headers_are, fit.headers_most)))
      (eq-eqb (length s.heads) (3 * headers_in s) (omega (arith, headers_are, fit.three))))))))

  -- Fit words end long before slot null.
  pub small : slots_of s.names ≤ null
  small = omega (arith, slots_are, fit.slots_most)

  pub ends : length s.cells ≤ 7 * null
  ends = omega (arith, fit.seven, fit.slots_most)

  -- Each table's length is a power of two.
  power_at : (k : ℕ) → k < tables_of s → (e : ℕ) × (length_at s k ≡ 2 ^ e)
  power_at zero l = fit.power
  power_at (suc k) l = let h = power_at k (omega arith) in (suc h.0, fit.twice k l ∙ rw (h.1, pow-succ' 2 h.0))

  pub length_least : (k : ℕ) → k < tables_of s → 1 ≤ length_at s k
  length_least k l = let h = power_at k l in omega (arith, h.1, one-le-pow h.0 2 (omega arith))

  -- The bin that a hash names is the hash modulo the length.
  pub bini_mod : (k : ℕ) → k < tables_of s → (hash : ℕ) → bini (length_at s k) hash ≡ hash % length_at s k
  unfolding bini
  bini_mod k l hash = let h = power_at k l in rw h.1 (and_mask hash h.0)

  -- A bin's parent is the one that the hash names in the table before.
  pub bini_up : (k : ℕ) → suc k < tables_of s → (hash : ℕ) → bini (length_at s (suc k)) hash % length_at s k ≡ bini (length_at s k) hash
  bini_up k l hash =
      rw (bini_mod (suc k) l hash, bini_mod k (omega arith) hash, fit.twice k l)
      (mod-mod_of_dvd (length_at s k) hash (dvd-mul_left (length_at s k) 2))

  pub bini_less : (k : ℕ) → k < tables_of s → (hash : ℕ) → bini (length_at s k) hash < length_at s k
  bini_less k l hash = rw (bini_mod k l hash) (mod-lt hash (length_least k l))

-- The two bins below a bin have it as their parent.
pub near_parent : (i len : ℕ) → i < len → i % len ≡ i
near_parent i len l = mod-eq_of_lt l

pub far_parent : (i len : ℕ) → i < len → (i + len) % len ≡ i
far_parent i len l = add-mod_right i len ∙ mod-eq_of_lt l

-- A bin is one of the two below its parent.
pub halves : (j len : ℕ) → j < 2 * len → (j ≡ j % len) ⊎ (j ≡ j % len + len)
halves j len l = go (dec_le len j)
  where
    go : Dec (len ≤ j) → (j ≡ j % len) ⊎ (j ≡ j % len + len)
    go (no d) = inl (sym (mod-eq_of_lt (omega arith)))
    go (yes h) = inr (let e : j % len ≡ j - len = mod-eq-sub-mod h ∙ mod-eq_of_lt (omega arith) in omega arith)

pub fits_fit : (s : Set) → fits s ≡ true → Fit s
unfolding fits fit_tables
fits_fit s e =
    let n = slots_of s.names in
    let h = headers_in s in
    let t = tables_of s in
    let a = both (fit_tables s.lengths) _ e in
    let b = both (eqb (length s.bins) (bins_before s.lengths t)) _ a.1 in
    let c = both (leb n 4096) _ b.1 in
    let d = both (eqb (length s.names) (2 * n)) _ c.1 in
    let f = both (eqb (length s.cells) (7 * n)) _ d.1 in
    let g = both (leb h 4096) _ f.1 in
    let p = both (leb 1 t) _ a.0 in
    let q = both (leb t 8) _ p.1 in
    let u = both (doubling 13 (length_at s 0) 1) _ q.1 in
    let v = both (doubled (t - 1) s.lengths) _ u.1 in
    let w = doubling_power 13 (length_at s 0) 1 u.0 in
    record {
      least = leb-true 1 t p.0;
      most = leb-true t 8 q.0;
      power = (w.0, w.1 ∙ omega arith);
      twice = λ k l. doubled_twice (t - 1) s.lengths v.0 k (omega arith);
      last = leb-true _ _ v.1;
      all = eqb-true _ _ b.0;
      slots = n;
      slots_most = leb-true n 4096 c.0;
      two = eqb-true _ _ d.0;
      seven = eqb-true _ _ f.0;
      headers = h;
      headers_most = leb-true h 4096 g.0;
      three = eqb-true _ _ g.1;
    }

pub fits_exactly : (s : Set) → (fits s ≡ true) ↔ Fit s
fits_exactly s = (fits_fit s, λ h. fit_fits h)
