-- Lookup on an accepted set is the set's map, from every table.
use mathlib.Core.Path.{◌≡◌, refl, ap, sym, ◌∙◌}
use mathlib.Core.Logic.{◌≢◌, ◌↔◌}
use Prim.Native.Nat.{ℕ, zero, suc, ◌<◌, ◌≤◌}
use native.Mathlib.Decide.{ℕ_discrete}
use native.Mathlib.Omega.{arith}
use Rattle.slots.specs.Words.{name_of, hash_part}
use Rattle.slots.specs.Pairs.{Pair, pair, pair_of}
use Rattle.slots.specs.Answers.{given}
use Rattle.slots.proofs.Laws.{given_is}
use Rattle.set_rules.specs.Words.{Set, Fit, tables_of, length_at, Bin, empty, moved, bin_at, bini}
use Rattle.set_rules.specs.Accepted.{Accepted}
use Rattle.set_rules.proofs.Gathering.{not-empty}
use Rattle.set_rules.proofs.Homes.{above_moved}
use Rattle.set_rules.specs.Lookup.{lookups, Reaches, start, down}
use Rattle.set_rules.specs.Held.{Reached, EntryFrom}
use Rattle.set_rules.specs.Walked.{Map}
use Rattle.set_rules.proofs.Holding.{looks_up}

comes_later : {s : Set} {t hash k : ℕ} → Reaches s t hash k → t ≤ k
comes_later start = omega arith
comes_later (down c m l) = omega (arith, comes_later c)

module _ (s : Set) (fit : Fit s) (acc : Accepted s) where
  module _ (hash t : ℕ) where
    comes_to : (k : ℕ) → t ≤ k → k < tables_of s → bin_at s k (bini (length_at s k) hash) ≢ empty → Reaches s t hash k
    comes_to zero l b d = let z : t ≡ 0 = omega arith in rw (sym z) start
    comes_to (suc k) l b d = go (ℕ_discrete t (suc k)) (λ c e. comes_to k c (omega arith) e)
      where
        go : Dec (t ≡ suc k) → (t ≤ k → bin_at s k (bini (length_at s k) hash) ≢ empty → Reaches s t hash k) → Reaches s t hash (suc k)
        go (yes e) again = rw (sym e) start
        go (no n) again =
            let m = above_moved fit acc.parent_moved_lem hash (suc k) k (omega arith) b d in
            let f : bin_at s k (bini (length_at s k) hash) ≢ empty =
            λ e. (let z : ◌≡◌ {A = Bin} empty moved = sym e ∙ m in let y : ◌≡◌ {A = ℕ} 0 1 = cc in omega arith) in
            down (again (omega arith) f) m b

  entry-reached : (t x hash key : ℕ) → EntryFrom s t x → pair_of s.names x ≡ pair hash key → Reached s t hash key x
  entry-reached t x hash key f h =
      let k = f.table in
      let e = f.entry in
      let z : name_of s.names x hash_part ≡ hash = ap (λ (p : Pair). p.hash) h in
      let home : bini (length_at s k) hash ≡ f.index = ap (λ (y : ℕ). bini (length_at s k) y) (sym z) ∙ acc.home k f.index x e in
      record {
        table = k;
        comes = comes_to hash t k f.later e.there.table (rw home (not-empty e.holds));
        entry = rw home e;
        has = h;
      }

  reached-entry : {t x hash key : ℕ} → Reached s t hash key x → EntryFrom s t x × (pair_of s.names x ≡ pair hash key)
  reached-entry r = (record { table = r.table; index = _; later = comes_later r.comes; entry = r.entry }, r.has)

  maps : (t hash key x : ℕ) → t < tables_of s
      → ((lookups s t hash key).answer ≡ given x) ↔ (EntryFrom s t x × (pair_of s.names x ≡ pair hash key))
  maps t hash key x b =
      let u = looks_up s fit acc hash key t b in
      (λ e. reached-entry ((u.at x).0 e), λ r. (u.at x).1 (entry-reached t x hash key r.0 r.1))

  pub map_claims : Map s
  map_claims =
      record {
        at = maps;
        apart =
            λ x y e f h. (let b : 0 < tables_of s = omega (arith, fit.least) in
            let hash = name_of s.names y hash_part in
            let key = (pair_of s.names y).key in
            given_is (sym ((maps 0 hash key x b).1 (e, h)) ∙ (maps 0 hash key y b).1 (f, refl)));
      }
