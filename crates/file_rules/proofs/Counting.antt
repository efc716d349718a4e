-- A count may be taken exactly if it is within its limit and the lent slices hold it.
use mathlib.Core.Path.{◌≡◌, refl}
use mathlib.Core.Bool.{Bool, true, false, false≢true}
use Prim.Native.Nat.{ℕ, zero, suc, ◌*◌, ◌≤◌}
use native.Mathlib.Omega.{arith}
use lib.ListN.{length}
use lib.Dec.{leb}
use borrow.Author.Tests.{leb-true, le-leb}
use Rattle.index_rules.proofs.Fit.{both}
use Rattle.index_rules.proofs.Rules.{and}
use Rattle.set_rules.specs.Words.{Set}
use Rattle.file_rules.specs.Layout.{Slice, slice_in, most_of, can_hold}
use Rattle.file_rules.specs.Loading.{may_count}
use Rattle.file_rules.specs.Faults.{MayHold}
use Rattle.file_rules.proofs.Fields.{holds_alike}

pub may_both : (t : Set) (s c : ℕ) → may_count t s c ≡ true → (c ≤ most_of s) × (can_hold t s c ≡ true)
unfolding may_count
may_both t s c e = go (leb c (most_of s)) (can_hold t s c) refl refl
  where
    go : (a b : Bool) → leb c (most_of s) ≡ a → can_hold t s c ≡ b → (c ≤ most_of s) × (can_hold t s c ≡ true)
    go true true f g = (leb-true _ _ f, g)
    go true false f g = absurd (false≢true (simp (f, g) at e))
    go false true f g = absurd (false≢true (simp (f, g) at e))
    go false false f g = absurd (false≢true (simp (f, g) at e))

pub both_may : (t : Set) (s c : ℕ) → c ≤ most_of s → can_hold t s c ≡ true → may_count t s c ≡ true
unfolding may_count
both_may t s c l h = simp (le-leb c (most_of s) l, h)

pub may_allowed : (t : Set) (n c : ℕ) → may_count t n c ≡ true → MayHold t n c
unfolding can_hold most_of MayHold
may_allowed t zero c e = let b = may_both t 0 c e in (omega (arith, b.0), leb-true _ _ b.1)
may_allowed t (suc zero) c e = let b = may_both t 1 c e in (omega (arith, b.0), leb-true _ _ b.1)
may_allowed t (suc (suc zero)) c e = let b = may_both t 2 c e in (omega (arith, b.0), leb-true _ _ b.1)
may_allowed t (suc (suc (suc n))) c e =
    let b = may_both t (suc (suc (suc n))) c e in
    let d = both (leb (2 * c) (length t.names)) (leb (7 * c) (length t.cells)) b.1 in
    (omega (arith, b.0), (leb-true _ _ d.0, leb-true _ _ d.1))

pub allowed_may : (t : Set) (n c : ℕ) → MayHold t n c → may_count t n c ≡ true
unfolding can_hold most_of MayHold
allowed_may t zero c h = both_may t 0 c (omega (arith, h.0)) (le-leb _ _ h.1)
allowed_may t (suc zero) c h = both_may t 1 c (omega (arith, h.0)) (le-leb _ _ h.1)
allowed_may t (suc (suc zero)) c h = both_may t 2 c (omega (arith, h.0)) (le-leb _ _ h.1)
allowed_may t (suc (suc (suc n))) c h =
    both_may t (suc (suc (suc n))) c (omega (arith, h.0)) (and (le-leb _ _ h.1.0) (le-leb _ _ h.1.1))

-- It is a matter of the lengths alone.
pub may_alike : (t u : Set) → ((x : Slice) → length (slice_in t x) ≡ length (slice_in u x)) → (n c : ℕ) → may_count t n c ≡ may_count u n c
unfolding may_count
may_alike t u a n c = rw (holds_alike t u a n c)
