-- The order of pairs: hash decides, and key where hashes are equal, so each law comes down to the order of numbers.
use mathlib.Core.Path.{◌≡◌, refl}
use mathlib.Core.Logic.{◌⊎◌, inl, inr, ◌↔◌}
use mathlib.Core.Bool.{Bool, true, false, false≢true}
use Prim.Native.Nat.{ℕ, ◌<◌}
use native.Mathlib.Decide.{ℕ_discrete, dec_lt}
use native.Mathlib.Omega.{arith}
use lib.Dec.{ltb}
use borrow.Author.Tests.{lt-ltb, le-ltb, ltb-true, ltb-false}
use Rattle.slots.specs.Words.{pick}
use Rattle.slots.specs.Pairs.{Pair, pair, Less, before}

pub less_irreflexive : (p : Pair) → Less p p → ⊥
unfolding Less
less_irreflexive p (inl h) = omega arith
less_irreflexive p (inr h) = omega arith

pub less_transitive : (p q r : Pair) → Less p q → Less q r → Less p r
unfolding Less
less_transitive p q r (inl h) (inl k) = inl (omega arith)
less_transitive p q r (inl h) (inr k) = inl (omega arith)
less_transitive p q r (inr h) (inl k) = inl (omega arith)
less_transitive p q r (inr h) (inr k) = inr (omega arith)

same : {p q : Pair} → p.hash ≡ q.hash → p.key ≡ q.key → p ≡ q
same e f = λ i. record { hash = e i; key = f i }

pub less_total : (p q : Pair) → Less p q ⊎ ((p ≡ q) ⊎ Less q p)
unfolding Less
less_total p q = go (dec_lt p.hash q.hash) (ℕ_discrete p.hash q.hash) (dec_lt p.key q.key) (ℕ_discrete p.key q.key)
  where
    go : Dec (p.hash < q.hash) → Dec (p.hash ≡ q.hash) → Dec (p.key < q.key) → Dec (p.key ≡ q.key) → Less p q ⊎ ((p ≡ q) ⊎ Less q p)
    go (yes h) d k e = inl (inl h)
    go (no h) (yes d) (yes k) e = inl (inr (d, k))
    go (no h) (yes d) (no k) (yes e) = inr (inl (same d e))
    go (no h) (yes d) (no k) (no e) = inr (inr (inr (omega arith)))
    go (no h) (no d) k e = inr (inr (inl (omega arith)))

-- The test of the order is the order.
pub before_less : (h k a o : ℕ) → (before h k a o ≡ true) ↔ Less (pair h k) (pair a o)
unfolding Less
before_less h k a o = (λ e. to (ltb h a) refl (ltb a h) refl e, from)
  where
    to : (x : Bool) → ltb h a ≡ x → (y : Bool) → ltb a h ≡ y → pick x true (pick y false (ltb k o)) ≡ true → Less (pair h k) (pair a o)
    to true p y q e = inl (ltb-true h a p)
    to false p true q e = absurd (false≢true e)
    to false p false q e = inr (omega (arith, ltb-false h a p, ltb-false a h q), ltb-true k o e)

    from : Less (pair h k) (pair a o) → before h k a o ≡ true
    from (inl l) = simp (lt-ltb h a l)
    from (inr l) = simp (le-ltb h a (omega arith), le-ltb a h (omega arith), lt-ltb k o l.1)
