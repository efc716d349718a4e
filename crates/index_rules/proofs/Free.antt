-- The lowest free slot is the first that the scan meets: before it none is free, and where it answers null none is free at all.
use mathlib.Core.Path.{◌≡◌, refl}
use mathlib.Core.Logic.{◌≢◌, ◌↔◌, ◌⊎◌, inl, inr}
use mathlib.Core.Bool.{Bool, true, false}
use mathlib.Core.List.{List}
use Prim.Native.Nat.{ℕ, zero, suc, ◌+◌, ◌<◌, ◌≤◌}
use native.Mathlib.Decide.{ℕ_discrete}
use native.Mathlib.Omega.{arith}
use lib.Dec.{eqb}
use borrow.Author.Tests.{eqb-true, eqb-false}
use Rattle.slots.specs.Words.{null, pick, state, free, cell}
use Rattle.index_rules.specs.Live.{Live}
use Rattle.index_rules.specs.Insert.{free_from, lowest_free}
use Rattle.index_rules.specs.Calls.{Lowest}
use Rattle.tree_rules.specs.Find.{slots_of}

-- None of the slots from k up to m is free.
NoneFree : List ℕ → ℕ → ℕ → Type 0
NoneFree cells k m = (j : ℕ) → k ≤ j → j < m → cell cells j state ≢ free

-- The slot i is the lowest free one of those from k up to m.
record Least (cells : List ℕ) (k m i : ℕ) : Type 0 where
  least : k ≤ i
  inside : i < m
  unused : cell cells i state ≡ free
  before : NoneFree cells k i

none_onward : (cells : List ℕ) (k m : ℕ) → cell cells k state ≢ free → NoneFree cells (suc k) m → NoneFree cells k m
unfolding NoneFree
none_onward cells k m d h j l w = go (ℕ_discrete j k)
  where
    go : Dec (j ≡ k) → cell cells j state ≢ free
    go (yes e) = rw e d
    go (no e) = h j (omega arith) w

scanned : (m : ℕ) (cells : List ℕ) (k : ℕ)
    → Least cells k (k + m) (free_from m cells k) ⊎ ((free_from m cells k ≡ null) × NoneFree cells k (k + m))
unfolding free_from NoneFree
scanned zero cells k = inr (refl, λ j l w. absurd (omega arith))
scanned (suc m) cells k = go (eqb (cell cells k state) free) refl (scanned m cells (suc k))
  where
    to : suc k + m ≡ k + suc m
    to = omega arith

    go : (b : Bool) → eqb (cell cells k state) free ≡ b
        → Least cells (suc k) (suc k + m) (free_from m cells (suc k))
        ⊎ ((free_from m cells (suc k) ≡ null) × NoneFree cells (suc k) (suc k + m))
        → Least cells k (k + suc m) (pick b k (free_from m cells (suc k)))
        ⊎ ((pick b k (free_from m cells (suc k)) ≡ null) × NoneFree cells k (k + suc m))
    go true e h =
        inl (record { least = omega arith; inside = omega arith; unused = eqb-true _ _ e; before = λ j l w. absurd (omega arith) })
    go false e (inl h) =
        inl (record {
          least = omega (arith, h.least);
          inside = omega (arith, h.inside);
          unused = h.unused;
          before = none_onward cells k _ (eqb-false _ _ e) h.before;
        })
    go false e (inr h) = inr (h.0, none_onward cells k (k + suc m) (eqb-false _ _ e) (rw to at h.1))

module _ (t : Live) where
  pub lowest_free_lem : lowest_free t ≢ null → Lowest t (lowest_free t)
  unfolding lowest_free NoneFree
  lowest_free_lem d = go (scanned (slots_of t.names) t.cells 0)
    where
      go : Least t.cells 0 (0 + slots_of t.names) (lowest_free t)
          ⊎ ((lowest_free t ≡ null) × NoneFree t.cells 0 (0 + slots_of t.names))
          → Lowest t (lowest_free t)
      go (inl h) = record { inside = omega (arith, h.inside); unused = h.unused; lower = λ k l. h.before k (omega arith) l }
      go (inr h) = absurd (d h.0)

  pub none_free : slots_of t.names ≤ null → (lowest_free t ≡ null) ↔ ((k : ℕ) → k < slots_of t.names → cell t.cells k state ≢ free)
  unfolding lowest_free NoneFree
  none_free small = go (scanned (slots_of t.names) t.cells 0)
    where
      go : Least t.cells 0 (0 + slots_of t.names) (lowest_free t)
          ⊎ ((lowest_free t ≡ null) × NoneFree t.cells 0 (0 + slots_of t.names))
          → (lowest_free t ≡ null) ↔ ((k : ℕ) → k < slots_of t.names → cell t.cells k state ≢ free)
      go (inl h) = (λ e. absurd (omega (arith, h.inside)), λ f. absurd (f (lowest_free t) (omega (arith, h.inside)) h.unused))
      go (inr h) = (λ e k l. h.1 k (omega arith) (omega arith), λ f. h.0)
