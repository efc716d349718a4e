-- Where entries lie in the bins that their hashes name and a bin whose parent is not Moved is empty, no two bins share an entry: one of
-- the two would be above the other, and so Moved.
use mathlib.Core.Path.{◌≡◌, refl, ap, sym, ◌∙◌}
use mathlib.Core.Logic.{◌≢◌}
use mathlib.Core.List.{List}
use Prim.Native.Nat.{ℕ, zero, suc, ◌%◌, ◌<◌, ◌≤◌}
use native.Mathlib.Decide.{ℕ_discrete, dec_le}
use native.Mathlib.Omega.{arith}
use Rattle.slots.specs.Words.{name_of, hash_part}
use Rattle.set_rules.specs.Words.{Set, Fit, tables_of, length_at, Bin, empty, moved, bad, list, tree, bin_at, bini}
use Rattle.set_rules.specs.Accepted.{HeldIn, EntryOf, ParentMoved, EntriesHome}
use Rattle.set_rules.proofs.Fit.{bini_up, bini_less}
use Rattle.set_rules.proofs.Gathering.{not-empty, not_moved}

-- Whether a bin is Moved is settled.
pub moved_or_not : (b : Bin) → Dec (b ≡ moved)
moved_or_not empty = no (λ e. (let z : ◌≡◌ {A = ℕ} 0 1 = cc in omega arith))
moved_or_not moved = yes refl
moved_or_not bad = no (λ e. (let z : ◌≡◌ {A = ℕ} 0 1 = cc in omega arith))
moved_or_not (list a) = no (λ e. (let z : ◌≡◌ {A = ℕ} 0 1 = cc in omega arith))
moved_or_not (tree h) = no (λ e. (let z : ◌≡◌ {A = ℕ} 0 1 = cc in omega arith))

module _ {s : Set} (fit : Fit s) (parents : ParentMoved s) where
  -- Every bin that a hash names above one that is not empty is Moved.
  pub above_moved : (hash l k : ℕ) → k < l → l < tables_of s → bin_at s l (bini (length_at s l) hash) ≢ empty
      → bin_at s k (bini (length_at s k) hash) ≡ moved
  above_moved hash zero k b t d = absurd (omega arith)
  above_moved hash (suc l) k b t d =
      go (moved_or_not (bin_at s l (bini (length_at s l) hash))) (ℕ_discrete k l)
      (λ c m. above_moved hash l k (omega arith) (omega arith) m)
    where
      parent : bini (length_at s (suc l)) hash % length_at s l ≡ bini (length_at s l) hash
      parent = bini_up fit l t hash

      go : Dec (bin_at s l (bini (length_at s l) hash) ≡ moved) → Dec (k ≡ l)
          → (k ≢ l → bin_at s l (bini (length_at s l) hash) ≢ empty → bin_at s k (bini (length_at s k) hash) ≡ moved)
          → bin_at s k (bini (length_at s k) hash) ≡ moved
      go (no m) c again =
          absurd
          (d (parents l (bini (length_at s (suc l)) hash) (record { table = t; index = bini_less fit (suc l) t hash }) (rw parent m)))
      go (yes m) (yes c) again = rw c m
      go (yes m) (no c) again =
          again c (λ e. (let z : ◌≡◌ {A = Bin} empty moved = sym e ∙ m in let y : ◌≡◌ {A = ℕ} 0 1 = cc in omega arith))

  module _ (homes : EntriesHome s) where
    -- The bin of table k that the entry's hash names.
    entry-below : {k i l j x : ℕ} → EntryOf s k i x → EntryOf s l j x → k < l → ⊥
    entry-below {k} {i} {l} {j} {x} e f b =
        let hash = name_of s.names x hash_part in
        let p = homes k i x e in
        let q = homes l j x f in
        let m = above_moved hash l k b f.there.table (rw q (not-empty f.holds)) in
        not_moved e.holds (rw p at m)

    pub entry-only : {k i l j x : ℕ} → EntryOf s k i x → EntryOf s l j x → (k ≡ l) × (i ≡ j)
    entry-only {k} {i} {l} {j} {x} e f = go (ℕ_discrete k l) (dec_le k l)
      where
        go : Dec (k ≡ l) → Dec (k ≤ l) → (k ≡ l) × (i ≡ j)
        go (yes z) c = (z, sym (homes k i x e) ∙ ap (λ (m : ℕ). bini (length_at s m) (name_of s.names x hash_part)) z ∙ homes l j x f)
        go (no z) (yes c) = absurd (entry-below e f (omega arith))
        go (no z) (no c) = absurd (entry-below f e (omega arith))

    -- An entry, in whatever bin, whose hash names a bin that holds slots is an entry of that bin.
    pub entry_own : {k i l j x : ℕ} {m : List ℕ} → HeldIn s (bin_at s k i) m → k < tables_of s → EntryOf s l j x
        → bini (length_at s k) (name_of s.names x hash_part) ≡ i
        → EntryOf s k i x
    entry_own {k} {i} {l} {j} {x} h b f e = go (ℕ_discrete l k) (dec_le l k)
      where
        hash : ℕ
        hash = name_of s.names x hash_part

        lies : bini (length_at s l) hash ≡ j
        lies = homes l j x f

        go : Dec (l ≡ k) → Dec (l ≤ k) → EntryOf s k i x
        go (yes z) c = let y : j ≡ i = sym lies ∙ ap (λ (m : ℕ). bini (length_at s m) hash) z ∙ e in rw (z, y) at f
        go (no z) (yes c) =
            let m = above_moved hash k l (omega arith) b (rw e (not-empty h)) in absurd (not_moved f.holds (rw lies at m))
        go (no z) (no c) =
            let m = above_moved hash l k (omega arith) f.there.table (rw lies (not-empty f.holds)) in
            absurd (not_moved h (rw e at m))
