-- The slots that good bins hold: each lies in the bin that its hash names, at every table above too, so that no two bins share one and
-- each stands once; each is an entry of a bin, and each entry of a bin stands among them.
use mathlib.Core.Path.{◌≡◌, refl, ap, sym, ◌∙◌}
use mathlib.Core.Logic.{◌≢◌, ◌⊎◌, inl, inr}
use mathlib.Core.Bool.{Bool, true, false}
use mathlib.Core.List.{List, [], ◌++◌}
use Prim.Native.Nat.{ℕ, zero, suc, ◌+◌, ◌-◌, ◌%◌, ◌<◌, ◌≤◌}
use native.Mathlib.Decide.{ℕ_discrete, dec_le}
use native.Mathlib.Omega.{arith}
use Rattle.slots.specs.Words.{name_of, hash_part, black}
use Rattle.tree_rules.specs.Tree.{slots, times}
use Rattle.tree_rules.proofs.Counting.{times_append}
use Rattle.tree_rules.proofs.Reaching.{hangs_stand, hangs_inside, rooted_unique}
use Rattle.index_rules.specs.Sound.{used}
use Rattle.index_rules.proofs.Rules.{used_hued}
use Rattle.set_rules.specs.Words.{Set, Fit, tables_of, length_at, Bin, empty, moved, bin_at, bini}
use Rattle.set_rules.specs.Accepted.{BinThere, HeldIn, listed, grown, EntryOf}
use Rattle.set_rules.proofs.Fit.{small, bini_up, near_parent, far_parent}
use Rattle.set_rules.proofs.Lists.{Home, apart_once, listed_inside, listed_unique}
use Rattle.set_rules.proofs.Forest.{Held, as_list, as_tree, Part, whole, beneath, Good, empties, moves, holding, final, two, Row}
use Rattle.set_rules.proofs.Forest.{start, more}
use Rattle.tree_rules.specs.Find.{slots_of}

-- A member of one list put after another is a member of one of them.
member_cases : {A : Type 0} (x : ℕ) (l m : List ℕ) → 1 ≤ times x (l ++ m) → (1 ≤ times x l → A) → (1 ≤ times x m → A) → A
member_cases {A} x l m h a b = go (dec_le 1 (times x l))
  where
    go : Dec (1 ≤ times x l) → A
    go (yes y) = a y
    go (no d) = b (omega (arith, times_append x l m))

-- A bin that holds slots is neither empty nor Moved.
pub not-empty : {s : Set} {b : Bin} {l : List ℕ} → HeldIn s b l → b ≢ empty
not-empty (listed e) p = let z : ◌≡◌ {A = ℕ} 0 1 = cc in omega arith
not-empty (grown e) p = let z : ◌≡◌ {A = ℕ} 0 1 = cc in omega arith

pub not_moved : {s : Set} {b : Bin} {l : List ℕ} → HeldIn s b l → b ≢ moved
not_moved (listed e) p = let z : ◌≡◌ {A = ℕ} 0 1 = cc in omega arith
not_moved (grown e) p = let z : ◌≡◌ {A = ℕ} 0 1 = cc in omega arith

-- Below a bin that is not Moved nothing is held.
good_nothing : {s : Set} {p : Part} {left k i : ℕ} {may : Bool} {l : List ℕ} → Good s p left k i may l → may ≡ false → l ≡ []
good_nothing (empties p g) e = good_nothing g refl
good_nothing (moves p d g) e = absurd (let z : ◌≡◌ {A = ℕ} 0 1 = cc in omega arith)
good_nothing (holding p h g) e = absurd (let z : ◌≡◌ {A = ℕ} 0 1 = cc in omega arith)
good_nothing final e = refl
good_nothing (two f g) e = rw (good_nothing f e, good_nothing g e)

module _ {s : Set} (fit : Fit s) where
  pub held_home : {k i : ℕ} {b : Bin} {l : List ℕ} → Held s k i b l → Home s.names (length_at s k) i l
  held_home (as_list e a p h) = h
  held_home (as_tree g) = g.home

  held_once : {k i : ℕ} {b : Bin} {l : List ℕ} → Held s k i b l → (x : ℕ) → times x l ≤ 1
  held_once (as_list e a p h) = apart_once s (small fit) a
  held_once (as_tree g) = g.rooted.once

  pub held_holds : {k i : ℕ} {b : Bin} {l : List ℕ} → Held s k i b l → HeldIn s b l
  held_holds (as_list e a p h) = listed e
  held_holds (as_tree g) = grown g.rooted

  held_used : {k i : ℕ} {b : Bin} {l : List ℕ} → Held s k i b l → (x : ℕ) → 1 ≤ times x l
      → (used s.cells x ≡ 1) × (x < slots_of s.names)
  held_used (as_list e a p h) x m = (used_hued s.cells x black (p x m).states, listed_inside s (small fit) e x m)
  held_used (as_tree g) x m =
      let d = hangs_stand (slots_of s.names) s.cells g.rooted.hangs m in
      (used_hued s.cells x d.hue d.words.hued, hangs_inside (slots_of s.names) s.cells g.rooted.hangs m)

  -- What a bin's list or tree holds is settled by the words.
  pub holds_unique : {b : Bin} {l m : List ℕ} → HeldIn s b l → HeldIn s b m → l ≡ m
  holds_unique (listed e) (listed f) = listed_unique s (small fit) e f
  holds_unique (grown {h = h} e) (grown f) = ap slots (rooted_unique (slots_of s.names) s.cells (small fit) _ e f)

  -- In the table above, the hash names the parent.
  home_up : (k i j : ℕ) (l : List ℕ) → suc k < tables_of s → j % length_at s k ≡ i → Home s.names (length_at s (suc k)) j l
      → Home s.names (length_at s k) i l
  home_up k i j l b e h x m = sym (bini_up fit k b (name_of s.names x hash_part)) ∙ ap (λ (y : ℕ). y % length_at s k) (h x m) ∙ e

  good_home : {p : Part} {left k i : ℕ} {may : Bool} {l : List ℕ} → Good s p left k i may l → suc k + left ≡ tables_of s → i < length_at s k
      → Home s.names (length_at s k) i l
  unfolding times
  good_home (empties p g) t b = good_home g t b
  good_home (moves p d g) t b = good_home g t b
  good_home (holding {l = l} {m} p h g) t b = λ x z. member_cases x l m z (held_home h x) (good_home g t b x)
  good_home final t b = λ x z. absurd (omega arith)
  good_home (two {k = k} {i} {l = l} {m} f g) t b =
      let n : suc k < tables_of s = omega arith in
      let u = home_up k i i l n (near_parent i (length_at s k) b) (good_home f (omega arith) (omega (arith, fit.twice k n))) in
      let v =
      home_up k i (i + length_at s k) m n (far_parent i (length_at s k) b) (good_home g (omega arith) (omega (arith, fit.twice k n))) in
      λ x z. member_cases x l m z (u x) (v x)

  good_once : {p : Part} {left k i : ℕ} {may : Bool} {l : List ℕ} → Good s p left k i may l → suc k + left ≡ tables_of s → i < length_at s k
      → (x : ℕ) → times x l ≤ 1
  unfolding times
  good_once (empties p g) t b x = good_once g t b x
  good_once (moves p d g) t b x = good_once g t b x
  good_once (holding {l = l} {m} p h g) t b x =
      let z : times x m ≡ 0 = ap (times x) (good_nothing g refl) in omega (arith, times_append x l m, held_once h x)
  good_once final t b x = omega arith
  good_once (two {k = k} {i} {l = l} {m} f g) t b x =
      let n : suc k < tables_of s = omega arith in
      let p = good_home f (omega arith) (omega (arith, fit.twice k n)) in
      let q = good_home g (omega arith) (omega (arith, fit.twice k n)) in
      go (dec_le 1 (times x l)) (dec_le 1 (times x m)) (p x) (q x) (good_once f (omega arith) (omega (arith, fit.twice k n)) x)
      (good_once g (omega arith) (omega (arith, fit.twice k n)) x)
    where
      go : Dec (1 ≤ times x l) → Dec (1 ≤ times x m)
          → (1 ≤ times x l → bini (length_at s (suc k)) (name_of s.names x hash_part) ≡ i)
          → (1 ≤ times x m → bini (length_at s (suc k)) (name_of s.names x hash_part) ≡ i + length_at s k)
          → times x l ≤ 1 → times x m ≤ 1 → times x (l ++ m) ≤ 1
      go (yes y) (yes z) p q o r = absurd (omega (arith, p y, q z))
      go (no y) z p q o r = omega (arith, times_append x l m)
      go (yes y) (no z) p q o r = omega (arith, times_append x l m)

  -- A slot that is held: an entry of a bin, used, and one of the set's.
  pub record Member (x : ℕ) : Type 0 where
    pub table : ℕ
    pub index : ℕ
    pub entry : EntryOf s table index x
    pub used_one : used s.cells x ≡ 1
    pub inside : x < slots_of s.names

  good_member : {p : Part} {left k i : ℕ} {may : Bool} {l : List ℕ} → Good s p left k i may l → suc k + left ≡ tables_of s
      → i < length_at s k
      → (x : ℕ) → 1 ≤ times x l → Member x
  unfolding times
  good_member (empties p g) t b x z = good_member g t b x z
  good_member (moves p d g) t b x z = good_member g t b x z
  good_member (holding {k = k} {i} {l = l} {m} p h g) t b x z =
      member_cases x l m z
      (λ y. (let u = held_used h x y in
      record {
        table = k;
        index = i;
        entry = record { there = record { table = omega arith; index = b }; held = l; holds = rw p (held_holds h); member = y };
        used_one = u.0;
        inside = u.1;
      }))
      (λ y. good_member g t b x y)
  good_member final t b x z = absurd (omega arith)
  good_member (two {k = k} {i} {l = l} {m} f g) t b x z =
      let n : suc k < tables_of s = omega arith in
      member_cases x l m z (λ y. good_member f (omega arith) (omega (arith, fit.twice k n)) x y)
      (λ y. good_member g (omega arith) (omega (arith, fit.twice k n)) x y)

-- Bin j of table l is bin i of table k, or below it.
pub data Under (s : Set) : ℕ → ℕ → ℕ → ℕ → Type 0 where
  here : {k i : ℕ} → Under s k i k i
  near : {k i l j : ℕ} → Under s (suc k) i l j → Under s k i l j
  far : {k i l j : ℕ} → Under s (suc k) (i + length_at s k) l j → Under s k i l j

under_near : {s : Set} {k i l j : ℕ} → Under s k i l j → Under s k i (suc l) j
under_near here = near here
under_near (near u) = near (under_near u)
under_near (far u) = far (under_near u)

under_far : {s : Set} {k i l j : ℕ} → Under s k i l j → Under s k i (suc l) (j + length_at s l)
under_far here = far here
under_far (near u) = near (under_far u)
under_far (far u) = far (under_far u)

under_least : {s : Set} {k i l j : ℕ} → Under s k i l j → k ≤ l
under_least here = omega arith
under_least (near u) = omega (arith, under_least u)
under_least (far u) = omega (arith, under_least u)

module _ {s : Set} (fit : Fit s) where
  -- Every bin is below one of table 0.
  under_first : (k j : ℕ) → k < tables_of s → j < length_at s k → (i : ℕ) × (i < length_at s 0) × Under s 0 i k j
  under_first zero j t b = (j, b, here)
  under_first (suc k) j t b = go (dec_le (length_at s k) j) (under_first k)
    where
      go : Dec (length_at s k ≤ j) → ((j : ℕ) → k < tables_of s → j < length_at s k → (i : ℕ) × (i < length_at s 0) × Under s 0 i k j)
          → (i : ℕ) × (i < length_at s 0) × Under s 0 i (suc k) j
      go (no d) again = let r = again j (omega arith) (omega arith) in (r.0, r.1, under_near r.2)
      go (yes h) again =
          let r = again (j - length_at s k) (omega arith) (omega (arith, fit.twice k t)) in
          let e : j - length_at s k + length_at s k ≡ j = omega arith in
          (r.0, r.1, rw e at (under_far r.2))

  -- The part of good bins that is a bin of theirs with what is below it.
  pub record Sub (k j : ℕ) (l : List ℕ) : Type 0 where
    pub left : ℕ
    pub may : Bool
    pub slots : List ℕ
    pub good : Good s whole left k j may slots
    pub sum : suc k + left ≡ tables_of s
    pub part : (x : ℕ) → times x slots ≤ times x l

  sub_more : {k j : ℕ} {l m : List ℕ} → ((x : ℕ) → times x l ≤ times x m) → Sub k j l → Sub k j m
  sub_more f r =
      record { left = r.left; may = r.may; slots = r.slots; good = r.good; sum = r.sum; part = λ x. omega (arith, f x, r.part x) }

  abbrev Within : Part → ℕ → ℕ → ℕ → ℕ → Type 0
  Within whole k i l j = Under s k i l j
  Within beneath k i l j = Under s (suc k) i l j ⊎ Under s (suc k) (i + length_at s k) l j

  good_sub : {p : Part} {left k i : ℕ} {may : Bool} {l : List ℕ} → Good s p left k i may l → suc k + left ≡ tables_of s → (k' j : ℕ)
      → Within p k i k' j → k' < tables_of s → Sub k' j l
  good_sub (empties {left = left} {may = may} {l = l} p g) t _ _ here b =
      record { left = left; may = may; slots = l; good = empties {may = may} p g; sum = t; part = λ x. omega arith }
  good_sub (empties p g) t k' j (near u) b = good_sub g t k' j (inl u) b
  good_sub (empties p g) t k' j (far u) b = good_sub g t k' j (inr u) b
  good_sub (moves {left = left} {l = l} p d g) t _ _ here b =
      record { left = left; may = true; slots = l; good = moves p d g; sum = t; part = λ x. omega arith }
  good_sub (moves p d g) t k' j (near u) b = good_sub g t k' j (inl u) b
  good_sub (moves p d g) t k' j (far u) b = good_sub g t k' j (inr u) b
  good_sub (holding {left = left} {l = l} {m} p h g) t _ _ here b =
      record { left = left; may = true; slots = l ++ m; good = holding p h g; sum = t; part = λ x. omega arith }
  good_sub (holding {l = l} {m} p h g) t k' j (near u) b = sub_more (λ x. omega (arith, times_append x l m)) (good_sub g t k' j (inl u) b)
  good_sub (holding {l = l} {m} p h g) t k' j (far u) b = sub_more (λ x. omega (arith, times_append x l m)) (good_sub g t k' j (inr u) b)
  good_sub final t k' j (inl u) b = absurd (omega (arith, under_least u))
  good_sub final t k' j (inr u) b = absurd (omega (arith, under_least u))
  good_sub (two {l = l} {m} f g) t k' j (inl u) b = sub_more (λ x. omega (arith, times_append x l m)) (good_sub f (omega arith) k' j u b)
  good_sub (two {l = l} {m} f g) t k' j (inr u) b = sub_more (λ x. omega (arith, times_append x l m)) (good_sub g (omega arith) k' j u b)

  -- Of a whole row: each slot is an entry, stands once, and every bin is part of it.
  row_home : {i : ℕ} {l : List ℕ} → Row s i l → i ≤ length_at s 0 → (x : ℕ) → 1 ≤ times x l
      → bini (length_at s 0) (name_of s.names x hash_part) < i
  unfolding times
  row_home start b x z = absurd (omega arith)
  row_home (more {i = i} {l} {m} g r) b x z =
      member_cases x l m z
      (λ y. omega (arith, good_home fit g (omega (arith, fit.least)) (omega arith) x y))
      (λ y. omega (arith, row_home r (omega arith) x y))

  row_once : {i : ℕ} {l : List ℕ} → Row s i l → i ≤ length_at s 0 → (x : ℕ) → times x l ≤ 1
  unfolding times
  row_once start b x = omega arith
  row_once (more {i = i} {l} {m} g r) b x =
      go (dec_le 1 (times x l)) (dec_le 1 (times x m)) (λ y. good_home fit g (omega (arith, fit.least)) (omega arith) x y)
      (λ y. row_home r (omega arith) x y)
      (good_once fit g (omega (arith, fit.least)) (omega arith) x) (row_once r (omega arith) x)
    where
      go : Dec (1 ≤ times x l) → Dec (1 ≤ times x m)
          → (1 ≤ times x l → bini (length_at s 0) (name_of s.names x hash_part) ≡ i)
          → (1 ≤ times x m → bini (length_at s 0) (name_of s.names x hash_part) < i)
          → times x l ≤ 1 → times x m ≤ 1 → times x (l ++ m) ≤ 1
      go (yes y) (yes z) p q o r = absurd (omega (arith, p y, q z))
      go (no y) z p q o r = omega (arith, times_append x l m)
      go (yes y) (no z) p q o r = omega (arith, times_append x l m)

  row_member : {i : ℕ} {l : List ℕ} → Row s i l → i ≤ length_at s 0 → (x : ℕ) → 1 ≤ times x l → Member fit x
  unfolding times
  row_member start b x z = absurd (omega arith)
  row_member (more {i = i} {l} {m} g r) b x z =
      member_cases x l m z (λ y. good_member fit g (omega (arith, fit.least)) (omega arith) x y) (λ y. row_member r (omega arith) x y)

  row_at : {m : ℕ} {l : List ℕ} → Row s m l → (i : ℕ) → i < m → Sub 0 i l
  row_at start i b = absurd (omega arith)
  row_at (more {i = m} {l} {m = l'} g r) i b = go (ℕ_discrete i m) (λ d. row_at r i (omega arith))
    where
      go : Dec (i ≡ m) → (i ≢ m → Sub 0 i l') → Sub 0 i (l ++ l')
      go (yes e) rest =
          rw e (record {
            left = tables_of s - 1;
            may = true;
            slots = l;
            good = g;
            sum = omega (arith, fit.least);
            part = λ x. omega (arith, times_append x l l');
          })
      go (no d) rest = sub_more (λ x. omega (arith, times_append x l l')) (rest d)

  module _ {l : List ℕ} (row : Row s (length_at s 0) l) where
    pub all_once : (x : ℕ) → times x l ≤ 1
    all_once x = row_once row (omega arith) x

    pub all_members : (x : ℕ) → 1 ≤ times x l → Member fit x
    all_members x z = row_member row (omega arith) x z

    pub all_bins : {k j : ℕ} → BinThere s k j → Sub k j l
    all_bins {k} {j} p =
        let u = under_first k j p.table p.index in
        let r = row_at row u.0 u.1 in
        sub_more r.part (good_sub r.good r.sum k j u.2 p.table)

    -- An entry stands among the slots.
    pub entry_in : {k j x : ℕ} → EntryOf s k j x → 1 ≤ times x l
    entry_in {k} {j} {x} e = let r = all_bins e.there in omega (arith, r.part x, go r.good e.holds)
      where
        go : {left : ℕ} {may : Bool} {m : List ℕ} → Good s whole left k j may m → HeldIn s (bin_at s k j) e.held → 1 ≤ times x m
        go (empties p g) h = absurd (not-empty h p)
        go (moves p d g) h = absurd (not_moved h p)
        go (holding {l = a} {m} p h g) o =
            let z : times x a ≡ times x e.held = ap (times x) (holds_unique fit (held_holds fit h) (rw p at o)) in
            omega (arith, times_append x a m, e.member)
