-- What the bins of a table of an accepted set lead to: every entry of that table and of those below it, each once. An entry's hash names
-- the one bin of the table that leads to it. A walk gives these, since a chain visits exactly its tree's slots.
use mathlib.Core.Path.{◌≡◌, refl, ap, sym, ◌∙◌}
use mathlib.Core.Logic.{◌↔◌, ◌⊎◌, inl, inr}
use mathlib.Core.List.{List, [], ◌++◌}
use Prim.Native.Nat.{ℕ, zero, suc, ◌+◌, ◌-◌, ◌%◌, ◌<◌, ◌≤◌}
use native.Mathlib.Decide.{ℕ_discrete, dec_le}
use native.Mathlib.Omega.{arith}
use Rattle.slots.specs.Words.{name_of, hash_part}
use Rattle.tree_rules.specs.Tree.{slots, times}
use Rattle.tree_rules.specs.Chain.{Chain}
use Rattle.tree_rules.proofs.Counting.{times_append}
use Rattle.tree_rules.proofs.Chaining.{chain_once}
use Rattle.set_rules.specs.Words.{Set, Fit, tables_of, length_at, first_at, Bin, empty, moved, bad, list, tree, bin_at, bini}
use Rattle.set_rules.specs.Accepted.{Accepted, BinThere, Listed, HeldIn, EntryOf, GoodChain}
use Rattle.set_rules.proofs.Fit.{small, bini_up, bini_less, near_parent, far_parent, halves}
use Rattle.set_rules.proofs.Lists.{apart_once, listed_unique}
use Rattle.set_rules.proofs.Gathering.{not-empty, not_moved, holds_unique}
use Rattle.set_rules.proofs.Homes.{above_moved}
use Rattle.set_rules.specs.Whole.{Gives, Onward}
use Rattle.tree_rules.specs.Find.{slots_of}

-- A member of one list put after another is a member of one of them.
member_cases : {A : Type 0} (x : ℕ) (l m : List ℕ) → 1 ≤ times x (l ++ m) → (1 ≤ times x l → A) → (1 ≤ times x m → A) → A
member_cases {A} x l m h a b = go (dec_le 1 (times x l))
  where
    go : Dec (1 ≤ times x l) → A
    go (yes y) = a y
    go (no d) = b (omega (arith, times_append x l m))

pub chain_listed : {n : ℕ} {cells : List ℕ} {q i : ℕ} {l : List ℕ} → Chain n cells q i l → Listed n cells i l
chain_listed (Chain.ended e) = Listed.ended e
chain_listed (Chain.linked b p t) = Listed.onward b (chain_listed t)

-- The entries of bin i of table k, and of those below it where it is Moved.
pub data Keeps (s : Set) : ℕ → ℕ → List ℕ → Type 0 where
  nothing : {k i : ℕ} → bin_at s k i ≡ empty → Keeps s k i []
  its : {k i : ℕ} {l : List ℕ} → HeldIn s (bin_at s k i) l → Keeps s k i l
  parts : {k i : ℕ} {l m : List ℕ} → bin_at s k i ≡ moved → suc k < tables_of s → Keeps s (suc k) i l
      → Keeps s (suc k) (i + length_at s k) m
      → Keeps s k i (l ++ m)

-- Those of the bins of table t, from bin i on.
pub data KeepsFrom (s : Set) (t : ℕ) : ℕ → List ℕ → Type 0 where
  end : {i : ℕ} → i ≡ length_at s t → KeepsFrom s t i []
  bin : {i : ℕ} {l m : List ℕ} → i < length_at s t → Keeps s t i l → KeepsFrom s t (suc i) m → KeepsFrom s t i (l ++ m)

module _ (s : Set) (fit : Fit s) (acc : Accepted s) where
  -- A bin's list or tree holds a slot once.
  held_once : {k i : ℕ} {l : List ℕ} → BinThere s k i → HeldIn s (bin_at s k i) l → (x : ℕ) → times x l ≤ 1
  held_once {k} {i} p h = go (bin_at s k i) refl h
    where
      go : (b : Bin) → bin_at s k i ≡ b → {l : List ℕ} → HeldIn s b l → (x : ℕ) → times x l ≤ 1
      go (list a) e (HeldIn.listed g) =
          let v = acc.lists k i a p e in rw (listed_unique s (small fit) v.ends g) at (apart_once s (small fit) v.apart)
      go (tree a) e (HeldIn.grown r) = r.once
      go empty e h = elim h [ ]
      go moved e h = elim h [ ]
      go bad e h = elim h [ ]

  entry_held : {k i x : ℕ} {l : List ℕ} → HeldIn s (bin_at s k i) l → EntryOf s k i x → 1 ≤ times x l
  entry_held h f = rw (holds_unique fit f.holds h) at f.member

  near_there : {k i : ℕ} → BinThere s k i → suc k < tables_of s → BinThere s (suc k) i
  near_there {k} p n = record { table = n; index = omega (arith, p.index, fit.twice k n) }

  far_there : {k i : ℕ} → BinThere s k i → suc k < tables_of s → BinThere s (suc k) (i + length_at s k)
  far_there {k} p n = record { table = n; index = omega (arith, p.index, fit.twice k n) }

  module _ (x : ℕ) where
    abbrev hash : ℕ
    hash = name_of s.names x hash_part

    abbrev home : ℕ → ℕ
    home k = bini (length_at s k) hash

    keeps_home : {k i : ℕ} {l : List ℕ} → Keeps s k i l → BinThere s k i → 1 ≤ times x l → home k ≡ i
    unfolding times
    keeps_home (Keeps.nothing e) p h = absurd (omega arith)
    keeps_home {k} {i} {l} (Keeps.its g) p h = acc.home k i x (record { there = p; held = l; holds = g; member = h })
    keeps_home {k} {i} (Keeps.parts {l = l} {m} e n f g) p h =
        let u = bini_up fit k n hash in
        member_cases x l m h
        (λ a. sym u ∙ ap (λ (y : ℕ). y % length_at s k) (keeps_home f (near_there p n) a) ∙ near_parent i (length_at s k) p.index)
        (λ b. sym u ∙ ap (λ (y : ℕ). y % length_at s k) (keeps_home g (far_there p n) b) ∙ far_parent i (length_at s k) p.index)

    -- An entry of table k or a later one.
    abbrev Later : ℕ → Type 0
    Later k = (l : ℕ) × (j : ℕ) × (k ≤ l) × EntryOf s l j x

    keeps_entry : {k i : ℕ} {l : List ℕ} → Keeps s k i l → BinThere s k i → 1 ≤ times x l → Later k
    unfolding times
    keeps_entry (Keeps.nothing e) p h = absurd (omega arith)
    keeps_entry {k} {i} {l} (Keeps.its g) p h = (k, i, omega arith, record { there = p; held = l; holds = g; member = h })
    keeps_entry {k} {i} (Keeps.parts {l = l} {m} e n f g) p h =
        member_cases x l m h
        (λ a. (let r = keeps_entry f (near_there p n) a in (r.0, r.1, omega (arith, r.2), r.3)))
        (λ b. (let r = keeps_entry g (far_there p n) b in (r.0, r.1, omega (arith, r.2), r.3)))

    keeps_once : {k i : ℕ} {l : List ℕ} → Keeps s k i l → BinThere s k i → times x l ≤ 1
    unfolding times
    keeps_once (Keeps.nothing e) p = omega arith
    keeps_once (Keeps.its g) p = held_once p g x
    keeps_once {k} {i} (Keeps.parts {l = l} {m} e n f g) p =
        go (dec_le 1 (times x l)) (dec_le 1 (times x m)) (keeps_home f (near_there p n)) (keeps_home g (far_there p n))
        (keeps_once f (near_there p n)) (keeps_once g (far_there p n))
      where
        go : Dec (1 ≤ times x l) → Dec (1 ≤ times x m) → (1 ≤ times x l → home (suc k) ≡ i)
            → (1 ≤ times x m → home (suc k) ≡ i + length_at s k)
            → times x l ≤ 1 → times x m ≤ 1 → times x (l ++ m) ≤ 1
        go (yes a) (yes b) u v c d = absurd (omega (arith, u a, v b, p.index))
        go (no a) b u v c d = omega (arith, times_append x l m)
        go (yes a) (no b) u v c d = omega (arith, times_append x l m)

    -- An entry of the bin's own table is the bin's.
    at_home : {k i j : ℕ} → home k ≡ i → EntryOf s k j x → EntryOf s k i x
    at_home {k} {i} {j} e f = let z : j ≡ i = sym (acc.home k j x f) ∙ e in rw z at f

    -- Above an entry the bin that its hash names is Moved.
    above : {k l j : ℕ} → k < l → EntryOf s l j x → bin_at s k (home k) ≡ moved
    above {k} {l} {j} b f = above_moved fit acc.parent_moved_lem hash l k b f.there.table (rw (acc.home l j x f) (not-empty f.holds))

    settle : {k i : ℕ} → home k ≡ i → Later k → EntryOf s k i x ⊎ ((bin_at s k i ≡ moved) × Later (suc k))
    settle {k} {i} e (l, j, b, f) = go (ℕ_discrete l k)
      where
        go : Dec (l ≡ k) → EntryOf s k i x ⊎ ((bin_at s k i ≡ moved) × Later (suc k))
        go (yes z) = inl (at_home e (rw z at f))
        go (no d) = inr (rw e at (above {k = k} (omega arith) f), (l, j, omega arith, f))

    entry_keeps : {k i : ℕ} {l : List ℕ} → Keeps s k i l → BinThere s k i → home k ≡ i → Later k → 1 ≤ times x l
    entry_keeps {k} {i} (Keeps.nothing e) p h r = go (settle h r)
      where
        go : {A : Type 0} → EntryOf s k i x ⊎ ((bin_at s k i ≡ moved) × Later (suc k)) → A
        go (inl f) = absurd (not-empty f.holds e)
        go (inr m) = absurd (let z = m.0 in let y : ◌≡◌ {A = ℕ} 0 1 = cc in omega arith)
    entry_keeps {k} {i} {l} (Keeps.its g) p h r = go (settle h r)
      where
        go : EntryOf s k i x ⊎ ((bin_at s k i ≡ moved) × Later (suc k)) → 1 ≤ times x l
        go (inl f) = entry_held g f
        go (inr m) = absurd (not_moved g m.0)
    entry_keeps {k} {i} (Keeps.parts {l = l} {m} e n f g) p h r =
        go (settle h r) (halves (home (suc k)) (length_at s k) (omega (arith, bini_less fit (suc k) n hash, fit.twice k n)))
        (λ z w. entry_keeps f (near_there p n) z w) (λ z w. entry_keeps g (far_there p n) z w)
      where
        u : home (suc k) % length_at s k ≡ i
        u = bini_up fit k n hash ∙ h

        go : EntryOf s k i x ⊎ ((bin_at s k i ≡ moved) × Later (suc k))
            → (home (suc k) ≡ home (suc k) % length_at s k) ⊎ (home (suc k) ≡ home (suc k) % length_at s k + length_at s k)
            → (home (suc k) ≡ i → Later (suc k) → 1 ≤ times x l) → (home (suc k) ≡ i + length_at s k → Later (suc k) → 1 ≤ times x m)
            → 1 ≤ times x (l ++ m)
        go (inl a) b near far = absurd (not_moved a.holds e)
        go (inr a) (inl b) near far = omega (arith, near (b ∙ u) a.1, times_append x l m)
        go (inr a) (inr b) near far = omega (arith, far (b ∙ ap (λ (y : ℕ). y + length_at s k) u) a.1, times_append x l m)

  -- The bins of table t from bin i on.
  module _ (t : ℕ) (there : t < tables_of s) (x : ℕ) where
    from_home : {i : ℕ} {l : List ℕ} → KeepsFrom s t i l → 1 ≤ times x l → i ≤ home x t
    unfolding times
    from_home (KeepsFrom.end e) h = absurd (omega arith)
    from_home (KeepsFrom.bin {l = l} {m} b g r) h =
        member_cases x l m h (λ a. omega (arith, keeps_home x g (record { table = there; index = b }) a))
        (λ a. omega (arith, from_home r a))

    from_once : {i : ℕ} {l : List ℕ} → KeepsFrom s t i l → times x l ≤ 1
    unfolding times
    from_once (KeepsFrom.end e) = omega arith
    from_once (KeepsFrom.bin {i = i} {l} {m} b g r) =
        go (dec_le 1 (times x l)) (dec_le 1 (times x m)) (keeps_home x g (record { table = there; index = b })) (from_home r)
        (keeps_once x g (record { table = there; index = b })) (from_once r)
      where
        go : Dec (1 ≤ times x l) → Dec (1 ≤ times x m) → (1 ≤ times x l → home x t ≡ i) → (1 ≤ times x m → suc i ≤ home x t) → times x l ≤ 1
            → times x m ≤ 1 → times x (l ++ m) ≤ 1
        go (yes a) (yes b) u v c d = absurd (omega (arith, u a, v b))
        go (no a) b u v c d = omega (arith, times_append x l m)
        go (yes a) (no b) u v c d = omega (arith, times_append x l m)

    from_entry : {i : ℕ} {l : List ℕ} → KeepsFrom s t i l → 1 ≤ times x l → Later x t
    unfolding times
    from_entry (KeepsFrom.end e) h = absurd (omega arith)
    from_entry (KeepsFrom.bin {l = l} {m} b g r) h =
        member_cases x l m h (keeps_entry x g (record { table = there; index = b })) (λ a. from_entry r a)

    entry_from : {i : ℕ} {l : List ℕ} → KeepsFrom s t i l → i ≤ home x t → Later x t → 1 ≤ times x l
    entry_from (KeepsFrom.end e) h f = absurd (omega (arith, bini_less fit t there (hash x)))
    entry_from (KeepsFrom.bin {i = i} {l} {m} b g r) h f = go (ℕ_discrete (home x t) i) (λ d. entry_from r d f)
      where
        go : Dec (home x t ≡ i) → (suc i ≤ home x t → 1 ≤ times x m) → 1 ≤ times x (l ++ m)
        go (yes z) again = omega (arith, entry_keeps x g (record { table = there; index = b }) z f, times_append x l m)
        go (no d) again = omega (arith, again (omega arith), times_append x l m)

  -- What a bin gives is there.
  gives_bin : (k i : ℕ) → BinThere s k i → (bin_at s k i ≡ moved → (l : List ℕ) × Gives s k i l) → (b : Bin) → bin_at s k i ≡ b
      → (l : List ℕ) × Gives s k i l
  gives_bin k i p below empty e = ([], Gives.of_none e)
  gives_bin k i p below moved e = below e
  gives_bin k i p below bad e = absurd (acc.none_bad k i p e)
  gives_bin k i p below (list a) e = let g = acc.lists k i a p e in (g.visits, Gives.of_list e g.ends)
  gives_bin k i p below (tree h) e = let g = acc.chains k i h p e in (g.visits, Gives.of_tree e (chain_listed g.linked))

  both_given : {k i : ℕ} → bin_at s k i ≡ moved → suc k < tables_of s → (l : List ℕ) × Gives s (suc k) i l
      → (m : List ℕ) × Gives s (suc k) (i + length_at s k) m
      → (l : List ℕ) × Gives s k i l
  both_given e n f g = (f.0 ++ g.0, Gives.of_moved e n f.1 g.1)

  gives_all : (left k i : ℕ) → BinThere s k i → suc k + left ≡ tables_of s → (l : List ℕ) × Gives s k i l
  gives_all zero k i p t = gives_bin k i p (λ e. absurd (acc.last_unmoved k i p (omega arith) e)) (bin_at s k i) refl
  gives_all (suc left) k i p t =
      let n : suc k < tables_of s = omega arith in
      gives_bin k i p
      (λ e. both_given e n (gives_all left (suc k) i (near_there p n) (omega arith))
      (gives_all left (suc k) (i + length_at s k) (far_there p n) (omega arith)))
      (bin_at s k i) refl

  onward_all : (t : ℕ) → t < tables_of s → (r i : ℕ) → i + r ≡ length_at s t → (l : List ℕ) × Onward s t i l
  onward_all t b zero i e = let z : i ≡ length_at s t = omega arith in ([], Onward.end z)
  onward_all t b (suc r) i e =
      let w : i < length_at s t = omega arith in
      let f = gives_all (tables_of s - suc t) t i (record { table = b; index = w }) (omega arith) in
      let g = onward_all t b r (suc i) (omega arith) in
      (f.0 ++ g.0, Onward.bin w f.1 g.1)

  -- What a bin gives is what it leads to: a chain visits exactly its tree's slots.
  same_times : {k i h : ℕ} {l m : List ℕ} → GoodChain s k i h → Listed (slots_of s.names) s.cells (first_at s h) l → BinThere s k i
      → HeldIn s (bin_at s k i) m
      → (x : ℕ) → times x l ≡ times x m
  same_times {k} {i} {h} {l} {m} c g p o x =
      let z = listed_unique s (small fit) (chain_listed c.linked) g in
      let n : times x l ≤ 1 = rw z at (chain_once (slots_of s.names) s.cells (small fit) (first_at s h) c.linked x) in
      go (dec_le 1 (times x l)) (dec_le 1 (times x m)) n (held_once p o x) (λ a. entry_held o ((c.own x).0 (rw (sym z) at a)))
      (λ b. rw z at ((c.own x).1 (record { there = p; held = m; holds = o; member = b })))
    where
      go : Dec (1 ≤ times x l) → Dec (1 ≤ times x m) → times x l ≤ 1 → times x m ≤ 1 → (1 ≤ times x l → 1 ≤ times x m)
          → (1 ≤ times x m → 1 ≤ times x l)
          → times x l ≡ times x m
      go (yes a) b u v to from = omega (arith, to a)
      go (no a) (yes b) u v to from = omega (arith, from b)
      go (no a) (no b) u v to from = omega arith

  abbrev Likened : ℕ → ℕ → List ℕ → Type 0
  Likened k i l = (m : List ℕ) × Keeps s k i m × ((x : ℕ) → times x l ≡ times x m)

  likened : {k i : ℕ} {l : List ℕ} → Gives s k i l → BinThere s k i → Likened k i l
  likened (Gives.of_none e) p = ([], Keeps.nothing e, λ x. refl)
  likened {k} {i} {l} (Gives.of_list e g) p = let h : HeldIn s (bin_at s k i) l = rw e (HeldIn.listed g) in (l, Keeps.its h, λ x. refl)
  likened {k} {i} (Gives.of_tree {h = h} e g) p =
      let t = acc.trees k i h p e in
      let o : HeldIn s (bin_at s k i) (slots t.tree) = rw e (HeldIn.grown t.rooted) in
      (slots t.tree, Keeps.its o, same_times (acc.chains k i h p e) g p o)
  likened (Gives.of_moved {l = l} {m} e n f g) p =
      let u = likened f (near_there p n) in
      let v = likened g (far_there p n) in
      (u.0 ++ v.0, Keeps.parts e n u.1 v.1, λ x. omega (arith, times_append x l m, times_append x u.0 v.0, u.2 x, v.2 x))

  likened_from : {t i : ℕ} {l : List ℕ} → t < tables_of s → Onward s t i l
      → (m : List ℕ) × KeepsFrom s t i m × ((x : ℕ) → times x l ≡ times x m)
  likened_from b (Onward.end e) = ([], KeepsFrom.end e, λ x. refl)
  likened_from b (Onward.bin {l = l} {m} w g r) =
      let u = likened g (record { table = b; index = w }) in
      let v = likened_from b r in
      (u.0 ++ v.0, KeepsFrom.bin w u.1 v.1, λ x. omega (arith, times_append x l m, times_append x u.0 v.0, u.2 x, v.2 x))

  -- The slots that the bins of table t give, and the entries that they lead to.
  pub record Told (t : ℕ) : Type 0 where
    pub given : List ℕ
    pub order : Onward s t 0 given
    pub held : List ℕ
    pub keeps : KeepsFrom s t 0 held
    pub same : (x : ℕ) → times x given ≡ times x held
    pub once : (x : ℕ) → times x held ≤ 1
    pub entries : (x : ℕ) → (1 ≤ times x held) ↔ ((k : ℕ) × (i : ℕ) × (t ≤ k) × EntryOf s k i x)

  pub told : (t : ℕ) → t < tables_of s → Told t
  told t b =
      let r = onward_all t b (length_at s t) 0 (omega arith) in
      let u = likened_from b r.1 in
      record {
        given = r.0;
        order = r.1;
        held = u.0;
        keeps = u.1;
        same = u.2;
        once = λ x. from_once t b x u.1;
        entries = λ x. (λ h. from_entry t b x u.1 h, λ f. entry_from t b x u.1 (omega arith) f);
      }
