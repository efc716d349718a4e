-- The test of a cursor holds exactly where its numbers are right, and a step may stand where such a cursor stands.
use mathlib.Core.Path.{◌≡◌, refl, sym, ap, ◌∙◌}
use mathlib.Core.Logic.{◌≢◌, ◌⊎◌, inl, inr}
use mathlib.Core.Bool.{Bool, true, false, false≢true}
use mathlib.Core.List.{List}
use Prim.Native.Nat.{ℕ, zero, suc, ◌+◌, ◌-◌, ◌*◌, ◌%◌, ◌<◌, ◌≤◌}
use native.Mathlib.Nat.{add-zero, add-mod_right}
use native.Mathlib.Decide.{dec_lt, ℕ_discrete}
use native.Mathlib.Omega.{arith}
use lib.ListN.{length, get_or}
use lib.Dec.{eqb, ltb}
use borrow.Author.Tests.{ltb-true, eqb-true, lt-ltb, le-ltb, le-leb, eq-eqb, ne_eqb}
use Rattle.slots.specs.Words.{null, pick}
use Rattle.tree_rules.specs.Check.{in_range}
use Rattle.set_rules.specs.Words.{Set, tables_of, length_at, Fit}
use Rattle.set_rules.proofs.Fit.{near_parent, halves}
use Rattle.set_rules.specs.Cursor.{Cursor, index_at, BadCursor, level_fine, levels_fine, base_fine, fine, fine_cursor}
use Rattle.set_rules.specs.Walk.{kept, trimmed, standing, InTables}
use Rattle.set_rules.proofs.Turns.{twice_at}
use Rattle.tree_rules.specs.Find.{slots_of}

-- Two tests in a row.
pub both : {a b : Bool} → pick a b false ≡ true → (a ≡ true) × (b ≡ true)
both {a} {b} h = go a h
  where
    go : (t : Bool) → pick t b false ≡ true → (t ≡ true) × (b ≡ true)
    go true k = (refl, k)
    go false k = absurd (false≢true k)

pub and : {a b : Bool} → a ≡ true → b ≡ true → pick a b false ≡ true
and {a} {b} h k = rw (h, k)

pub either : {a b : Bool} → pick a true b ≡ true → (a ≡ true) ⊎ (b ≡ true)
either {a} {b} h = go a h
  where
    go : (t : Bool) → pick t true b ≡ true → (t ≡ true) ⊎ (b ≡ true)
    go true k = inl refl
    go false k = inr k

-- An index under the one above.
abbrev pub Under : ℕ → ℕ → ℕ → ℕ → Type 0
Under upper lower i k = (k < lower) × ((k ≡ i) ⊎ (k ≡ i + upper))

pub record Right (lengths : List ℕ) (n base depth : ℕ) (x : List ℕ) (last : ℕ) : Type 0 where
  pub deep : base + depth < length lengths
  pub first : (get_or x 0 0 < get_or lengths base 0) ⊎ ((depth ≡ 0) × (get_or x 0 0 ≡ get_or lengths base 0))
  pub level : (j : ℕ) → j < depth
      → Under (get_or lengths (base + j) 0) (get_or lengths (base + suc j) 0) (get_or x j 0) (get_or x (suc j) 0)
  pub known : (last ≡ null) ⊎ (last < n)

level-under : (upper lower i k : ℕ) → level_fine upper lower i k ≡ true → Under upper lower i k
unfolding level_fine
level-under upper lower i k h = let b = both h in (ltb-true k lower b.0, go (either b.1))
  where
    go : (eqb k i ≡ true) ⊎ (eqb k (i + upper) ≡ true) → (k ≡ i) ⊎ (k ≡ i + upper)
    go (inl e) = inl (eqb-true k i e)
    go (inr e) = inr (eqb-true k (i + upper) e)

under-level : (upper lower i k : ℕ) → Under upper lower i k → level_fine upper lower i k ≡ true
unfolding level_fine
under-level upper lower i k h = and (lt-ltb _ _ h.0) (go (ℕ_discrete k i) h.1)
  where
    go : Dec (k ≡ i) → (k ≡ i) ⊎ (k ≡ i + upper) → pick (eqb k i) true (eqb k (i + upper)) ≡ true
    go (yes e) a = simp (eq-eqb _ _ e)
    go (no n) (inl e) = absurd (n e)
    go (no n) (inr e) = simp (ne_eqb _ _ n, eq-eqb _ _ e)

levels_under : (d : ℕ) (lengths : List ℕ) (base : ℕ) (x : List ℕ) → levels_fine d lengths base x ≡ true
    → (j : ℕ) → j < d → Under (get_or lengths (base + j) 0) (get_or lengths (base + suc j) 0) (get_or x j 0) (get_or x (suc j) 0)
unfolding levels_fine
levels_under zero lengths base x h j l = absurd (omega arith)
levels_under (suc d) lengths base x h j l = go (ℕ_discrete j d) (λ k. levels_under d lengths base x parts.1 j k)
  where
    parts : (level_fine (get_or lengths (base + d) 0) (get_or lengths (base + suc d) 0) (get_or x d 0) (get_or x (suc d) 0) ≡ true)
        × (levels_fine d lengths base x ≡ true)
    parts = both h

    go : Dec (j ≡ d)
        → (j < d → Under (get_or lengths (base + j) 0) (get_or lengths (base + suc j) 0) (get_or x j 0) (get_or x (suc j) 0))
        → Under (get_or lengths (base + j) 0) (get_or lengths (base + suc j) 0) (get_or x j 0) (get_or x (suc j) 0)
    go (yes e) again = rw e (level-under _ _ _ _ parts.0)
    go (no n) again = again (omega arith)

right_base : (len depth i : ℕ) → (i < len) ⊎ ((depth ≡ 0) × (i ≡ len)) → base_fine len depth i ≡ true
unfolding base_fine
right_base len depth i (inl l) = simp (lt-ltb _ _ l)
right_base len depth i (inr e) = simp (le-ltb i len (omega arith), eq-eqb _ _ e.0, eq-eqb _ _ e.1)

base_right : (len depth i : ℕ) → base_fine len depth i ≡ true → (i < len) ⊎ ((depth ≡ 0) × (i ≡ len))
unfolding base_fine
base_right len depth i h = go (either h)
  where
    go : (ltb i len ≡ true) ⊎ (pick (eqb depth 0) (eqb i len) false ≡ true) → (i < len) ⊎ ((depth ≡ 0) × (i ≡ len))
    go (inl e) = inl (ltb-true i len e)
    go (inr e) = let b = both e in inr (eqb-true depth 0 b.0, eqb-true i len b.1)

range_known : (n l : ℕ) → in_range n l ≡ true → (l ≡ null) ⊎ (l < n)
range_known n l h = go (either h)
  where
    go : (eqb l null ≡ true) ⊎ (ltb l n ≡ true) → (l ≡ null) ⊎ (l < n)
    go (inl e) = inl (eqb-true l null e)
    go (inr e) = inr (ltb-true l n e)

known_range : (n l : ℕ) → (l ≡ null) ⊎ (l < n) → in_range n l ≡ true
known_range n l a = go (ℕ_discrete l null) a
  where
    go : Dec (l ≡ null) → (l ≡ null) ⊎ (l < n) → in_range n l ≡ true
    go (yes e) b = simp (eq-eqb _ _ e)
    go (no d) (inl e) = absurd (d e)
    go (no d) (inr h) = simp (ne_eqb _ _ d, lt-ltb _ _ h)

module _ (lengths : List ℕ) (n base depth : ℕ) (x : List ℕ) (last : ℕ) where
  pub fine-right : fine lengths n base depth x last ≡ true → Right lengths n base depth x last
  unfolding fine
  fine-right h =
      let a = both h in
      let b = both a.1 in
      let c = both b.1 in
      record {
        deep = ltb-true _ _ a.0;
        first = base_right _ _ _ b.0;
        level = levels_under depth lengths base x c.0;
        known = range_known n last c.1;
      }

-- The index at a level down to the depth is handed on, and past it is 0.
pub trimmed-kept : (d : ℕ) (x : List ℕ) (j : ℕ) → j < 8 → get_or (trimmed d x) j 0 ≡ kept d x j
trimmed-kept d x zero h = refl
trimmed-kept d x (suc zero) h = refl
trimmed-kept d x (suc (suc zero)) h = refl
trimmed-kept d x (suc (suc (suc zero))) h = refl
trimmed-kept d x (suc (suc (suc (suc zero)))) h = refl
trimmed-kept d x (suc (suc (suc (suc (suc zero))))) h = refl
trimmed-kept d x (suc (suc (suc (suc (suc (suc zero)))))) h = refl
trimmed-kept d x (suc (suc (suc (suc (suc (suc (suc zero))))))) h = refl
trimmed-kept d x (suc (suc (suc (suc (suc (suc (suc (suc j)))))))) h = absurd (omega arith)

pub trimmed_same : (d : ℕ) (x : List ℕ) (j : ℕ) → j ≤ d → d < 8 → get_or (trimmed d x) j 0 ≡ get_or x j 0
unfolding kept
trimmed_same d x j l h = trimmed-kept d x j (omega arith) ∙ simp (le-leb _ _ l)

module _ (s : Set) (fit : Fit s) (c : Cursor) where
  abbrev pub RightCursor : Type 0
  RightCursor = Right s.lengths (slots_of s.names) c.base c.depth c.indexes c.last

  -- A step may stand where a right cursor stands.
  pub right-stands : RightCursor → InTables s.lengths c.base (standing c)
  right-stands h =
      record {
        eight = refl;
        few = fit.most;
        twice = fit.twice;
        deep = h.deep;
        within = λ j l. rw (trimmed_same c.depth c.indexes j (omega arith) short) (inner j l);
        last = ending (ℕ_discrete c.depth 0) h.first;
      }
    where
      short : c.depth < 8
      short = omega (arith, h.deep, fit.most)

      start : get_or s.lengths (c.base + 0) 0 ≡ get_or s.lengths c.base 0
      start = ap (λ (k : ℕ). get_or s.lengths k 0) (add-zero c.base)

      inner : (j : ℕ) → j < c.depth → get_or c.indexes j 0 < get_or s.lengths (c.base + j) 0
      inner zero l = go h.first
        where
          go : (index_at c 0 < length_at s c.base) ⊎ ((c.depth ≡ 0) × (index_at c 0 ≡ length_at s c.base))
              → index_at c 0 < get_or s.lengths (c.base + 0) 0
          go (inl k) = omega (arith, start)
          go (inr e) = absurd (omega arith)
      inner (suc j) l = (h.level j (omega arith)).0

      deepest_same : get_or (trimmed c.depth c.indexes) c.depth 0 ≡ get_or c.indexes c.depth 0
      deepest_same = trimmed_same c.depth c.indexes c.depth (omega arith) short

      ending : Dec (c.depth ≡ 0)
          → (index_at c 0 < length_at s c.base) ⊎ ((c.depth ≡ 0) × (index_at c 0 ≡ length_at s c.base))
          → (get_or (trimmed c.depth c.indexes) c.depth 0 < length_at s (c.base + c.depth))
          ⊎ ((c.depth ≡ 0) × (get_or (trimmed c.depth c.indexes) c.depth 0 ≡ length_at s c.base))
      ending (yes e) (inl k) =
          let z : get_or c.indexes c.depth 0 ≡ index_at c 0 = ap (λ (j : ℕ). get_or c.indexes j 0) e in
          let y : length_at s (c.base + c.depth) ≡ length_at s c.base = ap (λ (j : ℕ). length_at s (c.base + j)) e ∙ start in
          inl (omega (arith, deepest_same, z, y))
      ending (yes e) (inr k) =
          let z : get_or c.indexes c.depth 0 ≡ index_at c 0 = ap (λ (j : ℕ). get_or c.indexes j 0) e in
          inr (e, deepest_same ∙ z ∙ k.1)
      ending (no n) k =
          let z : suc (c.depth - 1) ≡ c.depth = omega arith in
          let l : get_or c.indexes c.depth 0 < length_at s (c.base + c.depth) = rw z at (h.level (c.depth - 1) (omega arith)).0 in
          inl (omega (arith, deepest_same))

-- A cursor is right exactly where it is not bad.
module _ (s : Set) (fit : Fit s) (c : Cursor) where
  start_same : length_at s (c.base + 0) ≡ length_at s c.base
  start_same = ap (λ (k : ℕ). length_at s k) (add-zero c.base)

  pub right-not_bad : Right s.lengths (slots_of s.names) c.base c.depth c.indexes c.last → BadCursor s c → ⊥
  right-not_bad h (BadCursor.no_base l) = omega (arith, h.deep, l)
  right-not_bad h (BadCursor.too_deep l) = omega (arith, h.deep, l)
  right-not_bad h (BadCursor.out_of_range zero l m n) = go h.first
    where
      go : (index_at c 0 < length_at s c.base) ⊎ ((c.depth ≡ 0) × (index_at c 0 ≡ length_at s c.base)) → ⊥
      go (inl k) = omega (arith, start_same, m)
      go (inr e) = n e
  right-not_bad h (BadCursor.out_of_range (suc j) l m n) = omega (arith, (h.level j (omega arith)).0, m)
  right-not_bad h (BadCursor.not_congruent j l n) = go (h.level j l).1
    where
      go : (index_at c (suc j) ≡ index_at c j) ⊎ (index_at c (suc j) ≡ index_at c j + length_at s (c.base + j)) → ⊥
      go (inl e) = n (ap (λ (k : ℕ). k % length_at s (c.base + j)) e)
      go (inr e) = n (ap (λ (k : ℕ). k % length_at s (c.base + j)) e ∙ add-mod_right (index_at c j) (length_at s (c.base + j)))
  right-not_bad h (BadCursor.stray_last n l) = go h.known
    where
      go : (c.last ≡ null) ⊎ (c.last < slots_of s.names) → ⊥
      go (inl e) = n e
      go (inr k) = omega (arith, k, l)

  -- A level that is not fine is out of range, or not congruent.
  level_bad : (j : ℕ) → j < c.depth → c.base + c.depth < tables_of s
      → (Under (length_at s (c.base + j)) (length_at s (c.base + suc j)) (index_at c j) (index_at c (suc j)) → ⊥)
      → BadCursor s c
  level_bad j l deep n = go (dec_lt (index_at c (suc j)) (length_at s (c.base + suc j))) (dec_lt (index_at c j) (length_at s (c.base + j)))
    where
      not_end : (c.depth ≡ 0) × (index_at c 0 ≡ length_at s c.base) → ⊥
      not_end e = omega (arith, e.0)

      twice : length_at s (c.base + suc j) ≡ 2 * length_at s (c.base + j)
      twice = twice_at s.lengths c.base fit.twice j (omega arith)

      congruent : index_at c (suc j) < length_at s (c.base + suc j) → index_at c j < length_at s (c.base + j)
          → index_at c (suc j) % length_at s (c.base + j) ≡ index_at c j % length_at s (c.base + j)
          → ⊥
      congruent k i e = by (halves (index_at c (suc j)) (length_at s (c.base + j)) (omega (arith, twice)))
        where
          same : index_at c (suc j) % length_at s (c.base + j) ≡ index_at c j
          same = e ∙ near_parent (index_at c j) (length_at s (c.base + j)) i

          by : (index_at c (suc j) ≡ index_at c (suc j) % length_at s (c.base + j))
              ⊎ (index_at c (suc j) ≡ index_at c (suc j) % length_at s (c.base + j) + length_at s (c.base + j))
              → ⊥
          by (inl f) = n (k, inl (f ∙ same))
          by (inr f) = n (k, inr (omega (arith, f, same)))

      go : Dec (index_at c (suc j) < length_at s (c.base + suc j)) → Dec (index_at c j < length_at s (c.base + j)) → BadCursor s c
      go (no k) i = BadCursor.out_of_range (suc j) (omega arith) (omega arith) not_end
      go (yes k) (no i) = BadCursor.out_of_range j (omega arith) (omega arith) not_end
      go (yes k) (yes i) = BadCursor.not_congruent j l (congruent k i)

  levels_bad : (d : ℕ) → d ≤ c.depth → c.base + c.depth < tables_of s → levels_fine d s.lengths c.base c.indexes ≡ false
      → BadCursor s c
  unfolding levels_fine
  levels_bad zero l deep e = absurd (false≢true (sym e))
  levels_bad (suc d) l deep e =
      go (level_fine (length_at s (c.base + d)) (length_at s (c.base + suc d)) (index_at c d) (index_at c (suc d))) refl e
      (λ f. levels_bad d (omega arith) deep f)
    where
      go : (b : Bool) → level_fine (length_at s (c.base + d)) (length_at s (c.base + suc d)) (index_at c d) (index_at c (suc d)) ≡ b
          → pick b (levels_fine d s.lengths c.base c.indexes) false ≡ false
          → (levels_fine d s.lengths c.base c.indexes ≡ false → BadCursor s c)
          → BadCursor s c
      go true f g again = again g
      go false f g again = level_bad d (omega arith) deep (λ u. false≢true (sym f ∙ under-level _ _ _ _ u))

  pub wrong_bad : fine_cursor s c ≡ false → BadCursor s c
  unfolding fine
  wrong_bad e = deep (dec_lt (c.base + c.depth) (tables_of s))
    where
      range : c.base + c.depth < tables_of s → base_fine (length_at s c.base) c.depth (index_at c 0) ≡ true
          → levels_fine c.depth s.lengths c.base c.indexes ≡ true
          → BadCursor s c
      range l f g =
          let h : in_range (slots_of s.names) c.last ≡ false = simp (lt-ltb _ _ l, f, g) at e in
          go (ℕ_discrete c.last null) (dec_lt c.last (slots_of s.names)) h
        where
          go : Dec (c.last ≡ null) → Dec (c.last < slots_of s.names) → in_range (slots_of s.names) c.last ≡ false → BadCursor s c
          go (yes z) d h = absurd (false≢true (sym h ∙ known_range (slots_of s.names) c.last (inl z)))
          go (no n) (yes k) h = absurd (false≢true (sym h ∙ known_range (slots_of s.names) c.last (inr k)))
          go (no n) (no k) h = BadCursor.stray_last n (omega arith)

      levels : c.base + c.depth < tables_of s → base_fine (length_at s c.base) c.depth (index_at c 0) ≡ true
          → (b : Bool) → levels_fine c.depth s.lengths c.base c.indexes ≡ b → BadCursor s c
      levels l f true g = range l f g
      levels l f false g = levels_bad c.depth (omega arith) l g

      first : c.base + c.depth < tables_of s → (b : Bool) → base_fine (length_at s c.base) c.depth (index_at c 0) ≡ b → BadCursor s c
      first l true f = levels l f (levels_fine c.depth s.lengths c.base c.indexes) refl
      first l false f =
          BadCursor.out_of_range 0 (omega arith) (beyond (dec_lt (index_at c 0) (length_at s c.base)))
          (λ z. false≢true (sym f ∙ right_base _ _ _ (inr z)))
        where
          beyond : Dec (index_at c 0 < length_at s c.base) → length_at s (c.base + 0) ≤ index_at c 0
          beyond (yes k) = absurd (false≢true (sym f ∙ right_base _ _ _ (inl k)))
          beyond (no n) = omega (arith, start_same)

      deep : Dec (c.base + c.depth < tables_of s) → BadCursor s c
      deep (yes l) = first l (base_fine (length_at s c.base) c.depth (index_at c 0)) refl
      deep (no n) = BadCursor.too_deep (omega arith)
