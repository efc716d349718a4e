-- What the steps of undoing come to, on plain values: each law takes what the calls and the tests gave, in the order of the code.
-- Parts: undoing a line of each kind, and of another one; the slot that it frees; how far the count may grow; a turn of undoing many lines;
-- words that were kept aside come back.
use mathlib.Core.Path.{◌≡◌, refl, ap, sym, ◌∙◌}
use mathlib.Core.Logic.{◌≢◌}
use mathlib.Core.Bool.{Bool, true, false}
use mathlib.Core.List.{List, [], ◌∷◌}
use Rattle.std.specs.Prelude.{Result}
use Prim.Native.Nat.{ℕ, zero, suc, ◌+◌, ◌-◌, ◌/◌, ◌%◌, ◌<◌, ◌≤◌}
use native.Mathlib.Decide.{dec_lt}
use native.Mathlib.Numerals.{sub-one}
use native.Mathlib.Omega.{arith}
use lib.ListN.{length, get_or, set, take, length-set, get_or-eq_default}
use lib.Seq.{get_or-set_same, take_all, take-length}
use lib.Dec.{eqb, ltb}
use borrow.Author.Tests.{eq-eqb, ne_eqb, lt-ltb}
use Rattle.slots.specs.Words.{null, pick, place, cell, write}
use Rattle.slots.specs.Answers.{Value, some, none}
use Rattle.index_rules.specs.Live.{Live, lent_tree, count_of}
use Rattle.index_rules.specs.Index.{JournalLine, line_word, line_of, line_made}
use Rattle.index_rules.specs.Insert.{free_from, sought_in, headed, grown}
use Rattle.index_rules.specs.Remove.{shrunk}
use Rattle.index_rules.specs.Replace.{placed_at}
use Rattle.index_rules.specs.Rollback.{Undo, stays, misfit, taken_back, put_back, put_behind, placed_back, undone_into}
use Rattle.index_rules.specs.Checked.{lesser, lowest_from, slot_in, freed_by, unrolled_from}
use Rattle.index.specs.Rolls.{freed_is}
use Rattle.index.specs.declared.lines.Misfit.{Misfit}
use Rattle.tree_rules.specs.Find.{slots_of}

-- An insert line: its pair is not there, has another place, or goes.
module _ (t : Live) (hash key p : ℕ) where
  pub back_absent : sought_in t hash key ≡ none → misfit ≡ taken_back t (sought_in t hash key) p
  back_absent s = rw s

  module _ {x own : ℕ} (s : sought_in t hash key ≡ some x) (e : own ≡ cell t.cells x place) where
    pub back_other : own ≢ p → misfit ≡ taken_back t (sought_in t hash key) p
    back_other n = rw (s, ← e, ne_eqb own p n)

    pub back_done : {u : Live} → own ≡ p → u ≡ shrunk t x → stays u ≡ taken_back t (sought_in t hash key) p
    back_done h g = rw (s, ← e, eq-eqb own p h, ← g)

-- A remove line: its pair is there, or it comes back.
module _ (t : Live) (j : JournalLine) (x y : ℕ) where
  pub put_there : {own : ℕ} → sought_in t j.hash j.key ≡ some own → misfit ≡ put_back t x (sought_in t j.hash j.key) j y
  put_there s = rw s

  pub put-done : {u : Live} → sought_in t j.hash j.key ≡ none → x ≢ null → j.place < 4294967296 → u ≡ grown t x y j.hash j.key j.place
      → stays u ≡ put_back t x (sought_in t j.hash j.key) j y
  put-done s v h g = rw (s, ne_eqb x null v, lt-ltb j.place 4294967296 h, ← g)

-- A remove line that notes a pair: it is not there, or it is.
module _ (t : Live) (x prehash prekey : ℕ) (own : Value) (j : JournalLine) where
  pub behind_none : sought_in t prehash prekey ≡ none → misfit ≡ put_behind t x (sought_in t prehash prekey) own j
  behind_none s = rw s

  pub behind_some : {y : ℕ} → sought_in t prehash prekey ≡ some y → {o : Undo} → o ≡ put_back t x own j y
      → o ≡ put_behind t x (sought_in t prehash prekey) own j
  behind_some s e = rw s e

-- A replace line: its pair is not there, has another place than the new one, or has the old one again.
module _ (t : Live) (hash key w : ℕ) where
  pub place_absent : sought_in t hash key ≡ none → misfit ≡ placed_back t (sought_in t hash key) w
  place_absent s = rw s

  module _ {x own : ℕ} (s : sought_in t hash key ≡ some x) (e : own ≡ cell t.cells x place) where
    pub place_other : own ≢ w % 4294967296 → misfit ≡ placed_back t (sought_in t hash key) w
    place_other n = rw (s, ← e, ne_eqb own (w % 4294967296) n)

    pub place-done : {c : List ℕ} → own ≡ w % 4294967296 → w / 4294967296 < 4294967296 → c ≡ write t.cells x place (w / 4294967296)
        → stays (lent_tree t.names c t.head t.sizes) ≡ placed_back t (sought_in t hash key) w
    unfolding placed_at
    place-done h l g = rw (s, ← e, eq-eqb own (w % 4294967296) h, lt-ltb (w / 4294967296) 4294967296 l, ← g)

-- A line of each kind, and of another one.
module _ (t : Live) (lines : List ℕ) (k x : ℕ) {kind hash key p : ℕ}
    (e1 : kind ≡ line_word lines k 0) (e2 : hash ≡ line_word lines k 1) (e3 : key ≡ line_word lines k 2)
    (e4 : p ≡ line_word lines k 3) where
  pub line_insert : kind ≡ 1 → {o : Undo} → o ≡ taken_back t (sought_in t hash key) p → o ≡ undone_into x t (line_of lines k)
  unfolding undone_into
  line_insert h e = rw (← e1, ← e2, ← e3, ← e4, eq-eqb kind 1 h) e

  pub line_remove : kind ≢ 1 → kind ≡ 2 → {o : Undo}
      → ((kind prehash prekey : ℕ) → o ≡ put_back t x (sought_in t hash key) (line_made kind hash key p prehash prekey) null)
      → o ≡ undone_into x t (line_of lines k)
  unfolding undone_into
  line_remove n h e =
      let f = e kind (line_word lines k 4) (line_word lines k 5) in rw (← e1, ← e2, ← e3, ← e4, ne_eqb kind 1 n, eq-eqb kind 2 h) f

  pub line_noted : kind ≢ 1 → kind ≢ 2 → kind ≡ 4294967298 → {prehash prekey : ℕ} → prehash ≡ line_word lines k 4
      → prekey ≡ line_word lines k 5 → {o : Undo}
      → ((kind : ℕ) → o ≡ put_behind t x (sought_in t prehash prekey) (sought_in t hash key) (line_made kind hash key p prehash prekey))
      → o ≡ undone_into x t (line_of lines k)
  unfolding undone_into
  line_noted n m h e5 e6 e =
      let f = e kind in rw (← e1, ← e2, ← e3, ← e4, ← e5, ← e6, ne_eqb kind 1 n, ne_eqb kind 2 m, eq-eqb kind 4294967298 h) f

  pub line_replace : kind ≢ 1 → kind ≢ 2 → kind ≢ 4294967298 → kind ≡ 3 → {o : Undo} → o ≡ placed_back t (sought_in t hash key) p
      → o ≡ undone_into x t (line_of lines k)
  unfolding undone_into
  line_replace n m d h e = rw (← e1, ← e2, ← e3, ← e4, ne_eqb kind 1 n, ne_eqb kind 2 m, ne_eqb kind 4294967298 d, eq-eqb kind 3 h) e

  pub line_other : kind ≢ 1 → kind ≢ 2 → kind ≢ 4294967298 → kind ≢ 3 → misfit ≡ undone_into x t (line_of lines k)
  unfolding undone_into
  line_other n m d h = rw (← e1, ne_eqb kind 1 n, ne_eqb kind 2 m, ne_eqb kind 4294967298 d, ne_eqb kind 3 h)

-- The slot that a line's undoing frees.
module _ (t : Live) (lines : List ℕ) (k : ℕ) {kind hash key : ℕ} (e1 : kind ≡ line_word lines k 0) (e2 : hash ≡ line_word lines k 1)
    (e3 : key ≡ line_word lines k 2)
    (r : Result ℕ Misfit) where
  pub frees_own : kind ≡ 1 → freed_is r (slot_in (sought_in t hash key)) → freed_is r (freed_by t (line_of lines k))
  unfolding freed_by
  frees_own h f = rw (← e1, ← e2, ← e3, eq-eqb kind 1 h) f

  pub frees_none : kind ≢ 1 → freed_is r null → freed_is r (freed_by t (line_of lines k))
  unfolding freed_by
  frees_none h f = rw (← e1, ne_eqb kind 1 h) f

-- A header with a count below null has its three words, and a line that is undone adds at most one to the count.
counted : (h : List ℕ) (a b c : ℕ) → get_or h 2 null < null → get_or (headed h a b c) 2 null ≡ c
counted h a b c l = go (dec_lt 2 (length h))
  where
    go : Dec (2 < length h) → get_or (headed h a b c) 2 null ≡ c
    go (yes m) = get_or-set_same (set (set h 0 a) 1 b) 2 c null (simp length-set (omega arith))
    go (no n) = absurd (let z : get_or h 2 null ≡ null = get_or-eq_default h null (omega arith) in omega arith)

module _ (t u : Live) (l : count_of t < null) where
  stays_is : {v : Live} → stays v ≡ stays u → v ≡ u
  stays_is e = cc

  not_stays : misfit ≡ stays u → ⊥
  not_stays e = let z : ◌≡◌ {A = ℕ} 0 1 = cc in omega arith

  same_count : {v : Live} (n : ℕ) → stays v ≡ stays u → count_of v ≡ n → count_of u ≡ n
  same_count n e h = ap (λ (w : Live). count_of w) (sym (stays_is e)) ∙ h

  grown-count : (x y hash key p : ℕ) → count_of (grown t x y hash key p) ≡ count_of t + 1
  unfolding grown
  grown-count x y hash key p = counted t.head _ _ _ l

  shrunk-count : (x : ℕ) → count_of (shrunk t x) ≡ count_of t - 1
  unfolding shrunk
  shrunk-count x = counted t.head _ _ _ l

  back_count : (v : Value) (p : ℕ) → taken_back t v p ≡ stays u → count_of u ≤ count_of t + 1
  back_count none p e = absurd (not_stays e)
  back_count (some x) p e = go (eqb (cell t.cells x place) p) e
    where
      go : (b : Bool) → pick b (stays (shrunk t x)) misfit ≡ stays u → count_of u ≤ count_of t + 1
      go true e = omega (arith, same_count (count_of t - 1) e (shrunk-count x))
      go false e = absurd (not_stays e)

  put_count : (x : ℕ) (v : Value) (j : JournalLine) (y : ℕ) → put_back t x v j y ≡ stays u → count_of u ≤ count_of t + 1
  put_count x (some own) j y e = absurd (not_stays e)
  put_count x none j y e = go (eqb x null) (ltb j.place 4294967296) e
    where
      go : (a b : Bool) → pick a misfit (pick b (stays (grown t x y j.hash j.key j.place)) misfit) ≡ stays u
          → count_of u ≤ count_of t + 1
      go true b e = absurd (not_stays e)
      go false true e = omega (arith, same_count (count_of t + 1) e (grown-count x y j.hash j.key j.place))
      go false false e = absurd (not_stays e)

  behind-count : (x : ℕ) (v own : Value) (j : JournalLine) → put_behind t x v own j ≡ stays u → count_of u ≤ count_of t + 1
  behind-count x none own j e = absurd (not_stays e)
  behind-count x (some y) own j e = put_count x own j y e

  place-count : (v : Value) (w : ℕ) → placed_back t v w ≡ stays u → count_of u ≤ count_of t + 1
  unfolding placed_at
  place-count none w e = absurd (not_stays e)
  place-count (some x) w e = go (eqb (cell t.cells x place) (w % 4294967296)) (ltb (w / 4294967296) 4294967296) e
    where
      go : (a b : Bool) → pick a (pick b (stays (placed_at t x (w / 4294967296))) misfit) misfit ≡ stays u → count_of u ≤ count_of t + 1
      go true true e = omega (arith, same_count (count_of t) e refl)
      go true false e = absurd (not_stays e)
      go false b e = absurd (not_stays e)

  undone-count : (x : ℕ) (j : JournalLine) → undone_into x t j ≡ stays u → count_of u ≤ count_of t + 1
  unfolding undone_into
  undone-count x j e = go (eqb j.kind 1) (eqb j.kind 2) (eqb j.kind 4294967298) (eqb j.kind 3) e
    where
      own : Value
      own = sought_in t j.hash j.key

      noted : Value
      noted = sought_in t j.prior_hash j.prior_key

      go : (a b c d : Bool)
          → pick a (taken_back t own j.place)
          (pick b (put_back t x own j null) (pick c (put_behind t x noted own j) (pick d (placed_back t own j.place) misfit))) ≡ stays u
          → count_of u ≤ count_of t + 1
      go true b c d e = back_count own j.place e
      go false true c d e = put_count x own j null e
      go false false true d e = behind-count x noted own j e
      go false false false true e = place-count own j.place e
      go false false false false e = absurd (not_stays e)

-- A turn of the undoing: c lines are left, the search for a free slot goes on from the floor, and what they leave decides the whole.
pub record Turn (t₀ : Live) (lines : List ℕ) (m count : ℕ) (t : Live) (floor c : ℕ) : Type 0 where
  pub same : unrolled_from c floor t lines m ≡ unrolled_from count 0 t₀ lines m
  pub small : count_of t + c < null
  pub names : length t.names ≡ length t₀.names
  pub cells : length t.cells ≡ length t₀.cells
  pub head : length t.head ≡ length t₀.head
  pub sizes : length t.sizes ≡ length t₀.sizes

module _ (lines : List ℕ) (m : ℕ) (t : Live) (floor : ℕ) {x : ℕ} (e0 : x ≡ lowest_from floor t) where
  unroll_on : (c : ℕ) {u : Live} {floor' : ℕ} → 0 < c → stays u ≡ undone_into x t (line_of lines (m + (c - 1)))
      → floor' ≡ lesser (freed_by t (line_of lines (m + (c - 1)))) x
      → unrolled_from (c - 1) floor' u lines m ≡ unrolled_from c floor t lines m
  unfolding unrolled_from
  unroll_on zero h e f = absurd (omega arith)
  unroll_on (suc c) h e f = let g = rw (sub-one, e0) at e in let k = rw (sub-one, e0) at f in rw (sub-one, ← g, unrolled_from, k)

  unroll_not : (c : ℕ) → 0 < c → misfit ≡ undone_into x t (line_of lines (m + (c - 1))) → misfit ≡ unrolled_from c floor t lines m
  unfolding unrolled_from
  unroll_not zero h e = absurd (omega arith)
  unroll_not (suc c) h e = let g = rw (sub-one, e0) at e in rw (← g, unrolled_from)

unroll_end : (lines : List ℕ) (m : ℕ) (t : Live) (floor c : ℕ) → c ≤ 0 → stays t ≡ unrolled_from c floor t lines m
unfolding unrolled_from
unroll_end lines m t floor zero h = refl
unroll_end lines m t floor (suc c) h = absurd (omega arith)

module _ {t₀ : Live} {lines : List ℕ} {m count : ℕ} {t : Live} {floor c x : ℕ} (turn : Turn t₀ lines m count t floor c)
    (e0 : x ≡ free_from (slots_of t₀.names - floor) t.cells floor) where
  from : x ≡ lowest_from floor t
  unfolding lowest_from
  from = rw turn.names e0

  pub turn_on : {u : Live} {freed floor' : ℕ} → 0 < c → stays u ≡ undone_into x t (line_of lines (m + (c - 1)))
      → freed ≡ freed_by t (line_of lines (m + (c - 1))) → floor' ≡ lesser freed x
      → length u.names ≡ length t.names → length u.cells ≡ length t.cells → length u.head ≡ length t.head
      → length u.sizes ≡ length t.sizes
      → Turn t₀ lines m count u floor' (c - 1)
  turn_on {u} h g z k n1 n2 n3 n4 =
      let line = line_of lines (m + (c - 1)) in
      let l : count_of t < null = omega (arith, turn.small) in
      record {
        same = unroll_on lines m t floor from c h g (k ∙ ap (λ (i : ℕ). lesser i x) z) ∙ turn.same;
        small = omega (arith, turn.small, undone-count t u l x line (sym g));
        names = n1 ∙ turn.names;
        cells = n2 ∙ turn.cells;
        head = n3 ∙ turn.head;
        sizes = n4 ∙ turn.sizes;
      }

  pub turn_not : 0 < c → misfit ≡ undone_into x t (line_of lines (m + (c - 1))) → misfit ≡ unrolled_from count 0 t₀ lines m
  turn_not h e = unroll_not lines m t floor from c h e ∙ turn.same

pub turn_end : {t₀ : Live} {lines : List ℕ} {m count : ℕ} {t : Live} {floor c : ℕ} → Turn t₀ lines m count t floor c → c ≤ 0
    → stays t ≡ unrolled_from count 0 t₀ lines m
turn_end {t₀} {lines} {m} {count} {t} {floor} {c} turn h = unroll_end lines m t floor c h ∙ turn.same

-- Words that were kept aside come back.
pub words_back : {words after : List ℕ} (copy now : List ℕ)
    → take (length words) copy ≡ take (length words) words → length now ≡ length words
    → take (length now) after ≡ take (length now) copy → length after ≡ length now
    → after ≡ words
words_back {words} {after} copy now e1 n e2 l =
    let z : length after ≤ length words = omega arith in
    sym (take_all (length words) after z) ∙ rw n at e2 ∙ e1 ∙ take-length words

data Three : List ℕ → Type 0 where
  three : (a b c : ℕ) → Three (a ∷ b ∷ c ∷ [])

to_three : (l : List ℕ) → length l ≡ 3 → Three l
to_three [] e = absurd (omega arith)
to_three (a ∷ []) e = absurd (omega arith)
to_three (a ∷ b ∷ []) e = absurd (omega arith)
to_three (a ∷ b ∷ c ∷ []) e = three a b c
to_three (a ∷ b ∷ c ∷ d ∷ l) e = absurd (omega arith)

pub head_back : {h l : List ℕ} (g : List ℕ) {root first count : ℕ} → length h ≡ 3 → length g ≡ length h
    → root ≡ get_or h 0 null → first ≡ get_or h 1 null → count ≡ get_or h 2 null
    → l ≡ headed g root first count → l ≡ h
head_back {h} g e f e1 e2 e3 e4 = e4 ∙ rw (e1, e2, e3) (go (to_three h e) (to_three g (f ∙ e)))
  where
    go : {h g : List ℕ} → Three h → Three g → headed g (get_or h 0 null) (get_or h 1 null) (get_or h 2 null) ≡ h
    go (three a b c) (three x y z) = refl

pub tree_back : {n c h s n' c' h' s' : List ℕ} → n ≡ n' → c ≡ c' → h ≡ h' → s ≡ s'
    → ◌≡◌ {A = Live} (lent_tree n c h s) (lent_tree n' c' h' s')
tree_back e1 e2 e3 e4 = rw (e1, e2, e3, e4)
