-- The steps of a walk give what the bins give, in the rules' order. At a point, what is still to come is what its bin gives, then what
-- comes after it: the bin at that index plus the upper length, where there is one, and then up.
use mathlib.Core.Path.{◌≡◌, refl, ap, sym, ◌∙◌}
use mathlib.Core.Logic.{◌≢◌}
use mathlib.Core.List.{List, [], ◌∷◌, ◌++◌, append_assoc}
use Prim.Native.Nat.{ℕ, zero, suc, ◌+◌, ◌*◌, ◌<◌, ◌≤◌}
use native.Mathlib.Nat.{add-zero, add-suc}
use native.Mathlib.Omega.{arith}
use lib.ListN.{length, get_or, set, length-set, length-append}
use lib.Seq.{get_or-set_same, get_or-set_other}
use borrow.Author.Tests.{eq-eqb, ne_eqb, lt-ltb}
use Rattle.slots.specs.Words.{null, next, cell}
use Rattle.slots.specs.Answers.{given}
use Rattle.slots.proofs.Laws.{cell-null}
use Rattle.set_rules.specs.Words.{Set, Fit, tables_of, length_at, headers_in}
use Rattle.set_rules.specs.Accepted.{Accepted, Listed}
use Rattle.set_rules.proofs.Fit.{small, ends}
use Rattle.set_rules.proofs.Naming.{ranges}
use Rattle.set_rules.specs.Cursor.{Cursor, Step, lone, starts}
use Rattle.set_rules.specs.Walk.{WalkPoint, walk_point, deepest, advanced, kept, trimmed, went_on, below, standing, Sought, at, ended}
use Rattle.set_rules.specs.Walk.{stepped}
use Rattle.set_rules.specs.Walk.{steps_on, nexts}
use Rattle.set_rules.specs.Ways.{moved_to}
use Rattle.set_rules.specs.Held.{Made}
use Rattle.set_rules.specs.Whole.{Gives, Onward, Listing}
use Rattle.set_rules.proofs.Turns.{on, advanced_lt, advanced_ge, twice_at}
use Rattle.set_rules.proofs.Cursors.{trimmed_same}
use Rattle.set_rules.proofs.Seeking.{Good, Here, left_at, seeks, at_end, at-empty, at_list, at_moved, at_tree, falls-onward}
use Rattle.set_rules.proofs.Seeking.{falls_below, good_onward, good_below}
use Rattle.set_rules.proofs.Gates.{start_made, next-walked, next-stands}
use Rattle.set_rules.proofs.Righting.{made_not_bad}
use Rattle.tree_rules.specs.Find.{slots_of}

module _ (s : Set) (base : ℕ) where
  -- What comes after the bin at depth d.
  data Rest : ℕ → List ℕ → List ℕ → Type 0 where
    row : {x l : List ℕ} → Onward s base (suc (get_or x 0 0)) l → Rest 0 x l
    plus : {d : ℕ} {x l m : List ℕ} → get_or x (suc d) 0 + length_at s (base + d) < length_at s (base + suc d)
        → Gives s (base + suc d) (get_or x (suc d) 0 + length_at s (base + d)) l → Rest d x m → Rest (suc d) x (l ++ m)
    up : {d : ℕ} {x m : List ℕ} → length_at s (base + suc d) ≤ get_or x (suc d) 0 + length_at s (base + d) → Rest d x m → Rest (suc d) x m

  -- What is to come from a point on.
  data From : WalkPoint → List ℕ → Type 0 where
    here : {p : WalkPoint} {l m : List ℕ} → Here s base p → Gives s (base + p.depth) (deepest p) l → Rest p.depth p.indexes m
        → From p (l ++ m)
    over : {p : WalkPoint} → p.depth ≡ 0 → deepest p ≡ length_at s base → From p []

  -- It depends on the indexes down to the depth.
  rest_agree : {d : ℕ} {x m : List ℕ} (y : List ℕ) → ((j : ℕ) → j ≤ d → get_or x j 0 ≡ get_or y j 0) → Rest d x m → Rest d y m
  rest_agree y h (row g) = row (rw (h 0 (omega arith)) at g)
  rest_agree y h (plus {d = d} l g r) =
      plus (rw (h (suc d) (omega arith)) at l) (rw (h (suc d) (omega arith)) at g) (rest_agree y (λ j k. h j (omega arith)) r)
  rest_agree y h (up {d = d} l r) = up (rw (h (suc d) (omega arith)) at l) (rest_agree y (λ j k. h j (omega arith)) r)

  rest_set : {d : ℕ} {x m : List ℕ} (v : ℕ) → Rest d x m → Rest d (set x (suc d) v) m
  rest_set {d} {x} v r = rest_agree (set x (suc d) v) (λ j k. sym (get_or-set_other x (suc d) j v 0 (omega arith))) r

  module _ (twice : (k : ℕ) → suc k < tables_of s → length_at s (suc k) ≡ 2 * length_at s k) where
    -- The point after one has what comes after it.
    row_on : (x : List ℕ) {m : List ℕ} → length x ≡ 8 → Onward s base (suc (get_or x 0 0)) m → From (advanced 0 s.lengths base x) m
    unfolding advanced
    row_on x e (Onward.end z) = over refl (get_or-set_same x 0 (get_or x 0 0 + 1) 0 (omega arith) ∙ omega (arith, z))
    row_on x e (Onward.bin {l = a} {m} w g r) =
        let z : get_or (set x 0 (get_or x 0 0 + 1)) 0 0 ≡ suc (get_or x 0 0) =
        get_or-set_same x 0 (get_or x 0 0 + 1) 0 (omega arith) ∙ omega arith in
        here {p = walk_point 0 (set x 0 (get_or x 0 0 + 1))} {l = a} {m = m} (rw (z, add-zero base) w) (rw (z, add-zero base) g)
        (row {x = set x 0 (get_or x 0 0 + 1)} {l = m} (rw z r))

    rest_on : (d : ℕ) {x m : List ℕ} → length x ≡ 8 → d < 8 → base + d < tables_of s → Rest d x m → From (advanced d s.lengths base x) m
    rest_on zero e l b (row {x = x} r) = row_on x e r
    rest_on (suc d) e l b (plus {x = x} {l = a} {m} k g r) =
        let y : List ℕ = set x (suc d) (on s.lengths base d x) in
        let z : get_or y (suc d) 0 ≡ on s.lengths base d x = get_or-set_same x (suc d) (on s.lengths base d x) 0 (omega arith) in
        let t = twice_at s.lengths base twice d b in
        rw (advanced_lt s.lengths base d x k)
        (here {p = walk_point (suc d) y} {l = a} {m = m} (rw z k) (rw z g)
        (up {d = d} {x = y} {m = m} (rw z (omega (arith, t))) (rest_set (on s.lengths base d x) r)))
    rest_on (suc d) e l b (up {x = x} k r) =
        rw (advanced_ge s.lengths base d x k) (rest_on d (length-set x (suc d) 0 ∙ e) (omega arith) (omega arith) (rest_set 0 r))

    -- The point below a Moved bin has what the two bins there give, and what comes after the Moved one.
    moved_on_lem : (p : WalkPoint) {l m r : List ℕ} → Good s base p → Here s base p → base + suc p.depth < tables_of s
        → Gives s (suc (base + p.depth)) (deepest p) l
        → Gives s (suc (base + p.depth)) (deepest p + length_at s (base + p.depth)) m → Rest p.depth p.indexes r
        → From (below s base p) (l ++ (m ++ r))
    moved_on_lem p {l} {m} {r = c} h w b f g r =
        let d = p.depth in
        let x = p.indexes in
        let z : get_or (set x (suc d) (deepest p)) (suc d) 0 ≡ deepest p =
        get_or-set_same x (suc d) (deepest p) 0 (omega (arith, h.eight, h.few)) in
        let t = twice_at s.lengths base twice d b in
        here {p = below s base p} {l = l} {m = m ++ c} (rw z (omega (arith, t))) (rw (z, add-suc base d) f)
        (plus {d = d} {x = set x (suc d) (deepest p)} {l = m} {m = c} (rw z (omega (arith, t))) (rw (z, add-suc base d) g)
        (rest_set (deepest p) r))

-- What the loop comes to: the first slot still to come, with its list after it, and the point after its bin.
module _ (s : Set) (fit : Fit s) (acc : Accepted s) (base : ℕ) where
  data Sees : List ℕ → Sought → Type 0 where
    none : Sees [] ended
    some : {x : ℕ} {q : WalkPoint} {l m : List ℕ} → Listed (slots_of s.names) s.cells (cell s.cells x next) l → Good s base q
        → From s base q m → Sees (x ∷ (l ++ m)) (at x q)

  onward_on : (p : WalkPoint) {m : List ℕ} → Good s base p → Rest s base p.depth p.indexes m → From s base (went_on s base p) m
  onward_on p h r = rest_on s base fit.twice p.depth h.eight (omega (arith, h.deep, h.few)) h.deep r

  sees_list : (p : WalkPoint) {a : ℕ} {l m : List ℕ} → Good s base p → Here s base p → Listed (slots_of s.names) s.cells a l → a ≢ null
      → Rest s base p.depth p.indexes m
      → Sees (l ++ m) (at a (went_on s base p))
  sees_list p h w (Listed.ended e) d r = absurd (d e)
  sees_list p h w (Listed.onward b t) d r = some t (good_onward s base p h w) (onward_on p h r)

  sees : (t : ℕ) (p : WalkPoint) {l : List ℕ} → Good s base p → From s base p l → left_at s base p < t → Sees l (seeks s base p)
  sees zero p h f k = absurd (omega arith)
  sees (suc t) p h (over d e) k =
      let z : length_at s (base + p.depth) ≡ length_at s base =
      ap (λ (j : ℕ). length_at s (base + j)) d ∙ ap (λ (j : ℕ). length_at s j) (add-zero base) in
      rw (at_end s base p (omega (arith, z))) none
  sees (suc t) p h (here w (Gives.of_none e) r) k =
      rw (at-empty s base p h w e)
      (sees t (went_on s base p) (good_onward s base p h w) (onward_on p h r) (omega (arith, falls-onward s base p h w)))
  sees (suc t) p h (here w (Gives.of_list {a = a} e g) r) k =
      let z = ((ranges (slots_of s.names) (headers_in s) _).lists a).0 e in
      rw (at_list s base p h w e) (sees_list p h w g (omega (arith, z.3, small fit)) r)
  sees (suc t) p h (here w (Gives.of_tree {h = a} e g) r) k =
      let d = acc.headers.firsts (base + p.depth) (deepest p) a (record { table = h.deep; index = w }) e in
      rw (at_tree s base p h w e (first g d)) (sees_list p h w g d r)
    where
      first : {a : ℕ} {l : List ℕ} → Listed (slots_of s.names) s.cells a l → a ≢ null → a < slots_of s.names
      first (Listed.ended e) d = absurd (d e)
      first (Listed.onward b t) d = b
  sees (suc t) p h (here {m = c} w (Gives.of_moved {l = a} {m = b} e n f g) r) k =
      let n : base + suc p.depth < tables_of s = omega arith in
      rw (append_assoc a b c, at_moved s base p h w e n)
      (sees t (below s base p) (good_below s base p h w n) (moved_on_lem s base fit.twice p h w n f g r)
      (omega (arith, falls_below s base p h w n)))

  -- A cursor at a point stands where the point is.
  stands_from : (q : WalkPoint) {m : List ℕ} → Good s base q → From s base q m
      → From s base (walk_point q.depth (trimmed q.depth q.indexes)) m
  stands_from q h f = go f (λ j k. trimmed_same q.depth q.indexes j k (omega (arith, h.deep, h.few)))
    where
      go : {q : WalkPoint} {m : List ℕ} → From s base q m
          → ((j : ℕ) → j ≤ q.depth → get_or (trimmed q.depth q.indexes) j 0 ≡ get_or q.indexes j 0)
          → From s base (walk_point q.depth (trimmed q.depth q.indexes)) m
      go (over {p = q} d e) z = over d (z q.depth (omega arith) ∙ e)
      go (here {p = q} {l} {m} w g r) z =
          let y : List ℕ = trimmed q.depth q.indexes in
          let i : get_or y q.depth 0 ≡ deepest q = z q.depth (omega arith) in
          here {p = walk_point q.depth y} {l = l} {m = m} (rw i w) (rw i g) (rest_agree s base y (λ j k. sym (z j k)) r)

-- The steps from a cursor that start and next made.
module _ (s : Set) (fit : Fit s) (acc : Accepted s) where
  module _ (c : Cursor) (m : Made s c) where
    by_loop : cell s.cells c.last next ≡ null → {o : Sought} → seeks s c.base (standing c) ≡ o → nexts s c ≡ stepped s c o
    unfolding steps_on
    by_loop e f = next-walked s c fit (made_not_bad s fit c m) ∙ rw (eq-eqb (cell s.cells c.last next) null e, f)

    by_link : (x : ℕ) → cell s.cells c.last next ≡ x → x < slots_of s.names → nexts s c ≡ stepped s c (at x (standing c))
    unfolding steps_on
    by_link x e l =
        next-walked s c fit (made_not_bad s fit c m) ∙ rw (e, ne_eqb x null (omega (arith, small fit)), lt-ltb x (slots_of s.names) l)

  one_step : (c d : Cursor) (x : ℕ) {l : List ℕ} → nexts s c ≡ record { answer = given x; cursor = d } → Listing s d l → Listing s c (x ∷ l)
  one_step c d x {l} e r = Listing.step {l = l} (ap (λ (r : Step). r.answer) e) (rw (ap (λ (r : Step). r.cursor) e) r)

  made_next : (c d : Cursor) (x : ℕ) → nexts s c ≡ record { answer = given x; cursor = d } → Made s c → Made s d
  made_next c d x e m = rw (ap (λ (r : Step). r.cursor) e) at (Made.stepped m)

  -- The slots after the last one come first, then what is to come from where the cursor stands.
  abbrev Lists : ℕ → Type 0
  Lists n =
      (c : Cursor) (l m : List ℕ) → Made s c → Listed (slots_of s.names) s.cells (cell s.cells c.last next) l
      → From s c.base (standing c) m
      → length l + length m < n → Listing s c (l ++ m)

  lists_loop : (n : ℕ) (c : Cursor) → Made s c → cell s.cells c.last next ≡ null → {m : List ℕ} {o : Sought}
      → Sees s fit acc c.base m o
      → seeks s c.base (standing c) ≡ o → length m ≤ n → Lists n → Listing s c m
  lists_loop n c made e none f k again = Listing.done (ap (λ (r : Step). r.answer) (by_loop c made e f))
  lists_loop n c made e (some {x = x} {q} {l} {m} t h g) f k again =
      let z = by_loop c made e f in
      let d = moved_to c q x in
      one_step c d x z (again d l m (made_next c d x z made) t (stands_from s fit acc c.base q h g) (omega (arith, length-append l m)))

  lists : (n : ℕ) → Lists n
  lists zero c l m made t f k = absurd (omega arith)
  lists (suc n) c l m made (Listed.ended e) f k =
      let h = next-stands s c fit (made_not_bad s fit c made) in
      lists_loop n c made e (sees s fit acc c.base (suc (left_at s c.base (standing c))) (standing c) h f (omega arith)) refl
      (omega arith) (lists n)
  lists (suc n) c l m made (Listed.onward {l = l'} b t) f k =
      let x = cell s.cells c.last next in
      let d = moved_to c (standing c) x in
      let z = by_link c made x refl b in
      one_step c d x z
      (lists n d l' m (made_next c d x z made) t
      (stands_from s fit acc c.base (standing c) (next-stands s c fit (made_not_bad s fit c made)) f) (omega arith))

  -- A walk from the start of a table gives what its bins give.
  pub walk_gives : (t : ℕ) → t < tables_of s → {l : List ℕ} → Onward s t 0 l → Listing s (starts s t).cursor l
  unfolding kept
  walk_gives t b {l} g =
      rw (start_made s t fit b)
      (lists (suc (length l)) c [] l made (Listed.ended (cell-null s.cells next (ends fit))) (first g) (omega arith))
    where
      c : Cursor
      c = record { base = t; depth = 0; indexes = lone 0; last = null }

      made : Made s c
      made = let m : Made s (starts s t).cursor = Made.started b in rw (ap (λ (r : Step). r.cursor) (start_made s t fit b)) at m

      first : {l : List ℕ} → Onward s t 0 l → From s t (standing c) l
      first (Onward.end e) = over refl e
      first (Onward.bin {l = l} {m} w f r) = here {p = standing c} {l = l} {m = m} (rw (add-zero t) w) (rw (add-zero t) f) (row r)
