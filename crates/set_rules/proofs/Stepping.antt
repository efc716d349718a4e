-- A step of the walk is what the rules say of it: the loop from a point that it comes to ends as the whole loop does, and what it comes to
-- there is told by the bin.
use mathlib.Core.Path.{◌≡◌, refl, ap, ◌∙◌}
use mathlib.Core.Logic.{◌≢◌, ◌⊎◌, inl, inr}
use mathlib.Core.List.{List}
use Prim.Native.Nat.{ℕ, zero, suc, ◌+◌, ◌-◌, ◌<◌, ◌≤◌}
use native.Mathlib.Nat.{add-zero}
use native.Mathlib.Decide.{dec_lt, ℕ_discrete}
use native.Mathlib.Omega.{arith}
use lib.ListN.{get_or, set}
use borrow.Author.Tests.{eq-eqb, ne_eqb, lt-ltb, le-ltb}
use Rattle.slots.specs.Words.{null, next, cell}
use Rattle.set_rules.specs.Words.{Set, tables_of, length_at, first_at, Fit, Bin, empty, moved, bad, list, tree}
use Rattle.set_rules.proofs.Fit.{small}
use Rattle.set_rules.specs.Cursor.{Cursor, Step}
use Rattle.set_rules.specs.Walk.{WalkPoint, walk_point, deepest, bin_here, below, advanced, went_on, InTables, Sought, at, ended, lost}
use Rattle.set_rules.specs.Walk.{standing}
use Rattle.set_rules.specs.Walk.{stepped, steps_on}
use Rattle.set_rules.specs.Ways.{Begins, After, Comes, Reads, Strays, Steps}
use Rattle.set_rules.proofs.Turns.{on, advanced_lt, advanced_ge}
use Rattle.set_rules.proofs.Standing.{left_some}
use Rattle.set_rules.proofs.Beginning.{standing_begins, begins_is, read_comes}
use Rattle.set_rules.proofs.Seeking.{left_at, seeks, at_end, at-empty, at_bad, at_list, at_moved, at_last, at_tree, at_stray}
use Rattle.set_rules.proofs.Seeking.{falls-onward, falls_below, good_onward, good_below}
use Rattle.tree_rules.specs.Find.{slots_of}

module _ (s : Set) (base : ℕ) where
  pub after-onward : (d : ℕ) (x : List ℕ) → After s base (walk_point d x) (advanced d s.lengths base x)
  unfolding advanced
  after-onward zero x = After.next-bin
  after-onward (suc d) x = go (dec_lt (on s.lengths base d x) (length_at s (base + suc d))) (after-onward d (set x (suc d) 0))
    where
      go : Dec (on s.lengths base d x < length_at s (base + suc d))
          → After s base (walk_point d (set x (suc d) 0)) (advanced d s.lengths base (set x (suc d) 0))
          → After s base (walk_point (suc d) x) (advanced (suc d) s.lengths base x)
      go (yes l) again = rw (advanced_lt s.lengths base d x l) (After.plus l)
      go (no n) again =
          let l : length_at s (base + suc d) ≤ get_or x (suc d) 0 + length_at s (base + d) = omega arith in
          rw (advanced_ge s.lengths base d x l) (After.up l again)

  pub onward-after : {p q : WalkPoint} → After s base p q → went_on s base p ≡ q
  unfolding advanced
  onward-after (After.next-bin) = refl
  onward-after (After.plus {d} {x} l) = advanced_lt s.lengths base d x l
  onward-after (After.up {d} {x} l a) = advanced_ge s.lengths base d x l ∙ onward-after a

  module _ (from : WalkPoint) (good : InTables s.lengths base from) where
    -- Where the loop comes to, a step may stand, and the loop from there ends as the whole does.
    pub comes_good : {p : WalkPoint} → Comes s base from p → InTables s.lengths base p
    comes_good (Comes.start) = good
    comes_good (Comes.past {p} c w e a) = rw (onward-after a) at (good_onward s base p (comes_good c) w)
    comes_good (Comes.down {p} c w e l) = good_below s base p (comes_good c) w l

    pub comes_same : {p : WalkPoint} → Comes s base from p → seeks s base from ≡ seeks s base p
    comes_same (Comes.start) = refl
    comes_same (Comes.past {p} {q} c w e a) =
        comes_same c ∙ at-empty s base p (comes_good c) w e ∙ ap (λ (r : WalkPoint). seeks s base r) (onward-after a)
    comes_same (Comes.down {p} c w e l) = comes_same c ∙ at_moved s base p (comes_good c) w e l

-- What a step from a cursor comes to.
module _ (s : Set) (fit : Fit s) (c : Cursor) (good : InTables s.lengths c.base (standing c)) where
  abbrev sound : Sought
  sound = seeks s c.base (standing c)

  begins : Begins c (standing c)
  begins = standing_begins c (omega (arith, good.deep, good.few))

  -- What is said of the loop's end.
  data Ends : Sought → Type 0 where
    list_end : {p q : WalkPoint} {x : ℕ} → Reads s c (list x) p → After s c.base p q → Ends (at x q)
    tree_end : {p q : WalkPoint} {h : ℕ} → Reads s c (tree h) p → first_at s h < slots_of s.names → After s c.base p q
        → Ends (at (first_at s h) q)
    base_end : {p : WalkPoint} → Comes s c.base (standing c) p → p.depth ≡ 0 → deepest p ≡ length_at s c.base → Ends ended
    stray_end : Strays s c → Ends lost

  module _ (none : cell s.cells c.last next ≡ null) where
    at_base : (p : WalkPoint) → Comes s c.base (standing c) p → (p.depth ≡ 0) × (deepest p ≡ length_at s c.base)
        → Ends (seeks s c.base p)
    at_base p k e =
        let z : length_at s (c.base + p.depth) ≡ length_at s c.base =
        ap (λ (j : ℕ). length_at s (c.base + j)) e.0 ∙ ap (λ (j : ℕ). length_at s j) (add-zero c.base) in
        rw (at_end s c.base p (omega (arith, z, e.1))) (base_end k e.0 e.1)

    ends_from : (t : ℕ) (p : WalkPoint) → Comes s c.base (standing c) p → left_at s c.base p ≤ t → Ends (seeks s c.base p)
    ends_from zero p k l = go (comes_good s c.base (standing c) good k).last
      where
        go : (deepest p < length_at s (c.base + p.depth)) ⊎ ((p.depth ≡ 0) × (deepest p ≡ length_at s c.base))
            → Ends (seeks s c.base p)
        go (inl w) = absurd (omega (arith, left_some s.lengths c.base p (comes_good s c.base (standing c) good k) w))
        go (inr e) = at_base p k e
    ends_from (suc t) p k l = go (comes_good s c.base (standing c) good k).last (λ q j m. ends_from t q j m)
      where
        h : InTables s.lengths c.base p
        h = comes_good s c.base (standing c) good k

        read : deepest p < length_at s (c.base + p.depth) → (b : Bin) → bin_here s c.base p ≡ b
            → ((q : WalkPoint) → Comes s c.base (standing c) q → left_at s c.base q ≤ t → Ends (seeks s c.base q))
            → Ends (seeks s c.base p)
        read w empty e again =
            rw (at-empty s c.base p h w e)
            (again (went_on s c.base p) (Comes.past k w e (after-onward s c.base p.depth p.indexes))
            (omega (arith, falls-onward s c.base p h w)))
        read w bad e again =
            rw (at_bad s c.base p h w e)
            (stray_end (Strays.bad_bin (record { from = standing c; begins = begins; no_next = none; comes = k; there = w; bin = e })))
        read w (list x) e again =
            rw (at_list s c.base p h w e)
            (list_end (record { from = standing c; begins = begins; no_next = none; comes = k; there = w; bin = e })
            (after-onward s c.base p.depth p.indexes))
        read w moved e again = turn (dec_lt (c.base + suc p.depth) (tables_of s))
          where
            turn : Dec (c.base + suc p.depth < tables_of s) → Ends (seeks s c.base p)
            turn (yes m) =
                rw (at_moved s c.base p h w e m)
                (again (below s c.base p) (Comes.down k w e m) (omega (arith, falls_below s c.base p h w m)))
            turn (no n) =
                let m : tables_of s ≤ c.base + suc p.depth = omega arith in
                rw (at_last s c.base p h w e m)
                (stray_end (Strays.moved_last
                (record { from = standing c; begins = begins; no_next = none; comes = k; there = w; bin = e }) m))
        read w (tree a) e again = turn (dec_lt (first_at s a) (slots_of s.names)) (ℕ_discrete (first_at s a) null)
          where
            r : Reads s c (tree a) p
            r = record { from = standing c; begins = begins; no_next = none; comes = k; there = w; bin = e }

            turn : Dec (first_at s a < slots_of s.names) → Dec (first_at s a ≡ null) → Ends (seeks s c.base p)
            turn (yes m) d = rw (at_tree s c.base p h w e m) (tree_end r m (after-onward s c.base p.depth p.indexes))
            turn (no n) (yes d) = rw (at_stray s c.base p h w e (omega arith)) (stray_end (Strays.no_first r d))
            turn (no n) (no d) = rw (at_stray s c.base p h w e (omega arith)) (stray_end (Strays.stray_first_lem r d (omega arith)))

        go : (deepest p < length_at s (c.base + p.depth)) ⊎ ((p.depth ≡ 0) × (deepest p ≡ length_at s c.base))
            → ((q : WalkPoint) → Comes s c.base (standing c) q → left_at s c.base q ≤ t → Ends (seeks s c.base q))
            → Ends (seeks s c.base p)
        go (inr e) again = at_base p k e
        go (inl w) again = read w (bin_here s c.base p) refl again

    ends_all : Ends sound
    ends_all = ends_from (left_at s c.base (standing c)) (standing c) Comes.start (omega arith)

    ends_steps : {o : Sought} → Ends o → Steps s c (stepped s c o)
    ends_steps (list_end r a) = Steps.by_list r a
    ends_steps (tree_end r m a) = Steps.by_tree r m a
    ends_steps (base_end k d e) = Steps.by_end begins none k d e
    ends_steps (stray_end h) = Steps.lost h

  pub steps_walked : Steps s c (steps_on s c)
  unfolding steps_on
  steps_walked = go (ℕ_discrete (cell s.cells c.last next) null) (dec_lt (cell s.cells c.last next) (slots_of s.names))
    where
      go : Dec (cell s.cells c.last next ≡ null) → Dec (cell s.cells c.last next < slots_of s.names) → Steps s c (steps_on s c)
      go (yes e) d = rw (eq-eqb (cell s.cells c.last next) null e) (ends_steps e (ends_all e))
      go (no n) (yes l) =
          rw (ne_eqb (cell s.cells c.last next) null n, lt-ltb (cell s.cells c.last next) (slots_of s.names) l)
          (Steps.by_next begins refl n l)
      go (no n) (no l) =
          let m : slots_of s.names ≤ cell s.cells c.last next = omega arith in
          rw (ne_eqb (cell s.cells c.last next) null n, le-ltb (cell s.cells c.last next) (slots_of s.names) m)
          (Steps.lost (Strays.stray_next n m))

  loop_walked : cell s.cells c.last next ≡ null → {o : Sought} → sound ≡ o → steps_on s c ≡ stepped s c o
  unfolding steps_on
  loop_walked e f = rw (eq-eqb (cell s.cells c.last next) null e, f)

  stray_walked : cell s.cells c.last next ≢ null → slots_of s.names ≤ cell s.cells c.last next
      → steps_on s c ≡ stepped s c lost
  unfolding steps_on
  stray_walked n l = rw (ne_eqb (cell s.cells c.last next) null n, le-ltb (cell s.cells c.last next) (slots_of s.names) l)

  link_walked : {x : ℕ} → cell s.cells c.last next ≡ x → x ≢ null → x < slots_of s.names
      → steps_on s c ≡ stepped s c (at x (standing c))
  unfolding steps_on
  link_walked {x} e n l = rw (e, ne_eqb x null n, lt-ltb x (slots_of s.names) l)

  -- A bin read is what the loop comes to.
  reads_good : {b : Bin} {p : WalkPoint} → Reads s c b p → InTables s.lengths c.base p
  reads_good r = comes_good s c.base (standing c) good (read_comes c r)

  reads_same : {b : Bin} {p : WalkPoint} → Reads s c b p → sound ≡ seeks s c.base p
  reads_same r = comes_same s c.base (standing c) good (read_comes c r)

  strays_lost : Strays s c → steps_on s c ≡ stepped s c lost
  strays_lost (Strays.stray_next n l) = stray_walked n l
  strays_lost (Strays.bad_bin {p} r) = loop_walked r.no_next (reads_same r ∙ at_bad s c.base p (reads_good r) r.there r.bin)
  strays_lost (Strays.moved_last {p} r l) =
      loop_walked r.no_next (reads_same r ∙ at_last s c.base p (reads_good r) r.there r.bin l)
  strays_lost (Strays.no_first {p} {h} r e) =
      loop_walked r.no_next (reads_same r ∙ at_stray s c.base p (reads_good r) r.there r.bin (omega (arith, e, small fit)))
  strays_lost (Strays.stray_first_lem {p} r n l) =
      loop_walked r.no_next (reads_same r ∙ at_stray s c.base p (reads_good r) r.there r.bin l)

  pub walked_steps : {r : Step} → Steps s c r → steps_on s c ≡ r
  walked_steps (Steps.by_next {x = x} b e n l) = rw (begins_is c b) (link_walked e n l)
  walked_steps (Steps.by_list {p} {q} {x} r a) =
      loop_walked r.no_next
      (reads_same r ∙ at_list s c.base p (reads_good r) r.there r.bin ∙ ap (at x) (onward-after s c.base a))
  walked_steps (Steps.by_tree {p} {q} {h} r m a) =
      loop_walked r.no_next
      (reads_same r ∙ at_tree s c.base p (reads_good r) r.there r.bin m ∙ ap (at (first_at s h)) (onward-after s c.base a))
  walked_steps (Steps.by_end {p = p} b e k d f) =
      let z : length_at s (c.base + p.depth) ≡ length_at s c.base =
      ap (λ (j : ℕ). length_at s (c.base + j)) d ∙ ap (λ (j : ℕ). length_at s j) (add-zero c.base) in
      loop_walked e (comes_same s c.base (standing c) good (rw (begins_is c b) at k) ∙ at_end s c.base p (omega (arith, z, f)))
  walked_steps (Steps.lost h) = strays_lost h
