-- The walk's loop: what is known at a point that it comes to, and what each way out says, from the laws of one turn.
use mathlib.Core.Path.{◌≡◌, sym, ap, ◌∙◌}
use mathlib.Core.Logic.{◌≢◌}
use mathlib.Core.Bool.{Bool, true, false}
use mathlib.Core.List.{List}
use Prim.Native.Nat.{ℕ, suc, ◌+◌, ◌-◌, ◌*◌, ◌<◌, ◌≤◌}
use native.Mathlib.Nat.{add-zero}
use native.Mathlib.Numerals.{add-one}
use native.Mathlib.Omega.{arith}
use lib.ListN.{get_or, set}
use Rattle.std.specs.Prelude.{Option, Result, Ok, Err, IsErr, IsErrAnd}
use borrow.Author.Tests.{eq-eqb, ne_eqb, lt-ltb, le-ltb}
use Rattle.slots.specs.Words.{null, next, cell}
use Rattle.slots.specs.Answers.{given, refused}
use Rattle.set_rules.specs.Words.{Set, tables_of, length_at, headers_in, bins_before, fits, Bin, empty, moved, bad, list, tree, bin_of}
use Rattle.sets.proofs.Sized.{begins_at}
use Rattle.set_rules.proofs.Fit.{fits_fit}
use Rattle.set_rules.specs.Cursor.{Cursor, Step, lone, blank_cursor, starts, fine_cursor}
use Rattle.set_rules.specs.Walk.{WalkPoint, walk_point, trimmed, advanced, InTables, Sought, at, ended, lost, turns_in, standing, stepped}
use Rattle.set_rules.specs.Walk.{steps_on}
use Rattle.set_rules.specs.Walk.{nexts}
use Rattle.set_rules.proofs.Standing.{inside}
use Rattle.set_rules.proofs.Cursors.{fine-right, right-stands}
use Rattle.set_rules.proofs.Seeking.{bare, no_cells, left_at, seeks, at_end, at-empty, at_bad, at_list, at_moved, at_last, at_tree}
use Rattle.set_rules.proofs.Seeking.{at_stray}
use Rattle.set_rules.proofs.Seeking.{falls-onward, falls_below, good_onward, good_below}
use Rattle.tree_rules.specs.Find.{slots_of}
use Rattle.sets.specs.Cursors.{walked_of}
use Rattle.sets.specs.declared.walk.Cursor.{Cursor as CursorCode}
use Rattle.sets.specs.declared.walk.NextRefusal.{NextRefusal}
use Rattle.sets.specs.declared.walk.NextRefusal.TheVariants.{Lost}

-- The loop from here comes to what it comes to from the start.
pub record Going (s : Set) (base : ℕ) (from here : WalkPoint) : Type 0 where
  pub good : InTables s.lengths base here
  pub same : seeks s base here ≡ seeks s base from

module _ (s : Set) (base d : ℕ) (x : List ℕ) (from : WalkPoint) (g : Going s base from (walk_point d x)) {i len : ℕ} (e : i ≡ get_or x d 0)
    (f : len ≡ length_at s (base + d)) where
  pub stops : len ≤ i → ended ≡ seeks s base from
  stops l = sym (at_end s base (walk_point d x) (omega (arith, e, f))) ∙ g.same

  -- Table base + d begins where its length less that of table 0 says.
  begins : bins_before s.lengths (base + d) + length_at s 0 ≡ len
  begins = rw f (begins_at s.lengths (base + d) (λ j b. g.good.twice j (omega (arith, g.good.deep))))

  pub not_shorter : {least : ℕ} → least ≡ length_at s 0 → least ≤ len
  not_shorter p = omega (arith, begins)

  module _ (l : i < len) {b : Bin} {least : ℕ} (p : least ≡ length_at s 0)
      (k : b ≡ bin_of (slots_of s.names) (headers_in s) (get_or s.bins (len - least + i) 0)) where
    here : get_or x d 0 < length_at s (base + d)
    here = omega (arith, e, f)

    -- The base index has one after it.
    pub base_more : get_or x 0 0 < length_at s base
    base_more = rw add-zero at (inside s.lengths base (walk_point d x) g.good here 0 (omega arith))

    bin : b ≡ bin_of (slots_of s.names) (headers_in s) (get_or s.bins (bins_before s.lengths (base + d) + get_or x d 0) 0)
    bin = let z : len - least + i ≡ bins_before s.lengths (base + d) + get_or x d 0 = omega (arith, begins, e, p) in rw z at k

    pub passes : b ≡ empty → {q : WalkPoint} → q ≡ advanced d s.lengths base x → Going s base from q
    passes t h =
        rw h (record {
          good = good_onward s base (walk_point d x) g.good here;
          same = sym (at-empty s base (walk_point d x) g.good here (sym bin ∙ t)) ∙ g.same;
        })

    pub passes_less : {q : WalkPoint} → q ≡ advanced d s.lengths base x → left_at s base q < left_at s base (walk_point d x)
    passes_less h = rw h (falls-onward s base (walk_point d x) g.good here)

    pub descends : b ≡ moved → base + d + 1 < tables_of s → {y : List ℕ} → y ≡ set x (d + 1) i → Going s base from (walk_point (d + 1) y)
    descends t m h =
        let z : base + suc d < tables_of s = omega arith in
        rw (h, e, add-one)
        (record {
          good = good_below s base (walk_point d x) g.good here z;
          same = sym (at_moved s base (walk_point d x) g.good here (sym bin ∙ t) z) ∙ g.same;
        })

    pub descends_less : base + d + 1 < tables_of s → {y : List ℕ} → y ≡ set x (d + 1) i
        → left_at s base (walk_point (d + 1) y) < left_at s base (walk_point d x)
    descends_less m h = rw (h, e, add-one) (falls_below s base (walk_point d x) g.good here (omega arith))

    pub no_table : b ≡ moved → tables_of s ≤ base + d + 1 → lost ≡ seeks s base from
    no_table t m = sym (at_last s base (walk_point d x) g.good here (sym bin ∙ t) (omega arith)) ∙ g.same

    pub bad_word : b ≡ bad → lost ≡ seeks s base from
    bad_word t = sym (at_bad s base (walk_point d x) g.good here (sym bin ∙ t)) ∙ g.same

    pub from_list : {a : ℕ} → b ≡ list a → {q : WalkPoint} → q ≡ advanced d s.lengths base x → at a q ≡ seeks s base from
    from_list t h = rw h (sym (at_list s base (walk_point d x) g.good here (sym bin ∙ t)) ∙ g.same)

    module _ {a first : ℕ} (t : b ≡ tree a) (m : first ≡ get_or s.heads (3 * a + 1) null) where
      pub from_tree : first < slots_of s.names → {q : WalkPoint} → q ≡ advanced d s.lengths base x → at first q ≡ seeks s base from
      from_tree n h = rw (h, m) (sym (at_tree s base (walk_point d x) g.good here (sym bin ∙ t) (omega (arith, m))) ∙ g.same)

      pub no_first : slots_of s.names ≤ first → lost ≡ seeks s base from
      no_first n = sym (at_stray s base (walk_point d x) g.good here (sym bin ∙ t) (omega (arith, m))) ∙ g.same

-- A step from a cursor that is not bad, by what it reads.
module _ (s : Set) (c : Cursor) {link : ℕ} (g : link ≡ cell s.cells c.last next) where
  pub link_stray : link ≢ null → slots_of s.names ≤ link → stepped s c lost ≡ steps_on s c
  unfolding steps_on
  link_stray n l = rw (← g, ne_eqb _ _ n, le-ltb _ _ l)

  module _ {x : List ℕ} (t : x ≡ trimmed c.depth c.indexes) where
    pub link_next : link ≢ null → link < slots_of s.names → stepped s c (at link (walk_point c.depth x)) ≡ steps_on s c
    unfolding steps_on
    link_next n l = rw (← g, ne_eqb _ _ n, lt-ltb _ _ l, t)

    pub from_bins : link ≡ null → {o : Sought} → o ≡ seeks (bare s) c.base (walk_point c.depth x) → stepped s c o ≡ steps_on s c
    unfolding steps_on
    from_bins n k = rw (← g, eq-eqb _ _ n, k, t) (ap (stepped s c) (no_cells s c.base (turns_in s c.base) (standing c)))

-- Where the loop over the bins is lost, so is the step.
pub lost_told : (s : Set) (c : Cursor) (r : Result (Option ℕ × CursorCode) NextRefusal) → IsErr r → IsErrAnd r (λ e. e ≡ Lost)
    → walked_of c r ≡ stepped s c lost
lost_told s c (Ok v) h g = absurd g
lost_told s c (Err e) h g = rw g

-- The gates of start and next.
module _ (s : Set) (t : ℕ) {b : Bool} (e : b ≡ fits s) where
  pub start_unfit : b ≡ false → record { answer = refused 1; cursor = blank_cursor } ≡ starts s t
  unfolding starts
  start_unfit f = rw (← e, f)

  pub start_unknown : b ≡ true → tables_of s ≤ t → record { answer = refused 10; cursor = blank_cursor } ≡ starts s t
  unfolding starts
  start_unknown f l = rw (← e, f, le-ltb _ _ l)

  pub start_made : b ≡ true → t < tables_of s
      → record { answer = given 1; cursor = record { base = t; depth = 0; indexes = lone 0; last = null } } ≡ starts s t
  unfolding starts
  start_made f l = rw (← e, f, lt-ltb _ _ l)

module _ (s : Set) (c : Cursor) {b : Bool} (e : b ≡ fits s) where
  pub next_unfit : b ≡ false → record { answer = refused 1; cursor = c } ≡ nexts s c
  unfolding nexts
  next_unfit f = rw (← e, f)

  module _ (f : b ≡ true) {r : Bool} (g : r ≡ fine_cursor s c) where
    pub next_bad : r ≡ false → record { answer = refused 11; cursor = c } ≡ nexts s c
    unfolding nexts
    next_bad h = rw (← e, f, ← g, h)

    pub next-stands : r ≡ true → InTables s.lengths c.base (standing c)
    next-stands h =
        right-stands s (fits_fit s (sym e ∙ f)) c
        (fine-right s.lengths (slots_of s.names) c.base c.depth c.indexes c.last (sym g ∙ h))

    pub next-walked : r ≡ true → {o : Step} → o ≡ steps_on s c → o ≡ nexts s c
    unfolding nexts
    next-walked h i = rw (← e, f, ← g, h) i
