-- How the rule that is told is broken is true of the tree: of the tests that lead to it each is exact, and where all but the last fail the
-- last holds, since the slot shows the rule.
use mathlib.Core.Path.{◌≡◌, refl, ap, sym, ◌∙◌}
use mathlib.Core.Logic.{◌≢◌, inl, inr}
use mathlib.Core.Bool.{Bool, true, false, false≢true}
use mathlib.Core.List.{List}
use Prim.Native.Nat.{ℕ, ◌+◌, ◌<◌, ◌≤◌}
use native.Mathlib.Omega.{arith}
use native.Mathlib.Decide.{ℕ_discrete}
use lib.Dec.{eqb, leb, ltb}
use borrow.Author.Tests.{eq-eqb, ne_eqb, eqb-true, eqb-false, leb-true, leb-false, lt-ltb}
use Rattle.slots.specs.Words.{null, pick, place, state, parent, left, right, prev, next, free, cell, name_of, hash_part, key_part, code}
use Rattle.slots.specs.Words.{red}
use Rattle.slots.specs.Words.{leftward, rightward}
use Rattle.tree_rules.specs.Find.{slots_of}
use Rattle.tree_rules.specs.Check.{Named, LinksNamed, in_range, points_back, red_slot}
use Rattle.tree_rules.specs.Chain.{tally}
use Rattle.tree_rules.specs.Tree.{Tree}
use Rattle.tree_rules.specs.Sizes.{size_word, size_in}
use Rattle.tree_rules.proofs.Walking.{named, ranged}
use Rattle.index_rules.specs.Live.{Live, Fit, root_of, first_of, count_of}
use Rattle.index_rules.specs.Checked.{lesser}
use Rattle.index_rules.specs.Sound.{used, Cleared, T1, T2, T3, agree}
use Rattle.index_rules.proofs.Rules.{small}
use Rattle.index_rules.proofs.Fit.{half}
use Rattle.night_rules.specs.Account.{Account}
use Rattle.night_rules.specs.Shows.{Used, LeadsTo, Faulty, stray_link, stray_state, uncleared, Shows1, Header1, stray_root, stray_first}
use Rattle.night_rules.specs.Shows.{miscounted, Misplaced, under_one, no_child, not_back, same_twice, off_root, Shows3, Shows5, red_root}
use Rattle.night_rules.specs.Shows.{red_child, Unchained, behind_one, prev_elsewhere, next_elsewhere, off_first, Shows7, Shows8}
use Rattle.night_rules.specs.Shows.{missized, sized_free}
use Rattle.night_rules.specs.Reason.{LowestWith, Reason, one, one_header, two_header, three, four, five, six, seven, eight}
use Rattle.night_rules.specs.Why.{neg, lowest_with, misrooted, twins, misfirst, number_below}
use Rattle.night_rules.specs.Breach.{Breach, LinkOf, Breaks, HeaderBreaks, BreaksAt, at_slot, in_header, link_with, is_stray, is_set}
use Rattle.night_rules.specs.Breach.{left_in, breach1, header1, header2}
use Rattle.night_rules.specs.Breach.{misseated, breach3, breach4, breach5, breach7, breach8, breach}
use Rattle.night_rules.specs.Breach.{by_stray_link, by_stray_state, by_left_hash, by_left_key, by_left_place, by_left_link, by_root_under}
use Rattle.night_rules.specs.Breach.{by_orphan}
use Rattle.night_rules.specs.Breach.{by_disowned, by_child_elsewhere, by_child_twice, by_off_root, by_falls, by_red_root, by_red_under}
use Rattle.night_rules.specs.Breach.{by_uneven}
use Rattle.night_rules.specs.Breach.{by_first_behind, by_prev_astray, by_next_astray, by_off_first, by_wrong_size, by_free_size}
use Rattle.night_rules.specs.Breach.{by_stray_root}
use Rattle.night_rules.specs.Breach.{by_stray_first, by_miscount, by_root_set, by_root_unset, by_first_set, by_first_unset}
use Rattle.night_rules.proofs.Testing.{back_tests, Misrooted, misrooted_tests, twins_tests, misfirst_tests, neg_tests, eq_tests}
use Rattle.night_rules.proofs.Telling.{Tried, found, nowhere, tried, inside5, inside8}
use Rattle.night_rules.proofs.Ordering.{four_inside}
use Rattle.night_rules.proofs.Sizes.{number_in, number_most}

-- What holds of the one choice and of the other, each where the test leads there, holds of what is chosen.
chosen : {A : Type 0} (P : A → Type 0) (b : Bool) {x y : A} → (b ≡ true → P x) → (b ≡ false → P y) → P (pick b x y)
chosen P true h k = h refl
chosen P false h k = k refl

-- A test that is false has another value than one that is true.
clash : {b : Bool} → b ≡ false → b ≡ true → ⊥
clash e f = false≢true (sym e ∙ f)

-- The link that a test is true of is one of the five.
module _ (f : ℕ → Bool) where
  link_found : link_with f ≢ null → LinkOf (link_with f) × (f (link_with f) ≡ true)
  link_found h = go (link_with f) h (tried f 5 parent)
    where
      go : (r : ℕ) → r ≢ null → Tried f parent 5 r → LinkOf r × (f r ≡ true)
      go r h (found a b e l) = (record { low = a; high = omega arith }, e)
      go r h (nowhere l) = absurd (h refl)

  link_none : link_with f ≡ null → (g : ℕ) → parent ≤ g → g ≤ next → f g ≡ false
  link_none h = go (link_with f) h (tried f 5 parent)
    where
      go : (r : ℕ) → r ≡ null → Tried f parent 5 r → (g : ℕ) → parent ≤ g → g ≤ next → f g ≡ false
      go r h (found a b e l) g x y = absurd (omega arith)
      go r h (nowhere l) g x y = l g x (omega arith)

module _ {t : Live} {i : ℕ} where
  -- A free slot that is not cleared: where all that stands before the links is cleared, one of the links is not.
  left_breaks : cell t.cells i state ≡ free → (Cleared t i → ⊥) → Breaks t i 1 (left_in t.names t.cells i)
  unfolding left_in
  left_breaks z d =
      chosen (Breaks t i 1) _ (λ e. by_left_hash z ((neg_tests (eq_tests _ _)).0 e))
      (λ h. chosen (Breaks t i 1) _ (λ e. by_left_key z ((neg_tests (eq_tests _ _)).0 e))
      (λ k. chosen (Breaks t i 1) _ (λ e. by_left_place z ((neg_tests (eq_tests _ _)).0 e))
      (λ p. links (zero_of h) (zero_of k) (zero_of p) (ℕ_discrete (link_with (is_set t.cells i)) null))))
    where
      zero_of : {x y : ℕ} → neg (eqb x y) ≡ false → x ≡ y
      zero_of {x} {y} e = go (ℕ_discrete x y)
        where
          go : Dec (x ≡ y) → x ≡ y
          go (yes q) = q
          go (no m) = absurd (clash e ((neg_tests (eq_tests x y)).1 m))

      links : name_of t.names i hash_part ≡ 0 → name_of t.names i key_part ≡ 0 → cell t.cells i place ≡ 0
          → Dec (link_with (is_set t.cells i) ≡ null)
          → Breaks t i 1 (let f = link_with (is_set t.cells i) in Breach.left_field f (cell t.cells i f))
      links h k p (no m) =
          let g = link_found (is_set t.cells i) m in by_left_link z g.0 ((neg_tests (eq_tests _ _)).0 g.1)
      links h k p (yes e) =
          let n : (g : ℕ) → parent ≤ g → g ≤ next → cell t.cells i g ≡ null =
          λ g x y. zero_of (link_none (is_set t.cells i) e g x y) in
          absurd (d (record {
            hash = h;
            key = k;
            placed = p;
            parents = n parent (omega arith) (omega arith);
            lefts = n left (omega arith) (omega arith);
            rights = n right (omega arith) (omega arith);
            prevs = n prev (omega arith) (omega arith);
            nexts = n next (omega arith) (omega arith);
          }))

  one_breaks : Shows1 t i → Breaks t i 1 (breach1 t i)
  unfolding breach1
  one_breaks s = go (ℕ_discrete (link_with (is_stray t i)) null)
    where
      n : ℕ
      n = slots_of t.names

      inside : link_with (is_stray t i) ≡ null → LinksNamed n t.cells i
      inside e =
          let at : (g : ℕ) → parent ≤ g → g ≤ next → Named n (cell t.cells i g) = λ g x y. held (link_none (is_stray t i) e g x y) in
          record {
            parents = at parent (omega arith) (omega arith);
            lefts = at left (omega arith) (omega arith);
            rights = at right (omega arith) (omega arith);
            prevs = at prev (omega arith) (omega arith);
            nexts = at next (omega arith) (omega arith);
          }
        where
          held : {x : ℕ} → neg (in_range n x) ≡ false → Named n x
          held {x} f = pass (in_range n x) refl f
            where
              pass : (b : Bool) → in_range n x ≡ b → neg b ≡ false → Named n x
              pass true q f = named n x q
              pass false q f = absurd (clash f refl)

      go : Dec (link_with (is_stray t i) ≡ null) → Breaks t i 1 (breach1 t i)
      go (no m) =
          let g = link_found (is_stray t i) m in
          rw (ne_eqb (link_with (is_stray t i)) null m)
          (by_stray_link g.0 (λ h. (neg_tests (named n _, ranged n _)).0 g.1 h))
      go (yes e) =
          rw (eq-eqb (link_with (is_stray t i)) null e)
          (chosen (Breaks t i 1) _ (λ small. rest small s.faulty) (λ large. by_stray_state (leb-false _ _ large)))
        where
          rest : leb (cell t.cells i state) 2 ≡ true → Faulty t i → Breaks t i 1 (left_in t.names t.cells i)
          rest small (stray_link d) = absurd (d (inside e))
          rest small (stray_state d) = absurd (omega (arith, leb-true (cell t.cells i state) 2 small))
          rest small (uncleared z d) = left_breaks z d

  three_breaks : Shows3 t i → Breaks t i 3 (breach3 t i)
  unfolding breach3 misseated
  three_breaks s =
      chosen (Breaks t i 3) (misrooted t i) (λ e. seat ((misrooted_tests t i).0 e))
      (λ m. chosen (Breaks t i 3) (points_back t.cells i left parent)
      (λ a. chosen (Breaks t i 3) (points_back t.cells i right parent)
      (λ b. chosen (Breaks t i 3) (twins t.cells i)
      (λ e. let p = (twins_tests t.cells i).0 e in by_child_twice p.0 p.1)
      (λ d. by_off_root (off m a b d s.misplaced)))
      (λ b. let p = (back_tests t.cells i right parent).0 (ap neg b) in by_child_elsewhere rightward refl p.0 p.1))
      (λ a. let p = (back_tests t.cells i left parent).0 (ap neg a) in by_child_elsewhere leftward refl p.0 p.1))
    where
      seat : Misrooted t i → Breaks t i 3 (misseated t i)
      seat (inl p) = rw (eq-eqb i (root_of t) p.0) (by_root_under p.0 p.1)
      seat (inr p) =
          rw (ne_eqb i (root_of t) p.0)
          (chosen (Breaks t i 3) (eqb (cell t.cells i parent) null) (λ e. by_orphan p.0 (eqb-true _ _ e))
          (λ e. by_disowned p.0 refl (eqb-false _ _ e) p.1))

      off : misrooted t i ≡ false → points_back t.cells i left parent ≡ true → points_back t.cells i right parent ≡ true
          → twins t.cells i ≡ false → Misplaced t i → LeadsTo t.cells parent (root_of t) i → ⊥
      off m a b d (under_one e f) = absurd (clash m ((misrooted_tests t i).1 (inl (e, f))))
      off m a b d (no_child e f) = absurd (clash m ((misrooted_tests t i).1 (inr (e, f))))
      off m a b d (not_back leftward e f) = absurd (clash (ap neg a) ((back_tests t.cells i left parent).1 (e, f)))
      off m a b d (not_back rightward e f) = absurd (clash (ap neg b) ((back_tests t.cells i right parent).1 (e, f)))
      off m a b d (same_twice e f) = absurd (clash d ((twins_tests t.cells i).1 (e, f)))
      off m a b d (off_root f) = f

  five_breaks : Shows5 t i → Breaks t i 5 (breach5 t i)
  unfolding breach5
  five_breaks s =
      chosen (Breaks t i 5) (eqb i (root_of t)) (λ e. by_red_root (eqb-true _ _ e) (own s))
      (λ m. chosen (Breaks t i 5) (red_slot t.cells (cell t.cells i left)) (λ e. by_red_under leftward (own s) refl (eqb-true _ _ e))
      (λ d. by_red_under rightward (own s) refl (child m d s)))
    where
      own : Shows5 t i → cell t.cells i state ≡ code red
      own (red_root b e r) = r
      own (red_child b σ r e) = r

      child : eqb i (root_of t) ≡ false → red_slot t.cells (cell t.cells i left) ≡ false → Shows5 t i
          → cell t.cells (cell t.cells i right) state ≡ code red
      child m d (red_root b e r) = absurd (eqb-false _ _ m e)
      child m d (red_child b leftward r e) = absurd (eqb-false _ _ d e)
      child m d (red_child b rightward r e) = e

  seven_breaks : Shows7 t i → Breaks t i 7 (breach7 t i)
  unfolding breach7
  seven_breaks s =
      chosen (Breaks t i 7) (misfirst t i) (λ e. let p = (misfirst_tests t i).0 e in by_first_behind p.0 p.1)
      (λ m. chosen (Breaks t i 7) (points_back t.cells i prev next)
      (λ a. chosen (Breaks t i 7) (points_back t.cells i next prev) (λ b. by_off_first (off m a b s.unchained))
      (λ b. let p = (back_tests t.cells i next prev).0 (ap neg b) in by_next_astray refl p.0 p.1))
      (λ a. let p = (back_tests t.cells i prev next).0 (ap neg a) in by_prev_astray refl p.0 p.1))
    where
      off : misfirst t i ≡ false → points_back t.cells i prev next ≡ true → points_back t.cells i next prev ≡ true
          → Unchained t i → LeadsTo t.cells prev (first_of t) i → ⊥
      off m a b (behind_one e f) = absurd (clash m ((misfirst_tests t i).1 (e, f)))
      off m a b (prev_elsewhere e f) = absurd (clash (ap neg a) ((back_tests t.cells i prev next).1 (e, f)))
      off m a b (next_elsewhere e f) = absurd (clash (ap neg b) ((back_tests t.cells i next prev).1 (e, f)))
      off m a b (off_first f) = f

module _ {t : Live} (fit : Fit t) where
  -- The number of a slot in the tree is small, so that it is told as it is.
  eight_breaks : {tree : Tree} {i : ℕ} → T1 t → T3 t tree → Shows8 t tree i → Breaks t i 8 (breach8 t i)
  unfolding breach8
  eight_breaks {tree} {i} first third (missized u d) =
      let number = number_in fit first third u in
      let few : size_in i tree < 4294967296 = omega (arith, number_most fit first third u, small fit) in
      rw (ne_eqb (cell t.cells i state) free u.busy, number, lt-ltb (size_in i tree) 4294967296 few) (by_wrong_size third u d)
  eight_breaks {tree} {i} first third (sized_free l e d) = rw (eq-eqb (cell t.cells i state) free e) (by_free_size e d)

  header_one : Header1 t → HeaderBreaks t 1 (header1 t)
  unfolding header1
  header_one h =
      chosen (HeaderBreaks t 1) _ (λ e. by_stray_root (λ r. (neg_tests (named n _, ranged n _)).0 e r))
      (λ a. chosen (HeaderBreaks t 1) _ (λ e. by_stray_first (λ r. (neg_tests (named n _, ranged n _)).0 e r))
      (λ b. by_miscount (off a b h)))
    where
      n : ℕ
      n = slots_of t.names

      off : neg (in_range n (root_of t)) ≡ false → neg (in_range n (first_of t)) ≡ false → Header1 t → count_of t ≢ tally n (used t.cells)
      off a b (stray_root d) = absurd (clash a ((neg_tests (named n _, ranged n _)).1 d))
      off a b (stray_first d) = absurd (clash b ((neg_tests (named n _, ranged n _)).1 d))
      off a b (miscounted d) = d

  header_two : (T2 t → ⊥) → HeaderBreaks t 2 (header2 t)
  unfolding header2
  header_two d = go (ℕ_discrete (root_of t) null) (ℕ_discrete (first_of t) null) (ℕ_discrete (count_of t) 0)
    where
      go : Dec (root_of t ≡ null) → Dec (first_of t ≡ null) → Dec (count_of t ≡ 0) → HeaderBreaks t 2 (header2 t)
      go (yes r) (yes f) (yes c) = absurd (d (record { root = (λ x. c, λ x. r); first = (λ x. c, λ x. f) }))
      go (yes r) (no f) (yes c) = rw (eq-eqb (root_of t) null r, eq-eqb (count_of t) 0 c) (by_first_set c f)
      go (no r) f (yes c) = rw (ne_eqb (root_of t) null r, eq-eqb (count_of t) 0 c) (by_root_set c r)
      go (yes r) f (no c) = rw (eq-eqb (root_of t) null r, ne_eqb (count_of t) 0 c) (by_root_unset c r)
      go (no r) (yes f) (no c) = rw (ne_eqb (root_of t) null r, ne_eqb (count_of t) 0 c) (by_first_unset c f)
      go (no r) (no f) (no c) =
          absurd (d (record { root = (λ x. absurd (r x), λ x. absurd (c x)); first = (λ x. absurd (f x), λ x. absurd (c x)) }))

  solid : {i : ℕ} → i < slots_of t.names → i ≢ null
  solid l e = omega (arith, small fit)

  pub broken : {w : Account} → Reason t w → BreaksAt t w (breach t w)
  unfolding breach breach4
  broken (one {i} d low) =
      let s = solid low.shows.inside in at_slot s (rw (ne_eqb i null s) (one_breaks low.shows))
  broken (one_header d none h) = in_header refl (header_one h)
  broken (two_header first d) = in_header refl (header_two d)
  broken (three {i} first second d low) = at_slot (solid low.shows.used.inside) (three_breaks low.shows)
  broken (four {i = i} {j} before d low out) = at_slot (solid (four_inside fit before.t3 i low.shows)) (by_falls out)
  broken (five {i = i} before fourth d low) = at_slot (solid (inside5 i low.shows)) (five_breaks low.shows)
  broken (six before fourth fifth d low a b x y m) = at_slot (solid low.shows.used.inside) (by_uneven a b m)
  broken (seven before d low) = at_slot (solid low.shows.used.inside) (seven_breaks low.shows)
  broken (eight {i = i} chain before seventh d low) =
      at_slot (solid (inside8 i low.shows)) (eight_breaks before.before.t1 before.before.t3 low.shows)
