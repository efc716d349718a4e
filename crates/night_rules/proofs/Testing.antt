-- The tests of one slot for T1, T3 and T7 are true exactly where it shows the rule broken: each is put together of small tests as the
-- reading is of small statements.
use mathlib.Core.Path.{◌≡◌, refl, sym, ◌∙◌}
use mathlib.Core.Logic.{◌≢◌, ◌↔◌, ◌⊎◌, inl, inr}
use mathlib.Core.List.{List}
use mathlib.Core.Bool.{Bool, true, false, false≢true}
use Prim.Native.Nat.{ℕ, ◌<◌, ◌≤◌}
use native.Mathlib.Decide.{ℕ_discrete, dec_le}
use native.Mathlib.Omega.{arith}
use lib.Dec.{eqb}
use borrow.Author.Tests.{eq-eqb, ne_eqb, eqb-true}
use Rattle.slots.specs.Words.{null, pick, state, parent, left, right, prev, next, free, cell, leftward, rightward, ◌and◌}
use Rattle.tree_rules.specs.Find.{slots_of}
use Rattle.tree_rules.specs.Chain.{tally}
use Rattle.tree_rules.specs.Check.{Named, LinksNamed, in_range, links_in, points_back}
use Rattle.tree_rules.proofs.Walking.{named, ranged, links_named, links_in_lem}
use Rattle.index_rules.specs.Live.{Live, Fit, root_of, first_of, count_of}
use Rattle.index_rules.specs.Sound.{T1, used, slot_fine, rule1}
use Rattle.index_rules.proofs.Rules.{small, Fine, fine, is-fine, rule_one}
use Rattle.night_rules.specs.Shows.{LeadsTo, OneChild, Faulty, stray_link, stray_state, uncleared, Shows1, Header1, stray_root}
use Rattle.night_rules.specs.Shows.{stray_first, miscounted, Misplaced, under_one, no_child, not_back, same_twice, off_root, Shows3}
use Rattle.night_rules.specs.Shows.{Unchained, behind_one, prev_elsewhere, next_elsewhere, off_first, Shows7}
use Rattle.night_rules.specs.Why.{neg, ◌or◌, is_used, shows1, one_child, misrooted, twins, shows3, misfirst, shows7}
use Rattle.night_rules.proofs.Leading.{leads_tested}
use Rattle.night_rules.proofs.Slots

-- The test b is true exactly where A holds.
abbrev pub Decides : Bool → Type 0 → Type 0
Decides b A = (b ≡ true) ↔ A

pub eq_tests : (a b : ℕ) → Decides (eqb a b) (a ≡ b)
eq_tests a b = (eqb-true a b, eq-eqb a b)

pub neg_tests : {b : Bool} {A : Type 0} → Decides b A → Decides (neg b) (A → ⊥)
neg_tests {b = true} h = (λ e. absurd (false≢true e), λ n. absurd (n (h.0 refl)))
neg_tests {b = false} h = (λ e a. false≢true (h.1 a), λ n. refl)

pub and_tests : {a b : Bool} {A B : Type 0} → Decides a A → Decides b B → Decides (a and b) (A × B)
and_tests {a = true} h k = (λ e. (h.0 refl, k.0 e), λ p. k.1 p.1)
and_tests {a = false} h k = (λ e. absurd (false≢true e), λ p. h.1 p.0)

pub or_tests : {a b : Bool} {A B : Type 0} → Decides a A → Decides b B → Decides (a or b) (A ⊎ B)
or_tests {a = true} h k = (λ e. inl (h.0 refl), λ p. refl)
or_tests {a = false} {b} {A} {B} h k = (λ e. inr (k.0 e), go)
  where
    go : A ⊎ B → b ≡ true
    go (inl x) = absurd (false≢true (h.1 x))
    go (inr y) = k.1 y

pick_tests : {a b c : Bool} {A B C : Type 0} → Decides a A → Decides b B → Decides c C → Decides (pick a b c) ((A × B) ⊎ ((A → ⊥) × C))
pick_tests {a = true} {b} {c} {A} {B} {C} h k l = (λ e. inl (h.0 refl, k.0 e), go)
  where
    go : (A × B) ⊎ ((A → ⊥) × C) → b ≡ true
    go (inl p) = k.1 p.1
    go (inr p) = absurd (p.0 (h.0 refl))
pick_tests {a = false} {b} {c} {A} {B} {C} h k l = (λ e. inr (λ x. false≢true (h.1 x), l.0 e), go)
  where
    go : (A × B) ⊎ ((A → ⊥) × C) → c ≡ true
    go (inl p) = absurd (false≢true (h.1 p.0))
    go (inr p) = l.1 p.1

pub dec_tests : {b : Bool} {A : Type 0} → Decides b A → Dec A
dec_tests {b = true} h = yes (h.0 refl)
dec_tests {b = false} h = no (λ a. false≢true (h.1 a))

pub used_tests : (t : Live) (i : ℕ) → Decides (is_used t i) (cell t.cells i state ≢ free)
used_tests t i = neg_tests (eq_tests _ _)

-- T1.
one_shown : (t : Live) (i : ℕ) → i < slots_of t.names → (Fine t (slots_of t.names) i → ⊥) → Shows1 t i
one_shown t i l n = record { inside = l; faulty = go links (dec_le (cell t.cells i state) 2) }
  where
    links : Dec (LinksNamed (slots_of t.names) t.cells i)
    links =
        dec_tests {b = links_in (slots_of t.names) t.cells i}
        (links_named (slots_of t.names) t.cells i, links_in_lem (slots_of t.names) t.cells i)

    go : Dec (LinksNamed (slots_of t.names) t.cells i) → Dec (cell t.cells i state ≤ 2) → Faulty t i
    go (no d) s = stray_link d
    go (yes h) (no d) = stray_state (omega arith)
    go (yes h) (yes s) = last (ℕ_discrete (cell t.cells i state) free)
      where
        last : Dec (cell t.cells i state ≡ free) → Faulty t i
        last (yes z) = uncleared z (λ c. n (record { links = h; states = s; cleared = λ y. c }))
        last (no d) = absurd (n (record { links = h; states = s; cleared = λ y. absurd (d y) }))

pub one_tests : (t : Live) (i : ℕ) → i < slots_of t.names → Decides (shows1 t i) (Shows1 t i)
unfolding shows1
one_tests t i l = (λ e. one_shown t i l ((neg_tests tests).0 e), from)
  where
    tests : Decides (slot_fine (slots_of t.names) t i) (Fine t (slots_of t.names) i)
    tests = (fine t (slots_of t.names) i, is-fine t (slots_of t.names) i)

    from : Shows1 t i → neg (slot_fine (slots_of t.names) t i) ≡ true
    from h = (neg_tests tests).1 (λ f. go f h.faulty)
      where
        go : Fine t (slots_of t.names) i → Faulty t i → ⊥
        go f (stray_link d) = d f.links
        go f (stray_state d) = omega (arith, f.states)
        go f (uncleared e d) = d (f.cleared e)

pub one_none : {t : Live} → T1 t → (i : ℕ) → Shows1 t i → ⊥
one_none {t} one i h = go h.faulty
  where
    go : Faulty t i → ⊥
    go (stray_link d) = d (one.links i h.inside)
    go (stray_state d) = omega (arith, one.states i h.inside)
    go (uncleared e d) = d (one.cleared i h.inside e)

fines : {t : Live} → ((i : ℕ) → Shows1 t i → ⊥) → (i : ℕ) → i < slots_of t.names → Fine t (slots_of t.names) i
fines {t} none i l =
    Slots.sure (dec_tests {b = slot_fine (slots_of t.names) t i} (fine t (slots_of t.names) i, is-fine t (slots_of t.names) i))
    (λ d. none i (one_shown t i l d))

-- Where no slot shows T1 broken and it does not hold, the header does; and where neither does, it holds.
pub one_header_lem : {t : Live} → ((i : ℕ) → Shows1 t i → ⊥) → (T1 t → ⊥) → Header1 t
one_header_lem {t} none broken =
    go (range (root_of t)) (range (first_of t)) (ℕ_discrete (count_of t) (tally (slots_of t.names) (used t.cells)))
  where
    range : (x : ℕ) → Dec (Named (slots_of t.names) x)
    range x = dec_tests {b = in_range (slots_of t.names) x} (named (slots_of t.names) x, ranged (slots_of t.names) x)

    go : Dec (Named (slots_of t.names) (root_of t)) → Dec (Named (slots_of t.names) (first_of t))
        → Dec (count_of t ≡ tally (slots_of t.names) (used t.cells)) → Header1 t
    go (no d) y z = stray_root d
    go (yes a) (no d) z = stray_first d
    go (yes a) (yes b) (no d) = miscounted d
    go (yes a) (yes b) (yes c) =
        absurd (broken (record {
          links = λ i l. (fines none i l).links;
          root = a;
          first = b;
          states = λ i l. (fines none i l).states;
          cleared = λ i l. (fines none i l).cleared;
          count = c;
        }))

pub one_complete : {t : Live} → ((i : ℕ) → Shows1 t i → ⊥) → (Header1 t → ⊥) → T1 t
one_complete {t} none header = (rule_one t).0 (go (rule1 t) refl)
  where
    go : (b : Bool) → rule1 t ≡ b → rule1 t ≡ true
    go true e = e
    go false e = absurd (header (one_header_lem none (λ h. false≢true (sym e ∙ (rule_one t).1 h))))

pub header_none : {t : Live} → T1 t → Header1 t → ⊥
header_none one (stray_root d) = d one.root
header_none one (stray_first d) = d one.first
header_none one (miscounted d) = d one.count

-- A neighbour along f, if any, points back along g.
pub back_tests : (cells : List ℕ) (i f g : ℕ)
    → Decides (neg (points_back cells i f g)) ((cell cells i f ≢ null) × (cell cells (cell cells i f) g ≢ i))
unfolding points_back
back_tests cells i f g =
    let h = neg_tests (or_tests (eq_tests (cell cells i f) null) (eq_tests (cell cells (cell cells i f) g) i)) in
    (λ e. (λ z. h.0 e (inl z), λ z. h.0 e (inr z)), λ p. h.1 (elim [ inl z ↦ p.0 z | inr z ↦ p.1 z ]))

child_tests : (cells : List ℕ) (p i : ℕ) → Decides (one_child cells p i) (OneChild cells p i)
unfolding one_child
child_tests cells p i = pick_tests (eq_tests _ _) (neg_tests (eq_tests _ _)) (eq_tests _ _)

-- The first part of T3's reading: a root has no parent, another slot is exactly one of its parent's children.
abbrev pub Misrooted : Live → ℕ → Type 0
Misrooted t i =
    ((i ≡ root_of t) × (cell t.cells i parent ≢ null)) ⊎ ((i ≢ root_of t) × (OneChild t.cells (cell t.cells i parent) i → ⊥))

pub misrooted_tests : (t : Live) (i : ℕ) → Decides (misrooted t i) (Misrooted t i)
unfolding misrooted
misrooted_tests t i = go (ℕ_discrete i (root_of t))
  where
    under : Decides (neg (eqb (cell t.cells i parent) null)) (cell t.cells i parent ≢ null)
    under = neg_tests (eq_tests _ _)

    child : Decides (neg (one_child t.cells (cell t.cells i parent) i)) (OneChild t.cells (cell t.cells i parent) i → ⊥)
    child = neg_tests (child_tests t.cells (cell t.cells i parent) i)

    go : Dec (i ≡ root_of t) → Decides (misrooted t i) (Misrooted t i)
    go (yes e) = rw (eq-eqb i (root_of t) e) (λ z. inl (e, under.0 z), λ s. under.1 (has s))
      where
        has : Misrooted t i → cell t.cells i parent ≢ null
        has (inl p) = p.1
        has (inr p) = absurd (p.0 e)
    go (no d) = rw (ne_eqb i (root_of t) d) (λ z. inr (d, child.0 z), λ s. child.1 (lacks s))
      where
        lacks : Misrooted t i → OneChild t.cells (cell t.cells i parent) i → ⊥
        lacks (inl p) = absurd (d p.0)
        lacks (inr p) = p.1

pub twins_tests : (cells : List ℕ) (i : ℕ) → Decides (twins cells i) ((cell cells i left ≢ null) × (cell cells i left ≡ cell cells i right))
unfolding twins
twins_tests cells i = and_tests (neg_tests (eq_tests _ _)) (eq_tests _ _)

pub misfirst_tests : (t : Live) (i : ℕ) → Decides (misfirst t i) ((i ≡ first_of t) × (cell t.cells i prev ≢ null))
unfolding misfirst
misfirst_tests t i = and_tests (eq_tests _ _) (neg_tests (eq_tests _ _))

module _ {t : Live} (fit : Fit t) (one : T1 t) (i : ℕ) (l : i < slots_of t.names) where
  -- A neighbour along f that does not point back along g.
  abbrev NotBack : ℕ → ℕ → Type 0
  NotBack f g = (cell t.cells i f ≢ null) × (cell t.cells (cell t.cells i f) g ≢ i)

  -- The parts of T3's reading, and of T7's.
  abbrev Parts3 : Type 0
  Parts3 =
      Misrooted t i
      ⊎ (NotBack left parent
      ⊎ (NotBack right parent
      ⊎ (((cell t.cells i left ≢ null) × (cell t.cells i left ≡ cell t.cells i right))
      ⊎ (LeadsTo t.cells parent (root_of t) i → ⊥))))

  abbrev Parts7 : Type 0
  Parts7 =
      ((i ≡ first_of t) × (cell t.cells i prev ≢ null))
      ⊎ (NotBack prev next ⊎ (NotBack next prev ⊎ (LeadsTo t.cells prev (first_of t) i → ⊥)))

  pub three_tests : Decides (shows3 t i) (Shows3 t i)
  unfolding shows3
  three_tests = (λ e. (let p = tests.0 e in to p.0 p.1), λ s. tests.1 (s.used.busy, from s.misplaced))
    where
      tests : Decides (shows3 t i) ((cell t.cells i state ≢ free) × Parts3)
      tests =
          and_tests (used_tests t i)
          (or_tests (misrooted_tests t i)
          (or_tests (back_tests t.cells i left parent)
          (or_tests (back_tests t.cells i right parent)
          (or_tests (twins_tests t.cells i)
          (neg_tests (leads_tested (slots_of t.names) t.cells parent (root_of t) (small fit) (Slots.parents fit one).named
          (Slots.no_cell fit one parent) i l (omega arith)))))))

      to : cell t.cells i state ≢ free → Parts3 → Shows3 t i
      to u p = record { used = record { inside = l; busy = u }; misplaced = go p }
        where
          go : Parts3 → Misplaced t i
          go (inl (inl p)) = under_one p.0 p.1
          go (inl (inr p)) = no_child p.0 p.1
          go (inr (inl p)) = not_back leftward p.0 p.1
          go (inr (inr (inl p))) = not_back rightward p.0 p.1
          go (inr (inr (inr (inl p)))) = same_twice p.0 p.1
          go (inr (inr (inr (inr p)))) = off_root p

      from : Misplaced t i → Parts3
      from (under_one e d) = inl (inl (e, d))
      from (no_child e d) = inl (inr (e, d))
      from (not_back leftward m d) = inr (inl (m, d))
      from (not_back rightward m d) = inr (inr (inl (m, d)))
      from (same_twice m e) = inr (inr (inr (inl (m, e))))
      from (off_root d) = inr (inr (inr (inr d)))

  pub seven_tests : Decides (shows7 t i) (Shows7 t i)
  unfolding shows7
  seven_tests = (λ e. (let p = tests.0 e in to p.0 p.1), λ s. tests.1 (s.used.busy, from s.unchained))
    where
      tests : Decides (shows7 t i) ((cell t.cells i state ≢ free) × Parts7)
      tests =
          and_tests (used_tests t i)
          (or_tests (misfirst_tests t i)
          (or_tests (back_tests t.cells i prev next)
          (or_tests (back_tests t.cells i next prev)
          (neg_tests (leads_tested (slots_of t.names) t.cells prev (first_of t) (small fit) (Slots.prevs fit one).named
          (Slots.no_cell fit one prev) i l (omega arith))))))

      to : cell t.cells i state ≢ free → Parts7 → Shows7 t i
      to u p = record { used = record { inside = l; busy = u }; unchained = go p }
        where
          go : Parts7 → Unchained t i
          go (inl p) = behind_one p.0 p.1
          go (inr (inl p)) = prev_elsewhere p.0 p.1
          go (inr (inr (inl p))) = next_elsewhere p.0 p.1
          go (inr (inr (inr p))) = off_first p

      from : Unchained t i → Parts7
      from (behind_one e d) = inl (e, d)
      from (prev_elsewhere m d) = inr (inl (m, d))
      from (next_elsewhere m d) = inr (inr (inl (m, d)))
      from (off_first d) = inr (inr (inr d))
