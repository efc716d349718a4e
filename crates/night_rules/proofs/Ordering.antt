-- T4: the slot that the links name as next is the next in order: below the right link it is the first there, and else the way up ends at
-- the slot that has it on its left.
use mathlib.Core.Path.{◌≡◌, refl, ap, sym, ◌∙◌}
use mathlib.Core.Logic.{◌≢◌}
use mathlib.Core.List.{List, ◌∷◌, ◌++◌}
use mathlib.Core.Bool.{true}
use Prim.Native.Nat.{ℕ, zero, suc, ◌+◌, ◌<◌, ◌≤◌}
use native.Mathlib.Decide.{ℕ_discrete}
use native.Mathlib.Omega.{arith}
use lib.ListN.{length}
use borrow.Author.Tests.{eq-eqb, ne_eqb}
use Rattle.slots.specs.Words.{null, parent, left, right, state, free, cell, Colour}
use Rattle.slots.specs.Pairs.{pair_of, Less}
use Rattle.slots.proofs.Laws.{pick_eq, pick_ne}
use Rattle.slots.proofs.Order.{before_less}
use Rattle.tree_rules.specs.Find.{slots_of}
use Rattle.tree_rules.specs.Tree.{Tree, node, top, slots, times, Cell, Hangs, NextInOrder}
use Rattle.tree_rules.proofs.Rank.{Rank, home, up, rank_up}
use Rattle.tree_rules.proofs.Order.{rising_after}
use Rattle.tree_rules.proofs.Counting.{times_append, times_head, times-around}
use Rattle.tree_rules.proofs.Reaching.{two_tops, solid, length_node, rooted_most, hangs_inside}
use Rattle.index_rules.specs.Live.{Live, Fit, root_of}
use Rattle.index_rules.specs.Sound.{T3, T4}
use Rattle.index_rules.proofs.Rules.{small, ends}
use Rattle.slots.proofs.Laws.{cell-null}
use Rattle.night_rules.specs.Shows.{Used, Shows4}
use Rattle.night_rules.specs.Why.{first_below, next_above, next_slot, next_in, pair_rises, shows4}
use Rattle.night_rules.proofs.Listed.{head_or, next_on, first_append, next_front, next_here, next-after, next_beside}
use Rattle.night_rules.proofs.Listed.{beside_next, beside_in, beside_rising}
use Rattle.night_rules.proofs.Seated.{parts, top_above, has_top}
use Rattle.night_rules.proofs.Parts.{member_used, used_member, some_length}
use Rattle.night_rules.proofs.Testing.{Decides, eq_tests, neg_tests, and_tests, used_tests, dec_tests}
use Rattle.night_rules.proofs.Slots.{sure}

module _ (n : ℕ) (cells : List ℕ) (small : n ≤ null) (ends : cell cells null parent ≡ null) where
  up_null : (b : ℕ) {i : ℕ} → i ≡ null → next_above b cells i ≡ null
  unfolding next_above
  up_null zero e = refl
  up_null (suc b) {i} e =
      let z : cell cells i parent ≡ null = ap (λ (k : ℕ). cell cells k parent) e ∙ ends in pick_eq null _ z

  -- The steps to null are budget enough.
  up_stable : {i d : ℕ} (b c : ℕ) → Rank cells parent i d → d ≤ b → d ≤ c → next_above b cells i ≡ next_above c cells i
  unfolding next_above
  up_stable b c (home e) x y = up_null b e ∙ sym (up_null c e)
  up_stable zero c (up m r) x y = absurd (omega arith)
  up_stable (suc b) zero (up m r) x y = absurd (omega arith)
  up_stable (suc b) (suc c) (up {k} m r) x y = rw (up_stable b c r (omega arith) (omega arith))

  module _ {q : ℕ} {c : Colour} {l : Tree} {i : ℕ} {r : Tree} (w : Cell n cells q c (top l) i (top r)) (a : Hangs n cells i l)
      (y : Hangs n cells i r) where
    up_left : (b : ℕ) → 1 ≤ b → top l ≢ null → next_above b cells (top l) ≡ i
    unfolding next_above
    up_left zero h d = absurd (omega arith)
    up_left (suc b) h d =
        rw (top_above n cells small a d, ne_eqb i null (solid small w.inside), w.lefts, eq-eqb (top l) (top l) refl)

    up_right : (b d : ℕ) → suc (suc d) ≤ b → Rank cells parent i (suc d) → top r ≢ null → top l ≢ top r
        → next_above b cells (top r) ≡ next_above b cells i
    unfolding next_above
    up_right zero d h rk m e = absurd (omega arith)
    up_right (suc b) d h rk m e =
        rw (top_above n cells small y m, ne_eqb i null (solid small w.inside), w.lefts, ne_eqb (top l) (top r) e)
        (up_stable b (suc b) rk (omega arith) (omega arith))

  left_first : (b x : ℕ) {q : ℕ} {t : Tree} → Hangs n cells q t → top t ≢ null → length (slots t) ≤ suc b
      → first_below b cells (top t) ≡ head_or (slots t) x
  unfolding first_below slots head_or
  left_first b x Hangs.none d h = absurd (d refl)
  left_first zero x (Hangs.some w Hangs.none y) d h = refl
  left_first (suc b) x (Hangs.some {i = i} w Hangs.none y) d h = pick_eq i _ w.lefts
  left_first zero x (Hangs.some {c = c} {l} {i} {r} w (Hangs.some {c = c'} {l = l'} {i = i'} {r = r'} v a z) y) d h =
      absurd (omega (arith, length_node c l i r, length_node c' l' i' r'))
  left_first (suc b) x (Hangs.some {c = c} {l} {i} {r} w (Hangs.some {i = j} v a z) y) d h =
      let m : cell cells i left ≢ null = λ e. solid small v.inside (sym w.lefts ∙ e) in
      pick_ne i _ m
      ∙ ap (first_below b cells) w.lefts
      ∙ left_first b i (Hangs.some v a z) (solid small v.inside) (omega (arith, length_node c l i r))
      ∙ sym (first_append (slots l) i (slots r) x)

  none_first : (x : ℕ) {q : ℕ} {t : Tree} → Hangs n cells q t → top t ≡ null → head_or (slots t) x ≡ x
  unfolding slots head_or
  none_first x Hangs.none e = refl
  none_first x (Hangs.some w a b) e = absurd (solid small w.inside e)

  next_links : {q d : ℕ} {t : Tree} (k : ℕ) → Hangs n cells q t → ((j : ℕ) → times j (slots t) ≤ 1) → Rank cells parent q d
      → d + length (slots t) ≤ n → 1 ≤ times k (slots t) → next_slot n cells k ≡ next_on (slots t) k (next_above n cells (top t))
  unfolding slots times next_slot
  next_links k Hangs.none once rk h z = absurd (omega arith)
  next_links {q} {d} k (Hangs.some {c = c} {l} {i} {r} w a b) once rk h z =
      times-around k (slots l) i (slots r) z
      (λ y.
      (let s = next_links k a (λ j. omega (arith, once j, parts j c l i r)) ranked (omega (arith, long)) y in
      s ∙ ap (next_on (slots l) k) (up_left w a b n (omega (arith, long)) (has_top n cells small k a y))
      ∙ sym (next_front (slots l) i (slots r) k (next_above n cells i) y)))
      (λ e. rw e (here (ℕ_discrete (cell cells i right) null)))
      (λ y.
      (let s = next_links k b (λ j. omega (arith, once j, parts j c l i r)) ranked (omega (arith, long)) y in
      let m = has_top n cells small k b y in
      s ∙ ap (next_on (slots r) k)
      (up_right w a b n d (omega (arith, long, some_length k (slots r) y)) ranked m (λ e. m (sym e ∙ apart e)))
      ∙ sym (next-after (slots l) i (slots r) k (next_above n cells i) (omega (arith, once k, parts k c l i r))
      (λ e. omega (
        arith,
        once i,
        times_append i (slots l) (i ∷ slots r),
        times_head i (slots r),
        ap (λ (j : ℕ). times j (slots r)) e,
      )))))
    where
      long : length (slots (node c l i r)) ≡ length (slots l) + suc (length (slots r))
      long = length_node c l i r

      ranked : Rank cells parent i (suc d)
      ranked = rank_up (solid small w.inside) w.above rk

      apart : top l ≡ top r → top l ≡ null
      apart = two_tops n cells small a b (omega (arith, once (top l), parts (top l) c l i r))

      alone : times i (slots l) ≡ 0
      alone = omega (arith, once i, times_append i (slots l) (i ∷ slots r), times_head i (slots r))

      here : Dec (cell cells i right ≡ null) → next_slot n cells i ≡ next_on (slots l ++ (i ∷ slots r)) i (next_above n cells i)
      here (yes e) =
          rw (eq-eqb (cell cells i right) null e)
          (sym (none_first (next_above n cells i) b (sym w.rights ∙ e))
          ∙ sym (next_here (slots l) (slots r) i (next_above n cells i) alone))
      here (no m) =
          rw (ne_eqb (cell cells i right) null m, w.rights)
          (left_first _ (next_above n cells i) b (λ e. m (w.rights ∙ e)) (omega (arith, long))
          ∙ sym (next_here (slots l) (slots r) i (next_above n cells i) alone))

up_over : (cells : List ℕ) (b i : ℕ) → cell cells i parent ≡ null → next_above b cells i ≡ null
unfolding next_above
up_over cells zero i e = refl
up_over cells (suc b) i e = pick_eq null _ e

rising_tests : (names : List ℕ) (i j : ℕ) → Decides (pair_rises names i j) (Less (pair_of names i) (pair_of names j))
unfolding pair_rises
rising_tests names i j = before_less _ _ _ _

module _ {t : Live} (fit : Fit t) {tree : Tree} (three : T3 t tree) where
  -- The next slot by the links is the next of the tree's slots.
  next_in_order : {i : ℕ} → Used t i → next_in t i ≡ next_on (slots tree) i null
  next_in_order {i} h =
      let n = slots_of t.names in
      let none = cell-null t.cells parent (ends fit) in
      next_links n t.cells (small fit) none i three.rooted.hangs three.rooted.once (home refl)
      (omega (arith, rooted_most n t.cells (small fit) (root_of t) three.rooted)) (used_member three h)
      ∙ ap (next_on (slots tree) i) (top-next three.rooted.hangs)
    where
      top-next : {s : Tree} → Hangs (slots_of t.names) t.cells null s → next_above (slots_of t.names) t.cells (top s) ≡ null
      top-next Hangs.none =
          up_null (slots_of t.names) t.cells (small fit) (cell-null t.cells parent (ends fit)) (slots_of t.names) refl
      top-next (Hangs.some {i = i} w x y) = up_over t.cells (slots_of t.names) i w.above

  -- And it is the only one.
  pub next-is : {i j : ℕ} → NextInOrder i j (slots tree) → next_in t i ≡ j
  next-is {i} {j} h = next_in_order (member_used three i (beside_in h).0) ∙ beside_next null three.rooted.once h

  pub four_complete : ((i : ℕ) → Shows4 t tree i → ⊥) → T4 t tree
  four_complete none =
      beside_rising t.names (slots tree)
      (λ i j b. sure (dec_tests (rising_tests t.names i j)) (λ d. none i (record { other = j; out = record { next = b; falls = d } })))

  pub four_none : T4 t tree → (i : ℕ) → Shows4 t tree i → ⊥
  four_none r i h =
      let b = h.out.next in
      h.out.falls
      (rising_after b.before i (h.other ∷ b.after) h.other (rw b.whole at r) (omega (arith, times_head h.other b.after)))

  pub four_inside : (i : ℕ) → Shows4 t tree i → i < slots_of t.names
  four_inside i h = hangs_inside (slots_of t.names) t.cells three.rooted.hangs (beside_in h.out.next).0

  pub four_tests : (i : ℕ) → i < slots_of t.names → Decides (shows4 t i) (Shows4 t tree i)
  unfolding shows4
  four_tests i l = (to, from)
    where
      parted : Decides (shows4 t i)
          ((cell t.cells i state ≢ free)
          × ((next_in t i ≢ null) × (Less (pair_of t.names i) (pair_of t.names (next_in t i)) → ⊥)))
      parted = and_tests (used_tests t i) (and_tests (neg_tests (eq_tests _ _)) (neg_tests (rising_tests t.names i (next_in t i))))

      to : shows4 t i ≡ true → Shows4 t tree i
      to e =
          let p = parted.0 e in
          let z = next_in_order (record { inside = l; busy = p.0 }) in
          let b = next_beside (slots tree) i (λ y. p.1.0 (z ∙ y)) in
          let n : NextInOrder i (next_in t i) (slots tree) = rw z b in
          record { other = next_in t i; out = record { next = n; falls = p.1.1 } }

      from : Shows4 t tree i → shows4 t i ≡ true
      from h =
          let b = h.out.next in
          let u = member_used three i (beside_in b).0 in
          let z : next_in t i ≡ h.other = next-is b in
          let s = hangs_inside (slots_of t.names) t.cells three.rooted.hangs (beside_in b).1 in
          parted.1 (u.busy, (λ e. solid (small fit) s (sym z ∙ e), rw z h.out.falls))
