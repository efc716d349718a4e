-- T6: the two ways shown are ways from the root to a null link, and meet different numbers of black slots.
use mathlib.Core.Path.{◌≡◌, refl, ap, sym, ◌∙◌}
use mathlib.Core.Logic.{◌≢◌}
use mathlib.Core.List.{List}
use mathlib.Core.Bool.{false≢true}
use Prim.Native.Nat.{ℕ, zero, suc, ◌+◌, ◌<◌, ◌≤◌}
use native.Mathlib.Omega.{arith}
use native.Mathlib.Decide.{ℕ_discrete}
use lib.ListN.{length}
use borrow.Author.Tests.{eq-eqb, ne_eqb}
use Rattle.slots.specs.Words.{null, parent, state, free, cell, black, code, Side, leftward, rightward, toward}
use Rattle.slots.specs.Answers.{Value, none, some}
use Rattle.slots.proofs.Laws.{pick_eq, cell-null, some_is, none_some}
use Rattle.tree_rules.specs.Find.{slots_of}
use Rattle.tree_rules.specs.Tree.{Tree, node, top, slots, times, Hangs, Meets}
use Rattle.tree_rules.specs.Rules.{levelled}
use Rattle.tree_rules.proofs.Rank.{Rank, home, up, rank_up}
use Rattle.tree_rules.proofs.Reaching.{length_node, solid, rooted_most}
use Rattle.tree_rules.proofs.Levelling.{levels, walk_levels}
use Rattle.tree_rules.proofs.Counting.{times-around}
use Rattle.index_rules.specs.Live.{Live, Fit, root_of}
use Rattle.index_rules.specs.Sound.{T3}
use Rattle.index_rules.proofs.Rules.{small, ends}
use Rattle.night_rules.specs.Shows.{Used, black_at, Down, Shows6, side_word, Descends, at, OnByLefts, goes, ShownWay}
use Rattle.night_rules.specs.Why.{tilted, shows6, one_if_black, blacks_above, word_of_side, way_on, way_by}
use Rattle.night_rules.proofs.Parts.{PartBelow, part_of, used_member, some_length, limb, limb_hangs, limb_length}
use Rattle.night_rules.proofs.Levels.{Tilted, shown_tilted, tilted_shown, down_meets}
use Rattle.night_rules.proofs.Testing.{Decides, eq_tests, neg_tests, and_tests, used_tests}
use Rattle.night_rules.proofs.Seated.{top_above, has_top}
use Rattle.night_rules.specs.Account.{WayDown}

-- What the ways count is a black slot.
one_black : (cells : List ℕ) (i : ℕ) → one_if_black cells i ≡ black_at cells i
unfolding one_if_black
one_black cells i = go (ℕ_discrete (cell cells i state) (code black))
  where
    go : Dec (cell cells i state ≡ code black) → one_if_black cells i ≡ black_at cells i
    go (yes e) = rw (eq-eqb (cell cells i state) (code black) e)
    go (no d) = rw (ne_eqb (cell cells i state) (code black) d)

side_word_lem : (σ : Side) → word_of_side σ ≡ side_word σ
side_word_lem leftward = refl
side_word_lem rightward = refl

module _ (n : ℕ) (cells : List ℕ) (small : n ≤ null) (over : cell cells null parent ≡ null) where
  above_null : (b : ℕ) {i : ℕ} → i ≡ null → blacks_above b cells i ≡ 0
  unfolding blacks_above
  above_null zero e = refl
  above_null (suc b) {i} e = let z : cell cells i parent ≡ null = ap (λ (k : ℕ). cell cells k parent) e ∙ over in pick_eq 0 _ z

  above_stable : {i d : ℕ} (b c : ℕ) → Rank cells parent i d → d ≤ b → d ≤ c → blacks_above b cells i ≡ blacks_above c cells i
  unfolding blacks_above
  above_stable b c (home e) x y = above_null b e ∙ sym (above_null c e)
  above_stable zero c (up m r) x y = absurd (omega arith)
  above_stable (suc b) zero (up m r) x y = absurd (omega arith)
  above_stable (suc b) (suc c) (up {k} m r) x y = rw (above_stable b c r (omega arith) (omega arith))

  -- A slot has above it what its parent has, and the parent.
  above_step : {i : ℕ} (b x : ℕ) → cell cells x parent ≡ i → i ≢ null
      → blacks_above (suc b) cells x ≡ blacks_above b cells i + one_if_black cells i
  unfolding blacks_above
  above_step {i} b x e m = rw (e, ne_eqb i null m) (omega arith)

  pub above_child : {i d : ℕ} (b x : ℕ) → cell cells x parent ≡ i → i ≢ null → Rank cells parent i d → suc d ≤ b
      → blacks_above b cells x ≡ blacks_above b cells i + black_at cells i
  above_child zero x e m rk h = absurd (omega arith)
  above_child {i} (suc b) x e m rk h =
      above_step b x e m ∙ omega (arith, one_black cells i, above_stable b (suc b) rk (omega arith) (omega arith))

  record Reached (k x : ℕ) : Type 0 where
    met : ℕ
    descends : Descends cells k x met
    sum : blacks_above n cells k ≡ blacks_above n cells x + met

  reach : {q d : ℕ} {t : Tree} (k : ℕ) → Hangs n cells q t → Rank cells parent q d → d + length (slots t) ≤ n → 1 ≤ times k (slots t)
      → Reached k (top t)
  unfolding slots times
  reach k Hangs.none rk h z = absurd (omega arith)
  reach {q} {d} k (Hangs.some {c = c} {l} {i} {r} w a b) rk h z =
      times-around k (slots l) i (slots r) z
      (λ y. down leftward w.lefts (top_above n cells small a (has_top n cells small k a y))
      (omega (arith, long, some_length k (slots l) y))
      (reach k a ranked (omega (arith, long)) y))
      (λ e. record { met = 0; descends = at (sym e); sum = rw e (omega arith) })
      (λ y. down rightward w.rights (top_above n cells small b (has_top n cells small k b y))
      (omega (arith, long, some_length k (slots r) y))
      (reach k b ranked (omega (arith, long)) y))
    where
      long : length (slots (node c l i r)) ≡ length (slots l) + suc (length (slots r))
      long = length_node c l i r

      ranked : Rank cells parent i (suc d)
      ranked = rank_up (solid small w.inside) w.above rk

      down : (σ : Side) {x : ℕ} → cell cells i (toward σ) ≡ x → cell cells x parent ≡ i → suc (suc d) ≤ n → Reached k x → Reached k i
      down σ {x} e f room h =
          let v : Descends cells k (cell cells i (toward σ)) h.met = rw e h.descends in
          record {
            met = black_at cells i + h.met;
            descends = Descends.by σ (solid small w.inside) v;
            sum = omega (arith, h.sum, above_child n x f (solid small w.inside) ranked room);
          }

  record Ending (p : ℕ) (σ : Side) (k : ℕ) (w : WayDown) : Type 0 where
    below : ℕ
    ending : Side
    lefts : OnByLefts cells p σ w.last ending below
    side : w.side ≡ side_word ending
    blacks : w.blacks ≡ k + below

  stop : {p : ℕ} {σ : Side} (k : ℕ) → cell cells p (toward σ) ≡ null → Ending p σ k (record { last = p; side = word_of_side σ; blacks = k })
  stop {p} {σ} k e = record { below = 0; ending = σ; lefts = OnByLefts.ends e; side = side_word_lem σ; blacks = omega arith }

  further : {p i : ℕ} {σ : Side} {k m : ℕ} {w : WayDown} → cell cells p (toward σ) ≡ i → i ≢ null → Ending i leftward m w
      → m ≡ k + black_at cells i → Ending p σ k w
  further {p} {i} {σ} {k} {m} {w} e d h met =
      let v : OnByLefts cells (cell cells p (toward σ)) leftward w.last h.ending h.below = rw e h.lefts in
      record {
        below = black_at cells (cell cells p (toward σ)) + h.below;
        ending = h.ending;
        lefts = OnByLefts.goes (λ z. d (sym e ∙ z)) v;
        side = h.side;
        blacks = omega (arith, h.blacks, ap (black_at cells) e);
      }

  way_ending : (b p : ℕ) (σ : Side) (k : ℕ) {t : Tree} → Hangs n cells p t → cell cells p (toward σ) ≡ top t → length (slots t) ≤ b
      → Ending p σ k (way_on b cells p σ k)
  unfolding way_on slots
  way_ending zero p σ k Hangs.none e h = stop k e
  way_ending (suc b) p σ k Hangs.none e h = rw (eq-eqb (cell cells p (toward σ)) null e) (stop k e)
  way_ending zero p σ k (Hangs.some {c = c} {l} {i} {r} w x y) e h = absurd (omega (arith, length_node c l i r))
  way_ending (suc b) p σ k (Hangs.some {c = c} {l} {i} {r} w x y) e h =
      let d : cell cells p (toward σ) ≢ null = λ z. solid small w.inside (sym e ∙ z) in
      rw (ne_eqb (cell cells p (toward σ)) null d, e)
      (further e (solid small w.inside) (way_ending b i leftward _ x w.lefts (omega (arith, length_node c l i r)))
      (omega (arith, one_black cells i)))

root_none : (cells : List ℕ) (b i : ℕ) → cell cells i parent ≡ null → blacks_above b cells i ≡ 0
unfolding blacks_above
root_none cells zero i e = refl
root_none cells (suc b) i e = pick_eq 0 _ e

-- A shown way is a way down.
lefts_down : {cells : List ℕ} {p last k : ℕ} {σ τ : Side} → OnByLefts cells p σ last τ k → Down cells (cell cells p (toward σ)) k
lefts_down (OnByLefts.ends e) = Down.end e
lefts_down (goes d l) = Down.by leftward d (lefts_down l)

descends_down : {cells : List ℕ} {s i v k : ℕ} → Descends cells s i v → Down cells s k → Down cells i (v + k)
descends_down {cells} {s} {i} {v} {k} (at e) h = let z : 0 + k ≡ k = omega arith in rw (e, z) h
descends_down {cells} {s} {i} {v} {k} (Descends.by {k = m} σ d r) h =
    let z : black_at cells i + m + k ≡ black_at cells i + (m + k) = omega arith in rw z (Down.by σ d (descends_down r h))

module _ {t : Live} (fit : Fit t) {tree : Tree} (three : T3 t tree) where
  abbrev n : ℕ
  n = slots_of t.names

  most : length (slots tree) ≤ n
  most = rooted_most n t.cells (small fit) (root_of t) three.rooted

  tilted_tests : (x y : Value) (l r : Tree) → levels l ≡ x → levels r ≡ y → Decides (tilted x y) (Tilted l r)
  tilted_tests none y l r e f = (λ z. absurd (false≢true z), λ h. absurd (none_some (sym e ∙ h.first)))
  tilted_tests (some a) none l r e f = (λ z. absurd (false≢true z), λ h. absurd (none_some (sym f ∙ h.second)))
  tilted_tests (some a) (some b) l r e f =
      let h = neg_tests (eq_tests a b) in (
        λ z. record { one = a; two = b; first = e; second = f; differ = h.0 z },
        λ g. h.1 (λ z. g.differ (some_is (sym g.first ∙ e) ∙ z ∙ sym (some_is (sym g.second ∙ f)))),
      )

  pub six_tests : (i : ℕ) → i < n → Decides (shows6 t i) (Shows6 t i)
  unfolding shows6
  six_tests i l = go (ℕ_discrete (cell t.cells i state) free)
    where
      go : Dec (cell t.cells i state ≡ free) → Decides (shows6 t i) (Shows6 t i)
      go (yes e) = (λ z. absurd (false≢true (rw (eq-eqb (cell t.cells i state) free e) at z)), λ s. absurd (s.used.busy e))
      go (no d) = (λ z. tilted_shown fit three b u (h.0 z).1, λ s. h.1 (d, shown_tilted fit three b s))
        where
          u : Used t i
          u = record { inside = l; busy = d }

          b : PartBelow n t.cells tree i
          b = part_of three u

          level : (σ : Side) → levels (limb b σ) ≡ levelled n t.cells (cell t.cells i (toward σ))
          level σ =
              rw (limb_hangs b σ).0
              (sym (walk_levels n t.cells (small fit) n (limb_hangs b σ).1 (omega (arith, limb_length b σ, most))))

          h : Decides (shows6 t i) ((cell t.cells i state ≢ free) × Tilted b.lefts b.rights)
          h = and_tests (used_tests t i) (tilted_tests _ _ b.lefts b.rights (level leftward) (level rightward))

  pub over : cell t.cells null parent ≡ null
  over = cell-null t.cells parent (ends fit)

  -- The way that the model follows ends so, with the black slots met up to i.
  ending_of : {i : ℕ} → Used t i → (σ : Side) (k : ℕ) → Ending n t.cells (small fit) over i σ k (way_on n t.cells i σ k)
  ending_of {i} u σ k =
      let b = part_of three u in
      way_ending n t.cells (small fit) over n i σ k (limb_hangs b σ).1 (limb_hangs b σ).0 (omega (arith, limb_length b σ, most))

  none_above : {s : Tree} → Hangs n t.cells null s → blacks_above n t.cells (top s) ≡ 0
  none_above Hangs.none = above_null n t.cells (small fit) over n refl
  none_above (Hangs.some {i = i} w x y) = root_none t.cells n i w.above

  -- The model's way is one that is shown, and comes to the slot with the black slots above it.
  pub shown_way : {i : ℕ} → Used t i → (σ : Side) → (s : ShownWay t i σ (way_by t i σ)) × (s.above ≡ blacks_above n t.cells i)
  unfolding way_by
  shown_way {i} u σ =
      let r = reach n t.cells (small fit) over i three.rooted.hangs (home refl) (omega (arith, most)) (used_member three u) in
      let m : r.met ≡ blacks_above n t.cells i = omega (arith, r.sum, none_above three.rooted.hangs) in
      let e = ending_of u σ _ in
      let s : ShownWay t i σ (way_by t i σ) =
      record {
        above = r.met;
        descends = rw three.rooted.from r.descends;
        below = e.below;
        ending = e.ending;
        lefts = e.lefts;
        side = e.side;
        blacks = omega (arith, e.blacks, m, one_black t.cells i);
      } in (s, m)

  pub way_meets : {i : ℕ} {σ : Side} {w : WayDown} → Used t i → ShownWay t i σ w → Meets tree w.blacks
  way_meets {i} {σ} {w} u h =
      let d : Down t.cells i (black_at t.cells i + h.below) =
      Down.by σ (solid (small fit) u.inside) (lefts_down h.lefts) in
      rw h.blacks (down_meets n t.cells (small fit) three.rooted.hangs three.rooted.from (descends_down h.descends d))

  -- Two ways by a slot that shows T6, one by each link, that come to it with equally many: they differ below it.
  pub ways_differ : {i : ℕ} → Shows6 t i → {w v : WayDown} (x : ShownWay t i leftward w) (y : ShownWay t i rightward v)
      → x.above ≡ y.above → w.blacks ≢ v.blacks
  ways_differ {i} h x y same e =
      h.differ x.below y.below (lefts_down x.lefts) (lefts_down y.lefts) (omega (arith, x.blacks, y.blacks))
