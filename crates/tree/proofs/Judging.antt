-- T3 to T6 and T8 asked together of what hangs from a link: what each way out of one visit comes to.
-- Parts: the parts on the left and on the right of a slot, joined; the ways out of a visit by the tests of the slot itself; what obeys the
-- rules hands back no more visits; the ways out by the two parts; both of them joined; the whole tree; the visits left.
use mathlib.Core.Path.{◌≡◌, refl, sym, ◌∙◌}
use mathlib.Core.Logic.{◌≢◌}
use mathlib.Core.Bool.{Bool, true, false}
use mathlib.Core.List.{List}
use Prim.Native.Nat.{ℕ, ◌+◌, ◌-◌, ◌<◌, ◌≤◌}
use native.Mathlib.Omega.{arith}
use lib.Dec.{eqb}
use Rattle.slots.specs.Words.{null, pick, state, left, right, cell}
use Rattle.slots.specs.Answers.{Value, none, some}
use Rattle.tree_rules.specs.Find.{slots_of}
use Rattle.tree_rules.specs.Rules.{then, is_some, stands, reached, follows, risen, all_calm, levelled, slots_below, rises, coloured, level}
use Rattle.tree_rules.specs.Rules.{all_sized, with_parts}
use Rattle.tree_rules.specs.Rules.{obeyed, obeyed_sized, is_calm}
use Rattle.tree_rules.specs.Sizes.{has_size}
use Rattle.tree_rules.proofs.Sizing.{obeyed_each, sized_both}
use Rattle.tree_rules.proofs.Visits.{reached_within, reached_fuel, reach_null, reach_outside, reach_spent, reach_wrong, reach_on}
use Rattle.tree.specs.Rules.{Verdict, obeys, breaks, together, joined, judged, deepest_of}
use Rattle.tree.proofs.Depth.{no_rise, no_calm, no_level, no_weight, deepest_enough}
use Rattle.tree.proofs.Weights.{weight_spent}
use Rattle.tree.proofs.Ruling.{rise_null, rise_zero, rise_on, calm_null, calm_on, level-null, level_on, level_bound, weigh_null}
use Rattle.tree.proofs.Ruling.{weigh_on}

-- What comes after a part, where it breaks no rule.
abbrev pub onward : Verdict → (ℕ → ℕ → ℕ → Verdict) → Verdict
onward (obeys rest last blacks) f = f rest last blacks
onward breaks f = breaks

-- The parts on the left and on the right of a slot, whose own rules hold: follow tells whether it rises from what was read last, has
-- whether its size is a number. The visits that the two parts took tell what they weigh.
module _ (follow : ℕ → Bool) (red : Bool) (has : ℕ → Bool) (visits : ℕ) where
  abbrev met : ℕ → ℕ → ℕ → ℕ → Verdict
  met a unspent end b = pick (eqb a b) (pick (has (visits - unspent)) (obeys unspent end (pick red a (a + 1))) breaks) breaks

  abbrev evened : ℕ → Value → Value
  evened a level = then level (λ b. pick (eqb a b) (some (pick red a (a + 1))) none)

  abbrev weighing : ℕ → Value → Value
  weighing x weight = then weight (λ y. pick (has (with_parts x y)) (some (with_parts x y)) none)

  join_right : (f : Bool) (reach rise : Value) (calm : Bool) (level weight : Value) (a x : ℕ)
      → ((u y : ℕ) → reach ≡ some u → weight ≡ some y → with_parts x y ≡ visits - u)
      → together reach (pick f rise none) calm (evened a level) (weighing x weight)
      ≡ pick f (onward (together reach rise calm level weight) (met a)) breaks
  join_right false reach rise calm level weight a x h = sym (no_rise reach calm (evened a level) (weighing x weight))
  join_right true none rise calm level weight a x h = refl
  join_right true (some u) none calm level weight a x h = refl
  join_right true (some u) (some end) false level weight a x h = refl
  join_right true (some u) (some end) true none weight a x h = refl
  join_right true (some u) (some end) true (some b) none a x h = sym (no_weight (some u) (some end) true (evened a (some b)))
  join_right true (some u) (some end) true (some b) (some y) a x h = rw (h u y refl refl) (go (eqb a b) (has (visits - u)))
    where
      go : (same fit : Bool)
          → together (some u) (some end) true (pick same (some (pick red a (a + 1))) none) (pick fit (some (visits - u)) none)
          ≡ pick same (pick fit (obeys u end (pick red a (a + 1))) breaks) breaks
      go true true = refl
      go true false = refl
      go false fit = refl

  join : (reach : Value) (rights within : ℕ → Value) → ((k : ℕ) → reach ≡ some k → rights k ≡ within k)
      → (rise rise2 : Value) (calm calm2 : Bool) (level level2 weight weight2 : Value)
      → ((k x : ℕ) → reach ≡ some k → weight ≡ some x → (u y : ℕ) → within k ≡ some u → weight2 ≡ some y → with_parts x y ≡ visits - u)
      → together (then reach rights) (then rise (λ k. pick (follow k) rise2 none)) (pick calm calm2 false)
      (then level (λ a. evened a level2))
      (then weight (λ x. weighing x weight2))
      ≡ onward (together reach rise calm level weight)
      (λ rest m a. pick (follow m) (onward (together (within rest) rise2 calm2 level2 weight2) (met a)) breaks)
  join none rights within h rise rise2 calm calm2 level level2 weight weight2 g = refl
  join (some k) rights within h none rise2 calm calm2 level level2 weight weight2 g =
      sym (no_rise (rights k) (pick calm calm2 false) (then level (λ a. evened a level2)) (then weight (λ x. weighing x weight2)))
  join (some k) rights within h (some m) rise2 false calm2 level level2 weight weight2 g =
      sym (no_calm (rights k) (pick (follow m) rise2 none) (then level (λ a. evened a level2)) (then weight (λ x. weighing x weight2)))
  join (some k) rights within h (some m) rise2 true calm2 none level2 weight weight2 g =
      sym (no_level (rights k) (pick (follow m) rise2 none) calm2 (then weight (λ x. weighing x weight2)))
  join (some k) rights within h (some m) rise2 true calm2 (some a) level2 none weight2 g =
      sym (no_weight (rights k) (pick (follow m) rise2 none) calm2 (evened a level2))
  join (some k) rights within h (some m) rise2 true calm2 (some a) level2 (some x) weight2 g =
      rw (h k refl) (join_right (follow m) (within k) rise2 calm2 level2 weight2 a x (g k x refl refl))

-- One visit: the link i under q, where `last` was read last.
module _ (names cells sizes : List ℕ) (q last i depth visits : ℕ) where
  pub walk_null : i ≡ null → obeys visits last 0 ≡ judged names cells sizes q last i depth visits
  walk_null e =
      rw (
        ← reach_null (slots_of names) cells q i visits e,
        ← rise_null names cells last i depth e,
        ← calm_null cells i depth e,
        ← level-null cells i depth e,
        ← weigh_null cells sizes i depth e,
      )

  pub walk_outside : i ≢ null → slots_of names ≤ i → breaks ≡ judged names cells sizes q last i depth visits
  walk_outside d h = rw (← reach_outside (slots_of names) cells q i visits d h)

  pub walk_spent : i ≢ null → visits ≡ 0 → breaks ≡ judged names cells sizes q last i depth visits
  walk_spent d e = rw (← reach_spent (slots_of names) cells q i visits d e)

  pub walk_deep : i ≢ null → depth ≡ 0 → breaks ≡ judged names cells sizes q last i depth visits
  walk_deep d e =
      rw (← rise_zero names cells last i depth d e)
      (no_rise (reached visits (slots_of names) cells q i visits) (all_calm depth cells i) (levelled depth cells i)
      (slots_below depth cells sizes i))

  module _ (d : i ≢ null) (l : i < slots_of names) (w : visits ≢ 0) (z : depth ≢ 0) where
    pub walk_wrong : {stand : Bool} → stand ≡ stands cells q i → stand ≡ false → breaks ≡ judged names cells sizes q last i depth visits
    walk_wrong s e = rw (← reach_wrong (slots_of names) cells q i visits d l w s e)

    pub walk_loud : {quiet : Bool} → quiet ≡ is_calm cells i → quiet ≡ false → breaks ≡ judged names cells sizes q last i depth visits
    walk_loud c e =
        rw (calm_on cells i depth d z, ← c, e)
        (no_calm (reached visits (slots_of names) cells q i visits) (risen depth names cells last i) (levelled depth cells i)
        (slots_below depth cells sizes i))

-- What obeys the rules hands back no more visits than there were, and meets no more black slots than it goes deep.
broken : {rest last blacks : ℕ} → obeys rest last blacks ≡ breaks → ⊥
broken e = let z : ◌≡◌ {A = ℕ} 0 1 = cc in omega arith

parts_of : (reach rise : Value) (calm : Bool) (level weight : Value) {rest last blacks : ℕ}
    → obeys rest last blacks ≡ together reach rise calm level weight
    → (reach ≡ some rest) × (level ≡ some blacks)
parts_of none rise calm level weight e = absurd (broken e)
parts_of (some v) none calm level weight e = absurd (broken e)
parts_of (some v) (some m) false level weight e = absurd (broken e)
parts_of (some v) (some m) true none weight e = absurd (broken e)
parts_of (some v) (some m) true (some k) none e = absurd (broken e)
parts_of (some v) (some m) true (some k) (some x) e = (cc, cc)

module _ (names cells sizes : List ℕ) (q last i depth visits : ℕ) {rest end a : ℕ}
    (e : obeys rest end a ≡ judged names cells sizes q last i depth visits) where
  parts : (reached visits (slots_of names) cells q i visits ≡ some rest) × (levelled depth cells i ≡ some a)
  parts =
      parts_of (reached visits (slots_of names) cells q i visits) (risen depth names cells last i) (all_calm depth cells i)
      (levelled depth cells i)
      (slots_below depth cells sizes i) e

  pub walk_blacks : a ≤ depth
  walk_blacks = level_bound cells depth i _ parts.1

  pub walk_within : rest ≤ visits
  walk_within = reached_within (slots_of names) cells visits q i visits rest parts.0

-- Both parts of a slot obey the rules: what is left to ask is whether they meet as many black slots, and the slot's size.
pub record BothParts (names cells sizes : List ℕ) (q last i depth visits : ℕ) : Type 0 where
  pub rest : ℕ
  pub unspent : ℕ
  pub end : ℕ
  pub lefts : ℕ
  pub rights : ℕ
  pub on : judged names cells sizes q last i depth visits
      ≡ joined cells sizes i visits lefts unspent end rights
  pub first : rest ≤ visits - 1
  pub second : unspent ≤ rest
  pub shallow : lefts ≤ depth - 1

-- A visit that has passed the tests of the slot itself.
pub record Visit (names cells : List ℕ) (q i depth visits : ℕ) : Type 0 where
  pub slot : i ≢ null
  pub inside : i < slots_of names
  pub visited : visits ≢ 0
  pub deep : depth ≢ 0
  pub upright : stands cells q i ≡ true
  pub calm : is_calm cells i ≡ true

module _ (names cells sizes : List ℕ) (q last i depth visits : ℕ) (v : Visit names cells q i depth visits) where
  abbrev pub whole : Verdict
  whole = judged names cells sizes q last i depth visits

  pub walk_on : whole
      ≡ onward (judged names cells sizes i last (cell cells i left) (depth - 1) (visits - 1))
      (λ rest m a. pick (follows names m i)
      (onward (judged names cells sizes i i (cell cells i right) (depth - 1) rest)
      (joined cells sizes i visits a))
      breaks)
  unfolding with_parts
  walk_on =
      rw (
        reach_on (slots_of names) cells q i visits v.slot v.inside v.visited (sym v.upright) refl,
        rise_on names cells last i depth v.slot v.deep,
        calm_on cells i depth v.slot v.deep,
        v.calm,
        level_on cells i depth v.slot v.deep,
        weigh_on cells sizes i depth v.slot v.deep,
      )
      (join (λ k. follows names k i) (eqb (cell cells i state) 2) (has_size sizes i) visits
      (reached (visits - 1) (slots_of names) cells i (cell cells i left) (visits - 1))
      (λ rest. reached (visits - 1) (slots_of names) cells i (cell cells i right) rest)
      (λ rest. reached rest (slots_of names) cells i (cell cells i right) rest)
      (λ k h. reached_fuel (slots_of names) cells (visits - 1) k i (cell cells i right) k
      (reached_within (slots_of names) cells (visits - 1) i (cell cells i left) (visits - 1) k h) (omega arith))
      (risen (depth - 1) names cells last (cell cells i left))
      (risen (depth - 1) names cells i (cell cells i right))
      (all_calm (depth - 1) cells (cell cells i left))
      (all_calm (depth - 1) cells (cell cells i right))
      (levelled (depth - 1) cells (cell cells i left))
      (levelled (depth - 1) cells (cell cells i right))
      (slots_below (depth - 1) cells sizes (cell cells i left))
      (slots_below (depth - 1) cells sizes (cell cells i right))
      (λ k x r e u y o f. omega (
        arith,
        v.visited,
        weight_spent (slots_of names) cells sizes (depth - 1) (visits - 1) i (cell cells i left) (visits - 1) k x r e,
        weight_spent (slots_of names) cells sizes (depth - 1) k i (cell cells i right) k u y o f,
      )))

  -- t is the link to its left.
  module _ {t : ℕ} (p : t ≡ cell cells i left) where
    pub walk_left_breaks : breaks ≡ judged names cells sizes i last t (depth - 1) (visits - 1) → breaks ≡ whole
    walk_left_breaks h = sym (walk_on ∙ rw (← p, ← h))

    module _ {rest m a : ℕ} (h : obeys rest m a ≡ judged names cells sizes i last t (depth - 1) (visits - 1)) {rising : Bool}
        (g : rising ≡ follows names m i) where
      pub walk_falls : rising ≡ false → breaks ≡ whole
      walk_falls k = sym (walk_on ∙ rw (← p, ← h, ← g, k))

      -- r is the link to the right.
      module _ (k : rising ≡ true) {r : ℕ} (o : r ≡ cell cells i right) where
        pub walk_right_breaks : breaks ≡ judged names cells sizes i i r (depth - 1) rest → breaks ≡ whole
        walk_right_breaks y = sym (walk_on ∙ rw (← p, ← h, ← g, k, ← o, ← y))

        abbrev pub both_parts : {unspent end b : ℕ} → obeys unspent end b ≡ judged names cells sizes i i r (depth - 1) rest
            → BothParts names cells sizes q last i depth visits
        both_parts {unspent} {end} {b} y =
            record {
              rest = rest;
              unspent = unspent;
              end = end;
              lefts = a;
              rights = b;
              on = walk_on ∙ rw (← p, ← h, ← g, k, ← o, ← y);
              first = walk_within names cells sizes i last t (depth - 1) (visits - 1) h;
              second = walk_within names cells sizes i i r (depth - 1) rest y;
              shallow = walk_blacks names cells sizes i last t (depth - 1) (visits - 1) h;
            }

-- What they come to joined is what hangs from the link.
pub walk_joined : {names cells sizes : List ℕ} {q last i depth visits : ℕ} (w : BothParts names cells sizes q last i depth visits)
    → {o : Verdict} → o ≡ joined cells sizes i visits w.lefts w.unspent w.end w.rights → o ≡ judged names cells sizes q last i depth visits
walk_joined w e = e ∙ sym w.on

-- The whole tree.
abbrev pub rest_left : Verdict → Value
rest_left (obeys rest last blacks) = some rest
rest_left breaks = none

-- What the four rules come to, where T8 is asked too.
asked : (reach rise : Value) (calm : Bool) (level weight : Value)
    → rest_left (together reach rise calm level weight)
    ≡ pick (is_some weight) (then reach (λ rest. pick (is_some rise) (pick calm (pick (is_some level) (some rest) none) none) none)) none
asked none rise calm level none = refl
asked none rise calm level (some all) = refl
asked (some rest) none calm level none = refl
asked (some rest) none calm level (some all) = refl
asked (some rest) (some last) false level none = refl
asked (some rest) (some last) false level (some all) = refl
asked (some rest) (some last) true none none = refl
asked (some rest) (some last) true none (some all) = refl
asked (some rest) (some last) true (some blacks) none = refl
asked (some rest) (some last) true (some blacks) (some all) = refl

unasked : (weight : Bool) (reach : Value) (rises : Bool) (level : Value)
    → none ≡ pick weight (then reach (λ rest. pick rises (pick false level none) none)) none
unasked false reach rises level = refl
unasked true none rises level = refl
unasked true (some rest) true level = refl
unasked true (some rest) false level = refl

module _ (names cells sizes : List ℕ) (root visits : ℕ) where
  pub red_root_lem : {red : Bool} → red ≡ eqb (cell cells root state) 2 → red ≡ true → none ≡ obeyed_sized names cells sizes root visits
  unfolding obeyed_sized obeyed coloured
  red_root_lem x e =
      rw (← x, e)
      (unasked (all_sized (slots_of names) cells sizes root) (reached visits (slots_of names) cells null root visits)
      (rises names cells root) none)

  pub black_root : {red : Bool} → red ≡ eqb (cell cells root state) 2 → red ≡ false → visits < 18446744073709551616 → {depth : ℕ}
      → depth ≡ deepest_of (slots_of names)
      → rest_left (judged names cells sizes null null root depth visits) ≡ obeyed_sized names cells sizes root visits
  unfolding obeyed_sized obeyed rises coloured level all_sized
  black_root x e few d =
      rw (deepest_enough names cells sizes root visits few (slots_of names) d, ← x, e)
      (asked
      (reached visits (slots_of names) cells null root visits)
      (risen (slots_of names) names cells null root)
      (all_calm (slots_of names) cells root)
      (levelled (slots_of names) cells root)
      (slots_below (slots_of names) cells sizes root))

-- No more visits are left than there were.
pub obeyed_within : (names cells : List ℕ) (root visits : ℕ) {rest : ℕ} → some rest ≡ obeyed names cells root visits → rest ≤ visits
obeyed_within names cells root visits {rest} e =
    reached_within (slots_of names) cells visits null root visits rest (obeyed_each names cells root visits rest (sym e)).reaches

pub sized_within : (names cells sizes : List ℕ) (root visits : ℕ) {rest : ℕ} → some rest ≡ obeyed_sized names cells sizes root visits
    → rest ≤ visits
sized_within names cells sizes root visits {rest} e =
    obeyed_within names cells root visits (sym (sized_both names cells sizes root visits rest (sym e)).1)
