-- There is one true reason: the first broken rule, its lowest slot, and what is told with it are determined.
use mathlib.Core.Path.{◌≡◌, refl, ap, sym, ◌∙◌}
use mathlib.Core.Logic.{◌≢◌}
use mathlib.Core.List.{List}
use Prim.Native.Nat.{ℕ, suc, ◌+◌}
use native.Mathlib.Decide.{ℕ_discrete}
use native.Mathlib.Omega.{arith}
use Rattle.slots.specs.Words.{null, parent, cell, Side, leftward, rightward, toward}
use Rattle.tree_rules.specs.Find.{slots_of}
use Rattle.tree_rules.specs.Tree.{Tree}
use Rattle.tree_rules.proofs.Rank.{Rank, home, rank_up}
use Rattle.tree_rules.proofs.Reaching.{solid, rooted_unique}
use Rattle.index_rules.specs.Live.{Live, Fit, root_of}
use Rattle.index_rules.specs.Sound.{T1, T3, Sound}
use Rattle.index_rules.proofs.Rules.{small, rule_one, rule_two, rule_three, rule_four, rule_five, rule_six, rule_seven}
use Rattle.index_rules.proofs.Weighing.{rule_eight}
use Rattle.night_rules.specs.Shows.{Used, Shows3, black_at, side_word, Descends, at, OnByLefts}
use Rattle.night_rules.specs.Shows.{ends, goes, ShownWay}
use Rattle.night_rules.specs.Shows.{Shows1, Shows4, Shows5, Shows6, Shows7, Shows8}
use Rattle.night_rules.specs.Why.{shows1, shows3, shows4, shows5, shows6, shows7, shows8, blacks_above, why}
use Rattle.night_rules.specs.Reason.{Reason}
use Rattle.night_rules.proofs.Leading.{InSteps, stay, step, rank_steps, leads_steps, steps_most}
use Rattle.night_rules.proofs.Slots
use Rattle.night_rules.proofs.Standing.{Sits, none_sits, parent-used, child_used, root_used}
use Rattle.night_rules.proofs.Seated.{three_none}
use Rattle.night_rules.proofs.Ways
use Rattle.night_rules.proofs.Testing.{one_tests, three_tests, seven_tests}
use Rattle.night_rules.proofs.Ordering.{four_tests, four_inside, next-is}
use Rattle.night_rules.proofs.Colours.{five_tests}
use Rattle.night_rules.proofs.Sizes.{eight_tests}
use Rattle.night_rules.proofs.Telling.{off, lowest_is, lowest_none, inside5, inside8}
use Rattle.night_rules.specs.Account.{WayDown, Account, tells_ways}

-- The way by left links is determined.
lefts_one : {cells : List ℕ} {p x y k m : ℕ} {σ τ υ : Side} → OnByLefts cells p σ x τ k → OnByLefts cells p σ y υ m
    → (x ≡ y) × ((τ ≡ υ) × (k ≡ m))
lefts_one (ends e) (ends f) = (refl, (refl, refl))
lefts_one (ends e) (goes d l) = absurd (d e)
lefts_one (goes d l) (ends e) = absurd (d e)
lefts_one {cells} {p} {σ = σ} (goes d l) (goes f r) =
    let h = lefts_one l r in (h.0, (h.1.0, ap (λ (z : ℕ). black_at cells (cell cells p (toward σ)) + z) h.1.1))

null_descends : {cells : List ℕ} {s x v : ℕ} → Descends cells s x v → x ≡ null → s ≢ null → ⊥
null_descends (at e) z d = d (sym e ∙ z)
null_descends (Descends.by σ m r) z d = m z

module _ {t : Live} (fit : Fit t) (one : T1 t) {tree : Tree} (three : T3 t tree) where
  abbrev n : ℕ
  n = slots_of t.names

  sits : Sits t
  sits = none_sits fit one (three_none fit three)

  -- From a used slot the parents lead to null, over the root.
  ranked : {i d : ℕ} → Used t i → InSteps t.cells parent (root_of t) i d → (e : ℕ) × Rank t.cells parent i e
  ranked {i} u (stay e) = (1, rank_up (solid (small fit) u.inside) (sits.rootless i u e) (home refl))
  ranked {i} u (step m r) =
      let h = ranked (parent-used fit one sits u m) r in (suc h.0, rank_up (solid (small fit) u.inside) refl h.1)

  descends_sum : {s i v : ℕ} → Used t i → Used t s → Descends t.cells s i v
      → blacks_above n t.cells s ≡ blacks_above n t.cells i + v
  descends_sum u w (at e) = omega (arith, ap (blacks_above n t.cells) e)
  descends_sum {s = s} u w (Descends.by {i} {k} σ d r) =
      go (ℕ_discrete (cell t.cells i (toward σ)) null) (λ m. descends_sum (child_used fit one sits σ u m) w r)
    where
      go : Dec (cell t.cells i (toward σ) ≡ null)
          → (cell t.cells i (toward σ) ≢ null
          → blacks_above n t.cells s ≡ blacks_above n t.cells (cell t.cells i (toward σ)) + k)
          → blacks_above n t.cells s ≡ blacks_above n t.cells i + (black_at t.cells i + k)
      go (yes e) again = absurd (null_descends r e (solid (small fit) w.inside))
      go (no m) again =
          let h = ranked u (leads_steps (sits.leads i u)).1 in
          let c = child_used fit one sits σ u m in
          let b = sits.back i u σ m in
          let l = steps_most n t.cells parent null (small fit) (Slots.parents fit one).named (Slots.no_cell fit one parent) c.inside
          (rank_steps (rank_up (solid (small fit) c.inside) b h.1)) in
          omega (
            arith,
            again m,
            Ways.above_child n t.cells (small fit) (Ways.over fit three) n (cell t.cells i (toward σ)) b
                (solid (small fit) u.inside) h.1 l,
          )

  shown_one : {s : ℕ} {σ : Side} {w v : WayDown} → Used t s → ShownWay t s σ w → ShownWay t s σ v → w ≡ v
  shown_one {s} {σ} {w} {v} u x y =
      let h = lefts_one x.lefts y.lefts in
      let r = root_used fit one sits u (leads_steps (sits.leads s u)).1 in
      let e : w.last ≡ v.last = h.0 in
      let f : w.side ≡ v.side = x.side ∙ ap side_word h.1.0 ∙ sym y.side in
      let g : w.blacks ≡ v.blacks =
      omega (arith, x.blacks, y.blacks, h.1.1, descends_sum r u x.descends, descends_sum r u y.descends) in
      λ i. record { last = e i; side = f i; blacks = g i }

module _ {t : Live} (fit : Fit t) where
  pub only : {w : Account} → Reason t w → w ≡ why t
  unfolding why
  only (Reason.one b l) =
      rw (off (rule_one t) b, lowest_is t (shows1 t) (Shows1 t) (one_tests t) (λ i s. s.inside) l)
  only (Reason.one_header b none h) =
      rw (off (rule_one t) b, lowest_none t (shows1 t) (Shows1 t) (one_tests t) (λ i s. s.inside) none)
  only (Reason.two_header one b) = rw ((rule_one t).1 one, off (rule_two t) b)
  only (Reason.three one two b l) =
      rw (
        (rule_one t).1 one,
        (rule_two t).1 two,
        off (rule_three fit one) (λ h. b h.0 h.1),
        lowest_is t (shows3 t) (Shows3 t) (three_tests fit one) (λ i s. s.used.inside) l,
      )
  only (Reason.four {tree} {i} {j} up b l m) =
      rw (
        (rule_one t).1 up.t1,
        (rule_two t).1 up.t2,
        (rule_three fit up.t1).1 (tree, up.t3),
        off (rule_four fit up.t1 up.t3) b,
        lowest_is t (shows4 t) (Shows4 t tree) (four_tests fit up.t3) (four_inside fit up.t3) l,
        next-is fit up.t3 m.next,
      )
  only (Reason.five {tree} {i} up four b l) =
      rw (
        (rule_one t).1 up.t1,
        (rule_two t).1 up.t2,
        (rule_three fit up.t1).1 (tree, up.t3),
        (rule_four fit up.t1 up.t3).1 four,
        off (rule_five fit up.t1 up.t3) b,
        lowest_is t (shows5 t) (Shows5 t) (five_tests t) inside5 l,
      )
  only (Reason.six {tree} {i} {w} {v} up four five b l x y mw mv d) =
      rw (
        (rule_one t).1 up.t1,
        (rule_two t).1 up.t2,
        (rule_three fit up.t1).1 (tree, up.t3),
        (rule_four fit up.t1 up.t3).1 four,
        (rule_five fit up.t1 up.t3).1 five,
        off (rule_six fit up.t1 up.t3) b,
        lowest_is t (shows6 t) (Shows6 t) (Ways.six_tests fit up.t3) (λ i s. s.used.inside) l,
      )
      (let u = l.shows.used in
      let p = shown_one fit up.t1 up.t3 u x (Ways.shown_way fit up.t3 u leftward).0 in
      let q = shown_one fit up.t1 up.t3 u y (Ways.shown_way fit up.t3 u rightward).0 in λ k. tells_ways i (p k) (q k))
  only (Reason.seven {tree} {i} up b l) =
      rw (
        (rule_one t).1 up.before.t1,
        (rule_two t).1 up.before.t2,
        (rule_three fit up.before.t1).1 (tree, up.before.t3),
        (rule_four fit up.before.t1 up.before.t3).1 up.t4,
        (rule_five fit up.before.t1 up.before.t3).1 up.t5,
        (rule_six fit up.before.t1 up.before.t3).1 up.t6,
        off (rule_seven fit up.before.t1) (λ h. b h.0 h.1),
        lowest_is t (shows7 t) (Shows7 t) (seven_tests fit up.before.t1) (λ i s. s.used.inside) l,
      )
  only (Reason.eight {tree} {i} chain up seven b l) =
      rw (
        (rule_one t).1 up.before.t1,
        (rule_two t).1 up.before.t2,
        (rule_three fit up.before.t1).1 (tree, up.before.t3),
        (rule_four fit up.before.t1 up.before.t3).1 up.t4,
        (rule_five fit up.before.t1 up.before.t3).1 up.t5,
        (rule_six fit up.before.t1 up.before.t3).1 up.t6,
        (rule_seven fit up.before.t1).1 (chain, seven),
        off (rule_eight fit up.before.t1 up.before.t3) b,
        lowest_is t (shows8 t) (Shows8 t tree) (eight_tests fit up.before.t1 up.before.t3) inside8 l,
      )

  -- A true reason is not told of a sound tree, and has a number.
  same_tree : {a b : Tree} → T3 t a → T3 t b → a ≡ b
  same_tree x y = rooted_unique (slots_of t.names) t.cells (small fit) (root_of t) x.rooted y.rooted

  pub unsound : {w : Account} → Reason t w → Sound t → ⊥
  unsound (Reason.one b l) s = b s.t1
  unsound (Reason.one_header b none h) s = b s.t1
  unsound (Reason.two_header one b) s = b s.t2
  unsound (Reason.three one two b l) s = b s.tree s.t3
  unsound (Reason.four up b l m) s = b (rw (same_tree s.t3 up.t3) at s.t4)
  unsound (Reason.five up four b l) s = b (rw (same_tree s.t3 up.t3) at s.t5)
  unsound (Reason.six up four five b l x y mw mv d) s = b (rw (same_tree s.t3 up.t3) at s.t6)
  unsound (Reason.seven up b l) s = b s.chain s.t7
  unsound (Reason.eight chain up seven b l) s = b (rw (same_tree s.t3 up.before.t3) at s.t8)

  pub numbered : {w : Account} → Reason t w → w.rule ≢ 0
  numbered (Reason.one b l) e = omega arith
  numbered (Reason.one_header b none h) e = omega arith
  numbered (Reason.two_header one b) e = omega arith
  numbered (Reason.three one two b l) e = omega arith
  numbered (Reason.four up b l m) e = omega arith
  numbered (Reason.five up four b l) e = omega arith
  numbered (Reason.six up four five b l x y mw mv d) e = omega arith
  numbered (Reason.seven up b l) e = omega arith
  numbered (Reason.eight chain up seven b l) e = omega arith
