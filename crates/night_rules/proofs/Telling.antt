-- What is told is a true reason, or that the tree is sound: the full check's tests say which rule is the first broken one, by completeness
-- some slot shows it, and the search finds the lowest.
use mathlib.Core.Path.{◌≡◌, refl, ap, sym, ◌∙◌}
use mathlib.Core.Logic.{◌⊎◌, inl, inr}
use mathlib.Core.List.{List}
use mathlib.Core.Bool.{Bool, true, false, false≢true}
use Prim.Native.Nat.{ℕ, zero, suc, ◌+◌, ◌<◌, ◌≤◌}
use native.Mathlib.Decide.{ℕ_discrete, dec_lt}
use native.Mathlib.Omega.{arith}
use Rattle.slots.specs.Words.{null, leftward, rightward}
use Rattle.tree_rules.specs.Find.{slots_of}
use Rattle.tree_rules.specs.Tree.{Tree}
use Rattle.index_rules.specs.Live.{Live, Fit}
use Rattle.index_rules.specs.Sound.{T1, T2, T3, T4, T5, T6, T7, T8, Sound}
use Rattle.index_rules.proofs.Rules.{rule_one, rule_two, rule_three, rule_four, rule_five, rule_six, rule_seven}
use Rattle.index_rules.proofs.Weighing.{rule_eight}
use Rattle.night_rules.specs.Shows.{Shows1, Shows3, OutOfOrder, Shows4, Shows5, red_root, red_child, Shows6, Shows7, Shows8}
use Rattle.night_rules.specs.Shows.{missized, sized_free}
use Rattle.night_rules.specs.Why.{shows1, shows3, shows4, shows5, shows6, shows7, shows8, next_in, lowest_with, lowest_slot, why}
use Rattle.night_rules.specs.Reason.{LowestWith, ThroughT3, ThroughT6, Reason}
use Rattle.night_rules.proofs.Testing.{Decides, dec_tests, one_tests, one_header_lem, three_tests, seven_tests}
use Rattle.night_rules.proofs.Standing.{three_complete}
use Rattle.night_rules.proofs.Ordering.{four_tests, four_complete, four_inside, next-is}
use Rattle.night_rules.proofs.Colours.{five_tests, five_complete}
use Rattle.night_rules.proofs.Levels.{six_complete}
use Rattle.night_rules.proofs.Ways.{six_tests, shown_way, way_meets, ways_differ}
use Rattle.night_rules.proofs.Chained.{seven_complete}
use Rattle.night_rules.proofs.Sizes.{eight_tests, eight_complete}
use Rattle.night_rules.specs.Account.{tells_slot, tells_sound}

-- What a search for the lowest comes to.
pub data Tried (f : ℕ → Bool) (i k : ℕ) : ℕ → Type 0 where
  found : {r : ℕ} → i ≤ r → r < i + k → f r ≡ true → ((j : ℕ) → i ≤ j → j < r → f j ≡ false) → Tried f i k r
  nowhere : ((j : ℕ) → i ≤ j → j < i + k → f j ≡ false) → Tried f i k null

pub tried : (f : ℕ → Bool) (k i : ℕ) → Tried f i k (lowest_with k f i)
unfolding lowest_with
tried f zero i = nowhere (λ j a b. absurd (omega arith))
tried f (suc k) i = go (f i) refl (tried f k (suc i))
  where
    from : f i ≡ false → (r : ℕ) → ((j : ℕ) → suc i ≤ j → j < r → f j ≡ false) → (j : ℕ) → i ≤ j → j < r → f j ≡ false
    from p r h j a b = at (ℕ_discrete j i)
      where
        at : Dec (j ≡ i) → f j ≡ false
        at (yes e) = ap f e ∙ p
        at (no d) = h j (omega arith) b

    on : f i ≡ false → {r : ℕ} → Tried f (suc i) k r → Tried f i (suc k) r
    on p {r} (found a b e h) = found {r = r} (omega arith) (omega arith) e (from p r h)
    on p (nowhere h) = nowhere (λ j a b. from p (i + suc k) (λ m x y. h m x (omega arith)) j a b)

    go : (b : Bool) → f i ≡ b → Tried f (suc i) k (lowest_with k f (suc i)) → Tried f i (suc k) (lowest_with (suc k) f i)
    go true p again = rw p (found {r = i} (omega arith) (omega arith) p (λ j a b. absurd (omega arith)))
    go false p again = rw p (on p again)

module _ (t : Live) (f : ℕ → Bool) (P : ℕ → Type 0) (tests : (i : ℕ) → i < slots_of t.names → Decides (f i) (P i))
    (inside : (i : ℕ) → P i → i < slots_of t.names) where
  lowest_or : LowestWith P (lowest_slot t f) ⊎ ((lowest_slot t f ≡ null) × ((i : ℕ) → P i → ⊥))
  lowest_or = go (lowest_slot t f) (tried f (slots_of t.names) 0)
    where
      not : (j : ℕ) → f j ≡ false → P j → ⊥
      not j e p = false≢true (sym e ∙ (tests j (inside j p)).1 p)

      go : (r : ℕ) → Tried f 0 (slots_of t.names) r → LowestWith P r ⊎ ((r ≡ null) × ((i : ℕ) → P i → ⊥))
      go r (found a b e h) =
          inl (record { shows = (tests r (omega arith)).0 e; lower = λ j l p. not j (h j (omega arith) l) p })
      go r (nowhere h) = inr (refl, λ i p. not i (h i (omega arith) (omega (arith, inside i p))) p)

  lowest_shows : (((i : ℕ) → P i → ⊥) → ⊥) → LowestWith P (lowest_slot t f)
  lowest_shows some = go lowest_or
    where
      go : LowestWith P (lowest_slot t f) ⊎ ((lowest_slot t f ≡ null) × ((i : ℕ) → P i → ⊥)) → LowestWith P (lowest_slot t f)
      go (inl h) = h
      go (inr h) = absurd (some h.1)

  -- The lowest is the one that the search finds.
  pub lowest_is : {i : ℕ} → LowestWith P i → lowest_slot t f ≡ i
  lowest_is {i} h = go lowest_or
    where
      go : LowestWith P (lowest_slot t f) ⊎ ((lowest_slot t f ≡ null) × ((i : ℕ) → P i → ⊥)) → lowest_slot t f ≡ i
      go (inl g) = tri (dec_lt (lowest_slot t f) i) (dec_lt i (lowest_slot t f))
        where
          tri : Dec (lowest_slot t f < i) → Dec (i < lowest_slot t f) → lowest_slot t f ≡ i
          tri (yes l) y = absurd (h.lower (lowest_slot t f) l g.shows)
          tri (no m) (yes l) = absurd (g.lower i l h.shows)
          tri (no m) (no l) = omega arith
      go (inr g) = absurd (g.1 i h.shows)

  pub lowest_none : ((i : ℕ) → P i → ⊥) → lowest_slot t f ≡ null
  lowest_none none = go lowest_or
    where
      go : LowestWith P (lowest_slot t f) ⊎ ((lowest_slot t f ≡ null) × ((i : ℕ) → P i → ⊥)) → lowest_slot t f ≡ null
      go (inl g) = absurd (none (lowest_slot t f) g.shows)
      go (inr g) = g.0

-- The test of what does not hold is false.
pub off : {b : Bool} {A : Type 0} → Decides b A → (A → ⊥) → b ≡ false
off {b = true} h d = absurd (d (h.0 refl))
off {b = false} h d = refl

pub inside5 : {t : Live} (i : ℕ) → Shows5 t i → i < slots_of t.names
inside5 i (red_root l e f) = l
inside5 i (red_child l σ e f) = l

pub inside8 : {t : Live} {tree : Tree} (i : ℕ) → Shows8 t tree i → i < slots_of t.names
inside8 i (missized u d) = u.inside
inside8 i (sized_free l e d) = l

-- Where a rule is the first broken one, what is told is its reason.
module _ {t : Live} (fit : Fit t) where
  told1 : (T1 t → ⊥) → Reason t (why t)
  unfolding why
  told1 broken = rw (off (rule_one t) broken) (go (lowest_or t (shows1 t) (Shows1 t) (one_tests t) (λ i s. s.inside)))
    where
      go : LowestWith (Shows1 t) (lowest_slot t (shows1 t)) ⊎ ((lowest_slot t (shows1 t) ≡ null) × ((i : ℕ) → Shows1 t i → ⊥))
          → Reason t (tells_slot 1 (lowest_slot t (shows1 t)))
      go (inl h) = Reason.one broken h
      go (inr h) = rw h.0 (Reason.one_header broken h.1 (one_header_lem h.1 broken))

  told2 : T1 t → (T2 t → ⊥) → Reason t (why t)
  unfolding why
  told2 one broken = simp ((rule_one t).1 one, off (rule_two t) broken) (Reason.two_header one broken)

  told3 : T1 t → T2 t → ((tree : Tree) × T3 t tree → ⊥) → Reason t (why t)
  unfolding why
  told3 one two broken =
      simp ((rule_one t).1 one, (rule_two t).1 two, off (rule_three fit one) broken)
      (Reason.three one two (λ tree h. broken (tree, h))
      (lowest_shows t (shows3 t) (Shows3 t) (three_tests fit one) (λ i s. s.used.inside)
      (λ none. broken (three_complete fit one two none))))

  module _ {tree : Tree} (up : ThroughT3 t tree) where
    told4 : (T4 t tree → ⊥) → Reason t (why t)
    unfolding why
    told4 broken =
        simp (
          (rule_one t).1 up.t1,
          (rule_two t).1 up.t2,
          (rule_three fit up.t1).1 (tree, up.t3),
          off (rule_four fit up.t1 up.t3) broken,
        )
        (let low = lowest_shows t (shows4 t) (Shows4 t tree) (four_tests fit up.t3) (four_inside fit up.t3)
        (λ none. broken (four_complete fit up.t3 none)) in
        let z : next_in t (lowest_slot t (shows4 t)) ≡ low.shows.other = next-is fit up.t3 low.shows.out.next in
        let m : OutOfOrder t tree (lowest_slot t (shows4 t)) (next_in t (lowest_slot t (shows4 t))) = rw z low.shows.out in
        Reason.four up broken low m)

    told5 : T4 t tree → (T5 tree → ⊥) → Reason t (why t)
    unfolding why
    told5 four broken =
        simp (
          (rule_one t).1 up.t1,
          (rule_two t).1 up.t2,
          (rule_three fit up.t1).1 (tree, up.t3),
          (rule_four fit up.t1 up.t3).1 four,
          off (rule_five fit up.t1 up.t3) broken,
        )
        (Reason.five up four broken
        (lowest_shows t (shows5 t) (Shows5 t) (five_tests t) inside5 (λ none. broken (five_complete fit up.t3 none))))

    told6 : T4 t tree → T5 tree → (T6 tree → ⊥) → Reason t (why t)
    unfolding why
    told6 four five broken =
        simp (
          (rule_one t).1 up.t1,
          (rule_two t).1 up.t2,
          (rule_three fit up.t1).1 (tree, up.t3),
          (rule_four fit up.t1 up.t3).1 four,
          (rule_five fit up.t1 up.t3).1 five,
          off (rule_six fit up.t1 up.t3) broken,
        )
        (let low = lowest_shows t (shows6 t) (Shows6 t) (six_tests fit up.t3) (λ i s. s.used.inside)
        (λ none. broken (six_complete fit up.t3 none)) in
        let u = low.shows.used in
        let w = shown_way fit up.t3 u leftward in
        let v = shown_way fit up.t3 u rightward in
        Reason.six up four five broken low w.0 v.0 (way_meets fit up.t3 u w.0) (way_meets fit up.t3 u v.0)
        (ways_differ fit up.t3 low.shows w.0 v.0 (w.1 ∙ sym v.1)))

  module _ {tree : Tree} (up : ThroughT6 t tree) where
    told7 : ((chain : List ℕ) × T7 t chain → ⊥) → Reason t (why t)
    unfolding why
    told7 broken =
        let h = up.before in
        simp (
          (rule_one t).1 h.t1,
          (rule_two t).1 h.t2,
          (rule_three fit h.t1).1 (tree, h.t3),
          (rule_four fit h.t1 h.t3).1 up.t4,
          (rule_five fit h.t1 h.t3).1 up.t5,
          (rule_six fit h.t1 h.t3).1 up.t6,
          off (rule_seven fit h.t1) broken,
        )
        (Reason.seven up (λ chain c. broken (chain, c))
        (lowest_shows t (shows7 t) (Shows7 t) (seven_tests fit h.t1) (λ i s. s.used.inside)
        (λ none. broken (seven_complete fit h.t1 h.t2 none))))

    told8 : (chain : List ℕ) → T7 t chain → (T8 t tree → ⊥) → Reason t (why t)
    unfolding why
    told8 chain seven broken =
        let h = up.before in
        simp (
          (rule_one t).1 h.t1,
          (rule_two t).1 h.t2,
          (rule_three fit h.t1).1 (tree, h.t3),
          (rule_four fit h.t1 h.t3).1 up.t4,
          (rule_five fit h.t1 h.t3).1 up.t5,
          (rule_six fit h.t1 h.t3).1 up.t6,
          (rule_seven fit h.t1).1 (chain, seven),
          off (rule_eight fit h.t1 h.t3) broken,
        )
        (Reason.eight chain up seven broken
        (lowest_shows t (shows8 t) (Shows8 t tree) (eight_tests fit h.t1 h.t3) inside8
        (λ none. broken (eight_complete fit h.t1 h.t3 none))))

  -- Of a sound tree nothing is told but that.
  pub told-sound : Sound t → why t ≡ tells_sound
  unfolding why
  told-sound h =
      simp (
        (rule_one t).1 h.t1,
        (rule_two t).1 h.t2,
        (rule_three fit h.t1).1 (h.tree, h.t3),
        (rule_four fit h.t1 h.t3).1 h.t4,
        (rule_five fit h.t1 h.t3).1 h.t5,
        (rule_six fit h.t1 h.t3).1 h.t6,
        (rule_seven fit h.t1).1 (h.chain, h.t7),
        (rule_eight fit h.t1 h.t3).1 h.t8,
      )

  -- One rule after the other is asked.
  pub sound_or : Sound t ⊎ Reason t (why t)
  sound_or = ask1 (dec_tests (rule_one t))
    where
      ask8 : {tree : Tree} → ThroughT6 t tree → (chain : List ℕ) → T7 t chain → Dec (T8 t tree) → Sound t ⊎ Reason t (why t)
      ask8 up chain seven (no d) = inr (told8 up chain seven d)
      ask8 {tree} up chain seven (yes eight) =
          inl (record {
            tree = tree;
            chain = chain;
            t1 = up.before.t1;
            t2 = up.before.t2;
            t3 = up.before.t3;
            t4 = up.t4;
            t5 = up.t5;
            t6 = up.t6;
            t7 = seven;
            t8 = eight;
          })

      ask7 : {tree : Tree} → ThroughT6 t tree → Dec ((chain : List ℕ) × T7 t chain) → Sound t ⊎ Reason t (why t)
      ask7 up (no d) = inr (told7 up d)
      ask7 up (yes h) = ask8 up h.0 h.1 (dec_tests (rule_eight fit up.before.t1 up.before.t3))

      ask6 : {tree : Tree} → ThroughT3 t tree → T4 t tree → T5 tree → Dec (T6 tree) → Sound t ⊎ Reason t (why t)
      ask6 up four five (no d) = inr (told6 up four five d)
      ask6 up four five (yes six) =
          ask7 (record { before = up; t4 = four; t5 = five; t6 = six }) (dec_tests (rule_seven fit up.t1))

      ask5 : {tree : Tree} → ThroughT3 t tree → T4 t tree → Dec (T5 tree) → Sound t ⊎ Reason t (why t)
      ask5 up four (no d) = inr (told5 up four d)
      ask5 up four (yes five) = ask6 up four five (dec_tests (rule_six fit up.t1 up.t3))

      ask4 : {tree : Tree} → ThroughT3 t tree → Dec (T4 t tree) → Sound t ⊎ Reason t (why t)
      ask4 up (no d) = inr (told4 up d)
      ask4 up (yes four) = ask5 up four (dec_tests (rule_five fit up.t1 up.t3))

      ask3 : T1 t → T2 t → Dec ((tree : Tree) × T3 t tree) → Sound t ⊎ Reason t (why t)
      ask3 one two (no d) = inr (told3 one two d)
      ask3 one two (yes h) = ask4 (record { t1 = one; t2 = two; t3 = h.1 }) (dec_tests (rule_four fit one h.1))

      ask2 : T1 t → Dec (T2 t) → Sound t ⊎ Reason t (why t)
      ask2 one (no d) = inr (told2 one d)
      ask2 one (yes two) = ask3 one two (dec_tests (rule_three fit one))

      ask1 : Dec (T1 t) → Sound t ⊎ Reason t (why t)
      ask1 (no d) = inr (told1 d)
      ask1 (yes one) = ask2 one (dec_tests (rule_two t))
