-- What the search finds is what is told: by completeness a rule holds, given those before it, exactly if no slot shows it, so whether the
-- lowest slot is null decides as the full check's test of the rule does.
use mathlib.Core.Path.{◌≡◌, refl, ap, sym, ◌∙◌}
use mathlib.Core.List.{List, []}
use mathlib.Core.Bool.{Bool, true, false, false≢true}
use Prim.Native.Nat.{ℕ, zero, suc, ◌+◌, ◌-◌, ◌<◌, ◌≤◌}
use native.Mathlib.Decide.{ℕ_discrete}
use native.Mathlib.Numerals.{add-one}
use native.Mathlib.Omega.{arith}
use lib.ListN.{length}
use Rattle.std.specs.Prelude.{Option, None, unwrap_or}
use lib.Dec.{eqb}
use borrow.Author.Tests.{eq-eqb, ne_eqb}
use Rattle.slots.specs.Words.{null, pick, leftward, rightward, most_names}
use Rattle.tree_rules.specs.Find.{slots_of}
use Rattle.tree_rules.specs.Tree.{Tree}
use Rattle.index_rules.specs.Live.{Live, Fit, lent_tree, fits}
use Rattle.index_rules.specs.Sound.{T1, T2, T3, is_cleared, slot_fine, slots_fine}
use Rattle.index_rules.specs.Sound.{rule1, rule2, rule3, rule4, rule5, rule6, rule7, rule8}
use Rattle.index_rules.proofs.Fit.{fits_fit}
use Rattle.index_rules.proofs.Rules.{rule_one, rule_two, rule_three, rule_four, rule_five, rule_six, rule_seven}
use Rattle.index_rules.proofs.Weighing.{rule_eight}
use Rattle.night_rules.specs.Account.{Account, tells_slot, tells_pair, tells_ways, tells_sound}
use Rattle.night_rules.specs.Shows.{Shows3, Shows4, Shows5, Shows6, Shows7, Shows8}
use Rattle.night_rules.specs.Why.{neg, shows3, shows4, shows5, shows6, shows7, shows8, next_in, way_by, lowest_with, lowest_slot, why}
use Rattle.night_rules.proofs.Testing.{Decides, three_tests, seven_tests}
use Rattle.night_rules.proofs.Standing.{three_complete}
use Rattle.night_rules.proofs.Seated.{three_none}
use Rattle.night_rules.proofs.Ordering.{four_tests, four_complete, four_none, four_inside}
use Rattle.night_rules.proofs.Colours.{five_tests, five_complete, five_none}
use Rattle.night_rules.proofs.Levels.{six_complete, six_none}
use Rattle.night_rules.proofs.Ways.{six_tests}
use Rattle.night_rules.proofs.Chained.{seven_complete, seven_none}
use Rattle.night_rules.proofs.Sizes.{eight_tests, eight_complete, eight_none}
use Rattle.night_rules.proofs.Telling.{lowest_none, inside5, inside8}
use Rattle.night.specs.Shown.{shows_rule, told_by, first_shown, sought, refuses, tells, why_told}

-- A turn of the search over the slots: slot i shows it, does not, there is none left.
module _ (f : ℕ → Bool) where
  low_step : (k i : ℕ) → 0 < k → lowest_with k f i ≡ pick (f i) i (lowest_with (k - 1) f (i + 1))
  unfolding lowest_with
  low_step zero i h = absurd (omega arith)
  low_step (suc k) i h = let z : suc k - 1 ≡ k = omega arith in rw (z, add-one)

  module _ (n i : ℕ) {b : Bool} (e : b ≡ f i) where
    pub low_here : i < n → b ≡ true → i ≡ lowest_with (n - i) f i
    low_here l h = sym (low_step (n - i) i (omega arith) ∙ rw (← e, h))

    pub low_on : i < n → b ≡ false → lowest_with (n - (i + 1)) f (i + 1) ≡ lowest_with (n - i) f i
    low_on l h = let z : n - i - 1 ≡ n - (i + 1) = omega arith in sym (low_step (n - i) i (omega arith) ∙ rw (← e, h, z))

  pub low_end : (k i : ℕ) → k ≤ 0 → null ≡ lowest_with k f i
  unfolding lowest_with
  low_end zero i h = refl
  low_end (suc k) i h = absurd (omega arith)

  -- Where the search finds none, there is none.
  none_found : (k i : ℕ) → i + k ≤ null → lowest_with k f i ≡ null → (j : ℕ) → i ≤ j → j < i + k → f j ≡ false
  unfolding lowest_with
  none_found zero i h e j a b = absurd (omega arith)
  none_found (suc k) i h e j a b = go (f i) refl (none_found k (suc i) (omega arith))
    where
      go : (x : Bool) → f i ≡ x → (lowest_with k f (suc i) ≡ null → (j : ℕ) → suc i ≤ j → j < suc i + k → f j ≡ false) → f j ≡ false
      go true p again = let z : i ≡ null = sym (rw p) ∙ e in absurd (omega arith)
      go false p again = at (ℕ_discrete j i)
        where
          at : Dec (j ≡ i) → f j ≡ false
          at (yes q) = ap f q ∙ p
          at (no d) = again (sym (rw p) ∙ e) j (omega arith) (omega arith)

-- A search that tells no slot.
pub none_told : {o : Option ℕ} {x : ℕ} → o ≡ None → unwrap_or o null ≡ x → eqb x null ≡ true
none_told p e = rw (← e, p) (eq-eqb null null refl)

-- What is asked of the slots does not read the header or the sizes.
pub any_header : (names cells head sizes : List ℕ) (n k : ℕ)
    → slots_fine k n (lent_tree names cells [] []) ≡ slots_fine k n (lent_tree names cells head sizes)
unfolding slots_fine slot_fine is_cleared
any_header names cells head sizes n zero = refl
any_header names cells head sizes n (suc k) = rw (any_header names cells head sizes n k)

-- The tests of the rules, in order.
turn : (e b : Bool) (x u v : Account) → e ≡ b → (b ≡ true → u ≡ v) → pick e u x ≡ pick (neg b) x v
turn e true x u v q h = rw q (h refl)
turn e false x u v q h = rw q

module _ {t : Live} (fit : Fit t) where
  settled : {A : Type 0} (b : Bool) → Decides b A → (f : ℕ → Bool) (P : ℕ → Type 0)
      → ((i : ℕ) → i < slots_of t.names → Decides (f i) (P i)) → ((i : ℕ) → P i → i < slots_of t.names)
      → (A → (i : ℕ) → P i → ⊥) → (((i : ℕ) → P i → ⊥) → A) → eqb (lowest_slot t f) null ≡ b
  settled true d f P tests inside none all = eq-eqb (lowest_slot t f) null (lowest_none t f P tests inside (none (d.0 refl)))
  settled false d f P tests inside none all =
      ne_eqb (lowest_slot t f) null
      (λ e. false≢true
      (d.1
      (all
      (λ i p. (let l = inside i p in
      false≢true
      (sym (none_found f (slots_of t.names) 0 (omega (arith, fit.most, fit.two)) e i (omega arith) (omega arith))
      ∙ (tests i l).1 p))))))

  module _ (one : T1 t) (two : T2 t) where
    abbrev low3 : eqb (lowest_slot t (shows3 t)) null ≡ rule3 t
    low3 =
        settled (rule3 t) (rule_three fit one) (shows3 t) (Shows3 t) (three_tests fit one) (λ i s. s.used.inside)
        (λ h. three_none fit h.1) (three_complete fit one two)

    abbrev low7 : eqb (lowest_slot t (shows7 t)) null ≡ rule7 t
    low7 =
        settled (rule7 t) (rule_seven fit one) (shows7 t) (Shows7 t) (seven_tests fit one) (λ i s. s.used.inside)
        (λ h. seven_none fit h.1) (seven_complete fit one two)

    module _ {tree : Tree} (three : T3 t tree) where
      low4 : eqb (lowest_slot t (shows4 t)) null ≡ rule4 t
      low4 =
          settled (rule4 t) (rule_four fit one three) (shows4 t) (Shows4 t tree) (four_tests fit three) (four_inside fit three)
          (four_none fit three) (four_complete fit three)

      low5 : eqb (lowest_slot t (shows5 t)) null ≡ rule5 t
      low5 =
          settled (rule5 t) (rule_five fit one three) (shows5 t) (Shows5 t) (five_tests t) inside5 (five_none fit three)
          (five_complete fit three)

      low6 : eqb (lowest_slot t (shows6 t)) null ≡ rule6 t
      low6 =
          settled (rule6 t) (rule_six fit one three) (shows6 t) (Shows6 t) (six_tests fit three) (λ i s. s.used.inside)
          (six_none fit three) (six_complete fit three)

      low8 : eqb (lowest_slot t (shows8 t)) null ≡ rule8 t
      low8 =
          settled (rule8 t) (rule_eight fit one three) (shows8 t) (Shows8 t tree) (eight_tests fit one three) inside8
          (eight_none fit one three) (eight_complete fit one three)

      -- What is told from each rule on.
      from4 : first_shown 5 4 t
          ≡ pick (neg (rule4 t)) (let i = lowest_slot t (shows4 t) in tells_pair i (next_in t i))
          (pick (neg (rule5 t)) (tells_slot 5 (lowest_slot t (shows5 t)))
          (pick (neg (rule6 t)) (let i = lowest_slot t (shows6 t) in tells_ways i (way_by t i leftward) (way_by t i rightward))
          (pick (neg (rule7 t)) (tells_slot 7 (lowest_slot t (shows7 t)))
          (pick (neg (rule8 t)) (tells_slot 8 (lowest_slot t (shows8 t))) tells_sound))))
      unfolding first_shown shows_rule told_by
      from4 =
          turn _ (rule4 t) _ _ _ low4
          (λ _. turn _ (rule5 t) _ _ _ low5
          (λ _. turn _ (rule6 t) _ _ _ low6
          (λ _. turn _ (rule7 t) _ _ _ (low7)
          (λ _. turn _ (rule8 t) _ _ _ low8 (λ _. refl)))))

    from3 : first_shown 6 3 t
        ≡ pick (neg (rule3 t)) (tells_slot 3 (lowest_slot t (shows3 t)))
        (pick (neg (rule4 t)) (let i = lowest_slot t (shows4 t) in tells_pair i (next_in t i))
        (pick (neg (rule5 t)) (tells_slot 5 (lowest_slot t (shows5 t)))
        (pick (neg (rule6 t)) (let i = lowest_slot t (shows6 t) in tells_ways i (way_by t i leftward) (way_by t i rightward))
        (pick (neg (rule7 t)) (tells_slot 7 (lowest_slot t (shows7 t)))
        (pick (neg (rule8 t)) (tells_slot 8 (lowest_slot t (shows8 t))) tells_sound)))))
    unfolding first_shown shows_rule told_by
    from3 = turn _ (rule3 t) _ _ _ low3 (λ h. from4 ((rule_three fit one).0 h).1)

  pub sought-why : sought t ≡ why t
  unfolding sought why shows_rule
  sought-why = go (rule1 t) refl (rule2 t) refl
    where
      go : (a : Bool) → rule1 t ≡ a → (b : Bool) → rule2 t ≡ b → sought t ≡ why t
      go false p b q = rw p
      go true p false q = rw (p, q)
      go true p true q = rw (p, q) (from3 ((rule_one t).0 p) ((rule_two t).0 q))

-- What a call comes to.
module _ (t : Live) where
  pub told_fit : fits t ≡ true → {w : Account} → w ≡ sought t → tells w ≡ why_told t
  unfolding why_told
  told_fit f e = rw (f, e, sought-why (fits_fit t f))

  pub told_unfit : fits t ≡ false → refuses ≡ why_told t
  unfolding why_told
  told_unfit f = rw f

  -- A tree whose slices fit has no more names than 4,096 slots have.
  pub few_names : fits t ≡ true → length t.names ≤ most_names
  few_names f = let g = fits_fit t f in omega (arith, g.two, g.most)
