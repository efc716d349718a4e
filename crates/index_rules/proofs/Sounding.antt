-- The full check says yes exactly of sound trees: the eight tests in turn, each with its rule.
use mathlib.Core.Path.{◌≡◌, refl, sym, ◌∙◌}
use mathlib.Core.Logic.{◌↔◌}
use mathlib.Core.Bool.{Bool, true, false, false≢true}
use Prim.Native.Nat.{ℕ}
use native.Mathlib.Omega.{arith}
use Rattle.slots.specs.Words.{pick}
use Rattle.slots.specs.Answers.{Answer, given, refused}
use Rattle.slots.proofs.Laws.{given_is, number}
use Rattle.index_rules.specs.Live.{Live, Fit, fits}
use Rattle.index_rules.specs.Sound.{Sound, rule1, rule2, rule3, rule4, rule5, rule6, rule7, sound, sounds}
use Rattle.index_rules.specs.Index.{Index, fits_index}
use Rattle.index_rules.specs.Checked.{sounds_index}
use Rattle.index_rules.specs.Claims.{Sounds, SoundsIndex}
use Rattle.index_rules.proofs.Fit.{both}
use Rattle.index_rules.proofs.Rules.{and, rule_one, rule_two, rule_three, rule_four, rule_five, rule_six, rule_seven}
use Rattle.index_rules.proofs.Weighing.{rule_eight}
use Rattle.index_rules.proofs.Passing.{sound_passes}
use Rattle.index_rules.proofs.Reading.{Gate, tree_gate, index_gate}

module _ {t : Live} (fit : Fit t) where
  pub sound_yes : Sound t → sound t ≡ true
  unfolding sound
  sound_yes h =
      and ((rule_one t).1 h.t1) (and ((rule_two t).1 h.t2) (and ((rule_three fit h.t1).1 (h.tree, h.t3))
      (and ((rule_four fit h.t1 h.t3).1 h.t4)
      (and ((rule_five fit h.t1 h.t3).1 h.t5) (and ((rule_six fit h.t1 h.t3).1 h.t6)
      (and ((rule_seven fit h.t1).1 (h.chain, h.t7)) ((rule_eight fit h.t1 h.t3).1 h.t8)))))))

  pub yes_sound : sound t ≡ true → Sound t
  unfolding sound
  yes_sound e =
      let h1 = both (rule1 t) _ e in
      let h2 = both (rule2 t) _ h1.1 in
      let h3 = both (rule3 t) _ h2.1 in
      let h4 = both (rule4 t) _ h3.1 in
      let h5 = both (rule5 t) _ h4.1 in
      let h6 = both (rule6 t) _ h5.1 in
      let h7 = both (rule7 t) _ h6.1 in
      let one = (rule_one t).0 h1.0 in
      let three = (rule_three fit one).0 h3.0 in
      let seven = (rule_seven fit one).0 h7.0 in
      record {
        tree = three.0;
        chain = seven.0;
        t1 = one;
        t2 = (rule_two t).0 h2.0;
        t3 = three.1;
        t4 = (rule_four fit one three.1).0 h4.0;
        t5 = (rule_five fit one three.1).0 h5.0;
        t6 = (rule_six fit one three.1).0 h6.0;
        t7 = seven.1;
        t8 = (rule_eight fit one three.1).0 h7.1;
      }

  pub unsound : sound t ≡ false → Sound t → ⊥
  unsound e h = false≢true (sym e ∙ sound_yes h)

-- yes is 1 and no is 0.
pub verdict : (b : Bool) → (pick b (given 1) (given 0) ≡ given 1) ↔ (b ≡ true)
verdict true = (λ e. refl, λ e. refl)
verdict false = (λ e. absurd (omega (arith, given_is e)), λ e. absurd (false≢true e))

pub verdict_no : (b : Bool) → (pick b (given 1) (given 0) ≡ given 0) ↔ (b ≡ false)
verdict_no true = (λ e. absurd (omega (arith, given_is e)), λ e. absurd (false≢true (sym e)))
verdict_no false = (λ e. refl, λ e. refl)

pub not_one : (b : Bool) → pick b (given 1) (given 0) ≡ refused 1 → ⊥
not_one true e = omega (arith, number e)
not_one false e = omega (arith, number e)

-- What the answer says of the two tests that it is made of.
module _ (a b : Bool) where
  pub told_unfit : refused 1 ≡ pick a (pick b (given 1) (given 0)) (refused 1) → a ≡ false
  told_unfit e = go a refl
    where
      go : (c : Bool) → a ≡ c → a ≡ false
      go true f = let z : refused 1 ≡ pick b (given 1) (given 0) = e ∙ rw f in absurd (not_one b (sym z))
      go false f = f

  told : {n : ℕ} → given n ≡ pick a (pick b (given 1) (given 0)) (refused 1) → (a ≡ true) × (given n ≡ pick b (given 1) (given 0))
  told {n} e = go a refl
    where
      go : (c : Bool) → a ≡ c → (a ≡ true) × (given n ≡ pick b (given 1) (given 0))
      go true f = (f, e ∙ rw f)
      go false f = let z : given n ≡ refused 1 = e ∙ rw f in absurd (omega (arith, number z))

  pub told_no : given 0 ≡ pick a (pick b (given 1) (given 0)) (refused 1) → (a ≡ true) × (b ≡ false)
  told_no e = let t = told e in (t.0, (verdict_no b).0 (sym t.1))

  pub told_yes : given 1 ≡ pick a (pick b (given 1) (given 0)) (refused 1) → (a ≡ true) × (b ≡ true)
  told_yes e = let t = told e in (t.0, (verdict b).0 (sym t.1))

-- The answer of the full check behind a gate that only fit trees pass, by what it is where the gate is shut and where it is open.
module _ {F : Type 0} (g : Gate F) {t : Live} (fit : F → Fit t) {a : Answer} (shut : g.test ≡ false → a ≡ refused 1)
    (no : g.test ≡ true → sound t ≡ false → a ≡ given 0) (yes : g.test ≡ true → sound t ≡ true → a ≡ given 1) where
  cases : {A : Type 0} → ((F → ⊥) → a ≡ refused 1 → A) → (F → (Sound t → ⊥) → a ≡ given 0 → A) → (F → Sound t → a ≡ given 1 → A) → A
  cases {A} u n y = go g.test refl (sound t) refl
    where
      go : (b : Bool) → g.test ≡ b → (c : Bool) → sound t ≡ c → A
      go false e c s = u (λ f. false≢true (sym e ∙ g.opens f)) (shut e)
      go true e false s = let f = g.opened e in n f (unsound (fit f) s) (no e s)
      go true e true s = let f = g.opened e in y f (yes_sound (fit f) s) (yes e s)

  one_exactly : (a ≡ refused 1) ↔ (F → ⊥)
  one_exactly = (
    λ e f. cases (λ n z. n f) (λ k s z. omega (arith, number (sym z ∙ e))) (λ k s z. omega (arith, number (sym z ∙ e))),
    λ n. cases (λ u z. z) (λ k s z. absurd (n k)) (λ k s z. absurd (n k)),
  )

  yes_exactly : (a ≡ given 1) ↔ (F × Sound t)
  yes_exactly = (
    λ e. cases (λ n z. absurd (omega (arith, number (sym z ∙ e)))) (λ k s z. absurd (omega (arith, given_is (sym z ∙ e))))
        (λ k s z. (k, s)),
    λ p. cases (λ n z. absurd (n p.0)) (λ k s z. absurd (s p.1)) (λ k s z. z),
  )

  no_exactly : (a ≡ given 0) ↔ (F × (Sound t → ⊥))
  no_exactly = (
    λ e. cases (λ n z. absurd (omega (arith, number (sym z ∙ e)))) (λ k s z. (k, s))
        (λ k s z. absurd (omega (arith, given_is (sym z ∙ e)))),
    λ p. cases (λ n z. absurd (n p.0)) (λ k s z. z) (λ k s z. absurd (p.1 s)),
  )

module _ (t : Live) where
  tree_shut : fits t ≡ false → sounds t ≡ refused 1
  unfolding sounds
  tree_shut e = rw e

  tree_no : fits t ≡ true → sound t ≡ false → sounds t ≡ given 0
  unfolding sounds
  tree_no e s = rw (e, s)

  tree_yes : fits t ≡ true → sound t ≡ true → sounds t ≡ given 1
  unfolding sounds
  tree_yes e s = rw (e, s)

  pub sound_claims : Sounds t
  unfolding tree_gate
  sound_claims =
      record {
        one = one_exactly (tree_gate t) (λ f. f) tree_shut tree_no tree_yes;
        yes = yes_exactly (tree_gate t) (λ f. f) tree_shut tree_no tree_yes;
        no = no_exactly (tree_gate t) (λ f. f) tree_shut tree_no tree_yes;
        passes_too = λ f h. sound_passes f h;
        rule_one = rule_one t;
        rule_two = rule_two t;
        rule_three = λ f one. rule_three f one;
        rule_four = λ f one three. rule_four f one three;
        rule_five = λ f one three. rule_five f one three;
        rule_six = λ f one three. rule_six f one three;
        rule_seven = λ f one. rule_seven f one;
        rule_eight = λ f one three. rule_eight f one three;
      }

module _ (ix : Index) where
  index_shut : fits_index ix ≡ false → sounds_index ix ≡ refused 1
  unfolding sounds_index
  index_shut e = rw e

  index_no : fits_index ix ≡ true → sound ix.live ≡ false → sounds_index ix ≡ given 0
  unfolding sounds_index
  index_no e s = rw (e, s)

  index_yes : fits_index ix ≡ true → sound ix.live ≡ true → sounds_index ix ≡ given 1
  unfolding sounds_index
  index_yes e s = rw (e, s)

  pub sound-index_claims : SoundsIndex ix
  unfolding index_gate
  sound-index_claims =
      record {
        one = one_exactly (index_gate ix) (λ f. f.tree) index_shut index_no index_yes;
        yes = yes_exactly (index_gate ix) (λ f. f.tree) index_shut index_no index_yes;
        no = no_exactly (index_gate ix) (λ f. f.tree) index_shut index_no index_yes;
      }
