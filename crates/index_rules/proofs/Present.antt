-- What remove and replace ask alike, by cases: the tests in the rules' order settle which, and each answer is given in one of them only.
use mathlib.Core.Path.{◌≡◌, refl, ap, sym, ◌∙◌, subst}
use mathlib.Core.Logic.{◌≢◌, ◌⊎◌, inl, inr}
use mathlib.Core.Bool.{Bool, true, false, false≢true}
use Prim.Native.Nat.{ℕ, ◌<◌}
use native.Mathlib.Decide.{ℕ_discrete}
use native.Mathlib.Omega.{arith}
use borrow.Author.Tests.{eq-eqb, ne_eqb}
use Rattle.slots.specs.Pairs.{pair, pair_of}
use Rattle.slots.specs.Answers.{Answer, some, none, given, refused}
use Rattle.slots.proofs.Laws.{number}
use Rattle.redblack.specs.Holding.{Has, Stands}
use Rattle.index_rules.specs.Sound.{Sound, sound}
use Rattle.index_rules.specs.Index.{Index, FitIndex, Outcome, outcome, fits_index, length_of, lines_of}
use Rattle.index_rules.specs.Insert.{sought_in}
use Rattle.index_rules.specs.Present.{where_present}
use Rattle.index_rules.specs.Claims.{AsksPresent}
use Rattle.index_rules.proofs.Sounding.{sound_yes, yes_sound, unsound}
use Rattle.index_rules.proofs.Journal.{fits-index, index-fits, lines_capacity}
use Rattle.index_rules.proofs.Deciding.{Seen, there, absent, seen}
use Rattle.index_rules.proofs.Inserting.{value_inj, unfit_false, unsound_false, sought-at, sought_none}

module _ (ix : Index) (hash key : ℕ) (leaving : ℕ → Index) where
  abbrev asked : Outcome
  asked = where_present ix hash key leaving

  unfit_one : fits_index ix ≡ false → asked ≡ outcome (refused 1) ix
  unfolding where_present
  unfit_one e = rw e

  damaged_two : fits_index ix ≡ true → sound ix.live ≡ false → asked ≡ outcome (refused 2) ix
  unfolding where_present
  damaged_two e f = rw (e, f)

  module _ (e : fits_index ix ≡ true) (f : sound ix.live ≡ true) where
    absent_four : sought_in ix.live hash key ≡ none → asked ≡ outcome (refused 4) ix
    unfolding where_present
    absent_four s = rw (e, f, s)

    module _ (x : ℕ) (s : sought_in ix.live hash key ≡ some x) where
      no_line_six : length_of ix.lines ≡ lines_of ix.lines → asked ≡ outcome (refused 6) ix
      unfolding where_present
      no_line_six l = rw (e, f, s, eq-eqb (length_of ix.lines) (lines_of ix.lines) l)

      module _ (l : length_of ix.lines ≢ lines_of ix.lines) where
        taken-left : asked ≡ outcome (given x) (leaving x)
        unfolding where_present
        taken-left = rw (e, f, s, ne_eqb (length_of ix.lines) (lines_of ix.lines) l)

  -- The case that the tests come to, with what it says.
  data Did : Type 0 where
    one : (FitIndex ix → ⊥) → asked ≡ outcome (refused 1) ix → Did
    two : FitIndex ix → (Sound ix.live → ⊥) → asked ≡ outcome (refused 2) ix → Did
    four : FitIndex ix → (h : Sound ix.live) → (Has ix.live.names h.tree hash key → ⊥) → asked ≡ outcome (refused 4) ix → Did
    six : FitIndex ix → (h : Sound ix.live) (x : ℕ) → Stands x h.tree → pair_of ix.live.names x ≡ pair hash key
        → length_of ix.lines ≡ lines_of ix.lines
        → asked ≡ outcome (refused 6) ix → Did
    taken : FitIndex ix → (h : Sound ix.live) (x : ℕ) → Stands x h.tree → pair_of ix.live.names x ≡ pair hash key
        → length_of ix.lines ≢ lines_of ix.lines
        → asked ≡ outcome (given x) (leaving x) → Did

  did : Did
  did = go (fits_index ix) refl (sound ix.live) refl
    where
      line : (f : FitIndex ix) (e : fits_index ix ≡ true) (s : sound ix.live ≡ true) (h : Sound ix.live) (x : ℕ) → Stands x h.tree
          → pair_of ix.live.names x ≡ pair hash key
          → sought_in ix.live hash key ≡ some x → Dec (length_of ix.lines ≡ lines_of ix.lines) → Did
      line f e s h x z n q (yes l) = six f h x z n l (no_line_six e s x q l)
      line f e s h x z n q (no l) = taken f h x z n l (taken-left e s x q l)

      look : (f : FitIndex ix) (e : fits_index ix ≡ true) (s : sound ix.live ≡ true) (h : Sound ix.live) → Seen h hash key → Did
      look f e s h (there x z n q) = line f e s h x z n q (ℕ_discrete (length_of ix.lines) (lines_of ix.lines))
      look f e s h (absent n q) = four f h n (absent_four e s q)

      go : (a : Bool) → fits_index ix ≡ a → (b : Bool) → sound ix.live ≡ b → Did
      go false e b s = one (λ f. false≢true (sym e ∙ index-fits ix f)) (unfit_one e)
      go true e false s = let f = fits-index ix e in two f (unsound f.tree s) (damaged_two e s)
      go true e true s = let f = fits-index ix e in let h = yes_sound f.tree s in look f e s h (seen f.tree h hash key)

  answer : {o : Outcome} → asked ≡ o → asked.answer ≡ o.answer
  answer e = ap (λ (o : Outcome). o.answer) e

  -- An answer given in another case is none.
  clash : {a : Answer} {o : Outcome} → asked ≡ o → asked.answer ≡ a → a.number ≡ o.answer.number
  clash e q = number (sym q ∙ answer e)

  one_then : asked.answer ≡ refused 1 → FitIndex ix → ⊥
  one_then q = go did
    where
      go : Did → FitIndex ix → ⊥
      go (one n e) = n
      go (two f n e) = absurd (omega (arith, clash e q))
      go (four f h n e) = absurd (omega (arith, clash e q))
      go (six f h y z n l e) = absurd (omega (arith, clash e q))
      go (taken f h y z n l e) = absurd (omega (arith, clash e q))

  two_then : asked.answer ≡ refused 2 → FitIndex ix × (Sound ix.live → ⊥)
  two_then q = go did
    where
      go : Did → FitIndex ix × (Sound ix.live → ⊥)
      go (one n e) = absurd (omega (arith, clash e q))
      go (two f n e) = (f, n)
      go (four f h n e) = absurd (omega (arith, clash e q))
      go (six f h y z n l e) = absurd (omega (arith, clash e q))
      go (taken f h y z n l e) = absurd (omega (arith, clash e q))

  four-then : asked.answer ≡ refused 4 → FitIndex ix × ((h : Sound ix.live) × (Has ix.live.names h.tree hash key → ⊥))
  four-then q = go did
    where
      go : Did → FitIndex ix × ((h : Sound ix.live) × (Has ix.live.names h.tree hash key → ⊥))
      go (one n e) = absurd (omega (arith, clash e q))
      go (two f n e) = absurd (omega (arith, clash e q))
      go (four f h n e) = (f, (h, n))
      go (six f h y z n l e) = absurd (omega (arith, clash e q))
      go (taken f h y z n l e) = absurd (omega (arith, clash e q))

  six_then : asked.answer ≡ refused 6
      → FitIndex ix × ((h : Sound ix.live) × Has ix.live.names h.tree hash key × (length_of ix.lines ≡ lines_of ix.lines))
  six_then q = go did
    where
      go : Did
          → FitIndex ix × ((h : Sound ix.live) × Has ix.live.names h.tree hash key × (length_of ix.lines ≡ lines_of ix.lines))
      go (one n e) = absurd (omega (arith, clash e q))
      go (two f n e) = absurd (omega (arith, clash e q))
      go (four f h n e) = absurd (omega (arith, clash e q))
      go (six f h y z n l e) = (f, (h, record { slot = y; stands = z; named = n }, l))
      go (taken f h y z n l e) = absurd (omega (arith, clash e q))

  given-then : (x : ℕ) → asked.answer ≡ given x
      → FitIndex ix
      × ((h : Sound ix.live) × Stands x h.tree × (pair_of ix.live.names x ≡ pair hash key)
      × (length_of ix.lines < lines_of ix.lines))
  given-then x q = go did
    where
      go : Did → FitIndex ix × ((h : Sound ix.live) × Stands x h.tree × (pair_of ix.live.names x ≡ pair hash key)
          × (length_of ix.lines < lines_of ix.lines))
      go (one n e) = absurd (omega (arith, clash e q))
      go (two f n e) = absurd (omega (arith, clash e q))
      go (four f h n e) = absurd (omega (arith, clash e q))
      go (six f h y z n l e) = absurd (omega (arith, clash e q))
      go (taken f h y z n l e) =
          let w : y ≡ x = value_inj (sym (answer e) ∙ q) refl refl in
          let named = subst (λ (k : ℕ). pair_of ix.live.names k ≡ pair hash key) w n in
          (f, (h, subst (λ (k : ℕ). Stands k h.tree) w z, named, omega (arith, f.within, lines_capacity f)))

  nothing_written : asked.answer.number ≢ 0 → asked.left ≡ ix
  nothing_written q = go did
    where
      left : {o : Outcome} → asked ≡ o → asked.left ≡ o.left
      left e = ap (λ (o : Outcome). o.left) e

      go : Did → asked.left ≡ ix
      go (one n e) = left e
      go (two f n e) = left e
      go (four f h n e) = left e
      go (six f h y z n l e) = left e
      go (taken f h y z n l e) = absurd (q (number (answer e)))

  -- What an accepted call leaves.
  pub present_left : (x : ℕ) → asked.answer ≡ given x → asked.left ≡ leaving x
  present_left x q = go did
    where
      go : Did → asked.left ≡ leaving x
      go (one n e) = absurd (omega (arith, clash e q))
      go (two f n e) = absurd (omega (arith, clash e q))
      go (four f h n e) = absurd (omega (arith, clash e q))
      go (six f h y z n l e) = absurd (omega (arith, clash e q))
      go (taken f h y z n l e) = ap (λ (o : Outcome). o.left) e ∙ ap leaving (value_inj (sym (answer e) ∙ q) refl refl)

  pub asks_present : AsksPresent ix hash key asked
  asks_present =
      record {
        one = (one_then, λ n. answer (unfit_one (unfit_false ix n)));
        two = (two_then, λ r. answer (damaged_two (index-fits ix r.0) (unsound_false ix r.0 r.1)));
        four = (
          four-then,
          λ r. (let h = r.1.0 in
              answer (absent_four (index-fits ix r.0) (sound_yes r.0.tree h) (sought_none r.0.tree h hash key r.1.1))),
        );
        six = (
          six_then,
          λ r. (let h = r.1.0 in let a = r.1.1 in
              answer (no_line_six (index-fits ix r.0) (sound_yes r.0.tree h) a.slot
              (sought-at r.0.tree h hash key a.slot a.stands a.named) r.1.2)),
        );
        accepted = λ x. (
          given-then x,
          λ r. (let h = r.1.0 in
              answer (taken-left (index-fits ix r.0) (sound_yes r.0.tree h) x
              (sought-at r.0.tree h hash key x r.1.1 r.1.2)
              (omega (arith, r.1.3)))),
        );
        nothing_written = nothing_written;
      }

  -- Refused, or given a slot.
  pub present_settled : (asked.answer.number ≢ 0) ⊎ ((x : ℕ) × (asked.answer ≡ given x))
  present_settled = go did
    where
      go : Did → (asked.answer.number ≢ 0) ⊎ ((x : ℕ) × (asked.answer ≡ given x))
      go (one n e) = inl (λ q. omega (arith, number (answer e)))
      go (two f n e) = inl (λ q. omega (arith, number (answer e)))
      go (four f h n e) = inl (λ q. omega (arith, number (answer e)))
      go (six f h y z n l e) = inl (λ q. omega (arith, number (answer e)))
      go (taken f h y z n l e) = inr (y, answer e)
