-- rollback, by cases: the tests in the rules' order settle which, and each answer is given in one of them only.
use mathlib.Core.Path.{◌≡◌, refl, ap, sym, ◌∙◌, subst}
use mathlib.Core.Logic.{◌≢◌, ◌⊎◌, inl, inr}
use mathlib.Core.Bool.{Bool, true, false, false≢true}
use Prim.Native.Nat.{ℕ, ◌+◌, ◌-◌, ◌<◌, ◌≤◌}
use native.Mathlib.Decide.{dec_lt}
use native.Mathlib.Omega.{arith}
use borrow.Author.Tests.{lt-ltb, le-ltb}
use Rattle.slots.specs.Answers.{Answer, given, refused}
use Rattle.slots.proofs.Laws.{number}
use Rattle.index_rules.specs.Live.{Live}
use Rattle.index_rules.specs.Sound.{Sound, sound}
use Rattle.index_rules.specs.Index.{Index, FitIndex, Outcome, outcome, fits_index, length_of}
use Rattle.index_rules.specs.Rollback.{Undo, stays, misfit, unrolled, rolls}
use Rattle.index_rules.specs.Contents.{listing}
use Rattle.index_rules.specs.Undoing.{Undoes, Fits, LinesUndone}
use Rattle.index_rules.specs.Calls.{BackTo}
use Rattle.index_rules.specs.Claims.{Rolls}
use Rattle.index_rules.proofs.Sounding.{sound_yes, yes_sound, unsound}
use Rattle.index_rules.proofs.Journal.{fits-index, index-fits, back_to}
use Rattle.index_rules.proofs.Unrolling.{Rolled, unrolled_undoes, undoes_unrolled}
use Rattle.index_rules.proofs.Inserting.{value_inj, unfit_false, unsound_false}
use Rattle.tree_rules.specs.Find.{slots_of}

not_stays : {u : Live} → misfit ≡ stays u → ⊥
not_stays e = let z : ◌≡◌ {A = ℕ} 0 1 = cc in omega arith

module _ (ix : Index) (m : ℕ) where
  abbrev count : ℕ
  count = length_of ix.lines - m

  whole : m ≤ length_of ix.lines → m + count ≡ length_of ix.lines
  whole l = omega arith

  -- The lines fit exactly where they are undone.
  fits_of : FitIndex ix → (h : Sound ix.live) → m ≤ length_of ix.lines → (t : Live) → unrolled count ix.live ix.lines m ≡ stays t
      → Rolled h ix.lines m (length_of ix.lines) t
  fits_of f h l t s = subst (λ (k : ℕ). Rolled h ix.lines m k t) (whole l) (unrolled_undoes ix.lines m count f.tree h t s)

  of_fits : FitIndex ix → (h : Sound ix.live) → m ≤ length_of ix.lines
      → Fits (slots_of ix.live.names) ix.lines m (length_of ix.lines) (listing h)
      → (t : Live) × (unrolled count ix.live ix.lines m ≡ stays t)
  of_fits f h l r = undoes_unrolled ix.lines m count (length_of ix.lines) r.1 (sym (whole l)) f.tree h refl refl

  -- What an accepted rollback leaves, of the very tree h.
  Leaves : Sound ix.live → Outcome → Type 0
  Leaves h o =
      (g : Sound o.left.live) × FitIndex o.left
      × Undoes (slots_of ix.live.names) ix.lines m (length_of ix.lines) (listing h) (listing g)
      × BackTo m ix.lines o.left.lines × (slots_of o.left.live.names ≡ slots_of ix.live.names)
      × LinesUndone ix.lines m g (length_of ix.lines) ix.live h

  unfit_one : fits_index ix ≡ false → rolls ix m ≡ outcome (refused 1) ix
  unfolding rolls
  unfit_one e = rw e

  damaged_two : fits_index ix ≡ true → sound ix.live ≡ false → rolls ix m ≡ outcome (refused 2) ix
  unfolding rolls
  damaged_two e f = rw (e, f)

  module _ (e : fits_index ix ≡ true) (f : sound ix.live ≡ true) where
    mark_seven : length_of ix.lines < m → rolls ix m ≡ outcome (refused 7) ix
    unfolding rolls
    mark_seven l = rw (e, f, lt-ltb (length_of ix.lines) m l)

    misfit_eight : m ≤ length_of ix.lines → unrolled count ix.live ix.lines m ≡ misfit → rolls ix m ≡ outcome (refused 8) ix
    unfolding rolls
    misfit_eight l s = rw (e, f, le-ltb (length_of ix.lines) m l, s)

    module _ (t : Live) (l : m ≤ length_of ix.lines) (s : unrolled count ix.live ix.lines m ≡ stays t) where
      -- The number answered is the length less the mark.
      done-given : (rolls ix m).answer ≡ given count
      unfolding rolls
      done-given = rw (e, f, le-ltb (length_of ix.lines) m l, s) (ap given (omega arith))

      done-leaves : FitIndex ix → (h : Sound ix.live) → Leaves h (rolls ix m)
      unfolding rolls Leaves
      done-leaves fit h =
          let r = fits_of fit h l t s in
          let b = back_to ix.lines m l (omega (arith, fit.within, fit.words)) in
          rw (e, f, le-ltb (length_of ix.lines) m l, s) (
            r.sound,
            record {
              tree = r.fit;
              capacity = fit.capacity;
              most = fit.most;
              words = b.long ∙ fit.words;
              within = omega (arith, b.count, fit.within);
            },
            r.undoes,
            b,
            r.capacity,
            r.lined,
          )

  -- The case that the tests come to, with what it says.
  data Did : Type 0 where
    one : (FitIndex ix → ⊥) → rolls ix m ≡ outcome (refused 1) ix → Did
    two : FitIndex ix → (Sound ix.live → ⊥) → rolls ix m ≡ outcome (refused 2) ix → Did
    seven : FitIndex ix → Sound ix.live → length_of ix.lines < m → rolls ix m ≡ outcome (refused 7) ix → Did
    eight : FitIndex ix → (h : Sound ix.live) → m ≤ length_of ix.lines
        → (Fits (slots_of ix.live.names) ix.lines m (length_of ix.lines) (listing h) → ⊥)
        → rolls ix m ≡ outcome (refused 8) ix → Did
    taken : FitIndex ix → (h : Sound ix.live) → m ≤ length_of ix.lines → (t : Live) → unrolled count ix.live ix.lines m ≡ stays t
        → (rolls ix m).answer ≡ given count → ((h : Sound ix.live) → Leaves h (rolls ix m)) → Did

  did : Did
  did = go (fits_index ix) refl (sound ix.live) refl
    where
      undo : (f : FitIndex ix) (e : fits_index ix ≡ true) (s : sound ix.live ≡ true) (h : Sound ix.live) → m ≤ length_of ix.lines
          → (o : Undo) → unrolled count ix.live ix.lines m ≡ o → Did
      undo f e s h l (stays t) q = taken f h l t q (done-given e s t l q) (done-leaves e s t l q f)
      undo f e s h l misfit q = eight f h l (λ r. not_stays (sym q ∙ (of_fits f h l r).1)) (misfit_eight e s l q)

      look : (f : FitIndex ix) (e : fits_index ix ≡ true) (s : sound ix.live ≡ true) (h : Sound ix.live)
          → Dec (length_of ix.lines < m) → Did
      look f e s h (yes l) = seven f h l (mark_seven e s l)
      look f e s h (no l) = undo f e s h (omega arith) (unrolled count ix.live ix.lines m) refl

      go : (a : Bool) → fits_index ix ≡ a → (b : Bool) → sound ix.live ≡ b → Did
      go false e b s = one (λ f. false≢true (sym e ∙ index-fits ix f)) (unfit_one e)
      go true e false s = let f = fits-index ix e in two f (unsound f.tree s) (damaged_two e s)
      go true e true s = let f = fits-index ix e in let h = yes_sound f.tree s in look f e s h (dec_lt (length_of ix.lines) m)

  answer : {o : Outcome} → rolls ix m ≡ o → (rolls ix m).answer ≡ o.answer
  answer e = ap (λ (o : Outcome). o.answer) e

  -- An answer given in another case is none.
  clash : {a : Answer} {o : Outcome} → rolls ix m ≡ o → (rolls ix m).answer ≡ a → a.number ≡ o.answer.number
  clash e q = number (sym q ∙ answer e)

  one_then : (rolls ix m).answer ≡ refused 1 → FitIndex ix → ⊥
  one_then q = go did
    where
      go : Did → FitIndex ix → ⊥
      go (one n e) = n
      go (two f n e) = absurd (omega (arith, clash e q))
      go (seven f h l e) = absurd (omega (arith, clash e q))
      go (eight f h l n e) = absurd (omega (arith, clash e q))
      go (taken f h l t s e r) = absurd (omega (arith, number (sym q ∙ e)))

  two_then : (rolls ix m).answer ≡ refused 2 → FitIndex ix × (Sound ix.live → ⊥)
  two_then q = go did
    where
      go : Did → FitIndex ix × (Sound ix.live → ⊥)
      go (one n e) = absurd (omega (arith, clash e q))
      go (two f n e) = (f, n)
      go (seven f h l e) = absurd (omega (arith, clash e q))
      go (eight f h l n e) = absurd (omega (arith, clash e q))
      go (taken f h l t s e r) = absurd (omega (arith, number (sym q ∙ e)))

  seven_then : (rolls ix m).answer ≡ refused 7 → FitIndex ix × Sound ix.live × (length_of ix.lines < m)
  seven_then q = go did
    where
      go : Did → FitIndex ix × Sound ix.live × (length_of ix.lines < m)
      go (one n e) = absurd (omega (arith, clash e q))
      go (two f n e) = absurd (omega (arith, clash e q))
      go (seven f h l e) = (f, h, l)
      go (eight f h l n e) = absurd (omega (arith, clash e q))
      go (taken f h l t s e r) = absurd (omega (arith, number (sym q ∙ e)))

  eight_then : (rolls ix m).answer ≡ refused 8
      → FitIndex ix × (m ≤ length_of ix.lines)
      × ((h : Sound ix.live) × (Fits (slots_of ix.live.names) ix.lines m (length_of ix.lines) (listing h) → ⊥))
  eight_then q = go did
    where
      go : Did
          → FitIndex ix × (m ≤ length_of ix.lines)
          × ((h : Sound ix.live) × (Fits (slots_of ix.live.names) ix.lines m (length_of ix.lines) (listing h) → ⊥))
      go (one n e) = absurd (omega (arith, clash e q))
      go (two f n e) = absurd (omega (arith, clash e q))
      go (seven f h l e) = absurd (omega (arith, clash e q))
      go (eight f h l n e) = (f, l, (h, n))
      go (taken f h l t s e r) = absurd (omega (arith, number (sym q ∙ e)))

  given-then : (c : ℕ) → (rolls ix m).answer ≡ given c
      → FitIndex ix × (m ≤ length_of ix.lines) × (c ≡ length_of ix.lines - m)
      × ((h : Sound ix.live) × Fits (slots_of ix.live.names) ix.lines m (length_of ix.lines) (listing h))
  given-then c q = go did
    where
      go : Did
          → FitIndex ix × (m ≤ length_of ix.lines) × (c ≡ length_of ix.lines - m)
          × ((h : Sound ix.live) × Fits (slots_of ix.live.names) ix.lines m (length_of ix.lines) (listing h))
      go (one n e) = absurd (omega (arith, clash e q))
      go (two f n e) = absurd (omega (arith, clash e q))
      go (seven f h l e) = absurd (omega (arith, clash e q))
      go (eight f h l n e) = absurd (omega (arith, clash e q))
      go (taken f h l t s e r) =
          let o = fits_of f h l t s in
          (f, l, sym (value_inj (sym e ∙ q) refl refl), (h, (listing o.sound, o.undoes)))

  nothing_written : (rolls ix m).answer.number ≢ 0 → (rolls ix m).left ≡ ix
  nothing_written q = go did
    where
      left : {o : Outcome} → rolls ix m ≡ o → (rolls ix m).left ≡ o.left
      left e = ap (λ (o : Outcome). o.left) e

      go : Did → (rolls ix m).left ≡ ix
      go (one n e) = left e
      go (two f n e) = left e
      go (seven f h l e) = left e
      go (eight f h l n e) = left e
      go (taken f h l t s e r) = absurd (q (number e))

  done : (c : ℕ) → (rolls ix m).answer ≡ given c → (h : Sound ix.live) → Leaves h (rolls ix m)
  unfolding Leaves
  done c q h = go did
    where
      go : Did → Leaves h (rolls ix m)
      go (one n e) = absurd (omega (arith, clash e q))
      go (two f n e) = absurd (omega (arith, clash e q))
      go (seven f h l e) = absurd (omega (arith, clash e q))
      go (eight f h l n e) = absurd (omega (arith, clash e q))
      go (taken f k l t s e r) = r h

  pub rollback_claims : Rolls ix m
  unfolding Leaves
  rollback_claims =
      record {
        one = (one_then, λ n. answer (unfit_one (unfit_false ix n)));
        two = (two_then, λ r. answer (damaged_two (index-fits ix r.0) (unsound_false ix r.0 r.1)));
        seven = (seven_then, λ r. answer (mark_seven (index-fits ix r.0) (sound_yes r.0.tree r.1) r.2));
        eight = (
          eight_then,
          λ r. (let h = r.2.0 in
              answer (misfit_eight (index-fits ix r.0) (sound_yes r.0.tree h) r.1 (no_undo r.0 h r.1 r.2.1))),
        );
        accepted = λ c. (
          given-then c,
          λ r. (let h = r.3.0 in let u = of_fits r.0 h r.1 r.3.1 in
              done-given (index-fits ix r.0) (sound_yes r.0.tree h) u.0 r.1 u.1 ∙ ap given (sym r.2)),
        );
        nothing_written = nothing_written;
        done = λ c q h. (let l = done c q h in (l.0, l.1, l.2, l.3, l.4));
        line_by_line = λ c q h. (let l = done c q h in (l.0, l.5));
      }
    where
      no_undo : FitIndex ix → (h : Sound ix.live) → m ≤ length_of ix.lines
          → (Fits (slots_of ix.live.names) ix.lines m (length_of ix.lines) (listing h) → ⊥)
          → unrolled count ix.live ix.lines m ≡ misfit
      no_undo f h l n = go (unrolled count ix.live ix.lines m) refl
        where
          go : (o : Undo) → unrolled count ix.live ix.lines m ≡ o → unrolled count ix.live ix.lines m ≡ misfit
          go (stays t) e = let r = fits_of f h l t e in absurd (n (listing r.sound, r.undoes))
          go misfit e = e

  -- Refused, or given the lines undone.
  pub rollback_settled : ((rolls ix m).answer.number ≢ 0) ⊎ ((c : ℕ) × ((rolls ix m).answer ≡ given c))
  rollback_settled = go did
    where
      go : Did → ((rolls ix m).answer.number ≢ 0) ⊎ ((c : ℕ) × ((rolls ix m).answer ≡ given c))
      go (one n e) = inl (λ q. omega (arith, number (answer e)))
      go (two f n e) = inl (λ q. omega (arith, number (answer e)))
      go (seven f h l e) = inl (λ q. omega (arith, number (answer e)))
      go (eight f h l n e) = inl (λ q. omega (arith, number (answer e)))
      go (taken f h l t s e r) = inr (length_of ix.lines - m, e)
