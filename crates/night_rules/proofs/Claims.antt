-- Every claim of the crate holds: the laws of the other files, put together.
use mathlib.Core.Path.{◌≡◌, refl, ap, sym, ◌∙◌}
use mathlib.Core.Logic.{◌≢◌, ◌⊎◌, inl, inr}
use mathlib.Core.List.{List}
use Prim.Native.Nat.{ℕ}
use native.Mathlib.Decide.{ℕ_discrete}
use native.Mathlib.Omega.{arith}
use lib.ListN.{length}
use borrow.Author.Tests.{eq-eqb, ne_eqb}
use Rattle.slots.specs.Answers.{given, refused}
use Rattle.slots.proofs.Laws.{number, given_is}
use Rattle.index_rules.specs.Live.{Live, Fit}
use Rattle.index_rules.specs.Sound.{Sound}
use Rattle.index_rules.proofs.Fit.{fit_fits, fits_fit}
use Rattle.index_rules.proofs.Sounding.{sound_claims}
use Rattle.night_rules.specs.Account.{Account, tells_sound, shown_words, Explained, explained}
use Rattle.night_rules.specs.Reason.{Reason}
use Rattle.night_rules.specs.Why.{why, whys}
use Rattle.night_rules.specs.Claims.{ShownTable, Reasons, Whys, Claims}
use Rattle.night_rules.proofs.Standing.{three_complete}
use Rattle.night_rules.proofs.Seated.{three_none}
use Rattle.night_rules.proofs.Chained.{seven_complete, seven_none}
use Rattle.night_rules.proofs.Testing.{dec_tests, one_tests, one_none, one_complete, header_none, three_tests, seven_tests}
use Rattle.night_rules.proofs.Ordering.{four_tests, four_complete, four_none}
use Rattle.night_rules.proofs.Colours.{five_tests, five_complete, five_none}
use Rattle.night_rules.proofs.Levels.{six_complete, six_none}
use Rattle.night_rules.proofs.Ways.{six_tests}
use Rattle.night_rules.proofs.Sizes.{eight_tests, eight_complete, eight_none}
use Rattle.night_rules.proofs.Telling.{off, told-sound, sound_or}
use Rattle.night_rules.proofs.Breaking.{broken}
use Rattle.night_rules.proofs.Examining.{found}
use Rattle.night_rules.proofs.Only.{only, unsound, numbered}
use Rattle.night_rules.proofs.Salvaged.{cleared_exactly, salvage_claims}

module _ {t : Live} (fit : Fit t) where
  numbered-sound : (why t).rule ≡ 0 → Sound t
  numbered-sound e = go (sound_or fit)
    where
      go : Sound t ⊎ Reason t (why t) → Sound t
      go (inl h) = h
      go (inr r) = absurd (numbered fit r e)

  reasoned : (Sound t → ⊥) → Reason t (why t)
  reasoned d = go (sound_or fit)
    where
      go : Sound t ⊎ Reason t (why t) → Reason t (why t)
      go (inl h) = absurd (d h)
      go (inr r) = r

  reason_claims : Reasons t
  reason_claims =
      record {
        sound = (λ e. numbered-sound (ap (λ (w : Account). w.rule) e), told-sound fit);
        number = (numbered-sound, λ s. ap (λ (w : Account). w.rule) (told-sound fit s));
        reason = reasoned;
        only = λ w r. only fit r;
        one_reason = λ w v r s. only fit r ∙ sym (only fit s);
        no_reason = λ s w r. unsound fit r s;
      }

module _ (t : Live) (shown : List ℕ) where
  -- Which of the two the call comes to.
  data Comes : Explained → Type 0 where
    refuses : ((Fit t × (length shown ≡ 8)) → ⊥) → Comes (explained (refused 1) shown)
    tells : Fit t → length shown ≡ 8 → Comes (explained (given (why t).rule) (shown_words (why t)))

  comes : Comes (whys t shown)
  unfolding whys
  comes = go (dec_tests (fits_fit t, fit_fits t)) (ℕ_discrete (length shown) 8)
    where
      go : Dec (Fit t) → Dec (length shown ≡ 8) → Comes (whys t shown)
      go (yes f) (yes e) = simp (fit_fits t f, eq-eqb (length shown) 8 e) (tells f e)
      go (yes f) (no d) = simp (fit_fits t f, ne_eqb (length shown) 8 d) (refuses (λ h. d h.1))
      go (no n) (yes e) = simp (off (fits_fit t, fit_fits t) n, eq-eqb (length shown) 8 e) (refuses (λ h. n h.0))
      go (no n) (no d) = simp (off (fits_fit t, fit_fits t) n, ne_eqb (length shown) 8 d) (refuses (λ h. n h.0))

  why_claims : Whys t shown
  why_claims =
      record {
        one = (one comes, back comes);
        stays = stays comes;
        only_one = only_one comes;
        sound = (
          λ e. (let h = sound comes e in (h.1, (sound_claims t).yes.1 (h.0, h.2))),
          λ h. (let s = (sound_claims t).yes.0 h.1 in tells_sound_lem comes s.0 h.0 s.1),
        );
        nulls = nulls comes;
        reason = reason comes;
      }
    where
      one : {r : Explained} → Comes r → r.answer ≡ refused 1 → (Fit t × (length shown ≡ 8)) → ⊥
      one (refuses d) e = d
      one (tells f l) e = absurd (omega (arith, number e))

      back : {r : Explained} → Comes r → ((Fit t × (length shown ≡ 8)) → ⊥) → r.answer ≡ refused 1
      back (refuses d) n = refl
      back (tells f l) n = absurd (n (f, l))

      stays : {r : Explained} → Comes r → r.answer ≡ refused 1 → r.shown ≡ shown
      stays (refuses d) e = refl
      stays (tells f l) e = absurd (omega (arith, number e))

      only_one : {r : Explained} → Comes r → (m : ℕ) → m ≢ 0 → r.answer.number ≡ m → r.answer ≡ refused 1
      only_one (refuses d) m n e = refl
      only_one (tells f l) m n e = absurd (n (sym e))

      sound : {r : Explained} → Comes r → r.answer ≡ given 0 → Fit t × (length shown ≡ 8) × Sound t
      sound (refuses d) e = absurd (omega (arith, number e))
      sound (tells f l) e = (f, l, numbered-sound f (given_is e))

      tells_sound_lem : {r : Explained} → Comes r → Fit t → length shown ≡ 8 → Sound t → r.answer ≡ given 0
      tells_sound_lem (refuses d) f l s = absurd (d (f, l))
      tells_sound_lem (tells g m) f l s = ap (λ (w : Account). given w.rule) (told-sound f s)

      nulls : {r : Explained} → Comes r → r.answer ≡ given 0 → r.shown ≡ shown_words tells_sound
      nulls (refuses d) e = absurd (omega (arith, number e))
      nulls (tells f l) e = ap shown_words (told-sound f (numbered-sound f (given_is e)))

      reason : {r : Explained} → Comes r → (k : ℕ) → r.answer ≡ given k → k ≢ 0
          → (w : Account) × Reason t w × (w.rule ≡ k) × (r.shown ≡ shown_words w)
      reason (refuses d) k e m = absurd (omega (arith, number e))
      reason (tells f l) k e m =
          let z = given_is e in
          (why t, reasoned f (λ s. m (sym z ∙ ap (λ (w : Account). w.rule) (told-sound f s))), z, refl)

-- Each word of what is told.
table : ShownTable
table =
    record {
      slot = λ rule i. (refl, refl);
      header = λ rule. (refl, refl);
      pair = λ i j. (refl, refl);
      ways = λ i w v. (refl, refl);
      sound = (refl, refl);
    }

pub claims : Claims
claims =
    record {
      complete = λ t fit. record {
        one = (λ h. (one_none h, header_none h), λ p. one_complete p.0 p.1);
        three = λ one two. (λ h. three_none fit h.1, three_complete fit one two);
        four = λ three. (four_none fit three, four_complete fit three);
        five = λ three. (five_none fit three, five_complete fit three);
        six = λ three. (six_none fit three, six_complete fit three);
        seven = λ one two. (λ h. seven_none fit h.1, seven_complete fit one two);
        eight = λ one three. (eight_none fit one three, eight_complete fit one three);
      };
      tested = λ t fit i l. record {
        one = one_tests t i l;
        three = λ one. three_tests fit one i l;
        four = λ three. four_tests fit three i l;
        five = five_tests t i l;
        six = λ three. six_tests fit three i l;
        seven = λ one. seven_tests fit one i l;
        eight = λ one three. eight_tests fit one three i l;
      };
      shown = table;
      reasons = λ t fit. reason_claims fit;
      breaches = λ t fit w reason. broken fit reason;
      examined = λ t. found {t = t} reason_claims;
      whys = why_claims;
      cleared = λ u fit. cleared_exactly fit;
      salvages = salvage_claims;
    }
