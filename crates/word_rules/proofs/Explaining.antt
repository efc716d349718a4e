-- The rules' call comes to a refusal, to a sound tree or to the one true reason; its word is below 2^32 exactly where it is no refusal, and
-- the eight words are written over a slice of eight, so they are all of it.
use mathlib.Core.Path.{◌≡◌, refl, ap, sym, ◌∙◌}
use mathlib.Core.Logic.{◌≢◌}
use mathlib.Core.Bool.{false≢true}
use mathlib.Core.List.{List, [], ◌∷◌}
use Prim.Native.Nat.{ℕ, zero, suc, ◌+◌, ◌*◌, ◌<◌, ◌≤◌}
use native.Mathlib.Decide.{ℕ_discrete}
use native.Mathlib.Omega.{arith}
use lib.ListN.{length, get_or, set}
use lib.Dec.{eqb}
use borrow.Author.Tests.{eq-eqb, eqb-true}
use Rattle.slots.specs.Words.{null, ◌and◌}
use Rattle.slots.specs.Answers.{Answer, given, refused, answer_word}
use Rattle.index_rules.specs.Live.{Live, Fit, fits}
use Rattle.index_rules.specs.Sound.{Sound}
use Rattle.index_rules.proofs.Fit.{both, fit_fits, fits_fit}
use Rattle.night_rules.specs.Account.{Account, tells_sound, shown_words, Explained, explained}
use Rattle.night_rules.specs.Reason.{Reason}
use Rattle.night_rules.specs.Why.{why, whys}
use Rattle.night_rules.proofs.Claims.{claims}
use Rattle.night.specs.Shown.{Telling, why_told, telling_answer, telling_shown}
use Rattle.night.proofs.Claims.{claims as night-claims}
use Rattle.word_rules.specs.Told.{gives}
use Rattle.word_rules.specs.Words.{WhyWorded, why_worded}
use Rattle.word_rules.specs.Lent as L
use Rattle.word_rules.specs.Lent.{AccountWords, SaysNothing}
use Rattle.word_rules.specs.Leaving.{ReasonTold}
use Rattle.word_rules.proofs.Telling.{plainly, answer_tells}
use Rattle.word_rules.proofs.Answering.{picked}
use Rattle.word_rules.proofs.Holding.{OfLength, end, one}

-- The words behind slot and other are null where no way is told.
no_ways : (a b at : ℕ) → 2 ≤ at → at < 8
    → get_or (a ∷ b ∷ null ∷ null ∷ null ∷ null ∷ null ∷ null ∷ []) at 0 ≡ null
no_ways a b zero l m = absurd (omega arith)
no_ways a b (suc zero) l m = absurd (omega arith)
no_ways a b (suc (suc zero)) l m = refl
no_ways a b (suc (suc (suc zero))) l m = refl
no_ways a b (suc (suc (suc (suc zero)))) l m = refl
no_ways a b (suc (suc (suc (suc (suc zero))))) l m = refl
no_ways a b (suc (suc (suc (suc (suc (suc zero)))))) l m = refl
no_ways a b (suc (suc (suc (suc (suc (suc (suc zero))))))) l m = refl
no_ways a b (suc (suc (suc (suc (suc (suc (suc (suc at)))))))) l m = absurd (omega arith)

all_null : (at : ℕ) → at < 8 → get_or (shown_words tells_sound) at 0 ≡ null
all_null zero m = refl
all_null (suc zero) m = refl
all_null (suc (suc at)) m = no_ways null null (suc (suc at)) (omega arith) m

account_words : (a : Account) → AccountWords (shown_words a) a
account_words a =
    record {
      eight = refl;
      slot = refl;
      other = refl;
      one_last = refl;
      one_side = refl;
      one_blacks = refl;
      two_last = refl;
      two_side = refl;
      two_blacks = refl;
    }

module _ (t : Live) where
  -- A reason's number is one of eight.
  few_rules : {a : Account} → Reason t a → (1 ≤ a.rule) × (a.rule ≤ 8)
  few_rules (Reason.one b l) = (omega arith, omega arith)
  few_rules (Reason.one_header b none h) = (omega arith, omega arith)
  few_rules (Reason.two_header a b) = (omega arith, omega arith)
  few_rules (Reason.three a c b l) = (omega arith, omega arith)
  few_rules (Reason.four up b l m) = (omega arith, omega arith)
  few_rules (Reason.five up four b l) = (omega arith, omega arith)
  few_rules (Reason.six up four five b l x y mw mv d) = (omega arith, omega arith)
  few_rules (Reason.seven up b l) = (omega arith, omega arith)
  few_rules (Reason.eight chain up seven b l) = (omega arith, omega arith)

  -- The header's reason has no slot, one of a rule but T4 no other, one of a rule but T6 no ways.
  no_slot : {a : Account} → Reason t a → a.rule ≡ 2 → a.slot ≡ null
  no_slot (Reason.one b l) e = absurd (omega arith)
  no_slot (Reason.one_header b none h) e = refl
  no_slot (Reason.two_header a b) e = refl
  no_slot (Reason.three a c b l) e = absurd (omega arith)
  no_slot (Reason.four up b l m) e = absurd (omega arith)
  no_slot (Reason.five up four b l) e = absurd (omega arith)
  no_slot (Reason.six up four five b l x y mw mv d) e = absurd (omega arith)
  no_slot (Reason.seven up b l) e = absurd (omega arith)
  no_slot (Reason.eight chain up seven b l) e = absurd (omega arith)

  no_other : {a : Account} → Reason t a → a.rule ≢ 4 → a.other ≡ null
  no_other (Reason.one b l) n = refl
  no_other (Reason.one_header b none h) n = refl
  no_other (Reason.two_header a b) n = refl
  no_other (Reason.three a c b l) n = refl
  no_other (Reason.four up b l m) n = absurd (n refl)
  no_other (Reason.five up four b l) n = refl
  no_other (Reason.six up four five b l x y mw mv d) n = refl
  no_other (Reason.seven up b l) n = refl
  no_other (Reason.eight chain up seven b l) n = refl

  neither_way : {a : Account} → Reason t a → a.rule ≢ 6 → (at : ℕ) → 2 ≤ at → at < 8 → get_or (shown_words a) at 0 ≡ null
  neither_way (Reason.one b l) n = no_ways _ _
  neither_way (Reason.one_header b none h) n = no_ways _ _
  neither_way (Reason.two_header a b) n = no_ways _ _
  neither_way (Reason.three a c b l) n = no_ways _ _
  neither_way (Reason.four up b l m) n = no_ways _ _
  neither_way (Reason.five up four b l) n = no_ways _ _
  neither_way (Reason.six up four five b l x y mw mv d) n = absurd (n refl)
  neither_way (Reason.seven up b l) n = no_ways _ _
  neither_way (Reason.eight chain up seven b l) n = no_ways _ _

  says_nothing : {a : Account} {rule at : ℕ} → Reason t a → rule ≡ a.rule → at < 8 → SaysNothing rule at
      → get_or (shown_words a) at 0 ≡ null
  says_nothing r e m L.sound = absurd (omega (arith, (few_rules r).0))
  says_nothing r e m L.header = no_slot r (sym e)
  says_nothing r e m (L.other n) = no_other r (λ z. n (e ∙ z))
  says_nothing r e m (L.ways n l) = neither_way r (λ z. n (e ∙ z)) _ l m

  module _ (shown : List ℕ) where
    -- Which of the three the call comes to.
    data Comes : Explained → Type 0 where
      refuses : ((Fit t × (length shown ≡ 8)) → ⊥) → Comes (explained (refused 1) shown)
      sound : Fit t → length shown ≡ 8 → Sound t → Comes (explained (given 0) (shown_words tells_sound))
      broken : Fit t → length shown ≡ 8 → (Sound t → ⊥) → (a : Account) → Reason t a → Comes (explained (given a.rule) (shown_words a))

    comes_told : Fit t → length shown ≡ 8 → Comes (explained (given (why t).rule) (shown_words (why t)))
    comes_told f l = go (ℕ_discrete (why t).rule 0)
      where
        go : Dec ((why t).rule ≡ 0) → Comes (explained (given (why t).rule) (shown_words (why t)))
        go (yes e) = let s = (claims.reasons t f).number.0 e in rw ((claims.reasons t f).sound.1 s) (sound f l s)
        go (no d) =
            let u : Sound t → ⊥ = λ s. d ((claims.reasons t f).number.1 s) in
            broken f l u (why t) ((claims.reasons t f).reason u)

    comes : Comes (whys t shown)
    unfolding whys
    comes =
        picked Comes (fits t and eqb (length shown) 8)
        (λ e. (let h = both (fits t) _ e in comes_told (fits_fit t h.0) (eqb-true (length shown) 8 h.1)))
        (λ e. refuses (λ h. false≢true (sym e ∙ rw (fit_fits t h.0, eq-eqb (length shown) 8 h.1))))

    told : {o : Explained} → Comes o → ReasonTold t shown o (why_worded o)
    unfolding why_worded answer_word
    told (refuses d) =
        record {
          tells = answer_tells (plainly 1 refl);
          one = (λ e. d, λ n. omega arith);
          stays = λ n. refl;
          only_one = λ n. omega arith;
          sound = (λ e. absurd (omega arith), λ h. absurd (d (h.0, h.1)));
          rules = λ e. absurd (omega arith);
          reason = λ e n. absurd (omega arith);
          nulls = λ e at l s. absurd (omega arith);
        }
    told (sound f l s) =
        record {
          tells = answer_tells (gives {v = 0} (omega arith));
          one = (λ e. absurd (omega arith), λ n. absurd (n (f, l)));
          stays = λ n. absurd (n (omega arith));
          only_one = λ n. absurd (n (omega arith));
          sound = (λ e. (f, l, s), λ h. omega arith);
          rules = λ e. omega arith;
          reason = λ e n. absurd (n (omega arith));
          nulls = λ e at m z. all_null at m;
        }
    told (broken f l u a r) =
        let k = few_rules r in
        record {
          tells = answer_tells (gives {v = a.rule} (omega (arith, k.1)));
          one = (λ e. absurd (omega (arith, k.1)), λ n. absurd (n (f, l)));
          stays = λ n. absurd (n (omega (arith, k.1)));
          only_one = λ n. absurd (n (omega (arith, k.1)));
          sound = (λ e. absurd (omega (arith, k.0)), λ h. absurd (u h.2));
          rules = λ e. omega (arith, k.1);
          reason = λ e n. (a, r, omega arith, account_words a);
          nulls = λ e at m z. says_nothing r (omega arith) m z;
        }

pub why_tells : (t : Live) (shown : List ℕ) → ReasonTold t shown (whys t shown) (why_worded (whys t shown))
why_tells t shown = told t shown (comes t shown)

-- The eight writes, one after another.
pub shown_written : {w : List ℕ} → OfLength 8 w → (a : Account) {w1 w2 w3 w4 w5 w6 w7 w8 : List ℕ} → w1 ≡ set w 0 a.slot
    → w2 ≡ set w1 1 a.other → w3 ≡ set w2 2 a.one.last → w4 ≡ set w3 3 a.one.side → w5 ≡ set w4 4 a.one.blacks
    → w6 ≡ set w5 5 a.two.last → w7 ≡ set w6 6 a.two.side → w8 ≡ set w7 7 a.two.blacks
    → w8 ≡ shown_words a
shown_written (one b (one c (one d (one e (one f (one g (one h (one i end)))))))) a e1 e2 e3 e4 e5 e6 e7 e8 =
    rw (e8, e7, e6, e5, e4, e3, e2, e1)

-- A `shown` of another length is refused; else what is told is the call.
module _ (t : Live) (w : List ℕ) where
  pub why_short : length w ≢ 8 → {r : ℕ} → r ≡ 0 + 4294967296 * 1
      → ◌≡◌ {A = WhyWorded} (record { word = r; shown = w }) (why_worded (whys t w))
  unfolding why_worded answer_word
  why_short n e =
      let q = claims.whys t w in
      let z = q.one.1 (λ h. n h.1) in
      let p = e ∙ ap answer_word (sym z) in
      let s = sym (q.stays z) in
      λ i. record { word = p i; shown = s i }

  pub why_long : length w ≡ 8 → {r : ℕ} {u : List ℕ} {a : Answer} {x : Telling} → x ≡ why_told t → u ≡ telling_shown x w
      → a ≡ telling_answer x → r ≡ answer_word a
      → ◌≡◌ {A = WhyWorded} (record { word = r; shown = u }) (why_worded (whys t w))
  unfolding why_worded
  why_long l e f g h = rw (h, g, f, e) (ap why_worded (sym (night-claims.why-called t w l)))
