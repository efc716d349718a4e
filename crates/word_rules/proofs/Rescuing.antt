-- The rules' call comes to a refusal, or to the slots kept, which are no more than 4,096; a word of the report is 0, 1, 2 or 3 and a slot,
-- and each says what the table has.
use mathlib.Core.Path.{◌≡◌, refl, ap, sym, ◌∙◌}
use mathlib.Core.Bool.{false≢true}
use mathlib.Core.List.{List}
use Prim.Native.Nat.{ℕ, zero, suc, ◌+◌, ◌*◌, ◌<◌, ◌≤◌}
use native.Mathlib.Decide.{dec_lt}
use native.Mathlib.Omega.{arith}
use lib.ListN.{get_or}
use Rattle.slots.specs.Words.{null}
use Rattle.slots.specs.Pairs.{pair_of}
use Rattle.slots.specs.Answers.{Answer, given, refused, answer_word}
use Rattle.slots.proofs.Laws.{given_is}
use Rattle.tree_rules.specs.Find.{slots_of}
use Rattle.index_rules.specs.Live.{Live}
use Rattle.night_rules.specs.Salvage.{Salvaged, salvaged, fits_salvage, salvages}
use Rattle.night_rules.specs.Saved.{FitSalvage, KeptSlot, Reports}
use Rattle.night_rules.specs.Claims.{Saves}
use Rattle.night_rules.proofs.Keeping.{below_most}
use Rattle.night_rules.proofs.Salvaged.{usable_least, usable_most, fit_tests}
use Rattle.night_rules.proofs.Claims.{claims}
use Rattle.word_rules.specs.Told.{gives}
use Rattle.word_rules.specs.Words.{SalvageWorded, salvage_worded}
use Rattle.word_rules.specs.Lent as L
use Rattle.word_rules.specs.Lent.{SavedSlot, ReportWord}
use Rattle.word_rules.specs.Leaving.{SalvageTold}
use Rattle.word_rules.proofs.Telling.{plainly, answer_tells}
use Rattle.word_rules.proofs.Answering.{picked}

module _ {names cells : List ℕ} where
  -- Of the slots with one pair there is one lowest.
  saved_one : {s c : ℕ} → SavedSlot names cells s → SavedSlot names cells c → pair_of names s ≡ pair_of names c → s ≡ c
  saved_one {s} {c} h k e = go (dec_lt s c) (dec_lt c s)
    where
      go : Dec (s < c) → Dec (c < s) → s ≡ c
      go (yes b) d = absurd (k.lowest s b h.usable e)
      go (no b) (yes d) = absurd (h.lowest c d k.usable (sym e))
      go (no b) (no d) = omega arith

  one_report : {i v w : ℕ} → ReportWord names cells i v → ReportWord names cells i w → v ≡ w
  one_report (L.kept h) (L.kept k) = refl
  one_report (L.kept h) (L.free e) = absurd (omega (arith, usable_least h.usable))
  one_report (L.kept h) (L.unknown l) = absurd (omega (arith, usable_most h.usable))
  one_report (L.kept h) (L.repeats u l k e) = absurd (h.lowest _ l k.usable e)
  one_report (L.free e) (L.kept k) = absurd (omega (arith, usable_least k.usable))
  one_report (L.free e) (L.free f) = refl
  one_report (L.free e) (L.unknown l) = absurd (omega arith)
  one_report (L.free e) (L.repeats u l k f) = absurd (omega (arith, usable_least u))
  one_report (L.unknown l) (L.kept k) = absurd (omega (arith, usable_most k.usable))
  one_report (L.unknown l) (L.free e) = absurd (omega arith)
  one_report (L.unknown l) (L.unknown m) = refl
  one_report (L.unknown l) (L.repeats u m k e) = absurd (omega (arith, usable_most u))
  one_report (L.repeats u l h e) (L.kept k) = absurd (k.lowest _ l h.usable e)
  one_report (L.repeats u l h e) (L.free f) = absurd (omega (arith, usable_least u))
  one_report (L.repeats u l h e) (L.unknown m) = absurd (omega (arith, usable_most u))
  one_report (L.repeats u l h e) (L.repeats v m k f) = ap (λ (s : ℕ). 3 + s) (saved_one h k (e ∙ sym f))

pub report_one : (names cells : List ℕ) (i v w : ℕ) → ReportWord names cells i v → ReportWord names cells i w → v ≡ w
report_one names cells i v w = one_report

-- What the report says of a slot is the table's.
module _ {names cells r : List ℕ} (says : (i : ℕ) → i < slots_of names → Reports names cells r i) where
  saved : (i : ℕ) → i < slots_of names → KeptSlot r i → SavedSlot names cells i
  saved i l k = let h = (says i l).lowest.0 k in record { usable = h.0; lowest = h.1 }

  words : (i : ℕ) → i < slots_of names → ReportWord names cells i (get_or r i null)
  words i l = go (get_or r i null) refl
    where
      go : (w : ℕ) → get_or r i null ≡ w → ReportWord names cells i w
      go zero e = L.kept (saved i l e)
      go (suc zero) e = L.free ((says i l).free.0 e)
      go (suc (suc zero)) e = L.unknown ((says i l).unknown.0 e)
      go (suc (suc (suc s))) e =
          let z : 3 + s ≡ suc (suc (suc s)) = omega arith in
          let h = ((says i l).repeats s).0 (e ∙ sym z) in
          rw (← z) (L.repeats h.0 h.1 (saved s (omega (arith, h.1)) h.2) h.3)

module _ (names cells : List ℕ) (u : Live) (report : List ℕ) where
  -- Which of the two the call comes to.
  data Comes : Salvaged → Type 0 where
    refuses : (FitSalvage names cells u report → ⊥) → Comes (salvaged (refused 1) u report)
    saves : FitSalvage names cells u report → {k : ℕ} {v : Live} {q : List ℕ} → Saves names cells u report (salvaged (given k) v q)
        → Comes (salvaged (given k) v q)

  comes : Comes (salvages names cells u report)
  unfolding salvages
  comes =
      picked Comes (fits_salvage names cells u report)
      (λ e. (let f = (fit_tests names cells u report).0 e in saves f (rw e at ((claims.salvages names cells u report).done f))))
      (λ e. refuses (λ f. false≢true (sym e ∙ (fit_tests names cells u report).1 f)))

  told : {o : Salvaged} → Comes o → SalvageTold names cells u report o (salvage_worded o)
  unfolding salvage_worded answer_word
  told (refuses d) =
      record {
        tells = answer_tells (plainly 1 refl);
        one = (λ e. d, λ n. omega arith);
        only_one = λ n. omega arith;
        stays = λ n. (refl, refl);
        few = λ e. absurd (omega arith);
        saves = λ e. absurd (omega arith);
        words = λ e i l. absurd (omega arith);
      }
  told (saves f {k} {v} {q} h) =
      let m : k ≤ slots_of names = omega (arith, given_is h.answer, below_most q (slots_of names)) in
      let b : k ≤ 4096 = omega (arith, f.two, f.most) in
      let z : k + 4294967296 * 0 ≡ k = omega arith in
      record {
        tells = answer_tells (gives {v = k} (omega arith));
        one = (λ e. absurd (omega arith), λ n. absurd (n f));
        only_one = λ n. absurd (n (omega arith));
        stays = λ n. absurd (n (omega arith));
        few = λ e. omega arith;
        saves = λ e. rw z h;
        words = λ e. words h.reports;
      }

pub salvage_tells : (names cells : List ℕ) (u : Live) (report : List ℕ)
    → SalvageTold names cells u report (salvages names cells u report) (salvage_worded (salvages names cells u report))
salvage_tells names cells u report = told names cells u report (comes names cells u report)

-- The library's outcome in words.
pub tells_salvage : {w : ℕ} {a : Answer} {v : Live} {q : List ℕ} {o : Salvaged} → w ≡ answer_word a → salvaged a v q ≡ o
    → ◌≡◌ {A = SalvageWorded} (record { word = w; into = v; report = q }) (salvage_worded o)
unfolding salvage_worded answer_word
tells_salvage e f = rw e (ap salvage_worded f)
