-- The loader's ranges and the room for its counts, tested one by one; and the bytes that it counts.
use mathlib.Core.Path.{◌≡◌, refl, sym, ◌∙◌}
use mathlib.Core.Bool.{Bool, true, false}
use Prim.Native.Nat.{ℕ, zero, suc, ◌+◌, ◌*◌, ◌/◌, ◌%◌, ◌^◌, ◌<◌, ◌≤◌}
use native.Mathlib.Decide.{ℕ_discrete}
use native.Mathlib.Omega.{arith}
use native.Mathlib.Numerals.{add-one}
use lib.ListN.{length, get_or-eq_default}
use lib.Dec.{ltb, eqb}
use borrow.Author.Tests.{eqb-false, eqb-true, ltb-true, ltb-false, le-leb, lt-leb}
use Rattle.slots.specs.Answers.{Answer}
use Rattle.upload_rules.specs.Reader.{unsaid, said}
use Rattle.upload_rules.proofs.Ranges.{no_test}
use Rattle.set_rules.specs.Words.{Set}
use Rattle.file_rules.specs.Layout.{section_words, most_of, can_hold}
use Rattle.file_rules.specs.Loader.{Loader, count_taken, next_width, FitLoader, count_fits, fits_loader, has_room, words_long, begun_long}
use Rattle.file_rules.specs.Loader.{slot_long, wholes_long, taken_of}
use Rattle.file_rules.specs.Loading.{loading, may_count, may_go_on}
use Rattle.file_rules.proofs.Testing.{in_range_lem, range_in, room_in, in_room, count_in, count-test}
use Rattle.file.specs.Ranged.{CountsTold}
use Rattle.file.proofs.Tables.{most_small, width_most}

-- A test that does not hold.
pub not_so : (x : Bool) → (x ≡ true → ⊥) → x ≡ false
not_so true n = absurd (n refl)
not_so false n = refl

-- What holds below s and of s holds below s + 1.
pub one_more_lem : (P : ℕ → Type 0) (s : ℕ) → ((k : ℕ) → k < s → P k) → P s → (k : ℕ) → k < s + 1 → P k
one_more_lem P s h p k l = go (ℕ_discrete k s)
  where
    go : Dec (k ≡ s) → P k
    go (yes e) = rw e p
    go (no n) = h k (omega arith)

module _ (r : Loader) where
  pub out_of_range : (FitLoader r → ⊥) → false ≡ fits_loader r
  out_of_range n = sym (not_so (fits_loader r) (λ e. n (range_in r e)))

  pub told-not : (s : ℕ) {x : Bool} → s < 4 → x ≡ count_fits r s → x ≡ false → CountsTold r false
  told-not s l e f =
      record {
        counts = λ z. absurd (no_test refl z);
        none = λ z. sym (out_of_range (λ h. no_test (sym e ∙ f) (count-test r s l h)));
      }

  pub told_all : (s : ℕ) → 4 ≤ s → ((k : ℕ) → k < s → count_fits r k ≡ true) → CountsTold r true
  told_all s l h = record { counts = λ z k m. h k (omega arith); none = λ z. absurd (no_test z refl) }

  counts_small : length r.counts ≡ 4 → ((s : ℕ) → s < 4 → count_taken r s ≤ most_of s) → (s : ℕ) → count_taken r s ≤ 8160
  counts_small four limits s = go (ltb s 4) refl
    where
      go : (x : Bool) → ltb s 4 ≡ x → count_taken r s ≤ 8160
      go true e = omega (arith, limits s (ltb-true s 4 e), most_small s)
      go false e =
          let l = ltb-false s 4 e in
          let z = get_or-eq_default r.counts 0 {n = s} (omega (arith, four)) in
          omega arith

  pub fit_small : FitLoader r → (s : ℕ) → count_taken r s ≤ 8160
  fit_small h = counts_small h.four h.limits

  pub told-small : {x : Bool} → CountsTold r x → x ≡ true → length r.counts ≡ 4 → (s : ℕ) → count_taken r s ≤ 8160
  told-small h e four = counts_small four (λ s l. (count_in r s (h.counts e s l)).most)

  -- The tests in turn.
  module _ {count all : ℕ} (e : count ≡ count_taken r r.section) (g : all ≡ section_words r.section count) where
    pub words_out : all < r.at / 8 → false ≡ fits_loader r
    words_out l =
        let z : section_words r.section (count_taken r r.section) ≡ all = rw (← e, g) in
        out_of_range (λ h. let w = h.words in omega arith)

    module _ {width over : ℕ} (four : length r.counts ≡ 4) (sections : r.section ≤ 4) {x : Bool} (told : CountsTold r x)
        (yes : x ≡ true)
        (words : r.at / 8 ≤ all) (w : width ≡ next_width r.section (r.at / 8)) (bytes : r.at % 8 < width)
        (p : over ≡ 256 ^ (r.at % 8))
        (number : r.part < over) where
      pub in_fits : (r.section ≡ 4 → r.at ≡ 0) → true ≡ fits_loader r
      in_fits ended =
          sym (in_range_lem r (record {
            four = four;
            sections = sections;
            words = rw (← e, ← g) words;
            bytes = rw (← w) bytes;
            number = rw (← p) number;
            ended = ended;
            limits = λ s l. (count_in r s (told.counts yes s l)).most;
            later = λ s l. (count_in r s (told.counts yes s l)).none;
          }))

      pub ended_fits : r.section ≡ 4 → eqb r.at 0 ≡ fits_loader r
      ended_fits z = go (eqb r.at 0) refl
        where
          go : (b : Bool) → eqb r.at 0 ≡ b → b ≡ fits_loader r
          go true m = in_fits (λ y. eqb-true r.at 0 m)
          go false m = out_of_range (λ h. eqb-false r.at 0 m (h.ended z))

  pub width_out : {width : ℕ} → width ≡ next_width r.section (r.at / 8) → width ≤ r.at % 8 → false ≡ fits_loader r
  width_out e l = out_of_range (λ h. let b = h.bytes in omega arith)

  pub part_out : {over : ℕ} → over ≡ 256 ^ (r.at % 8) → over ≤ r.part → false ≡ fits_loader r
  part_out e l = out_of_range (λ h. let b = h.number in omega arith)

section_most : (s c : ℕ) → section_words s c ≤ 9 * c
unfolding section_words
section_most zero c = omega arith
section_most (suc zero) c = omega arith
section_most (suc (suc zero)) c = omega arith
section_most (suc (suc (suc s))) c = omega arith

module _ (r : Loader) (h : FitLoader r) where
  pub words_most : r.at / 8 ≤ 73440
  words_most =
      let w = h.words in
      let a = section_most r.section (count_taken r r.section) in
      let b = fit_small r h r.section in
      omega arith

  -- The bytes of a section, of those before, and all.
  pub whole_is : (s : ℕ) {w all count : ℕ} → w ≡ words_long s all → all ≡ section_words s count → count ≡ count_taken r s
      → 4 + w ≡ 4 + words_long s (section_words s (count_taken r s))
  whole_is s e f g = rw (e, f, g)

  pub wholes_none : 0 ≡ wholes_long r 0
  unfolding wholes_long
  wholes_none = refl

  pub wholes_on : (s : ℕ) {bytes w : ℕ} → bytes ≡ wholes_long r s → w ≡ 4 + words_long s (section_words s (count_taken r s))
      → bytes + w ≡ wholes_long r (s + 1)
  unfolding wholes_long
  wholes_on s e f = rw (add-one s, e, f)

  pub taken_is : {a b : ℕ} → a ≡ wholes_long r r.section → b ≡ begun_long r.section (r.at / 8) → a + (b + r.at % 8) ≡ taken_of r
  unfolding taken_of
  taken_is e f = rw (e, f)

-- Room for the counts.
module _ (r : Loader) (t : Set) where
  pub no_room : (s : ℕ) {x : Bool} {count : ℕ} → s < 4 → count ≡ count_taken r s → x ≡ can_hold t s count → x ≡ false → false ≡ has_room r t
  no_room s l e f g = sym (not_so (has_room r t) (λ z. no_test (rw e at (sym f ∙ g)) (in_room r t z s l)))

  pub room_so : (s : ℕ) {x : Bool} {count : ℕ} → count ≡ count_taken r s → x ≡ can_hold t s count → x ≡ true
      → can_hold t s (count_taken r s) ≡ true
  room_so s e f g = rw e at (sym f ∙ g)

  pub all_room : (s : ℕ) → 4 ≤ s → ((k : ℕ) → k < s → can_hold t k (count_taken r k) ≡ true) → true ≡ has_room r t
  all_room s l h = sym (room_in r t (λ k m. h k (omega arith)))

-- A count within its limit and the slices.
module _ (t : Set) (s c : ℕ) {most : ℕ} (e : most ≡ most_of s) where
  pub count-over : most < c → false ≡ may_count t s c
  unfolding may_count
  count-over l = rw (← e, lt-leb c most l)

  pub count_within : c ≤ most → {x : Bool} → x ≡ can_hold t s c → x ≡ may_count t s c
  unfolding may_count
  count_within l f = f ∙ rw (← e, le-leb c most l)

-- Whether a call may go on.
module _ (r : Loader) (t : Set) {fits : Bool} (e : fits ≡ fits_loader r) where
  pub may_not : fits ≡ false → false ≡ may_go_on (loading r t)
  unfolding may_go_on
  may_not f = rw (← e, f)

  pub may_said : fits ≡ true → {a : Answer} → r.note ≡ said a → true ≡ may_go_on (loading r t)
  unfolding may_go_on
  may_said f n = rw (← e, f, n)

  pub may_open : fits ≡ true → r.note ≡ unsaid → {x : Bool} → x ≡ has_room r t → x ≡ may_go_on (loading r t)
  unfolding may_go_on
  may_open f n g = g ∙ rw (← e, f, n)

  pub is_fit : fits ≡ true → FitLoader r
  is_fit f = range_in r (sym e ∙ f)

-- The bytes that a loader in range counts are few.
slot_long_most : (f : ℕ) → slot_long f ≤ 8 * f
unfolding slot_long
slot_long_most zero = omega arith
slot_long_most (suc f) = omega (arith, slot_long_most f, width_most f)

words_long_most : (s j : ℕ) → words_long s j ≤ 5 * j + 72
unfolding words_long
words_long_most zero j = omega arith
words_long_most (suc zero) j = omega arith
words_long_most (suc (suc zero)) j = omega arith
words_long_most (suc (suc (suc s))) j = omega (arith, slot_long_most (j % 9))

module _ (r : Loader) (h : FitLoader r) where
  wholes_most : (s : ℕ) → wholes_long r s ≤ 367280 * s
  unfolding wholes_long
  wholes_most zero = omega arith
  wholes_most (suc s) =
      let a = words_long_most s (section_words s (count_taken r s)) in
      let b = section_most s (count_taken r s) in
      let c = fit_small r h s in
      omega (arith, wholes_most s)

  begun_most : (s f : ℕ) → f ≤ 73440 → begun_long s f ≤ 367280
  unfolding begun_long
  begun_most s zero l = omega arith
  begun_most s (suc j) l = omega (arith, words_long_most s j)

  pub taken-small : taken_of r < 4294967296
  unfolding taken_of
  taken-small =
      let a = wholes_most r.section in
      let b = begun_most r.section (r.at / 8) (words_most r h) in
      let c = h.sections in
      omega arith
