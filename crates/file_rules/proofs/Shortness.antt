-- A file is short exactly where some section is not whole: one way from what the loader holds, the other since so few bytes end neither a
-- count nor the last word of a section.
use mathlib.Core.Path.{◌≡◌, refl, ap, sym, ◌∙◌}
use mathlib.Core.Bool.{true}
use mathlib.Core.Logic.{◌≢◌}
use mathlib.Core.List.{List, [], ◌∷◌, ◌++◌, append_assoc}
use Prim.Native.Nat.{ℕ, zero, suc, ◌+◌, ◌*◌, ◌/◌, ◌%◌, ◌<◌, ◌≤◌}
use native.Mathlib.Decide.{ℕ_discrete, dec_lt}
use native.Mathlib.Omega.{arith}
use lib.ListN.{length, get_or, set, length-append}
use lib.Seq.{get_or-set_same}
use borrow.Author.Tests.{ne_eqb}
use Rattle.endian.specs.Bytes.{little}
use Rattle.endian.proofs.Endian.{little-length}
use Rattle.upload_rules.specs.Reader.{unsaid}
use Rattle.set_rules.specs.Words.{Set}
use Rattle.file_rules.specs.File.{set_front, counts_in}
use Rattle.file_rules.specs.Layout.{field_of, section_words, most_of, can_hold, put_field}
use Rattle.file_rules.specs.Loader.{Loader, count_taken, new_loader, next_width, FitLoader, RoomFor, slot_long, words_long}
use Rattle.file_rules.specs.Loading.{Loading, loading, loader_at, after_words, with_count, may_count, word_came, with_byte, byte_loaded}
use Rattle.file_rules.specs.Loading.{bytes_loaded, cut_out}
use Rattle.file_rules.specs.Faults.{Loadable, MayHold, items_long, SectionPart, in_count, in_items, ShortFile}
use Rattle.file_rules.proofs.Counting.{both_may, may_allowed, allowed_may, may_alike}
use Rattle.file_rules.proofs.Ranges.{next-width, come_most, count_own, count-other, count_all}
use Rattle.file_rules.proofs.Testing.{none_held}
use Rattle.file_rules.proofs.Written.{fields_bytes, begun_bytes, wholes_bytes, came_bytes_at, came_bytes, wholes_same}
use Rattle.file_rules.proofs.Taken.{words_more, none_long, fields-length}
use Rattle.file_rules.proofs.Spelling.{front_bytes}
use Rattle.file_rules.proofs.Bringing.{bytes_loaded_append, between_words, byte_last, byte_more, run_count, Small, after_more}
use Rattle.file_rules.proofs.Returning.{up_to, filled_to, to_long, upto_long, run_wholes, fair_set}
use Rattle.file_rules.proofs.Tight.{Tight}
use Rattle.file_rules.proofs.Why.{SameLengths, cut_loadable, no_words}
use Rattle.file_rules.proofs.CutOut as O

words_mono : (s j k : ℕ) → j ≤ k → words_long s j ≤ words_long s k
words_mono s j zero l = let z : j ≡ 0 = omega arith in rw z (omega arith)
words_mono s j (suc k) l = go (dec_lt j (suc k)) (λ m. words_mono s j k m)
  where
    go : Dec (j < suc k) → (j ≤ k → words_long s j ≤ words_long s k) → words_long s j ≤ words_long s (suc k)
    go (yes m) before = let a = before (omega arith) in omega (arith, words_more s k)
    go (no m) before = let z : j ≡ suc k = omega arith in rw z (omega arith)

-- The words of c items are their bytes.
items_long_lem : (n c : ℕ) → words_long n (section_words n c) ≡ items_long n c
unfolding words_long section_words items_long slot_long
items_long_lem zero c = refl
items_long_lem (suc zero) c = refl
items_long_lem (suc (suc zero)) c = omega arith
items_long_lem (suc (suc (suc n))) c =
    let q : 9 * c / 9 ≡ c = omega arith in
    let z : 9 * c % 9 ≡ 0 = omega arith in
    rw (q, z) (omega arith)

module _ (t : Set) (r : Loader) (u : Set) (h : FitLoader r) (room : RoomFor r u) (kept : SameLengths t u) (l : List ℕ)
    (w : l ≡ came_bytes r u) (tight : Tight r.counts u r.section (r.at / 8)) (ahead : r.section < 4) where
  -- The loader without the count of the section that is not whole.
  abbrev q : Loader
  q = with_count r 0

  q_small : (s : ℕ) → s < 4 → Small u s (section_words s (count_taken q s))
  q_small s k = go (ℕ_discrete s r.section)
    where
      none : count_taken q s ≡ 0 → Small u s (section_words s (count_taken q s))
      none z j m = absurd (no_words s j (rw z at m))

      other : s ≢ r.section → Dec (s < r.section) → Small u s (section_words s (count_taken q s))
      other d (yes m) = rw (count-other r 0 s d) (tight.wholes s m)
      other d (no m) = none (count-other r 0 s d ∙ h.later s k (omega (arith, come_most r)))

      go : Dec (s ≡ r.section) → Small u s (section_words s (count_taken q s))
      go (yes e) = none (rw e (count_own r 0 ahead h.four))
      go (no d) = other d (dec_lt s r.section)

  q_room : RoomFor q u
  q_room = count_all (λ (s c : ℕ). can_hold u s c ≡ true) r 0 ahead h.four (none_held u r.section ahead) room

  q_loadable : Loadable t (cut_out q u)
  q_loadable =
      cut_loadable q t u kept (count_all (λ (s c : ℕ). c ≤ most_of s) r 0 ahead h.four (omega arith) h.limits) q_room q_small

  q_front : wholes_bytes r.counts u r.section ≡ set_front (cut_out q u) r.section
  q_front =
      let same : (i : ℕ) → i < r.section → count_taken r i ≡ count_taken q i = λ i k. sym (count-other r 0 i (λ z. omega arith)) in
      wholes_same r.counts (counts_in (cut_out q u)) u (cut_out q u) r.section
      (λ i k. same i k ∙ O.counts_cut q u q_room i (omega arith))
      (λ i k m n. sym (O.field_cut q u i k (omega arith) (rw (same i m) at n)))
      ∙ front_bytes (cut_out q u) q_loadable.three r.section (omega arith)

  short_of : (held : List ℕ) → SectionPart t r.section held → l ≡ wholes_bytes r.counts u r.section ++ held → ShortFile t l
  short_of held b e =
      record {
        front = cut_out q u;
        loadable = q_loadable;
        section = r.section;
        early = ahead;
        held = held;
        begun = b;
        is = e ∙ ap (λ (x : List ℕ). x ++ held) q_front;
      }

  abbrev held_part : List ℕ
  held_part = little (r.at % 8) r.part

  may_own : may_count t r.section (count_taken r r.section) ≡ true
  may_own =
      sym (may_alike u t kept r.section (count_taken r r.section))
      ∙ both_may u r.section (count_taken r r.section) (h.limits r.section ahead) (room r.section ahead)

  part_long : (j : ℕ) → r.at / 8 ≡ suc j
      → length (fields_bytes u r.section j ++ held_part) < items_long r.section (count_taken r r.section)
  unfolding next_width
  part_long j e =
      let n = r.section in
      let b : r.at % 8 < next_width n (suc j) = rw e at h.bytes in
      let m : suc j ≤ section_words n (count_taken r n) = rw e at h.words in
      rw (length-append (fields_bytes u n j) held_part)
      (omega (
        arith,
        fields-length u n j,
        little-length (r.at % 8) r.part,
        words_more n j,
        words_mono n (suc j) (section_words n (count_taken r n)) m,
        items_long_lem n (count_taken r n),
      ))

  count_long : r.at / 8 ≡ 0 → length held_part < 4
  unfolding next_width
  count_long e =
      let b : r.at % 8 < next_width r.section 0 = rw e at h.bytes in
      omega (arith, little-length (r.at % 8) r.part)

  pub begun_short : ShortFile t l
  unfolding came_bytes_at begun_bytes
  begun_short = go (r.at / 8) refl
    where
      go : (f : ℕ) → r.at / 8 ≡ f → ShortFile t l
      go zero e =
          short_of held_part (in_count held_part (count_long e))
          (w ∙ (λ i. came_bytes_at r.counts u r.section (e i) (r.at % 8) r.part))
      go (suc j) e =
          short_of (little 4 (count_taken r r.section) ++ (fields_bytes u r.section j ++ held_part))
          (in_items (count_taken r r.section) (fields_bytes u r.section j
          ++ held_part) (may_allowed t r.section (count_taken r r.section) may_own) (part_long j e))
          (w ∙ (λ i. came_bytes_at r.counts u r.section (e i) (r.at % 8) r.part)
          ∙ ap (λ (x : List ℕ). wholes_bytes r.counts u r.section ++ x)
          (append_assoc (little 4 (count_taken r r.section)) (fields_bytes u r.section j) held_part))

-- Nothing is noted, and section n is not whole.
pub record Stays (n : ℕ) (d : Loading) : Type 0 where
  pub unnoted : d.loader.note ≡ unsaid
  pub here : d.loader.section ≡ n

few_count : (l : List ℕ) (r : Loader) (t : Set) → r.note ≡ unsaid → r.section < 4 → r.at + length l < 4
    → Stays r.section (bytes_loaded (loading r t) l)
unfolding bytes_loaded next_width
few_count [] r t u k h = record { unnoted = u; here = refl }
few_count (b ∷ l) r t u k h =
    let z : r.at / 8 ≡ 0 = omega arith in
    let more : r.at % 8 + 1 < next_width r.section (r.at / 8) = rw z (omega arith) in
    rw (byte_more r t b u k more) (few_count l (loader_at r r.section (r.at + 1) (with_byte r b)) t refl k (omega arith))

waits_here : (r : Loader) (f : ℕ) → f ≤ section_words r.section (count_taken r r.section)
    → after_words r f ≡ loader_at r r.section (8 * f) 0
unfolding after_words
waits_here r f l = rw (ne_eqb f (section_words r.section (count_taken r r.section) + 1) (λ z. omega arith))

word_here : (r : Loader) (t : Set) (j v : ℕ) → suc (suc j) ≤ section_words r.section (count_taken r r.section)
    → word_came r t (suc j) v ≡ loading (loader_at r r.section (8 * suc (suc j)) 0) (put_field t (field_of r.section j) v)
unfolding word_came
word_here r t j v l = ap (λ (q : Loader). loading q (put_field t (field_of r.section j) v)) (waits_here r (suc (suc j)) l)

-- These bytes end no section: j words of it have come besides its count, and the next has begun.
abbrev FewItems : List ℕ → Type 0
FewItems l = (r : Loader) (t : Set) (j : ℕ) → r.note ≡ unsaid → r.section < 4 → r.at / 8 ≡ suc j
    → suc j ≤ section_words r.section (count_taken r r.section)
    → r.at % 8 < next_width r.section (suc j)
    → words_long r.section j + r.at % 8 + length l < words_long r.section (section_words r.section (count_taken r r.section))
    → Stays r.section (bytes_loaded (loading r t) l)

-- A word that is not the section's last.
not_last : (s j n h k : ℕ) → suc j ≤ n → (field_of s j).width ≡ h + 1 → words_long s j + h + suc k < words_long s n → suc (suc j) ≤ n
not_last s j n h k m w l = go (dec_lt (suc j) n)
  where
    go : Dec (suc j < n) → suc (suc j) ≤ n
    go (yes x) = omega arith
    go (no x) =
        let same : n ≡ suc j = omega arith in
        let all = ap (words_long s) same in
        absurd (omega (arith, words_more s j))

item_more : (b : ℕ) (l : List ℕ) → FewItems l → FewItems (b ∷ l)
unfolding bytes_loaded next_width
item_more b l rest r t j u k e m w h = go (dec_lt (r.at % 8 + 1) (field_of r.section j).width)
  where
    go : Dec (r.at % 8 + 1 < (field_of r.section j).width) → Stays r.section (bytes_loaded (byte_loaded (loading r t) b) l)
    go (yes n) =
        let most = (next-width r.section (suc j)).1 in
        let q : (r.at + 1) / 8 ≡ suc j = omega arith in
        let z : (r.at + 1) % 8 ≡ r.at % 8 + 1 = omega arith in
        rw (byte_more r t b u k (rw e n))
        (rest (loader_at r r.section (r.at + 1) (with_byte r b)) t j refl k q m (rw z n) (rw z (omega arith)))
    go (no n) =
        let wide : (field_of r.section j).width ≡ r.at % 8 + 1 = omega arith in
        let on = not_last r.section j _ (r.at % 8) (length l) m wide h in
        let q : 8 * suc (suc j) / 8 ≡ suc (suc j) = omega arith in
        let z : (8 * suc (suc j)) % 8 ≡ 0 = omega arith in
        let last : r.at % 8 + 1 ≡ next_width r.section (r.at / 8) = rw e (sym wide) in
        let long = words_more r.section j in
        rw (byte_last r t b u k last) (rw e (rw (word_here r t j (with_byte r b) on)
        (rest (loader_at r r.section (8 * suc (suc j)) 0) (put_field t (field_of r.section j) (with_byte r b)) (suc j) refl k q on
        (rw z (next-width r.section (suc (suc j))).0) (rw z (omega arith)))))

few_items : (l : List ℕ) → FewItems l
unfolding bytes_loaded
few_items [] = λ r t j u k e m w h. record { unnoted = u; here = refl }
few_items (b ∷ l) = item_more b l (few_items l)

-- So many bytes after whole sections leave the next one unfinished.
module _ (t : Set) {l : List ℕ} (f : ShortFile t l) where
  abbrev own : List ℕ
  own = counts_in f.front

  abbrev at_section : Loading
  at_section = loading (between_words f.section 0 (up_to own f.section)) (filled_to t f.front own f.section)

  section_comes : bytes_loaded (loading new_loader t) (set_front f.front f.section) ≡ at_section
  section_comes =
      let e = f.early in
      ap (bytes_loaded (loading new_loader t)) (sym (front_bytes f.front f.loadable.three f.section (omega arith)))
      ∙ run_wholes t f.front own (fair_set f.front t f.loadable) f.section (omega arith)

  allowed_small : (n c : ℕ) → MayHold t n c → c < 4294967296
  unfolding MayHold
  allowed_small zero c h = omega (arith, h.0)
  allowed_small (suc zero) c h = omega (arith, h.0)
  allowed_small (suc (suc zero)) c h = omega (arith, h.0)
  allowed_small (suc (suc (suc n))) c h = omega (arith, h.0)

  some_words : (n c k : ℕ) → k < items_long n c → 1 ≤ section_words n c
  unfolding items_long section_words
  some_words zero c k l = omega arith
  some_words (suc zero) c k l = omega arith
  some_words (suc (suc zero)) c k l = omega arith
  some_words (suc (suc (suc n))) c k l = omega arith

  items_stay : (c : ℕ) (held : List ℕ) → MayHold t f.section c → length held < items_long f.section c
      → Stays f.section (bytes_loaded at_section (little 4 c ++ held))
  items_stay c held h m =
      let n = f.section in
      let k = f.early in
      let cs = up_to own n in
      let u = filled_to t f.front own n in
      let may : may_count u n c ≡ true = may_alike u t (to_long t f.front own n) n c ∙ allowed_may t n c h in
      let mine : get_or (set cs n c) n 0 ≡ c = get_or-set_same cs n c 0 (omega (arith, upto_long t f.front own n)) in
      let some = some_words n c (length held) m in
      let begin : 1 ≤ section_words n (get_or (set cs n c) n 0) = rw mine some in
      let long : words_long n 0 + 0 + length held < words_long n (section_words n (get_or (set cs n c) n 0)) =
      rw mine (omega (arith, none_long n, items_long_lem n c)) in
      let run : bytes_loaded at_section (little 4 c) ≡ loading (between_words n 1 (set cs n c)) u =
      run_count n c cs u k (allowed_small n c h) may
      ∙ ap (λ (r : Loader). loading r u) (after_more n 1 (set cs n c) begin) in
      rw (bytes_loaded_append at_section (little 4 c) held) (rw run
      (few_items held (between_words n 1 (set cs n c)) u 0 refl k refl begin (next-width n 1).0 long))

  part_stays : {held : List ℕ} → SectionPart t f.section held → Stays f.section (bytes_loaded at_section held)
  part_stays (in_count held h) =
      few_count held (between_words f.section 0 (up_to own f.section)) (filled_to t f.front own f.section) refl f.early
      (omega arith)
  part_stays (in_items c held h m) = items_stay c held h m

  pub short_stays : Stays f.section (bytes_loaded (loading new_loader t) l)
  short_stays =
      rw f.is (rw (bytes_loaded_append (loading new_loader t) (set_front f.front f.section) f.held)
      (rw section_comes (part_stays f.begun)))
