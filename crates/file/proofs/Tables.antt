-- The layout's tables as the code asks them: number by number, and by what is left.
use mathlib.Core.Path.{◌≡◌, refl, ap, sym, ◌∙◌}
use mathlib.Core.Bool.{Bool, true, false}
use mathlib.Core.Logic.{◌≢◌}
use mathlib.Core.List.{[], ◌∷◌}
use Prim.Native.Nat.{ℕ, zero, suc, ◌+◌, ◌-◌, ◌*◌, ◌/◌, ◌%◌, ◌^◌, ◌<◌, ◌≤◌}
use native.Mathlib.Omega.{arith}
use lib.ListN.{length, get_or, set}
use lib.Dec.{eqb, leb}
use borrow.Author.Tests.{eq-eqb, ne_eqb, lt-ltb, le-ltb}
use Rattle.slots.specs.Words.{pick, ◌and◌}
use Rattle.set_rules.specs.Words.{Set}
use Rattle.file_rules.specs.Layout.{Field, slot_width, slot_field, field_of, section_words, most_of, can_hold}
use Rattle.file_rules.specs.Loader.{Loader, count_taken, next_width, counts_come, count_fits, slot_long, words_long, begun_long}
use Rattle.file_rules.specs.Loading.{after_words, loader_at}

pub count_past : (a b c d s : ℕ) → s ≢ 0 → s ≢ 1 → s ≢ 2 → s ≢ 3 → 0 ≡ get_or (a ∷ (b ∷ (c ∷ (d ∷ [])))) s 0
count_past a b c d zero n0 n1 n2 n3 = absurd (n0 refl)
count_past a b c d (suc zero) n0 n1 n2 n3 = absurd (n1 refl)
count_past a b c d (suc (suc zero)) n0 n1 n2 n3 = absurd (n2 refl)
count_past a b c d (suc (suc (suc zero))) n0 n1 n2 n3 = absurd (n3 refl)
count_past a b c d (suc (suc (suc (suc s)))) n0 n1 n2 n3 = refl

pub most_past : (s : ℕ) → s ≢ 0 → s ≢ 1 → 4096 ≡ most_of s
unfolding most_of
most_past zero n0 n1 = absurd (n0 refl)
most_past (suc zero) n0 n1 = absurd (n1 refl)
most_past (suc (suc zero)) n0 n1 = refl
most_past (suc (suc (suc s))) n0 n1 = refl

pub most_small : (s : ℕ) → most_of s ≤ 8160
unfolding most_of
most_small zero = omega arith
most_small (suc zero) = omega arith
most_small (suc (suc zero)) = omega arith
most_small (suc (suc (suc s))) = omega arith

-- Past the sections of words.
pub words_past : (s c : ℕ) → s ≢ 0 → s ≢ 1 → s ≢ 2 → 9 * c ≡ section_words s c
unfolding section_words
words_past zero c n0 n1 n2 = absurd (n0 refl)
words_past (suc zero) c n0 n1 n2 = absurd (n1 refl)
words_past (suc (suc zero)) c n0 n1 n2 = absurd (n2 refl)
words_past (suc (suc (suc s))) c n0 n1 n2 = refl

pub width_past : (f : ℕ) → f ≢ 0 → f ≢ 1 → f ≢ 3 → 4 ≡ slot_width f
unfolding slot_width
width_past zero n0 n1 n3 = absurd (n0 refl)
width_past (suc zero) n0 n1 n3 = absurd (n1 refl)
width_past (suc (suc zero)) n0 n1 n3 = refl
width_past (suc (suc (suc zero))) n0 n1 n3 = absurd (n3 refl)
width_past (suc (suc (suc (suc f)))) n0 n1 n3 = refl

pub width_most : (f : ℕ) → slot_width f ≤ 8
unfolding slot_width
width_most zero = omega arith
width_most (suc zero) = omega arith
width_most (suc (suc zero)) = omega arith
width_most (suc (suc (suc zero))) = omega arith
width_most (suc (suc (suc (suc f)))) = omega arith

pub field-four : (s j : ℕ) → s < 3 → (field_of s j).width ≡ 4
unfolding field_of
field-four zero j l = refl
field-four (suc zero) j l = refl
field-four (suc (suc zero)) j l = refl
field-four (suc (suc (suc s))) j l = absurd (omega arith)

pub field_slot : (s j : ℕ) → 3 ≤ s → field_of s j ≡ slot_field (j / 9) (j % 9)
unfolding field_of
field_slot zero j l = absurd (omega arith)
field_slot (suc zero) j l = absurd (omega arith)
field_slot (suc (suc zero)) j l = absurd (omega arith)
field_slot (suc (suc (suc s))) j l = refl

pub slot_field-width : (i f : ℕ) → (slot_field i f).width ≡ slot_width f
unfolding slot_field
slot_field-width i zero = refl
slot_field-width i (suc zero) = refl
slot_field-width i (suc (suc f)) = refl

-- The next word's bytes: of a count, of a section of words, of a slot.
pub next-count : (s f : ℕ) → f ≡ 0 → 4 ≡ next_width s f
unfolding next_width
next-count s f e = rw e

pub next_words : (s f : ℕ) → f ≢ 0 → s < 3 → 4 ≡ next_width s f
unfolding next_width
next_words s zero n l = absurd (n refl)
next_words s (suc j) n l = sym (field-four s j l)

pub next_slot_lem : (s f : ℕ) {w : ℕ} → f ≢ 0 → 3 ≤ s → w ≡ slot_width ((f - 1) % 9) → w ≡ next_width s f
unfolding next_width
next_slot_lem s zero n l e = absurd (n refl)
next_slot_lem s (suc j) n l e =
    let z : suc j - 1 ≡ j = omega arith in
    e ∙ ap (λ (k : ℕ). slot_width (k % 9)) z ∙ sym (ap (λ (x : Field). x.width) (field_slot s j l) ∙ slot_field-width (j / 9) (j % 9))

-- The bytes of words.
pub long_words : (s j : ℕ) → s < 3 → 4 * j ≡ words_long s j
unfolding words_long
long_words zero j l = refl
long_words (suc zero) j l = refl
long_words (suc (suc zero)) j l = refl
long_words (suc (suc (suc s))) j l = absurd (omega arith)

pub long_slots : (s j : ℕ) → 3 ≤ s → 41 * (j / 9) + slot_long (j % 9) ≡ words_long s j
unfolding words_long
long_slots zero j l = absurd (omega arith)
long_slots (suc zero) j l = absurd (omega arith)
long_slots (suc (suc zero)) j l = absurd (omega arith)
long_slots (suc (suc (suc s))) j l = refl

pub slot_long_first : (f : ℕ) → f < 3 → 8 * f ≡ slot_long f
unfolding slot_long slot_width
slot_long_first zero l = refl
slot_long_first (suc zero) l = refl
slot_long_first (suc (suc zero)) l = refl
slot_long_first (suc (suc (suc f))) l = absurd (omega arith)

pub slot_long_state : (f : ℕ) → f ≡ 3 → 20 ≡ slot_long f
unfolding slot_long slot_width
slot_long_state f e = rw e

slot_long_links : (f : ℕ) → 4 * f + 21 ≡ slot_long (suc (suc (suc (suc f))))
unfolding slot_long slot_width
slot_long_links zero = refl
slot_long_links (suc f) = let a = slot_long_links f in omega arith

pub slot_long_last : (f : ℕ) → 3 ≤ f → f ≢ 3 → 4 * f + 5 ≡ slot_long f
slot_long_last zero l n = absurd (omega arith)
slot_long_last (suc zero) l n = absurd (omega arith)
slot_long_last (suc (suc zero)) l n = absurd (omega arith)
slot_long_last (suc (suc (suc zero))) l n = absurd (n refl)
slot_long_last (suc (suc (suc (suc f)))) l n = let a = slot_long_links f in omega arith

pub begun_none : (s f : ℕ) → f ≡ 0 → 0 ≡ begun_long s f
unfolding begun_long
begun_none s f e = rw e

pub begun_some : (s f : ℕ) {w : ℕ} → f ≢ 0 → w ≡ words_long s (f - 1) → 4 + w ≡ begun_long s f
unfolding begun_long
begun_some s zero n e = absurd (n refl)
begun_some s (suc j) n e = let z : suc j - 1 ≡ j = omega arith in ap (λ (k : ℕ). 4 + k) (e ∙ ap (words_long s) z)

-- A power of 256 is a shift by so many bytes, of which none is lost.
pub power_shifted : (k : ℕ) → k ≤ 7 → (1 * 2 ^ (8 * k)) % 18446744073709551616 ≡ 256 ^ k
power_shifted zero l = refl
power_shifted (suc zero) l = refl
power_shifted (suc (suc zero)) l = refl
power_shifted (suc (suc (suc zero))) l = refl
power_shifted (suc (suc (suc (suc zero)))) l = refl
power_shifted (suc (suc (suc (suc (suc zero))))) l = refl
power_shifted (suc (suc (suc (suc (suc (suc zero)))))) l = refl
power_shifted (suc (suc (suc (suc (suc (suc (suc zero))))))) l = refl
power_shifted (suc (suc (suc (suc (suc (suc (suc (suc k)))))))) l = absurd (omega arith)

-- How many counts have come, and whether one is in its range.
module _ (r : Loader) where
  pub come_before : r.at / 8 ≡ 0 → r.section ≡ counts_come r
  unfolding counts_come
  come_before e = rw (eq-eqb (r.at / 8) 0 e)

  pub come_after : r.at / 8 ≢ 0 → r.section + 1 ≡ counts_come r
  unfolding counts_come
  come_after n = rw (ne_eqb (r.at / 8) 0 n)

  pub counted_come : (s : ℕ) {come count most : ℕ} → come ≡ counts_come r → count ≡ count_taken r s → most ≡ most_of s → s < come
      → leb count most ≡ count_fits r s
  unfolding count_fits
  counted_come s e f g l = rw (f, g, ← e, lt-ltb s _ l)

  pub counted_later : (s : ℕ) {come count : ℕ} → come ≡ counts_come r → count ≡ count_taken r s → come ≤ s → leb count 0 ≡ count_fits r s
  unfolding count_fits
  counted_later s e f l = rw (f, ← e, le-ltb s _ l)

-- The slices of a section.
module _ (t : Set) (c : ℕ) where
  pub holds_tables : (s : ℕ) {x : Bool} → s ≡ 0 → x ≡ leb c (length t.lengths) → x ≡ can_hold t s c
  unfolding can_hold
  holds_tables s e f = f ∙ rw e

  pub holds_bins : (s : ℕ) {x : Bool} → s ≡ 1 → x ≡ leb c (length t.bins) → x ≡ can_hold t s c
  unfolding can_hold
  holds_bins s e f = f ∙ rw e

  pub holds_heads : (s : ℕ) {x : Bool} → s ≡ 2 → x ≡ leb (3 * c) (length t.heads) → x ≡ can_hold t s c
  unfolding can_hold
  holds_heads s e f = f ∙ rw e

  slots_held : (s : ℕ) → s ≢ 0 → s ≢ 1 → s ≢ 2 → can_hold t s c ≡ (leb (2 * c) (length t.names) and leb (7 * c) (length t.cells))
  unfolding can_hold
  slots_held zero n0 n1 n2 = absurd (n0 refl)
  slots_held (suc zero) n0 n1 n2 = absurd (n1 refl)
  slots_held (suc (suc zero)) n0 n1 n2 = absurd (n2 refl)
  slots_held (suc (suc (suc s))) n0 n1 n2 = refl

  pub holds_not : (s : ℕ) {x : Bool} → s ≢ 0 → s ≢ 1 → s ≢ 2 → x ≡ leb (2 * c) (length t.names) → x ≡ false → false ≡ can_hold t s c
  holds_not s n0 n1 n2 e f = rw (slots_held s n0 n1 n2, ← e, f)

  pub holds_slots : (s : ℕ) {x y : Bool} → s ≢ 0 → s ≢ 1 → s ≢ 2 → x ≡ leb (2 * c) (length t.names) → x ≡ true
      → y ≡ leb (7 * c) (length t.cells)
      → y ≡ can_hold t s c
  holds_slots s n0 n1 n2 e f g = g ∙ rw (slots_held s n0 n1 n2, ← e, f)

-- A count put in its place among the four.
pub count_set : (a b c d s v : ℕ) → s < 4
    → pick (eqb s 0) v a ∷ (pick (eqb s 1) v b ∷ (pick (eqb s 2) v c ∷ (pick (eqb s 3) v d ∷ []))) ≡ set (a ∷ (b ∷ (c ∷ (d ∷ [])))) s v
count_set a b c d zero v l = refl
count_set a b c d (suc zero) v l = refl
count_set a b c d (suc (suc zero)) v l = refl
count_set a b c d (suc (suc (suc zero))) v l = refl
count_set a b c d (suc (suc (suc (suc s)))) v l = absurd (omega arith)

-- The loader after f words.
module _ (r : Loader) (f : ℕ) {count all : ℕ} (e : count ≡ count_taken r r.section) (g : all ≡ section_words r.section count) where
  pub after-done : f ≡ all + 1 → loader_at r (r.section + 1) 0 0 ≡ after_words r f
  unfolding after_words
  after-done h = rw (← e, ← g, eq-eqb f (all + 1) h)

  pub after-not : f ≢ all + 1 → loader_at r r.section (8 * f) 0 ≡ after_words r f
  unfolding after_words
  after-not h = rw (← e, ← g, ne_eqb f (all + 1) h)
