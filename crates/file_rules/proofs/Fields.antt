-- A read after a write, word by word of a file: each word has a place of its own, so that slice and index tell the section and the word.
use mathlib.Core.Path.{◌≡◌, refl, ap, sym, ◌∙◌}
use mathlib.Core.Bool.{true}
use mathlib.Core.Logic.{◌≢◌}
use Prim.Native.Nat.{ℕ, zero, suc, ◌+◌, ◌*◌, ◌/◌, ◌%◌, ◌<◌, ◌≤◌}
use native.Mathlib.Omega.{arith}
use lib.ListN.{length, get_or, length-set}
use lib.Seq.{get_or-set_same, get_or-set_other}
use lib.Dec.{leb}
use borrow.Author.Tests.{leb-true}
use Rattle.slots.specs.Words.{null, ◌and◌}
use Rattle.index_rules.proofs.Fit.{both}
use Rattle.set_rules.specs.Words.{Set}
use Rattle.file_rules.specs.Layout.{Slice, ofLengths, ofBins, ofHeads, ofNames, ofCells, slice_in, missing, put_in, Field, slot_width}
use Rattle.file_rules.specs.Layout.{slot_field, field_of, section_words, can_hold, field_in, put_field}

pub put_same : (t : Set) (x : Slice) (i v : ℕ) → i < length (slice_in t x) → get_or (slice_in (put_in t x i v) x) i (missing x) ≡ v
put_same t ofLengths i v h = get_or-set_same t.lengths i v 0 h
put_same t ofBins i v h = get_or-set_same t.bins i v 0 h
put_same t ofHeads i v h = get_or-set_same t.heads i v null h
put_same t ofNames i v h = get_or-set_same t.names i v 0 h
put_same t ofCells i v h = get_or-set_same t.cells i v null h

pub put_other : (t : Set) (x : Slice) (i v : ℕ) (y : Slice) (k : ℕ) → (x ≡ y → k ≢ i)
    → get_or (slice_in (put_in t x i v) y) k (missing y) ≡ get_or (slice_in t y) k (missing y)
put_other t ofLengths i v ofLengths k h = get_or-set_other t.lengths i k v 0 (h refl)
put_other t ofLengths i v ofBins k h = refl
put_other t ofLengths i v ofHeads k h = refl
put_other t ofLengths i v ofNames k h = refl
put_other t ofLengths i v ofCells k h = refl
put_other t ofBins i v ofLengths k h = refl
put_other t ofBins i v ofBins k h = get_or-set_other t.bins i k v 0 (h refl)
put_other t ofBins i v ofHeads k h = refl
put_other t ofBins i v ofNames k h = refl
put_other t ofBins i v ofCells k h = refl
put_other t ofHeads i v ofLengths k h = refl
put_other t ofHeads i v ofBins k h = refl
put_other t ofHeads i v ofHeads k h = get_or-set_other t.heads i k v null (h refl)
put_other t ofHeads i v ofNames k h = refl
put_other t ofHeads i v ofCells k h = refl
put_other t ofNames i v ofLengths k h = refl
put_other t ofNames i v ofBins k h = refl
put_other t ofNames i v ofHeads k h = refl
put_other t ofNames i v ofNames k h = get_or-set_other t.names i k v 0 (h refl)
put_other t ofNames i v ofCells k h = refl
put_other t ofCells i v ofLengths k h = refl
put_other t ofCells i v ofBins k h = refl
put_other t ofCells i v ofHeads k h = refl
put_other t ofCells i v ofNames k h = refl
put_other t ofCells i v ofCells k h = get_or-set_other t.cells i k v null (h refl)

pub put-length : (t : Set) (x : Slice) (i v : ℕ) (y : Slice) → length (slice_in (put_in t x i v) y) ≡ length (slice_in t y)
put-length t ofLengths i v ofLengths = length-set t.lengths i v
put-length t ofLengths i v ofBins = refl
put-length t ofLengths i v ofHeads = refl
put-length t ofLengths i v ofNames = refl
put-length t ofLengths i v ofCells = refl
put-length t ofBins i v ofLengths = refl
put-length t ofBins i v ofBins = length-set t.bins i v
put-length t ofBins i v ofHeads = refl
put-length t ofBins i v ofNames = refl
put-length t ofBins i v ofCells = refl
put-length t ofHeads i v ofLengths = refl
put-length t ofHeads i v ofBins = refl
put-length t ofHeads i v ofHeads = length-set t.heads i v
put-length t ofHeads i v ofNames = refl
put-length t ofHeads i v ofCells = refl
put-length t ofNames i v ofLengths = refl
put-length t ofNames i v ofBins = refl
put-length t ofNames i v ofHeads = refl
put-length t ofNames i v ofNames = length-set t.names i v
put-length t ofNames i v ofCells = refl
put-length t ofCells i v ofLengths = refl
put-length t ofCells i v ofBins = refl
put-length t ofCells i v ofHeads = refl
put-length t ofCells i v ofNames = refl
put-length t ofCells i v ofCells = length-set t.cells i v

-- The section of a slice.
section_home : Slice → ℕ
section_home ofLengths = 0
section_home ofBins = 1
section_home ofHeads = 2
section_home ofNames = 3
section_home ofCells = 3

slot_home_lem : (i f : ℕ) → section_home (slot_field i f).slice ≡ 3
unfolding slot_field section_home
slot_home_lem i zero = refl
slot_home_lem i (suc zero) = refl
slot_home_lem i (suc (suc f)) = refl

field_home : (s j : ℕ) → s < 4 → section_home (field_of s j).slice ≡ s
unfolding field_of section_home
field_home zero j l = refl
field_home (suc zero) j l = refl
field_home (suc (suc zero)) j l = refl
field_home (suc (suc (suc zero))) j l = slot_home_lem (j / 9) (j % 9)
field_home (suc (suc (suc (suc s)))) j l = absurd (omega arith)

names_cells : ofNames ≡ ofCells → ⊥
names_cells e = let z : ◌≡◌ {A = ℕ} 0 1 = cc in omega arith

-- Two words of slots in one place are the same word.
slot_tells : (i f k g : ℕ) → f < 9 → g < 9 → (slot_field i f).slice ≡ (slot_field k g).slice
    → (slot_field i f).index ≡ (slot_field k g).index
    → 9 * i + f ≡ 9 * k + g
unfolding slot_field
slot_tells i zero k zero l m e h = omega arith
slot_tells i zero k (suc zero) l m e h = omega arith
slot_tells i zero k (suc (suc g)) l m e h = absurd (names_cells e)
slot_tells i (suc zero) k zero l m e h = omega arith
slot_tells i (suc zero) k (suc zero) l m e h = omega arith
slot_tells i (suc zero) k (suc (suc g)) l m e h = absurd (names_cells e)
slot_tells i (suc (suc f)) k zero l m e h = absurd (names_cells (sym e))
slot_tells i (suc (suc f)) k (suc zero) l m e h = absurd (names_cells (sym e))
slot_tells i (suc (suc f)) k (suc (suc g)) l m e h = omega arith

field_tells : (s j k : ℕ) → (field_of s j).slice ≡ (field_of s k).slice → (field_of s j).index ≡ (field_of s k).index → j ≡ k
unfolding field_of
field_tells zero j k e h = h
field_tells (suc zero) j k e h = h
field_tells (suc (suc zero)) j k e h = h
field_tells (suc (suc (suc s))) j k e h = let a = slot_tells (j / 9) (j % 9) (k / 9) (k % 9) (omega arith) (omega arith) e h in omega arith

-- Words of other sections, and other words of the section, stay.
pub field_apart : (t : Set) (s j v i k : ℕ) → s < 4 → i < 4 → (s ≡ i → j ≢ k)
    → field_in (put_field t (field_of s j) v) (field_of i k) ≡ field_in t (field_of i k)
field_apart t s j v i k l m d =
    put_other t (field_of s j).slice (field_of s j).index v (field_of i k).slice (field_of i k).index
    (λ e f.
    let a : s ≡ i = sym (field_home s j l) ∙ ap section_home e ∙ field_home i k m in
    let at : field_of i k ≡ field_of s k = ap (λ (x : ℕ). field_of x k) (sym a) in
    d a (field_tells s j k (e ∙ ap (λ (x : Field). x.slice) at) (sym f ∙ ap (λ (x : Field). x.index) at)))

width_in : (f : ℕ) → (1 ≤ slot_width f) × (slot_width f ≤ 8)
unfolding slot_width
width_in zero = (omega arith, omega arith)
width_in (suc zero) = (omega arith, omega arith)
width_in (suc (suc zero)) = (omega arith, omega arith)
width_in (suc (suc (suc zero))) = (omega arith, omega arith)
width_in (suc (suc (suc (suc f)))) = (omega arith, omega arith)

slot_width_lem : (i f : ℕ) → (1 ≤ (slot_field i f).width) × ((slot_field i f).width ≤ 8)
unfolding slot_field slot_width
slot_width_lem i zero = width_in 0
slot_width_lem i (suc zero) = width_in 1
slot_width_lem i (suc (suc f)) = width_in (suc (suc f))

pub field-width : (s j : ℕ) → (1 ≤ (field_of s j).width) × ((field_of s j).width ≤ 8)
unfolding field_of
field-width zero j = (omega arith, omega arith)
field-width (suc zero) j = (omega arith, omega arith)
field-width (suc (suc zero)) j = (omega arith, omega arith)
field-width (suc (suc (suc s))) j = slot_width_lem (j / 9) (j % 9)

slot_inside : (t : Set) (i f c : ℕ) → f < 9 → i < c → 2 * c ≤ length t.names → 7 * c ≤ length t.cells
    → (slot_field i f).index < length (slice_in t (slot_field i f).slice)
unfolding slot_field
slot_inside t i zero c l m a b = omega arith
slot_inside t i (suc zero) c l m a b = omega arith
slot_inside t i (suc (suc f)) c l m a b = omega arith

-- The words of as many items as the slices hold are in the slices.
pub field_inside : (t : Set) (s c : ℕ) → can_hold t s c ≡ true → (j : ℕ) → j < section_words s c
    → (field_of s j).index < length (slice_in t (field_of s j).slice)
unfolding field_of can_hold section_words
field_inside t zero c h j l = let a = leb-true c (length t.lengths) h in omega arith
field_inside t (suc zero) c h j l = let a = leb-true c (length t.bins) h in omega arith
field_inside t (suc (suc zero)) c h j l = let a = leb-true (3 * c) (length t.heads) h in omega arith
field_inside t (suc (suc (suc s))) c h j l =
    let b = both (leb (2 * c) _) _ h in
    slot_inside t (j / 9) (j % 9) c (omega arith) (omega arith) (leb-true _ _ b.0) (leb-true _ _ b.1)

pub field_same : (t : Set) (s j v c : ℕ) → can_hold t s c ≡ true → j < section_words s c
    → field_in (put_field t (field_of s j) v) (field_of s j) ≡ v
field_same t s j v c h l = put_same t (field_of s j).slice (field_of s j).index v (field_inside t s c h j l)

-- What slices of the same lengths hold is the same.

pub holds_alike : (t u : Set) → ((x : Slice) → length (slice_in t x) ≡ length (slice_in u x)) → (s c : ℕ) → can_hold t s c ≡ can_hold u s c
unfolding can_hold
holds_alike t u a zero c = ap (leb c) (a ofLengths)
holds_alike t u a (suc zero) c = ap (leb c) (a ofBins)
holds_alike t u a (suc (suc zero)) c = ap (leb (3 * c)) (a ofHeads)
holds_alike t u a (suc (suc (suc s))) c = λ z. leb (2 * c) (a ofNames z) and leb (7 * c) (a ofCells z)
