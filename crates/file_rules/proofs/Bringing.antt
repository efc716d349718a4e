-- The bytes of a set, section by section and word by word, put each word where it was.
use mathlib.Core.Path.{◌≡◌, refl, ap, sym, ◌∙◌}
use mathlib.Core.Bool.{true}
use mathlib.Core.Logic.{◌≢◌}
use mathlib.Core.List.{List, [], ◌∷◌, ◌++◌}
use Prim.Native.Nat.{ℕ, zero, suc, ◌+◌, ◌-◌, ◌*◌, ◌/◌, ◌%◌, ◌^◌, ◌<◌, ◌≤◌}
use native.Mathlib.Decide.{ℕ_discrete}
use native.Mathlib.Nat.{mul-add, mul_left_comm}
use native.Mathlib.Omega.{arith}
use lib.ListN.{length, get_or, set}
use lib.Seq.{get_or-set_same}
use borrow.Author.Tests.{lt-ltb, le-ltb, eq-eqb, ne_eqb}
use Rattle.endian.specs.Bytes.{little}
use Rattle.upload_rules.specs.Reader.{unsaid}
use Rattle.set_rules.specs.Words.{Set}
use Rattle.file_rules.specs.Layout.{Slice, slice_in, field_of, section_words, can_hold, field_in, put_field}
use Rattle.file_rules.specs.Loader.{Loader, loader_of, next_width}
use Rattle.file_rules.specs.Loading.{Loading, loading, loader_at, after_words, may_count, word_came, with_byte, byte_stored, byte_loaded}
use Rattle.file_rules.specs.Loading.{bytes_loaded}
use Rattle.file_rules.proofs.Endian.{power_more}
use Rattle.file_rules.proofs.Fields.{put-length, field_apart, field_same, holds_alike}
use Rattle.file_rules.proofs.Ranges.{next-width, byte_open}
use Rattle.file_rules.proofs.Written.{fields_bytes}

pub bytes_loaded_append : (d : Loading) (a b : List ℕ) → bytes_loaded d (a ++ b) ≡ bytes_loaded (bytes_loaded d a) b
unfolding bytes_loaded
bytes_loaded_append d [] b = refl
bytes_loaded_append d (x ∷ a) b = bytes_loaded_append (byte_loaded d x) a b

power_split : (h x : ℕ) → 256 ^ h * (x % 256) + 256 ^ suc h * (x / 256) ≡ 256 ^ h * x
power_split h x =
    let e : x % 256 + 256 * (x / 256) ≡ x = omega arith in
    let a = power_more h (x / 256) in
    let b = mul-add (256 ^ h) (x % 256) (256 * (x / 256)) in
    let c = mul_left_comm (256 ^ h) 256 (x / 256) in
    let d = ap (λ (y : ℕ). 256 ^ h * y) e in
    omega arith

-- The loader between two words, where f words of section s have come.
abbrev pub between_words : ℕ → ℕ → List ℕ → Loader
between_words s f cs = loader_of s (8 * f) 0 cs unsaid

-- A loader like this one, whatever bytes of a word it has.
pub record LikeLoader (r q : Loader) : Type 0 where
  pub section : q.section ≡ r.section
  pub counts : q.counts ≡ r.counts

-- What comes of a whole word of so many bytes more.
pub record WordComes (r : Loader) (t : Set) (l : List ℕ) (v : ℕ) : Type 0 where
  pub last : Loader
  pub like : LikeLoader r last
  pub comes : bytes_loaded (loading r t) l ≡ word_came last t (r.at / 8) v

pub byte_last : (r : Loader) (t : Set) (b : ℕ) → r.note ≡ unsaid → r.section < 4 → r.at % 8 + 1 ≡ next_width r.section (r.at / 8)
    → byte_loaded (loading r t) b ≡ word_came r t (r.at / 8) (with_byte r b)
unfolding byte_stored
byte_last r t b u l e =
    byte_open (loading r t) b u
    ∙ rw (ne_eqb r.section 4 (λ z. omega arith), le-ltb (r.at % 8 + 1) (next_width r.section (r.at / 8)) (omega arith))

pub byte_more : (r : Loader) (t : Set) (b : ℕ) → r.note ≡ unsaid → r.section < 4 → r.at % 8 + 1 < next_width r.section (r.at / 8)
    → byte_loaded (loading r t) b ≡ loading (loader_at r r.section (r.at + 1) (with_byte r b)) t
unfolding byte_stored
byte_more r t b u l e =
    byte_open (loading r t) b u
    ∙ rw (ne_eqb r.section 4 (λ z. omega arith), lt-ltb (r.at % 8 + 1) (next_width r.section (r.at / 8)) e)

with_is : (r : Loader) (b : ℕ) → with_byte r b ≡ r.part + 256 ^ (r.at % 8) * b
unfolding with_byte
with_is r b = omega arith

-- One byte of a word, and then the others.
came_on : (r q : Loader) (t : Set) (b : ℕ) (l : List ℕ) {v w : ℕ} → byte_loaded (loading r t) b ≡ loading q t → LikeLoader r q
    → q.at / 8 ≡ r.at / 8
    → v ≡ w
    → WordComes q t l v
    → WordComes r t (b ∷ l) w
unfolding bytes_loaded
came_on r q t b l e s f g others =
    record {
      last = others.last;
      like = record { section = others.like.section ∙ s.section; counts = others.like.counts ∙ s.counts };
      comes = ap (λ (d : Loading). bytes_loaded d l) e ∙ others.comes ∙ (λ i. word_came others.last t (f i) (g i));
    }

came_word : (n x : ℕ) (r : Loader) (t : Set) → r.note ≡ unsaid → r.section < 4 → r.at % 8 + suc n ≡ next_width r.section (r.at / 8)
    → x < 256 ^ suc n → WordComes r t (little (suc n) x) (r.part + 256 ^ (r.at % 8) * x)
unfolding little bytes_loaded
came_word zero x r t u l e m =
    let z : x % 256 ≡ x = omega arith in
    record {
      last = r;
      like = record { section = refl; counts = refl };
      comes = byte_last r t (x % 256) u l (omega arith)
          ∙ ap (word_came r t (r.at / 8)) (with_is r (x % 256) ∙ ap (λ (y : ℕ). r.part + 256 ^ (r.at % 8) * y) z);
    }
came_word (suc n) x r t u l e m =
    let w = (next-width r.section (r.at / 8)).1 in
    let q = loader_at r r.section (r.at + 1) (with_byte r (x % 256)) in
    let f : (r.at + 1) / 8 ≡ r.at / 8 = omega arith in
    let g : (r.at + 1) % 8 ≡ suc (r.at % 8) = omega arith in
    let sp = power_split (r.at % 8) x in
    let v : with_byte r (x % 256) + 256 ^ ((r.at + 1) % 8) * (x / 256) ≡ r.part + 256 ^ (r.at % 8) * x =
    rw g (omega (arith, with_is r (x % 256))) in
    came_on r q t (x % 256) (little (suc n) (x / 256)) (byte_more r t (x % 256) u l (omega arith))
    (record { section = refl; counts = refl })
    f
    v
    (came_word n (x / 256) q t refl l (rw (f, g) (omega arith)) (omega arith))

-- A word between two words.
module _ (s f : ℕ) (cs : List ℕ) (t : Set) (l : s < 4) (x : ℕ) (small : x < 256 ^ next_width s f) where
  pub at-word : (w : ℕ) → next_width s f ≡ suc w → WordComes (between_words s f cs) t (little (next_width s f) x) x
  at-word w e =
      let q : 8 * f / 8 ≡ f = omega arith in
      let z : (8 * f) % 8 ≡ 0 = omega arith in
      let a = came_word w x (between_words s f cs) t refl l (rw (q, z) (omega arith)) (rw e at small) in
      let v : 0 + 256 ^ ((8 * f) % 8) * x ≡ x = rw z (omega arith) in
      record {
        last = a.last;
        like = a.like;
        comes =
            ap (λ (k : ℕ). bytes_loaded (loading (between_words s f cs) t) (little k x)) e ∙ a.comes
            ∙ ap (λ (k : ℕ). word_came a.last t (8 * f / 8) k) v;
      }

  run_word : (r : Loader) (u : Set) → ((q : Loader) → LikeLoader (between_words s f cs) q → word_came q t f x ≡ loading r u)
      → bytes_loaded (loading (between_words s f cs) t) (little (next_width s f) x) ≡ loading r u
  run_word r u h =
      let w = (next-width s f).0 in
      let e : next_width s f ≡ suc (next_width s f - 1) = omega arith in
      let a = at-word (next_width s f - 1) e in
      let q : 8 * f / 8 ≡ f = omega arith in
      a.comes ∙ ap (λ (k : ℕ). word_came a.last t k x) q ∙ h a.last a.like

-- A count that may be taken.
pub run_count : (s c : ℕ) (cs : List ℕ) (t : Set) → s < 4 → c < 4294967296 → may_count t s c ≡ true
    → bytes_loaded (loading (between_words s 0 cs) t) (little 4 c) ≡ loading (after_words (between_words s 0 (set cs s c)) 1) t
unfolding word_came next_width after_words
run_count s c cs t l small e =
    run_word s 0 cs t l c small (after_words (between_words s 0 (set cs s c)) 1) t
    (λ q h.
    let a = h.section in
    let b = h.counts in
    (λ i. word_came (loader_of (a i) q.at q.part (b i) q.note) t 0 c) ∙ rw e)

-- A word that is put where it belongs.
pub run_field : (s j : ℕ) (cs : List ℕ) (t : Set) (v : ℕ) → s < 4 → v < 256 ^ (field_of s j).width
    → bytes_loaded (loading (between_words s (suc j) cs) t) (little (field_of s j).width v)
    ≡ loading (after_words (between_words s 0 cs) (suc (suc j))) (put_field t (field_of s j) v)
unfolding word_came next_width after_words
run_field s j cs t v l small =
    run_word s (suc j) cs t l v small (after_words (between_words s 0 cs) (suc (suc j))) (put_field t (field_of s j) v)
    (λ q h.
    let a = h.section in
    let b = h.counts in
    λ i. word_came (loader_of (a i) q.at q.part (b i) q.note) t (suc j) v)

-- Slices with the first j words of a section put in.
unfoldable pub filled_in : Set → Set → ℕ → ℕ → Set
filled_in t u s zero = t
filled_in t u s (suc j) = put_field (filled_in t u s j) (field_of s j) (field_in u (field_of s j))

-- The words of a section that come are as small as their bytes.
abbrev pub Small : Set → ℕ → ℕ → Type 0
Small u s n = (j : ℕ) → j < n → field_in u (field_of s j) < 256 ^ (field_of s j).width

pub after_more : (s f : ℕ) (cs : List ℕ) → f ≤ section_words s (get_or cs s 0) → after_words (between_words s 0 cs) f ≡ between_words s f cs
unfolding after_words
after_more s f cs l = rw (ne_eqb f (section_words s (get_or cs s 0) + 1) (λ z. omega arith))

after_all : (s : ℕ) (cs : List ℕ) → after_words (between_words s 0 cs) (suc (section_words s (get_or cs s 0))) ≡ between_words (suc s) 0 cs
unfolding after_words
after_all s cs =
    let e : suc (section_words s (get_or cs s 0)) ≡ section_words s (get_or cs s 0) + 1 = omega arith in
    let z : s + 1 ≡ suc s = omega arith in
    rw (eq-eqb (suc (section_words s (get_or cs s 0))) (section_words s (get_or cs s 0) + 1) e) (ap (λ (k : ℕ). between_words k 0 cs) z)

run_fields : (s : ℕ) (cs : List ℕ) (t u : Set) → s < 4 → (j : ℕ) → j ≤ section_words s (get_or cs s 0) → Small u s j
    → bytes_loaded (loading (after_words (between_words s 0 cs) 1) t) (fields_bytes u s j)
    ≡ loading (after_words (between_words s 0 cs) (suc j)) (filled_in t u s j)
unfolding fields_bytes filled_in bytes_loaded
run_fields s cs t u l zero m h = refl
run_fields s cs t u l (suc j) m h =
    let v = field_in u (field_of s j) in
    let b = little (field_of s j).width v in
    bytes_loaded_append (loading (after_words (between_words s 0 cs) 1) t) (fields_bytes u s j) b
    ∙ ap (λ (d : Loading). bytes_loaded d b) (run_fields s cs t u l j (omega arith) (λ k n. h k (omega arith)))
    ∙ ap (λ (r : Loader). bytes_loaded (loading r (filled_in t u s j)) b) (after_more s (suc j) cs (omega arith))
    ∙ run_field s j cs (filled_in t u s j) v l (h j (omega arith))

-- A whole section.
pub run_section : (s c : ℕ) (cs : List ℕ) (t u : Set) → s < 4 → length cs ≡ 4 → c < 4294967296 → may_count t s c ≡ true
    → Small u s (section_words s c)
    → bytes_loaded (loading (between_words s 0 cs) t) (little 4 c ++ fields_bytes u s (section_words s c))
    ≡ loading (between_words (suc s) 0 (set cs s c)) (filled_in t u s (section_words s c))
run_section s c cs t u l n small e h =
    let own : get_or (set cs s c) s 0 ≡ c = get_or-set_same cs s c 0 (omega arith) in
    bytes_loaded_append (loading (between_words s 0 cs) t) (little 4 c) (fields_bytes u s (section_words s c))
    ∙ ap (λ (d : Loading). bytes_loaded d (fields_bytes u s (section_words s c))) (run_count s c cs t l small e)
    ∙ run_fields s (set cs s c) t u l (section_words s c) (rw own (omega arith)) h
    ∙ ap (λ (k : ℕ). loading (after_words (between_words s 0 (set cs s c)) (suc (section_words s k))) (filled_in t u s (section_words s c)))
    (sym own)
    ∙ ap (λ (r : Loader). loading r (filled_in t u s (section_words s c))) (after_all s (set cs s c))

-- Slices keep their lengths.
pub filled_long : (t u : Set) (s j : ℕ) (x : Slice) → length (slice_in (filled_in t u s j) x) ≡ length (slice_in t x)
unfolding filled_in
filled_long t u s zero x = refl
filled_long t u s (suc j) x =
    put-length (filled_in t u s j) (field_of s j).slice (field_of s j).index (field_in u (field_of s j)) x ∙ filled_long t u s j x

-- The words that were put in, and those of other sections.
pub filled_own : (t u : Set) (s c : ℕ) → s < 4 → can_hold t s c ≡ true → (j : ℕ) → j ≤ section_words s c → (k : ℕ) → k < j
    → field_in (filled_in t u s j) (field_of s k) ≡ field_in u (field_of s k)
unfolding filled_in
filled_own t u s c l h zero m k n = absurd (omega arith)
filled_own t u s c l h (suc j) m k n = go (ℕ_discrete k j) (λ n. filled_own t u s c l h j (omega arith) k n)
  where
    go : Dec (k ≡ j) → (k < j → field_in (filled_in t u s j) (field_of s k) ≡ field_in u (field_of s k))
        → field_in (put_field (filled_in t u s j) (field_of s j) (field_in u (field_of s j))) (field_of s k) ≡ field_in u (field_of s k)
    go (yes e) before =
        let room = holds_alike (filled_in t u s j) t (filled_long t u s j) s c ∙ h in
        rw e (field_same (filled_in t u s j) s j (field_in u (field_of s j)) c room (omega arith))
    go (no d) before = field_apart (filled_in t u s j) s j (field_in u (field_of s j)) s k l l (λ z y. d (sym y)) ∙ before (omega arith)

pub filled-other : (t u : Set) (s j i k : ℕ) → s < 4 → i < 4 → s ≢ i
    → field_in (filled_in t u s j) (field_of i k) ≡ field_in t (field_of i k)
unfolding filled_in
filled-other t u s zero i k l m n = refl
filled-other t u s (suc j) i k l m n =
    field_apart (filled_in t u s j) s j (field_in u (field_of s j)) i k l m (λ z. absurd (n z)) ∙ filled-other t u s j i k l m n
