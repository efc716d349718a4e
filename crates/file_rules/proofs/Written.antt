-- The loader and the slices say which bytes have come: each byte adds itself to what they say.
use mathlib.Core.Path.{◌≡◌, refl, ap, sym, ◌∙◌}
use mathlib.Core.List.{List, [], ◌∷◌, ◌++◌, append-nil, append_assoc}
use Prim.Native.Nat.{ℕ, zero, suc, ◌+◌, ◌*◌, ◌/◌, ◌%◌, ◌^◌, ◌<◌}
use native.Mathlib.Omega.{arith}
use lib.ListN.{get_or}
use lib.Dec.{eqb, ltb}
use borrow.Author.Tests.{eqb-true, eqb-false, ltb-true, ltb-false}
use Rattle.slots.specs.Words.{pick}
use Rattle.slots.specs.Answers.{Answer}
use Rattle.endian.specs.Bytes.{Bytes, nothing, another, little}
use Rattle.upload_rules.specs.Reader.{unsaid, said}
use Rattle.upload_rules.proofs.Ranges.{pick_both, pick_by}
use Rattle.set_rules.specs.Words.{Set}
use Rattle.file_rules.specs.Layout.{field_of, section_words, field_in, put_field}
use Rattle.file_rules.specs.Loader.{Loader, count_taken, next_width, FitLoader, RoomFor}
use Rattle.file_rules.specs.Loading.{Loading, loading, load_refused, loader_at, after_words, with_count, may_count, word_came, with_byte}
use Rattle.file_rules.specs.Loading.{byte_stored, byte_loaded, bytes_loaded, GoesOn}
use Rattle.file_rules.proofs.Endian.{little_snoc}
use Rattle.file_rules.proofs.Fields.{field_apart, field_same}
use Rattle.file_rules.proofs.Ranges.{not_unsaid, next-width, count_own, count-other, open_or, byte_open, byte_said}
use Rattle.file_rules.proofs.Ranges.{byte_goes}

-- The bytes of the first j words of section s in the slices.
unfoldable pub fields_bytes : Set → ℕ → ℕ → List ℕ
fields_bytes t s zero = []
fields_bytes t s (suc j) = fields_bytes t s j ++ little (field_of s j).width (field_in t (field_of s j))

-- The bytes of the first f words of a section, its count the first of them, where these are the counts.
unfoldable pub begun_bytes : List ℕ → Set → ℕ → ℕ → List ℕ
begun_bytes cs t s zero = []
begun_bytes cs t s (suc j) = little 4 (get_or cs s 0) ++ fields_bytes t s j

-- The bytes of the first s sections.
unfoldable pub wholes_bytes : List ℕ → Set → ℕ → List ℕ
wholes_bytes cs t zero = []
wholes_bytes cs t (suc s) = wholes_bytes cs t s ++ begun_bytes cs t s (suc (section_words s (get_or cs s 0)))

-- The bytes that have come: s sections, f words of the next, and h bytes of a word.
unfoldable pub came_bytes_at : List ℕ → Set → ℕ → ℕ → ℕ → ℕ → List ℕ
came_bytes_at cs t s f h p = wholes_bytes cs t s ++ (begun_bytes cs t s f ++ little h p)

abbrev pub came_bytes : Loader → Set → List ℕ
came_bytes r t = came_bytes_at r.counts t r.section (r.at / 8) (r.at % 8) r.part

pub fields_same : (t u : Set) (s j : ℕ) → ((k : ℕ) → k < j → field_in t (field_of s k) ≡ field_in u (field_of s k))
    → fields_bytes t s j ≡ fields_bytes u s j
unfolding fields_bytes
fields_same t u s zero h = refl
fields_same t u s (suc j) h =
    let a = fields_same t u s j (λ k l. h k (omega arith)) in
    let b = h j (omega arith) in
    λ i. a i ++ little (field_of s j).width (b i)

pub begun_same : (cs ds : List ℕ) (t u : Set) (s f : ℕ) → get_or cs s 0 ≡ get_or ds s 0
    → ((k : ℕ) → suc k < f → field_in t (field_of s k) ≡ field_in u (field_of s k)) → begun_bytes cs t s f ≡ begun_bytes ds u s f
unfolding begun_bytes
begun_same cs ds t u s zero e h = refl
begun_same cs ds t u s (suc j) e h = let a = fields_same t u s j (λ k l. h k (omega arith)) in λ i. little 4 (e i) ++ a i

pub wholes_same : (cs ds : List ℕ) (t u : Set) (s : ℕ) → ((i : ℕ) → i < s → get_or cs i 0 ≡ get_or ds i 0)
    → ((i k : ℕ) → i < s → k < section_words i (get_or cs i 0) → field_in t (field_of i k) ≡ field_in u (field_of i k))
    → wholes_bytes cs t s ≡ wholes_bytes ds u s
unfolding wholes_bytes
wholes_same cs ds t u zero e h = refl
wholes_same cs ds t u (suc s) e h =
    let c = e s (omega arith) in
    let a = wholes_same cs ds t u s (λ i l. e i (omega arith)) (λ i k l. h i k (omega arith)) in
    let b = begun_same cs ds t u s (suc (section_words s (get_or cs s 0))) c (λ k l. h s k (omega arith) (omega arith)) in
    (λ i. a i ++ b i) ∙ ap (λ (x : ℕ). wholes_bytes ds u s ++ begun_bytes ds u s (suc (section_words s x))) c

-- Where the loader goes on makes no difference.
module _ (r : Loader) (t : Set) (f : ℕ) where
  abbrev So : Loader → Type 0
  So x = came_bytes x t ≡ wholes_bytes r.counts t r.section ++ begun_bytes r.counts t r.section f

  after_here : So (loader_at r r.section (8 * f) 0)
  unfolding came_bytes_at little
  after_here =
      let q : 8 * f / 8 ≡ f = omega arith in
      let z : (8 * f) % 8 ≡ 0 = omega arith in
      (λ i. came_bytes_at r.counts t r.section (q i) (z i) 0)
      ∙ ap (λ (x : List ℕ). wholes_bytes r.counts t r.section ++ x) (append-nil (begun_bytes r.counts t r.section f))

  after_next : f ≡ section_words r.section (count_taken r r.section) + 1 → So (loader_at r (r.section + 1) 0 0)
  unfolding came_bytes_at little begun_bytes wholes_bytes
  after_next e =
      let z : r.section + 1 ≡ suc r.section = omega arith in
      let g : suc (section_words r.section (count_taken r r.section)) ≡ f = omega arith in
      (λ i. came_bytes_at r.counts t (z i) 0 0 0) ∙ append-nil (wholes_bytes r.counts t (suc r.section))
      ∙ ap (λ (x : ℕ). wholes_bytes r.counts t r.section ++ begun_bytes r.counts t r.section x) g

  after-written : So (after_words r f)
  unfolding after_words
  after-written =
      pick_by So (eqb f (section_words r.section (count_taken r r.section) + 1)) _ _ (λ e. after_next (eqb-true f _ e))
      (λ e. after_here)

-- A byte more on top is a byte more behind: "little-endian, which is the lowest byte first".
pub byte_on_top : (r : Loader) (b : ℕ) → r.part < 256 ^ (r.at % 8) → b < 256
    → little (suc (r.at % 8)) (with_byte r b) ≡ little (r.at % 8) r.part ++ (b ∷ [])
unfolding with_byte
byte_on_top r b h l =
    let e : with_byte r b ≡ r.part + 256 ^ (r.at % 8) * b = omega arith in
    ap (little (suc (r.at % 8))) e ∙ little_snoc (r.at % 8) r.part b h l

-- Where nothing is noted, the byte is added to what has come.
abbrev Adds : Loader → Set → ℕ → Loading → Type 0
Adds r t b d = d.loader.note ≡ unsaid → came_bytes d.loader d.set ≡ came_bytes r t ++ (b ∷ [])

regroup : (x y z w : List ℕ) → (x ++ (y ++ z)) ++ w ≡ x ++ (y ++ (z ++ w))
regroup x y z w = simp append_assoc

module _ (r : Loader) (t : Set) (h : FitLoader r) (room : RoomFor r t) (ahead : r.section < 4) (b : ℕ) (small : b < 256) where
  -- The bytes before the word, and those of the section before it.
  abbrev bytes_before : List ℕ
  bytes_before = wholes_bytes r.counts t r.section

  abbrev bytes_begun : ℕ → List ℕ
  bytes_begun f = begun_bytes r.counts t r.section f

  part_adds : r.at % 8 + 1 < next_width r.section (r.at / 8)
      → Adds r t b (loading (loader_at r r.section (r.at + 1) (with_byte r b)) t)
  unfolding came_bytes_at
  part_adds l u =
      let w = (next-width r.section (r.at / 8)).1 in
      let q : (r.at + 1) / 8 ≡ r.at / 8 = omega arith in
      let z : (r.at + 1) % 8 ≡ suc (r.at % 8) = omega arith in
      (λ i. came_bytes_at r.counts t r.section (q i) (z i) (with_byte r b))
      ∙ ap (λ (x : List ℕ). bytes_before ++ (bytes_begun (r.at / 8) ++ x)) (byte_on_top r b h.number small)
      ∙ sym (regroup bytes_before (bytes_begun (r.at / 8)) (little (r.at % 8) r.part) (b ∷ []))

  -- The word's bytes, behind those before it.
  joined : (f : ℕ) {l : List ℕ} → r.at / 8 ≡ f → l ≡ little (r.at % 8) r.part ++ (b ∷ [])
      → bytes_before ++ (bytes_begun f ++ l) ≡ came_bytes r t ++ (b ∷ [])
  unfolding came_bytes_at
  joined f g e =
      (λ i. bytes_before ++ (bytes_begun (sym g i) ++ e i))
      ∙ sym (regroup bytes_before (bytes_begun (r.at / 8)) (little (r.at % 8) r.part) (b ∷ []))

  count_adds : (v : ℕ) → r.at / 8 ≡ 0 → little 4 v ≡ little (r.at % 8) r.part ++ (b ∷ [])
      → came_bytes (after_words (with_count r v) 1) t ≡ came_bytes r t ++ (b ∷ [])
  unfolding begun_bytes fields_bytes
  count_adds v g e =
      let w =
      wholes_same (with_count r v).counts r.counts t t r.section (λ i l. count-other r v i (λ z. omega arith)) (λ i k l m. refl) in
      let c = count_own r v ahead h.four in
      after-written (with_count r v) t 1 ∙ (λ i. w i ++ (little 4 (c i) ++ []))
      ∙ ap (λ (x : List ℕ). bytes_before ++ x) (append-nil (little 4 v))
      ∙ joined 0 g e

  field_adds : (j v : ℕ) → r.at / 8 ≡ suc j → little (field_of r.section j).width v ≡ little (r.at % 8) r.part ++ (b ∷ [])
      → came_bytes (after_words r (suc (suc j))) (put_field t (field_of r.section j) v) ≡ came_bytes r t ++ (b ∷ [])
  unfolding begun_bytes fields_bytes
  field_adds j v g e =
      let s = r.section in
      let u = put_field t (field_of s j) v in
      let w =
      wholes_same r.counts r.counts u t s (λ i l. refl)
      (λ i k l m. field_apart t s j v i k ahead (omega arith) (λ z y. omega arith)) in
      let c = fields_same u t s j (λ k l. field_apart t s j v s k ahead ahead (λ z y. omega arith)) in
      let n = h.words in
      let d = field_same t s j v (count_taken r s) (room s ahead) (omega arith) in
      after-written r u (suc (suc j))
      ∙ (λ i. w i ++ (little 4 (count_taken r s) ++ (c i ++ little (field_of s j).width (d i))))
      ∙ ap (λ (x : List ℕ). bytes_before ++ x) (sym (append_assoc (little 4 (count_taken r s)) (fields_bytes t s j) _))
      ∙ joined (suc j) g e

  word_adds : (f v : ℕ) → r.at / 8 ≡ f → little (next_width r.section f) v ≡ little (r.at % 8) r.part ++ (b ∷ [])
      → Adds r t b (word_came r t f v)
  unfolding word_came next_width load_refused
  word_adds zero v g e = pick_both (Adds r t b) (may_count t r.section v) _ _ (λ u. count_adds v g e) (λ u. absurd (not_unsaid u))
  word_adds (suc j) v g e = λ u. field_adds j v g e

  pub ahead_adds : Adds r t b
      (pick (ltb (r.at % 8 + 1) (next_width r.section (r.at / 8)))
      (loading (loader_at r r.section (r.at + 1) (with_byte r b)) t)
      (word_came r t (r.at / 8) (with_byte r b)))
  ahead_adds =
      pick_by (Adds r t b) (ltb (r.at % 8 + 1) (next_width r.section (r.at / 8))) _ _ (λ l. part_adds (ltb-true _ _ l))
      (λ l.
      let m = ltb-false (r.at % 8 + 1) _ l in
      let n = h.bytes in
      let w : next_width r.section (r.at / 8) ≡ suc (r.at % 8) = omega arith in
      word_adds (r.at / 8) (with_byte r b) refl (ap (λ (x : ℕ). little x (with_byte r b)) w ∙ byte_on_top r b h.number small))

-- A byte that is taken.
stored_adds : (r : Loader) (t : Set) (b : ℕ) → b < 256 → FitLoader r → RoomFor r t → Adds r t b (byte_stored r t b)
unfolding byte_stored load_refused
stored_adds r t b small h room =
    pick_by (Adds r t b) (eqb r.section 4) _ _ (λ e u. absurd (not_unsaid u))
    (λ e. let n = eqb-false r.section 4 e in let l = h.sections in ahead_adds r t h room (omega arith) b small)

-- What is noted stays noted.
pub bytes_said : (d : Loading) {a : Answer} (l : List ℕ) → d.loader.note ≡ said a → bytes_loaded d l ≡ d
unfolding bytes_loaded
bytes_said d [] e = refl
bytes_said d (b ∷ l) e = ap (λ (x : Loading). bytes_loaded x l) (byte_said d b e) ∙ bytes_said d l e

pub still_open : (d : Loading) (l : List ℕ) → (bytes_loaded d l).loader.note ≡ unsaid → d.loader.note ≡ unsaid
still_open d l u =
    open_or d.loader.note (λ e. e)
    (λ a e. absurd (not_unsaid (sym e ∙ ap (λ (x : Loading). x.loader.note) (sym (bytes_said d l e)) ∙ u)))

byte_adds : (d : Loading) (b : ℕ) → b < 256 → GoesOn d → d.loader.note ≡ unsaid → Adds d.loader d.set b (byte_loaded d b)
byte_adds d b small h e = rw (byte_open d b e) (stored_adds d.loader d.set b small h.fit (h.room e))

pub bytes_add : (d : Loading) {l : List ℕ} → Bytes l → GoesOn d → (bytes_loaded d l).loader.note ≡ unsaid
    → came_bytes (bytes_loaded d l).loader (bytes_loaded d l).set ≡ came_bytes d.loader d.set ++ l
unfolding bytes_loaded
bytes_add d nothing h u = sym (append-nil (came_bytes d.loader d.set))
bytes_add d (another {b} {l} s k) h u =
    let m = still_open (byte_loaded d b) l u in
    let e = still_open d (b ∷ []) m in
    bytes_add (byte_loaded d b) k (byte_goes d b s h) u ∙ ap (λ (x : List ℕ). x ++ l) (byte_adds d b s h e m)
    ∙ append_assoc (came_bytes d.loader d.set) (b ∷ []) l
