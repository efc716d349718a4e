-- The reader after a part of an upload, and how the next byte moves it: to the reader after the part that is a byte longer.
use mathlib.Core.Path.{◌≡◌, refl, ap, sym, ◌∙◌}
use mathlib.Core.Logic.{◌≢◌}
use mathlib.Core.Bool.{true, false}
use mathlib.Core.List.{List, [], ◌∷◌, ◌++◌, append_assoc}
use Prim.Native.Nat.{ℕ, zero, suc, ◌+◌, ◌-◌, ◌*◌, ◌^◌, ◌<◌, ◌≤◌}
use native.Mathlib.Omega.{arith}
use lib.ListN.{length, take, drop, take-append-drop, length-drop}
use lib.Seq.{take_all, take-append-le, drop-append-le, length-take-le}
use borrow.Author.Tests.{eq-eqb, ne_eqb, ltb-true, ltb-false, lt-ltb, le-ltb}
use Rattle.slots.specs.Pairs.{Pair, pair}
use Rattle.index_rules.specs.Index.{Index}
use Rattle.upload_rules.specs.Upload.{pair_bytes}
use Rattle.endian.specs.Bytes.{Bytes, nothing, another, little}
use Rattle.upload_rules.specs.Reader.{Note, Reader, reader_of, unsaid, is_whole}
use Rattle.upload_rules.specs.Reading.{session, owing, kind_came, count_came, entry_came, last_came, byte_came, count_byte, name_byte}
use Rattle.upload_rules.specs.Reading.{in_hash, entry_place}
use Rattle.upload_rules.specs.Parts.{UploadPart, between, kinded, counting, within, part_bytes}
use Rattle.upload_rules.proofs.Ranges.{pick_by}
use Rattle.upload_rules.proofs.Endian.{count_two, gathered, gathered_one, gathered_number}
use Rattle.endian.specs.Bytes.{number_of}
use Rattle.endian.proofs.Endian.{little_number, number_small}
use Rattle.upload_rules.proofs.Sections.{pairs_in, pairs_in_one, length_one}
use Rattle.upload_rules.proofs.Growing.{placed_is}

-- The reader after a part.
unfoldable pub reader_at : ℕ → UploadPart → Reader
reader_at m (between ss) = reader_of (length ss) 0 0 0 0 m (pairs_in ss) unsaid
reader_at m (kinded ss) = reader_of (length ss) 1 0 0 0 m (pairs_in ss) unsaid
reader_at m (counting ss low) = reader_of (length ss) 2 (count_byte 0 low) 0 0 m (pairs_in ss) unsaid
reader_at m (within ss count ps held) =
    reader_of (length ss) (3 + length held) (count - length ps) (gathered 0 (take 8 held)) (gathered 0 (drop 8 held)) m
    (pairs_in ss + length ps) unsaid

pub same_reader : {s s' g g' o o' h h' k k' t t' : ℕ} (m : ℕ) (n : Note) → s ≡ s' → g ≡ g' → o ≡ o' → h ≡ h' → k ≡ k' → t ≡ t'
    → reader_of s g o h k m t n ≡ reader_of s' g' o' h' k' m t' n
same_reader m n a b c d e f = λ i. reader_of (a i) (b i) (c i) (d i) (e i) m (f i) n

-- The place of an entry is the offset of its first byte: as many bytes as came before it.
pub place_at : (m : ℕ) (ss : List (List Pair)) (c : ℕ) (ps : List Pair) (held : List ℕ)
    → entry_place (reader_at m (within ss c ps held)) ≡ length (part_bytes (within ss c ps []))
unfolding entry_place reader_at
place_at m ss c ps held = omega (arith, placed_is ss c ps)

-- With fewer than four sections the reader is not whole.
pub not_whole : (r : Reader) → r.section < 4 → is_whole r ≡ false
not_whole r l = ne_eqb r.section _ (λ z. omega arith)

module _ (m : ℕ) (ix : Index) (ss : List (List Pair)) (b : ℕ) where
  -- The kind byte.
  pub kind_on : length ss < 4 → b ≡ suc (length ss) → byte_came (reader_at m (between ss)) ix b ≡ session (reader_at m (kinded ss)) ix
  unfolding byte_came kind_came reader_at
  kind_on l e = let f : b ≡ length ss + 1 = omega arith in rw (not_whole (reader_at m (between ss)) l, eq-eqb b (length ss + 1) f)

  -- The count's bytes.
  pub low_on : length ss < 4 → byte_came (reader_at m (kinded ss)) ix b ≡ session (reader_at m (counting ss b)) ix
  unfolding byte_came count_came reader_at
  low_on l = rw (not_whole (reader_at m (kinded ss)) l)

module _ (m : ℕ) (ix : Index) (ss : List (List Pair)) (lo hi : ℕ) (l : length ss < 4) (low : lo < 256) (high : hi < 256) where
  -- A section of no entries is whole.
  pub high_none : lo ≡ 0 → hi ≡ 0 → byte_came (reader_at m (counting ss lo)) ix hi ≡ session (reader_at m (between (ss ++ ([] ∷ [])))) ix
  unfolding byte_came count_came owing reader_at
  high_none e f =
      let c : count_byte (count_byte 0 lo) hi ≡ 0 = count_two lo hi low high ∙ omega arith in
      rw (not_whole (reader_at m (counting ss lo)) l, c)
      (ap (λ (r : Reader). session r ix)
      (same_reader m unsaid (sym (length_one ss [])) refl refl refl refl (omega (arith, pairs_in_one ss []))))

  pub high_some : {c : ℕ} → c ≢ 0 → c ≡ lo + 256 * hi
      → byte_came (reader_at m (counting ss lo)) ix hi ≡ session (reader_at m (within ss c [] [])) ix
  unfolding byte_came count_came owing reader_at gathered
  high_some {c} z e =
      let d : count_byte (count_byte 0 lo) hi ≡ c = count_two lo hi low high ∙ sym e in
      rw (not_whole (reader_at m (counting ss lo)) l, d, ne_eqb c 0 z)
      (ap (λ (r : Reader). session r ix) (same_reader m unsaid refl refl (omega arith) refl refl (omega arith)))

-- The bytes of an entry.
take_one : (held : List ℕ) (b : ℕ) → length held < 8 → gathered 0 (take 8 (held ++ (b ∷ []))) ≡ name_byte (gathered 0 (take 8 held)) b
take_one held b l =
    let n = length_one held b in
    rw (take_all 8 (held ++ (b ∷ [])) (omega arith), take_all 8 held (omega arith)) (gathered_one 0 held b)

drop_none : (held : List ℕ) → length held ≤ 8 → drop 8 held ≡ []
drop_none held l = none (drop 8 held) (omega (arith, length-drop 8 held))
  where
    none : (x : List ℕ) → length x ≡ 0 → x ≡ []
    none [] e = refl
    none (y ∷ x) e = absurd (omega arith)

-- The hash's bytes are the first eight of an entry, the key's the others.
hash_first : (r : Reader) → in_hash r ≡ true → r.got < 11
unfolding in_hash
hash_first r t = omega (arith, ltb-true)

key_after : (r : Reader) → in_hash r ≡ false → 11 ≤ r.got
unfolding in_hash
key_after r t = omega (arith, ltb-false)

module _ (m : ℕ) (ix : Index) (ss : List (List Pair)) (count : ℕ) (ps : List Pair) (held : List ℕ) (b : ℕ) (l : length ss < 4) where
  abbrev here : Reader
  here = reader_at m (within ss count ps held)

  entry_reads : entry_came here b ≡ reader_at m (within ss count ps (held ++ (b ∷ [])))
  unfolding entry_came reader_at
  entry_reads =
      let n = length_one held b in
      let grown : 3 + length held + 1 ≡ 3 + length (held ++ (b ∷ [])) = omega arith in
      pick_by (λ (r : Reader). r ≡ reader_at m (within ss count ps (held ++ (b ∷ [])))) (in_hash here) _ _
      (λ t.
      let e = hash_first here t in
      same_reader m unsaid refl grown refl (sym (take_one held b (omega arith)))
      (ap (gathered 0) (drop_none held (omega arith) ∙ sym (drop_none (held ++ (b ∷ [])) (omega arith)))) refl)
      (λ t.
      let e = key_after here t in
      same_reader m unsaid refl grown refl (ap (gathered 0) (sym (take-append-le 8 held (b ∷ []) (omega arith))))
      (sym (ap (gathered 0) (drop-append-le 8 held (b ∷ []) (omega arith)) ∙ gathered_one 0 (drop 8 held) b)) refl)

  abbrev begun : 3 + length held ≢ 0
  begun = λ z. omega arith

  pub entry_on : length held < 15 → byte_came here ix b ≡ session (reader_at m (within ss count ps (held ++ (b ∷ [])))) ix
  unfolding byte_came reader_at
  entry_on s =
      rw (
        not_whole here l,
        ne_eqb (3 + length held) 0 begun,
        le-ltb (3 + length held) 3 (omega arith),
        lt-ltb (3 + length held) 18 (omega arith),
      )
      (ap (λ (r : Reader). session r ix) entry_reads)

  pub entry_last : length held ≡ 15 → byte_came here ix b ≡ last_came here ix b
  unfolding byte_came reader_at
  entry_last e =
      rw (
        not_whole here l,
        ne_eqb (3 + length held) 0 begun,
        le-ltb (3 + length held) 3 (omega arith),
        le-ltb (3 + length held) 18 (omega arith),
      )

-- Sixteen bytes are those of one pair.
pub record Spelled (held : List ℕ) (b : ℕ) (p : Pair) : Type 0 where
  pub hash : gathered 0 (take 8 held) ≡ p.hash
  pub key : name_byte (gathered 0 (drop 8 held)) b ≡ p.key
  pub bytes : pair_bytes p ≡ held ++ (b ∷ [])
  pub hash_small : p.hash < 2 ^ 64
  pub key_small : p.key < 2 ^ 64

pub bytes_take : (n : ℕ) {l : List ℕ} → Bytes l → Bytes (take n l)
bytes_take zero k = nothing
bytes_take (suc n) nothing = nothing
bytes_take (suc n) (another h k) = another h (bytes_take n k)

bytes_drop : (n : ℕ) {l : List ℕ} → Bytes l → Bytes (drop n l)
bytes_drop zero k = k
bytes_drop (suc n) nothing = nothing
bytes_drop (suc n) (another h k) = bytes_drop n k

little_eight : {l : List ℕ} → Bytes l → length l ≡ 8 → little 8 (number_of l) ≡ l
little_eight {l} k e = ap (λ (n : ℕ). little n (number_of l)) (sym e) ∙ little_number k

number_eight : {l : List ℕ} → Bytes l → length l ≡ 8 → number_of l < 2 ^ 64
number_eight {l} k e = let a : number_of l < 256 ^ 8 = rw e at (number_small k) in omega arith

pub snoc_bytes : {l : List ℕ} {b : ℕ} → Bytes l → b < 256 → Bytes (l ++ (b ∷ []))
snoc_bytes nothing s = another s nothing
snoc_bytes (another h k) s = another h (snoc_bytes k s)

abbrev pub pair_at : List ℕ → ℕ → Pair
pair_at held b = pair (number_of (take 8 held)) (number_of (drop 8 held ++ (b ∷ [])))

pub spell : {held : List ℕ} {b : ℕ} → Bytes held → b < 256 → length held ≡ 15 → Spelled held b (pair_at held b)
unfolding pair_bytes
spell {held} {b} k s e =
    let t8 : length (take 8 held) ≡ 8 = length-take-le 8 held (omega arith) in
    let d7 : length (drop 8 held) ≡ 7 = length-drop 8 held ∙ omega arith in
    let d8 : length (drop 8 held ++ (b ∷ [])) ≡ 8 = length_one (drop 8 held) b ∙ omega arith in
    let kd : Bytes (drop 8 held ++ (b ∷ [])) = snoc_bytes (bytes_drop 8 k) s in
    record {
      hash = gathered_number (take 8 held) t8;
      key = sym (gathered_one 0 (drop 8 held) b) ∙ gathered_number (drop 8 held ++ (b ∷ [])) d8;
      bytes = (λ i. little_eight (bytes_take 8 k) t8 i ++ little_eight kd d8 i) ∙ sym (append_assoc (take 8 held) (drop 8 held) (b ∷ []))
          ∙ ap (λ (x : List ℕ). x ++ (b ∷ [])) (take-append-drop 8 held);
      hash_small = number_eight (bytes_take 8 k) t8;
      key_small = number_eight kd d8;
    }
