-- Bytes that are refused are so for their reason: what the loader holds before the byte is a front of a file, and the byte tells why.
-- Parts: slices keep their lengths; the set that the counts cut out may be loaded; the reason of an answer; a byte too many, and a count
-- over its limit; any one byte; all bytes from the start on.
use mathlib.Core.Path.{◌≡◌, refl, ap, sym, ◌∙◌, subst}
use mathlib.Core.Bool.{false, false≢true}
use mathlib.Core.List.{List, [], ◌∷◌, ◌++◌, append-nil, append_assoc}
use Prim.Native.Nat.{ℕ, zero, suc, ◌+◌, ◌*◌, ◌/◌, ◌%◌, ◌^◌, ◌<◌, ◌≤◌}
use native.Mathlib.Decide.{dec_lt}
use native.Mathlib.Omega.{arith}
use lib.ListN.{length, get_or, length-replicate, get_or-eq_default}
use lib.Seq.{length-take-le}
use lib.Dec.{eqb, ltb}
use borrow.Author.Tests.{eqb-true, eqb-false, ltb-false}
use Rattle.slots.specs.Words.{null, state, cell}
use Rattle.slots.specs.Answers.{Answer, refused}
use Rattle.endian.specs.Bytes.{Bytes, nothing, another, little}
use Rattle.tree_rules.specs.Find.{slots_of}
use Rattle.upload_rules.specs.Reader.{unsaid, said}
use Rattle.upload_rules.proofs.Ranges.{pick_both, pick_by}
use Rattle.upload_rules.proofs.Cutting.{bytes_append}
use Rattle.set_rules.specs.Words.{Set}
use Rattle.file_rules.specs.File.{Wide, set_front, counts_in}
use Rattle.file_rules.specs.Layout.{Slice, ofLengths, ofBins, ofHeads, ofNames, ofCells, slice_in, Field, slot_width, slot_field}
use Rattle.file_rules.specs.Layout.{field_of, section_words, most_of, field_in}
use Rattle.file_rules.specs.Loader.{Loader, count_taken, new_loader, note_in, next_width, FitLoader, RoomFor}
use Rattle.file_rules.specs.Loading.{Loading, loading, zero_set, load_refused, may_count, word_came, with_byte, byte_stored, byte_loaded}
use Rattle.file_rules.specs.Loading.{bytes_loaded, cut_out}
use Rattle.file_rules.specs.Faults.{Loadable, OverLimit, LongFile}
use Rattle.file_rules.proofs.Fields.{put-length}
use Rattle.file_rules.proofs.Counting.{allowed_may, may_alike}
use Rattle.file_rules.proofs.Ranges.{not_unsaid, byte_small, come_none, open_or, byte_open, byte_said, bytes_go}
use Rattle.file_rules.proofs.Testing.{start_goes}
use Rattle.file_rules.proofs.Written.{begun_bytes, wholes_bytes, came_bytes_at, came_bytes, wholes_same, byte_on_top, bytes_said}
use Rattle.file_rules.proofs.Spelling.{slot_word, front_bytes}
use Rattle.file_rules.proofs.Bringing.{bytes_loaded_append, Small}
use Rattle.file_rules.proofs.Tight.{Tight, bytes_tight, start_tight}
use Rattle.file_rules.proofs.CutOut as O

-- Slices keep their lengths.
abbrev pub SameLengths : Set → Set → Type 0
SameLengths t u = (x : Slice) → length (slice_in u x) ≡ length (slice_in t x)

zero-kept : (t : Set) → SameLengths t (zero_set t)
zero-kept t ofLengths = length-replicate {A = ℕ} (length t.lengths) 0
zero-kept t ofBins = length-replicate {A = ℕ} (length t.bins) 0
zero-kept t ofHeads = length-replicate {A = ℕ} (length t.heads) 0
zero-kept t ofNames = length-replicate {A = ℕ} (length t.names) 0
zero-kept t ofCells = length-replicate {A = ℕ} (length t.cells) 0

word_kept : (r : Loader) (t : Set) (f v : ℕ) → SameLengths t (word_came r t f v).set
unfolding word_came load_refused
word_kept r t zero v =
    pick_both (λ (d : Loading). SameLengths t d.set) (may_count t r.section v) _ _ (λ x. refl) (zero-kept t)
word_kept r t (suc j) v = put-length t (field_of r.section j).slice (field_of r.section j).index v

stored-kept : (r : Loader) (t : Set) (b : ℕ) → SameLengths t (byte_stored r t b).set
unfolding byte_stored load_refused
stored-kept r t b =
    pick_both (λ (d : Loading). SameLengths t d.set) (eqb r.section 4) _ _ (zero-kept t)
    (pick_both (λ (d : Loading). SameLengths t d.set) (ltb (r.at % 8 + 1) (next_width r.section (r.at / 8))) _ _ (λ x. refl)
    (word_kept r t (r.at / 8) (with_byte r b)))

pub byte_kept : (d : Loading) (b : ℕ) → SameLengths d.set (byte_loaded d b).set
byte_kept d b =
    open_or d.loader.note (λ e. rw (byte_open d b e) (stored-kept d.loader d.set b)) (λ a e. rw (byte_said d b e) (λ x. refl))

pub bytes_kept : (d : Loading) (l : List ℕ) → SameLengths d.set (bytes_loaded d l).set
unfolding bytes_loaded
bytes_kept d [] x = refl
bytes_kept d (b ∷ l) x = bytes_kept (byte_loaded d b) l x ∙ byte_kept d b x

-- A word that is not there is small.
small_all : (l : List ℕ) (d m : ℕ) → d < m → ((i : ℕ) → i < length l → get_or l i d < m) → (i : ℕ) → get_or l i d < m
small_all l d m h k i = go (dec_lt i (length l))
  where
    go : Dec (i < length l) → get_or l i d < m
    go (yes n) = k i n
    go (no n) = let e = get_or-eq_default l d {n = i} (omega arith) in rw e h

-- The set that the counts cut out of the slices may be loaded.
module _ (r : Loader) (t u : Set) (kept : SameLengths t u) (limits : (s : ℕ) → s < 4 → count_taken r s ≤ most_of s) (room : RoomFor r u)
    (small : (s : ℕ) → s < 4 → Small u s (section_words s (count_taken r s))) where
  abbrev own : Set
  own = cut_out r u

  cells_cut : length own.cells ≡ 7 * count_taken r 3
  unfolding cut_out
  cells_cut = length-take-le (7 * count_taken r 3) u.cells (O.long r u room).cells

  slots_own : slots_of own.names ≡ count_taken r 3
  slots_own = let e = O.names_cut r u room in omega arith

  word_small : (s k : ℕ) → s < 4 → k < section_words s (count_taken r s) → field_in own (field_of s k) < 256 ^ (field_of s k).width
  word_small s k l m = rw (O.field_cut r u s k l m) (small s l k m)

  slot_small : (i f : ℕ) → f < 9 → i < count_taken r 3 → field_in own (slot_field i f) < 256 ^ (slot_field i f).width
  unfolding section_words
  slot_small i f l m =
      subst (λ (x : Field). field_in own x < 256 ^ x.width) (slot_word i f (9 * i + f) refl l)
      (word_small 3 (9 * i + f) (omega arith) (omega arith))

  name_small : (q f : ℕ) → f < 2 → q < count_taken r 3 → get_or own.names (2 * q + f) 0 < 2 ^ 64
  unfolding slot_field slot_width
  name_small q zero l m = slot_small q 0 (omega arith) m
  name_small q (suc zero) l m = slot_small q 1 (omega arith) m
  name_small q (suc (suc f)) l m = absurd (omega arith)

  cell-small : (q f : ℕ) → f < 7 → q < count_taken r 3 → get_or own.cells (7 * q + f) null < 2 ^ 32
  unfolding slot_field slot_width
  cell-small q zero l m = slot_small q 2 (omega arith) m
  cell-small q (suc zero) l m = let k = slot_small q 3 (omega arith) m in omega arith
  cell-small q (suc (suc f)) l m = slot_small q (suc (suc (suc (suc f)))) (omega arith) m

  state-small : (x : ℕ) → x < slots_of own.names → cell own.cells x state < 256
  unfolding slot_field slot_width cell
  state-small x l = let e = slots_own in slot_small x 3 (omega arith) (omega arith)

  own_wide : Wide own
  unfolding field_of section_words
  own_wide =
      let g = O.long r u room in
      let hd = O.heads_cut r u room in
      let nm = O.names_cut r u room in
      let cl = cells_cut in
      let ln : length own.lengths ≡ count_taken r 0 = unfold cut_out in length-take-le (count_taken r 0) u.lengths g.lengths in
      let bn : length own.bins ≡ count_taken r 1 = unfold cut_out in length-take-le (count_taken r 1) u.bins g.bins in
      record {
        lengths = small_all own.lengths 0 (2 ^ 32) (omega arith) (λ i l. word_small 0 i (omega arith) (omega arith));
        bins = small_all own.bins 0 (2 ^ 32) (omega arith) (λ i l. word_small 1 i (omega arith) (omega arith));
        heads = small_all own.heads null (2 ^ 32) (omega arith) (λ i l. word_small 2 i (omega arith) (omega arith));
        names = small_all own.names 0 (2 ^ 64) (omega arith)
            (λ i l. let e : 2 * (i / 2) + i % 2 ≡ i = omega arith in rw e at (name_small (i / 2) (i % 2) (omega arith) (omega arith)));
        cells = small_all own.cells null (2 ^ 32) (omega arith)
            (λ i l. let e : 7 * (i / 7) + i % 7 ≡ i = omega arith in rw e at (cell-small (i / 7) (i % 7) (omega arith) (omega arith)));
      }

  pub cut_loadable : Loadable t own
  unfolding most_of
  cut_loadable =
      let g = O.long r u room in
      let hd = O.heads_cut r u room in
      let nm = O.names_cut r u room in
      let cl = cells_cut in
      let ln : length own.lengths ≡ count_taken r 0 = unfold cut_out in length-take-le (count_taken r 0) u.lengths g.lengths in
      let bn : length own.bins ≡ count_taken r 1 = unfold cut_out in length-take-le (count_taken r 1) u.bins g.bins in
      record {
        three = omega arith;
        two = omega arith;
        seven = omega arith;
        tables = omega (arith, limits 0 (omega arith));
        bins = omega (arith, limits 1 (omega arith));
        headers = omega (arith, limits 2 (omega arith));
        slots = omega (arith, limits 3 (omega arith));
        larger = record {
          lengths = omega (arith, g.lengths, kept ofLengths);
          bins = omega (arith, g.bins, kept ofBins);
          heads = omega (arith, g.heads, kept ofHeads);
          names = omega (arith, g.names, kept ofNames);
          cells = omega (arith, g.cells, kept ofCells);
        };
        wide = own_wide;
        states = state-small;
      }

pub no_words : (s k : ℕ) → k < section_words s 0 → ⊥
unfolding section_words
no_words zero k l = omega arith
no_words (suc zero) k l = omega arith
no_words (suc (suc zero)) k l = omega arith
no_words (suc (suc (suc s))) k l = omega arith

-- The reason of an answer.
pub data Why (t : Set) (l : List ℕ) : Answer → Type 0 where
  long : LongFile t l → Why t l (refused 13)
  over : OverLimit t l → Why t l (refused 14)

said_is : {a b : Answer} → said a ≡ said b → a ≡ b
said_is e = cc

module _ (t : Set) (r : Loader) (u : Set) (h : FitLoader r) (room : RoomFor r u) (kept : SameLengths t u) (l : List ℕ)
    (w : l ≡ came_bytes r u)
    (tight : Tight r.counts u r.section (r.at / 8)) (b : ℕ) (byte : b < 256) (rest : List ℕ) where
  past : r.section ≡ 4 → LongFile t (l ++ (b ∷ rest))
  past e =
      record {
        front = cut_out r u;
        loadable = cut_loadable r t u kept h.limits room (λ s k. tight.wholes s (omega arith));
        byte = b;
        rest = rest;
        is = ap (λ (x : List ℕ). x ++ (b ∷ rest)) (w ∙ O.came_cut r u room h e);
      }

  module _ (ahead : r.section < 4) (first : r.at / 8 ≡ 0) (last : r.at % 8 ≡ 3) where
    -- A count that has not come is 0, so the counts cut out the words of the whole sections alone.
    small_each : (s : ℕ) → s < 4 → Small u s (section_words s (count_taken r s))
    small_each s k = go (dec_lt s r.section)
      where
        go : Dec (s < r.section) → Small u s (section_words s (count_taken r s))
        go (yes m) = tight.wholes s m
        go (no m) = λ j n. absurd (no_words s j (rw (h.later s k (omega (arith, come_none r first))) at n))

    front_loadable : Loadable t (cut_out r u)
    front_loadable = cut_loadable r t u kept h.limits room small_each

    front_is : wholes_bytes r.counts u r.section ≡ set_front (cut_out r u) r.section
    front_is =
        wholes_same r.counts (counts_in (cut_out r u)) u (cut_out r u) r.section (λ i k. O.counts_cut r u room i (omega arith))
        (λ i k m n. sym (O.field_cut r u i k (omega arith) n))
        ∙ front_bytes (cut_out r u) front_loadable.three r.section (omega arith)

    count_bytes : little 4 (with_byte r b) ≡ little (r.at % 8) r.part ++ (b ∷ [])
    count_bytes =
        let e : suc (r.at % 8) ≡ 4 = omega arith in
        ap (λ (k : ℕ). little k (with_byte r b)) (sym e) ∙ byte_on_top r b h.number byte

    count_small : with_byte r b < 2 ^ 32
    count_small =
        let e : suc (r.at % 8) ≡ 4 = omega arith in
        let a : with_byte r b < 256 ^ 4 = rw e at (byte_small r b h.number byte) in
        a

    regroup3 : (x y z m : List ℕ) → (x ++ ([] ++ y)) ++ (b ∷ m) ≡ x ++ ((y ++ (b ∷ [])) ++ m)
    regroup3 x y z m = append_assoc x y (b ∷ m) ∙ ap (λ (k : List ℕ). x ++ k) (sym (append_assoc y (b ∷ []) m))

    passing : may_count u r.section (with_byte r b) ≡ false → OverLimit t (l ++ (b ∷ rest))
    unfolding came_bytes_at begun_bytes
    passing e =
        record {
          front = cut_out r u;
          loadable = front_loadable;
          section = r.section;
          early = ahead;
          count = with_byte r b;
          four = count_small;
          passes = λ a. false≢true (sym e ∙ may_alike u t kept r.section (with_byte r b) ∙ allowed_may t r.section (with_byte r b) a);
          rest = rest;
          is = ap (λ (x : List ℕ). x ++ (b ∷ rest)) (w ∙ (λ i. came_bytes_at r.counts u r.section (first i) (r.at % 8) r.part))
              ∙ regroup3 (wholes_bytes r.counts u r.section) (little (r.at % 8) r.part) [] rest
              ∙ (λ i. front_is i ++ (sym count_bytes i ++ rest));
        }

  abbrev Tells : Answer → Loading → Type 0
  Tells a d = d.loader.note ≡ said a → Why t (l ++ (b ∷ rest)) a

  tell_long : (a : Answer) → r.section ≡ 4 → (v : Set) → Tells a (loading (note_in r (refused 13)) v)
  tell_long a e v z = subst (Why t (l ++ (b ∷ rest))) (said_is z) (long (past e))

  tell_over : (a : Answer) → OverLimit t (l ++ (b ∷ rest)) → (v : Set) → Tells a (loading (note_in r (refused 14)) v)
  tell_over a o v z = subst (Why t (l ++ (b ∷ rest))) (said_is z) (over o)

  word_tells : (a : Answer) (f : ℕ) → r.section < 4 → r.at / 8 ≡ f → next_width r.section f ≤ r.at % 8 + 1
      → Tells a (word_came r u f (with_byte r b))
  unfolding word_came next_width load_refused
  word_tells a zero k e n =
      let m = h.bytes in
      let z : next_width r.section (r.at / 8) ≡ 4 = ap (next_width r.section) e in
      pick_by (Tells a) (may_count u r.section (with_byte r b)) _ _
      (λ y x. absurd (not_unsaid (sym x ∙ O.after_open _ 1)))
      (λ y. tell_over a (passing k e (omega arith) y) (zero_set u))
  word_tells a (suc j) k e n = λ x. absurd (not_unsaid (sym x ∙ O.after_open r (suc (suc j))))

  pub byte_tells : (a : Answer) → Tells a (byte_stored r u b)
  unfolding byte_stored load_refused
  byte_tells a =
      pick_by (Tells a) (eqb r.section 4) _ _ (λ e. tell_long a (eqb-true r.section 4 e) (zero_set u))
      (λ e.
      let n = eqb-false r.section 4 e in
      let k = h.sections in
      pick_by (Tells a) (ltb (r.at % 8 + 1) (next_width r.section (r.at / 8))) _ _
      (λ g x. absurd (not_unsaid (sym x)))
      (λ g. word_tells a (r.at / 8) (omega arith) refl (ltb-false (r.at % 8 + 1) _ g)))

-- From the start on.
module _ (t : Set) where
  abbrev run_from : List ℕ → Loading
  run_from l = bytes_loaded (loading new_loader t) l

  run_one : (l : List ℕ) (b : ℕ) → run_from (l ++ (b ∷ [])) ≡ byte_loaded (run_from l) b
  unfolding bytes_loaded
  run_one l b = bytes_loaded_append (loading new_loader t) l (b ∷ [])

  one_why : (l : List ℕ) → Bytes l → (b : ℕ) → b < 256 → (rest : List ℕ) (a : Answer) → (run_from l).loader.note ≡ unsaid
      → (run_from (l ++ (b ∷ []))).loader.note ≡ said a → Why t (l ++ (b ∷ rest)) a
  one_why l k b s rest a u e =
      let d = run_from l in
      let g = bytes_go (loading new_loader t) k (start_goes t) in
      byte_tells t d.loader d.set g.fit (g.room u) (bytes_kept (loading new_loader t) l) l (O.came_bytes_lem t l k u)
      (bytes_tight (loading new_loader t) k (start_goes t) (start_tight t) u) b s rest a
      (ap (λ (x : Loading). x.loader.note) (sym (byte_open d b u) ∙ sym (run_one l b)) ∙ e)

  why_from : (l : List ℕ) → Bytes l → {m : List ℕ} → Bytes m → (a : Answer) → (run_from l).loader.note ≡ unsaid
      → (run_from (l ++ m)).loader.note ≡ said a → Why t (l ++ m) a
  why_from l k nothing a u e = absurd (not_unsaid (sym e ∙ ap (λ (x : List ℕ). (run_from x).loader.note) (append-nil l) ∙ u))
  why_from l k (another {b} {l = m} s j) a u e =
      let l2 = l ++ (b ∷ []) in
      let ga = append_assoc l (b ∷ []) m in
      let e2 : (run_from (l2 ++ m)).loader.note ≡ said a = ap (λ (x : List ℕ). (run_from x).loader.note) ga ∙ e in
      open_or (run_from l2).loader.note
      (λ v. subst (λ (x : List ℕ). Why t x a) ga (why_from l2 (bytes_append k (another s nothing)) j a v e2))
      (λ c v.
      let z = ap (λ (x : Loading). x.loader.note) (bytes_loaded_append (loading new_loader t) l2 m ∙ bytes_said (run_from l2) m v) in
      one_why l k b s m a u (z2 l2 m a z e2))
    where
      z2 : (l2 m : List ℕ) (a : Answer) → (run_from (l2 ++ m)).loader.note ≡ (run_from l2).loader.note
          → (run_from (l2 ++ m)).loader.note ≡ said a
          → (run_from l2).loader.note ≡ said a
      z2 l2 m a z e = sym z ∙ e

  pub why : {l : List ℕ} → Bytes l → (a : Answer) → (run_from l).loader.note ≡ said a → Why t l a
  unfolding bytes_loaded
  why k a e = why_from [] nothing k a refl e
