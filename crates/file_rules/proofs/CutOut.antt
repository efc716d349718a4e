-- The set that the counts cut out of the slices: at the end of four whole sections its file is the bytes that came.
use mathlib.Core.Path.{◌≡◌, refl, ap, sym, ◌∙◌}
use mathlib.Core.Logic.{◌≢◌}
use mathlib.Core.List.{List, [], ◌∷◌, ◌++◌, append-nil}
use Prim.Native.Nat.{ℕ, zero, suc, ◌+◌, ◌*◌, ◌/◌, ◌%◌, ◌<◌, ◌≤◌}
use native.Mathlib.Omega.{arith}
use lib.ListN.{length, get_or}
use lib.Seq.{length-take-le, get_or-take}
use lib.Dec.{eqb, ltb, leb}
use borrow.Author.Tests.{leb-true}
use Rattle.slots.specs.Answers.{refused}
use Rattle.endian.specs.Bytes.{Bytes, little}
use Rattle.index_rules.proofs.Fit.{both}
use Rattle.upload_rules.specs.Reader.{Note, unsaid, said}
use Rattle.upload_rules.proofs.Ranges.{pick_both}
use Rattle.set_rules.specs.Words.{Set}
use Rattle.file_rules.specs.File.{set_bytes, counts_in}
use Rattle.file_rules.specs.Layout.{slot_field, field_of, section_words, can_hold, field_in}
use Rattle.file_rules.specs.Loader.{Loader, count_taken, new_loader, next_width, FitLoader, RoomFor, taken_of}
use Rattle.file_rules.specs.Loading.{Loading, loading, LoadOutcome, load_refused, after_words, may_count, word_came, with_byte, byte_stored}
use Rattle.file_rules.specs.Loading.{byte_loaded, bytes_loaded, cut_out, end_loaded, load_end, load_whole, GoesOn}
use Rattle.file_rules.proofs.Ranges.{open_or, byte_open, byte_said, bytes_go}
use Rattle.file_rules.proofs.Testing.{by_four, start_goes, answered_by, chunk_in, end_in}
use Rattle.file_rules.proofs.Written.{begun_bytes, wholes_bytes, came_bytes_at, came_bytes, wholes_same, bytes_add}
use Rattle.file_rules.proofs.Taken.{came_length}
use Rattle.file_rules.proofs.Spelling.{set_bytes_lem}

-- The slices hold the counts.
pub record LongEnough (r : Loader) (t : Set) : Type 0 where
  pub lengths : count_taken r 0 ≤ length t.lengths
  pub bins : count_taken r 1 ≤ length t.bins
  pub heads : 3 * count_taken r 2 ≤ length t.heads
  pub names : 2 * count_taken r 3 ≤ length t.names
  pub cells : 7 * count_taken r 3 ≤ length t.cells

pub long : (r : Loader) (t : Set) → RoomFor r t → LongEnough r t
unfolding can_hold
long r t h =
    let b = both (leb (2 * count_taken r 3) (length t.names)) (leb (7 * count_taken r 3) (length t.cells)) (h 3 (omega arith)) in
    record {
      lengths = leb-true _ _ (h 0 (omega arith));
      bins = leb-true _ _ (h 1 (omega arith));
      heads = leb-true _ _ (h 2 (omega arith));
      names = leb-true _ _ b.0;
      cells = leb-true _ _ b.1;
    }

-- The words of the set that is cut out.
pub slot_cut : (r : Loader) (t : Set) (i f : ℕ) → f < 9 → i < count_taken r 3
    → field_in (cut_out r t) (slot_field i f) ≡ field_in t (slot_field i f)
unfolding slot_field cut_out
slot_cut r t i zero l m = get_or-take (2 * count_taken r 3) t.names (2 * i + 0) 0 (omega arith)
slot_cut r t i (suc zero) l m = get_or-take (2 * count_taken r 3) t.names (2 * i + 1) 0 (omega arith)
slot_cut r t i (suc (suc f)) l m = get_or-take (7 * count_taken r 3) t.cells (7 * i + f) _ (omega arith)

pub field_cut : (r : Loader) (t : Set) (s k : ℕ) → s < 4 → k < section_words s (count_taken r s)
    → field_in (cut_out r t) (field_of s k) ≡ field_in t (field_of s k)
unfolding field_of section_words cut_out
field_cut r t zero k l m = get_or-take (count_taken r 0) t.lengths k 0 (omega arith)
field_cut r t (suc zero) k l m = get_or-take (count_taken r 1) t.bins k 0 (omega arith)
field_cut r t (suc (suc zero)) k l m = get_or-take (3 * count_taken r 2) t.heads k _ (omega arith)
field_cut r t (suc (suc (suc zero))) k l m = slot_cut r t (k / 9) (k % 9) (omega arith) (omega arith)
field_cut r t (suc (suc (suc (suc s)))) k l m = absurd (omega arith)

module _ (r : Loader) (t : Set) (room : RoomFor r t) where
  pub heads_cut : length (cut_out r t).heads ≡ 3 * count_taken r 2
  unfolding cut_out
  heads_cut = length-take-le (3 * count_taken r 2) t.heads (long r t room).heads

  pub names_cut : length (cut_out r t).names ≡ 2 * count_taken r 3
  unfolding cut_out
  names_cut = length-take-le (2 * count_taken r 3) t.names (long r t room).names

  pub counts_cut : (i : ℕ) → i < 4 → count_taken r i ≡ get_or (counts_in (cut_out r t)) i 0
  unfolding cut_out
  counts_cut =
      let h = heads_cut in
      let n = names_cut in
      by_four (λ (i : ℕ). count_taken r i ≡ get_or (counts_in (cut_out r t)) i 0)
      (sym (length-take-le (count_taken r 0) t.lengths (long r t room).lengths))
      (sym (length-take-le (count_taken r 1) t.bins (long r t room).bins))
      (omega arith) (omega arith)

  -- Four whole sections are the bytes of the set that is cut out.
  pub wholes_cut : wholes_bytes r.counts t 4 ≡ set_bytes (cut_out r t)
  wholes_cut =
      let h = heads_cut in
      wholes_same r.counts (counts_in (cut_out r t)) t (cut_out r t) 4 counts_cut (λ i k l m. sym (field_cut r t i k l m))
      ∙ set_bytes_lem (cut_out r t) (omega arith)

  pub came_cut : FitLoader r → r.section ≡ 4 → came_bytes r t ≡ set_bytes (cut_out r t)
  unfolding came_bytes_at begun_bytes little
  came_cut f e =
      (λ i. came_bytes_at r.counts t (e i) (f.ended e i / 8) (f.ended e i % 8) r.part) ∙ append-nil (wholes_bytes r.counts t 4)
      ∙ wholes_cut

-- The bytes of a file note nothing or a refusal.
pub data NotedFault : Note → Type 0 where
  on : NotedFault unsaid
  off : (n : ℕ) → n ≢ 0 → NotedFault (said (refused n))

abbrev NotedIn : Loading → Type 0
NotedIn d = NotedFault d.loader.note

pub after_open : (r : Loader) (f : ℕ) → (after_words r f).note ≡ unsaid
unfolding after_words
after_open r f =
    pick_both (λ (x : Loader). x.note ≡ unsaid) (eqb f (section_words r.section (count_taken r r.section) + 1)) _ _ refl refl

word-noted : (r : Loader) (t : Set) (f v : ℕ) → NotedIn (word_came r t f v)
unfolding word_came load_refused
word-noted r t zero v =
    pick_both NotedIn (may_count t r.section v) _ _ (rw (after_open _ 1) on) (off 14 (λ z. omega arith))
word-noted r t (suc j) v = rw (after_open r (suc (suc j))) on

stored-noted : (r : Loader) (t : Set) (b : ℕ) → NotedIn (byte_stored r t b)
unfolding byte_stored load_refused
stored-noted r t b =
    pick_both NotedIn (eqb r.section 4) _ _ (off 13 (λ z. omega arith))
    (pick_both NotedIn (ltb (r.at % 8 + 1) (next_width r.section (r.at / 8))) _ _ on (word-noted r t (r.at / 8) (with_byte r b)))

byte_noted : (d : Loading) (b : ℕ) → NotedIn d → NotedIn (byte_loaded d b)
byte_noted d b n =
    open_or d.loader.note (λ e. rw (byte_open d b e) (stored-noted d.loader d.set b)) (λ a e. rw (byte_said d b e) n)

pub bytes_noted : (d : Loading) (l : List ℕ) → NotedIn d → NotedIn (bytes_loaded d l)
unfolding bytes_loaded
bytes_noted d [] n = n
bytes_noted d (b ∷ l) n = bytes_noted (byte_loaded d b) l (byte_noted d b n)

module _ (t : Set) (l : List ℕ) (k : Bytes l) where
  abbrev came : Loading
  came = bytes_loaded (loading new_loader t) l

  came_goes : GoesOn came
  came_goes = bytes_go (loading new_loader t) k (start_goes t)

  pub whole_is : load_whole t l ≡ answered_by (end_loaded came)
  whole_is = ap (λ (o : LoadOutcome). load_end o.left) (chunk_in (loading new_loader t) l (start_goes t)) ∙ end_in came came_goes

  nothing_written : came_bytes new_loader t ≡ []
  unfolding came_bytes_at wholes_bytes begun_bytes little
  nothing_written = refl

  pub came_bytes_lem : came.loader.note ≡ unsaid → l ≡ came_bytes came.loader came.set
  came_bytes_lem u = sym (bytes_add (loading new_loader t) k (start_goes t) u ∙ ap (λ (x : List ℕ). x ++ l) nothing_written)

  pub came_taken : came.loader.note ≡ unsaid → taken_of came.loader ≡ length l
  came_taken u = sym (came_length came.loader came.set) ∙ ap length (sym (came_bytes_lem u))
