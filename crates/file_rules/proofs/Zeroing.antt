-- A refusal leaves zeros: the slices have kept their lengths, and whatever is noted was noted with zeros. The loader keeps its other words.
use mathlib.Core.Path.{◌≡◌, refl, ap, sym, ◌∙◌}
use mathlib.Core.Logic.{◌≢◌}
use mathlib.Core.List.{List, [], ◌∷◌}
use Prim.Native.Nat.{ℕ, zero, suc, ◌+◌, ◌/◌, ◌%◌}
use lib.ListN.{replicate}
use lib.Dec.{eqb, ltb}
use Rattle.slots.specs.Answers.{Answer}
use Rattle.endian.specs.Bytes.{Bytes}
use Rattle.upload_rules.specs.Reader.{Note, unsaid, said, note_answer}
use Rattle.upload_rules.proofs.Ranges.{pick_both}
use Rattle.set_rules.specs.Words.{Set, lent_set, fits}
use Rattle.set_rules.specs.Accepting.{accepted}
use Rattle.file_rules.specs.Layout.{ofLengths, ofBins, ofHeads, ofNames, ofCells}
use Rattle.file_rules.specs.Loader.{Loader, new_loader, note_in, next_width, taken_of, loader_answer}
use Rattle.file_rules.specs.Loading.{Loading, loading, LoadOutcome, zero_set, load_refused, may_count, word_came, with_byte, byte_stored}
use Rattle.file_rules.specs.Loading.{byte_loaded, bytes_loaded, cut_out, end_judged, end_loaded, load_chunk, load_whole}
use Rattle.file_rules.specs.Left.{Zeroed}
use Rattle.file_rules.proofs.Ranges.{not_unsaid, open_or, byte_open, byte_said, end_open, end_said}
use Rattle.file_rules.proofs.Testing.{start_goes, chunk_in}
use Rattle.file_rules.proofs.CutOut.{after_open, whole_is}
use Rattle.file_rules.proofs.Why.{SameLengths, byte_kept, bytes_kept}

same_zeros : (t u : Set) → SameLengths t u → zero_set u ≡ zero_set t
same_zeros t u k =
    λ i. lent_set (replicate (k ofLengths i) 0) (replicate (k ofBins i) 0) (replicate (k ofHeads i) 0) (replicate (k ofNames i) 0)
    (replicate (k ofCells i) 0)

module _ (t : Set) where
  -- What is noted is noted with zeros.
  abbrev Zeros : Loading → Type 0
  Zeros d = (a : Answer) → d.loader.note ≡ said a → d.set ≡ zero_set t

  word-zeros : (r : Loader) (u : Set) (f v : ℕ) → SameLengths t u → Zeros (word_came r u f v)
  unfolding word_came load_refused
  word-zeros r u zero v k =
      pick_both Zeros (may_count u r.section v) _ _ (λ a e. absurd (not_unsaid (sym e ∙ after_open _ 1)))
      (λ a e. same_zeros t u k)
  word-zeros r u (suc j) v k = λ a e. absurd (not_unsaid (sym e ∙ after_open r (suc (suc j))))

  stored-zeros : (r : Loader) (u : Set) (b : ℕ) → SameLengths t u → Zeros (byte_stored r u b)
  unfolding byte_stored load_refused
  stored-zeros r u b k =
      pick_both Zeros (eqb r.section 4) _ _ (λ a e. same_zeros t u k)
      (pick_both Zeros (ltb (r.at % 8 + 1) (next_width r.section (r.at / 8))) _ _ (λ a e. absurd (not_unsaid (sym e)))
      (word-zeros r u (r.at / 8) (with_byte r b) k))

  byte_zeros : (d : Loading) (b : ℕ) → SameLengths t d.set → Zeros d → Zeros (byte_loaded d b)
  byte_zeros d b k z =
      open_or d.loader.note (λ e. rw (byte_open d b e) (stored-zeros d.loader d.set b k)) (λ a e. rw (byte_said d b e) z)

  bytes_zeros : (d : Loading) (l : List ℕ) → SameLengths t d.set → Zeros d → Zeros (bytes_loaded d l)
  unfolding bytes_loaded
  bytes_zeros d [] k z = z
  bytes_zeros d (b ∷ l) k z = bytes_zeros (byte_loaded d b) l (λ x. byte_kept d b x ∙ k x) (byte_zeros d b k z)

  start_zeros : (l : List ℕ) → Zeros (bytes_loaded (loading new_loader t) l)
  start_zeros l = bytes_zeros (loading new_loader t) l (λ x. refl) (λ a e. absurd (not_unsaid (sym e)))

  noted-zeros : (d : Loading) → Zeros d → (loader_answer d.loader).number ≢ 0 → d.set ≡ zero_set t
  noted-zeros d z n =
      open_or d.loader.note (λ e. absurd (n (ap (λ (x : Note). (note_answer x (taken_of d.loader)).number) e))) (λ a e. z a e)

  abbrev Off : Loading → Type 0
  Off d = (loader_answer d.loader).number ≢ 0 → d.set ≡ zero_set t

  end_off : (r : Loader) (u : Set) → SameLengths t u → Off (end_judged r u)
  unfolding end_judged load_refused
  end_off r u k =
      pick_both Off (eqb r.section 4) _ _
      (pick_both Off (fits (cut_out r u)) _ _
      (pick_both Off (accepted (cut_out r u)) _ _ (λ n. absurd (n refl)) (λ n. same_zeros t u k))
      (λ n. same_zeros t u k))
      (λ n. same_zeros t u k)

  zeroed : {u : Set} → u ≡ zero_set t → Zeroed t u
  zeroed e =
      record {
        lengths = ap (λ (x : Set). x.lengths) e;
        bins = ap (λ (x : Set). x.bins) e;
        heads = ap (λ (x : Set). x.heads) e;
        names = ap (λ (x : Set). x.names) e;
        cells = ap (λ (x : Set). x.cells) e;
      }

  pub chunk_zeros : (l : List ℕ) → (load_chunk (loading new_loader t) l).answer.number ≢ 0
      → Zeroed t (load_chunk (loading new_loader t) l).left.set
  chunk_zeros l n =
      let c = chunk_in (loading new_loader t) l (start_goes t) in
      zeroed (ap (λ (o : LoadOutcome). o.left.set) c
      ∙ noted-zeros (bytes_loaded (loading new_loader t) l) (start_zeros l) (λ e. n (ap (λ (o : LoadOutcome). o.answer.number) c ∙ e)))

  pub whole_zeros : {l : List ℕ} → Bytes l → (load_whole t l).answer.number ≢ 0 → Zeroed t (load_whole t l).left.set
  whole_zeros {l} k n =
      let w = whole_is t l k in
      zeroed (ap (λ (o : LoadOutcome). o.left.set) w ∙ go (λ e. n (ap (λ (o : LoadOutcome). o.answer.number) w ∙ e)))
    where
      go : Off (end_loaded (bytes_loaded (loading new_loader t) l))
      go =
          let d = bytes_loaded (loading new_loader t) l in
          open_or d.loader.note (λ e. rw (end_open d e) (end_off d.loader d.set (bytes_kept (loading new_loader t) l)))
          (λ a e. rw (end_said d e) (noted-zeros d (start_zeros l)))

-- One byte, and the end call, on any words.
module _ (r : Loader) (t : Set) where
  -- The answer is noted, the other words stay, and a refusal leaves zeros.
  abbrev NotesIt : Loading → Type 0
  NotesIt d =
      (d.loader ≡ note_in r (loader_answer d.loader)) × ((loader_answer d.loader).number ≢ 0 → Zeroed t d.set)

  abbrev noted_zeroed : {a : Answer} → NotesIt (loading (note_in r a) (zero_set t))
  noted_zeroed = (refl, λ n. zeroed t refl)

  pub end_notes : NotesIt (end_judged r t)
  unfolding end_judged load_refused
  end_notes =
      pick_both NotesIt (eqb r.section 4) _ _
      (pick_both NotesIt (fits (cut_out r t)) _ _
      (pick_both NotesIt (accepted (cut_out r t)) _ _ (refl, λ n. absurd (n refl)) noted_zeroed)
      noted_zeroed)
      noted_zeroed

  abbrev Turns : Loading → Type 0
  Turns d = (loader_answer d.loader).number ≢ 0 → NotesIt d

  open_turns : (q : Loader) (u : Set) → q.note ≡ unsaid → Turns (loading q u)
  open_turns q u e n = absurd (n (ap (λ (x : Note). (note_answer x (taken_of q)).number) e))

  word_turns : (f v : ℕ) → Turns (word_came r t f v)
  unfolding word_came load_refused
  word_turns zero v =
      pick_both Turns (may_count t r.section v) _ _ (open_turns _ t (after_open _ 1)) (λ n. noted_zeroed)
  word_turns (suc j) v = open_turns _ _ (after_open r (suc (suc j)))

  pub byte_turns : (b : ℕ) → Turns (byte_stored r t b)
  unfolding byte_stored load_refused
  byte_turns b =
      pick_both Turns (eqb r.section 4) _ _ (λ n. noted_zeroed)
      (pick_both Turns (ltb (r.at % 8 + 1) (next_width r.section (r.at / 8))) _ _ (open_turns _ t refl)
      (word_turns (r.at / 8) (with_byte r b)))
