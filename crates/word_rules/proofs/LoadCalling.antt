-- A call of the loader leaves a loader that its words can say, so the next call reads what this one left, and what the rules say of calls
-- on a loader is said of calls on words.
-- Parts: the note that bytes and the end call leave; a loader that words can say, and what a call comes to; a call on words is the call on
-- their loader; what the next call makes of the words left; a call again on what a call left; the start; a file from a start on.
use mathlib.Core.Path.{◌≡◌, refl, ap, sym, ◌∙◌, subst}
use mathlib.Core.Bool.{Bool, true, false}
use mathlib.Core.List.{List, [], ◌∷◌, ◌++◌}
use Prim.Native.Nat.{ℕ, zero, suc, ◌+◌, ◌/◌, ◌%◌}
use lib.ListN.{length}
use lib.Dec.{eqb, ltb}
use borrow.Author.Tests.{eq-eqb, ne_eqb}
use Rattle.slots.specs.Answers.{Answer, refused, answer_word}
use Rattle.endian.specs.Bytes.{Bytes}
use Rattle.upload_rules.specs.Reader.{Note, unsaid, said, note_answer}
use Rattle.upload_rules.proofs.Ranges.{pick_both}
use Rattle.set_rules.specs.Words.{Set, fits}
use Rattle.set_rules.specs.Accepting.{accepted}
use Rattle.file_rules.specs.Layout.{section_words}
use Rattle.file_rules.specs.Loader.{Loader, new_loader, count_taken, next_width, FitLoader, taken_of, loader_answer}
use Rattle.file_rules.specs.Loading.{Loading, loading, LoadOutcome, load_outcome, load_refused, after_words, with_count, may_count}
use Rattle.file_rules.specs.Loading.{word_came}
use Rattle.file_rules.specs.Loading.{with_byte, byte_stored, byte_loaded, bytes_loaded, cut_out, end_judged, end_loaded, GoesOn, may_go_on}
use Rattle.file_rules.specs.Loading.{load_chunk}
use Rattle.file_rules.specs.Loading.{load_end, load_whole}
use Rattle.file_rules.proofs.Ranges.{open_or, byte_open, byte_said, bytes_go, end_open, end_said, end_goes}
use Rattle.file_rules.proofs.Testing.{in_goes, chunk_in, chunk_out, end_in, end_out}
use Rattle.file_rules.proofs.Claims.{claims}
use Rattle.file.proofs.Ranging.{taken-small}
use Rattle.word_rules.specs.Told.{WordTells}
use Rattle.word_rules.specs.Lent as L
use Rattle.word_rules.specs.Lent.{LoaderAnswer, LoaderWords}
use Rattle.word_rules.specs.Loaders.{saying_no_loader, loader_in, loader_written, started_loader, LoadWorded, load_worded, load_into}
use Rattle.word_rules.specs.Loaders.{chunk_loaded, ended_loader}
use Rattle.word_rules.specs.Leaving.{RefusedBy}
use Rattle.word_rules.specs.Filed.{LoadStartTold, LoadTold, UnknownLoader, LoadContinued, load_after_start, end_after_load, FileTold}
use Rattle.word_rules.proofs.Telling.{answers_apart, one_word, taken_word}
use Rattle.word_rules.proofs.Noting.{Sayable, silent, spoken, told_sayable, spoken_answer}
use Rattle.word_rules.proofs.LoadSaying.{loader_tells, loader_written_lem, written_again, SaidIn, says, none, said_in}
use Rattle.word_rules.proofs.LoadSaying.{loader_words_lem, loader_one}

-- The note that a byte leaves.
abbrev Says : Loading → Type 0
Says d = Sayable LoaderAnswer d.loader.note

after-says : (r : Loader) (f : ℕ) → Sayable LoaderAnswer (after_words r f).note
unfolding after_words
after-says r f =
    let all = section_words r.section (count_taken r r.section) + 1 in
    pick_both (λ (x : Loader). Sayable LoaderAnswer x.note) (eqb f all) _ _ silent silent

came_says : (r : Loader) (t : Set) (f v : ℕ) → Says (word_came r t f v)
unfolding word_came load_refused
came_says r t zero v = pick_both Says (may_count t r.section v) _ _ (after-says (with_count r v) 1) (spoken L.over_limit)
came_says r t (suc j) v = after-says r (suc (suc j))

stored-says : (r : Loader) (t : Set) (b : ℕ) → Says (byte_stored r t b)
unfolding byte_stored load_refused
stored-says r t b =
    pick_both Says (eqb r.section 4) _ _ (spoken L.long_file)
    (pick_both Says (ltb (r.at % 8 + 1) (next_width r.section (r.at / 8))) _ _ silent (came_says r t (r.at / 8) (with_byte r b)))

byte_says : (d : Loading) (b : ℕ) → Says d → Says (byte_loaded d b)
byte_says d b s =
    open_or d.loader.note (λ e. rw (byte_open d b e) (stored-says d.loader d.set b)) (λ a e. rw (byte_said d b e) s)

bytes_say : (d : Loading) (l : List ℕ) → Says d → Says (bytes_loaded d l)
unfolding bytes_loaded
bytes_say d [] s = s
bytes_say d (b ∷ l) s = bytes_say (byte_loaded d b) l (byte_says d b s)

judged-says : (r : Loader) (t : Set) → FitLoader r → Says (end_judged r t)
unfolding end_judged load_refused
judged-says r t h =
    pick_both Says (eqb r.section 4) _ _
    (pick_both Says (fits (cut_out r t)) _ _
    (pick_both Says (accepted (cut_out r t)) _ _ (spoken (L.loads (taken-small r h))) (spoken L.damaged_set)) (spoken L.unfit_set))
    (spoken L.short_file)

end_says : (d : Loading) → FitLoader d.loader → Says d → Says (end_loaded d)
end_says d h s =
    open_or d.loader.note (λ e. rw (end_open d e) (judged-says d.loader d.set h)) (λ a e. rw (end_said d e) s)

-- A loader that words can say.
pub record SayableLoader (r : Loader) : Type 0 where
  pub four : length r.counts ≡ 4
  pub note : Sayable LoaderAnswer r.note

words_fine : {w : List ℕ} {r : Loader} → LoaderWords w r → SayableLoader r
words_fine h = record { four = h.four; note = told_sayable h.note }

fine_answer : (r : Loader) → FitLoader r → Sayable LoaderAnswer r.note → LoaderAnswer (loader_answer r)
fine_answer r h s = go r.note s
  where
    go : (n : Note) → Sayable LoaderAnswer n → LoaderAnswer (note_answer n (taken_of r))
    go unsaid s = L.loads (taken-small r h)
    go (said a) (spoken w) = w

-- What a call comes to: an answer of the loader, and a loader that words can say.
pub record Speaks (o : LoadOutcome) : Type 0 where
  pub answers : LoaderAnswer o.answer
  pub fine : SayableLoader o.left.loader

left_speaks : (d : Loading) → GoesOn d → Says d → Speaks (load_outcome (loader_answer d.loader) d)
left_speaks d h s = record { answers = fine_answer d.loader h.fit s; fine = record { four = h.fit.four; note = s } }

-- A call may go on or not.
on_or_off : {A : Type 0} (d : Loading) → (GoesOn d → A) → (may_go_on d ≡ false → A) → A
on_or_off {A} d f g = go (may_go_on d) refl
  where
    go : (b : Bool) → may_go_on d ≡ b → A
    go true e = f (in_goes d e)
    go false e = g e

module _ (d : Loading) (f : SayableLoader d.loader) where
  pub chunk_good : {l : List ℕ} → Bytes l → Speaks (load_chunk d l)
  chunk_good {l} k =
      on_or_off d (λ h. rw (chunk_in d l h) (left_speaks (bytes_loaded d l) (bytes_go d k h) (bytes_say d l f.note)))
      (λ e. rw (chunk_out d l e) (record { answers = L.unfit_set; fine = f }))

  pub end_good : Speaks (load_end d)
  end_good =
      on_or_off d (λ h. rw (end_in d h) (left_speaks (end_loaded d) (end_goes d h) (end_says d h.fit f.note)))
      (λ e. rw (end_out d e) (record { answers = L.unfit_set; fine = f }))

-- A call on words that say a loader is the call on that loader, written into the words.
module _ (t : Set) (w : List ℕ) where
  module _ (r : Loader) (h : LoaderWords w r) where
    pub chunk_is : (l : List ℕ) → chunk_loaded t w l ≡ load_into w (load_chunk (loading r t) l)
    unfolding chunk_loaded
    chunk_is l = rw ((loader_words_lem w r).1 h, chunk_loaded)

    pub end_is : ended_loader t w ≡ load_into w (load_end (loading r t))
    unfolding ended_loader
    end_is = rw ((loader_words_lem w r).1 h, ended_loader)

    into_told : (o : LoadOutcome) → Speaks o → LoadTold o (load_into w o)
    into_told o g =
        record {
          tells = loader_tells g.answers;
          left = refl;
          loader = loader_written_lem w o.left.loader h.eight g.fine.four g.fine.note;
        }

    pub chunk_told : {l : List ℕ} → Bytes l → LoadTold (load_chunk (loading r t) l) (chunk_loaded t w l)
    chunk_told {l} k = rw (chunk_is l) (into_told (load_chunk (loading r t) l) (chunk_good (loading r t) (words_fine h) k))

    pub end_told : LoadTold (load_end (loading r t)) (ended_loader t w)
    end_told = rw end_is (into_told (load_end (loading r t)) (end_good (loading r t) (words_fine h)))

  -- Words that say none.
  module _ (e : loader_in w ≡ saying_no_loader) where
    chunk_off : (l : List ℕ) → chunk_loaded t w l ≡ load_worded (answer_word (refused 1)) t w
    unfolding chunk_loaded
    chunk_off l = rw (e, chunk_loaded)

    end_off : ended_loader t w ≡ load_worded (answer_word (refused 1)) t w
    unfolding ended_loader
    end_off = rw (e, ended_loader)

  pub load_none : (l : List ℕ) → ((r : Loader) → LoaderWords w r → ⊥)
      → UnknownLoader t w (chunk_loaded t w l) × UnknownLoader t w (ended_loader t w)
  load_none l n = go (said_in w)
    where
      go : SaidIn w → UnknownLoader t w (chunk_loaded t w l) × UnknownLoader t w (ended_loader t w)
      go (says r e h) = absurd (n r h)
      go (none e m) = rw (chunk_off e l, end_off e) ((loader_tells L.unfit_set, refl, refl), (loader_tells L.unfit_set, refl, refl))

-- What the next call makes of the words that a call has left.
module _ (w : List ℕ) (l : length w ≡ 8) (o : LoadOutcome) (g : Speaks o) where
  left_words : LoaderWords (load_into w o).loader o.left.loader
  left_words = loader_written_lem w o.left.loader l g.fine.four g.fine.note

  over : (p : LoadOutcome) → load_into (loader_written w o.left.loader) p ≡ load_into w p
  over p = ap (load_worded (answer_word p.answer) p.left.set) (written_again w l o.left.loader p.left.loader)

  chunk_next : (b : List ℕ) → chunk_loaded (load_into w o).left (load_into w o).loader b ≡ load_into w (load_chunk o.left b)
  chunk_next b = chunk_is o.left.set (load_into w o).loader o.left.loader left_words b ∙ over (load_chunk o.left b)

  end_next : ended_loader (load_into w o).left (load_into w o).loader ≡ load_into w (load_end o.left)
  end_next = end_is o.left.set (load_into w o).loader o.left.loader left_words ∙ over (load_end o.left)

-- A call again, on what a call left.
abbrev chunk_on : List ℕ → LoadWorded → LoadWorded
chunk_on l q = chunk_loaded q.left q.loader l

abbrev end_on : LoadWorded → LoadWorded
end_on q = ended_loader q.left q.loader

module _ (t : Set) (w : List ℕ) where
  module _ (r : Loader) (h : LoaderWords w r) where
    abbrev d : Loading
    d = loading r t

    good : {l : List ℕ} → Bytes l → Speaks (load_chunk d l)
    good k = chunk_good d (words_fine h) k

    cut_said : (a b : List ℕ) → Bytes a → chunk_on b (chunk_loaded t w a) ≡ chunk_loaded t w (a ++ b)
    cut_said a b k =
        ap (chunk_on b) (chunk_is t w r h a) ∙ chunk_next w h.eight (load_chunk d a) (good k) b
        ∙ ap (load_into w) ((claims.calls d).cutting a b k) ∙ sym (chunk_is t w r h (a ++ b))

    again_said : (l m : List ℕ) → Bytes l → RefusedBy (chunk_loaded t w l).word
        → (chunk_on m (chunk_loaded t w l) ≡ chunk_loaded t w l) × (end_on (chunk_loaded t w l) ≡ chunk_loaded t w l)
    again_said l m k n =
        let q = chunk_told t w r h k in
        let c = (claims.calls d).again l m k (λ e. n (q.tells.number ∙ e)) in (
          ap (chunk_on m) (chunk_is t w r h l) ∙ chunk_next w h.eight (load_chunk d l) (good k) m ∙ ap (load_into w) c.0
              ∙ sym (chunk_is t w r h l),
          ap end_on (chunk_is t w r h l) ∙ end_next w h.eight (load_chunk d l) (good k) ∙ ap (load_into w) c.1
              ∙ sym (chunk_is t w r h l),
        )

    ended_said : (l : List ℕ) → (chunk_on l (ended_loader t w) ≡ ended_loader t w) × (end_on (ended_loader t w) ≡ ended_loader t w)
    ended_said l =
        let c = (claims.calls d).ended l in
        let g = end_good d (words_fine h) in (
          ap (chunk_on l) (end_is t w r h) ∙ chunk_next w h.eight (load_end d) g l ∙ ap (load_into w) c.0 ∙ sym (end_is t w r h),
          ap end_on (end_is t w r h) ∙ end_next w h.eight (load_end d) g ∙ ap (load_into w) c.1 ∙ sym (end_is t w r h),
        )

  -- Words that say none are refused again.
  module _ (e : loader_in w ≡ saying_no_loader) where
    cut_off : (a b : List ℕ) → chunk_on b (chunk_loaded t w a) ≡ chunk_loaded t w (a ++ b)
    cut_off a b = ap (chunk_on b) (chunk_off t w e a) ∙ chunk_off t w e b ∙ sym (chunk_off t w e (a ++ b))

    again_off : (l m : List ℕ) → (chunk_on m (chunk_loaded t w l) ≡ chunk_loaded t w l) × (end_on (chunk_loaded t w l) ≡ chunk_loaded t w l)
    again_off l m = (
      ap (chunk_on m) (chunk_off t w e l) ∙ chunk_off t w e m ∙ sym (chunk_off t w e l),
      ap end_on (chunk_off t w e l) ∙ end_off t w e ∙ sym (chunk_off t w e l),
    )

    ended_off : (l : List ℕ) → (chunk_on l (ended_loader t w) ≡ ended_loader t w) × (end_on (ended_loader t w) ≡ ended_loader t w)
    ended_off l = (
      ap (chunk_on l) (end_off t w e) ∙ chunk_off t w e l ∙ sym (end_off t w e),
      ap end_on (end_off t w e) ∙ end_off t w e ∙ sym (end_off t w e),
    )

  -- What is noted is told again, and the words are those that were lent.
  noted_said : (r : Loader) (a : Answer) → LoaderWords w r → r.note ≡ said a → (q : LoadWorded)
      → q ≡ load_into w (load_outcome a (loading r t))
      → WordTells 4294967296 a q.word × (q.left ≡ t) × (q.loader ≡ w)
  noted_said r a h n q e =
      let f = words_fine h in
      let x = into_told t w r h (load_outcome a (loading r t)) (record { answers = spoken_answer (rw n at f.note); fine = f }) in
      rw e (x.tells, refl, loader_one (loader_written w r) w r x.loader h)

  pub load_continued : LoadContinued t w
  load_continued = go (said_in w)
    where
      noted : (r : Loader) (a : Answer) → LoaderWords w r → FitLoader r → r.note ≡ said a → (l : List ℕ)
          → (WordTells 4294967296 a (chunk_loaded t w l).word × ((chunk_loaded t w l).left ≡ t) × ((chunk_loaded t w l).loader ≡ w))
          × (WordTells 4294967296 a (ended_loader t w).word × ((ended_loader t w).left ≡ t) × ((ended_loader t w).loader ≡ w))
      noted r a h f n l =
          let c = (claims.calls (loading r t)).stays f a n l in (
            noted_said r a h n (chunk_loaded t w l) (chunk_is t w r h l ∙ ap (load_into w) c.0),
            noted_said r a h n (ended_loader t w) (end_is t w r h ∙ ap (load_into w) c.1),
          )

      go : SaidIn w → LoadContinued t w
      go (says r e h) =
          record { cutting = cut_said r h; again = again_said r h; ended = ended_said r h; noted = noted }
      go (none e m) =
          record { cutting = λ a b k. cut_off e a b; again = λ l m k n. again_off e l m; ended = ended_off e; noted = noted }

-- The start.
module _ (w : List ℕ) where
  begun : length w ≡ 8 → LoaderWords (started_loader w).loader new_loader
  unfolding started_loader
  begun e = rw (eq-eqb (length w) 8 e) (loader_written_lem w new_loader e refl silent)

  pub load_started : LoadStartTold w
  unfolding started_loader answer_word
  load_started =
      record {
        begins = λ e. (rw (eq-eqb (length w) 8 e) refl, begun e);
        another = λ n. rw (ne_eqb (length w) 8 n) (loader_tells L.unfit_set, refl);
      }

  -- A file from a start on.
  module _ (e : length w ≡ 8) (t : Set) {l : List ℕ} (k : Bytes l) where
    came_told : LoadTold (load_chunk (loading new_loader t) l) (load_after_start t w l)
    came_told = chunk_told t (started_loader w).loader new_loader (begun e) k

    ended_told : LoadTold (load_whole t l) (end_after_load t w l)
    ended_told =
        subst (λ (u : Set). LoadTold (load_end (loading (load_chunk (loading new_loader t) l).left.loader u)) (end_after_load t w l))
        came_told.left
        (end_told (load_after_start t w l).left (load_after_start t w l).loader (load_chunk (loading new_loader t) l).left.loader
        came_told.loader)

    pub filed : FileTold t w l
    filed =
        let c = claims.loads t l k in
        let q = ended_told in
        record {
          verdicts = λ n. (λ z. (c.verdicts n).0 (sym q.tells.number ∙ z), λ v. q.tells.number ∙ (c.verdicts n).1 v);
          accepted = λ n b. (
            λ z. (c.accepted n).0 (answers_apart q.tells (rw z (taken_word n b))),
            λ z. one_word (rw ((c.accepted n).1 z) at q.tells) (taken_word n b),
          );
          leaves = λ s f g h.
              let z = c.leaves s f g h in (
                q.left ∙ ap (λ (d : Loading). d.set) z,
                subst (LoaderWords (end_after_load t w l).loader)
                    (ap (λ (d : Loading). d.loader) z) q.loader,
              );
          zeros = λ n. rw q.left (c.zeros (λ z. n (q.tells.number ∙ z)));
          chunk_zeros = λ n. rw came_told.left (c.chunk_zeros (λ z. n (came_told.tells.number ∙ z)));
        }
