-- Bytes are taken one after another, each by what the one before left: so it is no matter where they are cut. What is noted stays.
use mathlib.Core.Path.{◌≡◌, refl, ap, sym, ◌∙◌}
use mathlib.Core.Bool.{Bool, true, false}
use mathlib.Core.Logic.{◌≢◌}
use mathlib.Core.List.{List, [], ◌∷◌, ◌++◌, append-nil, append_assoc}
use Prim.Native.Nat.{ℕ}
use lib.ListN.{length}
use lib.Seq.{take_at}
use lib.Dec.{eqb}
use Rattle.slots.specs.Answers.{Answer, refused}
use Rattle.endian.specs.Bytes.{Bytes}
use Rattle.endian.proofs.Endian.{bytes_split}
use Rattle.upload_rules.specs.Reader.{Note, unsaid, said, note_answer}
use Rattle.upload_rules.specs.Reading.{joined_bytes}
use Rattle.upload_rules.proofs.Ranges.{pick_both}
use Rattle.set_rules.specs.Words.{Set, fits}
use Rattle.set_rules.specs.Accepting.{accepted}
use Rattle.file_rules.specs.Loader.{Loader, taken_of, loader_answer}
use Rattle.file_rules.specs.Loading.{Loading, LoadOutcome, load_outcome, load_refused, bytes_loaded, cut_out, end_judged, end_loaded}
use Rattle.file_rules.specs.Loading.{may_go_on, load_chunk, load_end, load_chunks, GoesOn}
use Rattle.file_rules.proofs.Ranges.{end_open, end_said, bytes_go, end_goes}
use Rattle.file_rules.proofs.Testing.{in_goes, answered_by, chunk_in, chunk_out, end_in, end_out}
use Rattle.file_rules.proofs.Written.{bytes_said}
use Rattle.file_rules.proofs.Bringing.{bytes_loaded_append}

bytes_front : (a b : List ℕ) → Bytes (a ++ b) → Bytes a
bytes_front a b k = rw (take_at a b (length a) refl) at (bytes_split (length a) k).0

-- A call may go on or not.
data MayOrNot (d : Loading) : Type 0 where
  inside : GoesOn d → MayOrNot d
  outside : may_go_on d ≡ false → MayOrNot d

either : (d : Loading) → MayOrNot d
either d = go (may_go_on d) refl
  where
    go : (t : Bool) → may_go_on d ≡ t → MayOrNot d
    go true e = inside (in_goes d e)
    go false e = outside e

pub cut : (d : Loading) (a b : List ℕ) → Bytes a → load_chunk (load_chunk d a).left b ≡ load_chunk d (a ++ b)
cut d a b k = go (either d)
  where
    go : MayOrNot d → load_chunk (load_chunk d a).left b ≡ load_chunk d (a ++ b)
    go (inside h) =
        ap (λ (o : LoadOutcome). load_chunk o.left b) (chunk_in d a h) ∙ chunk_in (bytes_loaded d a) b (bytes_go d k h)
        ∙ ap answered_by (sym (bytes_loaded_append d a b)) ∙ sym (chunk_in d (a ++ b) h)
    go (outside e) = ap (λ (o : LoadOutcome). load_chunk o.left b) (chunk_out d a e) ∙ chunk_out d b e ∙ sym (chunk_out d (a ++ b) e)

-- Any number of cuts.
pub cuts : (d : Loading) (l : List ℕ) (ls : List (List ℕ)) → Bytes (l ++ joined_bytes ls)
    → load_chunks (load_chunk d l) ls ≡ load_chunk d (l ++ joined_bytes ls)
unfolding load_chunks joined_bytes
cuts d l [] k = ap (load_chunk d) (sym (append-nil l))
cuts d l (m ∷ ls) k =
    ap (λ (o : LoadOutcome). load_chunks o ls) (cut d l m (bytes_front l (m ++ joined_bytes ls) k))
    ∙ cuts d (l ++ m) ls (rw append_assoc k) ∙ ap (load_chunk d) (append_assoc l m (joined_bytes ls))

module _ (d : Loading) (h : GoesOn d) {a : Answer} (e : d.loader.note ≡ said a) where
  says : answered_by d ≡ load_outcome a d
  says = ap (λ (n : Note). load_outcome (note_answer n (taken_of d.loader)) d) e

  pub chunk_stays : (l : List ℕ) → load_chunk d l ≡ load_outcome a d
  chunk_stays l = chunk_in d l h ∙ ap answered_by (bytes_said d l e) ∙ says

  pub end_stays : load_end d ≡ load_outcome a d
  end_stays = end_in d h ∙ ap answered_by (end_said d e) ∙ says

-- A loader that answers a refusal has it noted.
refused_said : (n : Note) (taken : ℕ) → (note_answer n taken).number ≢ 0 → n ≡ said (note_answer n taken)
refused_said unsaid taken h = absurd (h refl)
refused_said (said a) taken h = refl

-- Both calls after one that left its answer noted, or was out of range.
abbrev RepeatsIt : Loading → LoadOutcome → List ℕ → Type 0
RepeatsIt d o m = (load_chunk d m ≡ o) × (load_end d ≡ o)

again_in : (d : Loading) (m : List ℕ) → GoesOn d → d.loader.note ≡ said (loader_answer d.loader) → RepeatsIt d (answered_by d) m
again_in d m h e = (chunk_stays d h e m, end_stays d h e)

again_out : (d : Loading) (m : List ℕ) → may_go_on d ≡ false → RepeatsIt d (load_outcome (refused 1) d) m
again_out d m e = (chunk_out d m e, end_out d e)

again_by : {o p : LoadOutcome} (m : List ℕ) → o ≡ p → RepeatsIt p.left p m → RepeatsIt o.left o m
again_by m e g = rw e g

pub chunk_again : (d : Loading) (l m : List ℕ) → Bytes l → (load_chunk d l).answer.number ≢ 0
    → RepeatsIt (load_chunk d l).left (load_chunk d l) m
chunk_again d l m k n = go (either d)
  where
    go : MayOrNot d → RepeatsIt (load_chunk d l).left (load_chunk d l) m
    go (inside h) =
        let x = bytes_loaded d l in
        let c = chunk_in d l h in
        let q = refused_said x.loader.note (taken_of x.loader) (λ z. n (ap (λ (o : LoadOutcome). o.answer.number) c ∙ z)) in
        again_by m c (again_in x m (bytes_go d k h) q)
    go (outside e) = again_by m (chunk_out d l e) (again_out d m e)

-- The end call notes an answer, whichever.
abbrev NotesAnswer : Loading → Type 0
NotesAnswer d = d.loader.note ≡ said (loader_answer d.loader)

judged_notes : (r : Loader) (t : Set) → NotesAnswer (end_judged r t)
unfolding end_judged load_refused
judged_notes r t =
    pick_both NotesAnswer (eqb r.section 4) _ _
    (pick_both NotesAnswer (fits (cut_out r t)) _ _ (pick_both NotesAnswer (accepted (cut_out r t)) _ _ refl refl) refl) refl

end_notes : (d : Loading) → NotesAnswer (end_loaded d)
end_notes d = go d.loader.note refl
  where
    go : (n : Note) → d.loader.note ≡ n → NotesAnswer (end_loaded d)
    go unsaid e = rw (end_open d e) (judged_notes d.loader d.set)
    go (said a) e = rw (end_said d e) (e ∙ ap (λ (n : Note). said (note_answer n (taken_of d.loader))) (sym e))

pub end_again : (d : Loading) (l : List ℕ) → RepeatsIt (load_end d).left (load_end d) l
end_again d l = go (either d)
  where
    go : MayOrNot d → RepeatsIt (load_end d).left (load_end d) l
    go (inside h) = again_by l (end_in d h) (again_in (end_loaded d) l (end_goes d h) (end_notes d))
    go (outside e) = again_by l (end_out d e) (again_out d l e)
