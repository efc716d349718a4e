-- Every claim of the crate holds: the laws of the other files, put together.
use mathlib.Core.Path.{◌≡◌, refl, ap, sym, ◌∙◌}
use mathlib.Core.Bool.{Bool, true, false}
use mathlib.Core.Logic.{◌≢◌}
use mathlib.Core.List.{List, [], ◌∷◌}
use Prim.Native.Nat.{ℕ}
use native.Mathlib.Omega.{arith}
use lib.ListN.{length}
use Rattle.slots.specs.Answers.{Answer, given, refused}
use Rattle.slots.proofs.Laws.{number}
use Rattle.endian.specs.Bytes.{Bytes}
use Rattle.index_rules.proofs.Fit.{false_of}
use Rattle.upload_rules.specs.Reader.{Note, unsaid, said, note_answer}
use Rattle.set_rules.specs.Words.{Set, Fit}
use Rattle.set_rules.specs.Accepted.{Accepted}
use Rattle.file_rules.specs.File.{Wide, set_bytes, set_size, counts_in}
use Rattle.file_rules.specs.Loader.{loader_of, new_loader, FitLoader, RoomFor, taken_of, loader_answer}
use Rattle.file_rules.specs.Loading.{Loading, loading, LoadOutcome, load_outcome, byte_stored, bytes_loaded, end_judged, may_go_on}
use Rattle.file_rules.specs.Loading.{load_start, load_chunk, load_end, GoesOn}
use Rattle.file_rules.specs.Faults.{Larger, OverLimit, LongFile, WholeFile}
use Rattle.file_rules.specs.Left.{padded}
use Rattle.file_rules.specs.Claims.{Saves, SavedLoads, LoadStarts, LoadCalls, Loads, Claims}
use Rattle.file_rules.proofs.Sample.{sample_bytes_lem}
use Rattle.file_rules.proofs.Ranges.{not_unsaid, byte_open, end_open, bytes_go, end_goes}
use Rattle.file_rules.proofs.Testing.{in_goes, start_goes, answered_by, chunk_in, chunk_out, end_in, end_out}
use Rattle.file_rules.proofs.CutOut.{NotedFault, on, off, bytes_noted, whole_is, came_taken}
use Rattle.file_rules.proofs.Returning.{set_are_bytes, bins_most, accepted_loadable}
use Rattle.file_rules.proofs.Cutting.{cut, cuts, chunk_stays, end_stays, chunk_again, end_again}
use Rattle.file_rules.proofs.Refusing.{long_refused, over-refused}
use Rattle.file_rules.proofs.Why.{Why, why}
use Rattle.file_rules.proofs.Concluding.{verdicts, whole_plain}
use Rattle.file_rules.proofs.Zeroing.{chunk_zeros, whole_zeros, end_notes, byte_turns}
use Rattle.file_rules.proofs.Saving.{size_is, save_done, save_two, save_one}
use Rattle.file_rules.proofs.Leaving.{reads_as, set_one, whole_comes, whole_cut, whole_accepts, own_saves}
use Rattle.file_rules.proofs.Why as W

fit_size : (s : Set) → Fit s → length (set_bytes s) ≡ set_size s
fit_size s f = let three = f.three in size_is s (omega arith)

save_claims : (s : Set) (out : List ℕ) → Saves s out
save_claims s out = record { done = save_done s out; size = fit_size s; one = save_one s out; two = save_two s out }

back_claims : (s : Set) (f : Fit s) (w : Wide s) (a : Accepted s) (t : Set) (g : Larger s t) → SavedLoads s f w a t g
back_claims s f w a t g =
    let whole : WholeFile t (set_bytes s) s = record { loadable = accepted_loadable s t f w a g; is = refl } in
    let k = set_are_bytes s in
    let cut = whole_cut t k s whole f a in
    record {
      back = whole_comes t k s whole f a
          ∙ ap
          (λ (n : ℕ). load_outcome (given n) (loading (loader_of 4 0 0 (counts_in s) (said (given n))) (padded s t)))
          (fit_size s f);
      same = cut;
      reads = reads_as s _ f a cut;
    }

start_claims : (d : Loading) → LoadStarts d
unfolding load_start
start_claims d = record { begins = refl; inside = (start_goes d.set).fit }

module _ (d : Loading) where
  -- A call that may not go on.
  stops : (l : List ℕ) → (GoesOn d → ⊥) → (load_chunk d l ≡ load_outcome (refused 1) d) × (load_end d ≡ load_outcome (refused 1) d)
  stops l n = let e = false_of (may_go_on d) (λ y. n (in_goes d y)) in (chunk_out d l e, end_out d e)

  said_goes : {a : Answer} → FitLoader d.loader → d.loader.note ≡ said a → GoesOn d
  said_goes h e = record { fit = h; room = λ u. absurd (not_unsaid (sym e ∙ u)) }

  keeps : FitLoader d.loader → (l : List ℕ) → Bytes l → FitLoader (load_chunk d l).left.loader × FitLoader (load_end d).left.loader
  keeps h l k = go (may_go_on d) refl
    where
      go : (b : Bool) → may_go_on d ≡ b → FitLoader (load_chunk d l).left.loader × FitLoader (load_end d).left.loader
      go true e =
          let r = in_goes d e in
          (rw (chunk_in d l r) (bytes_go d k r).fit, rw (end_in d r) (end_goes d r).fit)
      go false e = (rw (chunk_out d l e) h, rw (end_out d e) h)

  module _ (h : FitLoader d.loader) (room : RoomFor d.loader d.set) (u : d.loader.note ≡ unsaid) where
    goes : GoesOn d
    goes = record { fit = h; room = λ e. room }

    one_byte : (b : ℕ) → load_chunk d (b ∷ []) ≡ answered_by (byte_stored d.loader d.set b)
    unfolding bytes_loaded
    one_byte b = chunk_in d (b ∷ []) goes ∙ ap answered_by (byte_open d b u)

    the_end : load_end d ≡ answered_by (end_judged d.loader d.set)
    the_end = end_in d goes ∙ ap answered_by (end_open d u)

  call_claims : LoadCalls d
  call_claims =
      record {
        cutting = cut d;
        cuttings = cuts d;
        again = chunk_again d;
        ended = end_again d;
        stays = λ h a e l. (chunk_stays d (said_goes h e) e l, end_stays d (said_goes h e) e);
        outside = λ n l. stops l (λ r. n r.fit);
        crowded = λ u n l. stops l (λ r. n (r.room u));
        inside = keeps;
        refuses = λ h room u b.
            let e = one_byte h room u b in
            rw e (λ n. let x = byte_turns d.loader d.set b n in (x.0, x.1 n));
        ends = λ h room u. rw (the_end h room u) (end_notes d.loader d.set);
      }

module _ (t : Set) (l : List ℕ) (k : Bytes l) where
  abbrev came : Loading
  came = bytes_loaded (loading new_loader t) l

  chunk_is : load_chunk (loading new_loader t) l ≡ load_outcome (loader_answer came.loader) came
  chunk_is = chunk_in (loading new_loader t) l (start_goes t)

  said_answer : (n : ℕ) → came.loader.note ≡ said (refused n) → (load_chunk (loading new_loader t) l).answer ≡ refused n
  said_answer n e = ap (λ (o : LoadOutcome). o.answer) chunk_is ∙ ap (λ (x : Note). note_answer x (taken_of came.loader)) e

  answer_said : (n : ℕ) → n ≢ 0 → (load_chunk (loading new_loader t) l).answer ≡ refused n → came.loader.note ≡ said (refused n)
  answer_said n h e = go came.loader.note refl (bytes_noted (loading new_loader t) l on)
    where
      told : (m : Note) → came.loader.note ≡ m → note_answer m (taken_of came.loader) ≡ refused n
      told m u =
          ap (λ (x : Note). note_answer x (taken_of came.loader)) (sym u) ∙ ap (λ (o : LoadOutcome). o.answer) (sym chunk_is) ∙ e

      go : (m : Note) → came.loader.note ≡ m → NotedFault m → came.loader.note ≡ said (refused n)
      go _ u on = absurd (h (number (sym (told _ u))))
      go _ u (off j g) = u ∙ ap said (told _ u)

  is_long : Why t l (refused 13) → LongFile t l
  is_long w = go (refused 13) refl w
    where
      go : (a : Answer) → a.number ≡ 13 → Why t l a → LongFile t l
      go _ e (W.long x) = x
      go _ e (W.over x) = absurd (omega arith)

  is-over : Why t l (refused 14) → OverLimit t l
  is-over w = go (refused 14) refl w
    where
      go : (a : Answer) → a.number ≡ 14 → Why t l a → OverLimit t l
      go _ e (W.over x) = x
      go _ e (W.long x) = absurd (omega arith)

  all_taken : (OverLimit t l → ⊥) → (LongFile t l → ⊥) → (load_chunk (loading new_loader t) l).answer ≡ given (length l)
  all_taken o g = go came.loader.note refl (bytes_noted (loading new_loader t) l on)
    where
      told : (a : Answer) → Why t l a → ⊥
      told _ (W.long x) = g x
      told _ (W.over x) = o x

      go : (m : Note) → came.loader.note ≡ m → NotedFault m → (load_chunk (loading new_loader t) l).answer ≡ given (length l)
      go _ u on =
          ap (λ (x : LoadOutcome). x.answer) chunk_is ∙ ap (λ (x : Note). note_answer x (taken_of came.loader)) u
          ∙ ap given (came_taken t l k u)
      go _ u (off j h) = absurd (told (refused j) (why t k (refused j) u))

  load_claims : Loads t l k
  load_claims =
      record {
        verdicts = verdicts t k;
        plain = rw (whole_is t l k) (whole_plain t l);
        long = (λ e. is_long (why t k (refused 13) (answer_said 13 (λ z. omega arith) e)), λ g. said_answer 13 (long_refused t l g));
        over = (λ e. is-over (why t k (refused 14) (answer_said 14 (λ z. omega arith) e)), λ g. said_answer 14 (over-refused t l g));
        taken = all_taken;
        chunk_zeros = chunk_zeros t l;
        zeros = whole_zeros t k;
        accepted = whole_accepts t k;
        one_set = set_one t k;
        leaves = λ s w f a. ap (λ (o : LoadOutcome). o.left) (whole_comes t k s w f a);
        own = whole_cut t k;
        reads = λ s w f a. reads_as s _ f a (whole_cut t k s w f a);
        resaved = own_saves t k;
      }

pub claims : Claims
claims =
    record {
      worked = sample_bytes_lem;
      save = save_claims;
      back = back_claims;
      bins = bins_most;
      start = start_claims;
      calls = call_claims;
      loads = load_claims;
    }
