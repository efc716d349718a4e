-- From a sound index on, with nobody else writing: the calls made are inserts, so by demand 3 the rollback of a refusal is accepted and
-- leaves what there was.
use mathlib.Core.Path.{◌≡◌, refl, ap, sym, ◌∙◌, subst}
use mathlib.Core.Logic.{◌≢◌}
use mathlib.Core.List.{List, [], ◌∷◌, ◌++◌}
use Prim.Native.Nat.{ℕ, ◌+◌, ◌-◌, ◌<◌, ◌≤◌}
use native.Mathlib.Omega.{arith}
use Rattle.slots.specs.Answers.{Answer, given, refused}
use Rattle.index_rules.specs.Sound.{Sound}
use Rattle.index_rules.specs.Index.{Index, FitIndex, length_of}
use Rattle.index_rules.specs.Insert.{inserts}
use Rattle.index_rules.specs.Rollback.{rolls}
use Rattle.index_rules.specs.Contents.{contents}
use Rattle.index_rules.specs.Calls.{Call, insert_call, called, after, Allowed, nothing, inserting, removing, replacing, rolling, Places}
use Rattle.index_rules.specs.Claims.{Demand3}
use Rattle.index_rules.proofs.Inserting.{insert_claims}
use Rattle.index_rules.proofs.Rolling.{rollback_claims}
use Rattle.index_rules.proofs.Demanding.{demand_three}
use Rattle.endian.specs.Bytes.{Bytes, nothing, another}
use Rattle.upload_rules.specs.Reader.{Note, Reader, new_reader, unsaid, said, FitReader, is_whole, note_answer, reader_answer}
use Rattle.upload_rules.specs.Reading.{Session, session, ReadOutcome, byte_read, bytes_read, end_came, end_read, read_chunk, read_end}
use Rattle.upload_rules.specs.Reading.{new_session, read_whole}
use Rattle.upload_rules.specs.Steps.{Foreign, ByteStep, moves, takes, stops, foreign, cut_short}
use Rattle.upload_rules.specs.Left.{Restored}
use Rattle.upload_rules.proofs.Ranges.{pick_both, new_range, byte_range, bytes_range}
use Rattle.upload_rules.proofs.Cutting.{byte_open, byte_said, end_open, end_said, answering, chunk_in, end_in}
use Rattle.upload_rules.proofs.Stepping.{step, foreign_number, turned_back}

-- One call more.
pub after_one : (cs : List Call) (c : Call) (ix : Index) → after (cs ++ (c ∷ [])) ix ≡ (called c (after cs ix)).left
unfolding after
after_one [] c ix = refl
after_one (d ∷ cs) c ix = after_one cs c (called d ix).left

pub allowed_one : (hash key : ℕ) {m p : ℕ} {cs : List Call} → p < 4294967296 → Allowed m cs
    → Allowed m (cs ++ (insert_call hash key p ∷ []))
allowed_one hash key l nothing = inserting l nothing
allowed_one hash key l (inserting s a) = inserting s (allowed_one hash key l a)
allowed_one hash key l (removing a) = removing (allowed_one hash key l a)
allowed_one hash key l (replacing s a) = replacing s (allowed_one hash key l a)
allowed_one hash key l (rolling s a) = rolling s (allowed_one hash key l a)

-- What the end call after one chunk comes to.
pub whole_in : (ix : Index) {l : List ℕ} → Bytes l → read_whole ix l ≡ answering (end_read (bytes_read (new_session ix) l))
whole_in ix {l} k =
    let h = new_range (length_of ix.lines) in
    ap (λ (o : ReadOutcome). read_end o.left) (chunk_in (new_session ix) l h)
    ∙ end_in (bytes_read (new_session ix) l) (bytes_range (new_session ix) k h)

module _ (ix : Index) (fit : FitIndex ix) (h : Sound ix.live) (words : Places (contents h)) where
  abbrev mark : ℕ
  mark = length_of ix.lines

  -- What holds after any bytes: inserts were made since the start; or a refusal is noted, and they are taken back.
  pub data Run : Session → Type 0 where
    running : {r : Reader} (cs : List Call) → Allowed mark cs → r.note ≡ unsaid → r.mark ≡ mark
        → length_of (after cs ix).lines ≡ mark + r.taken → Run (session r (after cs ix))
    stopped : {r : Reader} {a : Answer} {jx : Index} → r.note ≡ said a → Restored ix h jx → Run (session r jx)

  three : (cs : List Call) (a : Allowed mark cs) → Demand3 ix fit h words cs a
  three cs a = demand_three ix h fit words cs a

  restored : (cs : List Call) → Allowed mark cs → Restored ix h (rolls (after cs ix) mark).left
  restored cs a =
      let d = three cs a in
      let g = ((rollback_claims (after cs ix) mark).accepted (length_of (after cs ix).lines - mark)).0 d.accepted in
      let e = (rollback_claims (after cs ix) mark).done (length_of (after cs ix).lines - mark) d.accepted g.3.0 in
      record { fit = e.1; sound = d.sound; holds = d.holds; listed = d.listed; long = d.journal.count; kept = d.kept }

  -- A rollback to the start's mark.
  rolled : {m : ℕ} (cs : List Call) → Allowed mark cs → m ≡ mark → Restored ix h (rolls (after cs ix) m).left
  rolled cs a q = subst (λ (m : ℕ). Restored ix h (rolls (after cs ix) m).left) (sym q) (restored cs a)

  not_foreign : {m : ℕ} {a : Answer} {A : Type 0} (cs : List Call) → Allowed mark cs → m ≡ mark → Foreign a
      → (rolls (after cs ix) m).answer ≡ a → A
  not_foreign cs al q f e =
      absurd (foreign_number f
      (ap (λ (x : Answer). x.number) (sym e ∙ ap (λ (m : ℕ). (rolls (after cs ix) m).answer) q ∙ (three cs al).accepted)))

  -- An accepted insert has its line.
  one_line : (jx : Index) (hash key p x : ℕ) → (inserts jx hash key p).answer ≡ given x
      → length_of (inserts jx hash key p).left.lines ≡ length_of jx.lines + 1
  one_line jx hash key p x e =
      let c = insert_claims jx hash key p in
      let h = ((c.accepted x).0 e).1.0 in
      (c.done x e h).5.count

  step_run : {r : Reader} (cs : List Call) {e : Session} → Allowed mark cs → r.mark ≡ mark
      → length_of (after cs ix).lines ≡ mark + r.taken → ByteStep r (after cs ix) e → Run e
  step_run cs a q w (moves {s} n m k) = running {r = s} cs a n (m ∙ q) (omega arith)
  step_run cs a q w (takes {s} hash key p x l e n m k) =
      let f = after_one cs (insert_call hash key p) ix in
      let o = one_line (after cs ix) hash key p x e in
      let g : length_of (after (cs ++ (insert_call hash key p ∷ [])) ix).lines ≡ mark + s.taken =
      ap (λ (i : Index). length_of i.lines) f ∙ omega arith in
      subst (λ (i : Index). Run (session s i)) f
      (running (cs ++ (insert_call hash key p ∷ [])) (allowed_one hash key l a) n (m ∙ q) g)
  step_run cs a q w (stops b y l c e) = stopped refl (rolled cs a q)
  step_run cs a q w (foreign b f l e) = not_foreign cs a q f e
  step_run cs a q w (cut_short b f l e) = absurd (omega arith)

  byte_run : {d : Session} (b : ℕ) → FitReader d.reader → Run d → Run (byte_read d b)
  byte_run b k (running {r} cs a n q w) =
      subst Run (sym (byte_open (session r (after cs ix)) b n)) (step_run cs a q w (step r (after cs ix) b k))
  byte_run b k (stopped {r} {jx = jx} n e) = subst Run (sym (byte_said (session r jx) b n)) (stopped n e)

  pub bytes_run : {d : Session} {l : List ℕ} → Bytes l → FitReader d.reader → Run d → Run (bytes_read d l)
  unfolding bytes_read
  bytes_run nothing k u = u
  bytes_run {d = d} (another {b} s j) k u = bytes_run {d = byte_read d b} j (byte_range d b s k) (byte_run b k u)

  start_run : Run (new_session ix)
  unfolding after
  start_run = running {r = new_reader mark} [] nothing refl refl (omega arith)

  all_run : {l : List ℕ} → Bytes l → Run (bytes_read (new_session ix) l)
  all_run k = bytes_run k (new_range mark) start_run

  -- A refusal, if it is one, leaves what there was.
  abbrev Leaves : Session → Type 0
  Leaves d = (reader_answer d.reader).number ≢ 0 → Restored ix h d.index

  run_leaves : {d : Session} → Run d → Leaves d
  run_leaves (running {r} cs a n q w) z = absurd (z (ap (λ (x : Note). (note_answer x r.taken).number) n))
  run_leaves (stopped n e) z = e

  outcome-leaves : {o : ReadOutcome} {d : Session} → o ≡ answering d → Leaves d → o.answer.number ≢ 0 → Restored ix h o.left.index
  outcome-leaves e f = rw e f

  pub chunk_restores : {l : List ℕ} → Bytes l → (read_chunk (new_session ix) l).answer.number ≢ 0
      → Restored ix h (read_chunk (new_session ix) l).left.index
  chunk_restores {l} k = outcome-leaves (chunk_in (new_session ix) l (new_range mark)) (run_leaves (all_run k))

  -- The end call, nothing being noted: of a whole upload it is no refusal, and else it is rolled back.
  came_leaves : (r : Reader) (cs : List Call) → Allowed mark cs → r.mark ≡ mark → length_of (after cs ix).lines ≡ mark + r.taken
      → Leaves (end_came r (after cs ix))
  unfolding end_came
  came_leaves r cs a q w =
      let jx = after cs ix in
      let l : r.mark + r.taken ≤ length_of jx.lines = omega arith in
      let f = turned_back r jx (refused 12) (length_of jx.lines - mark) l (ap (λ (m : ℕ). (rolls jx m).answer) q ∙ (three cs a).accepted) in
      pick_both Leaves (is_whole r) _ _ (λ z. absurd (z refl)) (subst Leaves (sym f) (λ z. rolled cs a q))

  end_leaves : {d : Session} → Run d → Leaves (end_read d)
  end_leaves (stopped {r} {jx = jx} n e) = subst Leaves (sym (end_said (session r jx) n)) (λ z. e)
  end_leaves (running {r} cs a n q w) = subst Leaves (sym (end_open (session r (after cs ix)) n)) (came_leaves r cs a q w)

  pub end_restores : {l : List ℕ} → Bytes l → (read_whole ix l).answer.number ≢ 0 → Restored ix h (read_whole ix l).left.index
  end_restores k = outcome-leaves (whole_in ix k) (end_leaves (all_run k))
