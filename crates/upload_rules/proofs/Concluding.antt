-- Each answer of a chunk and of a whole upload is given exactly when its reason holds: the run finds one of the reasons, and from each the
-- run comes to its answer.
-- Parts: four whole sections, or fewer; each reason comes to its noted answer; what a chunk and the end call answer, by what the run came
-- to; each answer of a chunk; when a whole upload is accepted, and what it leaves; each number of the end call.
use mathlib.Core.Path.{◌≡◌, refl, ap, sym, ◌∙◌, subst}
use mathlib.Core.Logic.{◌≢◌, ◌⊎◌, inl, inr, ◌↔◌}
use mathlib.Core.List.{List, []}
use Prim.Native.Nat.{ℕ, ◌-◌, ◌<◌}
use native.Mathlib.Decide.{ℕ_discrete}
use native.Mathlib.Omega.{arith}
use lib.ListN.{length}
use Rattle.slots.specs.Pairs.{Pair}
use Rattle.slots.specs.Answers.{Answer, some, given, refused}
use Rattle.index_rules.specs.Sound.{Sound}
use Rattle.index_rules.specs.Index.{Index, Outcome, FitIndex, length_of}
use Rattle.index_rules.specs.Insert.{inserts}
use Rattle.index_rules.specs.Rollback.{rolls}
use Rattle.index_rules.specs.Contents.{Entry, contents}
use Rattle.index_rules.specs.Calls.{Places}
use Rattle.index_rules.proofs.Inserting.{value_inj}
use Rattle.upload_rules.specs.Upload as U
use Rattle.upload_rules.specs.Upload.{entries_of, Upload}
use Rattle.endian.specs.Bytes.{Bytes}
use Rattle.upload_rules.specs.Reader.{Note, said, noting, note_answer, reader_answer}
use Rattle.upload_rules.specs.Reading.{Session, session, ReadOutcome, read_outcome, turned_down, byte_came, bytes_read, end_came, end_read}
use Rattle.upload_rules.specs.Reading.{read_chunk, new_session, read_whole}
use Rattle.upload_rules.specs.Parts.{UploadPart, between, within, part_bytes, part_entries, Partial, whole, kind, low, entries, Enters}
use Rattle.upload_rules.specs.Parts.{AtSections, AtEntry, IsPart, Refusal, wrong_kind, long, present, full, unlined, Short, SlotHas}
use Rattle.upload_rules.specs.Parts.{PresentIn}
use Rattle.upload_rules.specs.Left.{Uploaded}
use Rattle.upload_rules.proofs.Ranges.{new_range}
use Rattle.upload_rules.proofs.Cutting.{answering, chunk_in, end_open, end_said}
use Rattle.upload_rules.proofs.Stepping.{turned_back}
use Rattle.upload_rules.proofs.Restoring.{whole_in}
use Rattle.upload_rules.proofs.Sections.{pairs_in, entries_of_length}
use Rattle.upload_rules.proofs.Growing.{next_entry}
use Rattle.upload_rules.proofs.Moving.{reader_at, not_whole}
use Rattle.upload_rules.proofs.Entering as E
use Rattle.upload_rules.proofs.Running.{reader_open, reader_mark, reader_taken, past_four, kind_off, At, all_lined, at_off}
use Rattle.upload_rules.proofs.Running.{last_refuses}
use Rattle.upload_rules.proofs.Deciding.{reason_number, reason_plain, reason_slot, reason_there, note_of_lem, split_entry, noted_rest}
use Rattle.upload_rules.proofs.Deciding.{Ran, still, over, ran}
use Rattle.upload_rules.proofs.Arriving.{spelt, at_held, arrives}

-- Four whole sections, or fewer.
data Closing (m : ℕ) : UploadPart → Type 0 where
  four : (ss : List (List Pair)) → U.Sections ss → length ss ≡ 4 → Closing m (between ss)
  fewer : {part : UploadPart} → (reader_at m part).section < 4 → Closing m part

closing : (m : ℕ) {part : UploadPart} → Partial part → Closing m part
unfolding reader_at
closing m (whole {ss} w l) = go (ℕ_discrete (length ss) 4)
  where
    go : Dec (length ss ≡ 4) → Closing m (between ss)
    go (yes e) = four ss w e
    go (no n) = let f : length ss < 4 = omega arith in fewer f
closing m (kind w f) = fewer f
closing m (low w f l) = fewer f
closing m (entries w f l q g k e) = fewer f

-- A part of fewer is not four.
not-four : (m : ℕ) (part : UploadPart) → (reader_at m part).section < 4 → (ss : List (List Pair)) → length ss ≡ 4 → part ≢ between ss
unfolding reader_at
not-four m part l ss e q = let z : (reader_at m part).section ≡ 4 = ap (λ (x : UploadPart). (reader_at m x).section) q ∙ e in omega arith

refusal_number : {ix : Index} {h : Sound ix.live} {l : List ℕ} {n : ℕ} → Refusal ix h l n → n ≢ 0
refusal_number (wrong_kind a f n) z = omega arith
refusal_number (long a f) z = omega arith
refusal_number (present a n) z = omega arith
refusal_number (full a n f) z = omega arith
refusal_number (unlined a n f g) z = omega arith

numbers : {a b : Answer} → a ≡ b → a.number ≡ b.number
numbers e = ap (λ (x : Answer). x.number) e

module _ (ix : Index) (fits : FitIndex ix) (h : Sound ix.live) (words : Places (contents h)) where
  abbrev mark : ℕ
  mark = length_of ix.lines

  abbrev runs : List ℕ → Session
  runs l = bytes_read (new_session ix) l

  abbrev Took : List Entry → Index → Type 0
  Took es jx = E.Taken ix fits h words es jx

  -- After these bytes the answer is noted.
  abbrev Noted : List ℕ → Answer → Type 0
  Noted l a = (runs l).reader.note ≡ said a

  -- The insert of the entry that comes.
  abbrev inserts_at : {l : List ℕ} {es : List Entry} {p : Pair} → AtEntry ix h l es p → Index → Outcome
  inserts_at {p = p} c jx = let e = next_entry c.sections c.pairs p in inserts jx e.hash e.key e.at

  entry-noted : {l : List ℕ} {es : List Entry} {p : Pair} (c : AtEntry ix h l es p)
      → ((jx : Index) → Took es jx → (inserts_at c jx).answer.number ≢ 0)
      → (jx : Index) × Took es jx × Noted l (inserts_at c jx).answer
  unfolding part_entries
  entry-noted {l} {es} {p} c z = go c.partial c.entries c.enters z
    where
      ss : List (List Pair)
      ss = c.sections

      ps : List Pair
      ps = c.pairs

      ins : Index → Outcome
      ins jx = inserts_at c jx

      go : Partial (within ss c.count ps []) → es ≡ part_entries (within ss c.count ps []) → Enters ix h es
          → ((jx : Index) → Took es jx → (ins jx).answer.number ≢ 0)
          → (jx : Index) × Took es jx × Noted l (ins jx).answer
      go (entries w f wide q g k e) same can n =
          let sp = spelt p c.hash c.key in
          let fifteen = sp.fifteen in
          let here = arrives ix fits h words (entries w f wide q g k e) (subst (Enters ix h) same can) in
          let there = at_held ix fits h words f wide w [] sp.held (omega arith) here in
          let took : Took es there.index = subst (λ (x : List Entry). Took x there.index) (sym same) there.taken in
          let off = last_refuses ix fits h words f sp.last sp.fifteen sp.spelled there (n there.index took) in (
            there.index,
            took,
            ap (λ (x : List ℕ). (runs x).reader.note)
                (c.is ∙ sym (split_entry ix fits h words ss c.count ps sp.held sp.last sp.spelled c.rest))
                ∙ noted_rest ix fits h words (part_bytes (within ss c.count ps sp.held)) sp.last c.rest
                (note_of_lem ix fits h words off refl),
          )

  section_noted : {l : List ℕ} {ss : List (List Pair)} {b : ℕ} (c : AtSections ix h l ss b) (a : Answer)
      → ((jx : Index) → byte_came (reader_at mark (between ss)) jx b ≡ turned_down (reader_at mark (between ss)) jx a) → Noted l a
  section_noted {l} {ss} {b} c a e =
      let here = arrives ix fits h words c.partial c.enters in
      let off = at_off ix fits h words here b a (e here.index) in
      ap (λ (x : List ℕ). (runs x).reader.note) c.is
      ∙ noted_rest ix fits h words (part_bytes (between ss)) b c.rest (note_of_lem ix fits h words off refl)

  -- The insert of an entry answers a number, and so do the bytes.
  entry-refused : {l : List ℕ} {es : List Entry} {p : Pair} {n : ℕ} (c : AtEntry ix h l es p) → n ≢ 0
      → ((jx : Index) → Took es jx → (inserts_at c jx).answer.number ≡ n) → (a : Answer) × Noted l a × (a.number ≡ n)
  entry-refused c z says =
      let r = entry-noted c (λ jx t y. z (sym (says jx t) ∙ y)) in
      ((inserts_at c r.0).answer, r.2, says r.0 r.1)

  refusal_noted : {l : List ℕ} {n : ℕ} → Refusal ix h l n → (a : Answer) × Noted l a × (a.number ≡ n)
  refusal_noted (wrong_kind {ss} {b} c f n) = (refused 18, section_noted c (refused 18) (λ jx. kind_off mark jx ss b f n), refl)
  refusal_noted (long {ss} {b} c f) = (refused 13, section_noted c (refused 13) (λ jx. past_four mark jx ss b f), refl)
  refusal_noted (present {p = p} c n) =
      entry-refused {n = 3} c (λ z. omega arith)
      (λ jx t. numbers (E.three_there ix fits h words t (next_entry c.sections c.pairs p) n).1)
  refusal_noted (full {p = p} c n f) =
      entry-refused {n = 5} c (λ z. omega arith)
      (λ jx t. numbers (E.five_full ix fits h words t (next_entry c.sections c.pairs p) n f))
  refusal_noted (unlined {p = p} c n f g) =
      entry-refused {n = 6} c (λ z. omega arith)
      (λ jx t. numbers (E.six_unlined ix fits h words t (next_entry c.sections c.pairs p) n f g))

  slot_noted : {l : List ℕ} {x : ℕ} → PresentIn ix h l x → Noted l (record { number = 3; value = some x })
  slot_noted {l} {x} q =
      let e = next_entry q.comes.sections q.comes.pairs q.own in
      let has : (jx : Index) → Took q.before jx → SlotHas jx.live x q.own =
      λ jx t. subst (λ (i : Index). SlotHas i.live x q.own) (sym t.is) q.has in
      let says : (jx : Index) → Took q.before jx → (inserts_at q.comes jx).answer ≡ record { number = 3; value = some x } =
      λ jx t. (let y = has jx t in E.three-at ix fits h words t e x y.0 y.1 y.2) in
      let r = entry-noted q.comes (λ jx t z. absurd (let y = numbers (says jx t) in omega arith)) in
      r.2 ∙ ap said (says r.0 r.1)

  -- What a chunk and the end call answer where an answer is noted, and where the run has come to a part.
  noted_answer : (d : Session) {a : Answer} → d.reader.note ≡ said a → reader_answer d.reader ≡ a
  noted_answer d e = ap (λ (n : Note). note_answer n d.reader.taken) e

  chunk_run : (l : List ℕ) → read_chunk (new_session ix) l ≡ answering (runs l)
  chunk_run l = chunk_in (new_session ix) l (new_range mark)

  chunk_noted : (l : List ℕ) {a : Answer} → Noted l a → (read_chunk (new_session ix) l).answer ≡ a
  chunk_noted l e = ap (λ (o : ReadOutcome). o.answer) (chunk_run l) ∙ noted_answer (runs l) e

  chunk_at : {part : UploadPart} {l : List ℕ} (a : At ix fits h words part) → l ≡ part_bytes part
      → read_chunk (new_session ix) l ≡ read_outcome (given (reader_at mark part).taken) (session (reader_at mark part) a.index)
  chunk_at {part} {l} a e =
      let r = reader_at mark part in
      chunk_run l ∙ ap answering (ap runs e ∙ a.runs)
      ∙ ap (λ (n : Note). read_outcome (note_answer n r.taken) (session r a.index)) (reader_open mark part)

  chunk_still : {part : UploadPart} {l : List ℕ} (a : At ix fits h words part) → l ≡ part_bytes part
      → (read_chunk (new_session ix) l).answer.number ≡ 0
  chunk_still a e = ap (λ (o : ReadOutcome). o.answer.number) (chunk_at a e)

  end_noted : {l : List ℕ} {a : Answer} → Bytes l → Noted l a → (read_whole ix l).answer ≡ a
  end_noted {l} k e =
      ap (λ (o : ReadOutcome). o.answer) (whole_in ix k) ∙ ap (λ (d : Session). reader_answer d.reader) (end_said (runs l) e)
      ∙ noted_answer (runs l) e

  end_still : {part : UploadPart} {l : List ℕ} → Bytes l → (a : At ix fits h words part) → l ≡ part_bytes part
      → read_whole ix l ≡ answering (end_came (reader_at mark part) a.index)
  end_still {part} {l} k a e =
      let d = session (reader_at mark part) a.index in
      whole_in ix k ∙ ap (λ (x : Session). answering (end_read x)) (ap runs e ∙ a.runs) ∙ ap answering (end_open d (reader_open mark part))

  -- The end call of a whole upload answers its entries.
  end_whole : {ss : List (List Pair)} {l : List ℕ} → Bytes l → (a : At ix fits h words (between ss)) → l ≡ part_bytes (between ss)
      → length ss ≡ 4
      → read_whole ix l ≡ read_outcome (given (pairs_in ss)) (session (noting (reader_at mark (between ss)) (given (pairs_in ss))) a.index)
  unfolding end_came reader_at
  end_whole {ss} k a e f = end_still k a e ∙ rw f

  -- That of less is 12.
  end_short : {part : UploadPart} {l : List ℕ} → Bytes l → (a : At ix fits h words part) → l ≡ part_bytes part
      → (reader_at mark part).section < 4
      → (read_whole ix l).answer ≡ refused 12
  unfolding end_came
  end_short {part} {l} k a e n =
      let r = reader_at mark part in
      let q = reader_mark mark part in
      let back = E.taken_back_lem ix fits h words a.taken in
      let f =
      turned_back r a.index (refused 12) (length_of a.index.lines - mark) (all_lined ix fits h words a)
      (ap (λ (i : ℕ). (rolls a.index i).answer) q ∙ back) in
      ap (λ (o : ReadOutcome). o.answer) (end_still k a e) ∙ rw (not_whole r n) (ap (λ (d : Session). reader_answer d.reader) f)

  -- A chunk that is not refused.
  pub chunk_taken : {l : List ℕ} → Bytes l → (n : ℕ)
      → ((read_chunk (new_session ix) l).answer ≡ given n) ↔ ((part : UploadPart) × IsPart ix h l part × (length (part_entries part) ≡ n))
  chunk_taken {l} k n = (to (ran ix fits h words k), from)
    where
      to : Ran ix fits h words l → (read_chunk (new_session ix) l).answer ≡ given n
          → (part : UploadPart) × IsPart ix h l part × (length (part_entries part) ≡ n)
      to (still part w a e) y =
          let c = ap (λ (o : ReadOutcome). o.answer) (chunk_at a e) in
          (part, record { partial = w; enters = a.taken.can; is = e }, sym (reader_taken mark part) ∙ value_inj (sym c ∙ y) refl refl)
      to (over a r e) y = absurd (refusal_number (reason_number r) (numbers (sym (chunk_noted l e) ∙ y)))

      from : (part : UploadPart) × IsPart ix h l part × (length (part_entries part) ≡ n) → (read_chunk (new_session ix) l).answer ≡ given n
      from q =
          let a = arrives ix fits h words q.1.partial q.1.enters in
          ap (λ (o : ReadOutcome). o.answer) (chunk_at a q.1.is) ∙ ap given (reader_taken mark q.0 ∙ q.2)

  pub chunk_leaves : {l : List ℕ} {part : UploadPart} → IsPart ix h l part
      → Uploaded ix h (part_entries part) (read_chunk (new_session ix) l).left.index
  chunk_leaves {part = part} c =
      let a = arrives ix fits h words c.partial c.enters in
      subst (λ (o : ReadOutcome). Uploaded ix h (part_entries part) o.left.index) (sym (chunk_at a c.is)) a.taken.left

  -- Each number of a chunk.
  pub chunk_exactly : {l : List ℕ} → Bytes l → (n : ℕ) → n ≢ 0 → ((read_chunk (new_session ix) l).answer.number ≡ n) ↔ Refusal ix h l n
  chunk_exactly {l} k n z = (to (ran ix fits h words k), from)
    where
      to : Ran ix fits h words l → (read_chunk (new_session ix) l).answer.number ≡ n → Refusal ix h l n
      to (still part w a e) y = absurd (z (sym y ∙ chunk_still a e))
      to (over a r e) y = subst (Refusal ix h l) (sym (numbers (chunk_noted l e)) ∙ y) (reason_number r)

      from : Refusal ix h l n → (read_chunk (new_session ix) l).answer.number ≡ n
      from r = let q = refusal_noted r in numbers (chunk_noted l q.1) ∙ q.2

  -- The slot of 3.
  pub slot_exactly : {l : List ℕ} → Bytes l → (x : ℕ)
      → ((read_chunk (new_session ix) l).answer ≡ record { number = 3; value = some x }) ↔ PresentIn ix h l x
  slot_exactly {l} k x = (to (ran ix fits h words k), λ q. chunk_noted l (slot_noted q))
    where
      to : Ran ix fits h words l → (read_chunk (new_session ix) l).answer ≡ record { number = 3; value = some x } → PresentIn ix h l x
      to (still part w a e) y = absurd (let z = sym (chunk_still a e) ∙ numbers y in omega arith)
      to (over a r e) y = reason_slot r (sym (chunk_noted l e) ∙ y)

  pub slot_there : {l : List ℕ} → Bytes l → (read_chunk (new_session ix) l).answer.number ≡ 3 → (x : ℕ) × PresentIn ix h l x
  slot_there {l} k y = go (ran ix fits h words k)
    where
      go : Ran ix fits h words l → (x : ℕ) × PresentIn ix h l x
      go (still part w a e) = absurd (let z = sym (chunk_still a e) ∙ y in omega arith)
      go (over a r e) = reason_there r (sym (numbers (chunk_noted l e)) ∙ y)

  -- A whole upload is accepted exactly where it is one and its entries can be taken.
  pub record Accepts (l : List ℕ) (n : ℕ) : Type 0 where
    pub sections : List (List Pair)
    pub upload : Upload l sections
    pub count : length (entries_of 1 0 sections) ≡ n
    pub enters : Enters ix h (entries_of 1 0 sections)

  pub whole_exactly : {l : List ℕ} → Bytes l → (n : ℕ) → ((read_whole ix l).answer ≡ given n) ↔ Accepts l n
  unfolding part_entries part_bytes
  whole_exactly {l} k n = (to (ran ix fits h words k), from)
    where
      closes : {part : UploadPart} → (a : At ix fits h words part) → l ≡ part_bytes part → Closing mark part
          → (read_whole ix l).answer ≡ given n → Accepts l n
      closes a e (four ss w f) y =
          let t = ap (λ (o : ReadOutcome). o.answer) (end_whole k a e f) in
          record {
            sections = ss;
            upload = record { four = f; fit = w; is = e };
            count = entries_of_length 1 0 ss ∙ value_inj (sym t ∙ y) refl refl;
            enters = a.taken.can;
          }
      closes a e (fewer m) y = absurd (let z = numbers (sym (end_short k a e m) ∙ y) in omega arith)

      to : Ran ix fits h words l → (read_whole ix l).answer ≡ given n → Accepts l n
      to (still part w a e) y = closes a e (closing mark w) y
      to (over a r e) y = absurd (refusal_number (reason_number r) (numbers (sym (end_noted k e) ∙ y)))

      from : Accepts l n → (read_whole ix l).answer ≡ given n
      from c =
          let u = c.upload in
          let f = u.four in
          let a = arrives ix fits h words (whole u.fit (omega arith)) c.enters in
          ap (λ (o : ReadOutcome). o.answer) (end_whole k a u.is u.four)
          ∙ ap given (sym (entries_of_length 1 0 c.sections) ∙ c.count)

  -- What an accepted upload leaves.
  pub whole_leaves : {l : List ℕ} {ss : List (List Pair)} → Bytes l → Upload l ss → Enters ix h (entries_of 1 0 ss)
      → Uploaded ix h (entries_of 1 0 ss) (read_whole ix l).left.index
  unfolding part_entries part_bytes
  whole_leaves {l} {ss} k u c =
      let f = u.four in
      let a = arrives ix fits h words (whole u.fit (omega arith)) c in
      subst (λ (o : ReadOutcome). Uploaded ix h (entries_of 1 0 ss) o.left.index) (sym (end_whole k a u.is u.four))
      a.taken.left

  -- Each number of the end call.
  pub end_exactly : {l : List ℕ} → Bytes l → (n : ℕ) → n ≢ 0
      → ((read_whole ix l).answer.number ≡ n) ↔ (Refusal ix h l n ⊎ (Short ix h l × (n ≡ 12)))
  end_exactly {l} k n z = (to (ran ix fits h words k), from)
    where
      closes : {part : UploadPart} → Partial part → (a : At ix fits h words part) → l ≡ part_bytes part → Closing mark part
          → (read_whole ix l).answer.number ≡ n
          → Refusal ix h l n ⊎ (Short ix h l × (n ≡ 12))
      closes w a e (four ss v f) y = absurd (z (sym y ∙ ap (λ (o : ReadOutcome). o.answer.number) (end_whole k a e f)))
      closes {part} w a e (fewer m) y =
          inr (
            record { part = part; comes = record { partial = w; enters = a.taken.can; is = e }; unfinished = not-four mark part m },
            sym y ∙ numbers (end_short k a e m),
          )

      to : Ran ix fits h words l → (read_whole ix l).answer.number ≡ n → Refusal ix h l n ⊎ (Short ix h l × (n ≡ 12))
      to (still part w a e) y = closes w a e (closing mark w) y
      to (over a r e) y = inl (subst (Refusal ix h l) (sym (numbers (end_noted k e)) ∙ y) (reason_number r))

      ends_so : (s : Short ix h l) → (part : UploadPart) → s.part ≡ part → Closing mark part → (read_whole ix l).answer.number ≡ 12
      ends_so s part e (four ss w f) = absurd (s.unfinished ss f e)
      ends_so s part e (fewer m) =
          numbers (end_short k (arrives ix fits h words s.comes.partial s.comes.enters) s.comes.is (rw e m))

      from : Refusal ix h l n ⊎ (Short ix h l × (n ≡ 12)) → (read_whole ix l).answer.number ≡ n
      from (inl r) = let q = refusal_noted r in numbers (end_noted k q.1) ∙ q.2
      from (inr s) = ends_so s.0 s.0.part refl (closing mark s.0.comes.partial) ∙ sym s.1

  -- Only 3 has a value with it.
  pub end_plain : {l : List ℕ} → Bytes l → (read_whole ix l).answer.number ≢ 0 → (read_whole ix l).answer.number ≢ 3
      → (read_whole ix l).answer ≡ refused (read_whole ix l).answer.number
  end_plain {l} k z t = go (ran ix fits h words k)
    where
      closes : {part : UploadPart} → (a : At ix fits h words part) → l ≡ part_bytes part → Closing mark part
          → (read_whole ix l).answer ≡ refused (read_whole ix l).answer.number
      closes a e (four ss w f) = absurd (z (ap (λ (o : ReadOutcome). o.answer.number) (end_whole k a e f)))
      closes a e (fewer m) = let y = end_short k a e m in y ∙ ap (λ (x : Answer). refused x.number) (sym y)

      go : Ran ix fits h words l → (read_whole ix l).answer ≡ refused (read_whole ix l).answer.number
      go (still part w a e) = closes a e (closing mark w)
      go (over a r e) =
          let y = end_noted k e in
          y ∙ reason_plain r (λ q. t (numbers y ∙ q)) ∙ ap refused (sym (numbers y))
