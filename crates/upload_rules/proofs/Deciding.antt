-- Any bytes are those of a part that can be taken, or begin with those of one and then are refused, and the run finds which.
use mathlib.Core.Path.{◌≡◌, refl, ap, sym, ◌∙◌, subst}
use mathlib.Core.Logic.{◌≢◌}
use mathlib.Core.List.{List, [], ◌∷◌, ◌++◌, append-nil, append_assoc}
use Prim.Native.Nat.{ℕ, suc, ◌+◌, ◌*◌, ◌^◌, ◌<◌, ◌≤◌}
use native.Mathlib.Decide.{ℕ_discrete}
use native.Mathlib.Omega.{arith}
use lib.ListN.{length}
use Rattle.slots.specs.Pairs.{Pair, pair_of}
use Rattle.slots.specs.Answers.{Answer, some, given, refused}
use Rattle.redblack.specs.Holding.{Stands}
use Rattle.index_rules.specs.Sound.{Sound}
use Rattle.index_rules.specs.Index.{Index, Outcome, FitIndex, length_of}
use Rattle.index_rules.specs.Insert.{inserts}
use Rattle.index_rules.specs.Contents.{Entry, contents}
use Rattle.index_rules.specs.Calls.{Places}
use Rattle.index_rules.proofs.Inserting.{value_inj}
use Rattle.upload_rules.specs.Upload as U
use Rattle.upload_rules.specs.Upload.{pair_bytes}
use Rattle.endian.specs.Bytes.{Bytes, nothing, another}
use Rattle.upload_rules.specs.Reader.{said}
use Rattle.upload_rules.specs.Reading.{Session, bytes_read, new_session}
use Rattle.upload_rules.specs.Parts.{UploadPart, between, kinded, counting, within, part_bytes, part_entries, Partial, whole, kind, low}
use Rattle.upload_rules.specs.Parts.{entries, AtSections, AtEntry, Refusal, wrong_kind, long, present, full, unlined, SlotHas}
use Rattle.upload_rules.specs.Parts.{PresentIn}
use Rattle.upload_rules.proofs.Cutting.{bytes_read_append, bytes_said}
use Rattle.upload_rules.proofs.Sections.{length_one, pairs_more, sections_more}
use Rattle.upload_rules.proofs.Moving.{Spelled, spell, pair_at, snoc_bytes}
use Rattle.upload_rules.proofs.Growing.{next_entry, place-small, bytes_kind, bytes_low, bytes_high, bytes_none, bytes_more}
use Rattle.upload_rules.proofs.Growing.{bytes_pair, bytes_whole}
use Rattle.upload_rules.proofs.Entering as E
use Rattle.upload_rules.proofs.Running.{past_four, kind_off, At, at_start, at_off, at_kind, at_low, at_high, at_none, at_entry}
use Rattle.upload_rules.proofs.Running.{at_more, at_whole, last_refuses}

-- Why bytes are refused with an answer: only 3 has a value with it, the slot.
pub data Reason (ix : Index) (h : Sound ix.live) (l : List ℕ) : Answer → Type 0 where
  plainly : {n : ℕ} → Refusal ix h l n → n ≢ 3 → Reason ix h l (refused n)
  slotted : (x : ℕ) → Refusal ix h l 3 → PresentIn ix h l x → Reason ix h l (record { number = 3; value = some x })

pub reason_number : {ix : Index} {h : Sound ix.live} {l : List ℕ} {a : Answer} → Reason ix h l a → Refusal ix h l a.number
reason_number (plainly r n) = r
reason_number (slotted x r p) = r

pub reason_plain : {ix : Index} {h : Sound ix.live} {l : List ℕ} {a : Answer} → Reason ix h l a → a.number ≢ 3 → a ≡ refused a.number
reason_plain (plainly r n) m = refl
reason_plain (slotted x r p) m = absurd (m refl)

pub reason_there : {ix : Index} {h : Sound ix.live} {l : List ℕ} {a : Answer} → Reason ix h l a → a.number ≡ 3
    → (x : ℕ) × PresentIn ix h l x
reason_there (plainly r n) e = absurd (n e)
reason_there (slotted x r p) e = (x, p)

pub reason_slot : {ix : Index} {h : Sound ix.live} {l : List ℕ} {a : Answer} {x : ℕ} → Reason ix h l a
    → a ≡ record { number = 3; value = some x } → PresentIn ix h l x
reason_slot (plainly r n) e = absurd (n (ap (λ (a : Answer). a.number) e))
reason_slot {ix} {h} {l} (slotted y r p) e = subst (PresentIn ix h l) (value_inj e refl refl) p

module _ (ix : Index) (fits : FitIndex ix) (h : Sound ix.live) (words : Places (contents h)) where
  abbrev pub Came : UploadPart → Type 0
  Came part = At ix fits h words part

  abbrev pub run : List ℕ → Session
  run l = bytes_read (new_session ix) l

  -- What a byte comes to.
  data Next (part : UploadPart) (b : ℕ) : Type 0 where
    goes : (next : UploadPart) → Partial next → Came next → part_bytes next ≡ part_bytes part ++ (b ∷ []) → Next part b
    halts : (a : Answer) → ((rest : List ℕ) → Reason ix h (part_bytes part ++ (b ∷ rest)) a)
        → (run (part_bytes part ++ (b ∷ []))).reader.note ≡ said a → Next part b

  pub note_of_lem : {d e : Session} {a : Answer} → d ≡ e → e.reader.note ≡ said a → d.reader.note ≡ said a
  note_of_lem e f = ap (λ (d : Session). d.reader.note) e ∙ f

  next_between : {ss : List (List Pair)} (b : ℕ) → U.Sections ss → length ss ≤ 4 → Came (between ss) → Next (between ss) b
  next_between {ss} b w l a = go (ℕ_discrete (length ss) 4)
    where
      here : (rest : List ℕ) → AtSections ix h (part_bytes (between ss) ++ (b ∷ rest)) ss b
      here rest = record { rest = rest; partial = whole w l; enters = a.taken.can; is = refl }

      second : length ss < 4 → Dec (b ≡ suc (length ss)) → Next (between ss) b
      second f (yes e) =
          goes (kinded ss) (kind w f) (at_kind ix fits h words f a)
          (bytes_kind ss ∙ ap (λ (x : ℕ). part_bytes (between ss) ++ (x ∷ [])) (sym e))
      second f (no n) =
          halts (refused 18) (λ rest. plainly (wrong_kind (here rest) f n) (λ z. omega arith))
          (note_of_lem (at_off ix fits h words a b (refused 18) (kind_off (length_of ix.lines) a.index ss b f n)) refl)

      go : Dec (length ss ≡ 4) → Next (between ss) b
      go (yes e) =
          halts (refused 13) (λ rest. plainly (long (here rest) e) (λ z. omega arith))
          (note_of_lem (at_off ix fits h words a b (refused 13) (past_four (length_of ix.lines) a.index ss b e)) refl)
      go (no n) = second (omega arith) (ℕ_discrete b (suc (length ss)))

  next-counting : {ss : List (List Pair)} {lo : ℕ} (b : ℕ) → b < 256 → U.Sections ss → length ss < 4 → lo < 256 → Came (counting ss lo)
      → Next (counting ss lo) b
  next-counting {ss} {lo} b s w f l a = go (ℕ_discrete (lo + 256 * b) 0)
    where
      go : Dec (lo + 256 * b ≡ 0) → Next (counting ss lo) b
      go (yes e) =
          let o = length_one ss [] in
          goes (between (ss ++ ([] ∷ []))) (whole (sections_more w U.none (omega arith)) (omega arith))
          (at_none ix fits h words f lo b l s (sym e) a) (bytes_none ss lo b l s (sym e))
      go (no n) =
          goes (within ss (lo + 256 * b) [] [])
          (entries {count = lo + 256 * b} w f (omega arith) U.none (omega arith) nothing (omega arith))
          (at_high ix fits h words f lo b (lo + 256 * b) l s refl n a) (bytes_high ss lo b (lo + 256 * b) l s refl)

  -- The bytes up to an entry, those of the entry, and the rest.
  pub split_entry : (ss : List (List Pair)) (c : ℕ) (ps : List Pair) (held : List ℕ) (b : ℕ) {p : Pair} → Spelled held b p → (rest : List ℕ)
      → part_bytes (within ss c ps held) ++ (b ∷ rest) ≡ part_bytes (within ss c ps []) ++ (pair_bytes p ++ rest)
  split_entry ss c ps held b s rest =
      ap (λ (x : List ℕ). x ++ (b ∷ rest)) (bytes_more ss c ps [] held)
      ∙ append_assoc (part_bytes (within ss c ps [])) held (b ∷ rest)
      ∙ ap (λ (x : List ℕ). part_bytes (within ss c ps []) ++ x)
      (sym (append_assoc held (b ∷ []) rest) ∙ ap (λ (x : List ℕ). x ++ rest) (sym s.bytes))

  next_last : {ss : List (List Pair)} {c : ℕ} {ps : List Pair} {held : List ℕ} (b : ℕ) → b < 256 → U.Sections ss → length ss < 4
      → c < 2 ^ 16 → U.Pairs ps → length ps < c
      → Bytes held → length held ≡ 15 → Came (within ss c ps held) → Next (within ss c ps held) b
  unfolding part_entries
  next_last {ss} {c} {ps} {held} b s w f l q g k e a = go (E.judged ix fits h words a.taken next (place-small ps w f l g))
    where
      p : Pair
      p = pair_at held b

      next : Entry
      next = next_entry ss ps p

      sp : Spelled held b p
      sp = spell k s e

      part : Partial (within ss c ps [])
      part = entries w f l q g nothing (omega arith)

      ins : Outcome
      ins = inserts a.index next.hash next.key next.at

      bytes : part_bytes (within ss c (ps ++ (p ∷ [])) []) ≡ part_bytes (within ss c ps held) ++ (b ∷ [])
      bytes = bytes_pair ss c ps (held ++ (b ∷ [])) p sp.bytes ∙ bytes_more ss c ps held (b ∷ [])

      taking : (x : ℕ) → ins.answer ≡ given x → E.Taken ix fits h words (part_entries (within ss c ps held) ++ (next ∷ [])) ins.left
          → Dec (length ps + 1 ≡ c) → Next (within ss c ps held) b
      taking x y t (yes z) =
          let o = length_one ss (ps ++ (p ∷ [])) in
          let r = length_one ps p in
          goes (between (ss ++ ((ps ++ (p ∷ [])) ∷ [])))
          (whole (sections_more w (pairs_more q sp.hash_small sp.key_small) (omega arith)) (omega arith))
          (at_whole ix fits h words f b e sp a x y t z) (bytes_whole ss (ps ++ (p ∷ [])) c (omega arith) ∙ bytes)
      taking x y t (no z) =
          let r = length_one ps p in
          goes (within ss c (ps ++ (p ∷ [])) [])
          (entries {count = c} w f l (pairs_more q sp.hash_small sp.key_small) (omega arith) nothing (omega arith))
          (at_more ix fits h words f b e sp a x y t (omega arith)) bytes

      here : (rest : List ℕ) → AtEntry ix h (part_bytes (within ss c ps held) ++ (b ∷ rest)) (part_entries (within ss c ps held)) p
      here rest =
          record {
            sections = ss;
            count = c;
            pairs = ps;
            rest = rest;
            partial = part;
            entries = refl;
            enters = a.taken.can;
            is = split_entry ss c ps held b sp rest;
            hash = sp.hash_small;
            key = sp.key_small;
          }

      refusing : (r : Answer) → r.number ≢ 0 → ins.answer ≡ r
          → ((rest : List ℕ) → Reason ix h (part_bytes (within ss c ps held) ++ (b ∷ rest)) r) → Next (within ss c ps held) b
      refusing r z y why =
          halts r why
          (note_of_lem (last_refuses ix fits h words f b e sp a (λ x. z (ap (λ (q : Answer). q.number) (sym y) ∙ x))) (ap said y))

      slot_there : (x : ℕ) → Stands x a.taken.left.sound.tree → pair_of a.index.live.names x ≡ p → (rest : List ℕ)
          → PresentIn ix h (part_bytes (within ss c ps held) ++ (b ∷ rest)) x
      slot_there x st q rest =
          record {
            before = part_entries (within ss c ps held);
            own = p;
            comes = here rest;
            has = subst (λ (i : Index). SlotHas i.live x p) a.taken.is (a.taken.left.sound, st, q);
          }

      go : E.Judged ix fits h words a.taken next → Next (within ss c ps held) b
      go (E.takes x y t) = taking x y t (ℕ_discrete (length ps + 1) c)
      go (E.present x st q n y) =
          refusing (record { number = 3; value = some x }) (λ z. omega arith) y
          (λ rest. slotted x (present (here rest) n) (slot_there x st q rest))
      go (E.full n r y) = refusing (refused 5) (λ z. omega arith) y (λ rest. plainly (full (here rest) n r) (λ z. omega arith))
      go (E.unlined n r j y) = refusing (refused 6) (λ z. omega arith) y (λ rest. plainly (unlined (here rest) n r j) (λ z. omega arith))

  next : {part : UploadPart} (b : ℕ) → b < 256 → Partial part → Came part → Next part b
  next b s (whole w l) a = next_between b w l a
  next b s (kind {ss} w f) a = goes (counting ss b) (low w f s) (at_low ix fits h words f b a) (bytes_low ss b)
  next b s (low w f l) a = next-counting b s w f l a
  next b s (entries {ss} {count = c} {ps} {held} w f l q g k e) a = go (ℕ_discrete (length held) 15)
    where
      go : Dec (length held ≡ 15) → Next (within ss c ps held) b
      go (yes z) = next_last b s w f l q g k z a
      go (no n) =
          let o = length_one held b in
          goes (within ss c ps (held ++ (b ∷ []))) (entries w f l q g (snoc_bytes k s) (omega arith))
          (at_entry ix fits h words f b (omega arith) a) (bytes_more ss c ps held (b ∷ []))

  -- What is noted at a byte is noted after the rest.
  pub noted_rest : (l : List ℕ) (b : ℕ) (rest : List ℕ) {a : Answer} → (run (l ++ (b ∷ []))).reader.note ≡ said a
      → (run (l ++ (b ∷ rest))).reader.note ≡ said a
  noted_rest l b rest z =
      note_of_lem (ap run (sym (append_assoc l (b ∷ []) rest)) ∙ sym (bytes_read_append (new_session ix) (l ++ (b ∷ [])) rest)
      ∙ bytes_said (run (l ++ (b ∷ []))) rest z) z

  -- What any bytes come to.
  pub data Ran (l : List ℕ) : Type 0 where
    still : (part : UploadPart) → Partial part → Came part → l ≡ part_bytes part → Ran l
    over : (a : Answer) → Reason ix h l a → (run l).reader.note ≡ said a → Ran l

  ran_on : (l : List ℕ) → Bytes l → (part : UploadPart) → Partial part → Came part → Ran (part_bytes part ++ l)
  ran_on [] nothing part w a = still part w a (append-nil (part_bytes part))
  ran_on (b ∷ l) (another s k) part w a = go (next b s w a) (λ q v c. ran_on l k q v c)
    where
      go : Next part b → ((q : UploadPart) → Partial q → Came q → Ran (part_bytes q ++ l)) → Ran (part_bytes part ++ (b ∷ l))
      go (goes q v c e) f =
          subst Ran (ap (λ (x : List ℕ). x ++ l) e ∙ append_assoc (part_bytes part) (b ∷ []) l) (f q v c)
      go (halts a r z) f = over a (r l) (noted_rest (part_bytes part) b l z)

  pub ran : {l : List ℕ} → Bytes l → Ran l
  unfolding part_bytes U.sections_bytes
  ran {l} k = ran_on l k (between []) (whole U.none (omega arith)) (at_start ix fits h words)
