-- The bytes of a part, run from the start on a sound index, bring the reader to that part and the index to its entries: one move for each
-- kind of byte, and what a byte that is refused comes to.
use mathlib.Core.Path.{◌≡◌, refl, ap, sym, ◌∙◌, subst}
use mathlib.Core.Logic.{◌≢◌}
use mathlib.Core.List.{List, [], ◌∷◌, ◌++◌}
use Prim.Native.Nat.{ℕ, suc, ◌+◌, ◌-◌, ◌*◌, ◌<◌, ◌≤◌}
use native.Mathlib.Omega.{arith}
use lib.ListN.{length, length-append}
use borrow.Author.Tests.{eq-eqb, ne_eqb}
use Rattle.slots.specs.Pairs.{Pair}
use Rattle.slots.specs.Answers.{Answer, given, refused}
use Rattle.index_rules.specs.Sound.{Sound}
use Rattle.index_rules.specs.Index.{Index, Outcome, FitIndex, length_of}
use Rattle.index_rules.specs.Insert.{inserts}
use Rattle.index_rules.specs.Rollback.{rolls}
use Rattle.index_rules.specs.Contents.{Entry, contents}
use Rattle.index_rules.specs.Calls.{Places}
use Rattle.index_rules.proofs.Inserting.{insert_claims}
use Rattle.upload_rules.specs.Upload.{sections_bytes, entries_of}
use Rattle.upload_rules.specs.Reader.{Reader, unsaid, noting}
use Rattle.upload_rules.specs.Reading.{Session, session, turned_down, owing, kind_came, came_of, last_came, byte_came, byte_read}
use Rattle.upload_rules.specs.Reading.{bytes_read}
use Rattle.upload_rules.specs.Reading.{new_session}
use Rattle.upload_rules.specs.Parts.{UploadPart, between, kinded, counting, within, part_bytes, part_entries}
use Rattle.upload_rules.proofs.Cutting.{bytes_read_append, byte_open}
use Rattle.upload_rules.proofs.Stepping.{turned_back}
use Rattle.upload_rules.proofs.Endian.{gathered}
use Rattle.upload_rules.proofs.Sections.{pairs_in, pairs_in_one, length_one, entries_at-length, entries_of_length}
use Rattle.upload_rules.proofs.Growing.{placed_is, next_entry, bytes_kind, bytes_low, bytes_high, bytes_none, entries_none}
use Rattle.upload_rules.proofs.Growing.{entries_begun, bytes_whole, entries_whole, bytes_more, entries_more, bytes_pair}
use Rattle.upload_rules.proofs.Growing.{entries_pair}
use Rattle.upload_rules.proofs.Moving.{reader_at, same_reader, not_whole, place_at, kind_on, low_on, high_none, high_some, entry_on}
use Rattle.upload_rules.proofs.Moving.{entry_last, Spelled}
use Rattle.upload_rules.proofs.Entering.{Taken, taken_none, taken_back_lem}

pub reader_open : (m : ℕ) (part : UploadPart) → (reader_at m part).note ≡ unsaid
unfolding reader_at
reader_open m (between ss) = refl
reader_open m (kinded ss) = refl
reader_open m (counting ss b) = refl
reader_open m (within ss c ps held) = refl

pub reader_mark : (m : ℕ) (part : UploadPart) → (reader_at m part).mark ≡ m
unfolding reader_at
reader_mark m (between ss) = refl
reader_mark m (kinded ss) = refl
reader_mark m (counting ss b) = refl
reader_mark m (within ss c ps held) = refl

-- The entries taken are those of the part.
pub reader_taken : (m : ℕ) (part : UploadPart) → (reader_at m part).taken ≡ length (part_entries part)
unfolding reader_at part_entries
reader_taken m (between ss) = sym (entries_of_length 1 0 ss)
reader_taken m (kinded ss) = sym (entries_of_length 1 0 ss)
reader_taken m (counting ss b) = sym (entries_of_length 1 0 ss)
reader_taken m (within ss c ps held) = simp (length-append, entries_of_length, entries_at-length)

-- The bytes that are refused after whole sections.
module _ (m : ℕ) (ix : Index) (ss : List (List Pair)) (b : ℕ) where
  -- Past four sections any byte is turned down with 13.
  pub past_four : length ss ≡ 4 → byte_came (reader_at m (between ss)) ix b ≡ turned_down (reader_at m (between ss)) ix (refused 13)
  unfolding byte_came turned_down reader_at
  past_four e = rw e

  -- Before the fourth is whole, any but the kind of the next is with 18.
  pub kind_off : length ss < 4 → b ≢ suc (length ss)
      → byte_came (reader_at m (between ss)) ix b ≡ turned_down (reader_at m (between ss)) ix (refused 18)
  unfolding byte_came kind_came reader_at
  kind_off l e = let f : b ≢ length ss + 1 = λ z. e (omega arith) in rw (not_whole (reader_at m (between ss)) l, ne_eqb b (length ss + 1) f)

-- An entry's last byte: the insert of the pair, and what comes of it.
module _ (m : ℕ) (jx : Index) (ss : List (List Pair)) (c : ℕ) (ps : List Pair) (held : List ℕ) (b : ℕ) {p : Pair} (four : length ss < 4)
    (fifteen : length held ≡ 15) (spelled : Spelled held b p) where
  abbrev here : Reader
  here = reader_at m (within ss c ps held)

  abbrev next : Entry
  next = next_entry ss ps p

  abbrev ins : Outcome
  ins = inserts jx next.hash next.key next.at

  last_is : byte_came here jx b ≡ came_of here ins
  unfolding last_came reader_at
  last_is =
      entry_last m jx ss c ps held b four fifteen
      ∙ (λ i. came_of (reader_at m (within ss c ps held))
      (inserts jx (spelled.hash i) (spelled.key i) ((place_at m ss c ps held ∙ placed_is ss c ps) i)))

  last_takes : (x : ℕ) → ins.answer ≡ given x
      → byte_came here jx b ≡ session (owing here (c - length ps - 1) (pairs_in ss + length ps + 1)) ins.left
  unfolding reader_at
  last_takes x e = last_is ∙ rw (eq-eqb ins.answer.number 0 (ap (λ (a : Answer). a.number) e))

  pub last_more : (x : ℕ) → ins.answer ≡ given x → length ps + 1 < c
      → byte_came here jx b ≡ session (reader_at m (within ss c (ps ++ (p ∷ [])) [])) ins.left
  unfolding reader_at owing gathered
  last_more x e l =
      let n : c - length ps - 1 ≢ 0 = λ z. omega arith in
      let o = length_one ps p in
      last_takes x e
      ∙ rw (ne_eqb (c - length ps - 1) 0 n)
      (ap (λ (r : Reader). session r ins.left) (same_reader m unsaid refl refl (omega arith) refl refl (omega arith)))

  pub last_whole : (x : ℕ) → ins.answer ≡ given x → length ps + 1 ≡ c
      → byte_came here jx b ≡ session (reader_at m (between (ss ++ ((ps ++ (p ∷ [])) ∷ [])))) ins.left
  unfolding reader_at owing
  last_whole x e l =
      let n : c - length ps - 1 ≡ 0 = omega arith in
      let o = length_one ps p in
      let t = pairs_in_one ss (ps ++ (p ∷ [])) in
      let s = length_one ss (ps ++ (p ∷ [])) in
      last_takes x e
      ∙ rw (eq-eqb (c - length ps - 1) 0 n)
      (ap (λ (r : Reader). session r ins.left) (same_reader m unsaid (omega arith) refl refl refl refl (omega arith)))

  pub last_off : ins.answer.number ≢ 0 → byte_came here jx b ≡ turned_down here jx ins.answer
  last_off n =
      last_is ∙ rw (ne_eqb ins.answer.number 0 n)
      (ap (λ (i : Index). turned_down here i ins.answer) ((insert_claims jx next.hash next.key next.at).nothing_written n))

module _ (ix : Index) (fits : FitIndex ix) (h : Sound ix.live) (words : Places (contents h)) where
  abbrev mark : ℕ
  mark = length_of ix.lines

  abbrev Took : List Entry → Index → Type 0
  Took es jx = Taken ix fits h words es jx

  -- The run has come to this part.
  pub record At (part : UploadPart) : Type 0 where
    pub index : Index
    pub runs : bytes_read (new_session ix) (part_bytes part) ≡ session (reader_at mark part) index
    pub taken : Took (part_entries part) index

  pub at_start : At (between [])
  unfolding part_bytes sections_bytes part_entries entries_of bytes_read reader_at pairs_in
  at_start = record { index = ix; runs = refl; taken = taken_none ix fits h words }

  one_byte : {part : UploadPart} (a : At part) (b : ℕ)
      → bytes_read (new_session ix) (part_bytes part ++ (b ∷ [])) ≡ byte_came (reader_at mark part) a.index b
  unfolding bytes_read
  one_byte {part} a b =
      sym (bytes_read_append (new_session ix) (part_bytes part) (b ∷ [])) ∙ ap (λ (d : Session). byte_read d b) a.runs
      ∙ byte_open (session (reader_at mark part) a.index) b (reader_open mark part)

  pub at_next : {part next : UploadPart} (a : At part) (b : ℕ) {jx : Index} → part_bytes next ≡ part_bytes part ++ (b ∷ [])
      → byte_came (reader_at mark part) a.index b ≡ session (reader_at mark next) jx → Took (part_entries next) jx → At next
  at_next {part} a b {jx} e f t = record { index = jx; runs = ap (bytes_read (new_session ix)) e ∙ one_byte a b ∙ f; taken = t }

  -- Each entry taken has its line.
  pub all_lined : {part : UploadPart} (a : At part) → (reader_at mark part).mark + (reader_at mark part).taken ≤ length_of a.index.lines
  all_lined {part} a = omega (arith, reader_mark mark part, reader_taken mark part, a.taken.left.long)

  -- A byte that is refused: the refusal is noted, and the rollback is accepted.
  pub at_off : {part : UploadPart} (a : At part) (b : ℕ) (n : Answer)
      → byte_came (reader_at mark part) a.index b ≡ turned_down (reader_at mark part) a.index n
      → bytes_read (new_session ix) (part_bytes part ++ (b ∷ [])) ≡ session (noting (reader_at mark part) n) (rolls a.index mark).left
  at_off {part} a b n e =
      let q = reader_mark mark part in
      let back = taken_back_lem ix fits h words a.taken in
      one_byte a b ∙ e
      ∙ turned_back (reader_at mark part) a.index n (length_of a.index.lines - mark) (all_lined a)
      (ap (λ (k : ℕ). (rolls a.index k).answer) q ∙ back)
      ∙ ap (λ (k : ℕ). session (noting (reader_at mark part) n) (rolls a.index k).left) q

  same_entries : {es fs : List Entry} {jx : Index} → fs ≡ es → Took es jx → Took fs jx
  same_entries {jx = jx} e t = subst (λ (l : List Entry). Took l jx) (sym e) t

  -- The moves that take no entry.
  module _ {ss : List (List Pair)} (four : length ss < 4) where
    pub at_kind : At (between ss) → At (kinded ss)
    unfolding part_entries
    at_kind a = at_next a (suc (length ss)) (bytes_kind ss) (kind_on mark a.index ss (suc (length ss)) four refl) a.taken

    pub at_low : (b : ℕ) → At (kinded ss) → At (counting ss b)
    unfolding part_entries
    at_low b a = at_next a b (bytes_low ss b) (low_on mark a.index ss b four) a.taken

    pub at_high : (lo hi c : ℕ) → lo < 256 → hi < 256 → c ≡ lo + 256 * hi → c ≢ 0 → At (counting ss lo) → At (within ss c [] [])
    unfolding part_entries
    at_high lo hi c l g e n a =
        at_next a hi (bytes_high ss lo hi c l g e) (high_some mark a.index ss lo hi four l g n e)
        (same_entries (entries_begun ss c) a.taken)

    pub at_none : (lo hi : ℕ) → lo < 256 → hi < 256 → 0 ≡ lo + 256 * hi → At (counting ss lo) → At (between (ss ++ ([] ∷ [])))
    unfolding part_entries
    at_none lo hi l g e a =
        at_next a hi (bytes_none ss lo hi l g e) (high_none mark a.index ss lo hi four l g (omega arith) (omega arith))
        (same_entries (entries_none ss) a.taken)

    pub at_entry : {c : ℕ} {ps : List Pair} {held : List ℕ} (b : ℕ) → length held < 15 → At (within ss c ps held)
        → At (within ss c ps (held ++ (b ∷ [])))
    at_entry {c} {ps} {held} b l a =
        at_next a b (bytes_more ss c ps held (b ∷ [])) (entry_on mark a.index ss c ps held b four l)
        (same_entries (entries_more ss c ps held (held ++ (b ∷ []))) a.taken)

    -- The last byte of an entry that is taken.
    module _ {c : ℕ} {ps : List Pair} {held : List ℕ} (b : ℕ) {p : Pair} (fifteen : length held ≡ 15) (spelled : Spelled held b p)
        (a : At (within ss c ps held)) where
      abbrev insertion : Outcome
      insertion = inserts a.index (next_entry ss ps p).hash (next_entry ss ps p).key (next_entry ss ps p).at

      module _ (x : ℕ) (e : insertion.answer ≡ given x)
          (t : Took (part_entries (within ss c ps held) ++ (next_entry ss ps p ∷ [])) insertion.left) where
        last_bytes : part_bytes (within ss c (ps ++ (p ∷ [])) []) ≡ part_bytes (within ss c ps held) ++ (b ∷ [])
        last_bytes = bytes_pair ss c ps (held ++ (b ∷ [])) p spelled.bytes ∙ bytes_more ss c ps held (b ∷ [])

        pub at_more : length ps + 1 < c → At (within ss c (ps ++ (p ∷ [])) [])
        at_more l =
            at_next a b last_bytes (last_more mark a.index ss c ps held b four fifteen spelled x e l)
            (same_entries (entries_pair ss c ps held p) t)

        pub at_whole : length ps + 1 ≡ c → At (between (ss ++ ((ps ++ (p ∷ [])) ∷ [])))
        at_whole l =
            let o = length_one ps p in
            at_next a b (bytes_whole ss (ps ++ (p ∷ [])) c (omega arith) ∙ last_bytes)
            (last_whole mark a.index ss c ps held b four fifteen spelled x e l)
            (same_entries (entries_whole ss (ps ++ (p ∷ [])) c ∙ entries_pair ss c ps held p) t)

      pub last_refuses : insertion.answer.number ≢ 0
          → bytes_read (new_session ix) (part_bytes (within ss c ps held) ++ (b ∷ []))
          ≡ session (noting (reader_at mark (within ss c ps held)) insertion.answer) (rolls a.index mark).left
      last_refuses n = at_off a b insertion.answer (last_off mark a.index ss c ps held b four fifteen spelled n)
