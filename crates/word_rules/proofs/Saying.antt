-- A note's word says that note and no other; so eight words are one reader or none, and a reader written with a note of the reader's own
-- answers is read again. Bytes and the end call leave only such readers: each refusal that they note is one that the rules name.
use Prim.{tt}
use mathlib.Core.Path.{◌≡◌, refl, ap, sym, ◌∙◌, subst}
use mathlib.Core.Logic.{◌≢◌, ◌↔◌}
use mathlib.Core.List.{List, [], ◌∷◌}
use Prim.Native.Nat.{ℕ, ◌+◌, ◌-◌, ◌/◌, ◌%◌, ◌<◌}
use native.Mathlib.Decide.{ℕ_discrete, dec_lt}
use native.Mathlib.Omega.{arith}
use lib.ListN.{length, get_or}
use lib.Dec.{eqb}
use borrow.Author.Tests.{eq-eqb, ne_eqb, eqb-true, eqb-false, lt-ltb, le-ltb}
use Rattle.slots.specs.Answers.{Answer, some, given, refused, answer_word}
use Rattle.upload_rules.specs.Reader.{Note, said, Reader, reader_of}
use Rattle.reader.specs.Notes.{plain_at, note_with, note_at}
use Rattle.upload_rules.specs.Notes.{NoteSaid, known, unknown, note_word}
use Rattle.reader.proofs.Noting.{at_unsaid, at-given, at_present, at_plain}
use Rattle.word_rules.specs.Told as T
use Rattle.word_rules.specs.Told.{gives, WordTells}
use Rattle.word_rules.specs.Lent.{ReaderAnswer, takes, present, wrong_kind, full, unlined, long, short, unfit, damaged, bad_mark}
use Rattle.word_rules.specs.Lent.{misfit}
use Rattle.word_rules.specs.Lent.{NoteTold, nothing as unnoted, noted, ReaderWords}
use Rattle.word_rules.specs.Readers.{saying, saying_none, reader_in, reader_written}
use Rattle.word_rules.proofs.Telling.{value_some, value_none, plainly, always_tells}
use Rattle.word_rules.proofs.Answering.{picked}
use Rattle.word_rules.proofs.Giving.{Tellable}
use Rattle.word_rules.proofs.Noting.{SaidBy, up, plain_by, one_note, Sayable, note_written}
use Rattle.word_rules.proofs.Holding as H
use Rattle.word_rules.proofs.Holding.{OfLength, end, one}

-- A refusal without a value, in a word.
plain_said : (k : ℕ) {word : ℕ} → plain_at k ≡ known (said (refused k)) → k ≢ 0 → k ≢ 3 → WordTells 4294967296 (refused k) word
    → note_at (1 + word) ≡ known (said (refused k))
plain_said k {word} p z d t =
    let q : (1 + word - 1) / 4294967296 ≡ k = omega (arith, t.number) in
    let v = value_none t.valued z refl in
    sym (at_plain (1 + word) (λ e. omega arith) (λ e. omega arith) (λ e. omega arith) (omega (arith, t.value))
    (sym p ∙ sym (ap plain_at q)))

pub note_said : {n : Note} {word : ℕ} → NoteTold ReaderAnswer n word → note_at word ≡ known n
unfolding plain_at
note_said unnoted = sym (at_unsaid 0 refl)
note_said (noted {word = word} (takes {n} l) t) =
    sym (at-given (1 + word) (λ e. omega arith) (omega (arith, t.number))
    (ap (λ (x : ℕ). known (said (given x))) (omega (arith, t.value, value_some t.valued refl))))
note_said (noted {word = word} (present {x} l) t) =
    sym (at_present (1 + word) (λ e. omega arith) (omega (arith, t.number))
    (ap (λ (x : ℕ). known (said (record { number = 3; value = some x }))) (omega (arith, t.value, value_some t.valued refl))))
note_said (noted wrong_kind t) = plain_said 18 refl (λ e. omega arith) (λ e. omega arith) t
note_said (noted full t) = plain_said 5 refl (λ e. omega arith) (λ e. omega arith) t
note_said (noted unlined t) = plain_said 6 refl (λ e. omega arith) (λ e. omega arith) t
note_said (noted long t) = plain_said 13 refl (λ e. omega arith) (λ e. omega arith) t
note_said (noted short t) = plain_said 12 refl (λ e. omega arith) (λ e. omega arith) t
note_said (noted unfit t) = plain_said 1 refl (λ e. omega arith) (λ e. omega arith) t
note_said (noted damaged t) = plain_said 2 refl (λ e. omega arith) (λ e. omega arith) t
note_said (noted bad_mark t) = plain_said 7 refl (λ e. omega arith) (λ e. omega arith) t
note_said (noted misfit t) = plain_said 8 refl (λ e. omega arith) (λ e. omega arith) t

-- What a word says is told by it.
module _ (w : ℕ) (s : w ≢ 0) where
  with_by : SaidBy ReaderAnswer w (note_with ((w - 1) / 4294967296) ((w - 1) % 4294967296))
  unfolding note_with plain_at
  with_by =
      picked (SaidBy ReaderAnswer w) (eqb ((w - 1) / 4294967296) 0)
      (λ e. up w s (noted (takes small)
      (record { beside = (w - 1) % 4294967296; valued = gives small; number = eqb-true ((w - 1) / 4294967296) 0 e; value = refl })))
      (λ n0. picked (SaidBy ReaderAnswer w) (eqb ((w - 1) / 4294967296) 3)
      (λ e. up w s (noted (present small)
      (record { beside = (w - 1) % 4294967296; valued = T.present small; number = eqb-true ((w - 1) / 4294967296) 3 e; value = refl })))
      (λ n3. picked (SaidBy ReaderAnswer w) (eqb ((w - 1) % 4294967296) 0) (λ e. plain (eqb-true ((w - 1) % 4294967296) 0 e)) (λ e. tt)))
    where
      small : (w - 1) % 4294967296 < 4294967296
      small = omega arith

      plain : (w - 1) % 4294967296 ≡ 0 → SaidBy ReaderAnswer w (plain_at ((w - 1) / 4294967296))
      plain v =
          plain_by ReaderAnswer w s 1 _ unfit refl v
          (plain_by ReaderAnswer w s 2 _ damaged refl v
          (plain_by ReaderAnswer w s 5 _ full refl v
          (plain_by ReaderAnswer w s 6 _ unlined refl v
          (plain_by ReaderAnswer w s 7 _ bad_mark refl v
          (plain_by ReaderAnswer w s 8 _ misfit refl v
          (plain_by ReaderAnswer w s 12 _ short refl v
          (plain_by ReaderAnswer w s 13 _ long refl v
          (plain_by ReaderAnswer w s 18 _ wrong_kind refl v tt))))))))

said_by : (w : ℕ) → SaidBy ReaderAnswer w (note_at w)
unfolding note_at
said_by w = picked (SaidBy ReaderAnswer w) (eqb w 0) (λ e. rw (eqb-true w 0 e) unnoted) (λ e. with_by w (eqb-false w 0 e))

pub said_note : {w : ℕ} {n : Note} → note_at w ≡ known n → NoteTold ReaderAnswer n w
said_note {w} e = subst (SaidBy ReaderAnswer w) e (said_by w)

-- The answers with their values, and their words.
pub answer_valued : {a : Answer} → ReaderAnswer a → Tellable 4294967296 a
answer_valued (takes {n} l) = (n, gives l)
answer_valued (present {x} l) = (x, T.present l)
answer_valued wrong_kind = (0, plainly 18 refl)
answer_valued full = (0, plainly 5 refl)
answer_valued unlined = (0, plainly 6 refl)
answer_valued long = (0, plainly 13 refl)
answer_valued short = (0, plainly 12 refl)
answer_valued unfit = (0, plainly 1 refl)
answer_valued damaged = (0, plainly 2 refl)
answer_valued bad_mark = (0, plainly 7 refl)
answer_valued misfit = (0, plainly 8 refl)

pub reader_tells : {a : Answer} → ReaderAnswer a → WordTells 4294967296 a (answer_word a)
reader_tells r = always_tells (answer_valued r).1

-- The eight words written are those of the table.
reader_write : {w : List ℕ} → OfLength 8 w → (r : Reader) → r.mark < 4294967296 → NoteTold ReaderAnswer r.note (note_word r.note)
    → ReaderWords (reader_written w r) r
unfolding reader_written
reader_write (one a (one b (one c (one d (one e (one f (one g (one h end)))))))) r l n =
    record {
      eight = refl;
      section = refl;
      got = refl;
      owed = refl;
      hash = refl;
      key = refl;
      mark = refl;
      taken = refl;
      note = n;
      narrow = l;
    }

pub reader_written_lem : (w : List ℕ) (r : Reader) → length w ≡ 8 → r.mark < 4294967296 → Sayable ReaderAnswer r.note
    → ReaderWords (reader_written w r) r
reader_written_lem w r e l s = reader_write (H.long w e) r l (note_written (λ a. reader_tells) s)

-- Written twice, the second stands.
written_over : {w : List ℕ} → OfLength 8 w → (r s : Reader) → reader_written (reader_written w r) s ≡ reader_written w s
unfolding reader_written
written_over (one a (one b (one c (one d (one e (one f (one g (one h end)))))))) r s = refl

pub written_again : (w : List ℕ) → length w ≡ 8 → (r s : Reader) → reader_written (reader_written w r) s ≡ reader_written w s
written_again w e = written_over (H.long w e)

-- Words are one reader.
one_reader : {w : List ℕ} {r s : Reader} → ReaderWords w r → ReaderWords w s → r ≡ s
one_reader {w} {r} {s} p q =
    let e0 : r.section ≡ s.section = sym p.section ∙ q.section in
    let e1 : r.got ≡ s.got = sym p.got ∙ q.got in
    let e2 : r.owed ≡ s.owed = sym p.owed ∙ q.owed in
    let e3 : r.hash ≡ s.hash = sym p.hash ∙ q.hash in
    let e4 : r.key ≡ s.key = sym p.key ∙ q.key in
    let e5 : r.mark ≡ s.mark = omega (arith, p.mark, q.mark) in
    let e6 : r.taken ≡ s.taken = sym p.taken ∙ q.taken in
    let n : known r.note ≡ known s.note = sym (note_said p.note) ∙ note_said q.note in
    let e7 : r.note ≡ s.note = cc in
    λ i. reader_of (e0 i) (e1 i) (e2 i) (e3 i) (e4 i) (e5 i) (e6 i) (e7 i)

-- And a reader is one list of words.
one_list : {v w : List ℕ} → OfLength 8 v → OfLength 8 w → {r : Reader} → ReaderWords v r → ReaderWords w r → v ≡ w
one_list (one a (one b (one c (one d (one e (one f (one g (one h end))))))))
    (one a' (one b' (one c' (one d' (one e' (one f' (one g' (one h' end)))))))) p q =
    let e0 : a ≡ a' = p.section ∙ sym q.section in
    let e1 : b ≡ b' = p.got ∙ sym q.got in
    let e2 : c ≡ c' = p.owed ∙ sym q.owed in
    let e3 : d ≡ d' = p.hash ∙ sym q.hash in
    let e4 : e ≡ e' = p.key ∙ sym q.key in
    let e5 : f ≡ f' = p.mark ∙ sym q.mark in
    let e6 : g ≡ g' = p.taken ∙ sym q.taken in
    let e7 : h ≡ h' = one_note p.note q.note in
    λ i. e0 i ∷ e1 i ∷ e2 i ∷ e3 i ∷ e4 i ∷ e5 i ∷ e6 i ∷ e7 i ∷ []

pub reader_one : (v w : List ℕ) (r : Reader) → ReaderWords v r → ReaderWords w r → v ≡ w
reader_one v w r p q = one_list (H.long v p.eight) (H.long w q.eight) p q

-- The words say the reader that they are, or none.
pub data SaidIn (w : List ℕ) : Type 0 where
  says : (r : Reader) → reader_in w ≡ saying r → ReaderWords w r → SaidIn w
  none : reader_in w ≡ saying_none → ((r : Reader) → ReaderWords w r → ⊥) → SaidIn w

-- The eight words read are those of the table.
reader_read : {w : List ℕ} → OfLength 8 w → (n : Note) → get_or w 5 0 ≢ 0 → get_or w 5 0 < 4294967297
    → NoteTold ReaderAnswer n (get_or w 7 0)
    → note_at (get_or w 7 0) ≡ known n → SaidIn w
unfolding reader_in
reader_read (one a (one b (one c (one d (one e (one f (one g (one h end)))))))) n z l t k =
    says (reader_of a b c d e (f - 1) g n) (rw (ne_eqb f 0 z, lt-ltb f 4294967297 l, k))
    (record {
      eight = refl;
      section = refl;
      got = refl;
      owed = refl;
      hash = refl;
      key = refl;
      mark = omega arith;
      taken = refl;
      note = t;
      narrow = omega arith;
    })

pub said_in : (w : List ℕ) → SaidIn w
unfolding reader_in
said_in w = go (ℕ_discrete (length w) 8) (ℕ_discrete (get_or w 5 0) 0) (dec_lt (get_or w 5 0) 4294967297) (note_at (get_or w 7 0)) refl
  where
    go : Dec (length w ≡ 8) → Dec (get_or w 5 0 ≡ 0) → Dec (get_or w 5 0 < 4294967297) → (n : NoteSaid) → note_at (get_or w 7 0) ≡ n
        → SaidIn w
    go (no d) z m n e = none (rw (ne_eqb (length w) 8 d)) (λ r h. d h.eight)
    go (yes l) (yes z) m n e = none (rw (eq-eqb (length w) 8 l, eq-eqb (get_or w 5 0) 0 z)) (λ r h. omega (arith, h.mark, z))
    go (yes l) (no z) (no d) n e =
        none (rw (eq-eqb (length w) 8 l, ne_eqb (get_or w 5 0) 0 z, le-ltb (get_or w 5 0) 4294967297 (omega arith)))
        (λ r h. d (omega (arith, h.mark, h.narrow)))
    go (yes l) (no z) (yes b) unknown e =
        none (rw (eq-eqb (length w) 8 l, ne_eqb (get_or w 5 0) 0 z, lt-ltb (get_or w 5 0) 4294967297 b, e))
        (λ r h. (let q = note_said h.note in let z : ◌≡◌ {A = ℕ} 0 1 = cc in omega arith))
    go (yes l) (no z) (yes b) (known n) e = reader_read (H.long w l) n z b (said_note e) e

-- Zeros are no reader, since none has 0 for word 5.
pub zeros_none : (r : Reader) → ReaderWords (0 ∷ 0 ∷ 0 ∷ 0 ∷ 0 ∷ 0 ∷ 0 ∷ 0 ∷ []) r → ⊥
zeros_none r h = omega (arith, h.mark)

pub reader_words : (w : List ℕ) (r : Reader) → (reader_in w ≡ saying r) ↔ ReaderWords w r
reader_words w r = go (said_in w)
  where
    go : SaidIn w → (reader_in w ≡ saying r) ↔ ReaderWords w r
    go (says s e h) = (
      λ f. (let q : saying s ≡ saying r = sym e ∙ f in let z : s ≡ r = cc in subst (ReaderWords w) z h),
      λ g. e ∙ ap saying (one_reader h g),
    )
    go (none e n) = (
      λ f. (let q : saying_none ≡ saying r = sym e ∙ f in let z : ◌≡◌ {A = ℕ} 0 1 = cc in absurd (omega arith)),
      λ g. absurd (n r g),
    )
