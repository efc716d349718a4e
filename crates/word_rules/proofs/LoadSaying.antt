-- A note's word says that note and no other; so eight words are one loader or none, and a loader written with a note of the loader's own
-- answers is read again.
use Prim.{tt}
use mathlib.Core.Path.{◌≡◌, refl, ap, sym, ◌∙◌, subst}
use mathlib.Core.Logic.{◌≢◌, ◌↔◌}
use mathlib.Core.List.{List, [], ◌∷◌}
use Prim.Native.Nat.{ℕ, ◌+◌, ◌-◌, ◌/◌, ◌%◌, ◌<◌}
use native.Mathlib.Decide.{ℕ_discrete}
use native.Mathlib.Omega.{arith}
use lib.ListN.{length, get_or}
use lib.Seq.{ext_get_or}
use lib.Dec.{eqb}
use borrow.Author.Tests.{eq-eqb, ne_eqb, eqb-true, eqb-false}
use Rattle.slots.specs.Answers.{Answer, given, refused, answer_word}
use Rattle.upload_rules.specs.Reader.{Note, said}
use Rattle.upload_rules.specs.Notes.{NoteSaid, known, unknown, note_word}
use Rattle.file_rules.specs.Loader.{Loader, loader_of}
use Rattle.file_rules.proofs.Testing.{by_four}
use Rattle.file.specs.Notes.{load_note_with, load_note_at}
use Rattle.file.proofs.Noting.{at_unsaid, at-given, at-refused}
use Rattle.word_rules.specs.Told.{gives, WordTells}
use Rattle.word_rules.specs.Lent.{LoaderAnswer, loads, over_limit, long_file, short_file, unfit_set, damaged_set}
use Rattle.word_rules.specs.Lent.{NoteTold, nothing as unnoted, noted, LoaderWords}
use Rattle.word_rules.specs.Loaders.{saying_loader, saying_no_loader, loader_in, loader_written}
use Rattle.word_rules.proofs.Telling.{value_some, value_none, plainly, always_tells}
use Rattle.word_rules.proofs.Answering.{picked}
use Rattle.word_rules.proofs.Giving.{Tellable}
use Rattle.word_rules.proofs.Noting.{SaidBy, up, plain_by, one_note, Sayable, note_written}
use Rattle.word_rules.proofs.Holding as H
use Rattle.word_rules.proofs.Holding.{OfLength, end, one}

-- A refusal, in a word.
plain_said : (k : ℕ) {word : ℕ} → known (said (refused k)) ≡ load_note_with k 0 → k ≢ 0 → WordTells 4294967296 (refused k) word
    → load_note_at (1 + word) ≡ known (said (refused k))
plain_said k {word} p z t =
    let q : (1 + word - 1) / 4294967296 ≡ k = omega (arith, t.number) in
    let v = value_none t.valued z refl in
    sym (at-refused (1 + word) (λ e. omega arith) (λ e. omega arith) (omega (arith, t.value)) k q p)

pub note_said : {n : Note} {word : ℕ} → NoteTold LoaderAnswer n word → load_note_at word ≡ known n
unfolding load_note_with
note_said unnoted = sym (at_unsaid 0 refl)
note_said (noted {word = word} (loads {n} l) t) =
    sym (at-given (1 + word) (λ e. omega arith) (omega (arith, t.number))
    (ap (λ (x : ℕ). known (said (given x))) (omega (arith, t.value, value_some t.valued refl))))
note_said (noted over_limit t) = plain_said 14 refl (λ e. omega arith) t
note_said (noted long_file t) = plain_said 13 refl (λ e. omega arith) t
note_said (noted short_file t) = plain_said 12 refl (λ e. omega arith) t
note_said (noted unfit_set t) = plain_said 1 refl (λ e. omega arith) t
note_said (noted damaged_set t) = plain_said 2 refl (λ e. omega arith) t

-- What a word says is told by it.
module _ (w : ℕ) (s : w ≢ 0) where
  with_by : SaidBy LoaderAnswer w (load_note_with ((w - 1) / 4294967296) ((w - 1) % 4294967296))
  unfolding load_note_with
  with_by =
      picked (SaidBy LoaderAnswer w) (eqb ((w - 1) / 4294967296) 0)
      (λ e. up w s (noted (loads small)
      (record { beside = (w - 1) % 4294967296; valued = gives small; number = eqb-true ((w - 1) / 4294967296) 0 e; value = refl })))
      (λ n0. picked (SaidBy LoaderAnswer w) (eqb ((w - 1) % 4294967296) 0)
      (λ e.
      let v = eqb-true ((w - 1) % 4294967296) 0 e in
      plain_by LoaderAnswer w s 1 _ unfit_set refl v
      (plain_by LoaderAnswer w s 2 _ damaged_set refl v
      (plain_by LoaderAnswer w s 12 _ short_file refl v
      (plain_by LoaderAnswer w s 13 _ long_file refl v
      (plain_by LoaderAnswer w s 14 _ over_limit refl v tt)))))
      (λ e. tt))
    where
      small : (w - 1) % 4294967296 < 4294967296
      small = omega arith

said_by : (w : ℕ) → SaidBy LoaderAnswer w (load_note_at w)
unfolding load_note_at
said_by w = picked (SaidBy LoaderAnswer w) (eqb w 0) (λ e. rw (eqb-true w 0 e) unnoted) (λ e. with_by w (eqb-false w 0 e))

said_note : {w : ℕ} {n : Note} → load_note_at w ≡ known n → NoteTold LoaderAnswer n w
said_note {w} e = subst (SaidBy LoaderAnswer w) e (said_by w)

-- The answers with their values, and their words.
answer_valued : {a : Answer} → LoaderAnswer a → Tellable 4294967296 a
answer_valued (loads {n} l) = (n, gives l)
answer_valued over_limit = (0, plainly 14 refl)
answer_valued long_file = (0, plainly 13 refl)
answer_valued short_file = (0, plainly 12 refl)
answer_valued unfit_set = (0, plainly 1 refl)
answer_valued damaged_set = (0, plainly 2 refl)

pub loader_tells : {a : Answer} → LoaderAnswer a → WordTells 4294967296 a (answer_word a)
loader_tells r = always_tells (answer_valued r).1

-- The eight words written are those of the table.
loader_write : {w : List ℕ} → OfLength 8 w → (r : Loader) → length r.counts ≡ 4 → NoteTold LoaderAnswer r.note (note_word r.note)
    → LoaderWords (loader_written w r) r
unfolding loader_written
loader_write (one a (one b (one c (one d (one e (one f (one g (one h end)))))))) r l n =
    record {
      eight = refl;
      section = refl;
      at = refl;
      part = refl;
      four = l;
      counts = by_four (λ (s : ℕ). ◌≡◌ {A = ℕ} _ _) refl refl refl refl;
      note = n;
    }

pub loader_written_lem : (w : List ℕ) (r : Loader) → length w ≡ 8 → length r.counts ≡ 4 → Sayable LoaderAnswer r.note → LoaderWords
    (loader_written w r) r
loader_written_lem w r e l s = loader_write (H.long w e) r l (note_written (λ a. loader_tells) s)

-- Written twice, the second stands.
written_over : {w : List ℕ} → OfLength 8 w → (r s : Loader) → loader_written (loader_written w r) s ≡ loader_written w s
unfolding loader_written
written_over (one a (one b (one c (one d (one e (one f (one g (one h end)))))))) r s = refl

pub written_again : (w : List ℕ) → length w ≡ 8 → (r s : Loader) → loader_written (loader_written w r) s ≡ loader_written w s
written_again w e = written_over (H.long w e)

-- Words are one loader.
one_loader : {w : List ℕ} {r s : Loader} → LoaderWords w r → LoaderWords w s → r ≡ s
one_loader {w} {r} {s} p q =
    let e0 : r.section ≡ s.section = sym p.section ∙ q.section in
    let e1 : r.at ≡ s.at = sym p.at ∙ q.at in
    let e2 : r.part ≡ s.part = sym p.part ∙ q.part in
    let e3 : r.counts ≡ s.counts =
    ext_get_or 0 r.counts s.counts (p.four ∙ sym q.four)
    (λ i l. sym (p.counts i (omega (arith, p.four))) ∙ q.counts i (omega (arith, p.four))) in
    let n : known r.note ≡ known s.note = sym (note_said p.note) ∙ note_said q.note in
    let e4 : r.note ≡ s.note = cc in
    λ i. loader_of (e0 i) (e1 i) (e2 i) (e3 i) (e4 i)

-- And a loader is one list of words.
one_list : {v w : List ℕ} → OfLength 8 v → OfLength 8 w → {r : Loader} → LoaderWords v r → LoaderWords w r → v ≡ w
one_list (one a (one b (one c (one d (one e (one f (one g (one h end))))))))
    (one a' (one b' (one c' (one d' (one e' (one f' (one g' (one h' end)))))))) p q =
    let e0 : a ≡ a' = p.section ∙ sym q.section in
    let e1 : b ≡ b' = p.at ∙ sym q.at in
    let e2 : c ≡ c' = p.part ∙ sym q.part in
    let e3 : d ≡ d' = p.counts 0 (omega arith) ∙ sym (q.counts 0 (omega arith)) in
    let e4 : e ≡ e' = p.counts 1 (omega arith) ∙ sym (q.counts 1 (omega arith)) in
    let e5 : f ≡ f' = p.counts 2 (omega arith) ∙ sym (q.counts 2 (omega arith)) in
    let e6 : g ≡ g' = p.counts 3 (omega arith) ∙ sym (q.counts 3 (omega arith)) in
    let e7 : h ≡ h' = one_note p.note q.note in
    λ i. e0 i ∷ e1 i ∷ e2 i ∷ e3 i ∷ e4 i ∷ e5 i ∷ e6 i ∷ e7 i ∷ []

pub loader_one : (v w : List ℕ) (r : Loader) → LoaderWords v r → LoaderWords w r → v ≡ w
loader_one v w r p q = one_list (H.long v p.eight) (H.long w q.eight) p q

-- The words say the loader that they are, or none.
pub data SaidIn (w : List ℕ) : Type 0 where
  says : (r : Loader) → loader_in w ≡ saying_loader r → LoaderWords w r → SaidIn w
  none : loader_in w ≡ saying_no_loader → ((r : Loader) → LoaderWords w r → ⊥) → SaidIn w

loader_read : {w : List ℕ} → OfLength 8 w → (n : Note) → NoteTold LoaderAnswer n (get_or w 7 0) → load_note_at (get_or w 7 0) ≡ known n
    → SaidIn w
unfolding loader_in
loader_read (one a (one b (one c (one d (one e (one f (one g (one h end)))))))) n t k =
    says (loader_of a b c (d ∷ (e ∷ (f ∷ (g ∷ [])))) n) (rw k)
    (record {
      eight = refl;
      section = refl;
      at = refl;
      part = refl;
      four = refl;
      counts = by_four (λ (s : ℕ). ◌≡◌ {A = ℕ} _ _) refl refl refl refl;
      note = t;
    })

pub said_in : (w : List ℕ) → SaidIn w
unfolding loader_in
said_in w = go (ℕ_discrete (length w) 8) (load_note_at (get_or w 7 0)) refl
  where
    go : Dec (length w ≡ 8) → (n : NoteSaid) → load_note_at (get_or w 7 0) ≡ n → SaidIn w
    go (no d) n e = none (rw (ne_eqb (length w) 8 d)) (λ r h. d h.eight)
    go (yes l) unknown e =
        none (rw (eq-eqb (length w) 8 l, e))
        (λ r h. (let q = note_said h.note in let z : ◌≡◌ {A = ℕ} 0 1 = cc in omega arith))
    go (yes l) (known n) e = loader_read (H.long w l) n (said_note e) e

pub loader_words_lem : (w : List ℕ) (r : Loader) → (loader_in w ≡ saying_loader r) ↔ LoaderWords w r
loader_words_lem w r = go (said_in w)
  where
    go : SaidIn w → (loader_in w ≡ saying_loader r) ↔ LoaderWords w r
    go (says s e h) = (
      λ f. (let q : saying_loader s ≡ saying_loader r = sym e ∙ f in let z : s ≡ r = cc in subst (LoaderWords w) z h),
      λ g. e ∙ ap saying_loader (one_loader h g),
    )
    go (none e n) = (
      λ f. (let q : saying_no_loader ≡ saying_loader r = sym e ∙ f in let z : ◌≡◌ {A = ℕ} 0 1 = cc in absurd (omega arith)),
      λ g. absurd (n r g),
    )
