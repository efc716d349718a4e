-- The word of a note and the note of a word, on plain values: the tests that led there settle those of the model.
use Prim.{Unit, tt}
use mathlib.Core.Path.{◌≡◌, refl, ap, sym, ◌∙◌, subst}
use mathlib.Core.Logic.{◌≢◌}
use mathlib.Core.Bool.{Bool, true, false}
use Rattle.std.specs.Prelude.{Option, None, Some, unwrap_or, Result, Ok, Err}
use Prim.Native.Nat.{ℕ, ◌+◌, ◌-◌, ◌*◌, ◌/◌, ◌%◌, ◌<◌, ◌≤◌}
use native.Mathlib.Omega.{arith}
use lib.Dec.{eqb}
use borrow.Author.Tests.{eq-eqb, ne_eqb, eqb-true, eqb-false}
use Rattle.slots.specs.Words.{pick}
use Rattle.slots.specs.Answers.{given, refused, answer_word, word_of, value_beside}
use Rattle.slots.specs.Coded.{value_of, answer_of}
use Rattle.slots.specs.declared.answer.Answer.{Answer as AnswerCode}
use Rattle.slots.proofs.Laws.{number}
use Rattle.upload_rules.specs.Reader.{Note, unsaid, said}
use Rattle.upload_rules.specs.Notes.{NoteSaid, known, unknown, note_word}
use Rattle.upload_rules.proofs.Ranges.{pick_by}
use Rattle.file.specs.Meanings.{load_reply_of, load_note_of}
use Rattle.file.specs.Notes.{load_note_with, load_note_at}
use Rattle.file.specs.declared.reply.LoadRefusal.{LoadRefusal}
use Rattle.file.specs.declared.reply.LoadRefusal.TheVariants.{Unfit, Damaged, Short, Long, OverLimit}

pick_same : (b : Bool) (v : ℕ) → pick b v v ≡ v
pick_same true v = refl
pick_same false v = refl

-- A reply's number and value.
few : (r : Result ℕ LoadRefusal) → (load_reply_of r).number ≤ 14
few (Ok v) = omega arith
few (Err Unfit) = omega arith
few (Err Damaged) = omega arith
few (Err Short) = omega arith
few (Err Long) = omega arith
few (Err OverLimit) = omega arith

own_word : (r : Result ℕ LoadRefusal) → word_of 0 (load_reply_of r) ≡ answer_word (load_reply_of r)
unfolding answer_word
own_word (Ok v) = refl
own_word (Err Unfit) = refl
own_word (Err Damaged) = refl
own_word (Err Short) = refl
own_word (Err Long) = refl
own_word (Err OverLimit) = refl

beside : (n : ℕ) (o : Option ℕ) → unwrap_or o 0 ≡ value_beside 0 n (value_of o)
beside n None = sym (pick_same (eqb n 0) 0)
beside n (Some v) = refl

pub said_few : (r : Result ℕ LoadRefusal) (a : AnswerCode) → answer_of a ≡ load_reply_of r → a.number ≤ 14
said_few r a e = let f = number e in omega (arith, few r)

pub said_word : {n : Option (Result ℕ LoadRefusal)} {r : Result ℕ LoadRefusal} (a : AnswerCode) {w : ℕ} → n ≡ Some r
    → answer_of a ≡ load_reply_of r
    → w ≡ unwrap_or a.value 0 + 4294967296 * a.number
    → 1 + w ≡ note_word (load_note_of n)
unfolding note_word
said_word {r = r} a d e f =
    ap (λ (x : ℕ). 1 + x) (f ∙ ap (λ (x : ℕ). x + 4294967296 * a.number) (beside a.number a.value) ∙ ap (word_of 0) e ∙ own_word r)
    ∙ rw d

pub unsaid_word : {n : Option (Result ℕ LoadRefusal)} → n ≡ None → 0 ≡ note_word (load_note_of n)
unfolding note_word
unsaid_word e = rw e

pub at_unsaid : (w : ℕ) → w ≡ 0 → known unsaid ≡ load_note_at w
unfolding load_note_at
at_unsaid w e = rw (eq-eqb w 0 e)

-- A word that says something.
module _ (w : ℕ) (s : w ≢ 0) where
  at_with : (number value : ℕ) → (w - 1) / 4294967296 ≡ number → (w - 1) % 4294967296 ≡ value → load_note_with number value ≡ load_note_at w
  unfolding load_note_at
  at_with number value e f = rw (ne_eqb w 0 s, e, f)

  pub at-given : {n : NoteSaid} → (w - 1) / 4294967296 ≡ 0 → n ≡ known (said (given ((w - 1) % 4294967296))) → n ≡ load_note_at w
  unfolding load_note_with
  at-given e f = f ∙ at_with 0 _ e refl

  module _ (n0 : (w - 1) / 4294967296 ≢ 0) where
    pub at_unknown : (w - 1) % 4294967296 ≢ 0 → unknown ≡ load_note_at w
    unfolding load_note_with
    at_unknown v =
        let z : unknown ≡ load_note_with ((w - 1) / 4294967296) ((w - 1) % 4294967296) =
        rw (ne_eqb ((w - 1) / 4294967296) 0 n0, ne_eqb ((w - 1) % 4294967296) 0 v) in
        z ∙ at_with _ _ refl refl

    -- A refusal, by its number.
    module _ (v : (w - 1) % 4294967296 ≡ 0) where
      pub at-refused : (k : ℕ) {n : NoteSaid} → (w - 1) / 4294967296 ≡ k → n ≡ load_note_with k 0 → n ≡ load_note_at w
      at-refused k e f = f ∙ at_with k 0 e v

      pub at_other : (w - 1) / 4294967296 ≢ 1 → (w - 1) / 4294967296 ≢ 2 → (w - 1) / 4294967296 ≢ 12 → (w - 1) / 4294967296 ≢ 13
          → (w - 1) / 4294967296 ≢ 14
          → unknown ≡ load_note_at w
      unfolding load_note_with
      at_other n1 n2 n12 n13 n14 =
          let k = (w - 1) / 4294967296 in
          let z : unknown ≡ load_note_with k 0 = rw (
            ne_eqb k 0 n0,
            ne_eqb k 1 n1,
            ne_eqb k 2 n2,
            ne_eqb k 12 n12,
            ne_eqb k 13 n13,
            ne_eqb k 14 n14,
          ) in
          z ∙ at_with k 0 refl v

-- The refusals of the loader.
pub unfit_note : known (said (refused 1)) ≡ load_note_with 1 0
unfolding load_note_with
unfit_note = refl

pub damaged_note : known (said (refused 2)) ≡ load_note_with 2 0
unfolding load_note_with
damaged_note = refl

pub short_note : known (said (refused 12)) ≡ load_note_with 12 0
unfolding load_note_with
short_note = refl

pub long_note : known (said (refused 13)) ≡ load_note_with 13 0
unfolding load_note_with
long_note = refl

pub over_note : known (said (refused 14)) ≡ load_note_with 14 0
unfolding load_note_with
over_note = refl

-- What a noted answer's word says is that answer.
pub load_word_back : (a : Result ℕ LoadRefusal) → value_beside 0 (load_reply_of a).number (load_reply_of a).value < 4294967296
    → load_note_at (note_word (said (load_reply_of a))) ≡ known (said (load_reply_of a))
unfolding load_note_at load_note_with note_word answer_word
load_word_back (Ok v) l =
    sym (at-given (1 + (v + 4294967296 * 0)) (λ z. omega arith) (omega arith) (ap (λ (x : ℕ). known (said (given x))) (omega arith)))
load_word_back (Err Unfit) l = refl
load_word_back (Err Damaged) l = refl
load_word_back (Err Short) l = refl
load_word_back (Err Long) l = refl
load_word_back (Err OverLimit) l = refl

-- What a word is known to say has this word.
abbrev Has : ℕ → NoteSaid → Type 0
Has w (known n) = note_word n ≡ w
Has w unknown = Unit

module _ (w : ℕ) (s : w ≢ 0) where
  plain_has : (k : ℕ) (rest : NoteSaid) → (w - 1) % 4294967296 ≡ 0 → k ≢ 0 → Has w rest
      → Has w (pick (eqb ((w - 1) / 4294967296) k) (known (said (refused k))) rest)
  unfolding note_word answer_word
  plain_has k rest v l r =
      pick_by (Has w) (eqb ((w - 1) / 4294967296) k) _ _
      (λ e. let z = eqb-true ((w - 1) / 4294967296) k e in rw (ne_eqb k 0 l) (omega arith)) (λ e. r)

  with_has : Has w (load_note_with ((w - 1) / 4294967296) ((w - 1) % 4294967296))
  unfolding load_note_with note_word answer_word
  with_has =
      pick_by (Has w) (eqb ((w - 1) / 4294967296) 0) _ _ (λ e. let z = eqb-true ((w - 1) / 4294967296) 0 e in omega arith)
      (λ n0. pick_by (Has w) (eqb ((w - 1) % 4294967296) 0) _ _
      (λ e.
      let v = eqb-true ((w - 1) % 4294967296) 0 e in
      plain_has 1 _ v (λ z. omega arith)
      (plain_has 2 _ v (λ z. omega arith)
      (plain_has 12 _ v (λ z. omega arith) (plain_has 13 _ v (λ z. omega arith) (plain_has 14 _ v (λ z. omega arith) tt)))))
      (λ e. tt))

at_has : (w : ℕ) → Has w (load_note_at w)
unfolding load_note_at note_word
at_has w = pick_by (Has w) (eqb w 0) _ _ (λ e. sym (eqb-true w 0 e)) (λ f. with_has w (eqb-false w 0 f))

pub load_said_back : (w : ℕ) (n : Note) → load_note_at w ≡ known n → note_word n ≡ w
load_said_back w n e = subst (Has w) e (at_has w)
