-- The word of a note and the note of a word, on plain values: the tests that led there settle those of the model.
use Prim.{Unit, tt}
use Rattle.std.specs.Prelude.{Option, None, Some, Ok, Err}
use Rattle.std.specs.Option.{unwrap_or}
use mathlib.Core.Path.{◌≡◌, refl, ap, sym, ◌∙◌, subst}
use mathlib.Core.Logic.{◌≢◌}
use Prim.Native.Nat.{ℕ, ◌+◌, ◌-◌, ◌*◌, ◌/◌, ◌%◌, ◌<◌}
use native.Mathlib.Omega.{arith}
use lib.Dec.{eqb}
use borrow.Author.Tests.{eq-eqb, ne_eqb, eqb-true, eqb-false}
use Rattle.slots.specs.Words.{pick}
use Rattle.slots.specs.Answers.{Answer, Value, some, none, given, refused, answer_word, value_beside}
use Rattle.slots.specs.Coded.{value_of}
use Rattle.slots.proofs.Laws.{number, value}
use Rattle.upload_rules.specs.Reader.{Note as Noting, unsaid, said}
use Rattle.upload_rules.proofs.Ranges.{pick_by}
use Rattle.reader.specs.Meanings.{Reply, reply_of}
use Rattle.reader.specs.Notes.{plain_at, note_with, note_at}
use Rattle.upload_rules.specs.Notes.{NoteSaid, known, unknown, note_word}
use Rattle.reader.specs.declared.reply.ReadRefusal.TheVariants.{Unfit, Damaged, Present, Full, JournalFull, BadMark, Misfit, Short}
use Rattle.reader.specs.declared.reply.ReadRefusal.TheVariants.{Long, WrongKind}

pub at_unsaid : (w : ℕ) → w ≡ 0 → known unsaid ≡ note_at w
unfolding note_at
at_unsaid w e = rw (eq-eqb w 0 e)

-- A word that says something.
module _ (w : ℕ) (s : w ≢ 0) where
  at_with : (number value : ℕ) → (w - 1) / 4294967296 ≡ number → (w - 1) % 4294967296 ≡ value → note_with number value ≡ note_at w
  unfolding note_at
  at_with number value e f = rw (ne_eqb w 0 s, e, f)

  pub at-given : {n : NoteSaid} → (w - 1) / 4294967296 ≡ 0 → n ≡ known (said (given ((w - 1) % 4294967296))) → n ≡ note_at w
  unfolding note_with
  at-given e f = f ∙ at_with 0 _ e refl

  pub at_present : {n : NoteSaid} → (w - 1) / 4294967296 ≡ 3
      → n ≡ known (said (record { number = 3; value = some ((w - 1) % 4294967296) })) → n ≡ note_at w
  unfolding note_with
  at_present e f = f ∙ at_with 3 _ e refl

  module _ (n0 : (w - 1) / 4294967296 ≢ 0) (n3 : (w - 1) / 4294967296 ≢ 3) where
    pub at_plain : {n : NoteSaid} → (w - 1) % 4294967296 ≡ 0 → n ≡ plain_at ((w - 1) / 4294967296) → n ≡ note_at w
    unfolding note_with
    at_plain v f =
        let z : plain_at ((w - 1) / 4294967296) ≡ note_with ((w - 1) / 4294967296) ((w - 1) % 4294967296) =
        rw (ne_eqb ((w - 1) / 4294967296) 0 n0, ne_eqb ((w - 1) / 4294967296) 3 n3, eq-eqb ((w - 1) % 4294967296) 0 v) in
        f ∙ z ∙ at_with _ _ refl refl

-- The number of a reply, and the word of the answer that it is.
abbrev told : Value → ℕ
told (some v) = 1
told none = 0

module _ (reply : Reply) {a : Answer} (e : a ≡ reply_of reply) where
  pub word_some : {v : ℕ} → a.value ≡ some v → 1 + (v + 4294967296 * a.number) ≡ 1 + answer_word (reply_of reply)
  unfolding answer_word
  word_some f = rw (← e, f)

  pub word_none : a.value ≡ none → 1 + (0 + 4294967296 * a.number) ≡ 1 + answer_word (reply_of reply)
  unfolding answer_word
  word_none f = rw (← e, f, ne_eqb a.number 0 (λ z. go reply (sym (value e) ∙ f) (sym (number e) ∙ z)))
    where
      go : (r : Reply) → (reply_of r).value ≡ none → (reply_of r).number ≢ 0
      go (Ok v) g z = omega (arith, ap told g)
      go (Err (Present v)) g z = omega arith
      go (Err Unfit) g z = omega arith
      go (Err Damaged) g z = omega arith
      go (Err Full) g z = omega arith
      go (Err JournalFull) g z = omega arith
      go (Err BadMark) g z = omega arith
      go (Err Misfit) g z = omega arith
      go (Err Short) g z = omega arith
      go (Err Long) g z = omega arith
      go (Err WrongKind) g z = omega arith

pub word_packed : (reply : Reply) (n : ℕ) (o : Option ℕ) → ◌≡◌ {A = Answer} (record { number = n; value = value_of o }) (reply_of reply)
    → 1 + (unwrap_or o 0 + 4294967296 * n) ≡ 1 + answer_word (reply_of reply)
word_packed reply n (Some v) e = word_some reply e refl
word_packed reply n None e = word_none reply e refl

-- What a noted answer's word says is that answer.
pub word_back : (reply : Reply) → value_beside 0 (reply_of reply).number (reply_of reply).value < 4294967296
    → note_at (note_word (said (reply_of reply))) ≡ known (said (reply_of reply))
unfolding note_at note_with plain_at note_word answer_word
word_back (Ok v) l =
    sym (at-given (1 + (v + 4294967296 * 0)) (λ z. omega arith) (omega arith) (ap (λ (x : ℕ). known (said (given x))) (omega arith)))
word_back (Err (Present v)) l =
    sym (at_present (1 + (v + 4294967296 * 3)) (λ z. omega arith) (omega arith)
    (ap (λ (x : ℕ). known (said (record { number = 3; value = some x }))) (omega arith)))
word_back (Err Unfit) l = refl
word_back (Err Damaged) l = refl
word_back (Err Full) l = refl
word_back (Err JournalFull) l = refl
word_back (Err BadMark) l = refl
word_back (Err Misfit) l = refl
word_back (Err Short) l = refl
word_back (Err Long) l = refl
word_back (Err WrongKind) l = refl

-- What a word is known to say has this word.
abbrev Has : ℕ → NoteSaid → Type 0
Has w (known n) = note_word n ≡ w
Has w unknown = Unit

module _ (w : ℕ) (s : w ≢ 0) where
  -- A refusal that has no value with it.
  plain_has : (k : ℕ) (rest : NoteSaid) → (w - 1) % 4294967296 ≡ 0 → k ≢ 0 → Has w rest
      → Has w (pick (eqb ((w - 1) / 4294967296) k) (known (said (refused k))) rest)
  unfolding note_word answer_word
  plain_has k rest v l r =
      pick_by (Has w) (eqb ((w - 1) / 4294967296) k) _ _
      (λ e. let z = eqb-true ((w - 1) / 4294967296) k e in rw (ne_eqb k 0 l) (omega arith)) (λ e. r)

  with_has : Has w (note_with ((w - 1) / 4294967296) ((w - 1) % 4294967296))
  unfolding note_with plain_at note_word answer_word
  with_has =
      pick_by (Has w) (eqb ((w - 1) / 4294967296) 0) _ _ (λ e. let z = eqb-true ((w - 1) / 4294967296) 0 e in omega arith)
      (λ n0. pick_by (Has w) (eqb ((w - 1) / 4294967296) 3) _ _ (λ e. let z = eqb-true ((w - 1) / 4294967296) 3 e in omega arith)
      (λ n3. pick_by (Has w) (eqb ((w - 1) % 4294967296) 0) _ _
      (λ e.
      let v = eqb-true ((w - 1) % 4294967296) 0 e in
      plain_has 1 _ v (λ z. omega arith)
      (plain_has 2 _ v (λ z. omega arith)
      (plain_has 5 _ v (λ z. omega arith)
      (plain_has 6 _ v (λ z. omega arith)
      (plain_has 7 _ v (λ z. omega arith)
      (plain_has 8 _ v (λ z. omega arith)
      (plain_has 12 _ v (λ z. omega arith) (plain_has 13 _ v (λ z. omega arith) (plain_has 18 _ v (λ z. omega arith) tt)))))))))
      (λ e. tt)))

at_has : (w : ℕ) → Has w (note_at w)
unfolding note_at note_word
at_has w = pick_by (Has w) (eqb w 0) _ _ (λ e. sym (eqb-true w 0 e)) (λ f. with_has w (eqb-false w 0 f))

pub said_back : (w : ℕ) (n : Noting) → note_at w ≡ known n → note_word n ≡ w
said_back w n e = subst (Has w) e (at_has w)
