-- A noted answer in a word, whichever answers may be noted: a note that can be said has a word that tells it, and one word.
use Prim.{Unit}
use mathlib.Core.Path.{◌≡◌, refl, ap, subst}
use mathlib.Core.Logic.{◌≢◌}
use mathlib.Core.Bool.{true}
use Prim.Native.Nat.{ℕ, ◌+◌, ◌-◌, ◌/◌, ◌%◌}
use native.Mathlib.Omega.{arith}
use lib.Dec.{eqb}
use borrow.Author.Tests.{eqb-true}
use Rattle.slots.specs.Words.{pick}
use Rattle.slots.specs.Answers.{Answer, refused, answer_word}
use Rattle.upload_rules.specs.Reader.{Note, unsaid, said}
use Rattle.upload_rules.specs.Notes.{NoteSaid, known, unknown, note_word}
use Rattle.word_rules.specs.Told.{WordTells}
use Rattle.word_rules.specs.Lent.{NoteTold, nothing as unnoted, noted}
use Rattle.word_rules.proofs.Telling.{one_word, plain_number, plainly}
use Rattle.word_rules.proofs.Answering.{picked}

-- What a word says is told by it.
abbrev pub SaidBy : (Answer → Type 0) → ℕ → NoteSaid → Type 0
SaidBy Says w (known n) = NoteTold Says n w
SaidBy Says w unknown = Unit

pub up : {Says : Answer → Type 0} {n : Note} (w : ℕ) → w ≢ 0 → NoteTold Says n (1 + (w - 1)) → NoteTold Says n w
up {Says} {n} w s t = let e : 1 + (w - 1) ≡ w = omega arith in subst (NoteTold Says n) e t

-- A refusal that has no value with it.
pub plain_by : (Says : Answer → Type 0) (w : ℕ) → w ≢ 0 → (k : ℕ) (rest : NoteSaid) → Says (refused k) → plain_number k ≡ true
    → (w - 1) % 4294967296 ≡ 0 → SaidBy Says w rest
    → SaidBy Says w (pick (eqb ((w - 1) / 4294967296) k) (known (said (refused k))) rest)
plain_by Says w s k rest a p v r =
    picked (SaidBy Says w) (eqb ((w - 1) / 4294967296) k)
    (λ e. up w s (noted a
    (record { beside = 0; valued = plainly k p; number = eqb-true ((w - 1) / 4294967296) k e; value = v }))) (λ e. r)

-- A note has one word.
pub one_note : {Says : Answer → Type 0} {n : Note} {v w : ℕ} → NoteTold Says n v → NoteTold Says n w → v ≡ w
one_note unnoted unnoted = refl
one_note (noted a t) (noted b u) = ap (λ (x : ℕ). 1 + x) (one_word t u)

-- A note that a word can say.
pub data Sayable (Says : Answer → Type 0) : Note → Type 0 where
  silent : Sayable Says unsaid
  spoken : {a : Answer} → Says a → Sayable Says (said a)

module _ {Says : Answer → Type 0} where
  pub told_sayable : {n : Note} {w : ℕ} → NoteTold Says n w → Sayable Says n
  told_sayable unnoted = silent
  told_sayable (noted a t) = spoken a

  pub spoken_answer : {a : Answer} → Sayable Says (said a) → Says a
  spoken_answer (spoken r) = r

  pub note_written : ((a : Answer) → Says a → WordTells 4294967296 a (answer_word a)) → {n : Note} → Sayable Says n
      → NoteTold Says n (note_word n)
  unfolding note_word
  note_written f silent = unnoted
  note_written f (spoken {a} r) = noted r (f a r)
