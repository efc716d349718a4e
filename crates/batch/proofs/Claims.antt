-- Every claim of the crate holds: an answer is read back off its number and value, and the slices are those of the one outcome.
use mathlib.Core.Path.{◌≡◌, refl, ap, sym, ◌∙◌}
use mathlib.Core.List.{List}
use Prim.Native.Nat.{ℕ}
use Rattle.std.specs.Prelude.{Result, Ok, Err}
use lib.Dec.{eqb}
use Rattle.slots.specs.Words.{pick}
use Rattle.slots.specs.Answers.{Value, some, none}
use Rattle.slots.proofs.Claims.{answer_one_to_one}
use Rattle.slots.proofs.Laws.{told_apart}
use Rattle.index_rules.specs.Batch.{Batched}
use Rattle.batch.specs.Calls.{batch_of}
use Rattle.batch.specs.Claims.{BatchReturned, returned_with, Claims}
use Rattle.slots.specs.declared.answer.Unsound.{Unsound}
use Rattle.slots.specs.declared.answer.Unsound.TheVariants.{Unfit, Damaged}

abbrev batch_back : ℕ → Value → Result ℕ Unsound
batch_back number (some count) = Ok count
batch_back number none = Err (pick (eqb number 1) Unfit Damaged)

batch_back_lem : (r : Result ℕ Unsound) → batch_back (batch_of r).number (batch_of r).value ≡ r
batch_back_lem (Ok count) = refl
batch_back_lem (Err Unfit) = refl
batch_back_lem (Err Damaged) = refl

batch_one_to_one : (a b : Result ℕ Unsound) → batch_of a ≡ batch_of b → a ≡ b
batch_one_to_one = told_apart batch_of (λ a. batch_back a.number a.value) batch_back_lem

same : {a b : Result ℕ Unsound} {n c h s l w n' c' h' s' l' w' : List ℕ} → a ≡ b → n ≡ n' → c ≡ c' → h ≡ h' → s ≡ s' → l ≡ l' → w ≡ w'
    → ◌≡◌ {A = BatchReturned} (record { answer = a; names = n; cells = c; head = h; sizes = s; lines = l; answers = w })
    (record { answer = b; names = n'; cells = c'; head = h'; sizes = s'; lines = l'; answers = w' })
same e1 e2 e3 e4 e5 e6 e7 = rw (e1, e2, e3, e4, e5, e6, e7)

one : (o : Batched) (c d : BatchReturned) → returned_with batch_of c ≡ o → returned_with batch_of d ≡ o → c ≡ d
one o c d p q =
    let e = p ∙ sym q in
    same
    (batch_one_to_one c.answer d.answer (ap (λ (w : Batched). w.answer) e))
    (ap (λ (w : Batched). w.left.live.names) e)
    (ap (λ (w : Batched). w.left.live.cells) e)
    (ap (λ (w : Batched). w.left.live.head) e)
    (ap (λ (w : Batched). w.left.live.sizes) e)
    (ap (λ (w : Batched). w.left.lines) e)
    (ap (λ (w : Batched). w.answers) e)

pub claims : Claims
claims =
    record {
      batch_one_to_one = batch_one_to_one;
      batch_one = λ ix calls answers c d. one _ c d;
      answer_one = λ _ a b e f. answer_one_to_one a b (e ∙ sym f);
    }
