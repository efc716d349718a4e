-- Every claim of the crate holds: an answer of a move is read back off its number and value.
use mathlib.Core.Path.{◌≡◌, refl, ap, sym, ◌∙◌}
use Prim.Native.Nat.{ℕ}
use lib.Dec.{eqb}
use Rattle.std.specs.Prelude.{Result, Ok, Err}
use Rattle.slots.specs.Words.{pick}
use Rattle.slots.specs.Answers.{Value, some, none}
use Rattle.slots.proofs.Claims.{answer_one_to_one}
use Rattle.slots.proofs.Laws.{told_apart}
use Rattle.set_rules.specs.Words.{Set, lent_set}
use Rattle.move_rules.specs.Moving.{MoveOutcome, move_outcome}
use Rattle.move_rules.specs.Finishing.{Finish}
use Rattle.mover.specs.Moved.{move_of}
use Rattle.mover.specs.Finished.{finish_of}
use Rattle.mover.specs.declared.moving.MoveRefusal.{MoveRefusal}
use Rattle.mover.specs.declared.moving.MoveRefusal.TheVariants.{Unfit, Unknown, Damaged, CannotMove, Full}
use Rattle.mover.specs.declared.finishing.Stop.{Stop}
use Rattle.mover.specs.Claims.{MoveReturned, FinishReturned, Claims}

abbrev refusal_back : ℕ → MoveRefusal
refusal_back number =
    pick (eqb number 1) Unfit (pick (eqb number 10) Unknown (pick (eqb number 2) Damaged (pick (eqb number 16) CannotMove Full)))

abbrev move_back : ℕ → Value → Result ℕ MoveRefusal
move_back number (some value) = Ok value
move_back number none = Err (refusal_back number)

move_back_lem : (r : Result ℕ MoveRefusal) → move_back (move_of r).number (move_of r).value ≡ r
move_back_lem (Ok entries) = refl
move_back_lem (Err Unfit) = refl
move_back_lem (Err Unknown) = refl
move_back_lem (Err Damaged) = refl
move_back_lem (Err CannotMove) = refl
move_back_lem (Err Full) = refl

one_to_one : (a b : Result ℕ MoveRefusal) → move_of a ≡ move_of b → a ≡ b
one_to_one = told_apart move_of (λ a. move_back a.number a.value) move_back_lem

abbrev left : Set → MoveReturned → MoveOutcome
left s r = move_outcome (move_of r.reply) (lent_set s.lengths r.bins r.heads s.names r.cells)

returned_one : (s : Set) (a b : MoveReturned) → left s a ≡ left s b → a ≡ b
returned_one s a b e =
    let r = one_to_one a.reply b.reply (ap (λ (x : MoveOutcome). x.answer) e) in
    let w = ap (λ (x : MoveOutcome). x.set) e in
    λ i. record { reply = r i; bins = (w i).bins; heads = (w i).heads; cells = (w i).cells }

abbrev told_back : Finish → Result ℕ Stop
told_back f =
    pick (eqb f.number 0) (Ok f.gone)
    (Err record { refusal = refusal_back f.number; table = f.table; bin = f.bin; gone = f.gone })

told_back_lem : (s : Set) (r : Result ℕ Stop) → told_back (finish_of r s) ≡ r
told_back_lem s (Ok gone) = refl
told_back_lem s (Err stop) = go stop.refusal stop.table stop.bin stop.gone
  where
    go : (q : MoveRefusal) (k i gone : ℕ)
        → told_back (finish_of (Err record { refusal = q; table = k; bin = i; gone = gone }) s)
        ≡ Err record { refusal = q; table = k; bin = i; gone = gone }
    go Unfit k i gone = refl
    go Unknown k i gone = refl
    go Damaged k i gone = refl
    go CannotMove k i gone = refl
    go Full k i gone = refl

abbrev done : Set → FinishReturned → Finish
done s r = finish_of r.told (lent_set s.lengths r.bins r.heads s.names r.cells)

set-of : (r : Result ℕ Stop) (s : Set) → (finish_of r s).set ≡ s
set-of (Ok gone) s = refl
set-of (Err stop) s = refl

finished_one : (s : Set) (a b : FinishReturned) → done s a ≡ done s b → a ≡ b
finished_one s a b e =
    let t = sym (told_back_lem _ a.told) ∙ ap told_back e ∙ told_back_lem _ b.told in
    let w = sym (set-of a.told _) ∙ ap (λ (f : Finish). f.set) e ∙ set-of b.told _ in
    λ i. record { told = t i; bins = (w i).bins; heads = (w i).heads; cells = (w i).cells }

pub claims : Claims
claims =
    record {
      move_reply_one_to_one = one_to_one;
      answer_one = λ _ a b p q. answer_one_to_one a b (p ∙ sym q);
      move_bin_one = λ s table bin a b p q. returned_one s a b (p ∙ sym q);
      finish_one = λ s a b p q. finished_one s a b (p ∙ sym q);
    }
