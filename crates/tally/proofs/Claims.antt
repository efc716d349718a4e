-- Every claim of the crate holds: what a call returns and leaves is read back off its outcome.
use mathlib.Core.Path.{◌≡◌, refl, ap, sym, ◌∙◌}
use mathlib.Core.List.{List, []}
use mathlib.Core.Bool.{Bool, true, false}
use Rattle.std.specs.Prelude.{Result, Ok, Err}
use Prim.Native.Nat.{ℕ}
use native.Mathlib.Omega.{arith}
use lib.Dec.{eqb}
use Rattle.slots.specs.Words.{pick}
use Rattle.slots.specs.Answers.{Value, some, none}
use Rattle.slots.proofs.Claims.{answer_one_to_one}
use Rattle.slots.proofs.Laws.{told_apart}
use Rattle.script_rules.specs.Feeding.{lent_paper}
use Rattle.script_rules.proofs.Room.{typed_whole}
use Rattle.set_rules.specs.Words.{Set, lent_set}
use Rattle.file.proofs.Claims as file-claims
use Rattle.figure_rules.specs.Tally.{TallyOutcome, tally_outcome}
use Rattle.figure_rules.specs.Stream.{Stream as Model}
use Rattle.figure_rules.specs.Pieces.{StreamOutcome}
use Rattle.figure_rules.specs.Printed.{figures_text}
use Rattle.figure_rules.proofs.Claims as figure-rules
use Rattle.tally.specs.Replies.{tally_of}
use Rattle.tally.specs.Meanings.{stream_reply_of, stream_of, figured_of}
use Rattle.slots.specs.declared.answer.Unfit.{Unfit}
use Rattle.tally.specs.declared.tally.TallyRefusal.{TallyRefusal}
use Rattle.tally.specs.declared.tally.TallyRefusal.TheVariants.{Unfit as NotFit, TooMany}
use Rattle.tally.specs.declared.stream.Stream.{Stream}
use Rattle.tally.specs.declared.figure.Figured.{Figured}
use Rattle.tally.specs.Claims.{TallyReturned, FiguredReturned, returned_by, EndReturned, Claims}

abbrev tally_back : ℕ → Value → Result Bool TallyRefusal
tally_back number (some value) = Ok (eqb value 1)
tally_back number none = Err (pick (eqb number 1) NotFit TooMany)

tally_back_lem : (r : Result Bool TallyRefusal) → tally_back (tally_of r).number (tally_of r).value ≡ r
tally_back_lem (Ok true) = refl
tally_back_lem (Ok false) = refl
tally_back_lem (Err NotFit) = refl
tally_back_lem (Err TooMany) = refl

one_to_one : (a b : Result Bool TallyRefusal) → tally_of a ≡ tally_of b → a ≡ b
one_to_one = told_apart tally_of (λ a. tally_back a.number a.value) tally_back_lem

returned_one : (a b : TallyReturned) → tally_outcome (tally_of a.reply) a.totals ≡ tally_outcome (tally_of b.reply) b.totals → a ≡ b
returned_one a b e =
    let r = one_to_one a.reply b.reply (ap (λ (x : TallyOutcome). x.answer) e) in
    let t = ap (λ (x : TallyOutcome). x.totals) e in
    λ i. record { reply = r i; totals = t i }

-- A stream, by its words and its loader's.
stream_apart : (a b : Stream) (s u : Set) (t v : List ℕ) → stream_of a s t ≡ stream_of b u v → a ≡ b
stream_apart a b s u t v e =
    let l = (file-claims.claims).loader_one_to_one a.loader b.loader (ap (λ (d : Model). d.loads.loader) e) in
    λ i. record { got = (e i).got; left = (e i).left; loader = l i; over = (e i).figured.over }

abbrev reply_back : ℕ → Value → Result ℕ Unfit
reply_back number (some value) = Ok value
reply_back number none = Err (record {})

reply_back_lem : (r : Result ℕ Unfit) → reply_back (stream_reply_of r).number (stream_reply_of r).value ≡ r
reply_back_lem (Ok sets) = refl
reply_back_lem (Err unfit) = refl

reply_one : (a b : Result ℕ Unfit) → stream_reply_of a ≡ stream_reply_of b → a ≡ b
reply_one = told_apart stream_reply_of (λ a. reply_back a.number a.value) reply_back_lem

figured_one : (a b : Figured) (s u : Set) (t v : List ℕ) → figured_of a s t ≡ figured_of b u v → a ≡ b
figured_one a b s u t v e =
    let r = reply_one a.reply b.reply (ap (λ (o : StreamOutcome). o.answer) e) in
    let d = stream_apart a.stream b.stream s u t v (ap (λ (o : StreamOutcome). o.left) e) in
    λ i. record { reply = r i; stream = d i }

chunk_one : (a b : FiguredReturned) → returned_by figured_of a ≡ returned_by figured_of b → a ≡ b
chunk_one a b e =
    let f = figured_one a.figured b.figured _ _ _ _ e in
    λ i.
    record {
      figured = f i;
      lengths = (e i).left.loads.set.lengths;
      bins = (e i).left.loads.set.bins;
      heads = (e i).left.loads.set.heads;
      names = (e i).left.loads.set.names;
      cells = (e i).left.loads.set.cells;
      totals = (e i).left.figured.totals;
    }

end_one : (a b : EndReturned)
    → figured_of a.figured (lent_set [] [] [] [] []) a.totals ≡ figured_of b.figured (lent_set [] [] [] [] []) b.totals
    → a ≡ b
end_one a b e =
    let f = figured_one a.figured b.figured _ _ _ _ e in λ i. record { figured = f i; totals = (e i).left.figured.totals }

pub claims : Claims
claims =
    record {
      tally_reply_one_to_one = one_to_one;
      answer_one = λ _ a b p q. answer_one_to_one a b (p ∙ sym q);
      tally_one = λ s totals a b p q. returned_one a b (p ∙ sym q);
      stream_reply_one_to_one = reply_one;
      stream_one_to_one = λ a b s t e. stream_apart a b s s t t e;
      start_one = λ a b p q. stream_apart a b _ _ _ _ (p ∙ sym q);
      chunk_one = λ d piece a b p q. chunk_one a b (p ∙ sym q);
      end_one = λ d a b p q. end_one a b (p ∙ sym q);
      tell_one = λ f out a b p q. p ∙ sym q;
      whole = λ f out h. (typed_whole (lent_paper out 0) (figures_text f) (omega (arith, (figure-rules.claims).room f))).behind;
    }
