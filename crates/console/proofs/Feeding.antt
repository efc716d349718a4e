-- Every claim of `Feeding` holds: what a call returns and leaves is read back off its outcome, field by field.
use mathlib.Core.Path.{◌≡◌, refl, ap, sym, ◌∙◌}
use Prim.Native.Nat.{ℕ}
use lib.Dec.{eqb}
use Rattle.std.specs.Prelude.{Result, Ok, Err, ⊤}
use Rattle.slots.specs.Words.{pick}
use Rattle.slots.specs.Coded.{told_by, done, unfit_told}
use Rattle.slots.proofs.Laws.{told_apart}
use Rattle.slots.specs.declared.answer.Unfit.{Unfit}
use Rattle.script_rules.specs.Feeding.{Line as Held, Fed as Outcome}
use Rattle.console.specs.Meanings.{fed_of}
use Rattle.console.specs.Feeding.{FeedCall, index_of, Feeding}
use Rattle.console.specs.declared.feed.Line.{Line}

abbrev line_back : Held → Line
line_back l = record { bytes = l.bytes; count = l.count }

abbrev answer_back : ℕ → Result ⊤ Unfit
answer_back number = pick (eqb number 0) (Ok tt) (Err (record {}))

abbrev back : Outcome → FeedCall
back o = record {
  fed = record { answer = answer_back o.number; line = line_back o.desk.line; taken = o.taken; written = o.desk.paper.at };
  names = o.desk.index.live.names;
  cells = o.desk.index.live.cells;
  head = o.desk.index.live.head;
  sizes = o.desk.index.live.sizes;
  lines = o.desk.index.lines;
  out = o.desk.paper.bytes;
}

answer_back_lem : (r : Result ⊤ Unfit) → answer_back (told_by done unfit_told r).number ≡ r
answer_back_lem (Ok made) = refl
answer_back_lem (Err unfit) = refl

back_lem : (c : FeedCall) → back (fed_of c.fed (index_of c) c.out) ≡ c
back_lem c = λ i. record {
  fed = record { answer = answer_back_lem c.fed.answer i; line = c.fed.line; taken = c.fed.taken; written = c.fed.written };
  names = c.names;
  cells = c.cells;
  head = c.head;
  sizes = c.sizes;
  lines = c.lines;
  out = c.out;
}

one : {o : Outcome} (a b : FeedCall) → fed_of a.fed (index_of a) a.out ≡ o → fed_of b.fed (index_of b) b.out ≡ o → a ≡ b
one = λ a b e f. told_apart (λ c. fed_of c.fed (index_of c) c.out) back back_lem a b (e ∙ sym f)

pub feeding : Feeding
feeding =
    record {
      blank_one = λ a b e f. ap line_back (e ∙ sym f);
      feed_one = λ chunk d. one;
      finish_one = λ d. one;
      receipt_one = λ number t p a b e f. e ∙ sym f;
    }
