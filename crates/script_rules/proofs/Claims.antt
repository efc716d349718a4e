-- Every statement of the crate, proved.
use mathlib.Core.Path.{◌≡◌, refl, ap, sym, ◌∙◌}
use mathlib.Core.Logic.{◌≢◌, ◌⊎◌, inl, inr}
use mathlib.Core.List.{List}
use Prim.Native.Nat.{ℕ, ◌<◌, ◌≤◌}
use native.Mathlib.Decide.{dec_lt}
use native.Mathlib.Omega.{arith}
use lib.ListN.{length, length-append}
use borrow.Author.Tests.{lt-ltb, le-ltb}
use Rattle.index_rules.specs.Index.{Index}
use Rattle.script_rules.specs.Commands.{Command, insert, remove, find, rollback, mark, list, bad, meant, spoken}
use Rattle.script_rules.specs.Letters.{text_of, InFields}
use Rattle.script_rules.specs.Feeding.{Line, longest, Desk, Fed, feeds, desk_of}
use Rattle.script_rules.specs.Claims.{Means, Calls, Claims}
use Rattle.script_rules.proofs.Filling.{fills, fields}
use Rattle.script_rules.proofs.Numbers.{decimal_claims}
use Rattle.script_rules.proofs.Meaning.{meant-told, text_meant}
use Rattle.script_rules.proofs.Feeding.{feeds_short, feeds_long}
use Rattle.script_rules.proofs.Room.{digits_short, answer_short, typed_whole}
use Rattle.script_rules.proofs.Cutting.{cut, feeding_number, taken_most, taken_some}
use Rattle.script_rules.proofs.Lines.{line_heard, last_heard, none_heard}
use Rattle.script_rules.proofs.Printing.{insert_printed, remove_printed, rollback_printed, mark_printed, list_printed, bad_printed}
use Rattle.script_rules.proofs.Printing.{asks, receipt_printed}

-- A command's text has at most 64 bytes.
text_short : (c : Command) → length (text_of c) ≤ 80
text_short (insert h k p) = simp length-append (omega (arith, digits_short 20 h, digits_short 20 k, digits_short 20 p))
text_short (remove h k) = simp length-append (omega (arith, digits_short 20 h, digits_short 20 k))
text_short (find h k) = simp length-append (omega (arith, digits_short 20 h, digits_short 20 k))
text_short (rollback m) = simp length-append (omega (arith, digits_short 20 m))
text_short mark = omega arith
text_short list = omega arith
text_short bad = omega arith

long_bad : (l : List ℕ) → 80 < length l → spoken l ≡ bad
unfolding spoken
long_bad l h = rw (lt-ltb _ _ h)

short_meant : (l : List ℕ) → length l ≤ 80 → spoken l ≡ meant l
unfolding spoken
short_meant l h = rw (le-ltb _ _ h)

told : (l : List ℕ) (c : Command) → spoken l ≡ c → (c ≡ bad) ⊎ (InFields c × (l ≡ text_of c))
told l c e = go (dec_lt 80 (length l))
  where
    go : Dec (80 < length l) → (c ≡ bad) ⊎ (InFields c × (l ≡ text_of c))
    go (yes h) = inl (sym e ∙ long_bad l h)
    go (no n) = meant-told l c (sym (short_meant l (omega arith)) ∙ e)

spoken_text : (l : List ℕ) (c : Command) → InFields c → l ≡ text_of c → spoken l ≡ c
spoken_text l c f e = ap spoken e ∙ short_meant (text_of c) (text_short c) ∙ text_meant c f

not_bad : (c : Command) → InFields c → c ≢ bad
not_bad c f e = rw e at f

means : (l : List ℕ) → Means l
means l = record {
  command = λ c n. (λ e. sure n (told l c e), λ h. spoken_text l c h.0 h.1);
  bad_else = (λ e c f t. not_bad c f (sym (spoken_text l c f t) ∙ e), λ none. none_bad none (told l (spoken l) refl));
  long = long_bad l;
}
  where
    sure : {c : Command} {A : Type 0} → c ≢ bad → (c ≡ bad) ⊎ A → A
    sure n (inl e) = absurd (n e)
    sure n (inr h) = h

    none_bad : ((c : Command) → InFields c → l ≡ text_of c → ⊥) → (spoken l ≡ bad) ⊎ (InFields (spoken l) × (l ≡ text_of (spoken l)))
        → spoken l ≡ bad
    none_bad none (inl e) = e
    none_bad none (inr h) = absurd (none (spoken l) h.0 h.1)

number_of : {a b : Fed} → a ≡ b → a.number ≡ b.number
number_of e = ap (λ (f : Fed). f.number) e

calls : (chunk : List ℕ) (line : Line) (ix : Index) (buffer : List ℕ) → Calls chunk line ix buffer
calls chunk line ix buffer = record {
  one = (λ e. short e (dec_lt (length buffer) longest), λ h. number_of (sym (feeds_short chunk d h)));
  refused = λ h. sym (feeds_short chunk d h);
  other = λ h. number_of (sym (feeds_long chunk d h)) ∙ feeding_number chunk 0 d;
  most = taken_most chunk line ix buffer;
  some = taken_some chunk line ix buffer;
}
  where
    d : Desk
    d = desk_of line ix buffer

    short : (feeds chunk d).number ≡ 1 → Dec (length buffer < longest) → length buffer < longest
    short e (yes h) = h
    short e (no n) = let z = number_of (sym (feeds_long chunk d (omega arith))) ∙ feeding_number chunk 0 d in absurd (omega arith)

pub claims : Claims
claims = record {
  fills = fills;
  fields = fields;
  decimals = decimal_claims;
  means = means;
  room = answer_short;
  written = λ p l h. let w = typed_whole p l h in (w.at, w.behind);
  calls = calls;
  cutting = cut;
  lines = line_heard;
  last_line = last_heard;
  no_line_lem = none_heard;
  prints_insert = insert_printed;
  prints_remove = remove_printed;
  asks = asks;
  prints_rollback = rollback_printed;
  prints_mark = mark_printed;
  prints_list = list_printed;
  prints_bad = bad_printed;
  prints_receipt = receipt_printed;
}
