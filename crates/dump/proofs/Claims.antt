-- Every claim of the crate holds: a measure is read back off what it says, and what has room is written whole.
use mathlib.Core.Path.{◌≡◌, refl, ap, sym, ◌∙◌}
use mathlib.Core.List.{List}
use Prim.Native.Nat.{ℕ, ◌≤◌}
use native.Mathlib.Omega.{arith}
use lib.ListN.{length, take}
use Rattle.script_rules.specs.Feeding.{typed, lent_paper}
use Rattle.script_rules.proofs.Room.{typed_whole}
use Rattle.std.specs.Prelude.{Result, Ok, Err}
use Rattle.dump_rules.specs.Dump.{Measure, whole, stub, slots_out, lines_out, short, long}
use Rattle.dump_rules.specs.Sentence.{why_text}
use Rattle.dump_rules.proofs.Claims as dump-rules
use Rattle.dump.specs.Measures.{measure_of}
use Rattle.dump.specs.Claims.{Claims}
use Rattle.dump.specs.declared.measure.NoDump.{NoDump}
use Rattle.dump.specs.declared.measure.NoDump.TheVariants.{Stub, SlotsOut, LinesOut, Short, Long}

abbrev measure_back : Measure → Result (ℕ × ℕ) NoDump
measure_back (whole n c) = Ok (n, c)
measure_back (stub b) = Err (Stub b)
measure_back (slots_out n) = Err (SlotsOut n)
measure_back (lines_out c) = Err (LinesOut c)
measure_back (short b n c) = Err (Short b n c)
measure_back (long n c) = Err (Long n c)

measure_back_lem : (m : Result (ℕ × ℕ) NoDump) → measure_back (measure_of m) ≡ m
measure_back_lem (Ok (n, c)) = refl
measure_back_lem (Err (Stub b)) = refl
measure_back_lem (Err (SlotsOut n)) = refl
measure_back_lem (Err (LinesOut c)) = refl
measure_back_lem (Err (Short b n c)) = refl
measure_back_lem (Err (Long n c)) = refl

measure_one_to_one : (a b : Result (ℕ × ℕ) NoDump) → measure_of a ≡ measure_of b → a ≡ b
measure_one_to_one a b e = sym (measure_back_lem a) ∙ ap measure_back e ∙ measure_back_lem b

stands : (bytes out : List ℕ) → 524288 ≤ length out
    → take (typed (lent_paper out 0) (why_text bytes)).at (typed (lent_paper out 0) (why_text bytes)).bytes ≡ why_text bytes
stands bytes out h = (typed_whole (lent_paper out 0) (why_text bytes) (omega (arith, (dump-rules.claims).room bytes))).behind

pub claims : Claims
claims =
    record {
      measure_one_to_one = measure_one_to_one;
      gauge_one = λ bytes a b e f. measure_one_to_one a b (e ∙ sym f);
      load_one = λ names cells head sizes lines bytes a b e f. e ∙ sym f;
      answer_one = λ bytes out a b e f. e ∙ sym f;
      write_one = λ p n c ix a b e f. e ∙ sym f;
      rescue_one = λ bytes p q a b e f. e ∙ sym f;
      whole = stands;
    }
