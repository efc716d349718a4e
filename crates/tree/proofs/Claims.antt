-- Every claim of the crate holds: an answer is read back off its number and value.
use mathlib.Core.Path.{◌≡◌, refl, ap, sym, ◌∙◌}
use Prim.Native.Nat.{ℕ, ◌+◌, ◌-◌, ◌<◌}
use borrow.Author.Tests.{lt-ltb}
use native.Mathlib.Omega.{arith}
use Rattle.std.specs.Prelude.{Option, None, Some, eqb}
use Rattle.slots.specs.Words.{pick}
use Rattle.slots.specs.Answers.{Value, some, none}
use Rattle.slots.proofs.Laws.{told_apart}
use Rattle.slots.proofs.Claims.{answer_one_to_one}
use Rattle.tree_rules.specs.Find.{Counted}
use Rattle.tree.specs.Find.{searched_of, counted_of, in_a_word}
use Rattle.tree.specs.Check.{checked_of}
use Rattle.tree.specs.Rules.{rest_of}
use Rattle.tree.specs.Claims.{Claims}
use Rattle.tree.specs.declared.check.Fault.{Fault}
use Rattle.tree.specs.declared.check.Fault.TheVariants.{Fails, Lost as Strays}
use Rattle.tree.specs.declared.find.Counted.{Counted as CountedCode}
use Rattle.tree.specs.declared.find.Found.{Found}
use Rattle.tree.specs.declared.find.Found.TheVariants.{At, Nothing, Lost}

abbrev read_back : ℕ → ℕ → Value → Found ℕ
read_back looks number (some slot) = At slot looks
read_back looks number none = pick (eqb number 0) (Nothing looks) (Lost looks)

reads_back : (r : Found ℕ) → read_back (searched_of r).looks (searched_of r).answer.number (searched_of r).answer.value ≡ r
reads_back (At slot looks) = refl
reads_back (Nothing looks) = refl
reads_back (Lost looks) = refl

found_one_to_one : (a b : Found ℕ) → searched_of a ≡ searched_of b → a ≡ b
found_one_to_one = told_apart searched_of (λ a. read_back a.looks a.answer.number a.answer.value) reads_back

pub counted_one_to_one : (a b : CountedCode) → counted_of a ≡ counted_of b → a ≡ b
counted_one_to_one a b e =
    let answers = answer_one_to_one a.answer b.answer (ap (λ (c : Counted). c.answer) e) in
    let looks : a.looks ≡ b.looks = ap (λ (c : Counted). c.looks) e in
    λ i. record { answer = answers i; looks = looks i }

abbrev checked_back : ℕ → Value → Option Fault
checked_back number (some slot) = Some (Fails (number - 100) slot)
checked_back number none = pick (eqb number 0) None (Some Strays)

checks_back : (r : Option Fault) → checked_back (checked_of r).number (checked_of r).value ≡ r
checks_back None = refl
checks_back (Some (Fails t slot)) = let z : 100 + t - 100 ≡ t = omega arith in rw z
checks_back (Some Strays) = refl

checked_one_to_one : (a b : Option Fault) → checked_of a ≡ checked_of b → a ≡ b
checked_one_to_one = told_apart checked_of (λ a. checked_back a.number a.value) checks_back

abbrev rest_back : Value → Option ℕ
rest_back (some v) = Some v
rest_back none = None

rests_back : (r : Option ℕ) → rest_back (rest_of r) ≡ r
rests_back (Some v) = refl
rests_back None = refl

rest_one_to_one : (a b : Option ℕ) → rest_of a ≡ rest_of b → a ≡ b
rest_one_to_one = told_apart rest_of rest_back rests_back

-- Also for those who tell the looks of a search in a word.
pub few_looks : (c : Counted) → c.looks < 4294967296 → in_a_word c ≡ c
few_looks c h = rw (lt-ltb c.looks 4294967296 h)

pub claims : Claims
claims =
    record {
      found_one_to_one = found_one_to_one;
      counted_one_to_one = counted_one_to_one;
      with_looks_one = λ _ _ a b p q. counted_one_to_one a b (p ∙ sym q);
      few_looks = few_looks;
      in_a_word_one = λ c a b p q. found_one_to_one a b (p ∙ sym q);
      counted_by_one = λ refusal f a b p q. counted_one_to_one a b (p ∙ sym q);
      counted_one = λ f a b p q. counted_one_to_one a b (p ∙ sym q);
      find_tree_node_one = λ names cells root hash key a b p q. found_one_to_one a b (p ∙ sym q);
      checked_one_to_one = checked_one_to_one;
      check_invariants_one = λ names cells root a b p q. checked_one_to_one a b (p ∙ sym q);
      rest_one_to_one = rest_one_to_one;
      size_one_to_one = rest_one_to_one;
      survey_one = λ names cells root visits a b p q. rest_one_to_one a b (p ∙ sym q);
      tree_size_one = λ names cells sizes root a b p q. rest_one_to_one a b (p ∙ sym q);
      in_range_one = λ n link a b p q. p ∙ sym q;
      links_in_one = λ n cells i a b p q. p ∙ sym q;
      points_back_one = λ cells i f g a b p q. p ∙ sym q;
      chain_one = λ n cells first a b p q. rest_one_to_one a b (p ∙ sym q);
    }
