-- Every claim of the crate holds: the laws of proofs/Laws and proofs/Order, put together.
use mathlib.Core.Path.{◌≡◌, refl, sym, ◌∙◌}
use Prim.Native.Nat.{ℕ}
use borrow.Author.Tests.{lt-ltb, ne_eqb}
use Rattle.slots.specs.Words.{fields, parts, pick}
use Rattle.slots.specs.Answers.{Answer, Value, none, some, given}
use Rattle.slots.specs.Coded.{value_of, answer_of, told_by, unsound_told}
use Rattle.slots.specs.declared.answer.Unsound.{Unsound}
use Rattle.slots.specs.declared.answer.Unsound.TheVariants.{Unfit, Damaged}
use Rattle.std.specs.Prelude.{Option, None, Some, Result, Ok, Err, eqb}
use Rattle.slots.specs.declared.answer.Answer.{Answer as AnswerCode}
use Rattle.slots.specs.Claims.{Claims, Words}
use Rattle.slots.proofs.Laws.{word_same, word_across, word_else, length-store, told_apart}
use Rattle.slots.proofs.Order.{less_irreflexive, less_transitive, less_total, before_less}

words : (w d : ℕ) → Words w d
words w d =
    record {
      same = λ l i f v r h. word_same w d l i f v r (lt-ltb _ _ h);
      across = λ l i f v j g n hf hg. word_across w d l i f v j g (ne_eqb _ _ n) (lt-ltb _ _ hf) (lt-ltb _ _ hg);
      elsewhere = λ l i f v j g n hf hg. word_else w d l i f v j g n (lt-ltb _ _ hf) (lt-ltb _ _ hg);
      kept = λ l i f v. length-store w l i f v;
    }

abbrev value_back : Value → Option ℕ
value_back none = None
value_back (some v) = Some v

value_back_lem : (v : Option ℕ) → value_back (value_of v) ≡ v
value_back_lem None = refl
value_back_lem (Some v) = refl

answer_back : (a : AnswerCode) → record { number = a.number; value = value_back (value_of a.value) } ≡ a
answer_back a = rw (value_back_lem a.value)

pub answer_one_to_one : (a b : AnswerCode) → answer_of a ≡ answer_of b → a ≡ b
answer_one_to_one = told_apart answer_of (λ a. record { number = a.number; value = value_back a.value }) answer_back

given_in : Value → ℕ
given_in none = 0
given_in (some v) = v

told_back : Answer → Result ℕ Unsound
told_back a = pick (eqb a.number 0) (Ok (given_in a.value)) (pick (eqb a.number 1) (Err Unfit) (Err Damaged))

told_back_lem : (r : Result ℕ Unsound) → told_back (told_by given unsound_told r) ≡ r
unfolding told_back given_in
told_back_lem (Ok v) = refl
told_back_lem (Err Unfit) = refl
told_back_lem (Err Damaged) = refl

pub claims : Claims
claims =
    record {
      cells = words fields;
      names = words parts;
      irreflexive = less_irreflexive;
      transitive = less_transitive;
      total = less_total;
      not_both = λ p q h k. less_irreflexive p (less_transitive p q p h k);
      not_equal = λ p q h e. less_irreflexive q (rw e at h);
      tested = before_less;
      answer_one_to_one = answer_one_to_one;
      verdict_told = (refl, refl);
      done_told = λ u. refl;
      nothing_told = refl;
      refusals_told = (refl, refl);
      told_one_to_one = told_apart (told_by given unsound_told) told_back told_back_lem;
      given_one = λ value a b p q. answer_one_to_one a b (p ∙ sym q);
      nothing_one = λ a b p q. answer_one_to_one a b (p ∙ sym q);
      refused_one = λ number a b p q. answer_one_to_one a b (p ∙ sym q);
      packed_one = λ number value a b p q. p ∙ sym q;
      word_with_one = λ bare answer a b p q. p ∙ sym q;
      answer_word_one = λ answer a b p q. p ∙ sym q;
      word_one = λ words k none a b p q. p ∙ sym q;
      put-word_one = λ words k v a b p q. p ∙ sym q;
      get_one = λ l i f a b p q. p ∙ sym q;
      put_one = λ l i f v a b p q. p ∙ sym q;
      name_one = λ l i f a b p q. p ∙ sym q;
      put_name_one = λ l i f v a b p q. p ∙ sym q;
      is_red_one = λ l i a b p q. p ∙ sym q;
      colour_one = λ l i a b p q. p ∙ sym q;
      comes_before_one = λ hash key at own a b p q. p ∙ sym q;
    }
