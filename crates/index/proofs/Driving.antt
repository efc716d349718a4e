-- Every claim of `Driving` holds: what equals one value is one value.
use mathlib.Core.Path.{◌≡◌, sym, ◌∙◌}
use Rattle.index.specs.Driving.{Driving}

both : {A : Type 0} {a b c : A} → a ≡ c → b ≡ c → a ≡ b
both p q = p ∙ sym q

pub driving : Driving
driving =
    record {
      lowest_free_one = λ cells n floor a b. both;
      lesser_one = λ a b r q. both;
      head_put_one = λ head root first count a b. both;
      put-pair_one = λ names x hash key a b. both;
      grow_one = λ t x y hash key p a b. both;
      shrink_one = λ t x a b. both;
      length_of_one = λ lines a b. both;
      capacity_of_one = λ lines a b. both;
      fit_journal_one = λ lines a b. both;
      is_full_one = λ lines a b. both;
      line_word_one = λ lines k f a b. both;
      append_one = λ lines kind hash key p prior_hash prior_key a b. both;
      cut_one = λ lines m count a b. both;
    }
