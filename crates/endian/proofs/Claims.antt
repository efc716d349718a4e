-- Every claim of the crate holds.
use mathlib.Core.Path.{sym, ◌∙◌}
use Rattle.endian.specs.Claims.{Claims}
use Rattle.endian.proofs.Endian.{number_little, little_number, words_back, rest_behind, front_own}

pub claims : Claims
claims =
    record {
      number_back = number_little;
      bytes_back = little_number;
      words_back = words_back;
      rest_behind = rest_behind;
      front_own = front_own;
      word_at_one = λ of width bytes i a b e f. e ∙ sym f;
      read-words_one = λ of width words bytes a b e f. e ∙ sym f;
      after-words_one = λ width bytes count a b e f. e ∙ sym f;
      wide_at_one = λ bytes i a b e f. e ∙ sym f;
      word-at_one = λ bytes i a b e f. e ∙ sym f;
      read_wides_one = λ words bytes a b e f. e ∙ sym f;
      read_words_one = λ words bytes a b e f. e ∙ sym f;
      after_wides_one = λ bytes count a b e f. e ∙ sym f;
      after_words_one = λ bytes count a b e f. e ∙ sym f;
      whole_one = λ k bytes a b e f. e ∙ sym f;
    }
