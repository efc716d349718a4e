-- Every claim of the crate holds.
use mathlib.Core.Path.{sym, ◌∙◌}
use Rattle.trials.specs.Claims.{Claims}
use Rattle.trials.proofs.Agreeing.{agrees}
use Rattle.trials.proofs.Whole.{played_whole}
use Rattle.trials.proofs.Comparing.{same_words_lem, same_indexes}

pub claims : Claims
claims = record {
  agrees = agrees;
  agrees_one = λ expected from part a b e f. e ∙ sym f;
  plays = played_whole;
  play_one = λ cut expected input ix out a b e f. e ∙ sym f;
  same_names = same_words_lem;
  same_names_one = λ x y a b e f. e ∙ sym f;
  same_index_lem = same_indexes;
  same_index_one = λ x y a b e f. e ∙ sym f;
  first_one = λ n words a b e f. e ∙ sym f;
}
