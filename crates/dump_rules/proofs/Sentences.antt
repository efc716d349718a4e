-- Each sentence is what its letters and numbers are.
use mathlib.Core.Path.{refl}
use Rattle.script_rules.specs.Blanks.{blanks_filled, piece, is_blank}
use Rattle.dump_rules.specs.Sentence.{sentence}
use Rattle.dump_rules.specs.Claims.{Sentences}

pub sentences : Sentences
unfolding sentence blanks_filled piece is_blank
sentences =
    record {
      stray_link_lem = λ f x. refl;
      stray_state_lem = λ s. refl;
      left_hash_lem = λ v. refl;
      left_key_lem = λ v. refl;
      left-field = λ f v. refl;
      stray_root_lem = λ x. refl;
      stray_first_lem = λ x. refl;
      miscount = λ c u. refl;
      root_count_lem = λ c x. refl;
      first_count_lem = λ c x. refl;
      root_under_lem = λ p. refl;
      disowned = λ p l r. refl;
      child_elsewhere_lem = λ f x p. refl;
      child_twice_lem = λ x. refl;
      off_root_lem = λ x. refl;
      falls = λ h k g m j. refl;
      red_under_lem = λ f x. refl;
      uneven = λ a b. refl;
      first_behind_lem = λ p. refl;
      prev_astray_lem = λ p x. refl;
      next_astray_lem = λ x p. refl;
      off_first_lem = λ x. refl;
      wrong_size_lem = λ s m. refl;
      free_size_lem = λ s. refl;
      orphan = refl;
      red_root_lem = refl;
    }
