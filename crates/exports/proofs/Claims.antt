-- Every claim of the crate holds.
use mathlib.Core.Path.{sym, ◌∙◌}
use Rattle.exports.specs.Claims.{Claims}

pub claims : Claims
claims =
    record {
      find_one = λ t hash key a b p q. p ∙ sym q;
      check_one = λ t a b p q. p ∙ sym q;
      sound_one = λ t a b p q. p ∙ sym q;
      why_one = λ t shown a b p q. p ∙ sym q;
      move_one = λ s k i a b p q. p ∙ sym q;
      tally_one = λ s t a b p q. p ∙ sym q;
      save_one = λ s out a b p q. p ∙ sym q;
      load_start_one = λ w a b p q. p ∙ sym q;
      load_chunk_one = λ t w chunk a b p q. p ∙ sym q;
      load_end_one = λ t w a b p q. p ∙ sym q;
      salvage_one = λ names cells u report a b p q. p ∙ sym q;
      kth_one = λ t k a b p q. p ∙ sym q;
      position_one = λ t hash key a b p q. p ∙ sym q;
      insert_one = λ ix hash key place a b p q. p ∙ sym q;
      remove_one = λ ix hash key a b p q. p ∙ sym q;
      replace_one = λ ix hash key place a b p q. p ∙ sym q;
      fresh_one = λ ix a b p q. p ∙ sym q;
      rollback_one = λ ix mark a b p q. p ∙ sym q;
      batch_one = λ ix calls answers a b p q. p ∙ sym q;
      read_start_one = λ ix reader a b p q. p ∙ sym q;
      read_chunk_one = λ ix reader chunk a b p q. p ∙ sym q;
      read_end_one = λ ix reader a b p q. p ∙ sym q;
      accept_one = λ s a b p q. p ∙ sym q;
      lookup_one = λ s table hash key a b p q. p ∙ sym q;
      start_one = λ s table cursor a b p q. p ∙ sym q;
      walk_one = λ s cursor a b p q. p ∙ sym q;
    }
