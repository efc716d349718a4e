-- Every claim of the crate holds.
use native.Mathlib.Omega.{arith}
use Rattle.word_rules.specs.Claims.{Claims}
use Rattle.word_rules.proofs.Telling.{answers_apart, one_word, answer_tells, check_tells, worded_tells}
use Rattle.word_rules.proofs.Answering.{find_tells, lookup_tells}
use Rattle.word_rules.proofs.Giving.{inserts_valued, removes_valued, replaces_valued, rolls_valued, freshes_valued, sounds_valued}
use Rattle.word_rules.proofs.Giving.{kths_valued, positions_valued, accepts_valued, checks_valued, batch_told}
use Rattle.word_rules.proofs.Holding.{cursor_words, start_tells, walk_tells, walk_lists, walk_whole, walk_done}
use Rattle.word_rules.proofs.Saying.{reader_words, reader_one, zeros_none}
use Rattle.word_rules.proofs.Calling.{started, chunk_told, end_told, read_none, continued, uploaded}
use Rattle.word_rules.proofs.LoadSaying.{loader_words_lem, loader_one}
use Rattle.word_rules.proofs.LoadCalling as F
use Rattle.word_rules.proofs.Storing.{save_tells}
use Rattle.word_rules.proofs.Explaining.{why_tells}
use Rattle.word_rules.proofs.Rescuing.{salvage_tells, report_one}
use Rattle.word_rules.proofs.Moving.{move_tells}
use Rattle.word_rules.proofs.Tallying.{tally_tells}

pub claims : Claims
claims =
    record {
      numbers_apart = λ m n v w a b e. omega arith;
      values_apart = λ m n v w a b e. omega arith;
      answers_apart = answers_apart;
      one_word = one_word;
      find_tells = find_tells;
      check_tells = λ t. check_tells (checks_valued t).1;
      sound_tells = λ t. answer_tells (sounds_valued t).1;
      why_tells = why_tells;
      salvage_tells = salvage_tells;
      report_one = report_one;
      kth_tells = λ t k. answer_tells (kths_valued t k).1;
      position_tells = λ t hash key. answer_tells (positions_valued t hash key).1;
      insert_tells = λ ix hash key place. worded_tells _ (inserts_valued ix hash key place).1;
      remove_tells = λ ix hash key. worded_tells _ (removes_valued ix hash key).1;
      replace_tells = λ ix hash key place. worded_tells _ (replaces_valued ix hash key place).1;
      fresh_tells = λ ix. worded_tells _ (freshes_valued ix).1;
      rollback_tells = λ ix mark. worded_tells _ (rolls_valued ix mark).1;
      batch_tells = batch_told;
      accept_tells = λ s. answer_tells (accepts_valued s).1;
      lookup_tells = lookup_tells;
      reader_words = reader_words;
      zeros_none = zeros_none;
      reader_one = reader_one;
      read_start_lem = started;
      read_chunk_lem = λ ix w l k r h. chunk_told ix w r h k;
      read_end_lem = end_told;
      read_none = read_none;
      reading = continued;
      uploading = uploaded;
      cursor_words = cursor_words;
      start_tells = start_tells;
      walk_tells = walk_tells;
      walk_lists = walk_lists;
      walk_whole = walk_whole;
      walk_done = walk_done;
      save_tells = save_tells;
      loader_words_lem = loader_words_lem;
      loader_one = loader_one;
      load_start_lem = F.load_started;
      load_chunk_lem = λ t w l k r h. F.chunk_told t w r h k;
      load_end_lem = F.end_told;
      load_none = F.load_none;
      load_going = F.load_continued;
      load_file = λ t w e l k. F.filed w e t k;
      move_tells = move_tells;
      tally_tells = tally_tells;
    }
