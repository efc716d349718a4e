-- Every claim of the crate holds: the laws of the other files, put together.
use Rattle.index_rules.specs.Claims.{Claims}
use Rattle.index_rules.proofs.Reading.{find_claims, check_claims}
use Rattle.index_rules.proofs.Sounding.{sound_claims, sound-index_claims}
use Rattle.index_rules.proofs.Finding.{find_sound_claims, hold_claims, list_claims}
use Rattle.index_rules.proofs.Inserting.{insert_claims}
use Rattle.index_rules.proofs.Removing.{remove_claims}
use Rattle.index_rules.proofs.Replacing.{replace_claims}
use Rattle.index_rules.proofs.Rolling.{rollback_claims}
use Rattle.index_rules.proofs.Checked.{once_checked}
use Rattle.index_rules.proofs.Batching.{batch_claims}
use Rattle.index_rules.proofs.Ranking.{kth_claims, position_claims}
use Rattle.index_rules.proofs.Freshing.{freshes_claims}
use Rattle.index_rules.proofs.Demanding.{demand_three}

pub claims : Claims
claims =
    record {
      find = find_claims;
      check = check_claims;
      sound = sound_claims;
      sound-index = sound-index_claims;
      find_sound = λ t fit h hash key. find_sound_claims fit h hash key;
      holds = hold_claims;
      lists = list_claims;
      insert = insert_claims;
      remove = remove_claims;
      replace = replace_claims;
      rollback = rollback_claims;
      once_checked = once_checked;
      batch = batch_claims;
      kth = kth_claims;
      position = position_claims;
      fresh = freshes_claims;
      demand3 = λ ix fit h words calls allowed. demand_three ix h fit words calls allowed;
    }
