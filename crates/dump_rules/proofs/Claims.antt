-- Every claim of the crate holds.
use Rattle.dump_rules.specs.Claims.{Claims}
use Rattle.dump_rules.proofs.Sentences.{sentences}
use Rattle.dump_rules.proofs.Rowing.{rows}
use Rattle.dump_rules.proofs.Dumping.{own}
use Rattle.dump_rules.proofs.Printing.{dumps}
use Rattle.dump_rules.proofs.Room.{why_short}
use Rattle.dump_rules.proofs.Rescuing.{losses, rescues}

pub claims : Claims
claims =
    record {
      rows = rows;
      losses = losses;
      rescues = λ n c ix d. rescues d;
      sentences = sentences;
      dumps = λ n c ix d. dumps d;
      own = own;
      room = why_short;
    }
