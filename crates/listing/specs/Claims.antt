-- What crate `listing` proves beside its contracts: its public routine has one outcome, and all of the text has room.
use Rattle.std.specs.Prelude.{◌≡◌, List, ℕ, ◌≤◌, length, take}
use Rattle.slots.specs.Answers.{OneAnswer}
use Rattle.endian.specs.Bytes.{Bytes}
use Rattle.script_rules.specs.Feeding.{typed, lent_paper}
use Rattle.set_rules.specs.Words.{Set}
use Rattle.file_rules.specs.Loading.{LoadOutcome, load_whole}
use Rattle.listing_rules.specs.Lines.{load_text}

pub record Claims : Type 0 where
  pub tell_one : (o : LoadOutcome) (out : List ℕ) → OneAnswer (λ q. q ≡ typed (lent_paper out 0) (load_text o))
  -- with room for the longest text, all of it stands in the buffer from its front on
  pub whole : (t : Set) (l : List ℕ) → Bytes l → (out : List ℕ) → 524288 ≤ length out
      → take (typed (lent_paper out 0) (load_text (load_whole t l))).at (typed (lent_paper out 0) (load_text (load_whole t l))).bytes
      ≡ load_text (load_whole t l)
