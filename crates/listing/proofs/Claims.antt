-- An equation has one answer, and a text that has room is written whole.
use mathlib.Core.Path.{sym, ◌∙◌}
use native.Mathlib.Omega.{arith}
use Rattle.script_rules.specs.Feeding.{lent_paper}
use Rattle.script_rules.proofs.Room.{typed_whole}
use Rattle.file_rules.specs.Loading.{load_whole}
use Rattle.listing_rules.specs.Lines.{load_text}
use Rattle.listing_rules.proofs.Claims as listing-rules
use Rattle.listing.specs.Claims.{Claims}

pub claims : Claims
claims =
    record {
      tell_one = λ o out a b e f. e ∙ sym f;
      whole = λ t l b out h.
          (typed_whole (lent_paper out 0) (load_text (load_whole t l)) (omega (arith, (listing-rules.claims).room t l b))).behind;
    }
