-- What the upload leaves is listed, and it was entered in front of an empty listing.
use mathlib.Core.Path.{◌≡◌, refl, ap, ◌∙◌}
use mathlib.Core.List.{List, [], ◌∷◌, reverse, reverse_aux}
use Prim.Native.Nat.{ℕ, ◌<◌}
use native.Mathlib.Omega.{arith}
use lib.ListN.{length}
use Rattle.slots.specs.Pairs.{Pair}
use Rattle.slots.specs.Answers.{Answer}
use Rattle.index_rules.specs.Sound.{Sound}
use Rattle.index_rules.specs.Index.{Index, FitIndex}
use Rattle.index_rules.specs.Fresh.{FitLengths, freshes}
use Rattle.index_rules.specs.Contents.{Entry, contents, listing, In, first, later}
use Rattle.index_rules.specs.Calls.{Places}
use Rattle.index_rules.proofs.Claims as index-rules
use Rattle.upload_rules.specs.Upload.{Upload, entries_of}
use Rattle.endian.specs.Bytes.{Bytes}
use Rattle.upload_rules.specs.Parts.{Enters}
use Rattle.upload_rules.specs.Left.{front_all}
use Rattle.upload_rules.specs.Reading.{read_whole}
use Rattle.upload_rules.specs.Claims.{Uploads}
use Rattle.upload_rules.proofs.Claims as upload-rules
use Rattle.script_rules.specs.Letters.{word_line, listing_text}
use Rattle.script_rules.proofs.Claims as script-rules
use Rattle.intake.specs.Claims.{Intakes, printed_for, Claims}

some_in : {e : Entry} {l : List Entry} → In e l → 0 < length l
some_in first = omega arith
some_in (later i) = omega arith

no_entry : (l : List Entry) → length l ≡ 0 → l ≡ []
no_entry [] e = refl
no_entry (x ∷ l) e = absurd (omega arith)

front_reverse : (es l : List Entry) → front_all es l ≡ reverse_aux es l
unfolding front_all
front_reverse [] l = refl
front_reverse (e ∷ es) l = front_reverse es (e ∷ l)

module _ (ix : Index) (fit : FitLengths ix) (h : Sound (freshes ix).left.live) (l : List ℕ) (bytes : Bytes l) where
  fits : FitIndex (freshes ix).left
  fits = (((index-rules.claims).fresh ix).done fit).1

  empty : contents h ≡ []
  empty = let made = ((index-rules.claims).fresh ix).done fit in ((index-rules.claims).holds _ fits.tree).one h made.0 ∙ made.2

  unlisted : listing h ≡ []
  unlisted = no_entry (listing h) (((index-rules.claims).lists _ fits.tree).many h ∙ ap length empty)

  places : Places (contents h)
  places e i = absurd (omega (arith, some_in i, ap length empty))

  uploads : Uploads (freshes ix).left fits h places l bytes
  uploads = (upload-rules.claims).uploads (freshes ix).left fits h places l bytes

  intakes : Intakes ix fit h l bytes
  intakes =
      record {
        taken = entered;
        refused = λ n z r.
            let e = (uploads.ending n z).1 r in ((script-rules.claims).prints_receipt _ _).refusal (rw e z) ∙ ap (word_line "no ") e;
      }
    where
      entered : (ss : List (List Pair)) → Upload l ss → Enters (freshes ix).left h (entries_of 1 0 ss)
          → printed_for ix l ≡ listing_text (reverse (entries_of 1 0 ss))
      entered ss u e =
          let es = entries_of 1 0 ss in
          let after = uploads.holds ss u e in
          let zero : (read_whole (freshes ix).left l).answer.number ≡ 0 =
          ap (λ (a : Answer). a.number) ((uploads.accepted (length es)).1 (ss, u, refl, e)) in
          (((script-rules.claims).prints_receipt _ _).list zero).sound after.fit.tree after.sound
          ∙ ap listing_text (after.listed ∙ ap (front_all es) unlisted ∙ front_reverse es [])

pub claims : Claims
claims = record { intakes = intakes }
