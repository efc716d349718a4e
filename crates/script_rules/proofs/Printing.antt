-- What each command prints, by what its call came to, and what it leaves.
use mathlib.Core.Path.{◌≡◌, refl, ap}
use mathlib.Core.Logic.{◌≢◌}
use Prim.Native.Nat.{ℕ, ◌≤◌}
use Prim.Native.String.{String}
use native.Mathlib.Decide.{ℕ_discrete}
use native.Mathlib.Omega.{arith}
use lib.ListN.{length}
use borrow.Author.Tests.{lt-ltb, le-ltb, eq-eqb, ne_eqb}
use Rattle.slots.specs.Answers.{Answer}
use Rattle.tree_rules.specs.Find.{with_looks}
use Rattle.index_rules.specs.Index.{Index, Outcome, fits_index}
use Rattle.index_rules.specs.Live.{Live, unsized_of}
use Rattle.index_rules.specs.Find.{finds}
use Rattle.index_rules.specs.Insert.{inserts}
use Rattle.index_rules.specs.Remove.{removes}
use Rattle.index_rules.specs.Rollback.{rolls}
use Rattle.index_rules.proofs.Journal.{fits-index, index-fits}
use Rattle.index_rules.proofs.Fit.{false_of}
use Rattle.script_rules.specs.Text.{digits, no_text}
use Rattle.script_rules.specs.Letters.{letters, word_line}
use Rattle.script_rules.specs.Commands.{insert, remove, find, rollback, list, bad}
use Rattle.script_rules.specs.Answers.{told, saying, search_line, found_text, list_text, receipt_text, marking, carried_out}
use Rattle.script_rules.specs.Feeding.{lent_paper, longest, receipts}
use Rattle.script_rules.specs.Claims.{Prints, Asks, PrintsMark, PrintsList, PrintsReceipt}
use Rattle.script_rules.proofs.Room.{line_short, listing_short, typed_whole}
use Rattle.script_rules.proofs.Chains.{chain_printed}

call_printed : (word : String) (o : Outcome) → Prints word o (saying (letters word) o)
unfolding told
call_printed word o =
    record { value = λ v e. ap (told (letters word)) e; number = λ n. rw (ne_eqb o.answer.number 0 n); left = refl }

module _ (ix : Index) where
  pub insert_printed : (h k p : ℕ) → Prints "slot " (inserts ix h k p) (carried_out ix (insert h k p))
  unfolding carried_out
  insert_printed h k p = call_printed "slot " (inserts ix h k p)

  pub remove_printed : (h k : ℕ) → Prints "gone " (removes ix h k) (carried_out ix (remove h k))
  unfolding carried_out
  remove_printed h k = call_printed "gone " (removes ix h k)

  pub rollback_printed : (m : ℕ) → Prints "back " (rolls ix m) (carried_out ix (rollback m))
  unfolding carried_out
  rollback_printed m = call_printed "back " (rolls ix m)

  pub mark_printed : PrintsMark ix
  unfolding carried_out marking digits
  mark_printed =
      record {
        fit = λ f. rw (index-fits ix f);
        unfit = λ h. rw (false_of (fits_index ix) (λ e. h (fits-index ix e)));
        left = refl;
      }

  pub list_printed : PrintsList ix.live (carried_out ix list).text × ((carried_out ix list).left ≡ ix)
  unfolding carried_out
  list_printed = (chain_printed ix.live, refl)

  pub bad_printed : ((carried_out ix bad).text ≡ letters "bad\n") × ((carried_out ix bad).left ≡ ix)
  unfolding carried_out
  bad_printed = (refl, refl)

  module _ (h k : ℕ) where
    abbrev looks : ℕ
    looks = length (finds (unsized_of ix.live) h k).looks

    line : {a : Answer} → (finds (unsized_of ix.live) h k).answer ≡ a → (carried_out ix (find h k)).text ≡ search_line (with_looks looks a)
    unfolding carried_out
    line e = ap (λ (a : Answer). search_line (with_looks looks a)) e

    pub asks : Asks ix h k
    unfolding carried_out search_line found_text digits
    asks =
        record {
          at = λ slot e. line e;
          none = λ e. line e;
          nine = λ e. line e;
          one = λ e. line e;
          left = refl;
        }

module _ (number : ℕ) (t : Live) where
  receipt_refused : number ≢ 0 → receipt_text number t ≡ word_line "no " number
  unfolding receipt_text
  receipt_refused n = rw (ne_eqb number 0 n)

  receipt_listed : number ≡ 0 → receipt_text number t ≡ list_text t
  unfolding receipt_text
  receipt_listed e = rw (eq-eqb number 0 e)

  receipt_short : Dec (number ≡ 0) → length (receipt_text number t) ≤ longest
  receipt_short (yes e) = rw (receipt_listed e) (listing_short t)
  receipt_short (no n) = rw (receipt_refused n) (omega (arith, line_short no_text number))

  pub receipt_printed : PrintsReceipt number t
  unfolding receipts
  receipt_printed =
      record {
        refusal = receipt_refused;
        list = λ e. rw (receipt_listed e) (chain_printed t);
        whole = λ buffer r.
            rw (le-ltb (length buffer) longest r)
            (typed_whole (lent_paper buffer 0) (receipt_text number t) (omega (arith, receipt_short (ℕ_discrete number 0)))).behind;
        short = λ buffer r. rw (lt-ltb (length buffer) longest r);
      }
