-- Every claim of the crate holds: the laws of the other files, put together.
use mathlib.Core.Path.{◌≡◌, refl, ap, ◌∙◌}
use mathlib.Core.List.{List}
use Prim.Native.Nat.{ℕ, ◌+◌, ◌<◌}
use native.Mathlib.Omega.{arith}
use Rattle.slots.specs.Answers.{given, refused}
use Rattle.slots.proofs.Laws.{number}
use Rattle.tree_rules.specs.Find.{slots_of}
use Rattle.upload_rules.specs.Reading.{joined_bytes}
use Rattle.set_rules.specs.Words.{Set, Fit}
use Rattle.set_rules.specs.Accepted.{Accepted}
use Rattle.file_rules.proofs.Returning.{set_are_bytes}
use Rattle.figure_rules.specs.Totals.{total_at, counted_in, most_sets, FitTotals}
use Rattle.figure_rules.specs.Added.{Added, RefusedOnly}
use Rattle.figure_rules.specs.Tally.{set_tallied, TallyOutcome, tally_outcome, tallies}
use Rattle.figure_rules.specs.Stream.{Stream, new_stream, input_ends, figures_of, pieces_figured}
use Rattle.figure_rules.specs.Printed.{figures_text, week_text}
use Rattle.figure_rules.specs.Claims.{EntryLooks, Tallies, Weeks, Streams, StreamCalls, Claims}
use Rattle.figure_rules.proofs.Adding.{share, set_long, set_word}
use Rattle.figure_rules.proofs.Finding.{used-entry, used-found, used_looks, looks_most, slots_most, sum_entries}
use Rattle.figure_rules.proofs.Sharing.{share_sets, share_refused, share_entries, share_lists, share_trees, share_looks, share_row}
use Rattle.figure_rules.proofs.Sharing.{share_last}
use Rattle.figure_rules.proofs.Tallying.{TallyWay, unfit_way, many_way, taken_way, turned_way, tally_way, counts_fit, counts_agree}
use Rattle.figure_rules.proofs.Tallying.{narrow}
use Rattle.figure_rules.proofs.Ordering.{ordered, week, all_fit, all_agree, no_fit, no_agree}
use Rattle.figure_rules.proofs.Filing.{file_set_lem, set_file, no_fit_set}
use Rattle.figure_rules.proofs.Streaming.{pieces, whole_figures}
use Rattle.figure_rules.proofs.Chunking.{start_fit}
use Rattle.figure_rules.proofs.Calling.{taken, untaken, says_unfit, ended, unended, says_unended, kept, all_taken}
use Rattle.figure_rules.proofs.Parsing.{read_input}
use Rattle.figure_rules.proofs.Figuring.{up_to_million, past_million, file_words, order_whole, order_cut, cut_last}
use Rattle.figure_rules.proofs.Sending.{sent_figures}
use Rattle.figure_rules.proofs.Printing.{prints, text_short}
use Rattle.figure_rules.proofs.Sample.{two_tallied, two_figured}

look_claims : (s : Set) → Fit s → Accepted s → (x : ℕ) → x < slots_of s.names → EntryLooks s x
look_claims s f a x b =
    record {
      entry = used-entry s f a x b;
      found = used-found s f a x b;
      least = used_looks s f a x b;
      most = omega (arith, looks_most s f x, slots_most s f);
    }

module _ (s : Set) (t : List ℕ) where
  added : FitTotals t → Fit s → Accepted s → Added s t (set_tallied s t)
  added f g a =
      let word : (j : ℕ) → total_at (set_tallied s t) j ≡ total_at t j + share s j = λ j. set_word s t j f.long in
      let by : (j m : ℕ) → share s j ≡ m → total_at (set_tallied s t) j ≡ total_at t j + m =
      λ j m e. word j ∙ ap (λ (x : ℕ). total_at t j + x) e in
      record {
        long = set_long s t;
        sets = by 0 _ (share_sets s);
        refused = omega (arith, word 1, share_refused s);
        entries = by 2 _ (share_entries s g);
        lists = by 3 _ (share_lists s g);
        trees = by 4 _ (share_trees s g);
        looks = by 5 _ (share_looks s g a);
        rows = λ i l m. by (5 + i) _ (share_row s g a i l m);
        more = by 38 _ (share_last s g a);
      }

  says_one : (tallies s t).answer ≡ refused 1 → FitTotals t → ⊥
  says_one e f = go (tallies s t) (tally_way s t) e
    where
      go : (r : TallyOutcome) → TallyWay s t r → r.answer ≡ refused 1 → ⊥
      go _ (unfit_way n) z = n f
      go _ (many_way g c) z = omega (arith, number z)
      go _ (taken_way g l h a) z = omega (arith, number z)
      go _ (turned_way g l n o) z = omega (arith, number z)

  says_seventeen : (tallies s t).answer ≡ refused 17 → FitTotals t × (counted_in t ≡ most_sets)
  says_seventeen e = go (tallies s t) (tally_way s t) e
    where
      go : (r : TallyOutcome) → TallyWay s t r → r.answer ≡ refused 17 → FitTotals t × (counted_in t ≡ most_sets)
      go _ (unfit_way n) z = absurd (omega (arith, number z))
      go _ (many_way g c) z = (g, c)
      go _ (taken_way g l h a) z = absurd (omega (arith, number z))
      go _ (turned_way g l n o) z = absurd (omega (arith, number z))

  is_one : (FitTotals t → ⊥) → tallies s t ≡ tally_outcome (refused 1) t
  is_one n = go (tallies s t) (tally_way s t)
    where
      go : (r : TallyOutcome) → TallyWay s t r → r ≡ tally_outcome (refused 1) t
      go _ (unfit_way m) = refl
      go _ (many_way g c) = absurd (n g)
      go _ (taken_way g l h a) = absurd (n g)
      go _ (turned_way g l m o) = absurd (n g)

  is_seventeen : FitTotals t → counted_in t ≡ most_sets → tallies s t ≡ tally_outcome (refused 17) t
  is_seventeen f e = go (tallies s t) (tally_way s t)
    where
      go : (r : TallyOutcome) → TallyWay s t r → r ≡ tally_outcome (refused 17) t
      go _ (unfit_way m) = absurd (m f)
      go _ (many_way g c) = refl
      go _ (taken_way g l h a) = absurd (omega arith)
      go _ (turned_way g l m o) = absurd (omega arith)

  is-taken : FitTotals t → counted_in t < most_sets → Fit s → Accepted s → ((tallies s t).answer ≡ given 1) × Added s t (tallies s t).totals
  is-taken f l g a = go (tallies s t) (tally_way s t)
    where
      go : (r : TallyOutcome) → TallyWay s t r → (r.answer ≡ given 1) × Added s t r.totals
      go _ (unfit_way m) = absurd (m f)
      go _ (many_way h c) = absurd (omega arith)
      go _ (taken_way h m k b) = (refl, added f g a)
      go _ (turned_way h m n o) = absurd (n g a)

  is_turned : FitTotals t → counted_in t < most_sets → (Fit s → Accepted s → ⊥)
      → ((tallies s t).answer ≡ given 0) × RefusedOnly t (tallies s t).totals
  is_turned f l n = go (tallies s t) (tally_way s t)
    where
      go : (r : TallyOutcome) → TallyWay s t r → (r.answer ≡ given 0) × RefusedOnly t r.totals
      go _ (unfit_way m) = absurd (m f)
      go _ (many_way h c) = absurd (omega arith)
      go _ (taken_way h m k b) = absurd (n k b)
      go _ (turned_way h m j o) = (refl, o)

  answer_of_lem : {r q : TallyOutcome} → r ≡ q → r.answer ≡ q.answer
  answer_of_lem e = ap (λ (x : TallyOutcome). x.answer) e

  tally_claims : Tallies s t
  tally_claims =
      record {
        one = (λ e. says_one (answer_of_lem e), is_one);
        seventeen = (λ e. says_seventeen (answer_of_lem e), λ h. is_seventeen h.0 h.1);
        answers_one = says_one;
        answers_seventeen = says_seventeen;
        taken = is-taken;
        turned = is_turned;
        ranges = counts_fit s t;
        agree = counts_agree s t;
      }

week_claims : (l : List Set) → Weeks l
week_claims l =
    record {
      words = λ o b. week o b;
      agree = all_agree l _ no_fit no_agree;
      ranges = all_fit l _ no_fit;
      order = λ r t f b. ordered r t f b;
    }

printed_pieces : (ps : List (List ℕ)) → figures_text (input_ends (pieces_figured new_stream ps)) ≡ week_text (joined_bytes ps)
unfolding week_text figures_of
printed_pieces ps = ap (λ (d : Stream). figures_text (input_ends d)) (pieces new_stream ps)

stream_claims : Streams
stream_claims =
    record {
      pieces = pieces;
      read = λ l b. read_input b;
      whole = whole_figures;
      cut = cut_last;
      none = no_fit_set;
      file = λ l s h. file_set_lem (rw h.is (set_are_bytes s)) h;
      file_only = λ l b f. set_file b f;
      sent = λ d. sent_figures d;
      up_to_million = up_to_million;
      past_million = past_million;
      words = file_words;
      order = λ r fs b. order_whole r fs b;
      order_cut = λ r fs b rest c. order_cut r fs b rest c;
      printed = printed_pieces;
    }

call_claims : (d : Stream) → StreamCalls d
call_claims d =
    record {
      one = λ l. (says_unfit d l, untaken d l);
      end_one = (says_unended d, unended d);
      taken = taken d;
      ended = ended d;
      ranges = λ b h. kept d b h;
    }

pub claims : Claims
claims =
    record {
      looks = look_claims;
      sums = sum_entries;
      tally = tally_claims;
      weeks = week_claims;
      narrow = narrow;
      streams = stream_claims;
      calls = call_claims;
      started = λ s f. start_fit s f;
      by_calls = λ k. all_taken k;
      prints = prints;
      room = text_short;
      worked = two_tallied;
      worked_input = two_figured;
    }
