-- What tally comes to on each of its ways is what the model says.
use mathlib.Core.Path.{◌≡◌, ap, sym, ◌∙◌}
use mathlib.Core.Bool.{Bool, true, false}
use mathlib.Core.List.{List, []}
use Prim.Native.Nat.{ℕ, ◌+◌, ◌/◌, ◌<◌, ◌≤◌}
use native.Mathlib.Omega.{arith}
use lib.ListN.{length}
use borrow.Author.Tests.{lt-ltb, le-ltb}
use Rattle.std.specs.Prelude.{Result, Ok, Err}
use Rattle.std.specs.Result.{result_unwrap_or}
use Rattle.slots.specs.Answers.{given, refused}
use Rattle.upload_rules.proofs.Ranges.{no_test}
use Rattle.slots.proofs.Laws.{number, given_is}
use Rattle.set_rules.specs.Words.{Set, lent_set, Fit}
use Rattle.set_rules.specs.Accepted.{Accepted}
use Rattle.set_rules.specs.Accepting.{accepts}
use Rattle.set_rules.proofs.Judged.{judged}
use Rattle.file_rules.proofs.Claims.{claims as file-claims}
use Rattle.figure_rules.specs.Totals.{sets_in, refused_in, counted_in, most_sets, FitTotals, fits_totals}
use Rattle.figure_rules.specs.Tally.{with_more, slots_tallied, bins_tallied, set_tallied, tally_outcome, tallies}
use Rattle.figure_rules.proofs.Adding.{more_long, slots_long}
use Rattle.figure_rules.proofs.Tallying.{fit_totals, is-taken, not_taken, word_most}
use Rattle.figure_rules.proofs.Within.{slots_within}
use Rattle.sets.specs.Verdicts.{accept_of}
use Rattle.slots.specs.declared.answer.Unfit.{Unfit}
use Rattle.tally.specs.Room.{RoomIn}
use Rattle.tally.proofs.Counting.{room_more}
use Rattle.tally.proofs.Looping.{bins_alone}

-- An accepted set: the sets, the slots, the bins.
module _ (s : Set) (t : List ℕ) (fit : Fit s) (long : length t ≡ 39) (room : RoomIn t 33554432) {u : List ℕ} (e : u ≡ with_more t 0 1) where
  pub slots_room : (length u ≡ 39) × RoomIn u 16793600
  slots_room = (ap length e ∙ more_long t 0 1 ∙ long, room_more t 0 1 33554432 16793600 room e (omega arith))

  module _ {v : List ℕ} (f : v ≡ slots_tallied s (length s.names / 2) u) where
    pub bins_room : (length s.bins ≤ 8160) × (length v ≡ 39) × RoomIn v 8192
    bins_room =
        let l = slots_room.0 in
        let r = room_more t 0 1 33554432 33554431 room e (omega arith) in (
          file-claims.bins s fit,
          ap length f ∙ slots_long s _ u ∙ l,
          λ j. rw f (omega (arith, r j, slots_within s fit u l j (length s.names / 2) (omega arith))),
        )

    pub set_made : {w : List ℕ} → w ≡ bins_tallied (lent_set [] s.bins s.heads s.names []) (length s.bins) v → w ≡ set_tallied s t
    unfolding set_tallied
    set_made g =
        g ∙ bins_alone s _ (length s.bins)
        ∙ ap (bins_tallied s (length s.bins)) (f ∙ ap (slots_tallied s (length s.names / 2)) e)

-- The ways of a tally.
module _ (s : Set) (t : List ℕ) {b : Bool} (e : b ≡ fits_totals t) where
  pub unfit_tallies : b ≡ false → tally_outcome (refused 1) t ≡ tallies s t
  unfolding tallies
  unfit_tallies f = simp (← e, f)

  module _ (f : b ≡ true) where
    pub in_range_lem : FitTotals t
    in_range_lem = fit_totals t (sym e ∙ f)

    pub wide_room : RoomIn t 33554432
    wide_room j = omega (arith, word_most t in_range_lem j)

    module _ {sets refused-sets : ℕ} (g : sets ≡ sets_in t) (h : refused-sets ≡ refused_in t) where
      pub counted-word : sets + refused-sets < 18446744073709551616
      counted-word = let c = in_range_lem.counted in omega arith

      pub many_tallies : most_sets ≤ sets + refused-sets → tally_outcome (refused 17) t ≡ tallies s t
      unfolding tallies
      many_tallies l = let m : most_sets ≤ counted_in t = omega arith in simp (← e, f, le-ltb (counted_in t) most_sets m)

      module _ (l : sets + refused-sets < most_sets) where
        room : counted_in t < most_sets
        room = omega arith

        pub turned-tallies : (Fit s → Accepted s → ⊥) → {u : List ℕ} → u ≡ with_more t 1 1 → tally_outcome (given 0) u ≡ tallies s t
        unfolding tallies
        turned-tallies n w = simp (← e, f, lt-ltb (counted_in t) most_sets room, not_taken s n, w)

        pub taken-tallies : Fit s → Accepted s → {u : List ℕ} → u ≡ set_tallied s t → tally_outcome (given 1) u ≡ tallies s t
        unfolding tallies
        taken-tallies fit a w = simp (← e, f, lt-ltb (counted_in t) most_sets room, is-taken s fit a, w)

-- Acceptance that says yes, and one that does not.
pub yes_fits : (s : Set) (a : Result Bool Unfit) {b : Bool} → accept_of a ≡ accepts s → b ≡ result_unwrap_or a false → b ≡ true
    → Fit s × Accepted s
yes_fits s (Ok true) e f g = (judged.accepting s).yes.0 (sym e)
yes_fits s (Ok false) e f g = absurd (no_test f g)
yes_fits s (Err u) e f g = absurd (no_test f g)

pub not-fits : (s : Set) (a : Result Bool Unfit) {b : Bool} → accept_of a ≡ accepts s → b ≡ result_unwrap_or a false → b ≡ false → Fit s
    → Accepted s
    → ⊥
not-fits s (Ok true) e f g fit acc = no_test g f
not-fits s (Ok false) e f g fit acc = omega (arith, given_is (e ∙ (judged.accepting s).yes.1 (fit, acc)))
not-fits s (Err u) e f g fit acc = omega (arith, number (e ∙ (judged.accepting s).yes.1 (fit, acc)))
