-- Every claim of the crate holds: the small trees by computing, what is said of any tree by the claims of `index_rules`.
use mathlib.Core.Path.{◌≡◌, refl, ◌∙◌, ap}
use mathlib.Core.List.{List, [], ◌∷◌}
use Prim.Native.Nat.{ℕ, ◌+◌, ◌-◌, ◌<◌}
use native.Mathlib.Omega.{arith}
use lib.ListN.{length, get_or, set}
use borrow.Author.Tests.{le-ltb}
use Rattle.slots.specs.Words.{cell, write, name_of, rename, roomy, sum}
use Rattle.slots.specs.Answers.{given, nothing}
use Rattle.tree_rules.specs.Find.{slots_of, Search, ends, found, decided, looked, searched}
use Rattle.tree_rules.proofs.Searching.{at_null}
use Rattle.tree_rules.specs.Chain.{chained, tally}
use Rattle.tree_rules.specs.Check.{links_in}
use Rattle.tree_rules.specs.Rules.{stands, reached, follows, risen, all_calm, levelled, with_parts, slots_below, rises, coloured, level}
use Rattle.tree_rules.specs.Rules.{all_sized}
use Rattle.tree_rules.specs.Sizes.{has_size}
use Rattle.redblack.specs.Deletion.{capped, outer_red, inner_red, dark_sib, by_sib, deletion_turn, balanced_deletion}
use Rattle.redblack.specs.Hanging.{descended, hooked, inserted, spotted}
use Rattle.redblack.specs.Insertion.{raised, straightened, lifted, insertion_turn, insertion_turns, balanced_insertion}
use Rattle.redblack.specs.Removal.{replaced, lowered, traded, replacement, spliced, detached, dropped, leftmost, removed}
use Rattle.redblack.specs.Rotate.{hung, recounted, turned, rotated}
use Rattle.redblack.specs.Climbing.{climbed, swapped}
use Rattle.index_rules.specs.Live.{Live, unsized_of, Fit, root_of, count_of, fits_unsized, fits}
use Rattle.index_rules.specs.Sound.{Sound, sound, is_cleared, slot_fine, slots_fine, rule1, rule2, rule3, rule4, rule5, rule6, rule7}
use Rattle.index_rules.specs.Sound.{free_fine}
use Rattle.index_rules.specs.Sound.{frees_fine, rule8}
use Rattle.index_rules.specs.Find.{finds}
use Rattle.index_rules.specs.Index.{Index, FitIndex, index, outcome, length_of, whole_lines, fits_journal, fits_index, lined, appended}
use Rattle.index_rules.specs.Rollback.{rolls, unrolled, blanked}
use Rattle.index_rules.proofs.Fit.{unsized-fits, fit_unsized}
use Rattle.index_rules.proofs.Journal.{index-fits}
use Rattle.index_rules.proofs.Sounding.{sound_yes}
use Rattle.index_rules.proofs.Claims.{claims as demanded}
use Rattle.index_rules.specs.Calls.{after}
use Rattle.index_rules.specs.Insert.{free_from, lowest_free, sought_in, seated, grown, inserts}
use Rattle.index_rules.specs.Present.{where_present}
use Rattle.index_rules.specs.Remove.{unchained, wiped, shrunk, removal_of, after_remove, removes}
use Rattle.set_rules.specs.Words.{bins_before, doubling, doubled, fit_tables, bin_of, bini}
use Rattle.set_rules.specs.Words.{fits as setFits}
use Rattle.set_rules.specs.Accepting.{is_home, is_list_slot, same_pair, unlike, list_slot_fine, list_fine, may_stand, own_fine}
use Rattle.set_rules.specs.Accepting.{bin_asks, below_fine, bin_fine, table_fine, is_blank, headers_fine, all_held, accepted, accepts}
use Rattle.set_rules.specs.Cursor.{starts, level_fine, levels_fine, base_fine, fine}
use Rattle.set_rules.specs.Walk.{kept, advanced, sought, under, steps_on, nexts}
use Rattle.set_rules.specs.Held.{cursor_after as stepped}
use Rattle.worked.specs.Claims.{Claims}
use Rattle.worked.specs.Worked.{empty, zeros, free_slots, drawn, drawn_from, chain_of, chain_from, list_slots, tables, bin}
use Rattle.worked.specs.Worked.{entries_given as walks}

empty_find : (t : Live) → Fit t → Sound t → count_of t ≡ 0 → (hash key : ℕ) → finds (unsized_of t) hash key ≡ ends nothing
unfolding finds found
empty_find t fit h e hash key =
    rw (unsized-fits (unsized_of t) (fit_unsized fit))
    (at_null t.names t.cells hash key (slots_of t.names) (root_of t) (h.t2.root.1 e))

-- A word written with what it was.
set_same : (l : List ℕ) → 0 < length l → set l 0 (get_or l 0 0) ≡ l
set_same [] h = absurd (omega arith)
set_same (x ∷ l) h = refl

at_length : (ix : Index) → FitIndex ix → Sound ix.live → rolls ix (length_of ix.lines) ≡ outcome (given 0) ix
unfolding rolls unrolled blanked
at_length ix fit h =
    let z : length_of ix.lines - length_of ix.lines ≡ 0 = omega arith in
    let e : rolls ix (length_of ix.lines) ≡ outcome (given 0) (index ix.live (set ix.lines 0 (length_of ix.lines))) =
    rw (index-fits ix fit, sound_yes fit.tree h, le-ltb (length_of ix.lines) (length_of ix.lines) (omega arith), z, z) in
    e ∙ ap (λ (l : List ℕ). outcome (given 0) (index ix.live l)) (set_same ix.lines (omega (arith, fit.words)))

-- The walk of the worked tables.
walk_order : walks 7 tables (starts tables 0).cursor ≡ bin 2 0 ∷ (bin 2 4 ∷ (bin 2 2 ∷ (bin 2 6 ∷ (bin 1 1 ∷ (bin 1 3 ∷ [])))))
unfolding walks tables list_slots cell name_of bins_before doubling doubled fit_tables setFits bin_of starts level_fine levels_fine
    base_fine fine kept
    advanced sought under steps_on nexts
walk_order = refl

tables-accepted : accepts tables ≡ given 1
unfolding tables list_slots cell name_of tally links_in is_cleared slot_fine slots_fine bins_before doubling doubled fit_tables setFits
    bin_of bini is_home is_list_slot same_pair unlike list_slot_fine list_fine may_stand own_fine bin_asks below_fine bin_fine
    table_fine is_blank headers_fine all_held accepted accepts
tables-accepted = refl

walk_done : (nexts tables (stepped 6 tables (starts tables 0).cursor)).answer ≡ nothing
unfolding tables list_slots cell bins_before doubling doubled fit_tables setFits bin_of starts level_fine levels_fine base_fine fine
    kept advanced sought under steps_on nexts stepped
walk_done = refl

pub claims : Claims
unfolding empty zeros free_slots drawn drawn_from chain_of chain_from cell write name_of rename roomy chained tally links_in decided
    looked searched found stands reached follows risen all_calm levelled with_parts has_size slots_below rises coloured level all_sized
    capped outer_red inner_red dark_sib by_sib deletion_turn balanced_deletion descended hooked inserted spotted raised straightened
    lifted insertion_turn insertion_turns balanced_insertion replaced lowered traded replacement spliced detached dropped leftmost
    removed hung recounted turned rotated climbed swapped sum after whole_lines fits_journal fits_index lined appended free_from
    lowest_free sought_in seated grown inserts fits_unsized fits unchained wiped shrunk removal_of where_present after_remove removes
    is_cleared slot_fine slots_fine rule1 rule2 rule3 rule4 rule5 rule6 rule7 free_fine frees_fine rule8 sound
claims =
    record {
      empty_find = empty_find;
      empty_remove = λ ix fit h e hash key.
          (demanded.remove ix hash key).asks.four.1 (
            fit,
            (
              h,
              (demanded.find_sound ix.live fit.tree h hash key).none.0
                  (ap (λ (s : Search). s.answer) (empty_find ix.live fit.tree h e hash key)),
            ),
          );
      three_tree = refl;
      three_chain = refl;
      four_tree = refl;
      three-left = refl;
      two_left = refl;
      heir_of_three = refl;
      heir_of_four = refl;
      twice = refl;
      brim = refl;
      brim_again = refl;
      no_line_lem = λ ix fit h one hash key p x absent lowest.
          (demanded.insert ix hash key p).six.1 (fit, (h, absent, (x, lowest), omega (arith, fit.words, fit.within, one)));
      at_length = at_length;
      one_more_lem = λ ix fit h. (demanded.rollback ix (length_of ix.lines + 1)).seven.1 (fit, h, omega arith);
      both_tree = refl;
      both_looks = refl;
      tables-accepted = tables-accepted;
      walk_order = walk_order;
      walk_done = walk_done;
    }
