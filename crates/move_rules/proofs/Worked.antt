-- Each by computing.
use mathlib.Core.Path.{refl}
use Rattle.slots.specs.Words.{cell, write, name_of, sum}
use Rattle.tree_rules.specs.Chain.{tally}
use Rattle.tree_rules.specs.Check.{links_in}
use Rattle.redblack.specs.Climbing.{climbed}
use Rattle.redblack.specs.Hanging.{descended, hooked, inserted, spotted}
use Rattle.redblack.specs.Insertion.{raised, straightened, lifted, insertion_turn, insertion_turns, balanced_insertion}
use Rattle.redblack.specs.Rotate.{hung, recounted, turned, rotated}
use Rattle.index_rules.specs.Sound.{is_cleared, slot_fine, slots_fine}
use Rattle.set_rules.specs.Words.{bins_before, fits, fit_tables, doubling, doubled, bin_of, bini}
use Rattle.set_rules.specs.Accepting.{accepted, accepts, is_home, is_list_slot, same_pair}
use Rattle.set_rules.specs.Accepting.{unlike, list_slot_fine, list_fine, may_stand, own_fine}
use Rattle.set_rules.specs.Accepting.{bin_asks, below_fine, bin_fine, table_fine, is_blank, headers_fine, all_held}
use Rattle.move_rules.specs.Passes.{home_count, first_home, halves_ended, threaded, plain_slot, plained, backed, joined, joined_from}
use Rattle.move_rules.specs.Moving.{half_count, half_first, spare_from, header_for, low_header, high_header, lacks, headed_at, heads_freed}
use Rattle.move_rules.specs.Moving.{bins_moved, cells_halved, list_head, tree_head, list_laid, tree_grown, tree_heads, tree_laid, half_laid}
use Rattle.move_rules.specs.Moving.{low_laid}
use Rattle.move_rules.specs.Moving.{both_laid, parent_moved, movable, moves_bin, moves}
use Rattle.move_rules.specs.Finishing.{move_told, bin_finished, bins_finished, tables_finished, finishing}
use Rattle.move_rules.specs.Worked.{row_names, row_cells, blank_heads, row_set, pair_set, WorkedMoves}

pub worked_moves : WorkedMoves
unfolding row_names row_cells blank_heads row_set pair_set cell write name_of sum tally links_in climbed descended hooked inserted spotted
    raised straightened lifted insertion_turn insertion_turns balanced_insertion hung recounted turned rotated is_cleared slot_fine
    slots_fine bins_before fits fit_tables doubling doubled bin_of bini accepted accepts is_home is_list_slot same_pair unlike
    list_slot_fine list_fine may_stand own_fine bin_asks below_fine bin_fine table_fine is_blank headers_fine all_held home_count first_home
    halves_ended threaded plain_slot plained backed joined joined_from half_count half_first spare_from header_for low_header high_header
    lacks headed_at heads_freed bins_moved cells_halved list_head tree_head list_laid tree_grown tree_heads tree_laid half_laid low_laid
    both_laid parent_moved movable moves_bin moves move_told bin_finished bins_finished tables_finished finishing
worked_moves =
    record {
      two = refl;
      two_bins = refl;
      fourteen = refl;
      fourteen_bins = refl;
      fourteen_short = refl;
      seven = refl;
      seven_short = refl;
      last = refl;
      none = refl;
      all = refl;
      all_gone = refl;
      all_bins = refl;
      stops = refl;
    }
