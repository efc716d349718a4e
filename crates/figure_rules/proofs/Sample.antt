-- Computed from the definitions, the loader's among them.
use mathlib.Core.Path.{◌≡◌, refl}
use mathlib.Core.Bool.{false}
use Rattle.slots.specs.Words.{cell, name_of}
use Rattle.slots.specs.Answers.{given}
use Rattle.tree_rules.specs.Chain.{tally}
use Rattle.tree_rules.specs.Check.{links_in}
use Rattle.index_rules.specs.Sound.{is_cleared, slot_fine, slots_fine}
use Rattle.set_rules.specs.Words.{bins_before, doubling, doubled, fit_tables, fits, bin_of, bini}
use Rattle.set_rules.specs.Accepting.{is_home, is_list_slot, same_pair, unlike, list_slot_fine, list_fine, may_stand, own_fine}
use Rattle.set_rules.specs.Accepting.{bin_asks, below_fine, bin_fine, table_fine, is_blank, headers_fine, all_held, accepted}
use Rattle.set_rules.specs.Lookup.{has_pair, sought_in_list, forwarded, lookups_fit}
use Rattle.file_rules.specs.Layout.{slot_width, slot_field, field_of, section_words, most_of, can_hold}
use Rattle.file_rules.specs.Loader.{next_width, slot_long, words_long, begun_long, wholes_long, taken_of}
use Rattle.file_rules.specs.Loading.{load_refused, after_words, may_count, word_came, with_byte}
use Rattle.file_rules.specs.Loading.{byte_stored, byte_loaded, cut_out, rests_zeroed}
use Rattle.file_rules.specs.Loading.{end_judged, end_loaded}
use Rattle.figure_rules.specs.Totals.{no_totals, words_fit, fits_totals}
use Rattle.figure_rules.specs.Tally.{with_more, row_word, entry_tallied, slot_looks, slot_tallied, slots_tallied, bin_tallied, bins_tallied}
use Rattle.figure_rules.specs.Tally.{set_tallied, tally_outcome, tallies}
use Rattle.figure_rules.specs.Stream.{week_slices, set_to_tally, figures, with_set, set_ends, awaits, length_byte, byte_figured}
use Rattle.figure_rules.specs.Stream.{bytes_figured, input_ends, figures_of}
use Rattle.figure_rules.specs.Sample.{list_of_two, totals_of_two, input_of_two}

pub two_tallied : tallies list_of_two no_totals ≡ tally_outcome (given 1) (totals_of_two 0)
unfolding cell name_of tally links_in is_cleared slot_fine slots_fine bins_before doubling doubled fit_tables fits bin_of bini is_home
    is_list_slot same_pair unlike list_slot_fine list_fine may_stand own_fine bin_asks below_fine bin_fine table_fine is_blank headers_fine
    all_held accepted has_pair sought_in_list forwarded lookups_fit words_fit fits_totals with_more row_word entry_tallied slot_looks
    slot_tallied slots_tallied bin_tallied bins_tallied set_tallied tallies
two_tallied = refl

pub two_figured : figures_of input_of_two ≡ figures (totals_of_two 1) false
unfolding cell name_of tally links_in is_cleared slot_fine slots_fine bins_before doubling doubled fit_tables fits bin_of bini is_home
    is_list_slot same_pair unlike list_slot_fine list_fine may_stand own_fine bin_asks below_fine bin_fine table_fine is_blank headers_fine
    all_held accepted has_pair sought_in_list forwarded lookups_fit words_fit fits_totals with_more row_word entry_tallied slot_looks
    slot_tallied slots_tallied bin_tallied bins_tallied set_tallied tallies
    slot_width slot_field field_of section_words most_of can_hold next_width slot_long words_long begun_long wholes_long taken_of
    load_refused after_words may_count word_came with_byte byte_stored byte_loaded cut_out rests_zeroed end_judged end_loaded week_slices
    set_to_tally with_set set_ends awaits length_byte byte_figured bytes_figured input_ends figures_of
two_figured = refl
