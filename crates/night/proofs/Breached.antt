-- Which part of the model is asked, by the number of the rule that is told.
use mathlib.Core.Path.{◌≡◌}
use mathlib.Core.Logic.{◌≢◌}
use borrow.Author.Tests.{eq-eqb, ne_eqb}
use Rattle.slots.specs.Words.{null}
use Rattle.index_rules.specs.Live.{Live}
use Rattle.night_rules.specs.Account.{Account}
use Rattle.night_rules.specs.Breach.{header1, header2, breach1, breach3, breach4, breach5, breach7, breach8, uneven, breach}

module _ (t : Live) (w : Account) where
  pub in_header1 : w.rule ≡ 1 → w.slot ≡ null → header1 t ≡ breach t w
  unfolding breach
  in_header1 e z = rw (e, eq-eqb w.slot null z)

  pub at_slot1 : w.rule ≡ 1 → w.slot ≢ null → breach1 t w.slot ≡ breach t w
  unfolding breach
  at_slot1 e z = rw (e, ne_eqb w.slot null z)

  pub in_header2 : w.rule ≡ 2 → header2 t ≡ breach t w
  unfolding breach
  in_header2 e = rw e

  pub at_slot3 : w.rule ≡ 3 → breach3 t w.slot ≡ breach t w
  unfolding breach
  at_slot3 e = rw e

  pub at_slot4 : w.rule ≡ 4 → breach4 t.names w.slot w.other ≡ breach t w
  unfolding breach
  at_slot4 e = rw e

  pub at_slot5 : w.rule ≡ 5 → breach5 t w.slot ≡ breach t w
  unfolding breach
  at_slot5 e = rw e

  pub at_slot6 : w.rule ≡ 6 → uneven w.one.blacks w.two.blacks ≡ breach t w
  unfolding breach
  at_slot6 e = rw e

  pub at_slot7 : w.rule ≡ 7 → breach7 t w.slot ≡ breach t w
  unfolding breach
  at_slot7 e = rw e

  pub at_slot8 : w.rule ≢ 1 → w.rule ≢ 2 → w.rule ≢ 3 → w.rule ≢ 4 → w.rule ≢ 5 → w.rule ≢ 6 → w.rule ≢ 7
      → breach8 t w.slot ≡ breach t w
  unfolding breach
  at_slot8 a b c d e f g =
      rw (ne_eqb _ 1 a, ne_eqb _ 2 b, ne_eqb _ 3 c, ne_eqb _ 4 d, ne_eqb _ 5 e, ne_eqb _ 6 f, ne_eqb _ 7 g)
