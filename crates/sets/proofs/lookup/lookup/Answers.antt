-- The tests of fitness and of the table decide between 1, 10 and the search, whose looks are few enough for a word.
use mathlib.Core.Path.{sym, ◌∙◌}
use Prim.Native.Nat.{◌<◌}
use native.Mathlib.Omega.{arith}
use borrow.Author.Tests.{not-false}
use Rattle.tree.specs.Find.{searched_of}
use Rattle.tree.proofs.Claims.{few_looks}
use Rattle.sets.proofs.Sized.{fits_few}
use Rattle.sets.proofs.Looking.{unfit, unknown, searched, looks_word}
use Rattle.sets.proofs.lookup.lookup.Goals as goal

pub returns-then-not-fits : goal.returns-then-not-fits
returns-then-not-fits c =
    unfit _ _ _ _ c.fit_set-fits.ensures c.if-not-fits.true

pub returns-then-lengths-table : goal.returns-then-lengths-table
returns-then-lengths-table c =
    unknown _ _ _ _ c.fit_set-fits.ensures c.if-not-fits.false c.if-lengths-table.true

pub search-found-requires : goal.search-found-requires
search-found-requires c =
    (fits_few _ (sym c.fit_set-fits.ensures ∙ not-false c.fit_set-fits.result c.if-not-fits.false-raw), c.if-lengths-table.false)

pub returns : goal.returns
returns c =
    let fine = c.if-not-fits.false in
    let found = searched _ _ _ _ c.fit_set-fits.ensures fine c.if-lengths-table.false c.search-found.ensures in
    let few : (searched_of c.search-found.result).looks < 4294967296 = omega (
      arith,
      looks_word _ _ _ _ c.fit_set-fits.ensures fine found,
    ) in
    c.in_a_word.ensures ∙ few_looks _ few ∙ found
