use mathlib.Core.Path.{◌≡◌, refl, sym, ap, ◌∙◌}
use native.Mathlib.Omega.{arith}
use borrow.Author.Rules.{rules}
use Rattle.sets.proofs.Sized.{begins_on, begins_most}
use Rattle.sets.proofs.Looking.{at-empty, at_bad, at_list, at_tree, at_end, at_moved}
use Rattle.set_rules.specs.Words.{Set}
use Rattle.set_rules.specs.Lookup.{home_bin}
use Rattle.sets.specs.Bins.{bin_as}
use Rattle.sets.proofs.lookup.search.Goals as goal

pub loop-k-init : goal.loop-k-init
loop-k-init c =
    let a = c.args in
    let most = begins_most 4294967295 a.lengths.now (λ j. omega (arith, c.type_inv.lengths j)) a.table in
    (refl, search rules, search rules, c.bins_before-from.ensures, omega (arith, most, c.bins_before-from.ensures))

pub loop-k-preserved : goal.loop-k-preserved
loop-k-preserved c =
    let a = c.args in
    let s : Set = record { lengths = a.lengths.now; bins = a.bins.now; heads = a.heads.now; names = a.names.now; cells = a.cells.now } in
    let told : bin_as c.home_bin-bin.result ≡ home_bin s c.loop-k.k a.hash
    = rw (c.home_bin-bin.ensures, c.length_at-length.ensures, c.loop-k.invariant.3) refl in (
      at_moved s a.hash a.key c.loop-k.k c.loop-k.invariant.0 c.loop-k-test.true
          (ap bin_as (sym c.in-Moved.is) ∙ told),
      search rules,
      search rules,
      omega (arith, begins_on a.lengths.now c.loop-k.k, c.length_at-length.ensures),
      search rules,
    )

pub returns-in-Empty : goal.returns-in-Empty
returns-in-Empty c =
    let a = c.args in
    let s : Set = record { lengths = a.lengths.now; bins = a.bins.now; heads = a.heads.now; names = a.names.now; cells = a.cells.now } in
    let told : bin_as c.home_bin-bin.result ≡ home_bin s c.loop-k.k a.hash
    = rw (c.home_bin-bin.ensures, c.length_at-length.ensures, c.loop-k.invariant.3) refl in
    at-empty s a.hash a.key c.loop-k.k c.loop-k.invariant.0 c.loop-k-test.true
    (ap bin_as (sym c.in-Empty.is) ∙ told)

pub returns-in-List : goal.returns-in-List
returns-in-List c =
    let a = c.args in
    let s : Set = record { lengths = a.lengths.now; bins = a.bins.now; heads = a.heads.now; names = a.names.now; cells = a.cells.now } in
    let told : bin_as c.home_bin-bin.result ≡ home_bin s c.loop-k.k a.hash
    = rw (c.home_bin-bin.ensures, c.length_at-length.ensures, c.loop-k.invariant.3) refl in
    at_list s a.hash a.key c.loop-k.k c.loop-k.invariant.0 c.loop-k-test.true
    (ap bin_as (sym c.in-List.is) ∙ told) c.find_in_list.ensures

pub returns-in-Tree : goal.returns-in-Tree
returns-in-Tree c =
    let a = c.args in
    let s : Set = record { lengths = a.lengths.now; bins = a.bins.now; heads = a.heads.now; names = a.names.now; cells = a.cells.now } in
    let told : bin_as c.home_bin-bin.result ≡ home_bin s c.loop-k.k a.hash
    = rw (c.home_bin-bin.ensures, c.length_at-length.ensures, c.loop-k.invariant.3) refl in
    at_tree s a.hash a.key c.loop-k.k c.loop-k.invariant.0 c.loop-k-test.true
    (ap bin_as (sym c.in-Tree.is) ∙ told) c.header-root.ensures c.find_tree_node.ensures

pub returns-in-Bad : goal.returns-in-Bad
returns-in-Bad c =
    let a = c.args in
    let s : Set = record { lengths = a.lengths.now; bins = a.bins.now; heads = a.heads.now; names = a.names.now; cells = a.cells.now } in
    let told : bin_as c.home_bin-bin.result ≡ home_bin s c.loop-k.k a.hash
    = rw (c.home_bin-bin.ensures, c.length_at-length.ensures, c.loop-k.invariant.3) refl in
    at_bad s a.hash a.key c.loop-k.k c.loop-k.invariant.0 c.loop-k-test.true
    (ap bin_as (sym c.in-Bad.is) ∙ told)

pub returns : goal.returns
returns c =
    let a = c.args in
    let s : Set = record { lengths = a.lengths.now; bins = a.bins.now; heads = a.heads.now; names = a.names.now; cells = a.cells.now } in
    at_end s a.hash a.key c.loop-k.k c.loop-k.invariant.0 c.loop-k-test.false
