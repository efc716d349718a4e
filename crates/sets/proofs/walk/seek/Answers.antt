use borrow.Author.Rules.{rules}
use mathlib.Core.Path.{refl, ap}
use mathlib.Core.List.{[]}
use native.Mathlib.Omega.{arith}
use Rattle.set_rules.specs.Words.{Set}
use Rattle.sets.specs.Bins.{bin_as}
use Rattle.set_rules.specs.Walk.{walk_point}
use Rattle.sets.proofs.Walking.{stops, not_shorter, base_more, passes, passes_less, descends, descends_less, no_table}
use Rattle.sets.proofs.Walking.{bad_word, from_list, from_tree, no_first}
use Rattle.sets.proofs.walk.seek.Goals as goal

pub loop-i-init : goal.loop-i-init
loop-i-init c = (record { good = c.requires; same = refl }, search rules, search rules)

pub index_at-i-requires : goal.index_at-i-requires
index_at-i-requires c =
    let g = c.loop-i.invariant.0.good in
    omega (arith, g.deep, g.few)

pub overflow_add-base : goal.overflow_add-base
overflow_add-base c =
    let g = c.loop-i.invariant.0.good in
    omega (arith, g.deep, g.few)

pub overflow_sub-from : goal.overflow_sub-from
overflow_sub-from c =
    let a = c.args in
    let s : Set = record { lengths = a.lengths.now; bins = a.bins.now; heads = a.heads.now; names = a.names.now; cells = [] } in
    not_shorter s a.base c.loop-i.d c.loop-i.indexes (walk_point a.depth a.indexes.now) c.loop-i.invariant.0
    c.index_at-i.ensures c.length_at-length.ensures c.length_at-first.ensures

pub advance-d-requires : goal.advance-d-requires
advance-d-requires c =
    let a = c.args in
    let s : Set = record { lengths = a.lengths.now; bins = a.bins.now; heads = a.heads.now; names = a.names.now; cells = [] } in
    let g = c.loop-i.invariant.0.good in
    let more =
    base_more s a.base c.loop-i.d c.loop-i.indexes (walk_point a.depth a.indexes.now) c.loop-i.invariant.0
    c.index_at-i.ensures c.length_at-length.ensures c.if-length-i.false
    c.length_at-first.ensures c.bin_from-bin.ensures in
    let most = c.type_inv.lengths a.base in
    (omega (arith, g.deep, g.few), omega (arith, g.deep, g.few), omega (arith, more, most))

pub loop-i-smaller-in-Empty : goal.loop-i-smaller-in-Empty
loop-i-smaller-in-Empty c =
    let a = c.args in
    let s : Set = record { lengths = a.lengths.now; bins = a.bins.now; heads = a.heads.now; names = a.names.now; cells = [] } in
    passes_less
    s
    a.base
    c.loop-i.d
    c.loop-i.indexes
    (walk_point a.depth a.indexes.now)
    c.loop-i.invariant.0
    c.index_at-i.ensures
    c.length_at-length.ensures
    c.if-length-i.false
    c.length_at-first.ensures
    c.bin_from-bin.ensures
    c.advance-d.ensures

pub loop-i-preserved-in-Empty : goal.loop-i-preserved-in-Empty
loop-i-preserved-in-Empty c =
    let a = c.args in
    let s : Set =
    record { lengths = a.lengths.now; bins = a.bins.now; heads = a.heads.now; names = a.names.now; cells = [] } in (
      passes
          s
          a.base
          c.loop-i.d
          c.loop-i.indexes
          (walk_point a.depth a.indexes.now)
          c.loop-i.invariant.0
          c.index_at-i.ensures
          c.length_at-length.ensures
          c.if-length-i.false
          c.length_at-first.ensures
          c.bin_from-bin.ensures
          (ap bin_as c.in-Empty.is)
          c.advance-d.ensures,
      search rules,
      search rules,
    )

pub loop-i-smaller : goal.loop-i-smaller
loop-i-smaller c =
    let a = c.args in
    let s : Set = record { lengths = a.lengths.now; bins = a.bins.now; heads = a.heads.now; names = a.names.now; cells = [] } in
    descends_less
    s
    a.base
    c.loop-i.d
    c.loop-i.indexes
    (walk_point a.depth a.indexes.now)
    c.loop-i.invariant.0
    c.index_at-i.ensures
    c.length_at-length.ensures
    c.if-length-i.false
    c.length_at-first.ensures
    c.bin_from-bin.ensures
    c.if-lengths-base.false
    c.set_index.ensures

pub loop-i-preserved : goal.loop-i-preserved
loop-i-preserved c =
    let a = c.args in
    let s : Set =
    record { lengths = a.lengths.now; bins = a.bins.now; heads = a.heads.now; names = a.names.now; cells = [] } in (
      descends
          s
          a.base
          c.loop-i.d
          c.loop-i.indexes
          (walk_point a.depth a.indexes.now)
          c.loop-i.invariant.0
          c.index_at-i.ensures
          c.length_at-length.ensures
          c.if-length-i.false
          c.length_at-first.ensures
          c.bin_from-bin.ensures
          (ap bin_as c.in-Moved.is)
          c.if-lengths-base.false
          c.set_index.ensures,
      search rules,
      search rules,
    )

pub advance-after-requires : goal.advance-after-requires
advance-after-requires c =
    let a = c.args in
    let s : Set = record { lengths = a.lengths.now; bins = a.bins.now; heads = a.heads.now; names = a.names.now; cells = [] } in
    let g = c.loop-i.invariant.0.good in
    let more =
    base_more s a.base c.loop-i.d c.loop-i.indexes (walk_point a.depth a.indexes.now) c.loop-i.invariant.0
    c.index_at-i.ensures c.length_at-length.ensures c.if-length-i.false
    c.length_at-first.ensures c.bin_from-bin.ensures in
    let most = c.type_inv.lengths a.base in
    (omega (arith, g.deep, g.few), omega (arith, g.deep, g.few), omega (arith, more, most))

pub advance-after-requires-in-Tree : goal.advance-after-requires-in-Tree
advance-after-requires-in-Tree c =
    let a = c.args in
    let s : Set = record { lengths = a.lengths.now; bins = a.bins.now; heads = a.heads.now; names = a.names.now; cells = [] } in
    let g = c.loop-i.invariant.0.good in
    let more =
    base_more s a.base c.loop-i.d c.loop-i.indexes (walk_point a.depth a.indexes.now) c.loop-i.invariant.0
    c.index_at-i.ensures c.length_at-length.ensures c.if-length-i.false
    c.length_at-first.ensures c.bin_from-bin.ensures in
    let most = c.type_inv.lengths a.base in
    (omega (arith, g.deep, g.few), omega (arith, g.deep, g.few), omega (arith, more, most))

pub returns-then-length-i : goal.returns-then-length-i
returns-then-length-i c =
    let a = c.args in
    let s : Set = record { lengths = a.lengths.now; bins = a.bins.now; heads = a.heads.now; names = a.names.now; cells = [] } in
    stops
    s
    a.base
    c.loop-i.d
    c.loop-i.indexes
    (walk_point a.depth a.indexes.now)
    c.loop-i.invariant.0
    c.index_at-i.ensures
    c.length_at-length.ensures
    c.if-length-i.true

pub returns-then-lengths-base : goal.returns-then-lengths-base
returns-then-lengths-base c =
    let a = c.args in
    let s : Set = record { lengths = a.lengths.now; bins = a.bins.now; heads = a.heads.now; names = a.names.now; cells = [] } in
    no_table
    s
    a.base
    c.loop-i.d
    c.loop-i.indexes
    (walk_point a.depth a.indexes.now)
    c.loop-i.invariant.0
    c.index_at-i.ensures
    c.length_at-length.ensures
    c.if-length-i.false
    c.length_at-first.ensures
    c.bin_from-bin.ensures
    (ap bin_as c.in-Moved.is)
    c.if-lengths-base.true

pub returns-in-List : goal.returns-in-List
returns-in-List c =
    let a = c.args in
    let s : Set = record { lengths = a.lengths.now; bins = a.bins.now; heads = a.heads.now; names = a.names.now; cells = [] } in
    from_list
    s
    a.base
    c.loop-i.d
    c.loop-i.indexes
    (walk_point a.depth a.indexes.now)
    c.loop-i.invariant.0
    c.index_at-i.ensures
    c.length_at-length.ensures
    c.if-length-i.false
    c.length_at-first.ensures
    c.bin_from-bin.ensures
    (ap bin_as c.in-List.is)
    c.advance-after.ensures

pub returns-then-n-first : goal.returns-then-n-first
returns-then-n-first c =
    let a = c.args in
    let s : Set = record { lengths = a.lengths.now; bins = a.bins.now; heads = a.heads.now; names = a.names.now; cells = [] } in
    no_first
    s
    a.base
    c.loop-i.d
    c.loop-i.indexes
    (walk_point a.depth a.indexes.now)
    c.loop-i.invariant.0
    c.index_at-i.ensures
    c.length_at-length.ensures
    c.if-length-i.false
    c.length_at-first.ensures
    c.bin_from-bin.ensures
    (ap bin_as c.in-Tree.is)
    c.header-first.ensures
    c.if-n-first.true

pub returns-else-n-first : goal.returns-else-n-first
returns-else-n-first c =
    let a = c.args in
    let s : Set = record { lengths = a.lengths.now; bins = a.bins.now; heads = a.heads.now; names = a.names.now; cells = [] } in
    from_tree
    s
    a.base
    c.loop-i.d
    c.loop-i.indexes
    (walk_point a.depth a.indexes.now)
    c.loop-i.invariant.0
    c.index_at-i.ensures
    c.length_at-length.ensures
    c.if-length-i.false
    c.length_at-first.ensures
    c.bin_from-bin.ensures
    (ap bin_as c.in-Tree.is)
    c.header-first.ensures
    c.if-n-first.false
    c.advance-after-in-Tree.ensures

pub returns-in-Bad : goal.returns-in-Bad
returns-in-Bad c =
    let a = c.args in
    let s : Set = record { lengths = a.lengths.now; bins = a.bins.now; heads = a.heads.now; names = a.names.now; cells = [] } in
    bad_word
    s
    a.base
    c.loop-i.d
    c.loop-i.indexes
    (walk_point a.depth a.indexes.now)
    c.loop-i.invariant.0
    c.index_at-i.ensures
    c.length_at-length.ensures
    c.if-length-i.false
    c.length_at-first.ensures
    c.bin_from-bin.ensures
    (ap bin_as c.in-Bad.is)
