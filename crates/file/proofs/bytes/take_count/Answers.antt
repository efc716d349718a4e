-- A count that may be taken, and one over its limit.
use Rattle.set_rules.specs.Words.{lent_set}
use Rattle.file.specs.Meanings.{loader_words}
use Rattle.file.proofs.Bytewise.{count-refused, count-taken, count_small}
use Rattle.file.proofs.bytes.take_count.Goals as goal

pub returns-then-not-may : goal.returns-then-not-may
returns-then-not-may c =
    let a = c.args in
    let s = lent_set a.lengths.now a.bins.now a.heads.now a.names.now a.cells.now in
    count-refused (loader_words c.args.r) s c.requires.1 c.requires.0 _ c.may_count-may.ensures
    c.if-not-may.true
    c.refuse.ensures

pub with_count-counted-requires : goal.with_count-counted-requires
with_count-counted-requires c =
    c.requires.1

pub after_words-requires : goal.after_words-requires
after_words-requires c =
    let a = c.args in
    let s = lent_set a.lengths.now a.bins.now a.heads.now a.names.now a.cells.now in
    count_small (loader_words c.args.r) s c.requires.1 c.requires.0 _ c.may_count-may.ensures
    c.if-not-may.false
    c.with_count-counted.ensures

pub returns : goal.returns
returns c =
    let a = c.args in
    let s = lent_set a.lengths.now a.bins.now a.heads.now a.names.now a.cells.now in
    count-taken (loader_words c.args.r) s c.requires.1 c.requires.0 _ c.may_count-may.ensures
    c.if-not-may.false
    c.with_count-counted.ensures c.after_words.ensures
