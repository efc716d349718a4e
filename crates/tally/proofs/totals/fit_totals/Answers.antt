-- Three tests, and the ranges of the other words.
use Rattle.tally.proofs.Looping.{not_39, sets_high, refused_high, words_asked}
use Rattle.tally.proofs.totals.fit_totals.Goals as goal

pub returns-then-totals-ne-WORDS : goal.returns-then-totals-ne-WORDS
returns-then-totals-ne-WORDS c = not_39 c.args.totals.now c.if-totals-ne-WORDS.true

pub returns-then-sets-gt-MOST_SETS : goal.returns-then-sets-gt-MOST_SETS
returns-then-sets-gt-MOST_SETS c =
    sets_high c.args.totals.now c.if-totals-ne-WORDS.false c.word-sets.ensures c.if-sets-gt-MOST_SETS.true

pub returns-then-sets-refused : goal.returns-then-sets-refused
returns-then-sets-refused c =
    refused_high c.args.totals.now c.if-totals-ne-WORDS.false c.word-sets.ensures c.if-sets-gt-MOST_SETS.false c.word-refused.ensures
    c.if-sets-refused.true

pub words_fit-requires : goal.words_fit-requires
words_fit-requires c = (c.word-sets.ensures, c.if-sets-gt-MOST_SETS.false)

pub returns : goal.returns
returns c =
    words_asked c.args.totals.now c.if-totals-ne-WORDS.false c.word-sets.ensures c.if-sets-gt-MOST_SETS.false c.word-refused.ensures
    c.if-sets-refused.false
    c.words_fit.ensures
