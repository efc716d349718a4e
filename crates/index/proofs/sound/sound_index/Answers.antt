-- The journal's test comes first, then the full check, which has the tree's.
use Rattle.index.proofs.Asking.{unfit_journal, fit_journal}
use Rattle.index.proofs.sound.sound_index.Goals as goal

pub returns-then-not-fit_journal : goal.returns-then-not-fit_journal
returns-then-not-fit_journal c = unfit_journal _ c.fit_journal.ensures c.if-not-fit_journal.true

pub returns : goal.returns
returns c = fit_journal _ c.fit_journal.ensures c.if-not-fit_journal.false c.sound.ensures
