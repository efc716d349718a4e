-- The ranges, then the note, then the room.
use Rattle.set_rules.specs.Words.{lent_set}
use Rattle.file.specs.Meanings.{loader_words}
use Rattle.file.proofs.Stepping.{note_open, note_said}
use Rattle.file.proofs.Ranging.{may_not, may_said, may_open, is_fit}
use Rattle.file.proofs.load.may_go_on.Goals as goal

pub returns-then-not-fits : goal.returns-then-not-fits
returns-then-not-fits c =
    let a = c.args in
    let s = lent_set a.lengths.now a.bins.now a.heads.now a.names.now a.cells.now in
    may_not (loader_words c.args.r) s c.fits_loader-fits.ensures c.if-not-fits.true

pub returns-then-is_some : goal.returns-then-is_some
returns-then-is_some c =
    let a = c.args in
    let s = lent_set a.lengths.now a.bins.now a.heads.now a.names.now a.cells.now in
    may_said (loader_words c.args.r) s c.fits_loader-fits.ensures c.if-not-fits.false
    (note_said _ c.is_some.ensures c.if-is_some.true).1

pub has_room-requires : goal.has_room-requires
has_room-requires c =
    let a = c.args in
    let s = lent_set a.lengths.now a.bins.now a.heads.now a.names.now a.cells.now in
    is_fit (loader_words c.args.r) s c.fits_loader-fits.ensures c.if-not-fits.false

pub returns : goal.returns
returns c =
    let a = c.args in
    let s = lent_set a.lengths.now a.bins.now a.heads.now a.names.now a.cells.now in
    may_open (loader_words c.args.r) s c.fits_loader-fits.ensures c.if-not-fits.false
    (note_open _ c.is_some.ensures c.if-is_some.false) c.has_room.ensures
