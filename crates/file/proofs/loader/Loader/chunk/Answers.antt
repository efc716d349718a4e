-- Where it may go on, the bytes are taken one after another.
use Rattle.set_rules.specs.Words.{lent_set}
use Rattle.file_rules.specs.Loading.{loading}
use Rattle.file.specs.Meanings.{loader_words}
use Rattle.file.proofs.Stepping.{goes, chunk_unfit, chunk_done}
use Rattle.file.proofs.loader.Loader.chunk.Goals as goal

pub returns-then-not-may : goal.returns-then-not-may
returns-then-not-may c =
    let a = c.args in
    let s = lent_set a.lengths.now a.bins.now a.heads.now a.names.now a.cells.now in
    chunk_unfit (loading (loader_words a.self) s) c.may_go_on-may.ensures a.chunk.now
    c.if-not-may.true

pub take_all-loader-requires : goal.take_all-loader-requires
take_all-loader-requires c =
    let a = c.args in
    let s = lent_set a.lengths.now a.bins.now a.heads.now a.names.now a.cells.now in
    goes (loading (loader_words a.self) s) c.may_go_on-may.ensures c.if-not-may.false

pub reply_of-reply-requires : goal.reply_of-reply-requires
reply_of-reply-requires c =
    c.take_all-loader.ensures.1

pub returns : goal.returns
returns c =
    let a = c.args in
    let s = lent_set a.lengths.now a.bins.now a.heads.now a.names.now a.cells.now in
    chunk_done (loading (loader_words a.self) s) c.may_go_on-may.ensures a.chunk.now
    c.if-not-may.false c.take_all-loader.ensures.0 c.reply_of-reply.ensures
