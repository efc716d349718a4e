-- Word after word.
use Rattle.file.specs.Meanings.{loader_words}
use Rattle.exports.proofs.Filing.{loader_put}
use Rattle.exports.proofs.files.write_loader.Goals as goal

pub returns : goal.returns
returns c =
    loader_put c.args.words.now (loader_words c.args.loader) c.put_word.ensures c.put_word-2.ensures
    c.put_word-3.ensures
    c.put_word-4.ensures c.put_word-5.ensures c.put_word-6.ensures c.put_word-7.ensures c.word.ensures
    c.put_word-8.ensures
