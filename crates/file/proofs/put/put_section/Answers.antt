-- The words come behind the four bytes of the count.
use Rattle.endian.specs.Bytes.{words_bytes}
use Rattle.file.proofs.Laying.{counted-put}
use Rattle.file.proofs.put.put_section.Goals as goal

pub returns : goal.returns
returns c =
    let a = c.args in
    counted-put a.out.now a.at a.count (words_bytes 4 a.words.now) c.put_little.ensures c.put_words.ensures
