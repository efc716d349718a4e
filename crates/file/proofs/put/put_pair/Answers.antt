-- The key comes behind the eight bytes of the hash.
use Rattle.slots.specs.Words.{name_of, hash_part, key_part}
use Rattle.file.proofs.Laying.{two_wides}
use Rattle.file.proofs.put.put_pair.Goals as goal

pub returns : goal.returns
returns c =
    let a = c.args in
    two_wides a.out.now a.at (name_of a.names.now a.i hash_part) (name_of a.names.now a.i key_part)
    c.put_little.ensures c.name.ensures c.put_little-2.ensures c.name-2.ensures
