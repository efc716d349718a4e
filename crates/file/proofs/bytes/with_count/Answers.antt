-- The four counts with one put in its place.
use mathlib.Core.Path.{ap}
use mathlib.Core.List.{List}
use Prim.Native.Nat.{ℕ}
use Rattle.file_rules.specs.Loader.{loader_of}
use Rattle.upload_rules.specs.Reader.{unsaid}
use Rattle.file.proofs.Tables.{count_set}
use Rattle.file.proofs.bytes.with_count.Goals as goal

pub returns : goal.returns
returns c =
    let r = c.args.r in
    ap (λ (l : List ℕ). loader_of r.section r.at r.part l unsaid)
    (rw (c.counted.ensures, c.counted-2.ensures, c.counted-3.ensures, c.counted-4.ensures)
    (count_set _ _ _ _ r.section c.args.c c.requires))
