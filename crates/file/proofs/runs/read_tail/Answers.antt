-- The part that is lent is written whole.
use mathlib.Core.Path.{◌∙◌}
use Prim.Native.Nat.{◌+◌, ◌-◌}
use Rattle.std.proofs.lemmas.List.{map-id}
use native.Mathlib.Omega.{arith}
use Rattle.file.proofs.Running.{tail_read}
use Rattle.file.proofs.runs.read_tail.Goals as goal

pub returns : goal.returns
returns c =
    let a = c.args in
    let n = c.min-n.result in (
      c.min-n.ensures,
      tail_read a.words.now a.rest.now a.from n (a.from + n - a.from) (omega arith)
          (omega (arith, c.min-n.ensures, c.requires.0, c.requires.1))
          (c.read_words.ensures ∙ map-id _),
    )
