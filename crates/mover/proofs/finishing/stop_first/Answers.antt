use mathlib.Core.Path.{ap, sym, ◌∙◌}
use mathlib.Core.List.{List}
use Prim.Native.Nat.{ℕ}
use native.Mathlib.Omega.{arith}
use lib.ListN.{length, get_or}
use Rattle.mover.proofs.Turns.{stopped_first, none_stopped}
use Rattle.mover.proofs.finishing.stop_first.Goals as goal

pub returns-then-lengths-table-ne0 : goal.returns-then-lengths-table-ne0
returns-then-lengths-table-ne0 c =
    let l = c.loop-table in
    λ s e h. stopped_first s c.args.refusal h l.table (λ j b. ap (λ (x : List ℕ). get_or x j 0) e ∙ l.invariant j b)
    (omega (arith, ap length e))
    (λ z. c.if-lengths-table-ne0.true (ap (λ (x : List ℕ). get_or x l.table 0) (sym e) ∙ z))

pub returns : goal.returns
returns c =
    let l = c.loop-table in
    λ s e h. none_stopped s c.args.refusal h (λ j b. ap (λ (x : List ℕ). get_or x j 0) e ∙ l.invariant j (omega (arith, ap length e)))
