-- The insert is accepted, or its refusal goes up; where the check says no, so would the rollback's.
use mathlib.Core.Path.{ap, sym, ◌∙◌}
use Rattle.std.specs.Prelude.{Result, ℕ}
use Rattle.index.specs.Calls.{inserted_of}
use Rattle.index.specs.declared.insert.InsertRefusal.{InsertRefusal}
use Rattle.reader.proofs.Coming.{last_taken, last_refused, last_denied}
use Rattle.reader.proofs.Trusting.{insert_refused, step_down}
use Rattle.reader.proofs.steps.take_last.Goals as goal

pub returns-in-Ok : goal.returns-in-Ok
returns-in-Ok c =
    record {
      same = last_taken _ _ _ c.name_byte-key.ensures c.enter-entered.ensures.same
          (ap (λ (x : Result ℕ InsertRefusal). (inserted_of x).number) c.in-Ok.is) c.owe.ensures;
      ready = c.enter-entered.ensures.ready;
    }

pub returns-in-Some : goal.returns-in-Some
returns-in-Some c =
    step_down
    (last_refused _ _ _ c.name_byte-key.ensures c.enter-entered.ensures.same (insert_refused c.in-Err.is)
    (c.into.ensures ∙ ap inserted_of (sym c.in-Err.is)) c.turn_down-reader.ensures)

pub returns-in-None : goal.returns-in-None
returns-in-None c =
    let d = c.enter-entered.ensures.denied c.in-None.is in
    step_down
    (last_denied _ _ _ c.name_byte-key.ensures c.enter-entered.ensures.same d.0 d.1
    (c.into-in-None.ensures ∙ ap inserted_of (sym c.in-Err.is)) c.noting-reader.ensures)
