-- The loop's invariant: the rest of the word, written from here, leaves what the whole word leaves.
use mathlib.Core.Path.{◌≡◌}
use lib.ListN.{drop}
use Rattle.script_rules.specs.Feeding.{typed}
use Rattle.console.proofs.paper.put_word.Given as goal

abbrev pub invariant-loop-b : goal.invariant-loop-b
invariant-loop-b l =
    typed (record { bytes = l.out; at = l.end }) (drop l.b-index l.word) ≡ typed (record { bytes = l.initial.out; at = l.at }) l.word
