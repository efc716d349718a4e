-- The loop's invariant: clearing the lines left clears them all.
use mathlib.Core.Path.{◌≡◌}
use Rattle.index_rules.specs.Rollback.{blanked}
use Rattle.index.proofs.journal.blank.Given as goal

abbrev pub invariant-loop-c : goal.invariant-loop-c
invariant-loop-c l = blanked l.c l.lines l.m ≡ blanked l.count l.initial.lines l.m
