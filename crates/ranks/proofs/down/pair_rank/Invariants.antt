-- The loop's invariant: the way from here, past what was counted, ends where the way from the root does. The library's sum that wraps is
-- the model's to the letter.
use Rattle.std.proofs.Common.{◌≡◌}
use Rattle.tree_rules.specs.Ranks.{rank_from}
use Rattle.ranks.proofs.down.pair_rank.Given as goal

abbrev pub invariant-loop-left : goal.invariant-loop-left
invariant-loop-left l =
    rank_from l._left l.names l.cells l.sizes l.i l.hash l.key l.m
    ≡ rank_from l.steps l.names l.cells l.sizes l.root l.hash l.key 0
