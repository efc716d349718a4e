-- Each count is asked by itself.
use mathlib.Core.Path.{◌≡◌}
use mathlib.Core.Bool.{true}
use Prim.Native.Nat.{ℕ, ◌<◌}
use Rattle.file_rules.specs.Loader.{count_fits}
use Rattle.file.specs.Meanings.{loader_words}
use Rattle.file.proofs.loader.counts_fit.Given as goal

abbrev pub invariant-loop-s : goal.invariant-loop-s
invariant-loop-s l = (k : ℕ) → k < l.s → count_fits (loader_words l.r) k ≡ true
