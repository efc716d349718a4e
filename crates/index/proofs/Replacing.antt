-- replace_sound as its tests settle it, and what an accepted one leaves.
use mathlib.Core.Path.{◌≡◌}
use mathlib.Core.List.{List}
use Prim.Native.Nat.{ℕ}
use Rattle.slots.specs.Words.{place, cell, write}
use Rattle.slots.specs.Answers.{given}
use Rattle.index_rules.specs.Live.{lent_tree}
use Rattle.index_rules.specs.Index.{Index, index, outcome, both_places, replace_kind, plain_line, appended}
use Rattle.index_rules.specs.Replace.{placed_at, after_replace}
use Rattle.index_rules.specs.Checked.{replaces_sound}
use Rattle.index.proofs.Asking.{Settled}
use Rattle.index.proofs.Presenting.{settled_by}

module _ (ix : Index) (hash key p : ℕ) where
  pub settled : Settled ix (after_replace ix hash key p) (replaces_sound ix hash key p)
  unfolding replaces_sound
  settled = settled_by ix hash key (after_replace ix hash key p)

  pub moved : {x old w : ℕ} {c l : List ℕ} → old ≡ cell ix.live.cells x place → c ≡ write ix.live.cells x place p
      → w ≡ both_places p old
      → l ≡ appended ix.lines (plain_line replace_kind hash key w)
      → outcome (given x) (after_replace ix hash key p x) ≡ replaces_sound ix hash key p
      → outcome (given x) (index (lent_tree ix.live.names c ix.live.head ix.live.sizes) l) ≡ replaces_sound ix hash key p
  unfolding after_replace placed_at
  moved e1 e2 e3 e4 e = rw (e2, e4, e3, e1) e
