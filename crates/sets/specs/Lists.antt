-- What the check of a list asks of one slot, its pair aside, and which lists are long.
use Rattle.std.specs.Prelude.{Bool, true, false, List, ℕ, zero, suc, eqb, ltb}
use Rattle.slots.specs.Words.{null, pick, next, cell, ◌and◌}
use Rattle.tree_rules.specs.Find.{slots_of}
use Rattle.set_rules.specs.Accepting.{is_home, is_list_slot}

-- Slot x is one of the set's, a list's, and in the bin that its hash names.
unfoldable pub slot_home : List ℕ → List ℕ → ℕ → ℕ → ℕ → Bool
slot_home names cells len i x = ltb x (slots_of names) and is_list_slot cells x and is_home names len i x

-- From the link x, next visits more than k slots.
unfoldable pub runs_over : ℕ → List ℕ → ℕ → Bool
runs_over zero cells x = pick (eqb x null) false true
runs_over (suc k) cells x = pick (eqb x null) false (runs_over k cells (cell cells x next))
