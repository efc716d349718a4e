-- The words of two slices, or of all slices of two indexes, compared one by one.
use Rattle.std.specs.Prelude.{Bool, true, false, List, [], ◌∷◌, ℕ, eqb}
use Rattle.slots.specs.Words.{◌and◌}
use Rattle.index_rules.specs.Index.{Index}

unfoldable pub same_words : List ℕ → List ℕ → Bool
same_words [] [] = true
same_words [] (y ∷ b) = false
same_words (x ∷ a) [] = false
same_words (x ∷ a) (y ∷ b) = eqb x y and same_words a b

unfoldable pub same_index : Index → Index → Bool
same_index a b =
    same_words a.live.names b.live.names and same_words a.live.cells b.live.cells
    and same_words a.live.head b.live.head and same_words a.live.sizes b.live.sizes and same_words a.lines b.lines
