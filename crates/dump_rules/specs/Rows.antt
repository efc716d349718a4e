-- The slots of a way in a row, and the text of a row. Nothing here knows how a way is followed.
use Rattle.std.specs.Prelude.{◌≡◌, ◌≢◌, List, [], ◌∷◌, ◌++◌, ℕ}
use Rattle.slots.specs.Words.{null, parent, left, cell}
use Rattle.script_rules.specs.Letters.{letters}
use Rattle.dump_rules.specs.Sentence.{step_text}

-- "slot by slot from the root": the slots down to i, each the parent of the one behind it, and the first without one.
pub data RowDown (cells : List ℕ) : ℕ → List ℕ → Type 0 where
  top : {i : ℕ} → cell cells i parent ≡ null → RowDown cells i (i ∷ [])
  under : {i p : ℕ} {row : List ℕ} → cell cells i parent ≡ p → p ≢ null → RowDown cells p row → RowDown cells i (row ++ (i ∷ []))

-- The slots from the link i on by left links, to a null link.
pub data RowOn (cells : List ℕ) : ℕ → List ℕ → Type 0 where
  over : {i : ℕ} → i ≡ null → RowOn cells i []
  on : {i : ℕ} {row : List ℕ} → i ≢ null → RowOn cells (cell cells i left) row → RowOn cells i (i ∷ row)

-- Each slot behind another after a comma.
unfoldable pub behind_text : List ℕ → List ℕ → List ℕ
behind_text cells [] = []
behind_text cells (i ∷ row) = letters ", " ++ (step_text cells i ++ behind_text cells row)

abbrev pub row_text : List ℕ → List ℕ → List ℕ
row_text cells [] = []
row_text cells (i ∷ row) = step_text cells i ++ behind_text cells row
