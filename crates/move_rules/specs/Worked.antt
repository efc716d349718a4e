-- Small moves, worked out.
use Rattle.std.specs.Prelude.{◌≡◌, List, [], ◌∷◌, ◌++◌, ℕ, zero, suc, ◌*◌}
use Rattle.slots.specs.Words.{null}
use Rattle.slots.specs.Answers.{given, refused}
use Rattle.set_rules.specs.Words.{Set, lent_set}
use Rattle.set_rules.specs.Accepting.{accepts}
use Rattle.move_rules.specs.Moving.{move_outcome, moves}
use Rattle.move_rules.specs.Finishing.{finishing}

-- The names of so many slots from slot x on: the hash is the slot times step, the key is the slot.
unfoldable pub row_names : ℕ → ℕ → ℕ → List ℕ
row_names zero step x = []
row_names (suc n) step x = (step * x) ∷ (x ∷ row_names n step (suc x))

-- Their cells, as one list.
unfoldable pub row_cells : ℕ → ℕ → List ℕ
row_cells zero x = []
row_cells (suc zero) x = x ∷ (1 ∷ (null ∷ (null ∷ (null ∷ (null ∷ (null ∷ []))))))
row_cells (suc (suc n)) x = x ∷ (1 ∷ (null ∷ (null ∷ (null ∷ (null ∷ (suc x ∷ row_cells (suc n) (suc x)))))))

-- So many headers that no bin names.
unfoldable pub blank_heads : ℕ → List ℕ
blank_heads zero = []
blank_heads (suc n) = null ∷ (null ∷ (0 ∷ blank_heads n))

-- A table of one bin, which is the list of n slots, above a table of two; and h headers.
unfoldable pub row_set : ℕ → ℕ → ℕ → Set
row_set n step h = lent_set (1 ∷ (2 ∷ [])) (2 ∷ (0 ∷ (0 ∷ []))) (blank_heads h) (row_names n step 0) (row_cells n 0)

-- A table of two bins, each a list of one, above a table of four.
unfoldable pub pair_set : Set
pair_set =
    lent_set (2 ∷ (4 ∷ [])) (2 ∷ (3 ∷ (0 ∷ (0 ∷ (0 ∷ (0 ∷ [])))))) [] (row_names 2 1 0) (row_cells 1 0 ++ row_cells 1 1)

pub record WorkedMoves : Type 0 where
  -- two entries become two lists of one
  pub two : (moves (row_set 2 1 0) 0 0).answer ≡ given 2
  pub two_bins : (moves (row_set 2 1 0) 0 0).set.bins ≡ 1 ∷ (2 ∷ (3 ∷ []))
  -- fourteen become two trees of seven, and one header is not enough for them
  pub fourteen : (moves (row_set 14 1 2) 0 0).answer ≡ given 14
  pub fourteen_bins : (moves (row_set 14 1 2) 0 0).set.bins ≡ 1 ∷ (4098 ∷ (4099 ∷ []))
  pub fourteen_short : moves (row_set 14 1 1) 0 0 ≡ move_outcome (refused 5) (row_set 14 1 1)
  -- "A list may be longer than six, and its half then wants a header: 5 can meet a set without any tree"
  pub seven : accepts (row_set 7 2 0) ≡ given 1
  pub seven_short : (moves (row_set 7 2 0) 0 0).answer ≡ refused 5
  -- there is no table after the last, and no table 2
  pub last : (moves (row_set 2 1 0) 1 0).answer ≡ refused 16
  pub none : (moves (row_set 2 1 0) 2 0).answer ≡ refused 10
  -- all bins moved, and a stop
  pub all : (finishing pair_set).number ≡ 0
  pub all_gone : (finishing pair_set).gone ≡ 2
  pub all_bins : (finishing pair_set).set.bins ≡ 1 ∷ (1 ∷ (2 ∷ (3 ∷ (0 ∷ (0 ∷ [])))))
  pub stops : (finishing (row_set 7 2 0)).number ≡ 5
