-- "Add two calls: the pair at position k in order, counted from 0, and the position of a pair."
use Rattle.std.specs.Prelude.{ℕ, ltb}
use Rattle.slots.specs.Words.{pick}
use Rattle.slots.specs.Answers.{Answer, Value, some, none, given, refused}
use Rattle.tree_rules.specs.Find.{slots_of}
use Rattle.tree_rules.specs.Ranks.{kth_from, rank_from}
use Rattle.index_rules.specs.Live.{Live, root_of, count_of, fits}
use Rattle.index_rules.specs.Sound.{sound}

-- "the k-th call 1, 2, then 15 Out of range".
unfoldable pub kths : Live → ℕ → Answer
kths t k =
    pick (fits t)
    (pick (sound t)
    (pick (ltb k (count_of t)) (given (kth_from (slots_of t.names) t.cells t.sizes (root_of t) k)) (refused 15)) (refused 2))
    (refused 1)

abbrev pub ranked : Value → Answer
ranked (some k) = given k
ranked none = refused 4

-- "the position call 1, 2, 4".
unfoldable pub positions : Live → ℕ → ℕ → Answer
positions t hash key =
    pick (fits t)
    (pick (sound t) (ranked (rank_from (slots_of t.names) t.names t.cells t.sizes (root_of t) hash key 0)) (refused 2))
    (refused 1)
