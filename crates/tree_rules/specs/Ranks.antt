-- The "pair at position k in order, counted from 0, and the position of a pair": one way down each, by the sizes of left subtrees.
use Rattle.std.specs.Prelude.{ℕ, zero, suc, ◌+◌, ◌-◌, List, ◌==◌, nat_lt}
use Rattle.slots.specs.Words.{null, pick, left, right, cell, name_of, hash_part, key_part, sum}
use Rattle.slots.specs.Pairs.{before}
use Rattle.slots.specs.Answers.{Value, some, none}
use Rattle.tree_rules.specs.Sizes.{size_word}

-- Position k in the subtree of i, with at most so many steps: on the left, here, or on the right, past the left and i.
unfoldable pub kth_from : ℕ → List ℕ → List ℕ → ℕ → ℕ → ℕ
kth_from zero cells sizes i k = null
kth_from (suc budget) cells sizes i k =
    let w = size_word sizes (cell cells i left) in
    let lower = kth_from budget cells sizes (cell cells i left) k in
    let upper = kth_from budget cells sizes (cell cells i right) (k - (w + 1)) in
    pick (nat_lt k w) lower (pick (k == w) i upper)

-- The pair's position in the subtree of i, past m others; none where the way down ends before it.
unfoldable pub rank_from : ℕ → List ℕ → List ℕ → List ℕ → ℕ → ℕ → ℕ → ℕ → Value
rank_from zero names cells sizes i hash key m = none
rank_from (suc budget) names cells sizes i hash key m =
    let h = name_of names i hash_part in
    let k = name_of names i key_part in
    let w = size_word sizes (cell cells i left) in
    let lower = rank_from budget names cells sizes (cell cells i left) hash key m in
    let upper = rank_from budget names cells sizes (cell cells i right) hash key (sum (sum m w) 1) in
    pick (i == null) none (pick (before hash key h k) lower (pick (before h k hash key) upper (some (sum m w))))
