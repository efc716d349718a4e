-- "Small trees, worked": proved from the definitions, in the rules' order.
use Rattle.std.specs.Prelude.{◌≡◌, [], ◌∷◌, ℕ, ◌+◌, length}
use Rattle.slots.specs.Answers.{some, given, nothing, refused}
use Rattle.tree_rules.specs.Find.{ends, found}
use Rattle.redblack.specs.Holding.{Has}
use Rattle.index_rules.specs.Live.{Live, unsized_of, Fit, root_of, count_of}
use Rattle.index_rules.specs.Sound.{Sound}
use Rattle.index_rules.specs.Find.{finds}
use Rattle.index_rules.specs.Index.{Index, FitIndex, outcome, length_of}
use Rattle.index_rules.specs.Insert.{inserts}
use Rattle.index_rules.specs.Remove.{removes}
use Rattle.index_rules.specs.Rollback.{rolls}
use Rattle.index_rules.specs.Calls.{after, Lowest}
use Rattle.set_rules.specs.Accepting.{accepts}
use Rattle.set_rules.specs.Cursor.{starts}
use Rattle.set_rules.specs.Walk.{nexts}
use Rattle.set_rules.specs.Held.{cursor_after as stepped}
use Rattle.worked.specs.Worked.{empty, add, take, none, black, red, drawn, chain_of, tables, bin}
use Rattle.worked.specs.Worked.{entries_given as walks}

-- 1, 2, 3 and then 4; then without 1.
abbrev pub three : Index
three = after (add 1 ∷ (add 2 ∷ (add 3 ∷ []))) (empty 4 8)

abbrev pub four : Index
four = after (add 4 ∷ []) three

abbrev pub without_one : Index
without_one = after (take 1 ∷ []) four

pub record Claims : Type 0 where
  -- "Empty: find is Nothing; remove is 4": any empty tree, any pair, with no look
  pub empty_find : (t : Live) → Fit t → Sound t → count_of t ≡ 0 → (hash key : ℕ) → finds (unsized_of t) hash key ≡ ends nothing
  pub empty_remove : (ix : Index) → FitIndex ix → Sound ix.live → count_of ix.live ≡ 0 → (hash key : ℕ)
      → (removes ix hash key).answer ≡ refused 4
  -- "Insert 1, 2, 3: root 2 black, 1 and 3 red; chain 3, 2, 1."
  pub three_tree : drawn three.live ≡ black (red none 1 none) 2 (red none 3 none)
  pub three_chain : chain_of three.live ≡ (3 ∷ (2 ∷ (1 ∷ [])))
  -- "Then 4: 1, 2, 3 black, 4 red under 3."
  pub four_tree : drawn four.live ≡ black (black none 1 none) 2 (black none 3 (red none 4 none))
  -- "Then remove 1: root 3, children 2 and 4, all black."
  pub three-left : drawn without_one.live ≡ black (black none 2 none) 3 (black none 4 none)
  -- "Insert 1, 2, remove 1: 2 is root and black."
  pub two_left : drawn (after (add 1 ∷ (add 2 ∷ (take 1 ∷ []))) (empty 4 8)).live ≡ black none 2 none
  -- "Insert 1, 2, 3, remove 2: root 3 black, 1 red on its left. Insert 1, 2, 3, 4, remove 2: root 3, children 1 and 4, all black."
  pub heir_of_three : drawn (after (take 2 ∷ []) three).live ≡ black (red none 1 none) 3 none
  pub heir_of_four : drawn (after (take 2 ∷ []) four).live ≡ black (black none 1 none) 3 (black none 4 none)
  -- "Insert 1 twice: the second is 3, slot 0."
  pub twice : (inserts (after (add 1 ∷ []) (empty 4 8)) 0 1 11).answer ≡ record { number = 3; value = some 0 }
  -- "Capacity 1, holding 1: insert 2 is 5; remove 1, insert 2 takes slot 0."
  pub brim : (inserts (after (add 1 ∷ []) (empty 1 8)) 0 2 20).answer ≡ refused 5
  pub brim_again : (inserts (after (add 1 ∷ (take 1 ∷ [])) (empty 1 8)) 0 2 20).answer ≡ given 0
  -- "Journal capacity 0: any first insert is 6": on any sound tree that has a free slot and not the pair
  pub no_line_lem : (ix : Index) → FitIndex ix → (h : Sound ix.live) → length ix.lines ≡ 1 → (hash key p x : ℕ)
      → (Has ix.live.names h.tree hash key → ⊥) → Lowest ix.live x → (inserts ix hash key p).answer ≡ refused 6
  -- "Mark equal to the length: nothing changes; one more: 7."
  pub at_length : (ix : Index) → FitIndex ix → Sound ix.live → rolls ix (length_of ix.lines) ≡ outcome (given 0) ix
  pub one_more_lem : (ix : Index) → FitIndex ix → Sound ix.live → (rolls ix (length_of ix.lines + 1)).answer ≡ refused 7
  -- "Tree 1, 2 (2 right): find 0 looks at both, Nothing."
  pub both_tree : drawn (after (add 1 ∷ (add 2 ∷ [])) (empty 4 8)).live ≡ black none 1 (red none 2 none)
  pub both_looks :
      let t = (after (add 1 ∷ (add 2 ∷ [])) (empty 4 8)).live in
      found t.names t.cells (root_of t) 0 0 ≡ record { answer = nothing; looks = 0 ∷ (1 ∷ []) }
  -- "Table lengths 2, 4, 8; Moved: both of table 0, bins 0 and 2 of table 1. Walk order: table 2 bins 0, 4, 2, 6, then table 1 bins 1, 3."
  pub tables-accepted : accepts tables ≡ given 1
  pub walk_order : walks 7 tables (starts tables 0).cursor ≡ bin 2 0 ∷ (bin 2 4 ∷ (bin 2 2 ∷ (bin 2 6 ∷ (bin 1 1 ∷ (bin 1 3 ∷ [])))))
  pub walk_done : (nexts tables (stepped 6 tables (starts tables 0).cursor)).answer ≡ nothing
