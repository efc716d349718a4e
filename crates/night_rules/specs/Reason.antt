-- A true reason: "the first broken rule among T1 to T8, in that order, and the lowest slot that shows it, or the header where no slot
-- does".
use Rattle.std.specs.Prelude.{◌≢◌, List, ℕ, ◌<◌}
use Rattle.slots.specs.Words.{leftward, rightward}
use Rattle.tree_rules.specs.Tree.{Tree, Meets}
use Rattle.index_rules.specs.Live.{Live}
use Rattle.index_rules.specs.Sound.{T1, T2, T3, T4, T5, T6, T7, T8}
use Rattle.night_rules.specs.Account.{WayDown, Account, tells_slot, tells_header, tells_pair, tells_ways}
use Rattle.night_rules.specs.Shows.{Shows1, Header1, Shows3, OutOfOrder, Shows4, Shows5, Shows6, ShownWay, Shows7, Shows8}

-- "Of the slots that show it the lowest is told."
pub record LowestWith (P : ℕ → Type 0) (i : ℕ) : Type 0 where
  pub shows : P i
  pub lower : (j : ℕ) → j < i → P j → ⊥

-- What holds before a rule is asked: T1 and T2, and of the one tree that has T3 the rules up to it.
pub record ThroughT3 (t : Live) (tree : Tree) : Type 0 where
  pub t1 : T1 t
  pub t2 : T2 t
  pub t3 : T3 t tree

pub record ThroughT6 (t : Live) (tree : Tree) : Type 0 where
  pub before : ThroughT3 t tree
  pub t4 : T4 t tree
  pub t5 : T5 tree
  pub t6 : T6 tree

-- "T3 is broken where no tree has it, T7 where no chain has it, T4 to T6 and T8 where they are not true of the one tree that has T3."
pub data Reason (t : Live) : Account → Type 0 where
  one : {i : ℕ} → (T1 t → ⊥) → LowestWith (Shows1 t) i → Reason t (tells_slot 1 i)
  one_header : (T1 t → ⊥) → ((i : ℕ) → Shows1 t i → ⊥) → Header1 t → Reason t (tells_header 1)
  two_header : T1 t → (T2 t → ⊥) → Reason t (tells_header 2)
  three : {i : ℕ} → T1 t → T2 t → ((tree : Tree) → T3 t tree → ⊥) → LowestWith (Shows3 t) i → Reason t (tells_slot 3 i)
  -- "`other` is that next slot"
  four : {tree : Tree} {i j : ℕ} → ThroughT3 t tree → (T4 t tree → ⊥) → LowestWith (Shows4 t tree) i → OutOfOrder t tree i j
      → Reason t (tells_pair i j)
  five : {tree : Tree} {i : ℕ} → ThroughT3 t tree → T4 t tree → (T5 tree → ⊥) → LowestWith (Shows5 t) i → Reason t (tells_slot 5 i)
  -- two ways of that tree, by the slot's left link and by its right one, and their numbers differ
  six : {tree : Tree} {i : ℕ} {w v : WayDown} → ThroughT3 t tree → T4 t tree → T5 tree → (T6 tree → ⊥) → LowestWith (Shows6 t) i
      → ShownWay t i leftward w → ShownWay t i rightward v → Meets tree w.blacks → Meets tree v.blacks → w.blacks ≢ v.blacks
      → Reason t (tells_ways i w v)
  seven : {tree : Tree} {i : ℕ} → ThroughT6 t tree → ((chain : List ℕ) → T7 t chain → ⊥) → LowestWith (Shows7 t) i
      → Reason t (tells_slot 7 i)
  eight : {tree : Tree} {i : ℕ} (chain : List ℕ) → ThroughT6 t tree → T7 t chain → (T8 t tree → ⊥) → LowestWith (Shows8 t tree) i
      → Reason t (tells_slot 8 i)
