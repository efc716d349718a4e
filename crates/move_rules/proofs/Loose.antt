-- A set that is accepted but for some slots that no bin holds any more or yet: what stands between taking a bin apart and the last half
-- laid. With no such slot it is accepted.
use mathlib.Core.Path.{◌≡◌}
use mathlib.Core.Logic.{◌≢◌, ◌⊎◌, inl, inr}
use Prim.Native.Nat.{ℕ, ◌<◌}
use Rattle.slots.specs.Words.{state, free, cell}
use Rattle.tree_rules.specs.Find.{slots_of}
use Rattle.index_rules.specs.Sound.{Cleared}
use Rattle.set_rules.specs.Words.{Set}
use Rattle.set_rules.specs.Accepted.{slotted, EntryOf, NoneBad, SlotWords, LastUnmoved, ParentMoved, EntriesHome, HeadsOnce, GoodLists}
use Rattle.set_rules.specs.Accepted.{Headers}
use Rattle.set_rules.specs.Accepted.{GoodTrees, GoodChains, InOne, Accepted}

pub record Loose (s : Set) (P : ℕ → Type 0) : Type 0 where
  pub none_bad : NoneBad s
  pub words : SlotWords s
  pub last_unmoved : LastUnmoved s
  pub parent_moved_lem : ParentMoved s
  pub home : EntriesHome s
  pub heads : HeadsOnce s
  pub lists : GoodLists s
  pub headers : Headers s
  pub trees : GoodTrees s
  pub chains : GoodChains s
  -- every used slot is in one list or tree, or loose
  pub used : (x : ℕ) → x < slots_of s.names → cell s.cells x state ≢ free → InOne s x ⊎ P x
  pub cleared : (x : ℕ) → x < slots_of s.names → cell s.cells x state ≡ free → Cleared (slotted s) x
  -- a loose slot is used, and an entry of no bin
  pub inside : (x : ℕ) → P x → x < slots_of s.names
  pub busy : (x : ℕ) → P x → cell s.cells x state ≢ free
  pub nowhere : (x : ℕ) → P x → (k i : ℕ) → EntryOf s k i x → ⊥

pub settled : {s : Set} {P : ℕ → Type 0} → Loose s P → ((x : ℕ) → P x → ⊥) → Accepted s
settled {s} {P} h none =
    record {
      none_bad = h.none_bad;
      words = h.words;
      last_unmoved = h.last_unmoved;
      parent_moved_lem = h.parent_moved_lem;
      home = h.home;
      heads = h.heads;
      lists = h.lists;
      headers = h.headers;
      trees = h.trees;
      chains = h.chains;
      slots = record { used = λ x l d. go (h.used x l d); cleared = h.cleared };
    }
  where
    go : {x : ℕ} → InOne s x ⊎ P x → InOne s x
    go (inl e) = e
    go (inr p) = absurd (none _ p)
