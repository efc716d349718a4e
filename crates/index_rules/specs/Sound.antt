-- "A tree is sound when": T1 to T8 of a live tree of n slots, in the rules' order, and the full check, a test for each rule.
use Rattle.std.specs.Prelude.{◌≡◌, ◌↔◌, Bool, true, false, List, ℕ, zero, suc, ◌-◌, ◌<◌, ◌≤◌, eqb, leb}
use Rattle.slots.specs.Words.{null, pick, place, state, parent, left, right, prev, next, free, cell, name_of, hash_part, key_part, ◌and◌}
use Rattle.slots.specs.Answers.{Answer, Value, some, none, given, refused}
use Rattle.tree_rules.specs.Check.{in_range, links_in, Named, LinksNamed}
use Rattle.tree_rules.specs.Tree.{Tree, slots, times, Rooted, Rising, Coloured, Level}
use Rattle.tree_rules.specs.Rules.{reached, rises, coloured, level, all_sized}
use Rattle.tree_rules.specs.Chain.{Chain, chained, tally}
use Rattle.tree_rules.specs.Sizes.{size_word, SizedBy}
use Rattle.index_rules.specs.Live.{Live, root_of, first_of, count_of, fits}
use Rattle.tree_rules.specs.Find.{slots_of}

-- 1 for a slot that is not free, 0 for a free one.
abbrev pub used : List ℕ → ℕ → ℕ
used cells i = pick (eqb (cell cells i state) free) 0 1

-- "A free slot is all zero with null links."
pub record Cleared (t : Live) (i : ℕ) : Type 0 where
  pub hash : name_of t.names i hash_part ≡ 0
  pub key : name_of t.names i key_part ≡ 0
  pub placed : cell t.cells i place ≡ 0
  pub parents : cell t.cells i parent ≡ null
  pub lefts : cell t.cells i left ≡ null
  pub rights : cell t.cells i right ≡ null
  pub prevs : cell t.cells i prev ≡ null
  pub nexts : cell t.cells i next ≡ null

-- T1 "links are null or name a slot; states are 0, 1 or 2; free slots are cleared; the header's count is the number of slots not free."
pub record T1 (t : Live) : Type 0 where
  pub links : (i : ℕ) → i < slots_of t.names → LinksNamed (slots_of t.names) t.cells i
  pub root : Named (slots_of t.names) (root_of t)
  pub first : Named (slots_of t.names) (first_of t)
  pub states : (i : ℕ) → i < slots_of t.names → cell t.cells i state ≤ 2
  pub cleared : (i : ℕ) → i < slots_of t.names → cell t.cells i state ≡ free → Cleared t i
  pub count : count_of t ≡ tally (slots_of t.names) (used t.cells)

-- T2 "root and first are null exactly if the count is 0."
pub record T2 (t : Live) : Type 0 where
  pub root : (root_of t ≡ null) ↔ (count_of t ≡ 0)
  pub first : (first_of t ≡ null) ↔ (count_of t ≡ 0)

-- T3 "the root's parent is null, each child points back, and the slots reached from the root are the used ones, each once."
pub record T3 (t : Live) (tree : Tree) : Type 0 where
  pub rooted : Rooted (slots_of t.names) t.cells (root_of t) tree
  pub all : (i : ℕ) → i < slots_of t.names → used t.cells i ≡ times i (slots tree)

-- T4 "read left, self, right, the pairs strictly rise."
abbrev pub T4 : Live → Tree → Type 0
T4 t tree = Rising t.names (slots tree)

-- T5 "the root is black; no red slot has a red child."
abbrev pub T5 : Tree → Type 0
T5 tree = Coloured tree

-- T6 "every way from the root to a null link meets equally many black slots."
abbrev pub T6 : Tree → Type 0
T6 tree = Level tree

-- T7 "from first, next visits each used slot once; prev is its reverse, null at first."
pub record T7 (t : Live) (chain : List ℕ) : Type 0 where
  pub linked : Chain (slots_of t.names) t.cells null (first_of t) chain
  pub all : (i : ℕ) → i < slots_of t.names → used t.cells i ≡ times i chain

-- T8 "the stored size is that number, 0 in a free slot."
abbrev pub T8 : Live → Tree → Type 0
T8 t tree = SizedBy t.sizes tree

pub record Sound (t : Live) : Type 0 where
  pub tree : Tree
  pub chain : List ℕ
  pub t1 : T1 t
  pub t2 : T2 t
  pub t3 : T3 t tree
  pub t4 : T4 t tree
  pub t5 : T5 tree
  pub t6 : T6 tree
  pub t7 : T7 t chain
  pub t8 : T8 t tree

-- The full check, a test for each rule. A test asks nothing that an earlier one has settled.
unfoldable pub is_cleared : Live → ℕ → Bool
is_cleared t i =
    eqb (name_of t.names i hash_part) 0
    and eqb (name_of t.names i key_part) 0
    and eqb (cell t.cells i place) 0
    and eqb (cell t.cells i parent) null
    and eqb (cell t.cells i left) null
    and eqb (cell t.cells i right) null
    and eqb (cell t.cells i prev) null
    and eqb (cell t.cells i next) null

unfoldable pub slot_fine : ℕ → Live → ℕ → Bool
slot_fine n t i = links_in n t.cells i and pick (eqb (cell t.cells i state) free) (is_cleared t i) (leb (cell t.cells i state) 2)

unfoldable pub slots_fine : ℕ → ℕ → Live → Bool
slots_fine zero n t = true
slots_fine (suc k) n t = slot_fine n t k and slots_fine k n t

unfoldable pub rule1 : Live → Bool
rule1 t =
    let n = slots_of t.names in
    slots_fine n n t and in_range n (root_of t) and in_range n (first_of t) and eqb (count_of t) (tally n (used t.cells))

abbrev pub agree : Bool → Bool → Bool
agree true b = b
agree false true = false
agree false false = true

unfoldable pub rule2 : Live → Bool
rule2 t = agree (eqb (root_of t) null) (eqb (count_of t) 0) and agree (eqb (first_of t) null) (eqb (count_of t) 0)

-- A walk leaves all but so many of n visits.
abbrev pub leaves : ℕ → ℕ → Value → Bool
leaves n m (some rest) = eqb (n - rest) m
leaves n m none = false

unfoldable pub rule3 : Live → Bool
rule3 t = let n = slots_of t.names in leaves n (count_of t) (reached n n t.cells null (root_of t) n)

unfoldable pub rule4 : Live → Bool
rule4 t = rises t.names t.cells (root_of t)

unfoldable pub rule5 : Live → Bool
rule5 t = coloured (slots_of t.names) t.cells (root_of t)

unfoldable pub rule6 : Live → Bool
rule6 t = level (slots_of t.names) t.cells (root_of t)

-- A free slot is cleared, so it could only be the first: that one is asked.
unfoldable pub rule7 : Live → Bool
rule7 t =
    let n = slots_of t.names in
    pick (pick (eqb (first_of t) null) true (pick (eqb (cell t.cells (first_of t) state) free) false true))
    (leaves n (count_of t) (chained n n t.cells null (first_of t)))
    false

-- A free slot has no size.
unfoldable pub free_fine : Live → ℕ → Bool
free_fine t i = pick (eqb (cell t.cells i state) free) (eqb (size_word t.sizes i) 0) true

unfoldable pub frees_fine : ℕ → Live → Bool
frees_fine zero t = true
frees_fine (suc k) t = free_fine t k and frees_fine k t

-- A slot of the tree has the number of its subtree, a free one 0.
unfoldable pub rule8 : Live → Bool
rule8 t = let n = slots_of t.names in all_sized n t.cells t.sizes (root_of t) and frees_fine n t

unfoldable pub sound : Live → Bool
sound t = rule1 t and rule2 t and rule3 t and rule4 t and rule5 t and rule6 t and rule7 t and rule8 t

-- "The full check and acceptance give 1, or else yes or no": yes is 1, no is 0.
unfoldable pub sounds : Live → Answer
sounds t = pick (fits t) (pick (sound t) (given 1) (given 0)) (refused 1)
