-- The source's check_invariants: its eight tests at a slot, and the walk over the tree that asks them.
use Rattle.std.specs.Prelude.{◌≡◌, ℕ, zero, suc, ◌+◌, ◌-◌, ◌<◌, ◌≤◌, Bool, true, false, ◌≢◌, ◌⊎◌, List, ◌==◌, nat_le, nat_lt}
use Rattle.slots.specs.Words.{null, pick, state, parent, left, right, prev, next, cell, name_of, hash_part, ◌and◌}
use Rattle.slots.specs.Answers.{Answer, nothing, refused, some}
use Rattle.tree_rules.specs.Find.{slots_of}

-- The neighbour of i along the field f, if any, points back to i along the field g.
unfoldable pub points_back : List ℕ → ℕ → ℕ → ℕ → Bool
points_back cells i f g = pick (cell cells i f == null) true (cell cells (cell cells i f) g == i)

-- The parent of i, if any, has it as its left or its right child.
unfoldable pub is_child : List ℕ → ℕ → Bool
is_child cells i =
    let p = cell cells i parent in
    pick (p == null) true (pick (cell cells p left == i) true (cell cells p right == i))

-- The hash of i's left child is at most i's, that of its right child at least.
unfoldable pub left_hash : List ℕ → List ℕ → ℕ → Bool
left_hash names cells i =
    let l = cell cells i left in
    pick (l == null) true (nat_le (name_of names l hash_part) (name_of names i hash_part))

unfoldable pub right_hash : List ℕ → List ℕ → ℕ → Bool
right_hash names cells i =
    let r = cell cells i right in
    pick (r == null) true (nat_le (name_of names i hash_part) (name_of names r hash_part))

abbrev pub red_slot : List ℕ → ℕ → Bool
red_slot cells i = cell cells i state == 2

-- i is not red, or lacks a child, or one of its two children is not red.
unfoldable pub not_all_red : List ℕ → ℕ → Bool
not_all_red cells i =
    let l = cell cells i left in
    let r = cell cells i right in
    pick (red_slot cells i)
    (pick (l == null) true (pick (r == null) true (pick (red_slot cells l) (pick (red_slot cells r) false true) true))) true

-- "Its eight tests are numbered in source order: prev, next, parent, left's parent, left's hash, right's parent, right's hash,
-- both children red."
unfoldable pub test : List ℕ → List ℕ → ℕ → ℕ → Bool
test names cells t i =
    pick (t == 1) (points_back cells i prev next)
    (pick (t == 2) (points_back cells i next prev)
    (pick (t == 3) (is_child cells i)
    (pick (t == 4) (points_back cells i left parent)
    (pick (t == 5) (left_hash names cells i)
    (pick (t == 6) (points_back cells i right parent)
    (pick (t == 7) (right_hash names cells i)
    (not_all_red cells i)))))))

-- The first of so many tests from number t on that fails at slot i, 0 where none does.
unfoldable pub first_from : ℕ → List ℕ → List ℕ → ℕ → ℕ → ℕ
first_from zero names cells t i = 0
first_from (suc k) names cells t i = pick (test names cells t i) (first_from k names cells (suc t) i) t

unfoldable pub first_failing : List ℕ → List ℕ → ℕ → ℕ
first_failing names cells i = first_from 8 names cells 1 i

-- A link is null or names one of n slots.
abbrev pub in_range : ℕ → ℕ → Bool
in_range n l = pick (l == null) true (nat_lt l n)

-- So is each of the slot's own five links.
unfoldable pub links_in : ℕ → List ℕ → ℕ → Bool
links_in n cells i =
    in_range n (cell cells i parent)
    and in_range n (cell cells i left)
    and in_range n (cell cells i right)
    and in_range n (cell cells i prev)
    and in_range n (cell cells i next)

-- What a walk comes to: it passes, with so many visits left; a test fails at a slot; or it is lost.
pub data Walk : Type 0 where
  passed : ℕ → Walk
  failed : ℕ → ℕ → Walk
  strayed : Walk

abbrev pub onward : Walk → (ℕ → Walk) → Walk
onward (passed v) rest = rest v
onward (failed t i) rest = failed t i
onward strayed rest = strayed

-- "At a node the eight come first; then it visits the left subtree whole, then the right." "The root, or one of a node's own five links,
-- out of range, tested before the eight, or more visits than slots, answers 9." At most fuel deep; v visits are left.
unfoldable pub walked : ℕ → List ℕ → List ℕ → ℕ → ℕ → Walk
walked zero names cells i v = pick (i == null) (passed v) strayed
walked (suc fuel) names cells i v =
    pick (i == null) (passed v)
    (pick (nat_le (slots_of names) i) strayed
    (pick (v == 0) strayed
    (pick (links_in (slots_of names) cells i)
    (pick (first_failing names cells i == 0)
    (onward (walked fuel names cells (cell cells i left) (v - 1)) (λ rest. walked fuel names cells (cell cells i right) rest))
    (failed (first_failing names cells i) i))
    strayed)))

-- The answer: Passes, the number of the failing test above 100 with its slot, or 9.
abbrev pub walk_answer : Walk → Answer
walk_answer (passed v) = nothing
walk_answer (failed t i) = record { number = 100 + t; value = some i }
walk_answer strayed = refused 9

unfoldable pub checked : List ℕ → List ℕ → ℕ → Answer
checked names cells root = walk_answer (walked (slots_of names) names cells root (slots_of names))

-- What the rules say of each test, of the slot i.
module _ (names cells : List ℕ) (i : ℕ) where
  abbrev pub Back : ℕ → ℕ → Type 0
  Back f g = cell cells i f ≢ null → cell cells (cell cells i f) g ≡ i

  abbrev pub Child : Type 0
  Child = cell cells i parent ≢ null → (cell cells (cell cells i parent) left ≡ i) ⊎ (cell cells (cell cells i parent) right ≡ i)

  abbrev pub LeftHash : Type 0
  LeftHash = cell cells i left ≢ null → name_of names (cell cells i left) hash_part ≤ name_of names i hash_part

  abbrev pub RightHash : Type 0
  RightHash = cell cells i right ≢ null → name_of names i hash_part ≤ name_of names (cell cells i right) hash_part

  abbrev pub NotAllRed : Type 0
  NotAllRed =
      cell cells i state ≡ 2 → cell cells i left ≢ null → cell cells i right ≢ null
      → cell cells (cell cells i left) state ≡ 2 → cell cells (cell cells i right) state ≢ 2

-- A link followed or read is null or names one of n slots.
abbrev pub Named : ℕ → ℕ → Type 0
Named n l = (l ≡ null) ⊎ (l < n)

pub record LinksNamed (n : ℕ) (cells : List ℕ) (i : ℕ) : Type 0 where
  pub parents : Named n (cell cells i parent)
  pub lefts : Named n (cell cells i left)
  pub rights : Named n (cell cells i right)
  pub prevs : Named n (cell cells i prev)
  pub nexts : Named n (cell cells i next)

-- The walk in the rules' words, from the link i with v visits left: what it comes to.
pub data Walks (names cells : List ℕ) : ℕ → ℕ → Walk → Type 0 where
  -- "Null root passes", and a null child is not visited
  absent : {i v : ℕ} → i ≡ null → Walks names cells i v (passed v)
  -- out of range, one visit more than there are slots, or one of its own five links out of range
  outside : {i v : ℕ} → i ≢ null → slots_of names ≤ i → Walks names cells i v strayed
  spent : {i v : ℕ} → i ≢ null → v ≡ 0 → Walks names cells i v strayed
  loose : {i v : ℕ} → i ≢ null → i < slots_of names → v ≢ 0 → (LinksNamed (slots_of names) cells i → ⊥) → Walks names cells i v strayed
  -- "the first failing test with its slot"
  fails : {i v : ℕ} → i ≢ null → i < slots_of names → v ≢ 0 → LinksNamed (slots_of names) cells i → first_failing names cells i ≢ 0
      → Walks names cells i v (failed (first_failing names cells i) i)
  -- the left subtree whole, then the right
  left_stops : {i v : ℕ} {o : Walk} → i ≢ null → i < slots_of names → v ≢ 0 → LinksNamed (slots_of names) cells i
      → first_failing names cells i ≡ 0
      → Walks names cells (cell cells i left) (v - 1) o → ((m : ℕ) → o ≢ passed m) → Walks names cells i v o
  both : {i v m : ℕ} {o : Walk} → i ≢ null → i < slots_of names → v ≢ 0 → LinksNamed (slots_of names) cells i
      → first_failing names cells i ≡ 0
      → Walks names cells (cell cells i left) (v - 1) (passed m) → Walks names cells (cell cells i right) m o → Walks names cells i v o
