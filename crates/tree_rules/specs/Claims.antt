-- What crate `tree_rules` proves of its models, in one record. Every statement of the crate stands here.
use Rattle.std.specs.Prelude.{◌≡◌, ℕ, ◌+◌, ◌-◌, ◌*◌, ◌^◌, ◌<◌, ◌≤◌, true, false, ◌≢◌, ◌↔◌, List, [], length, slice_index_or}
use Rattle.slots.specs.Words.{null, parent, left, right, prev, next, name_of, hash_part, key_part}
use Rattle.slots.specs.Answers.{some, given, nothing, refused}
use Rattle.tree_rules.specs.Find.{here, on, decided, looked, slots_of, found, Follows, Lost, Here, Missed}
use Rattle.tree_rules.specs.Source.{Wild, find_body, turn_of, ReturnsSame, find_tree_node, passes, fails, check_invariants}
use Rattle.tree_rules.specs.Looks.{LooksAt}
use Rattle.tree_rules.specs.Check.{test, first_failing, passed, failed, strayed, checked, Back, Child, LeftHash, RightHash, NotAllRed}
use Rattle.tree_rules.specs.Check.{Walks}
use Rattle.tree_rules.specs.Tree.{Tree, slots, times, Rooted, Rising, Coloured, Level, Shaped, height}
use Rattle.tree_rules.specs.Rules.{reached, rises, coloured, level, all_sized, obeyed, obeyed_sized, tree_size}
use Rattle.tree_rules.specs.Chain.{Chain, chained}
use Rattle.tree_rules.specs.Sizes.{size_word, SizedBy, SizedSlots}
use Rattle.tree_rules.specs.Ranks.{kth_from, rank_from}

-- "Find is find_tree_node": what a look at a slot says, clause by clause. `at` and `own` are the slot's hash and key, l and r its children.
pub record Looks (at own l r hash key : ℕ) : Type 0 where
  -- "hash greater goes left"
  pub greater : hash < at → decided at own l r hash key ≡ on l
  -- "less goes right"
  pub less : at < hash → decided at own l r hash key ≡ on r
  -- "on equal hash an equal key is the answer"
  pub equal : at ≡ hash → own ≡ key → decided at own l r hash key ≡ here
  -- "else a null left goes right"
  pub null-left : at ≡ hash → own ≢ key → l ≡ null → decided at own l r hash key ≡ on r
  -- "a null right goes left"
  pub null-right : at ≡ hash → own ≢ key → l ≢ null → r ≡ null → decided at own l r hash key ≡ on l
  -- "else keys are compared"
  pub key_greater : at ≡ hash → key < own → l ≢ null → r ≢ null → decided at own l r hash key ≡ on l
  pub key_less : at ≡ hash → own < key → l ≢ null → r ≢ null → decided at own l r hash key ≡ on r

-- The search on any words, from any root: each answer exactly where the links followed say so.
pub record Finds (names cells : List ℕ) (root hash key : ℕ) : Type 0 where
  -- "9 Lost": exactly then
  pub nine : ((found names cells root hash key).answer ≡ refused 9) ↔ Lost names cells root hash key
  -- and no other refusal
  pub only_nine : (m : ℕ) → 1 ≤ m → (found names cells root hash key).answer ≡ refused m → m ≡ 9
  -- the slot, exactly where the search follows a link to a slot that has the pair
  pub at : (slot : ℕ) → ((found names cells root hash key).answer ≡ given slot) ↔ Here names cells root hash key slot
  -- Nothing, exactly where it follows a null link
  pub none : ((found names cells root hash key).answer ≡ nothing) ↔ Missed names cells root hash key
  -- the slots looked at are those that the search follows, in order
  pub looks : LooksAt names hash key (Follows names cells root hash key) (found names cells root hash key)

-- The search is the source's find_tree_node, whose text specs/Source.antt has. Where ours is 9, `nine` above says what the source would do:
-- it would follow a link that leads to no slot, or look at more slots than there are, and never return.
pub record FindsAsSource (wild : Wild) (names cells : List ℕ) (root hash key : ℕ) : Type 0 where
  -- a turn of the loop is a look, at any slot but null, and no turn comes to `unreachable!`
  pub turn : (p : ℕ) → p ≢ null → find_body wild names cells p hash key ≡ turn_of p (looked names cells p hash key)
  -- the same slot, and null for Nothing, in as many turns
  pub whole : ReturnsSame (found names cells root hash key).answer (find_tree_node wild names cells (slots_of names) root hash key)

-- The eight tests of the source's check at slot i, each by its number.
pub record Tests (names cells : List ℕ) (i : ℕ) : Type 0 where
  pub prev-test : (test names cells 1 i ≡ true) ↔ Back names cells i prev next
  pub next-test : (test names cells 2 i ≡ true) ↔ Back names cells i next prev
  pub parent-test : (test names cells 3 i ≡ true) ↔ Child names cells i
  pub left-parent : (test names cells 4 i ≡ true) ↔ Back names cells i left parent
  pub left_hash_lem : (test names cells 5 i ≡ true) ↔ LeftHash names cells i
  pub right-parent : (test names cells 6 i ≡ true) ↔ Back names cells i right parent
  pub right_hash_lem : (test names cells 7 i ≡ true) ↔ RightHash names cells i
  pub children_red : (test names cells 8 i ≡ true) ↔ NotAllRed names cells i
  -- "the first failing test": the one of least number
  pub first : (t : ℕ) → 1 ≤ t → t ≤ 8
      → (first_failing names cells i ≡ t) ↔ ((test names cells t i ≡ false) × ((u : ℕ) → 1 ≤ u → u < t → test names cells u i ≡ true))
  pub none : (first_failing names cells i ≡ 0) ↔ ((u : ℕ) → 1 ≤ u → u ≤ 8 → test names cells u i ≡ true)

-- The source's check on any words, from any root: each answer exactly where the walk in the rules' words comes to it.
pub record Checks (names cells : List ℕ) (root : ℕ) : Type 0 where
  pub passes : (checked names cells root ≡ nothing) ↔ ((v : ℕ) × Walks names cells root (slots_of names) (passed v))
  pub fails : (t i : ℕ)
      → (checked names cells root ≡ record { number = 100 + t; value = some i }) ↔ Walks names cells root (slots_of names) (failed t i)
  pub nine : (checked names cells root ≡ refused 9) ↔ Walks names cells root (slots_of names) strayed

-- The check is the source's check_invariants, whose text specs/Source.antt has, from a root that is not null: behind null it would load.
-- Whatever a load behind null would come to: so the text does none.
pub record ChecksAsSource (wild : Wild) (names cells : List ℕ) (root : ℕ) : Type 0 where
  pub passing : root ≢ null → checked names cells root ≡ nothing → check_invariants wild names cells (slots_of names) root ≡ passes
  pub failing : root ≢ null → (t i : ℕ) → checked names cells root ≡ record { number = 100 + t; value = some i }
      → check_invariants wild names cells (slots_of names) root ≡ fails t i

-- The rules of one tree, on words in which slot null has no word: T3 to T6 are obeyed exactly of a tree that has all four.
pub record Rules (names cells : List ℕ) (few : slots_of names ≤ null) (ends : length cells ≤ 7 * null) (root : ℕ) : Type 0 where
  -- with any number of visits: a visit a slot
  pub spent : (v rest : ℕ) → (obeyed names cells root v ≡ some rest) ↔ ((m : ℕ) × Shaped names cells root m × (m + rest ≡ v))
  -- T3 alone, with the visits that its walk leaves; and the tree is the only one
  pub reaches : (rest : ℕ) → reached (slots_of names) (slots_of names) cells null root (slots_of names) ≡ some rest
      → (t : Tree) × Rooted (slots_of names) cells root t × (length (slots t) + rest ≡ slots_of names)
  pub reached_all : {t : Tree} → Rooted (slots_of names) cells root t
      → reached (slots_of names) (slots_of names) cells null root (slots_of names) ≡ some (slots_of names - length (slots t))
  pub one_tree : {t u : Tree} → Rooted (slots_of names) cells root t → Rooted (slots_of names) cells root u → t ≡ u
  -- T4, T5 and T6 of that tree, each by its own test
  pub four : {t : Tree} → Rooted (slots_of names) cells root t → (rises names cells root ≡ true) ↔ Rising names (slots t)
  pub five : {t : Tree} → Rooted (slots_of names) cells root t → (coloured (slots_of names) cells root ≡ true) ↔ Coloured t
  pub six : {t : Tree} → Rooted (slots_of names) cells root t → (level (slots_of names) cells root ≡ true) ↔ Level t

-- The chain of n slots from first: the walk ends exactly where there is one, it visits no slot twice, and there is only one.
pub record Chains (n : ℕ) (cells : List ℕ) (few : n ≤ null) (first : ℕ) : Type 0 where
  pub walk : (rest : ℕ) → chained n n cells null first ≡ some rest → (l : List ℕ) × Chain n cells null first l × (length l + rest ≡ n)
  pub walked : {l : List ℕ} → Chain n cells null first l → chained n n cells null first ≡ some (n - length l)
  pub once : {l : List ℕ} → Chain n cells null first l → (k : ℕ) → times k l ≤ 1
  pub one_chain : {l m : List ℕ} → Chain n cells null first l → Chain n cells null first m → l ≡ m

-- A tree that obeys T5 and T6 is not deep, and no search of it looks at more slots than its longest way down meets.
pub record Shallow (names cells : List ℕ) (root hash key : ℕ) (t : Tree) : Type 0 where
  pub height_most : Coloured t → Level t → 2 ^ height t ≤ (length (slots t) + 1) * (length (slots t) + 1)
  pub looks_most : Rooted (slots_of names) cells root t → length (found names cells root hash key).looks ≤ height t

-- The stored sizes of a tree, one word a slot.
pub record Weighs (names cells sizes : List ℕ) (few : slots_of names ≤ null) (ends : length cells ≤ 7 * null)
    (long : length sizes ≡ slots_of names)
    (root : ℕ) : Type 0 where
  -- T8 of the slots of a tree, by its own test: one compare a slot finds it out
  pub eight : {t : Tree} → Rooted (slots_of names) cells root t → (all_sized (slots_of names) cells sizes root ≡ true) ↔ SizedSlots sizes t
  -- T8 whole is that, and 0 in every other slot
  pub parts : (t : Tree) → SizedBy sizes t ↔ (SizedSlots sizes t × ((k : ℕ) → times k (slots t) ≡ 0 → size_word sizes k ≡ 0))
  -- the check gives the number of slots exactly of a tree that obeys T3 to T6 and whose slots have their sizes
  pub size : (m : ℕ) → (tree_size names cells sizes root ≡ some m) ↔ ((s : Shaped names cells root m) × SizedSlots sizes s.tree)
  -- the way down to a position finds the k-th of the slots in order, and the way down to its pair finds k
  pub kth : {t : Tree} → Rooted (slots_of names) cells root t → SizedBy sizes t → (k : ℕ) → k < length (slots t)
      → kth_from (slots_of names) cells sizes root k ≡ slice_index_or (slots t) k null
  pub rank : {t : Tree} → Rooted (slots_of names) cells root t → SizedBy sizes t → Rising names (slots t) → (k : ℕ) → k < length (slots t)
      → rank_from (slots_of names) names cells sizes root (name_of names (slice_index_or (slots t) k null) hash_part)
      (name_of names (slice_index_or (slots t) k null) key_part) 0
      ≡ some k

pub record Claims : Type 0 where
  pub looks : (at own l r hash key : ℕ) → Looks at own l r hash key
  pub finds : (names cells : List ℕ) (root hash key : ℕ) → Finds names cells root hash key
  pub finds_as_source : (wild : Wild) (names cells : List ℕ) (root hash key : ℕ) → FindsAsSource wild names cells root hash key
  pub tests : (names cells : List ℕ) (i : ℕ) → Tests names cells i
  pub checks : (names cells : List ℕ) (root : ℕ) → Checks names cells root
  pub checks_as_source : (wild : Wild) (names cells : List ℕ) (root : ℕ) → ChecksAsSource wild names cells root
  pub rules : (names cells : List ℕ) (few : slots_of names ≤ null) (ends : length cells ≤ 7 * null) (root : ℕ)
      → Rules names cells few ends root
  pub chains : (n : ℕ) (cells : List ℕ) (few : n ≤ null) (first : ℕ) → Chains n cells few first
  pub shallow : (names cells : List ℕ) (root hash key : ℕ) (t : Tree) → Shallow names cells root hash key t
  pub weighs : (names cells sizes : List ℕ) (few : slots_of names ≤ null) (ends : length cells ≤ 7 * null)
      (long : length sizes ≡ slots_of names) (root : ℕ)
      → Weighs names cells sizes few ends long root
  -- a frozen set "carries no sizes": where none is stored, T8 asks nothing, on any words
  pub unsized : (names cells : List ℕ) (root v : ℕ) → obeyed_sized names cells [] root v ≡ obeyed names cells root v
