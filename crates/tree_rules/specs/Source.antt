-- The source's find_tree_node and check_invariants, as they stand in its node.rs: its names, its order of loads and tests, its tests for
-- null. Its guard and memory orders are left out. The number behind a line is that of the source's line. What the source must not do, a
-- load behind null, may come to anything here.
use Rattle.std.specs.Prelude.{◌≡◌, ℕ, zero, suc, Bool, true, false, not, ◌&&◌, ◌||◌, List, ◌==◌, nat_le, nat_lt}
use Rattle.slots.specs.Words.{null, pick, state, parent, left, right, prev, next, cell, name_of, hash_part, key_part}
use Rattle.slots.specs.Answers.{Answer, given, nothing}
use Rattle.tree_rules.specs.Find.{Look, here, on}

abbrev pub is-null : ℕ → Bool
is-null p = p == null

-- std::cmp::Ordering, and a.cmp(&b).
pub data Ordering : Type 0 where
  Less Equal Greater : Ordering

unfoldable pub cmp : ℕ → ℕ → Ordering
cmp a b = pick (nat_lt b a) Greater (pick (nat_lt a b) Less Equal)

-- match on it: the arms Greater, Less and Equal, which `_` is.
abbrev pub matching : {A : Type 0} → Ordering → A → A → A → A
matching Greater a b c = a
matching Less a b c = b
matching Equal a b c = c

-- What a turn of the loop comes to: `return`, another turn with p, or `unreachable!`.
pub data FindTurn : Type 0 where
  returns : ℕ → FindTurn
  again : ℕ → FindTurn
  unreachable : FindTurn

-- What a call comes to: what it returns, a panic, or that it has not come to an end yet.
pub data FindRun : Type 0 where
  returned : ℕ → FindRun
  panicked : FindRun
  running : FindRun

-- What an answer of ours says of such a call: the same slot, and null for Nothing. Of one that is lost it says nothing.
pub record ReturnsSame (a : Answer) (run : FindRun) : Type 0 where
  pub at : (slot : ℕ) → a ≡ given slot → run ≡ returned slot
  pub none : a ≡ nothing → run ≡ returned null

abbrev pub looping : FindTurn → (ℕ → FindRun) → FindRun
looping (returns p) rest = returned p
looping (again p) rest = rest p
looping unreachable rest = panicked

-- What a look of ours is in these words.
abbrev pub turn_of : ℕ → Look → FindTurn
turn_of p here = returns p
turn_of p (on q) = again q

-- What check_invariants comes to: it returns, an assertion fails, told by its number in the text and the node, or it has not come to an
-- end yet.
pub data CheckRun : Type 0 where
  passes : CheckRun
  fails : ℕ → ℕ → CheckRun
  unended : CheckRun

-- A statement, then the next.
infixr 20 ◌⨾◌
abbrev pub ◌⨾◌ : CheckRun → CheckRun → CheckRun
passes ⨾ rest = rest
fails a t ⨾ rest = fails a t
unended ⨾ rest = unended

-- assert!, the a-th of the text, at the node t; and an `if` with no `else`.
abbrev pub assert : ℕ → ℕ → Bool → CheckRun
assert a t true = passes
assert a t false = fails a t

abbrev pub when : Bool → CheckRun → CheckRun
when b c = pick b c passes

-- What a load of a field, or of the hash or the key, behind null would come to: anything. The source must not do it.
pub record Wild : Type 0 where
  pub loads : ℕ → ℕ
  pub names : ℕ → ℕ

module _ (wild : Wild) (names cells : List ℕ) where
  -- p.left.load and the like, p.node.hash and p.node.key, p.red.load.
  abbrev pub load : ℕ → ℕ → ℕ
  load f p = pick (is-null p) (wild.loads f) (cell cells p f)

  abbrev pub name : ℕ → ℕ → ℕ
  name f p = pick (is-null p) (wild.names f) (name_of names p f)

  abbrev pub red_of : ℕ → Bool
  red_of p = load state p == 2

  -- find_tree_node's loop's body, lines 159 to 201.
  unfoldable pub find_body : ℕ → ℕ → ℕ → FindTurn
  find_body p hash key =
      let p_hash = name hash_part p in  -- 160
      matching (cmp p_hash hash)  -- 163
      (again (load left p))  -- 165
      (again (load right p))  -- 169
      (let p_key = name key_part p in  -- 177
      pick (p_key == key) (returns p)  -- 178
      (let p_left = load left p in  -- 183
      let p_right = load right p in  -- 184
      pick (is-null p_left) (again p_right)  -- 186
      (pick (is-null p_right) (again p_left)  -- 189
      (matching (cmp p_key key)  -- 195
      (again p_left)  -- 196
      (again p_right)  -- 197
      unreachable))))  -- 199

  -- Lines 134 to 210: the loop, for at most so many turns, and what stands behind it.
  unfoldable pub find_tree_node : ℕ → ℕ → ℕ → ℕ → FindRun
  find_tree_node zero p hash key = pick (not (is-null p)) running (returned null)
  find_tree_node (suc turns) p hash key =
      pick (not (is-null p))  -- 153
      (looping (find_body p hash key) (λ q. find_tree_node turns q hash key))
      (returned null)  -- 209

  -- Lines 1381 to 1458, at most so deep.
  unfoldable pub check_invariants : ℕ → ℕ → CheckRun
  check_invariants zero t = unended
  check_invariants (suc deep) t =
      let t_parent = load parent t in  -- 1388
      let t_left = load left t in  -- 1389
      let t_right = load right t in  -- 1390
      let t_back = load prev t in  -- 1391
      let t_next = load next t in  -- 1392
      when (not (is-null t_back)) (assert 1 t (load next t_back == t))  -- 1394
      ⨾ when (not (is-null t_next)) (assert 2 t (load prev t_next == t))  -- 1402
      ⨾ when (not (is-null t_parent)) (assert 3 t (load left t_parent == t || load right t_parent == t))  -- 1410
      ⨾ when (not (is-null t_left))  -- 1418
      (assert 4 t (load parent t_left == t)  -- 1420
      ⨾ assert 5 t (nat_le (name hash_part t_left) (name hash_part t)))  -- 1425
      ⨾ when (not (is-null t_right))  -- 1430
      (assert 6 t (load parent t_right == t)  -- 1432
      ⨾ assert 7 t (nat_le (name hash_part t) (name hash_part t_right)))  -- 1437
      ⨾ when (red_of t && not (is-null t_left) && not (is-null t_right))  -- 1442
      (assert 8 t (not (red_of t_left && red_of t_right)))  -- 1446
      ⨾ when (not (is-null t_left)) (check_invariants deep t_left)  -- 1452
      ⨾ when (not (is-null t_right)) (check_invariants deep t_right)  -- 1455
