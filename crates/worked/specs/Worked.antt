-- The trees and calls of the worked examples. "Hash 0 unless said."
use Rattle.std.specs.Prelude.{List, [], ◌∷◌, ◌++◌, ℕ, zero, suc, ◌+◌, ◌*◌, eqb}
use Rattle.slots.specs.Words.{null, pick, state, left, right, next, free, cell, name_of, key_part}
use Rattle.slots.specs.Pairs.{Pair, pair, pair_of}
use Rattle.slots.specs.Answers.{Value, none as noValue, some}
use Rattle.index_rules.specs.Live.{Live, lent_tree, root_of, first_of}
use Rattle.index_rules.specs.Index.{Index, index}
use Rattle.index_rules.specs.Calls.{Call, insert_call, remove_call}
use Rattle.set_rules.specs.Words.{Set}
use Rattle.set_rules.specs.Cursor.{Cursor}
use Rattle.set_rules.specs.Walk.{nexts}
use Rattle.tree_rules.specs.Find.{slots_of}

unfoldable pub zeros : ℕ → List ℕ
zeros zero = []
zeros (suc n) = 0 ∷ zeros n

-- The cells of n free slots.
unfoldable pub free_slots : ℕ → List ℕ
free_slots zero = []
free_slots (suc n) = 0 ∷ (free ∷ (null ∷ (null ∷ (null ∷ (null ∷ (null ∷ free_slots n))))))

-- The empty tree of n slots, with an empty journal of so many lines.
unfoldable pub empty : ℕ → ℕ → Index
empty n lines =
    index (lent_tree (zeros (2 * n)) (free_slots n) (null ∷ (null ∷ (0 ∷ []))) (zeros n)) (zeros (1 + 6 * lines))

-- The key k goes in, at the place ten times k; the key k goes.
abbrev pub add : ℕ → Call
add k = insert_call 0 k (10 * k)

abbrev pub take : ℕ → Call
take k = remove_call 0 k

-- A tree as one draws it: the keys with their colours, one under another. Black is state 1, red state 2; other is any other state.
pub data Drawing : Type 0 where
  none : Drawing
  black red other : Drawing → ℕ → Drawing → Drawing

-- The drawing from the link i, at most so deep.
unfoldable pub drawn_from : ℕ → Live → ℕ → Drawing
drawn_from zero t i = none
drawn_from (suc depth) t i =
    let k = name_of t.names i key_part in
    let l = drawn_from depth t (cell t.cells i left) in
    let r = drawn_from depth t (cell t.cells i right) in
    pick (eqb i null) none
    (pick (eqb (cell t.cells i state) 1) (black l k r) (pick (eqb (cell t.cells i state) 2) (red l k r) (other l k r)))

unfoldable pub drawn : Live → Drawing
drawn t = drawn_from (slots_of t.names) t (root_of t)

-- The keys along the chain from the link i, at most so many.
unfoldable pub chain_from : ℕ → Live → ℕ → List ℕ
chain_from zero t i = []
chain_from (suc n) t i = pick (eqb i null) [] (name_of t.names i key_part ∷ chain_from n t (cell t.cells i next))

unfoldable pub chain_of : Live → List ℕ
chain_of t = chain_from (slots_of t.names) t (first_of t)

-- The cells of n slots of lists of one.
unfoldable pub list_slots : ℕ → List ℕ
list_slots zero = []
list_slots (suc n) = 0 ∷ (1 ∷ (null ∷ (null ∷ (null ∷ (null ∷ (null ∷ list_slots n))))))

-- "Table lengths 2, 4, 8; Moved: both of table 0, bins 0 and 2 of table 1": with one entry in each of table 1's other bins and in the four
-- bins below the Moved ones. An entry's hash is the number of its bin, its key that of its table.
unfoldable pub tables : Set
tables =
    record {
      lengths = 2 ∷ (4 ∷ (8 ∷ []));
      bins = (1 ∷ (1 ∷ [])) ++ ((1 ∷ (2 ∷ (1 ∷ (3 ∷ [])))) ++ (4 ∷ (0 ∷ (5 ∷ (0 ∷ (6 ∷ (0 ∷ (7 ∷ (0 ∷ [])))))))));
      heads = [];
      names = 1 ∷ (1 ∷ (3 ∷ (1 ∷ (0 ∷ (2 ∷ (2 ∷ (2 ∷ (4 ∷ (2 ∷ (6 ∷ (2 ∷ [])))))))))));
      cells = list_slots 6;
    }

-- The pairs that a walk gives, at most n, until an answer without a slot.
abbrev pub after_entry : Value → Set → (ℕ → List Pair) → List Pair
after_entry noValue s rest = []
after_entry (some x) s rest = rest x

unfoldable pub entries_given : ℕ → Set → Cursor → List Pair
entries_given zero s c = []
entries_given (suc n) s c = after_entry (nexts s c).answer.value s (λ x. pair_of s.names x ∷ entries_given n s (nexts s c).cursor)

-- Bin i of table k, as the entry there names it.
abbrev pub bin : ℕ → ℕ → Pair
bin k i = pair i k
