-- The source's find_tree_node as a function on values, with the list of the slots that it looks at.
use Rattle.std.specs.Prelude.{◌≡◌, ℕ, zero, suc, ◌/◌, ◌<◌, ◌≤◌, ◌≢◌, ◌⊎◌, List, [], ◌∷◌, length, ◌==◌, nat_le, nat_lt}
use Rattle.slots.specs.Words.{null, pick, left, right, cell, name_of, hash_part, key_part}
use Rattle.slots.specs.Answers.{Answer, given, nothing, refused}

-- What a look at a slot says: the pair is here, or the search goes on along a link.
pub data Look : Type 0 where
  here : Look
  on : ℕ → Look

-- "on equal hash an equal key is the answer; else a null left goes right, a null right goes left, else keys are compared".
-- `own` is the slot's key.
abbrev pub by_key : ℕ → ℕ → ℕ → ℕ → Look
by_key own l r key = pick (own == key) here (pick (l == null) (on r) (pick (r == null) (on l) (pick (nat_lt key own) (on l) (on r))))

-- "hash greater goes left, less goes right". `at` is the slot's hash.
unfoldable pub decided : ℕ → ℕ → ℕ → ℕ → ℕ → ℕ → Look
decided at own l r hash key = pick (nat_lt hash at) (on l) (pick (nat_lt at hash) (on r) (by_key own l r key))

unfoldable pub looked : List ℕ → List ℕ → ℕ → ℕ → ℕ → Look
looked names cells p hash key =
    decided (name_of names p hash_part) (name_of names p key_part) (cell cells p left) (cell cells p right) hash key

-- What a search gives: its answer, and the slots that it looked at, in order.
pub record Search : Type 0 where
  pub answer : Answer
  pub looks : List ℕ

-- What is told of a search: its answer, and how many slots it looked at.
pub record Counted : Type 0 where
  pub answer : Answer
  pub looks : ℕ

abbrev pub with_looks : ℕ → Answer → Counted
with_looks k a = record { answer = a; looks = k }

abbrev pub counted : Search → Counted
counted s = with_looks (length s.looks) s.answer

abbrev pub ends : Answer → Search
ends a = record { answer = a; looks = [] }

abbrev pub looked_then : Look → ℕ → (ℕ → Search) → Search
looked_then here p rest = record { answer = given p; looks = p ∷ [] }
looked_then (on q) p rest = let r = rest q in record { answer = r.answer; looks = p ∷ r.looks }

-- How many slots there are names for.
abbrev pub slots_of : List ℕ → ℕ
slots_of names = length names / 2

-- The search from the link p, with so many visits left.
unfoldable pub searched : List ℕ → List ℕ → ℕ → ℕ → ℕ → ℕ → Search
searched names cells zero p hash key = pick (p == null) (ends nothing) (ends (refused 9))
searched names cells (suc visits) p hash key =
    pick (p == null) (ends nothing)
    (pick (nat_le (slots_of names) p) (ends (refused 9))
    (looked_then (looked names cells p hash key) p (λ q. searched names cells visits q hash key)))

-- find_tree_node from a root: as many visits as there are slots.
unfoldable pub found : List ℕ → List ℕ → ℕ → ℕ → ℕ → Search
found names cells root hash key = searched names cells (slots_of names) root hash key

-- The search follows the link p once it has visited k slots: the root first, and from a slot the link that the look names.
pub data Follows (names cells : List ℕ) (root hash key : ℕ) : ℕ → ℕ → Type 0 where
  start : Follows names cells root hash key 0 root
  step : {k p q : ℕ}
      → Follows names cells root hash key k p
      → p ≢ null
      → p < slots_of names
      → looked names cells p hash key ≡ on q
      → Follows names cells root hash key (suc k) q

-- 9 Lost, "a read follows a link neither null nor a slot .., or would visit one slot more than there are slots".
pub record Lost (names cells : List ℕ) (root hash key : ℕ) : Type 0 where
  pub visited : ℕ
  pub link : ℕ
  pub follows : Follows names cells root hash key visited link
  pub solid : link ≢ null
  pub astray : (slots_of names ≤ link) ⊎ (slots_of names ≤ visited)

-- A slot followed to where the look says that the pair is here.
pub record Here (names cells : List ℕ) (root hash key slot : ℕ) : Type 0 where
  pub visited : ℕ
  pub follows : Follows names cells root hash key visited slot
  pub solid : slot ≢ null
  pub inside : slot < slots_of names
  pub timely : visited < slots_of names
  pub look : looked names cells slot hash key ≡ here

-- A null link followed while visits are left.
pub record Missed (names cells : List ℕ) (root hash key : ℕ) : Type 0 where
  pub visited : ℕ
  pub follows : Follows names cells root hash key visited null
  pub timely : visited ≤ slots_of names
