-- The check of one tree from its root: T3 to T6 and T8, a model for each rule, and the number of its slots.
-- The walk of T3 takes a visit a slot; the others go at most so deep, and are asked only of what T3's walk has passed.
use Rattle.std.specs.Prelude.{ℕ, zero, suc, ◌+◌, ◌-◌, Bool, true, false, List, ◌==◌, nat_lt}
use Rattle.slots.specs.Words.{null, pick, state, parent, left, right, cell, name_of, hash_part, key_part}
use Rattle.slots.specs.Answers.{Value, none, some}
use Rattle.tree_rules.specs.Find.{slots_of}
use Rattle.slots.specs.Pairs.{before}
use Rattle.tree_rules.specs.Sizes.{has_size}

-- What comes after a number, where there is one.
abbrev pub then : Value → (ℕ → Value) → Value
then (some v) rest = rest v
then none rest = none

-- Slot i is black or red.
abbrev pub in_use : List ℕ → ℕ → Bool
in_use cells i = pick (cell cells i state == 1) true (cell cells i state == 2)

-- The slot i stands under q, is black or red, and its two children, if any, are two.
unfoldable pub stands : List ℕ → ℕ → ℕ → Bool
stands cells q i =
    pick (cell cells i parent == q)
    (pick (in_use cells i)
    (pick (cell cells i left == null) true (pick (cell cells i left == cell cells i right) false true))
    false)
    false

-- T3: from the link i under q, with v visits left; the visits left after it, or none where it goes wrong.
unfoldable pub reached : ℕ → ℕ → List ℕ → ℕ → ℕ → ℕ → Value
reached zero n cells q i v = pick (i == null) (some v) none
reached (suc fuel) n cells q i v =
    pick (i == null) (some v)
    (pick (nat_lt i n)
    (pick (v == 0) none
    (pick (stands cells q i)
    (then (reached fuel n cells i (cell cells i left) (v - 1)) (λ rest. reached fuel n cells i (cell cells i right) rest))
    none))
    none)

-- The pair of slot m comes before that of slot i, or m is null: there is none before.
unfoldable pub follows : List ℕ → ℕ → ℕ → Bool
follows names m i =
    pick (m == null) true
    (before (name_of names m hash_part) (name_of names m key_part) (name_of names i hash_part) (name_of names i key_part))

-- T4: read left, self, right from the link i, where m was read last; the slot read last, or none where a pair does not rise.
unfoldable pub risen : ℕ → List ℕ → List ℕ → ℕ → ℕ → Value
risen zero names cells m i = pick (i == null) (some m) none
risen (suc depth) names cells m i =
    pick (i == null) (some m)
    (then (risen depth names cells m (cell cells i left))
    (λ k. pick (follows names k i) (risen depth names cells i (cell cells i right)) none))

-- Slot i is not red, or none of its children is.
abbrev pub is_calm : List ℕ → ℕ → Bool
is_calm cells i =
    pick (cell cells i state == 2)
    (pick (cell cells (cell cells i left) state == 2) false (pick (cell cells (cell cells i right) state == 2) false true))
    true

-- T5: no red slot has a red child, from the link i down.
unfoldable pub all_calm : ℕ → List ℕ → ℕ → Bool
all_calm zero cells i = i == null
all_calm (suc depth) cells i =
    pick (i == null) true
    (pick (is_calm cells i)
    (pick (all_calm depth cells (cell cells i left)) (all_calm depth cells (cell cells i right)) false)
    false)

-- T6: the number of black slots that every way from the link i down meets, or none where two differ.
unfoldable pub levelled : ℕ → List ℕ → ℕ → Value
levelled zero cells i = pick (i == null) (some 0) none
levelled (suc depth) cells i =
    pick (i == null) (some 0)
    (then (levelled depth cells (cell cells i left))
    (λ a. then (levelled depth cells (cell cells i right))
    (λ b. pick (a == b) (some (pick (cell cells i state == 2) a (a + 1))) none)))

-- A slot and the slots of its two parts.
unfoldable pub with_parts : ℕ → ℕ → ℕ
with_parts a b = 1 + a + b

-- T8: the number of slots from the link i down, or none where the size stored for one of them is not its number.
unfoldable pub slots_below : ℕ → List ℕ → List ℕ → ℕ → Value
slots_below zero cells sizes i = pick (i == null) (some 0) none
slots_below (suc depth) cells sizes i =
    pick (i == null) (some 0)
    (then (slots_below depth cells sizes (cell cells i left))
    (λ a. then (slots_below depth cells sizes (cell cells i right))
    (λ b. pick (has_size sizes i (with_parts a b)) (some (with_parts a b)) none)))

abbrev pub is_some : Value → Bool
is_some (some v) = true
is_some none = false

-- Each rule of the tree from root, over n slots.
unfoldable pub rises : List ℕ → List ℕ → ℕ → Bool
rises names cells root = is_some (risen (slots_of names) names cells null root)

unfoldable pub coloured : ℕ → List ℕ → ℕ → Bool
coloured n cells root = pick (cell cells root state == 2) false (all_calm n cells root)

unfoldable pub level : ℕ → List ℕ → ℕ → Bool
level n cells root = is_some (levelled n cells root)

unfoldable pub all_sized : ℕ → List ℕ → List ℕ → ℕ → Bool
all_sized n cells sizes root = is_some (slots_below n cells sizes root)

-- T3 to T6 of the tree from root, with v visits: the visits left, or none where one of the four is broken.
unfoldable pub obeyed : List ℕ → List ℕ → ℕ → ℕ → Value
obeyed names cells root v =
    then (reached v (slots_of names) cells null root v)
    (λ rest. pick (rises names cells root)
    (pick (coloured (slots_of names) cells root) (pick (level (slots_of names) cells root) (some rest) none) none)
    none)

-- The same with T8 of its slots.
unfoldable pub obeyed_sized : List ℕ → List ℕ → List ℕ → ℕ → ℕ → Value
obeyed_sized names cells sizes root v = pick (all_sized (slots_of names) cells sizes root) (obeyed names cells root v) none

-- The number of slots of the tree from root where it obeys T3 to T6 and its slots have their sizes, else none.
unfoldable pub tree_size : List ℕ → List ℕ → List ℕ → ℕ → Value
tree_size names cells sizes root = then (obeyed_sized names cells sizes root (slots_of names)) (λ rest. some (slots_of names - rest))
