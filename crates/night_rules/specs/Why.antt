-- The model of why: the full check's own tests in the order of the rules, and where one fails, the lowest slot for which a test of one slot
-- is true. What follows links has a budget of as many steps as there are slots.
use Rattle.std.specs.Prelude.{Bool, true, false, List, length, ℕ, zero, suc, ◌+◌, eqb}
use Rattle.slots.specs.Words.{null, pick, state, parent, left, right, prev, next, free, cell, name_of, hash_part, key_part, code, black}
use Rattle.slots.specs.Words.{◌and◌}
use Rattle.slots.specs.Words.{Side, leftward, rightward, toward}
use Rattle.slots.specs.Answers.{Value, some, none, given, refused}
use Rattle.slots.specs.Pairs.{before}
use Rattle.tree_rules.specs.Find.{slots_of}
use Rattle.tree_rules.specs.Check.{points_back, red_slot}
use Rattle.tree_rules.specs.Rules.{levelled, with_parts}
use Rattle.tree_rules.specs.Sizes.{size_word}
use Rattle.index_rules.specs.Live.{Live, root_of, first_of, fits}
use Rattle.index_rules.specs.Sound.{slot_fine, rule1, rule2, rule3, rule4, rule5, rule6, rule7, rule8}
use Rattle.night_rules.specs.Account.{WayDown, Account, tells_slot, tells_header, tells_pair, tells_ways, tells_sound, shown_words}
use Rattle.night_rules.specs.Account.{Explained, explained}

abbrev pub neg : Bool → Bool
neg b = pick b false true

infixr 20 ◌or◌
abbrev pub ◌or◌ : Bool → Bool → Bool
a or b = pick a true b

abbrev pub is_used : Live → ℕ → Bool
is_used t i = neg (eqb (cell t.cells i state) free)

-- The field f, followed from k, leads to x in at most so many steps.
unfoldable pub leads_to : ℕ → List ℕ → ℕ → ℕ → ℕ → Bool
leads_to zero cells f x k = eqb k x
leads_to (suc budget) cells f x k = pick (eqb k x) true (leads_to budget cells f x (cell cells k f))

-- T1.
unfoldable pub shows1 : Live → ℕ → Bool
shows1 t i = neg (slot_fine (slots_of t.names) t i)

-- T3: the slot is one of the two children of p and not both; the root with a parent, or another slot that is no such child of its own;
-- the same child twice.
unfoldable pub one_child : List ℕ → ℕ → ℕ → Bool
one_child cells p i = pick (eqb (cell cells p left) i) (neg (eqb (cell cells p right) i)) (eqb (cell cells p right) i)

unfoldable pub misrooted : Live → ℕ → Bool
misrooted t i =
    let p = cell t.cells i parent in pick (eqb i (root_of t)) (neg (eqb p null)) (neg (one_child t.cells p i))

unfoldable pub twins : List ℕ → ℕ → Bool
twins cells i = neg (eqb (cell cells i left) null) and eqb (cell cells i left) (cell cells i right)

unfoldable pub shows3 : Live → ℕ → Bool
shows3 t i =
    is_used t i and
    (misrooted t i
    or neg (points_back t.cells i left parent)
    or neg (points_back t.cells i right parent)
    or twins t.cells i
    or neg (leads_to (slots_of t.names) t.cells parent (root_of t) i))

-- T4: the first slot below the link i in order; the first slot above that has the way up on its left; the slot next in order, null where
-- there is none.
unfoldable pub first_below : ℕ → List ℕ → ℕ → ℕ
first_below zero cells i = i
first_below (suc budget) cells i = pick (eqb (cell cells i left) null) i (first_below budget cells (cell cells i left))

unfoldable pub next_above : ℕ → List ℕ → ℕ → ℕ
next_above zero cells i = null
next_above (suc budget) cells i =
    let p = cell cells i parent in pick (eqb p null) null (pick (eqb (cell cells p left) i) p (next_above budget cells p))

unfoldable pub next_slot : ℕ → List ℕ → ℕ → ℕ
next_slot n cells i = pick (eqb (cell cells i right) null) (next_above n cells i) (first_below n cells (cell cells i right))

abbrev pub next_in : Live → ℕ → ℕ
next_in t i = next_slot (slots_of t.names) t.cells i

unfoldable pub pair_rises : List ℕ → ℕ → ℕ → Bool
pair_rises names i j = before (name_of names i hash_part) (name_of names i key_part) (name_of names j hash_part) (name_of names j key_part)

unfoldable pub shows4 : Live → ℕ → Bool
shows4 t i = is_used t i and neg (eqb (next_in t i) null) and neg (pair_rises t.names i (next_in t i))

-- T5.
unfoldable pub shows5 : Live → ℕ → Bool
shows5 t i =
    red_slot t.cells i
    and (eqb i (root_of t) or red_slot t.cells (cell t.cells i left) or red_slot t.cells (cell t.cells i right))

-- T6: both sides are level, and their numbers differ.
abbrev pub tilted : Value → Value → Bool
tilted none b = false
tilted (some a) none = false
tilted (some a) (some b) = neg (eqb a b)

unfoldable pub shows6 : Live → ℕ → Bool
shows6 t i =
    let n = slots_of t.names in
    is_used t i and tilted (levelled n t.cells (cell t.cells i left)) (levelled n t.cells (cell t.cells i right))

-- 1 for a black slot; the black slots above i, by its parents; from the slot p by its link on a side, then by left links, with k black
-- slots met so far; and the way by the slot i and its link on a side.
unfoldable pub one_if_black : List ℕ → ℕ → ℕ
one_if_black cells i = pick (eqb (cell cells i state) (code black)) 1 0

unfoldable pub blacks_above : ℕ → List ℕ → ℕ → ℕ
blacks_above zero cells i = 0
blacks_above (suc budget) cells i =
    let p = cell cells i parent in pick (eqb p null) 0 (blacks_above budget cells p + one_if_black cells p)

abbrev pub word_of_side : Side → ℕ
word_of_side leftward = 0
word_of_side rightward = 1

unfoldable pub way_on : ℕ → List ℕ → ℕ → Side → ℕ → WayDown
way_on zero cells p σ k = record { last = p; side = word_of_side σ; blacks = k }
way_on (suc budget) cells p σ k =
    let q = cell cells p (toward σ) in
    pick (eqb q null) (record { last = p; side = word_of_side σ; blacks = k }) (way_on budget cells q leftward (k + one_if_black cells q))

unfoldable pub way_by : Live → ℕ → Side → WayDown
way_by t i σ = let n = slots_of t.names in way_on n t.cells i σ (blacks_above n t.cells i + one_if_black t.cells i)

-- T7: the first with a prev.
unfoldable pub misfirst : Live → ℕ → Bool
misfirst t i = eqb i (first_of t) and neg (eqb (cell t.cells i prev) null)

unfoldable pub shows7 : Live → ℕ → Bool
shows7 t i =
    is_used t i and
    (misfirst t i
    or neg (points_back t.cells i prev next)
    or neg (points_back t.cells i next prev)
    or neg (leads_to (slots_of t.names) t.cells prev (first_of t) i))

-- T8: the number of slots from the link i down.
unfoldable pub number_below : ℕ → List ℕ → ℕ → ℕ
number_below zero cells i = 0
number_below (suc budget) cells i =
    pick (eqb i null) 0 (with_parts (number_below budget cells (cell cells i left)) (number_below budget cells (cell cells i right)))

unfoldable pub shows8 : Live → ℕ → Bool
shows8 t i =
    neg (eqb (size_word t.sizes i) (pick (eqb (cell t.cells i state) free) 0 (number_below (slots_of t.names) t.cells i)))

-- The lowest of so many slots from i on for which a test is true, null where there is none.
unfoldable pub lowest_with : ℕ → (ℕ → Bool) → ℕ → ℕ
lowest_with zero f i = null
lowest_with (suc k) f i = pick (f i) i (lowest_with k f (suc i))

abbrev pub lowest_slot : Live → (ℕ → Bool) → ℕ
lowest_slot t f = lowest_with (slots_of t.names) f 0

-- "The first broken rule among T1 to T8, in that order, and the lowest slot that shows it, or the header where no slot does."
unfoldable pub why : Live → Account
why t =
    let low = lowest_slot t in
    pick (neg (rule1 t)) (tells_slot 1 (low (shows1 t)))
    (pick (neg (rule2 t)) (tells_header 2)
    (pick (neg (rule3 t)) (tells_slot 3 (low (shows3 t)))
    (pick (neg (rule4 t)) (let i = low (shows4 t) in tells_pair i (next_in t i))
    (pick (neg (rule5 t)) (tells_slot 5 (low (shows5 t)))
    (pick (neg (rule6 t)) (let i = low (shows6 t) in tells_ways i (way_by t i leftward) (way_by t i rightward))
    (pick (neg (rule7 t)) (tells_slot 7 (low (shows7 t)))
    (pick (neg (rule8 t)) (tells_slot 8 (low (shows8 t))) tells_sound)))))))

-- "Refusals: 1 only": slices that do not fit, and a `shown` of another length.
unfoldable pub whys : Live → List ℕ → Explained
whys t shown =
    pick (fits t and eqb (length shown) 8) (explained (given (why t).rule) (shown_words (why t))) (explained (refused 1) shown)
