-- The passes of a move: each goes along slots by next, with so many slots left, and reads every link from the words as they stand. A null
-- link has no words, so a write to it writes nothing.
use Rattle.std.specs.Prelude.{List, ℕ, zero, suc, ◌+◌, eqb}
use Rattle.slots.specs.Words.{null, pick, state, parent, left, right, prev, next, cell, write, name_of, hash_part, key_part}
use Rattle.tree_rules.specs.Find.{slots_of}
use Rattle.redblack.specs.Links.{Links, read}
use Rattle.redblack.specs.Hanging.{inserted, spotted}
use Rattle.set_rules.specs.Accepting.{is_home}

-- How many of the slots from the link p have a hash that names bin i of a table of len bins.
unfoldable pub home_count : ℕ → List ℕ → List ℕ → ℕ → ℕ → ℕ → ℕ
home_count zero names cells len i p = 0
home_count (suc v) names cells len i p =
    pick (eqb p null) 0 (pick (is_home names len i p) 1 0 + home_count v names cells len i (cell cells p next))

-- The first of them, null where there is none.
unfoldable pub first_home : ℕ → List ℕ → List ℕ → ℕ → ℕ → ℕ → ℕ
first_home zero names cells len i p = null
first_home (suc v) names cells len i p =
    pick (eqb p null) null (pick (is_home names len i p) p (first_home v names cells len i (cell cells p next)))

-- The slots a and b are the last of their halves.
unfoldable pub halves_ended : List ℕ → ℕ → ℕ → List ℕ
halves_ended cells a b = write (write cells a next null) b next null

-- Each half is strung by next, which "keeps their listing order in each half": a is the slot of bin i's half that was met last and b that
-- of the other half, null where none was.
unfoldable pub threaded : ℕ → List ℕ → ℕ → ℕ → List ℕ → ℕ → ℕ → ℕ → List ℕ
threaded zero names len i cells a b p = halves_ended cells a b
threaded (suc v) names len i cells a b p =
    pick (eqb p null) (halves_ended cells a b)
    (pick (is_home names len i p) (threaded v names len i (write cells a next p) p b (cell cells p next))
    (threaded v names len i (write cells b next p) a p (cell cells p next)))

-- Slot x as a list's: state 1, and of its links only next, which it has.
unfoldable pub plain_slot : List ℕ → ℕ → List ℕ
plain_slot cells x = write (write (write (write (write cells x state 1) x parent null) x left null) x right null) x prev null

-- The slots from the link p as a list's.
unfoldable pub plained : ℕ → List ℕ → ℕ → List ℕ
plained zero cells p = cells
plained (suc v) cells p = pick (eqb p null) cells (plained v (plain_slot cells p) (cell cells p next))

-- The slots from the link p as a chain after the slot q: each gets its prev.
unfoldable pub backed : ℕ → List ℕ → ℕ → ℕ → List ℕ
backed zero cells q p = cells
backed (suc v) cells q p = pick (eqb p null) cells (backed v (write cells p prev q) p (cell cells p next))

-- The slot x joins the tree that the links hold: hung where the order says, and then balanced.
unfoldable pub joined : List ℕ → Links → ℕ → Links
joined names s x =
    inserted (slots_of names) s x (spotted (slots_of names) names s (name_of names x hash_part) (name_of names x key_part))

-- The slots from the link p join it, one after the other.
unfoldable pub joined_from : ℕ → List ℕ → Links → ℕ → Links
joined_from zero names s p = s
joined_from (suc v) names s p = pick (eqb p null) s (joined_from v names (joined names s p) (read s p next))
