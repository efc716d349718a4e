-- The model of salvage: the slots of the first tree one after the other, each told in the report, and kept by one more insert into the
-- second tree where its pair is not there yet.
use Rattle.std.specs.Prelude.{Bool, List, ℕ, zero, suc, ◌+◌, ◌-◌, length, get_or, set, eqb, leb, ltb}
use Rattle.slots.specs.Words.{null, pick, place, state, free, code, red, cell, name_of, hash_part, key_part, ◌and◌}
use Rattle.slots.specs.Answers.{Answer, some, none, given, refused}
use Rattle.tree_rules.specs.Find.{slots_of}
use Rattle.index_rules.specs.Live.{Live, count_of, fits}
use Rattle.index_rules.specs.Sound.{sound}
use Rattle.index_rules.specs.Insert.{sought_in, grown}

-- The words of the report.
abbrev pub kept_word : ℕ
kept_word = 0

abbrev pub free_word : ℕ
free_word = 1

abbrev pub unknown_word : ℕ
unknown_word = 2

abbrev pub repeat_word : ℕ → ℕ
repeat_word s = 3 + s

-- What goes along: the second tree, how many slots are kept so far, and the report.
pub record Salvage : Type 0 where
  pub into : Live
  pub kept : ℕ
  pub report : List ℕ

abbrev pub salvaging : Live → ℕ → List ℕ → Salvage
salvaging u kept report = record { into = u; kept = kept; report = report }

-- Slot i is told and not kept.
abbrev pub slot_told : Salvage → ℕ → ℕ → Salvage
slot_told s i w = salvaging s.into s.kept (set s.report i w)

-- Slot i is kept. "Kept slots go to slots 0, 1, 2 and so on of the second tree": to the one that is the number kept so far.
abbrev pub slot_kept : Salvage → ℕ → ℕ → ℕ → ℕ → Salvage
slot_kept s i hash key p =
    salvaging (grown s.into s.kept null hash key p) (suc s.kept) (set s.report i kept_word)

-- The kept slot that has x kept ones before it, of so many slots from i on; the slot past them where there is none. With all slots below
-- one of the first tree it is the slot that went to slot x of the second tree.
unfoldable pub came_from : ℕ → List ℕ → ℕ → ℕ → ℕ
came_from zero report i x = i
came_from (suc c) report i x =
    pick (eqb (get_or report i null) kept_word) (pick (eqb x 0) i (came_from c report (suc i) (x - 1))) (came_from c report (suc i) x)

-- "Its state is above 2".
unfoldable pub unknown_state : ℕ → Bool
unknown_state x = ltb (code red) x

-- A slot with state 1 or 2: where the second tree has its pair it repeats the slot that the pair came from, else it is kept.
unfoldable pub salvaged_pair : List ℕ → List ℕ → ℕ → Salvage → Salvage
salvaged_pair names cells i s =
    let hash = name_of names i hash_part in
    let key = name_of names i key_part in
    elim (sought_in s.into hash key) [
      | some x ↦ slot_told s i (repeat_word (came_from i s.report 0 x))
      | none ↦ slot_kept s i hash key (cell cells i place)
    ]

unfoldable pub salvaged_slot : List ℕ → List ℕ → ℕ → Salvage → Salvage
salvaged_slot names cells i s =
    pick (eqb (cell cells i state) free) (slot_told s i free_word)
    (pick (unknown_state (cell cells i state)) (slot_told s i unknown_word)
    (salvaged_pair names cells i s))

-- So many slots from i on.
unfoldable pub salvaged_from : ℕ → List ℕ → List ℕ → ℕ → Salvage → Salvage
salvaged_from zero names cells i s = s
salvaged_from (suc c) names cells i s = salvaged_from c names cells (suc i) (salvaged_slot names cells i s)

-- All slots of the first tree, none kept before the first.
unfoldable pub salvaged_all : List ℕ → List ℕ → Live → List ℕ → Salvage
salvaged_all names cells u report = salvaged_from (slots_of names) names cells 0 (salvaging u 0 report)

-- A second tree that fits, and "is sound and its count is 0".
unfoldable pub is_cleared_tree : Live → Bool
is_cleared_tree u = fits u and sound u and eqb (count_of u) 0

unfoldable pub fits_salvage : List ℕ → List ℕ → Live → List ℕ → Bool
fits_salvage names cells u report =
    eqb (length names) (length u.names)
    and eqb (length cells) (length u.cells)
    and leb (slots_of names) (length report)
    and is_cleared_tree u

-- A call comes to its answer, and to what it leaves in the second tree and in the report.
pub record Salvaged : Type 0 where
  pub answer : Answer
  pub into : Live
  pub report : List ℕ

abbrev pub salvaged : Answer → Live → List ℕ → Salvaged
salvaged a u report = record { answer = a; into = u; report = report }

unfoldable pub salvages : List ℕ → List ℕ → Live → List ℕ → Salvaged
salvages names cells u report =
    let s = salvaged_all names cells u report in
    pick (fits_salvage names cells u report) (salvaged (given s.kept) s.into s.report) (salvaged (refused 1) u report)
