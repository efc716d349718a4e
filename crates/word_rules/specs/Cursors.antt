-- The cursor that start and walk are lent: eleven words, and what a call leaves in them.
use Rattle.std.specs.Prelude.{ℕ, List, [], ◌∷◌, length, get_or, set, eqb, ltb}
use Rattle.slots.specs.Words.{pick}
use Rattle.slots.specs.Answers.{refused}
use Rattle.set_rules.specs.Words.{Set}
use Rattle.set_rules.specs.Cursor.{Cursor, Step, starts}
use Rattle.set_rules.specs.Walk.{nexts}
use Rattle.slots.specs.Answers.{answer_word}

-- "11 words: base table, depth, eight indexes, last slot"
abbrev pub cursor_in : List ℕ → Cursor
cursor_in w =
    record {
      base = get_or w 0 0;
      depth = get_or w 1 0;
      indexes = get_or w 2 0 ∷ get_or w 3 0 ∷ get_or w 4 0 ∷ get_or w 5 0 ∷ get_or w 6 0 ∷ get_or w 7 0 ∷ get_or w 8 0 ∷ get_or w 9 0 ∷ [];
      last = get_or w 10 0;
    }

unfoldable pub written : List ℕ → Cursor → List ℕ
written w c =
    let x = c.indexes in
    let top = set (set w 0 c.base) 1 c.depth in
    let low = set (set (set (set top 2 (get_or x 0 0)) 3 (get_or x 1 0)) 4 (get_or x 2 0)) 5 (get_or x 3 0) in
    let high = set (set (set (set low 6 (get_or x 4 0)) 7 (get_or x 5 0)) 8 (get_or x 6 0)) 9 (get_or x 7 0) in
    set high 10 c.last

-- "a refused call leaves it as it was": the word of a refusal is 2^32 or more.
unfoldable pub left_in : List ℕ → ℕ → Cursor → List ℕ
left_in w told c = pick (ltb told 4294967296) (written w c) w

-- What a call comes to: its word, and what it leaves in the cursor's words.
pub record Kept : Type 0 where
  pub word : ℕ
  pub cursor : List ℕ

abbrev pub kept_step : List ℕ → Step → Kept
kept_step w s = record { word = answer_word s.answer; cursor = left_in w (answer_word s.answer) s.cursor }

-- "another length is 1"
abbrev pub of_eleven : List ℕ → Step → Kept
of_eleven w s = pick (eqb (length w) 11) (kept_step w s) (record { word = answer_word (refused 1); cursor = w })

unfoldable pub started_cursor : Set → ℕ → List ℕ → Kept
started_cursor s table w = of_eleven w (starts s table)

unfoldable pub walked_cursor : Set → List ℕ → Kept
walked_cursor s w = of_eleven w (nexts s (cursor_in w))
