-- What a call leaves in the words of a cursor: eleven writes, or none.
use mathlib.Core.Path.{◌≡◌}
use mathlib.Core.List.{List, [], ◌∷◌}
use Prim.Native.Nat.{ℕ, ◌+◌, ◌*◌}
use lib.ListN.{length, get_or, set}
use borrow.Author.Tests.{eq-eqb, ne_eqb}
use Rattle.slots.specs.Answers.{Answer}
use Rattle.std.specs.Result.{result_unwrap_or}
use Rattle.std.specs.Prelude.{Result, Ok, Err}
use Rattle.set_rules.specs.Cursor.{Cursor, Step, blank_cursor}
use Rattle.sets.specs.Cursors.{cursor_of, started_of, start_of}
use Rattle.sets.specs.declared.walk.Cursor.{Cursor as CursorCode}
use Rattle.sets.specs.declared.lookup.NoTable.{NoTable}
use Rattle.slots.specs.Answers.{answer_word}
use Rattle.word_rules.specs.Cursors.{cursor_in, written, left_in, of_eleven}

-- The eleven reads, one after another.
pub reads : (w : List ℕ) {b d x0 x1 x2 x3 x4 x5 x6 x7 l : ℕ} → b ≡ get_or w 0 0
    → d ≡ get_or w 1 0
    → x0 ≡ get_or w 2 0
    → x1 ≡ get_or w 3 0
    → x2 ≡ get_or w 4 0
    → x3 ≡ get_or w 5 0
    → x4 ≡ get_or w 6 0
    → x5 ≡ get_or w 7 0
    → x6 ≡ get_or w 8 0
    → x7 ≡ get_or w 9 0
    → l ≡ get_or w 10 0
    → ◌≡◌ {A = Cursor} (record { base = b; depth = d; indexes = x0 ∷ x1 ∷ x2 ∷ x3 ∷ x4 ∷ x5 ∷ x6 ∷ x7 ∷ []; last = l }) (cursor_in w)
reads w e0 e1 e2 e3 e4 e5 e6 e7 e8 e9 e10 = rw (e0, e1, e2, e3, e4, e5, e6, e7, e8, e9, e10)

-- The eleven writes, one after another.
pub writes : (w : List ℕ) (c : Cursor) {w1 w2 w3 w4 w5 w6 w7 w8 w9 w10 w11 : List ℕ} → w1 ≡ set w 0 c.base
    → w2 ≡ set w1 1 c.depth
    → w3 ≡ set w2 2 (get_or c.indexes 0 0)
    → w4 ≡ set w3 3 (get_or c.indexes 1 0)
    → w5 ≡ set w4 4 (get_or c.indexes 2 0)
    → w6 ≡ set w5 5 (get_or c.indexes 3 0)
    → w7 ≡ set w6 6 (get_or c.indexes 4 0)
    → w8 ≡ set w7 7 (get_or c.indexes 5 0)
    → w9 ≡ set w8 8 (get_or c.indexes 6 0)
    → w10 ≡ set w9 9 (get_or c.indexes 7 0)
    → w11 ≡ set w10 10 c.last
    → w11 ≡ written w c
unfolding written
writes w c e1 e2 e3 e4 e5 e6 e7 e8 e9 e10 e11 = rw (e11, e10, e9, e8, e7, e6, e5, e4, e3, e2, e1)

-- A cursor of another length is refused, one of eleven words is stepped.
pub short : {w : List ℕ} {r : ℕ} (s : Step) → (length w ≡ 11 → ⊥) → r ≡ 0 + 4294967296 * 1 → record { word = r; cursor = w } ≡ of_eleven w s
unfolding answer_word
short {w} s n e = rw (ne_eqb (length w) 11 n, e)

pub long : (w : List ℕ) {u : List ℕ} {r : ℕ} {a : Answer} {c : Cursor} {s : Step} → length w ≡ 11 → r ≡ answer_word a
    → record { answer = a; cursor = c } ≡ s → u ≡ left_in w r c
    → record { word = r; cursor = u } ≡ of_eleven w s
long w l e f g = rw (eq-eqb (length w) 11 l, g, e, ← f)

-- What start gives, or the blank cursor beside a refusal, is what the model's start leaves.
pub start_kept : (r : Result CursorCode NoTable) {b c : CursorCode} → cursor_of b ≡ blank_cursor → c ≡ result_unwrap_or r b
    → record { answer = started_of r; cursor = cursor_of c } ≡ start_of r
start_kept (Ok made) e f = rw f
start_kept (Err refusal) e f = rw (f, e)
