-- The source's NodeIter, as it stands in its text: the state that its `next` works on and what a call comes to. Its guard, its spare frames
-- and its boxes are left out; `prev` is the cursor's last slot, and its being None from a Moved bin on is no matter, since `next` does not
-- read it again and writes it before it returns.
use Rattle.std.specs.Prelude.{◌≡◌, Bool, true, List, [], ◌∷◌, ℕ, zero, suc, ◌+◌, get_or, eqb, ltb, leb}
use Rattle.slots.specs.Words.{null, pick, next, cell}
use Rattle.slots.specs.Answers.{given, nothing, refused}
use Rattle.set_rules.specs.Words.{Set, tables_of, length_at, first_at, Bin, empty, moved, bad, list, tree, bin_at}
use Rattle.set_rules.specs.Cursor.{Cursor, Step}
use Rattle.tree_rules.specs.Find.{slots_of}

-- TableStack: a table that was left by a Moved bin, the index of that bin, and the table's length.
pub record IterFrame : Type 0 where
  pub table : ℕ
  pub index : ℕ
  pub long : ℕ

-- The current table, the index of the bin to use next, the index in the base table, and the stack.
pub record Iter : Type 0 where
  pub table : ℕ
  pub index : ℕ
  pub base_index : ℕ
  pub stack : List IterFrame

abbrev pub iter : ℕ → ℕ → ℕ → List IterFrame → Iter
iter table index base_index stack = record { table = table; index = index; base_index = base_index; stack = stack }

-- `base_index >= base_limit`, or `len() <= index`; base_limit and base_size are the base table's length.
abbrev pub over : Set → ℕ → Iter → Bool
over s size it = pick (leb size it.base_index) true (leb (length_at s it.table) it.index)

-- The arm Moved: the next table at the same index, and push_state.
abbrev pub pushed : Set → Iter → Iter
pushed s it =
    iter (suc it.table) it.index it.base_index
    (record { table = it.table; index = it.index; long = length_at s it.table } ∷ it.stack)

-- recover_state with the length n of the current table: `index + s.length < n` moves on within the frame, else the frame is popped; with
-- no frame left `index += base_size`, and from n on comes the next bin of the base table. With no frame at all `next` does the same itself.
unfoldable pub recovered : List IterFrame → ℕ → ℕ → ℕ → ℕ → ℕ → Iter
recovered [] size table index base_index n =
    pick (leb n (index + size)) (iter table (suc base_index) (suc base_index) []) (iter table (index + size) base_index [])
recovered (f ∷ rest) size table index base_index n =
    pick (ltb (index + f.long) n) (iter table (index + f.long) base_index (f ∷ rest))
    (recovered rest size f.table f.index base_index f.long)

abbrev pub proceeds : Set → ℕ → Iter → Iter
proceeds s size it = recovered it.stack size it.table it.index it.base_index (length_at s it.table)

-- A call of next: an entry and the state after it, the end, what the source has no arm for, or that it has not come to an end yet.
pub data Yield : Type 0 where
  yields : ℕ → Iter → Yield
  ends : Yield
  stuck : Yield
  running : Yield

abbrev pub matched : Set → ℕ → Iter → Bin → (Iter → Yield) → Yield
matched s size it empty rest = rest (proceeds s size it)
matched s size it moved rest = pick (ltb (suc it.table) (tables_of s)) (rest (pushed s it)) stuck
matched s size it bad rest = stuck
matched s size it (list x) rest = yields x (proceeds s size it)
matched s size it (tree h) rest = pick (ltb (first_at s h) (slots_of s.names)) (yields (first_at s h) (proceeds s size it)) stuck

-- Its loop, for so many turns.
unfoldable pub looped : ℕ → Set → ℕ → Iter → Yield
looped zero s size it = running
looped (suc turns) s size it =
    pick (over s size it) ends (matched s size it (bin_at s it.table it.index) (λ on. looped turns s size on))

-- The whole call: prev's next comes first.
abbrev pub next_called : ℕ → Set → ℕ → Iter → ℕ → Yield
next_called turns s size it prev =
    let link = cell s.cells prev next in
    pick (eqb link null) (looped turns s size it) (pick (ltb link (slots_of s.names)) (yields link it) stuck)

-- A cursor as such a state: the frames of the levels above d.
unfoldable pub frames : Set → ℕ → ℕ → List ℕ → List IterFrame
frames s base zero x = []
frames s base (suc d) x = record { table = base + d; index = get_or x d 0; long = length_at s (base + d) } ∷ frames s base d x

abbrev pub state_at : Set → ℕ → ℕ → List ℕ → Iter
state_at s base d x = iter (base + d) (get_or x d 0) (get_or x 0 0) (frames s base d x)

abbrev pub state_of : Set → Cursor → Iter
state_of s c = state_at s c.base c.depth c.indexes

-- A step of the walk is that call.
abbrev pub IsCall : Set → Cursor → Step → Yield → Type 0
IsCall s c r (yields x it) = (r.answer ≡ given x) × (state_of s r.cursor ≡ it) × (r.cursor.last ≡ x) × (r.cursor.base ≡ c.base)
IsCall s c r ends = r.answer ≡ nothing
IsCall s c r stuck = r.answer ≡ refused 9
IsCall s c r running = ⊥
