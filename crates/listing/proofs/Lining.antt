-- What is written one after another is the text, on plain values.
use mathlib.Core.Path.{◌≡◌, refl, ap, sym, ◌∙◌}
use mathlib.Core.Logic.{◌≢◌}
use mathlib.Core.Bool.{Bool, true, false}
use mathlib.Core.List.{[], ◌∷◌}
use Prim.Native.Nat.{ℕ, zero, suc, ◌+◌, ◌-◌, ◌<◌, ◌≤◌}
use native.Mathlib.Numerals.{add-one, sub-one}
use native.Mathlib.Omega.{arith}
use lib.ListN.{length}
use borrow.Author.Tests.{eq-eqb, ne_eqb}
use Rattle.slots.specs.Words.{place, cell, name_of, hash_part, key_part}
use Rattle.slots.specs.Answers.{Answer, none, some}
use Rattle.tree_rules.specs.Find.{slots_of}
use Rattle.tree_rules.specs.Chain.{tally}
use Rattle.index_rules.specs.Sound.{used}
use Rattle.script_rules.specs.Letters.{letters}
use Rattle.script_rules.specs.Blanks.{blanks_filled}
use Rattle.script_rules.specs.Feeding.{Paper, typed}
use Rattle.script_rules.proofs.Typing.{typed_append}
use Rattle.set_rules.specs.Words.{Set, tables_of, length_at, headers_in, fits, bin_word, bini}
use Rattle.set_rules.specs.Cursor.{Cursor, Step, blank_cursor, starts}
use Rattle.set_rules.specs.Walk.{nexts}
use Rattle.set_rules.proofs.Claims as set-rules
use Rattle.std.specs.Prelude.{Option, None, Some, Result, Ok, Err}
use Rattle.slots.specs.Coded.{value_of}
use Rattle.std.specs.Result.{result_unwrap_or}
use Rattle.sets.specs.Cursors.{cursor_of, start_of, given_of}
use Rattle.sets.specs.declared.lookup.NoTable.{NoTable}
use Rattle.sets.specs.declared.walk.Cursor.{Cursor as CursorCode}
use Rattle.sets.specs.declared.walk.NextRefusal.{NextRefusal}
use Rattle.sets.specs.declared.walk.NextRefusal.TheVariants.{Unfit, BadCursor, Lost}
use Rattle.file.specs.Meanings.{load_refusal_of}
use Rattle.file.specs.declared.reply.LoadRefusal.{LoadRefusal}
use Rattle.file.specs.declared.reply.LoadRefusal.TheVariants.{Unfit as UnfitFile, Damaged, Short, Long, OverLimit}
use Rattle.file_rules.specs.Loading.{LoadOutcome, cut_out}
use Rattle.listing_rules.specs.Lines.{home_table, slot_line, walk_lines, counts_line, no_line, set_text, load_text}

-- The table of a hash: here where the bin is not Moved, else further down; of eight tables the last.
module _ (s : Set) (hash k : ℕ) {len i w : ℕ} (a : len ≡ length_at s k) (b : i ≡ bini len hash) (c : w ≡ bin_word s k i) where
  word-is : bin_word s k (bini (length_at s k) hash) ≡ w
  word-is = rw (← a, ← b, ← c)

  pub home_here : k < 7 → w ≢ 1 → home_table (7 - k) s k hash ≡ k
  unfolding home_table
  home_here h d = let e : 7 - k ≡ suc (6 - k) = omega arith in rw (e, word-is, ne_eqb w 1 d)

  pub home_on : k < 7 → w ≡ 1 → home_table (7 - (k + 1)) s (k + 1) hash ≡ home_table (7 - k) s k hash
  unfolding home_table
  home_on h z =
      let e : 7 - k ≡ suc (6 - k) = omega arith in
      let f : 7 - (k + 1) ≡ 6 - k = omega arith in
      rw (e, f, add-one k, word-is, eq-eqb w 1 z)

pub home_last : (s : Set) (hash k : ℕ) → 7 ≤ k → home_table (7 - k) s k hash ≡ k
unfolding home_table
home_last s hash k h = let e : 7 - k ≡ 0 = omega arith in rw e

-- The line of a slot.
pub slot_told_lem : (s : Set) (x : ℕ) {hash k len i key at : ℕ} → hash ≡ name_of s.names x hash_part → k ≡ home_table 7 s 0 hash
    → len ≡ length_at s k → i ≡ bini len hash → key ≡ name_of s.names x key_part → at ≡ cell s.cells x place
    → blanks_filled (letters "# # # # # #\n") (k ∷ (i ∷ (x ∷ (hash ∷ (key ∷ (at ∷ [])))))) ≡ slot_line s x
unfolding slot_line
slot_told_lem s x a b c d e f = rw (← a, ← b, d, c, ← e, ← f)

-- A walk that does not begin stands at the blank cursor.
pub start_at : (r : Result CursorCode NoTable) (b : CursorCode) → cursor_of b ≡ blank_cursor
    → cursor_of (result_unwrap_or r b) ≡ (start_of r).cursor
start_at (Ok c) b e = refl
start_at (Err refusal) b e = e

-- A refused step gives no slot.
pub entry_told : (r : Result (Option ℕ) NextRefusal) → (given_of r).value ≡ value_of (result_unwrap_or r None)
entry_told (Ok (Some x)) = refl
entry_told (Ok None) = refl
entry_told (Err Unfit) = refl
entry_told (Err BadCursor) = refl
entry_told (Err Lost) = refl

-- The walk: a line and the rest, or the end of it.
module _ (s : Set) (p : Paper) (n : ℕ) (c : Cursor) (st : Step) (e : st ≡ nexts s c) where
  pub walk_turn : {q : Paper} {x : ℕ} → 0 < n → st.answer.value ≡ some x → q ≡ typed p (slot_line s x)
      → typed q (walk_lines (n - 1) s st.cursor) ≡ typed p (walk_lines n s c)
  unfolding walk_lines
  walk_turn {q} {x} h f g = go n h
    where
      go : (m : ℕ) → 0 < m → typed q (walk_lines (m - 1) s st.cursor) ≡ typed p (walk_lines m s c)
      go zero l = absurd (omega arith)
      go (suc m) l = rw (sub-one, walk_lines, ← e, f, g) (sym (typed_append p (slot_line s x) _))

  pub walk_ends : st.answer.value ≡ none → p ≡ typed p (walk_lines n s c)
  unfolding walk_lines typed
  walk_ends f = go n
    where
      go : (m : ℕ) → p ≡ typed p (walk_lines m s c)
      go zero = refl
      go (suc m) = rw (← e, f)

pub walk_over : (s : Set) (p : Paper) (n : ℕ) (c : Cursor) → n ≤ 0 → p ≡ typed p (walk_lines n s c)
unfolding walk_lines typed
walk_over s p zero c h = refl
walk_over s p (suc n) c h = absurd (omega arith)

-- The line of counts.
pub counts_told : (s : Set) {n : ℕ} → n ≡ tally (slots_of s.names) (used s.cells)
    → blanks_filled (letters "tables # bins # headers # slots # entries #\n")
    (tables_of s ∷ (length s.bins ∷ (headers_in s ∷ (slots_of s.names ∷ (n ∷ [])))))
    ≡ counts_line s
unfolding counts_line
counts_told s e = rw e

-- A set that fits, and words that do not.
pub few_slots : (s : Set) {b : Bool} → b ≡ fits s → b ≡ true → slots_of s.names ≤ 4096
few_slots s e f = let fit = ((set-rules.claims).judged.fitness s).0 (sym e ∙ f) in omega (arith, fit.two, fit.slots_most)

pub set_told : (s : Set) (p : Paper) {q r : Paper} {b : Bool} → b ≡ fits s → b ≡ true → q ≡ typed p (counts_line s)
    → r ≡ typed q (walk_lines (slots_of s.names) s (starts s 0).cursor) → r ≡ typed p (set_text s)
unfolding set_text
set_told s p e f g h =
    rw (← e, f) (h ∙ ap (λ (x : Paper). typed x (walk_lines (slots_of s.names) s (starts s 0).cursor)) g ∙ sym (typed_append p _ _))

pub unfit_told : (s : Set) {b : Bool} → b ≡ fits s → b ≡ false → no_line 1 ≡ set_text s
unfolding set_text
unfit_told s e f = rw (← e, f)

-- What was answered.
module _ (o : LoadOutcome) {a : Answer} (is : a ≡ o.answer) where
  pub no_told : a.number ≢ 0 → no_line a.number ≡ load_text o
  unfolding load_text
  no_told d = rw (← is, ne_eqb a.number 0 d)

  pub yes_told : a.number ≡ 0 → set_text (cut_out o.left.loader o.left.set) ≡ load_text o
  unfolding load_text
  yes_told e = rw (← is, eq-eqb a.number 0 e)

-- Each refusal has a number.
pub refused_load : (e : LoadRefusal) → (load_refusal_of e).number ≢ 0
refused_load UnfitFile = omega arith
refused_load Damaged = omega arith
refused_load Short = omega arith
refused_load Long = omega arith
refused_load OverLimit = omega arith
