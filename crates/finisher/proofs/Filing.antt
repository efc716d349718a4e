-- What is written on each way, on plain values.
use mathlib.Core.Path.{◌≡◌, ap, ◌∙◌}
use mathlib.Core.Logic.{◌≢◌}
use mathlib.Core.List.{List, [], ◌∷◌}
use Prim.Native.Nat.{ℕ, ◌*◌, ◌/◌, ◌<◌, ◌≤◌}
use native.Mathlib.Nat.{mul_comm, le-div_iff_mul-le, div-lt_iff_lt-mul}
use native.Mathlib.Omega.{arith}
use lib.ListN.{take}
use borrow.Author.Tests.{eq-eqb, ne_eqb}
use Rattle.slots.specs.Answers.{Answer}
use Rattle.slots.specs.Coded.{unsound_told}
use Rattle.slots.specs.declared.answer.Unsound.{Unsound}
use Rattle.slots.specs.declared.answer.Unsound.TheVariants.{Unfit as OnlyUnfit, Damaged as OnlyDamaged}
use Rattle.script_rules.specs.Blanks.{says}
use Rattle.script_rules.specs.Feeding.{Paper, typed}
use Rattle.set_rules.specs.Words.{Set, lent_set}
use Rattle.file_rules.specs.Saving.{Saved, saved, saves}
use Rattle.file_rules.specs.Loader.{Loader, new_loader, count_taken}
use Rattle.file_rules.specs.Loading.{loading, LoadOutcome, cut_out, load_chunk, load_end, load_whole}
use Rattle.file.specs.Meanings.{load_refusal_of}
use Rattle.file.specs.declared.reply.LoadRefusal.{LoadRefusal}
use Rattle.file.specs.declared.reply.LoadRefusal.TheVariants.{Unfit, Damaged, Short, Long, OverLimit}
use Rattle.move_rules.specs.Finishing.{Finish, finishing}
use Rattle.move_rules.specs.Printed.{written, none_written, saved_written, finish_written, load_written, WrittenOut, written_out, lined_out}

-- No file, and a line.
pub none_told : (out l : List ℕ) (p : Paper) {q : Paper} {w : ℕ} → (w ≡ 0) × (q ≡ typed p l)
    → written_out w out q ≡ lined_out (written 0 out l) p
none_told out l p e = λ x. written_out (e.0 x) out (e.1 x)

-- A move was refused, or all are made and save has answered.
module _ (f : Finish) (out : List ℕ) (p : Paper) {o : WrittenOut} where
  pub stop_written : f.number ≢ 0 → o ≡ lined_out (written 0 out (says "no # table # bin #\n" (f.number ∷ (f.table ∷ (f.bin ∷ []))))) p
      → o ≡ lined_out (finish_written f out) p
  unfolding finish_written
  stop_written d e = rw (ne_eqb f.number 0 d) e

  pub save_written : {w : Saved} → f.number ≡ 0 → w ≡ saves f.set out → o ≡ lined_out (saved_written f.gone w) p
      → o ≡ lined_out (finish_written f out) p
  unfolding finish_written
  save_written z s e = rw (eq-eqb f.number 0 z, ← s) e

-- Save has refused.
pub unsaved_written : (gone : ℕ) (out : List ℕ) (p : Paper) (r : Unsound) {a : Answer} {o : WrittenOut} → a ≡ unsound_told r
    → o ≡ lined_out (none_written a.number out) p
    → o ≡ lined_out (saved_written gone (saved (unsound_told r) out)) p
unfolding saved_written
unsaved_written gone out p OnlyUnfit e f = f ∙ rw e
unsaved_written gone out p OnlyDamaged e f = f ∙ rw e

-- No refusal of the loader has the number 0.
pub refused_load : (r : LoadRefusal) {a : Answer} → a ≡ load_refusal_of r → a.number ≢ 0
refused_load Unfit e z = omega (arith, ap (λ (x : Answer). x.number) e)
refused_load Damaged e z = omega (arith, ap (λ (x : Answer). x.number) e)
refused_load Short e z = omega (arith, ap (λ (x : Answer). x.number) e)
refused_load Long e z = omega (arith, ap (λ (x : Answer). x.number) e)
refused_load OverLimit e z = omega (arith, ap (λ (x : Answer). x.number) e)

-- The loader refused the file, or it has a set.
module _ (o : LoadOutcome) (out : List ℕ) {a : Answer} (is : a ≡ o.answer) (p : Paper) {r : WrittenOut} where
  pub no_written : a.number ≢ 0 → r ≡ lined_out (none_written a.number out) p → r ≡ lined_out (load_written o out) p
  unfolding load_written
  no_written d e = rw (← is, ne_eqb a.number 0 d) e

  pub set-written : a.number ≡ 0 → r ≡ lined_out (finish_written (finishing (cut_out o.left.loader o.left.set)) out) p
      → r ≡ lined_out (load_written o out) p
  unfolding load_written
  set-written z e = rw (← is, eq-eqb a.number 0 z) e

-- The set that the counts cut out.
pub cut_is : (r : Loader) (t : Set) {l b h n c : List ℕ} → l ≡ take (1 * count_taken r 0) t.lengths
    → b ≡ take (1 * count_taken r 1) t.bins
    → h ≡ take (3 * count_taken r 2) t.heads
    → n ≡ take (2 * count_taken r 3) t.names
    → c ≡ take (7 * count_taken r 3) t.cells
    → lent_set l b h n c ≡ cut_out r t
unfolding cut_out
cut_is r t d e f g i =
    let x : 1 * count_taken r 0 ≡ count_taken r 0 = omega arith in
    let y : 1 * count_taken r 1 ≡ count_taken r 1 = omega arith in
    rw (d, e, f, g, i, x, y)

-- So many items of a width are within a slice, or are all of it.
pub items_within : (count width len : ℕ) → 1 ≤ width → count ≤ len / width → width * count ≤ len
items_within count width len w h =
    let m = (le-div_iff_mul-le {k = width} (omega arith)).0 h in
    rw (mul_comm width count) m

pub items_past : (count width len : ℕ) → 1 ≤ width → len / width < count → len ≤ width * count
items_past count width len w h =
    let m = (div-lt_iff_lt-mul {k = width} (omega arith)).0 h in
    rw (mul_comm width count) (omega arith)

-- A start, one chunk and the end call.
pub whole_loaded : (t : Set) (l : List ℕ) {w : Loader} {o p : LoadOutcome} → w ≡ new_loader → o ≡ load_chunk (loading w t) l
    → p ≡ load_end o.left
    → p ≡ load_whole t l
whole_loaded t l e f g = rw (← e, ← f) g
