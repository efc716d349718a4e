-- What is written of a file: the loader decides, then whether all bins could be moved; the set that is left is accepted, so that save
-- writes it.
use mathlib.Core.Path.{◌≡◌, refl, ap, ◌∙◌}
use mathlib.Core.Bool.{Bool, true, false}
use mathlib.Core.List.{List, [], ◌∷◌}
use Prim.Native.Nat.{ℕ, ◌≤◌}
use native.Mathlib.Decide.{ℕ_discrete}
use native.Mathlib.Omega.{arith}
use lib.ListN.{length, length-append}
use lib.Dec.{eqb}
use borrow.Author.Tests.{eq-eqb, ne_eqb}
use Rattle.slots.specs.Words.{pick}
use Rattle.endian.specs.Bytes.{Bytes}
use Rattle.script_rules.specs.Text.{digits}
use Rattle.script_rules.specs.Blanks.{blanks_filled, piece, is_blank, says}
use Rattle.script_rules.proofs.Room.{digits_short}
use Rattle.set_rules.specs.Words.{Set, Fit}
use Rattle.set_rules.specs.Accepted.{Accepted}
use Rattle.file_rules.specs.File.{set_size}
use Rattle.file_rules.specs.Saving.{Saved, saves}
use Rattle.file_rules.specs.Faults.{WholeFile, LoadVerdict, accepts}
use Rattle.file_rules.specs.Loading.{cut_out, load_whole}
use Rattle.file_rules.proofs.Claims as file-rules
use Rattle.move_rules.specs.Finishing.{Finish, finishing}
use Rattle.move_rules.specs.Printed.{Written, none_written, saved_written, finish_written, load_written, largest_slices, file_written}
use Rattle.move_rules.specs.Claims.{FinishesWell, FileVerdict}
use Rattle.move_rules.proofs.Finishing.{finished_well}

-- A set that fits has no file of more bytes.
size_most : (t : Set) → Fit t → set_size t ≤ 249776
unfolding set_size
size_most t f =
    omega (arith, f.most, (file-rules.claims).bins t f, f.three, f.headers_most, f.two, f.slots_most)

module _ (l out : List ℕ) (room : 249776 ≤ length out) (s : Set) (w : WholeFile largest_slices l s) (fit : Fit s) (acc : Accepted s) where
  -- All bins are moved, or one is refused.
  of_set : FileVerdict l out (finish_written (finishing s) out)
  unfolding finish_written saved_written blanks_filled piece is_blank digits
  of_set = go (ℕ_discrete (finishing s).number 0)
    where
      well : FinishesWell s
      well = finished_well fit acc

      go : Dec ((finishing s).number ≡ 0) → FileVerdict l out (finish_written (finishing s) out)
      go (yes e) =
          let t = (finishing s).set in
          let h = well.same in
          rw (
            eq-eqb (finishing s).number 0 e,
            ((file-rules.claims).save t out).done h.fit h.accepted (omega (arith, size_most t h.fit)),
          )
          (FileVerdict.finished s t (finishing s).gone w fit acc h (well.done e) well.gone)
      go (no d) =
          let x = well.stopped d in
          let h = well.same in
          rw (ne_eqb (finishing s).number 0 d, x.0)
          (FileVerdict.stopped s (finishing s).set (finishing s).gone (finishing s).table (finishing s).bin w fit acc h well.gone
          x.4 (omega (arith, x.1, ap length h.lengths))
          (rw h.lengths x.2)
          (x.3 ∙ rw x.0))

pub file_told : (l out : List ℕ) → Bytes l → 249776 ≤ length out → FileVerdict l out (file_written l out)
unfolding file_written load_written blanks_filled piece is_blank
file_told l out b room = go (ℕ_discrete (load_whole largest_slices l).answer.number 0)
  where
    accepted_file : LoadVerdict largest_slices l 0 → (load_whole largest_slices l).answer.number ≡ 0
        → FileVerdict l out (file_written l out)
    accepted_file (accepts s w f a) e =
        rw (eq-eqb (load_whole largest_slices l).answer.number 0 e, ((file-rules.claims).loads largest_slices l b).own s w f a)
        (of_set l out room s w f a)

    go : Dec ((load_whole largest_slices l).answer.number ≡ 0) → FileVerdict l out (file_written l out)
    go (yes e) = accepted_file ((((file-rules.claims).loads largest_slices l b).verdicts 0).0 e) e
    go (no d) =
        rw (ne_eqb (load_whole largest_slices l).answer.number 0 d)
        (FileVerdict.refused_file (load_whole largest_slices l).answer.number (omega arith)
        ((((file-rules.claims).loads largest_slices l b).verdicts (load_whole largest_slices l).answer.number).0 refl))

-- A line has three numbers at most, of no more than twenty digits each.
no_short : (n : ℕ) (out : List ℕ) → length (none_written n out).line ≤ 128
unfolding blanks_filled piece is_blank
no_short n out = simp length-append (omega (arith, digits_short 20 n))

moved_short : (gone : ℕ) → length (says "moved #\n" (gone ∷ [])) ≤ 128
unfolding blanks_filled piece is_blank
moved_short gone = simp length-append (omega (arith, digits_short 20 gone))

stop_short : (n k i : ℕ) → length (says "no # table # bin #\n" (n ∷ (k ∷ (i ∷ [])))) ≤ 128
unfolding blanks_filled piece is_blank
stop_short n k i = simp length-append (omega (arith, digits_short 20 n, digits_short 20 k, digits_short 20 i))

either_short : (b : Bool) (w v : Written) → length w.line ≤ 128 → length v.line ≤ 128 → length (pick b w v).line ≤ 128
either_short true w v h i = h
either_short false w v h i = i

saved_short : (gone : ℕ) (w : Saved) → length (saved_written gone w).line ≤ 128
unfolding saved_written
saved_short gone w = either_short (eqb w.answer.number 0) _ _ (moved_short gone) (no_short w.answer.number w.out)

finish_short : (f : Finish) (out : List ℕ) → length (finish_written f out).line ≤ 128
unfolding finish_written
finish_short f out =
    either_short (eqb f.number 0) _ _ (saved_short f.gone (saves f.set out)) (stop_short f.number f.table f.bin)

pub line_short : (l out : List ℕ) → length (file_written l out).line ≤ 128
unfolding file_written load_written
line_short l out =
    let o = load_whole largest_slices l in
    either_short (eqb o.answer.number 0) _ _ (finish_short (finishing (cut_out o.left.loader o.left.set)) out)
    (no_short o.answer.number out)
