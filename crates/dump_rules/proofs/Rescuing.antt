-- What is written of a dump, and the line of each slot.
use mathlib.Core.Path.{◌≡◌, refl, ap, ◌∙◌}
use mathlib.Core.List.{List}
use Prim.Native.Nat.{ℕ, ◌+◌, ◌-◌, ◌≤◌}
use native.Mathlib.Omega.{arith}
use lib.ListN.{get_or}
use borrow.Author.Tests.{eq-eqb, ne_eqb, lt-ltb, le-ltb}
use Rattle.slots.specs.Words.{null}
use Rattle.script_rules.specs.Blanks.{blanks_filled, piece, is_blank}
use Rattle.index_rules.specs.Index.{Index}
use Rattle.dump_rules.specs.Dump.{DumpOf}
use Rattle.dump_rules.specs.Rescue.{loss_text, rescue_text, saved_bytes, saved_text, rescue_bytes, rescue_words}
use Rattle.dump_rules.specs.Claims.{Losses, Rescues}
use Rattle.dump_rules.proofs.Dumping.{taken, back}

pub losses : (cells report : List ℕ) (i : ℕ) → Losses cells report i
unfolding loss_text blanks_filled piece is_blank
losses cells report i =
    record {
      unknown = λ e. rw (eq-eqb (get_or report i null) 2 e);
      repeats = λ s e.
          let other : 3 + s ≡ 2 → ⊥ = λ z. omega arith in
          let less : 3 + s - 3 ≡ s = omega arith in
          rw (e, ne_eqb (3 + s) 2 other, lt-ltb 2 (3 + s) (omega arith), less);
      none = λ h.
          let other : get_or report i null ≡ 2 → ⊥ = λ z. omega arith in
          rw (ne_eqb (get_or report i null) 2 other, le-ltb 2 (get_or report i null) (omega arith));
    }

pub rescues : {n c : ℕ} {ix : Index} → DumpOf n c ix → Rescues n c ix
unfolding rescue_bytes rescue_words saved_bytes saved_text rescue_text blanks_filled piece is_blank
rescues d = record { dumped = rw (taken d, back d); told = rw (taken d, back d) }
