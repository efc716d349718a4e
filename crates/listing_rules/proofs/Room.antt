-- How long what is printed can be: a number has at most twenty digits, and an accepted set at most 4,096 slots.
use Prim.Native.Nat.{ℕ, zero, suc, ◌-◌, ◌*◌, ◌≤◌}
use native.Mathlib.Omega.{arith}
use lib.ListN.{length, length-append}
use Rattle.slots.specs.Words.{place, cell, name_of, hash_part, key_part}
use Rattle.slots.specs.Answers.{Value, none, some}
use Rattle.tree_rules.specs.Find.{slots_of}
use Rattle.tree_rules.specs.Chain.{tally}
use Rattle.index_rules.specs.Sound.{used}
use Rattle.script_rules.specs.Blanks.{blanks_filled, piece, is_blank}
use Rattle.script_rules.proofs.Room.{digits_short}
use Rattle.set_rules.specs.Words.{Set, Fit, tables_of, length_at, headers_in, bini}
use Rattle.set_rules.specs.Cursor.{Cursor, starts}
use Rattle.set_rules.specs.Walk.{nexts}
use Rattle.set_rules.proofs.Claims as set-rules
use Rattle.listing_rules.specs.Lines.{home_table, slot_line, line_and, walk_lines, counts_line, no_line, set_text}

line_short : (s : Set) (x : ℕ) → length (slot_line s x) ≤ 126
unfolding slot_line blanks_filled piece is_blank
line_short s x =
    let hash = name_of s.names x hash_part in
    let k = home_table 7 s 0 hash in
    simp length-append
    (omega (
      arith,
      digits_short 20 k,
      digits_short 20 (bini (length_at s k) hash),
      digits_short 20 x,
      digits_short 20 hash,
      digits_short 20 (name_of s.names x key_part),
      digits_short 20 (cell s.cells x place),
    ))

lines_short : (n : ℕ) (s : Set) (c : Cursor) → length (walk_lines n s c) ≤ 126 * n
unfolding walk_lines
lines_short zero s c = omega arith
lines_short (suc n) s c = go (nexts s c).answer.value (lines_short n s (nexts s c).cursor)
  where
    go : (v : Value) → length (walk_lines n s (nexts s c).cursor) ≤ 126 * n
        → length (line_and s v (walk_lines n s (nexts s c).cursor)) ≤ 126 * suc n
    go none h = omega arith
    go (some x) h = simp length-append (omega (arith, line_short s x))

counts_short : (s : Set) → length (counts_line s) ≤ 139
unfolding counts_line blanks_filled piece is_blank
counts_short s =
    simp length-append
    (omega (
      arith,
      digits_short 20 (tables_of s),
      digits_short 20 (length s.bins),
      digits_short 20 (headers_in s),
      digits_short 20 (slots_of s.names),
      digits_short 20 (tally (slots_of s.names) (used s.cells)),
    ))

pub set_short : (s : Set) → Fit s → length (set_text s) ≤ 524288
unfolding set_text
set_short s fit =
    let few : slots_of s.names ≤ 4096 = omega (arith, fit.two, fit.slots_most) in
    rw (((set-rules.claims).judged.fitness s).1 fit)
    (simp length-append (omega (arith, counts_short s, lines_short (slots_of s.names) s (starts s 0).cursor)))

pub no_short : (n : ℕ) → length (no_line n) ≤ 524288
unfolding blanks_filled piece is_blank
no_short n = simp length-append (omega (arith, digits_short 20 n))
