-- Where a step begins is where the model has it stand: eight indexes, kept down to the depth and 0 past it, are one list.
use mathlib.Core.Path.{◌≡◌, refl, sym, ◌∙◌}
use mathlib.Core.List.{List}
use Prim.Native.Nat.{ℕ, ◌<◌, ◌≤◌}
use native.Mathlib.Decide.{dec_lt, dec_le}
use native.Mathlib.Omega.{arith}
use lib.ListN.{get_or, get_or-eq_default}
use lib.Seq.{ext_get_or}
use borrow.Author.Tests.{le-leb, lt-leb}
use Rattle.set_rules.specs.Words.{Set, Bin}
use Rattle.set_rules.specs.Cursor.{Cursor}
use Rattle.set_rules.specs.Walk.{WalkPoint, walk_point, kept, trimmed, standing}
use Rattle.set_rules.specs.Ways.{Begins, Comes, Reads}
use Rattle.set_rules.proofs.Cursors.{trimmed-kept, trimmed_same}

pub trimmed_past : (d : ℕ) (x : List ℕ) (j : ℕ) → d < j → get_or (trimmed d x) j 0 ≡ 0
unfolding kept
trimmed_past d x j l = go (dec_lt j 8)
  where
    go : Dec (j < 8) → get_or (trimmed d x) j 0 ≡ 0
    go (yes k) = trimmed-kept d x j k ∙ simp (lt-leb j d l)
    go (no n) = let m : 8 ≤ j = omega arith in get_or-eq_default (trimmed d x) 0 m

module _ (c : Cursor) where
  pub standing_begins : c.depth < 8 → Begins c (standing c)
  standing_begins h =
      record {
        depth = refl;
        eight = refl;
        kept = λ j l. trimmed_same c.depth c.indexes j l h;
        past = trimmed_past c.depth c.indexes;
      }

  pub begins_is : {p : WalkPoint} → Begins c p → p ≡ standing c
  unfolding kept
  begins_is {p} b =
      let e : p.indexes ≡ trimmed c.depth c.indexes =
      ext_get_or 0 p.indexes (trimmed c.depth c.indexes) b.eight (λ j l. go j (omega (arith, b.eight)) (dec_le j c.depth)) in
      (λ k. walk_point (b.depth k) (e k))
    where
      go : (j : ℕ) → j < 8 → Dec (j ≤ c.depth) → get_or p.indexes j 0 ≡ get_or (trimmed c.depth c.indexes) j 0
      go j l (yes h) = b.kept j h ∙ sym (trimmed-kept c.depth c.indexes j l ∙ simp (le-leb _ _ h))
      go j l (no n) = b.past j (omega arith) ∙ sym (trimmed_past c.depth c.indexes j (omega arith))

  -- The point that a step reads at, come to from there.
  pub read_comes : {s : Set} {b : Bin} {p : WalkPoint} → Reads s c b p → Comes s c.base (standing c) p
  read_comes r = rw (begins_is r.begins) at r.comes
