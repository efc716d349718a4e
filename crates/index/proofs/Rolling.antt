-- rollback_sound as its tests settle it: each law takes what the tests gave, in the order of the code.
use mathlib.Core.Path.{◌≡◌, refl, sym, ◌∙◌}
use mathlib.Core.Bool.{Bool, true, false}
use mathlib.Core.List.{List}
use Prim.Native.Nat.{ℕ, suc, ◌+◌, ◌-◌, ◌<◌, ◌≤◌}
use native.Mathlib.Omega.{arith}
use lib.ListN.{length, set}
use lib.Dec.{leb, ltb}
use borrow.Author.Tests.{lt-ltb, le-ltb, ltb-false, leb-true}
use Rattle.slots.specs.Words.{null, most_slots}
use Rattle.slots.specs.Answers.{Answer, given, refused}
use Rattle.slots.proofs.Laws.{given_is, number}
use Rattle.index_rules.specs.Live.{Live, count_of}
use Rattle.index_rules.specs.Index.{Index, index, FitIndex, outcome, fits_index, length_of}
use Rattle.index_rules.specs.Rollback.{stays, misfit, blanked}
use Rattle.index_rules.specs.Checked.{on_checked, unrolled_from, rolls_sound}
use Rattle.index_rules.proofs.Journal.{fits-index}
use Rattle.index.specs.Reads.{taken_as_sound}
use Rattle.index.specs.Rolls.{opened, rollback_refusal_of}
use Rattle.index.specs.declared.rollback.RollbackRefusal.{RollbackRefusal}
use Rattle.index.specs.declared.rollback.RollbackRefusal.TheVariants.{Unfit, Damaged, BadMark, Misfit}
use Rattle.index.proofs.Asking.{unfit_taken, no_taken, yes_taken}

module _ (ix : Index) (m : ℕ) where
  pub unfit : refused 1 ≡ taken_as_sound ix → refused 1 ≡ opened ix m
  unfolding opened
  unfit e = rw (unfit_taken ix e)

  pub damaged : given 0 ≡ taken_as_sound ix → refused 2 ≡ opened ix m
  unfolding opened
  damaged e = let f = no_taken ix e in rw (f.0, f.1)

  module _ (e : given 1 ≡ taken_as_sound ix) {n : ℕ} (h : n ≡ length_of ix.lines) where
    tests : (fits_index ix ≡ true) × (leb (count_of ix.live) most_slots ≡ true)
    tests = yes_taken ix e

    pub few_lines : n ≤ 1024
    few_lines = let f = fits-index ix tests.0 in omega (arith, f.most, f.within, h)

    pub bad_mark_lem : n < m → refused 7 ≡ opened ix m
    unfolding opened
    bad_mark_lem l = rw (tests.0, tests.1, ← h, lt-ltb n m l)

    pub good_mark : m ≤ n → given (n - m) ≡ opened ix m
    unfolding opened
    good_mark l = rw (tests.0, tests.1, ← h, le-ltb n m l)

  -- The case that the tests come to: a refusal, which writes nothing, or the lines are looked at.
  data Case : Type 0 where
    refuses : (n : ℕ) → opened ix m ≡ refused (suc n) → rolls_sound ix m ≡ outcome (refused (suc n)) ix → Case
    opens : fits_index ix ≡ true → leb (count_of ix.live) most_slots ≡ true → m ≤ length_of ix.lines
        → opened ix m ≡ given (length_of ix.lines - m) → Case

  case : Case
  unfolding opened rolls_sound on_checked
  case = go (fits_index ix) refl (leb (count_of ix.live) most_slots) refl (ltb (length_of ix.lines) m) refl
    where
      go : (a : Bool) → fits_index ix ≡ a → (b : Bool) → leb (count_of ix.live) most_slots ≡ b → (l : Bool)
          → ltb (length_of ix.lines) m ≡ l → Case
      go false e b f l r = refuses 0 (rw e) (rw e)
      go true e false f l r = refuses 1 (rw (e, f)) (rw (e, f))
      go true e true f true r = refuses 6 (rw (e, f, r)) (rw (e, f, r))
      go true e true f false r = opens e f (ltb-false _ _ r) (rw (e, f, r))

  pub kept : (a : Answer) → (a.number ≡ 0 → ⊥) → a ≡ opened ix m → outcome a ix ≡ rolls_sound ix m
  kept a n q = go case
    where
      go : Case → outcome a ix ≡ rolls_sound ix m
      go (refuses k e r) = rw (q ∙ e) (sym r)
      go (opens e f l r) = absurd (n (number (q ∙ r)))

  -- The lines above the mark, so many, are to be undone.
  pub record Open (count : ℕ) : Type 0 where
    pub fits : fits_index ix ≡ true
    pub counts : leb (count_of ix.live) most_slots ≡ true
    pub mark : m ≤ length_of ix.lines
    pub lines : count ≡ length_of ix.lines - m

  pub opening : (count : ℕ) → given count ≡ opened ix m → Open count
  opening count q = go case
    where
      go : Case → Open count
      go (refuses k e r) = absurd (omega (arith, number (q ∙ e)))
      go (opens e f l r) = record { fits = e; counts = f; mark = l; lines = given_is (q ∙ r) }

module _ {ix : Index} {m count : ℕ} (o : Open ix m count) where
  fit : FitIndex ix
  fit = fits-index ix o.fits

  pub names_most : length ix.live.names ≤ 8192
  names_most = omega (arith, fit.tree.most, fit.tree.two)

  pub cells_most : length ix.live.cells ≤ 28672
  cells_most = omega (arith, fit.tree.most, fit.tree.seven)

  pub head_three : length ix.live.head ≡ 3
  head_three = fit.tree.three

  pub sizes_most : length ix.live.sizes ≤ 4096
  sizes_most = omega (arith, fit.tree.most, fit.tree.each)

  pub count_room : count_of ix.live + count < null
  count_room = omega (arith, leb-true (count_of ix.live) most_slots o.counts, fit.most, fit.within, o.lines)

  pub misfits : {u : Live} → misfit ≡ unrolled_from count 0 ix.live ix.lines m → u ≡ ix.live
      → outcome (refused 8) (index u ix.lines) ≡ rolls_sound ix m
  unfolding rolls_sound on_checked
  misfits h g =
      let s : unrolled_from (length_of ix.lines - m) 0 ix.live ix.lines m ≡ misfit = rw (← o.lines) (sym h) in
      rw (g, o.fits, o.counts, le-ltb (length_of ix.lines) m o.mark, s)

  pub rolled : {u : Live} {l : List ℕ} → stays u ≡ unrolled_from count 0 ix.live ix.lines m → l ≡ set (blanked count ix.lines m) 0 m
      → outcome (given count) (index u l) ≡ rolls_sound ix m
  unfolding rolls_sound on_checked
  rolled {u} h g =
      let s : unrolled_from (length_of ix.lines - m) 0 ix.live ix.lines m ≡ stays u = rw (← o.lines) (sym h) in
      rw (o.fits, o.counts, le-ltb (length_of ix.lines) m o.mark, s, ← o.lines, ← g)

-- A refusal has a number.
pub not_lines : (r : RollbackRefusal) → (rollback_refusal_of r).number ≡ 0 → ⊥
not_lines Unfit e = omega arith
not_lines Damaged e = omega arith
not_lines BadMark e = omega arith
not_lines Misfit e = omega arith
