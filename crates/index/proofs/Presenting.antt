-- What remove and replace ask alike, as the tests settle it: each law takes what the tests gave, in the order of the code.
use mathlib.Core.Path.{◌≡◌, refl}
use mathlib.Core.Bool.{Bool, true, false}
use Prim.Native.Nat.{ℕ}
use native.Mathlib.Omega.{arith}
use lib.Dec.{eqb, leb}
use Rattle.slots.specs.Words.{most_slots}
use Rattle.slots.specs.Answers.{Value, some, none, given, refused}
use Rattle.index_rules.specs.Live.{Live, count_of}
use Rattle.index_rules.specs.Index.{Index, fits_index, length_of, lines_of}
use Rattle.index_rules.specs.Insert.{sought_in}
use Rattle.index_rules.specs.Checked.{on_checked, present_sound}
use Rattle.index.specs.Reads.{taken_as_sound}
use Rattle.index.specs.Calls.{pair_refusal_of}
use Rattle.index.specs.declared.present.PairRefusal.{PairRefusal}
use Rattle.index.specs.declared.present.PairRefusal.TheVariants.{Unfit, Damaged, Absent, JournalFull}
use Rattle.index.proofs.Asking.{unfit_taken, no_taken, yes_taken, Settled, refuses, accepts}

module _ (ix : Index) (hash key : ℕ) where
  abbrev t : Live
  t = ix.live

  abbrev counts : Bool
  counts = leb (count_of t) most_slots

  pub unfit : refused 1 ≡ taken_as_sound ix → (leaving : ℕ → Index) → refused 1 ≡ (present_sound ix hash key leaving).answer
  unfolding present_sound on_checked
  unfit e leaving = rw (unfit_taken ix e)

  pub damaged : given 0 ≡ taken_as_sound ix → (leaving : ℕ → Index) → refused 2 ≡ (present_sound ix hash key leaving).answer
  unfolding present_sound on_checked
  damaged e leaving = let f = no_taken ix e in rw (f.0, f.1)

  module _ (e : given 1 ≡ taken_as_sound ix) where
    fit : (fits_index ix ≡ true) × (counts ≡ true)
    fit = yes_taken ix e

    pub absent : sought_in t hash key ≡ none → (leaving : ℕ → Index) → refused 4 ≡ (present_sound ix hash key leaving).answer
    unfolding present_sound on_checked
    absent s leaving = rw (fit.0, fit.1, s)

    module _ {x : ℕ} (s : sought_in t hash key ≡ some x) where
      pub journal_full : eqb (length_of ix.lines) (lines_of ix.lines) ≡ true → (leaving : ℕ → Index)
          → refused 6 ≡ (present_sound ix hash key leaving).answer
      unfolding present_sound on_checked
      journal_full l leaving = rw (fit.0, fit.1, s, l)

      pub there : eqb (length_of ix.lines) (lines_of ix.lines) ≡ false → (leaving : ℕ → Index)
          → given x ≡ (present_sound ix hash key leaving).answer
      unfolding present_sound on_checked
      there l leaving = rw (fit.0, fit.1, s, l)

  pub settled_by : (leaving : ℕ → Index) → Settled ix leaving (present_sound ix hash key leaving)
  unfolding present_sound on_checked
  settled_by leaving = go (fits_index ix) refl counts refl (sought_in t hash key) refl (eqb (length_of ix.lines) (lines_of ix.lines)) refl
    where
      go : (a : Bool) → fits_index ix ≡ a → (b : Bool) → counts ≡ b → (v : Value) → sought_in t hash key ≡ v
          → (l : Bool) → eqb (length_of ix.lines) (lines_of ix.lines) ≡ l → Settled ix leaving (present_sound ix hash key leaving)
      go false e b f v s l r = refuses 0 none (rw e)
      go true e false f v s l r = refuses 1 none (rw (e, f))
      go true e true f none s l r = refuses 3 none (rw (e, f, s))
      go true e true f (some x) s true r = refuses 5 none (rw (e, f, s, r))
      go true e true f (some x) s false r = accepts x e f (rw (e, f, s, r))

-- A refusal has a number.
pub not_at : (r : PairRefusal) → (pair_refusal_of r).number ≡ 0 → ⊥
not_at Unfit e = omega arith
not_at Damaged e = omega arith
not_at Absent e = omega arith
not_at JournalFull e = omega arith
