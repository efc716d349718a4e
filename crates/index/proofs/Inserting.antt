-- insert_sound as its tests settle it: each law takes what the tests gave, in the order of the code.
use mathlib.Core.Path.{◌≡◌, refl}
use mathlib.Core.Logic.{◌≢◌}
use mathlib.Core.Bool.{Bool, true, false}
use mathlib.Core.List.{List}
use Prim.Native.Nat.{ℕ, ◌-◌, ◌≤◌}
use native.Mathlib.Omega.{arith}
use lib.Dec.{eqb, leb}
use borrow.Author.Tests.{eq-eqb, ne_eqb}
use Rattle.slots.specs.Words.{null, most_slots}
use Rattle.slots.specs.Answers.{Value, some, none, given, refused}
use Rattle.index_rules.specs.Live.{Live, count_of}
use Rattle.index_rules.specs.Index.{Index, index, outcome, fits_index, length_of, lines_of, insert_kind, plain_line, appended}
use Rattle.index_rules.specs.Insert.{free_from, sought_in, grown}
use Rattle.index_rules.specs.Checked.{lowest_from, on_checked, inserts_sound}
use Rattle.index_rules.proofs.Journal.{fits-index}
use Rattle.index.specs.Reads.{taken_as_sound}
use Rattle.index.specs.Calls.{insert_refusal_of}
use Rattle.index.specs.declared.insert.InsertRefusal.{InsertRefusal}
use Rattle.index.specs.declared.insert.InsertRefusal.TheVariants.{Unfit, Damaged, Present, Full, JournalFull}
use Rattle.index.proofs.Asking.{unfit_taken, no_taken, yes_taken, Settled, refuses, accepts}
use Rattle.tree_rules.specs.Find.{slots_of}

module _ (floor : ℕ) (ix : Index) (hash key : ℕ) where
  abbrev t : Live
  t = ix.live

  abbrev counts : Bool
  counts = leb (count_of t) most_slots

  abbrev spare : ℕ
  spare = free_from (slots_of t.names - floor) t.cells floor

  pub unfit : refused 1 ≡ taken_as_sound ix → (p : ℕ) → refused 1 ≡ (inserts_sound floor ix hash key p).answer
  unfolding inserts_sound on_checked
  unfit e p = rw (unfit_taken ix e)

  pub damaged : given 0 ≡ taken_as_sound ix → (p : ℕ) → refused 2 ≡ (inserts_sound floor ix hash key p).answer
  unfolding inserts_sound on_checked
  damaged e p = let f = no_taken ix e in rw (f.0, f.1)

  module _ (e : given 1 ≡ taken_as_sound ix) where
    fit : (fits_index ix ≡ true) × (counts ≡ true)
    fit = yes_taken ix e

    pub few : slots_of t.names ≤ 4096
    few = let f = (fits-index ix fit.0).tree in omega (arith, f.most, f.two)

    pub present : {slot : ℕ} → sought_in t hash key ≡ some slot → (p : ℕ)
        → record { number = 3; value = some slot } ≡ (inserts_sound floor ix hash key p).answer
    unfolding inserts_sound on_checked
    present s p = rw (fit.0, fit.1, s)

    module _ (s : sought_in t hash key ≡ none) {x : ℕ} (v : x ≡ spare) where
      pub full : x ≡ null → (p : ℕ) → refused 5 ≡ (inserts_sound floor ix hash key p).answer
      unfolding inserts_sound on_checked lowest_from
      full z p = rw (fit.0, fit.1, s, ← v, eq-eqb x null z)

      module _ (d : x ≢ null) where
        pub journal_full : eqb (length_of ix.lines) (lines_of ix.lines) ≡ true → (p : ℕ)
            → refused 6 ≡ (inserts_sound floor ix hash key p).answer
        unfolding inserts_sound on_checked lowest_from
        journal_full l p = rw (fit.0, fit.1, s, ← v, ne_eqb x null d, l)

        pub taken : eqb (length_of ix.lines) (lines_of ix.lines) ≡ false → (p : ℕ)
            → given x ≡ (inserts_sound floor ix hash key p).answer
        unfolding inserts_sound on_checked lowest_from
        taken l p = rw (fit.0, fit.1, s, ← v, ne_eqb x null d, l)

  module _ (p : ℕ) where
    -- What an accepted insert leaves.
    abbrev pub after : ℕ → Index
    after x = index (grown t x null hash key p) (appended ix.lines (plain_line insert_kind hash key p))

    pub settled : Settled ix after (inserts_sound floor ix hash key p)
    unfolding inserts_sound on_checked
    settled =
        go (fits_index ix) refl counts refl (sought_in t hash key) refl (eqb (lowest_from floor t) null) refl
        (eqb (length_of ix.lines) (lines_of ix.lines)) refl
      where
        go : (a : Bool) → fits_index ix ≡ a → (b : Bool) → counts ≡ b → (v : Value) → sought_in t hash key ≡ v
            → (d : Bool) → eqb (lowest_from floor t) null ≡ d → (l : Bool) → eqb (length_of ix.lines) (lines_of ix.lines) ≡ l
            → Settled ix after (inserts_sound floor ix hash key p)
        go false e b f v s d q l r = refuses 0 none (rw e)
        go true e false f v s d q l r = refuses 1 none (rw (e, f))
        go true e true f (some x) s d q l r = refuses 2 (some x) (rw (e, f, s))
        go true e true f none s true q l r = refuses 4 none (rw (e, f, s, q))
        go true e true f none s false q true r = refuses 5 none (rw (e, f, s, q, r))
        go true e true f none s false q false r = accepts (lowest_from floor t) e f (rw (e, f, s, q, r))

    pub joined : {x : ℕ} {u : Live} {l : List ℕ} → u ≡ grown t x null hash key p
        → l ≡ appended ix.lines (plain_line insert_kind hash key p)
        → outcome (given x) (after x) ≡ inserts_sound floor ix hash key p
        → outcome (given x) (index u l) ≡ inserts_sound floor ix hash key p
    joined e1 e2 e = rw (e1, e2) e

-- A refusal has a number.
pub not_at : (r : InsertRefusal) → (insert_refusal_of r).number ≡ 0 → ⊥
not_at Unfit e = omega arith
not_at Damaged e = omega arith
not_at (Present slot) e = omega arith
not_at Full e = omega arith
not_at JournalFull e = omega arith
