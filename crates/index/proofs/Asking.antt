-- What the tests before a call writes come to, on plain values: the answers of lower routines settle the model's tests.
use mathlib.Core.Path.{◌≡◌, refl, ap, sym, ◌∙◌}
use mathlib.Core.Bool.{Bool, true, false}
use Prim.Native.Nat.{ℕ, suc, ◌≤◌, ◌<◌}
use native.Mathlib.Omega.{arith}
use lib.ListN.{length}
use Rattle.std.specs.Prelude.{Result, Ok, Err, IsErrAnd}
use lib.Dec.{leb}
use borrow.Author.Tests.{leb-true}
use Rattle.slots.specs.Words.{null, most_slots}
use Rattle.slots.specs.Answers.{Answer, Value, some, none, given, refused}
use Rattle.slots.proofs.Laws.{given_is, number, value}
use Rattle.tree_rules.specs.Find.{Counted, counted, found}
use Rattle.index_rules.specs.Live.{Live, root_of, count_of, fits}
use Rattle.index_rules.specs.Sound.{sounds}
use Rattle.index_rules.specs.Index.{Index, FitIndex, Outcome, outcome, fits_index, fits_journal, length_of}
use Rattle.index_rules.specs.Insert.{sought_in}
use Rattle.index_rules.proofs.Journal.{fits-index}
use Rattle.index_rules.specs.Checked.{sounds_index}
use Rattle.index_rules.proofs.Fit.{no_and, and_yes}
use Rattle.index_rules.proofs.Sounding.{told_unfit, told_no, told_yes}
use Rattle.index.specs.Reads.{taken_as_sound}
use Rattle.tree.specs.Find.{searched_of}
use Rattle.tree.specs.declared.find.Found.{Found}
use Rattle.tree.specs.declared.find.Found.TheVariants.{At, Nothing, Lost}

-- The tests of the two checks, by what they answer.
module _ (ix : Index) where
  module _ {b : Bool} (e : b ≡ fits_journal ix.lines) where
    pub unfit_journal : b ≡ false → refused 1 ≡ sounds_index ix
    unfolding sounds_index fits_index
    unfit_journal f = let z : fits_journal ix.lines ≡ false = sym e ∙ f in rw (z, no_and (fits ix.live))

    pub fit_journal : b ≡ true → {a : Answer} → a ≡ sounds ix.live → a ≡ sounds_index ix
    unfolding sounds_index fits_index sounds
    fit_journal f h = let z : fits_journal ix.lines ≡ true = sym e ∙ f in rw (z, and_yes (fits ix.live)) h

  pub unfit_taken : refused 1 ≡ taken_as_sound ix → fits_index ix ≡ false
  unfolding taken_as_sound
  unfit_taken e = told_unfit (fits_index ix) (leb (count_of ix.live) most_slots) e

  pub no_taken : given 0 ≡ taken_as_sound ix → (fits_index ix ≡ true) × (leb (count_of ix.live) most_slots ≡ false)
  unfolding taken_as_sound
  no_taken e = told_no _ _ e

  pub yes_taken : given 1 ≡ taken_as_sound ix → (fits_index ix ≡ true) × (leb (count_of ix.live) most_slots ≡ true)
  unfolding taken_as_sound
  yes_taken e = told_yes _ _ e

-- What a `?` hands on.
pub passed : {A E : Type 0} (k : E) (r : Result A E) → IsErrAnd r (λ e. e ≡ k) → r ≡ Err k
passed k (Ok x) h = absurd h
passed k (Err e) h = ap Err h

-- The search names a slot, or it does not.
module _ (t : Live) (hash key : ℕ) {root : ℕ} (e : root ≡ root_of t) (r : Found ℕ)
    (s : searched_of r ≡ counted (found t.names t.cells root hash key)) where
  sought : sought_in t hash key ≡ (searched_of r).answer.value
  unfolding sought_in
  sought =
      let z : (found t.names t.cells (root_of t) hash key).answer.value ≡ (searched_of r).answer.value =
      rw (← e) (sym (value (ap (λ (c : Counted). c.answer) s))) in
      z

  pub sought-at : {slot looks : ℕ} → r ≡ At slot looks → sought_in t hash key ≡ some slot
  sought-at y = sought ∙ ap (λ (q : Found ℕ). (searched_of q).answer.value) y

  pub sought-not : ((slot looks : ℕ) → r ≡ At slot looks → ⊥) → sought_in t hash key ≡ none
  sought-not n = sought ∙ go r n
    where
      go : (r : Found ℕ) → ((slot looks : ℕ) → r ≡ At slot looks → ⊥) → (searched_of r).answer.value ≡ none
      go (At slot looks) n = absurd (n slot looks refl)
      go (Nothing looks) n = refl
      go (Lost looks) n = refl

-- The case that a driver's tests come to: a refusal, which writes nothing, or a slot and what the call leaves.
module _ (ix : Index) (u : ℕ → Index) (o : Outcome) where
  pub data Settled : Type 0 where
    refuses : (n : ℕ) (v : Value) → o ≡ outcome (record { number = suc n; value = v }) ix → Settled
    accepts : (x : ℕ) → fits_index ix ≡ true → leb (count_of ix.live) most_slots ≡ true → o ≡ outcome (given x) (u x) → Settled

  answered : {q : Outcome} → o ≡ q → o.answer ≡ q.answer
  answered e = ap (λ (q : Outcome). q.answer) e

  pub kept : Settled → (a : Answer) → (a.number ≡ 0 → ⊥) → a ≡ o.answer → outcome a ix ≡ o
  kept (refuses n v e) a m q = rw (q ∙ answered e) (sym e)
  kept (accepts x f s e) a m q = absurd (m (number (q ∙ answered e)))

  pub record Done (x : ℕ) : Type 0 where
    pub fit : FitIndex ix
    pub counts : count_of ix.live ≤ most_slots
    pub left : outcome (given x) (u x) ≡ o

  pub done : Settled → (x : ℕ) → given x ≡ o.answer → Done x
  done (refuses n v e) x q = absurd (omega (arith, number (q ∙ answered e)))
  done (accepts y f s e) x q =
      record { fit = fits-index ix f; counts = leb-true _ _ s; left = rw (given_is (q ∙ answered e)) (sym e) }

module _ {ix : Index} {u : ℕ → Index} {o : Outcome} {x : ℕ} (d : Done ix u o x) where
  pub names_most : length ix.live.names ≤ 8192
  names_most = omega (arith, d.fit.tree.most, d.fit.tree.two)

  pub count-below : count_of ix.live < null
  count-below = omega (arith, d.counts)

  pub lines_most : length_of ix.lines ≤ 1024
  lines_most = omega (arith, d.fit.most, d.fit.within)
