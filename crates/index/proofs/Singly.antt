-- A single call is the full check and then the call where it has said yes: a refusal of the check is the call's, and past it the call
-- comes to what it comes to without it.
use mathlib.Core.Path.{◌≡◌, ◌∙◌}
use mathlib.Core.Bool.{true, false}
use Prim.Native.Nat.{ℕ}
use native.Mathlib.Omega.{arith}
use Rattle.slots.specs.Answers.{given, refused}
use Rattle.index_rules.specs.Sound.{Sound, sound}
use Rattle.index_rules.specs.Index.{Index, FitIndex, Outcome, outcome, fits_index}
use Rattle.index_rules.specs.Insert.{inserts}
use Rattle.index_rules.specs.Present.{where_present}
use Rattle.index_rules.specs.Remove.{removes}
use Rattle.index_rules.specs.Replace.{replaces}
use Rattle.index_rules.specs.Rollback.{rolls}
use Rattle.index_rules.specs.Checked.{Ready, sounds_index, inserts_sound, removes_sound, replaces_sound, rolls_sound}
use Rattle.index_rules.specs.Claims.{OnceChecked}
use Rattle.index_rules.proofs.Journal.{fits-index}
use Rattle.index_rules.proofs.Sounding.{yes_sound, told_unfit, told_no, told_yes}
use Rattle.index_rules.proofs.Claims.{claims}

module _ (ix : Index) where
  module _ (e : given 1 ≡ sounds_index ix) where
    passed : (f : FitIndex ix) × ((h : Sound ix.live) × OnceChecked ix f h)
    unfolding sounds_index
    passed =
        let t = told_yes _ _ e in
        let f = fits-index ix t.0 in
        let h = yes_sound f.tree t.1 in
        (f, (h, claims.once_checked ix f h))

    pub ready : Ready ix 0
    ready = record { passes = record { fit = passed.0; sound = passed.1.0 }; none = λ k l. absurd (omega arith) }

    pub insert_goes : (hash key p : ℕ) {o : Outcome} → o ≡ inserts_sound 0 ix hash key p → o ≡ inserts ix hash key p
    insert_goes hash key p h = h ∙ passed.1.1.insert 0 hash key p ready.none

    pub remove_goes : (hash key : ℕ) {o : Outcome} → o ≡ removes_sound ix hash key → o ≡ removes ix hash key
    remove_goes hash key h = h ∙ passed.1.1.remove hash key

    pub replace_goes : (hash key p : ℕ) {o : Outcome} → o ≡ replaces_sound ix hash key p → o ≡ replaces ix hash key p
    replace_goes hash key p h = h ∙ passed.1.1.replace hash key p

    pub rollback_goes : (m : ℕ) {o : Outcome} → o ≡ rolls_sound ix m → o ≡ rolls ix m
    rollback_goes m h = h ∙ passed.1.1.rollback m

  module _ (e : refused 1 ≡ sounds_index ix) where
    unfit : fits_index ix ≡ false
    unfolding sounds_index
    unfit = told_unfit (fits_index ix) (sound ix.live) e

    pub insert_unfit : (hash key p : ℕ) → outcome (refused 1) ix ≡ inserts ix hash key p
    unfolding inserts
    insert_unfit hash key p = rw unfit

    pub remove_unfit : (hash key : ℕ) → outcome (refused 1) ix ≡ removes ix hash key
    unfolding removes where_present
    remove_unfit hash key = rw unfit

    pub replace_unfit : (hash key p : ℕ) → outcome (refused 1) ix ≡ replaces ix hash key p
    unfolding replaces where_present
    replace_unfit hash key p = rw unfit

    pub rollback_unfit : (m : ℕ) → outcome (refused 1) ix ≡ rolls ix m
    unfolding rolls
    rollback_unfit m = rw unfit

  module _ (e : given 0 ≡ sounds_index ix) where
    damaged : (fits_index ix ≡ true) × (sound ix.live ≡ false)
    unfolding sounds_index
    damaged = told_no _ _ e

    pub insert_damaged : (hash key p : ℕ) → outcome (refused 2) ix ≡ inserts ix hash key p
    unfolding inserts
    insert_damaged hash key p = rw (damaged.0, damaged.1)

    pub remove_damaged : (hash key : ℕ) → outcome (refused 2) ix ≡ removes ix hash key
    unfolding removes where_present
    remove_damaged hash key = rw (damaged.0, damaged.1)

    pub replace_damaged : (hash key p : ℕ) → outcome (refused 2) ix ≡ replaces ix hash key p
    unfolding replaces where_present
    replace_damaged hash key p = rw (damaged.0, damaged.1)

    pub rollback_damaged : (m : ℕ) → outcome (refused 2) ix ≡ rolls ix m
    unfolding rolls
    rollback_damaged m = rw (damaged.0, damaged.1)
