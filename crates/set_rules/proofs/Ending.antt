-- The walk of an accepted set: every cursor that it makes has steps to Done before it, and none of them is refused.
use mathlib.Core.Path.{◌≡◌, ap, sym, ◌∙◌}
use mathlib.Core.Logic.{◌≢◌}
use mathlib.Core.List.{List, []}
use Prim.Native.Nat.{ℕ, suc, ◌≤◌}
use native.Mathlib.Omega.{arith}
use Rattle.slots.specs.Answers.{nothing, refused}
use Rattle.slots.proofs.Laws.{number}
use Rattle.set_rules.specs.Words.{Set, Fit}
use Rattle.set_rules.specs.Accepted.{Accepted}
use Rattle.set_rules.specs.Cursor.{Cursor, Step}
use Rattle.set_rules.specs.Walk.{nexts}
use Rattle.set_rules.specs.Held.{Made, cursor_after}
use Rattle.set_rules.specs.Whole.{Listing}
use Rattle.set_rules.specs.Walked.{WalkFrom}
use Rattle.set_rules.proofs.Nexting.{nexts_claims}
use Rattle.set_rules.proofs.Giving.{walk_gives}
use Rattle.set_rules.proofs.Keeping.{told}

never : {s : Set} {c : Cursor} {l : List ℕ} → Listing s c l → (n : ℕ) → 1 ≤ n → (nexts s c).answer ≢ refused n
never (Listing.done e) n k f = omega (arith, number (sym e ∙ f))
never (Listing.step e r) n k f = omega (arith, number (sym e ∙ f))

ends : {s : Set} {c : Cursor} {l : List ℕ} → Listing s c l → (n : ℕ) × ((nexts s (cursor_after n s c)).answer ≡ nothing)
unfolding cursor_after
ends (Listing.done e) = (0, e)
ends (Listing.step e r) = let m = ends r in (suc m.0, m.1)

-- After a step the rest is to come; after Done, nothing.
rest : {s : Set} {c : Cursor} {l : List ℕ} → Listing s c l → (m : List ℕ) × Listing s (nexts s c).cursor m
rest {s} {c} (Listing.done e) = ([], Listing.done (ap (λ (r : Step). r.answer) ((nexts_claims s c).done e) ∙ e))
rest (Listing.step {l = l} e r) = (l, r)

module _ (s : Set) (fit : Fit s) (acc : Accepted s) where
  made_listing : {c : Cursor} → Made s c → (l : List ℕ) × Listing s c l
  made_listing (Made.started {t} b) = let a = told s fit acc t b in (a.given, walk_gives s fit acc t b a.order)
  made_listing (Made.stepped m) = rest (made_listing m).1

  pub walks_claims : (c : Cursor) → Made s c → WalkFrom s c
  walks_claims c m = let l = made_listing m in record { never = never l.1; ends = ends l.1 }
