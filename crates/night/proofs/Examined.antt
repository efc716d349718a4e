-- What is found, from what was told.
use mathlib.Core.Path.{◌≡◌, refl}
use mathlib.Core.Logic.{◌≢◌}
use mathlib.Core.Bool.{Bool, true, false, false≢true}
use Prim.Native.Nat.{ℕ, ◌≤◌}
use native.Mathlib.Omega.{arith}
use lib.ListN.{length}
use borrow.Author.Tests.{eq-eqb, ne_eqb}
use Rattle.std.specs.Prelude.{Option, Result, Ok, Err, IsErr}
use Rattle.slots.specs.Words.{pick, most_names}
use Rattle.index_rules.specs.Live.{Live, fits}
use Rattle.night_rules.specs.Account.{Account}
use Rattle.night_rules.specs.Why.{why}
use Rattle.night_rules.specs.Breach.{Breach, breach}
use Rattle.night_rules.specs.Finding.{Finding, sound, broken, unfit, examined}
use Rattle.night.specs.Shown.{refuses, tells, why_told}
use Rattle.night.specs.Found.{finding_of}
use Rattle.night.specs.declared.account.Account.{Account as AccountCode}
use Rattle.night.specs.declared.breach.Breach.{Breach as BreachCode}
use Rattle.slots.specs.declared.answer.Unfit.{Unfit}
use Rattle.night.proofs.Sought.{few_names}

-- What a refusal of why is passed on as.
pub left_unfit : (r : Result (Option (AccountCode × BreachCode)) Unfit) → IsErr r → finding_of r ≡ unfit
left_unfit (Ok found) e = absurd (false≢true e)
left_unfit (Err _) e = refl

module _ (t : Live) where
  told-why : {w : Account} → tells w ≡ why_told t → (fits t ≡ true) × (w ≡ why t)
  unfolding why_told
  told-why {w} = go (fits t)
    where
      go : (b : Bool) → tells w ≡ pick b (tells (why t)) refuses → (b ≡ true) × (w ≡ why t)
      go true e = (refl, cc)
      go false e = let z : ◌≡◌ {A = ℕ} 0 1 = cc in absurd (omega arith)

  pub found_unfit : refuses ≡ why_told t → unfit ≡ examined t
  unfolding why_told examined
  found_unfit = go (fits t) _
    where
      go : (b : Bool) (x : Finding) → refuses ≡ pick b (tells (why t)) refuses → unfit ≡ pick b x unfit
      go true x e = let z : ◌≡◌ {A = ℕ} 0 1 = cc in absurd (omega arith)
      go false x e = refl

  module _ {w : Account} (told : tells w ≡ why_told t) where
    pub found_few : length t.names ≤ most_names
    found_few = few_names t (told-why told).0

    pub found-sound : w.rule ≡ 0 → sound ≡ examined t
    unfolding examined
    found-sound e = let p = told-why told in rw (p.0, ← p.1, eq-eqb w.rule 0 e)

    pub found_broken : {b : Breach} → w.rule ≢ 0 → b ≡ breach t w → broken w b ≡ examined t
    unfolding examined
    found_broken n e = let p = told-why told in rw (p.0, ← p.1, ne_eqb w.rule 0 n, e)
