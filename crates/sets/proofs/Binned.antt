-- The index that `bini`'s answer comes to.
use mathlib.Core.Path.{◌≡◌, ap, sym, ◌∙◌}
use Prim.Native.Nat.{ℕ}
use native.Mathlib.Decide.{ℕ_discrete}
use native.Mathlib.Omega.{arith}
use Rattle.std.specs.Prelude.{Result, Ok, Err}
use Rattle.std.specs.Result.{result_unwrap_or}
use Rattle.slots.specs.Answers.{Answer, given, refused}
use Rattle.slots.specs.declared.answer.Unfit.{Unfit}
use Rattle.slots.proofs.Laws.{some_is}
use Rattle.set_rules.specs.Words.{bini}
use Rattle.sets.specs.Bins.{home_of, binis}
use Rattle.sets.proofs.Binning.{binning as claims}

module _ (len hash : ℕ) where
  index_some : {i : ℕ} → given i ≡ binis len hash → i ≡ bini len hash
  index_some {i} e = go (ℕ_discrete len 0)
    where
      go : Dec (len ≡ 0) → i ≡ bini len hash
      go (yes z) = absurd (omega (arith, ap (λ (a : Answer). a.number) (e ∙ (claims.length-zero len hash).1 z)))
      go (no n) = some_is (ap (λ (a : Answer). a.value) (e ∙ claims.length_more len hash n))

  index_none : refused 1 ≡ binis len hash → 0 ≡ bini len hash
  index_none e = sym (claims.index-zero hash) ∙ ap (λ (n : ℕ). bini n hash) (sym ((claims.length-zero len hash).0 (sym e)))

  pub index_is : (r : Result ℕ Unfit) → home_of r ≡ binis len hash → result_unwrap_or r 0 ≡ bini len hash
  index_is (Ok i) e = index_some e
  index_is (Err unfit) e = index_none e
