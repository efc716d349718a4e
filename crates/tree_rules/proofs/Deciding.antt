-- What a look at a slot says, by its tests.
use Rattle.std.proofs.Common.{ℕ, arith, le-ltb, lt-ltb, eq-eqb, ne_eqb}
use Rattle.slots.specs.Words.{null}
use Rattle.tree_rules.specs.Find.{decided}
use Rattle.tree_rules.specs.Claims.{Looks}

pub look_claims : (at own l r hash key : ℕ) → Looks at own l r hash key
unfolding decided
look_claims at own l r hash key =
    record {
      greater = λ h. simp (lt-ltb hash at h);
      less = λ h. simp (le-ltb hash at (omega arith), lt-ltb at hash h);
      equal = λ h k. simp (le-ltb hash at (omega arith), le-ltb at hash (omega arith), eq-eqb own key k);
      null-left = λ h k a. simp (le-ltb hash at (omega arith), le-ltb at hash (omega arith), ne_eqb own key k, eq-eqb l null a);
      null-right =
          λ h k a b. simp (le-ltb hash at (omega arith), le-ltb at hash (omega arith), ne_eqb own key k, ne_eqb l null a, eq-eqb r null b);
      key_greater = λ h k a b. simp (
        le-ltb hash at (omega arith),
        le-ltb at hash (omega arith),
        ne_eqb own key (omega arith),
        ne_eqb l null a,
        ne_eqb r null b,
        lt-ltb key own k,
      );
      key_less = λ h k a b. simp (
        le-ltb hash at (omega arith),
        le-ltb at hash (omega arith),
        ne_eqb own key (omega arith),
        ne_eqb l null a,
        ne_eqb r null b,
        le-ltb key own (omega arith),
      );
    }
