-- A look says here exactly at the pair, and the search is told by its looks.
use Rattle.std.proofs.Common.{◌≡◌, ℕ, ◌<◌, ◌≢◌, List, sym, ap, ◌∙◌, arith}
use native.Mathlib.Decide.{ℕ_discrete, dec_lt}
use Rattle.slots.specs.Words.{null, left, right, cell, name_of, hash_part, key_part}
use Rattle.slots.specs.Pairs.{Pair, pair, pair_of}
use Rattle.tree_rules.specs.Find.{here, on, decided, looked, slots_of, searched, found, Follows}
use Rattle.tree_rules.specs.Looks.{LooksAt}
use Rattle.tree_rules.specs.Claims.{Looks}
use Rattle.tree_rules.proofs.Deciding.{look_claims}
use Rattle.tree_rules.proofs.Searching.{at_null, out_of_range, visits_spent, at_slot}
use Rattle.tree_rules.proofs.Trail.{here_on, Runs, Trail, start, step, looks_at}

module _ (at own l r hash key : ℕ) where
  clause : Looks at own l r hash key
  clause = look_claims at own l r hash key

  -- The pair is here exactly where hash and key are the slot's.
  here_is : decided at own l r hash key ≡ here → (at ≡ hash) × (own ≡ key)
  here_is e = go (dec_lt hash at) (dec_lt at hash) (ℕ_discrete own key) (ℕ_discrete l null) (ℕ_discrete r null) (dec_lt key own)
    where
      go : Dec (hash < at) → Dec (at < hash) → Dec (own ≡ key) → Dec (l ≡ null) → Dec (r ≡ null) → Dec (key < own)
          → (at ≡ hash) × (own ≡ key)
      go (yes h) b k x y d = absurd (here_on (sym e ∙ clause.greater h))
      go (no a) (yes h) k x y d = absurd (here_on (sym e ∙ clause.less h))
      go (no a) (no b) (yes k) x y d = (omega arith, k)
      go (no a) (no b) (no k) (yes x) y d = absurd (here_on (sym e ∙ clause.null-left (omega arith) k x))
      go (no a) (no b) (no k) (no x) (yes y) d = absurd (here_on (sym e ∙ clause.null-right (omega arith) k x y))
      go (no a) (no b) (no k) (no x) (no y) (yes d) = absurd (here_on (sym e ∙ clause.key_greater (omega arith) d x y))
      go (no a) (no b) (no k) (no x) (no y) (no d) = absurd (here_on (sym e ∙ clause.key_less (omega arith) (omega arith) x y))

module _ (names cells : List ℕ) (hash key : ℕ) where
  is : (p : ℕ) → looked names cells p hash key ≡ here → pair_of names p ≡ pair hash key
  unfolding looked
  is p e =
      let h = here_is (name_of names p hash_part) (name_of names p key_part) (cell cells p left) (cell cells p right) hash key e in
      λ i. pair (h.0 i) (h.1 i)

  is-not : (p q : ℕ) → looked names cells p hash key ≡ on q → pair_of names p ≢ pair hash key
  unfolding looked
  is-not p q e z =
      let c = clause (name_of names p hash_part) (name_of names p key_part) (cell cells p left) (cell cells p right) hash key in
      here_on (sym (c.equal (ap (λ (x : Pair). x.hash) z) (ap (λ (x : Pair). x.key) z)) ∙ e)

  pub tree_runs : Runs (slots_of names) (λ p. looked names cells p hash key) (λ v p. searched names cells v p hash key)
  tree_runs =
      record {
        at_null = at_null names cells hash key;
        out_of_range = out_of_range names cells hash key;
        visits_spent = visits_spent names cells hash key;
        at_slot = at_slot names cells hash key;
      }

  module _ (root : ℕ) where
    to : (k p : ℕ) → Trail tree_runs root k p → Follows names cells root hash key k p
    to k p start = Follows.start
    to k p (step {k = i} {p = x} t d l o) = Follows.step (to i x t) d l o

    from : (k p : ℕ) → Follows names cells root hash key k p → Trail tree_runs root k p
    from k p Follows.start = start
    from k p (Follows.step {k = i} {p = x} f d l o) = step (from i x f) d l o

    pub tree_looks : LooksAt names hash key (Follows names cells root hash key) (found names cells root hash key)
    unfolding found
    tree_looks = looks_at names hash key tree_runs is is-not root (Follows names cells root hash key) to from
