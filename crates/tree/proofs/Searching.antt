-- What each way out of the search's loop says of the answer, from the law of one turn.
use mathlib.Core.Path.{◌≡◌, refl, ap, sym, subst, ◌∙◌}
use mathlib.Core.Logic.{◌≢◌}
use mathlib.Core.List.{List}
use Prim.Native.Nat.{ℕ, suc, ◌+◌, ◌-◌, ◌<◌, ◌≤◌}
use native.Mathlib.Omega.{arith}
use mathlib.Core.Bool.{Bool, true, false}
use lib.Dec.{eqb, ltb}
use lib.ListN.{length}
use borrow.Author.Tests.{lt-ltb, le-ltb, ltb-false, eqb-true, eqb-false}
use Rattle.slots.specs.Words.{null, pick, left, right, cell, name_of, hash_part, key_part}
use Rattle.slots.specs.Answers.{Answer, given, nothing, refused}
use Rattle.tree_rules.specs.Find.{Look, here, on, by_key, decided, looked, Search, Counted, with_looks, counted, ends, looked_then}
use Rattle.tree_rules.proofs.Trail.{Runs}

-- A look at a slot of another hash takes the side, at one of the same hash the keys decide.
module _ (names cells : List ℕ) (p hash key : ℕ) where
  pub aside : name_of names p hash_part ≢ hash
      → on (pick (ltb hash (name_of names p hash_part)) (cell cells p left) (cell cells p right)) ≡ looked names cells p hash key
  unfolding looked decided
  aside d = go (name_of names p hash_part) d (ltb hash (name_of names p hash_part)) refl
    where
      go : (at : ℕ) → at ≢ hash → (b : Bool) → ltb hash at ≡ b
          → on (pick b (cell cells p left) (cell cells p right))
          ≡ pick b (on (cell cells p left))
          (pick (ltb at hash) (on (cell cells p right)) (by_key (name_of names p key_part) (cell cells p left) (cell cells p right) key))
      go at d true e = refl
      go at d false e = rw (lt-ltb at hash (omega (arith, ltb-false hash at e, d)))

  pub alike : name_of names p hash_part ≡ hash
      → by_key (name_of names p key_part) (cell cells p left) (cell cells p right) key ≡ looked names cells p hash key
  unfolding looked decided
  alike e = rw (le-ltb hash (name_of names p hash_part) (omega (arith, e)), le-ltb (name_of names p hash_part) hash (omega (arith, e)))

-- The search from here, with so many looks before it.
abbrev pub later : ℕ → Search → Counted
later k s = with_looks (k + length s.looks) s.answer

same_looks : {j k : ℕ} (a : Answer) → j ≡ k → with_looks j a ≡ with_looks k a
same_looks a e = ap (λ (k : ℕ). with_looks k a) e

pub begun : (n : ℕ) (run : ℕ → Search) → later 0 (run (n - 0)) ≡ counted (run n)
begun n run = let z : n - 0 ≡ n = omega arith in rw z (same_looks (run n).answer (omega arith))

-- A search over n slots that has come to the link p after k looks: each look spends a visit.
module _ {n : ℕ} {look : ℕ → Look} {run : ℕ → ℕ → Search} (r : Runs n look run) (p k : ℕ) {c : Counted}
    (i : later k (run (n - k) p) ≡ c) where
  stopped : {a : Answer} → run (n - k) p ≡ ends a → with_looks k a ≡ c
  stopped {a} e = same_looks a (omega arith) ∙ ap (later k) (sym e) ∙ i

  pub ended : p ≡ null → with_looks k nothing ≡ c
  ended e = stopped (r.at_null (n - k) p e)

  strayed : p ≢ null → n ≤ p → with_looks k (refused 9) ≡ c
  strayed d h = stopped (r.out_of_range (n - k) p d h)

  wanting : p ≢ null → n - k ≡ 0 → with_looks k (refused 9) ≡ c
  wanting d v = stopped (ap (λ (k : ℕ). run k p) v ∙ r.visits_spent p d)

  -- A link that leads off: past the slots, or with no visit left.
  pub outside : n ≤ p → {a : Counted} → a ≡ with_looks k (pick (eqb p null) nothing (refused 9)) → a ≡ c
  outside h e = go (eqb p null) refl e
    where
      go : (b : Bool) → eqb p null ≡ b → {a : Counted} → a ≡ with_looks k (pick b nothing (refused 9)) → a ≡ c
      go true x e = e ∙ ended (eqb-true p null x)
      go false x e = e ∙ strayed (eqb-false p null x) h

  pub spent : k ≡ n → {a : Counted} → a ≡ with_looks n (pick (eqb p null) nothing (refused 9)) → a ≡ c
  spent v e = go (eqb p null) refl e
    where
      go : (b : Bool) → eqb p null ≡ b → {a : Counted} → a ≡ with_looks n (pick b nothing (refused 9)) → a ≡ c
      go true x e = e ∙ same_looks nothing (sym v) ∙ ended (eqb-true p null x)
      go false x e = e ∙ same_looks (refused 9) (sym v) ∙ wanting (eqb-false p null x) (omega arith)

  module _ (d : p ≢ null) (l : p < n) (h : k < n) where
    turn : (o : Look) → o ≡ look p → later k (looked_then o p (λ q. run (n - (k + 1)) q)) ≡ c
    turn o e =
        let s : n - k ≡ suc (n - (k + 1)) = omega arith in
        rw e (ap (later k) (sym (r.at_slot (n - (k + 1)) p d l)) ∙ subst (λ (v : ℕ). later k (run v p) ≡ c) s i)

    pub met : here ≡ look p → with_looks (k + 1) (given p) ≡ c
    met e = turn here e

    pub onward : {q : ℕ} → on q ≡ look p → later (k + 1) (run (n - (k + 1)) q) ≡ c
    onward {q} e = same_looks (run (n - (k + 1)) q).answer (omega arith) ∙ turn (on q) e
