-- Whether a sound tree has a pair can be decided slot by slot, and the search decides it so.
use mathlib.Core.Path.{◌≡◌, ap}
use mathlib.Core.List.{List, [], ◌∷◌}
use Prim.Native.Nat.{ℕ, ◌≤◌}
use native.Mathlib.Decide.{ℕ_discrete}
use native.Mathlib.Omega.{arith}
use Rattle.slots.specs.Words.{name_of, hash_part, key_part}
use Rattle.slots.specs.Pairs.{Pair, pair, pair_of}
use Rattle.slots.specs.Answers.{Answer, some, none}
use Rattle.tree_rules.specs.Tree.{slots, times}
use Rattle.tree_rules.proofs.Counting.{times_cases, times_head, times_rest}
use Rattle.redblack.specs.Holding.{Has, Stands}
use Rattle.index_rules.specs.Live.{Live, Fit}
use Rattle.index_rules.specs.Sound.{Sound}
use Rattle.index_rules.specs.Insert.{sought_in}
use Rattle.index_rules.proofs.Seeking.{found_at, found_none}

same_pair_lem : (names : List ℕ) (hash key k : ℕ) → Dec (pair_of names k ≡ pair hash key)
same_pair_lem names hash key k = go (ℕ_discrete (name_of names k hash_part) hash) (ℕ_discrete (name_of names k key_part) key)
  where
    go : Dec (name_of names k hash_part ≡ hash) → Dec (name_of names k key_part ≡ key) → Dec (pair_of names k ≡ pair hash key)
    go (yes e) (yes f) = yes (λ i. pair (e i) (f i))
    go (yes e) (no f) = no (λ z. f (ap (λ (p : Pair). p.key) z))
    go (no e) f = no (λ z. e (ap (λ (p : Pair). p.hash) z))

record Among (names : List ℕ) (hash key : ℕ) (l : List ℕ) : Type 0 where
  slot : ℕ
  stands : 1 ≤ times slot l
  named : pair_of names slot ≡ pair hash key

among : (names : List ℕ) (hash key : ℕ) (l : List ℕ) → Dec (Among names hash key l)
unfolding times
among names hash key [] = no (λ h. omega (arith, h.stands))
among names hash key (i ∷ l) = go (same_pair_lem names hash key i) (among names hash key l)
  where
    go : Dec (pair_of names i ≡ pair hash key) → Dec (Among names hash key l) → Dec (Among names hash key (i ∷ l))
    go (yes e) d = yes (record { slot = i; stands = omega (arith, times_head i l); named = e })
    go (no n) (yes h) = yes (record { slot = h.slot; stands = omega (arith, h.stands, times_rest h.slot i l); named = h.named })
    go (no n) (no m) =
        no (λ h. times_cases h.slot i l h.stands (λ e. n (rw e at h.named))
        (λ y. m (record { slot = h.slot; stands = y; named = h.named })))

-- What the search says of a sound tree.
pub data Seen {t : Live} (h : Sound t) (hash key : ℕ) : Type 0 where
  there : (x : ℕ) → Stands x h.tree → pair_of t.names x ≡ pair hash key → sought_in t hash key ≡ some x → Seen h hash key
  absent : (Has t.names h.tree hash key → ⊥) → sought_in t hash key ≡ none → Seen h hash key

pub seen : {t : Live} → Fit t → (h : Sound t) (hash key : ℕ) → Seen h hash key
unfolding sought_in
seen {t} fit h hash key = go (among t.names hash key (slots h.tree))
  where
    go : Dec (Among t.names hash key (slots h.tree)) → Seen h hash key
    go (yes a) =
        there a.slot a.stands a.named (ap (λ (r : Answer). r.value) (found_at fit h hash key a.slot a.stands a.named))
    go (no n) =
        let m : Has t.names h.tree hash key → ⊥ = λ a. n (record { slot = a.slot; stands = a.stands; named = a.named }) in
        absent m (ap (λ (r : Answer). r.value) (found_none fit h hash key m))
