-- What lookup looks at: a list is told by its looks as a tree is, and the loop gives what the bin gives that it comes to.
use mathlib.Core.Path.{◌≡◌, refl, sym, ◌∙◌}
use mathlib.Core.Logic.{◌≢◌}
use mathlib.Core.Bool.{Bool, true, false, false≢true}
use mathlib.Core.List.{List}
use Prim.Native.Nat.{ℕ, zero, suc, ◌-◌, ◌<◌, ◌≤◌}
use native.Mathlib.Omega.{arith}
use lib.ListN.{length}
use lib.Dec.{eqb, ltb, leb}
use borrow.Author.Tests.{eq-eqb}
use Rattle.slots.specs.Words.{null, pick, next, cell}
use Rattle.slots.specs.Pairs.{pair, pair_of}
use Rattle.slots.specs.Answers.{nothing, refused}
use Rattle.tree_rules.specs.Find.{here, on, ends, looked_then, slots_of}
use Rattle.tree_rules.specs.Looks.{LooksAt}
use Rattle.tree_rules.proofs.Trail.{here_on, on_is, looks, Runs, Trail, start, step, looks_at}
use Rattle.tree_rules.proofs.Claims.{claims as shape-claims}
use Rattle.set_rules.specs.Words.{Set, tables_of, root_at, Fit, fits, Bin, empty, moved, bad, list, tree}
use Rattle.set_rules.specs.Accepted.{Listed}
use Rattle.set_rules.specs.Lookup.{has_pair, list_look, sought_in_list, home_bin, asked, forwarded, lookups, ListFollows}
use Rattle.set_rules.specs.Walked.{LookupLooks}
use Rattle.set_rules.proofs.Reading.{at_null, out_of_range, visits_spent, at_slot}
use Rattle.set_rules.proofs.Forwarding.{past_last}
use Rattle.set_rules.proofs.Listing.{same_has, has_same, not_has}
use Rattle.set_rules.proofs.Looking.{at-bin, known_loop}

module _ (names cells : List ℕ) (hash key : ℕ) where
  is : (p : ℕ) → list_look names cells p hash key ≡ here → pair_of names p ≡ pair hash key
  is p e = go (has_pair names p hash key) refl e
    where
      go : (b : Bool) → has_pair names p hash key ≡ b → pick b here (on (cell cells p next)) ≡ here → pair_of names p ≡ pair hash key
      go true h e = has_same names p hash key h
      go false h e = absurd (here_on (sym e))

  -- A look that goes on is not at the pair, and goes to next.
  is_on : (p q : ℕ) → list_look names cells p hash key ≡ on q → (pair_of names p ≢ pair hash key) × (cell cells p next ≡ q)
  is_on p q e = go (has_pair names p hash key) refl e
    where
      go : (b : Bool) → has_pair names p hash key ≡ b → pick b here (on (cell cells p next)) ≡ on q
          → (pair_of names p ≢ pair hash key) × (cell cells p next ≡ q)
      go true h e = absurd (here_on e)
      go false h e = (λ z. false≢true (sym h ∙ same_has names p hash key z), on_is e)

  pub list_runs : Runs (slots_of names) (λ p. list_look names cells p hash key) (λ v p. sought_in_list names cells v p hash key)
  list_runs =
      record {
        at_null = at_null names cells hash key;
        out_of_range = out_of_range names cells hash key;
        visits_spent = visits_spent names cells hash key;
        at_slot = at_slot names cells hash key;
      }

  module _ (first : ℕ) where
    to : (k p : ℕ) → Trail list_runs first k p → ListFollows names cells first hash key k p
    to k p start = ListFollows.start
    to k p (step {k = i} {p = x} t d l o) = let z = is_on x p o in rw z.1 at (ListFollows.step (to i x t) d l z.0)

    from : (k p : ℕ) → ListFollows names cells first hash key k p → Trail list_runs first k p
    from k p ListFollows.start = start
    from k p (ListFollows.step {k = i} {p = x} f d l n) = step {q = cell cells x next} (from i x f) d l (rw (not_has names x hash key n))

    pub list_looks : LooksAt names hash key (ListFollows names cells first hash key)
        (sought_in_list names cells (slots_of names) first hash key)
    list_looks = looks_at names hash key list_runs is (λ p q e. (is_on p q e).0) first (ListFollows names cells first hash key) to from

-- A list that ends is looked at no further than it is long.
module _ (names cells : List ℕ) (hash key : ℕ) where
  pub list_length : (visits : ℕ) {p : ℕ} {l : List ℕ} → Listed (slots_of names) cells p l
      → length (sought_in_list names cells visits p hash key).looks ≤ length l
  unfolding sought_in_list
  list_length zero {p} {l} h = go (eqb p null)
    where
      go : (b : Bool) → length (pick b (ends nothing) (ends (refused 9))).looks ≤ length l
      go true = omega arith
      go false = omega arith
  list_length (suc visits) (Listed.ended e) = rw (eq-eqb _ null e) (omega arith)
  list_length (suc visits) (Listed.onward {i = p} {l = l} b h) =
      go (eqb p null) (leb (slots_of names) p) (has_pair names p hash key) (list_length visits h)
    where
      go : (u v w : Bool) → length (sought_in_list names cells visits (cell cells p next) hash key).looks ≤ length l
          → length (pick u (ends nothing) (pick v (ends (refused 9))
          (looked_then (pick w here (on (cell cells p next))) p (λ q. sought_in_list names cells visits q hash key)))).looks
          ≤ suc (length l)
      go true v w x = omega arith
      go false true w x = omega arith
      go false false true x = omega arith
      go false false false x = omega (arith, x)

pub lookup_looks : (s : Set) → Fit s → (t hash key : ℕ) → t < tables_of s → LookupLooks s t hash key
lookup_looks s fit t hash key l =
    let z = known_loop s t hash key fit l in
    record {
      in_list = λ {k} {p} c e. rw (z ∙ at-bin s t hash key l c e) (list_looks s.names s.cells hash key p);
      in_tree = λ {k} {h} c e. rw (z ∙ at-bin s t hash key l c e) (shape-claims.finds s.names s.cells (root_at s h) hash key).looks;
      in_none = λ c e. looks (z ∙ at-bin s t hash key l c e);
      bad_bin = λ c e. looks (z ∙ at-bin s t hash key l c e);
      moved_last = λ {k} c e m. looks (z ∙ at-bin s t hash key l c e ∙ past_last s hash key (suc k) m);
    }

-- A bin looks at no more slots than there are, whichever it is.
forwarded_most : (f : ℕ) (s : Set) (k hash key : ℕ) → length (forwarded f s k hash key).looks ≤ slots_of s.names
unfolding forwarded
forwarded_most zero s k hash key = omega arith
forwarded_most (suc f) s k hash key = go (home_bin s k hash) (forwarded_most f s (suc k) hash key)
  where
    go : (b : Bin) → length (forwarded f s (suc k) hash key).looks ≤ slots_of s.names
        → length (asked s b hash key (forwarded f s (suc k) hash key)).looks ≤ slots_of s.names
    go empty rest = omega arith
    go moved rest = rest
    go bad rest = omega arith
    go (list p) rest = (list_looks s.names s.cells hash key p).most
    go (tree h) rest = (shape-claims.finds s.names s.cells (root_at s h) hash key).looks.most

pub lookup_most : (s : Set) (t hash key : ℕ) → length (lookups s t hash key).looks ≤ slots_of s.names
unfolding lookups
lookup_most s t hash key = go (fits s) (ltb t (tables_of s))
  where
    go : (a b : Bool)
        → length (pick a (pick b (forwarded (tables_of s - t) s t hash key) (ends (refused 10))) (ends (refused 1))).looks
        ≤ slots_of s.names
    go true true = forwarded_most (tables_of s - t) s t hash key
    go true false = omega arith
    go false b = omega arith
