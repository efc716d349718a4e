-- Our lookup is the source's, wherever ours is not lost: a list by the same tests in the same order, a tree by find_tree_node, and the loop
-- over the tables turn by turn.
use mathlib.Core.Path.{◌≡◌, refl, ap, sym, ◌∙◌}
use mathlib.Core.Logic.{◌≢◌}
use mathlib.Core.Bool.{Bool, true, false, ◌&&◌}
use Prim.Native.Nat.{ℕ, zero, suc, ◌+◌, ◌-◌, ◌<◌, ◌≤◌}
use native.Mathlib.Omega.{arith}
use native.Mathlib.Decide.{dec_lt}
use lib.Dec.{eqb, leb, ltb}
use borrow.Author.Tests.{ne_eqb, lt-ltb, le-ltb}
use Rattle.slots.specs.Words.{null, pick, next, cell, name_of, hash_part, key_part}
use Rattle.slots.specs.Answers.{Answer, given, nothing, refused}
use Rattle.tree_rules.specs.Find.{slots_of, found}
use Rattle.tree_rules.specs.Source.{Wild, FindRun, returned, running, ReturnsSame}
use Rattle.tree_rules.proofs.Source.{ends_is, here_is, lost_is, search_is}
use Rattle.set_rules.specs.Words.{Set, tables_of, length_at, root_at, Fit, Bin, empty, moved, bad, list, tree, bin_word, headers_in}
use Rattle.set_rules.specs.Words.{bin_at, bini}
use Rattle.set_rules.specs.Lookup.{has_pair, list_look, sought_in_list, home_bin, asked, forwarded, lookups}
use Rattle.set_rules.specs.RawTable.{find_node, find_entry, matched-bin, find_moved, find}
use Rattle.set_rules.specs.Walked.{LooksAsSource}
use Rattle.set_rules.proofs.Fit.{length_least}
use Rattle.set_rules.proofs.Naming.{ranges}
use Rattle.set_rules.proofs.Looking.{known_loop}

module _ (w : Wild) (lost : FindRun) (s : Set) (hash key : ℕ) where
  pair_is : (p : ℕ) → has_pair s.names p hash key ≡ (eqb (name_of s.names p hash_part) hash && eqb (name_of s.names p key_part) key)
  unfolding has_pair
  pair_is p = go (eqb (name_of s.names p hash_part) hash) (eqb (name_of s.names p key_part) key)
    where
      go : (a b : Bool) → pick a b false ≡ (a && b)
      go true b = refl
      go false b = refl

  null_is : (visits p : ℕ) → eqb p null ≡ true → ReturnsSame (sought_in_list s.names s.cells visits p hash key).answer (returned null)
  unfolding sought_in_list
  null_is zero p e = rw e ends_is
  null_is (suc visits) p e = rw e ends_is

  -- A list from a slot that is not null.
  node_is : (visits p : ℕ) → eqb p null ≡ false
      → ReturnsSame (sought_in_list s.names s.cells visits p hash key).answer (find_node w lost s hash key visits p)
  unfolding sought_in_list find_node
  node_is zero p e = rw e (lost_is running)
  node_is (suc visits) p e =
      go (leb (slots_of s.names) p) refl (has_pair s.names p hash key) refl (eqb (cell s.cells p next) null) refl
      (node_is visits (cell s.cells p next))
    where
      go : (a : Bool) → leb (slots_of s.names) p ≡ a → (b : Bool) → has_pair s.names p hash key ≡ b
          → (c : Bool) → eqb (cell s.cells p next) null ≡ c
          → (c ≡ false → ReturnsSame (sought_in_list s.names s.cells visits (cell s.cells p next) hash key).answer
          (find_node w lost s hash key visits (cell s.cells p next)))
          → ReturnsSame (sought_in_list s.names s.cells (suc visits) p hash key).answer (find_node w lost s hash key (suc visits) p)
      go true a b f c g more = rw (e, a) (lost_is _)
      go false a true f c g more = rw (e, a, f, sym (pair_is p) ∙ f) (here_is p)
      go false a false f true g more = rw (e, a, f, sym (pair_is p) ∙ f, g) (null_is visits (cell s.cells p next) g)
      go false a false f false g more = rw (e, a, f, sym (pair_is p) ∙ f, g) (more refl)

  -- The word of a list names a slot below 4,096.
  list_solid : (k i p : ℕ) → bin_at s k i ≡ list p → eqb p null ≡ false
  list_solid k i p e =
      let r = ((ranges (slots_of s.names) (headers_in s) (bin_word s k i)).lists p).0 e in ne_eqb p null (λ q. omega (arith, r.1, r.2))

  module _ (fit : Fit s) where
    -- `find` on a bin that is not null, once the loop from the next table on is the source's.
    bin-is : (turns k i : ℕ) (b : Bin) → bin_at s k i ≡ b → b ≢ empty → k + suc turns ≡ tables_of s
        → ReturnsSame (forwarded turns s (suc k) hash key).answer (find_moved w lost s hash key turns (suc k))
        → ReturnsSame (asked s b hash key (forwarded turns s (suc k) hash key)).answer (find w lost s hash key turns k b)
    unfolding find found forwarded
    bin-is turns k i empty e n l more = absurd (n refl)
    bin-is turns k i bad e n l more = lost_is lost
    bin-is turns k i (list p) e n l more = node_is (slots_of s.names) p (list_solid k i p e)
    bin-is turns k i (tree h) e n l more = search_is w s.names s.cells (slots_of s.names) (root_at s h) hash key
    bin-is zero k i moved e n l more = let z : tables_of s ≤ suc k = omega arith in rw (le-ltb (suc k) (tables_of s) z) (last k)
      where
        last : (k : ℕ) → ReturnsSame (forwarded zero s (suc k) hash key).answer lost
        last k = lost_is lost
    bin-is (suc turns) k i moved e n l more = let z : suc k < tables_of s = omega arith in rw (lt-ltb (suc k) (tables_of s) z) more

    -- In the loop a bin that is not null is found in as `find` does.
    in_loop : (turns k : ℕ) (b : Bin) → b ≢ empty
        → matched-bin w lost s hash key k b (find_moved w lost s hash key turns) ≡ find w lost s hash key turns k b
    unfolding find
    in_loop turns k empty n = absurd (n refl)
    in_loop turns k bad n = refl
    in_loop turns k (list p) n = refl
    in_loop turns k (tree h) n = refl
    in_loop turns k moved n = refl

    loop_is : (turns k : ℕ) → k + turns ≡ tables_of s
        → ReturnsSame (forwarded turns s k hash key).answer (find_moved w lost s hash key turns k)
    unfolding forwarded find_moved bini
    loop_is zero k l = lost_is running
    loop_is (suc turns) k l = go (home_bin s k hash) refl (loop_is turns (suc k) (omega arith))
      where
        long : eqb (length_at s k) 0 ≡ false
        long = ne_eqb (length_at s k) 0 (λ z. omega (arith, length_least fit k (omega arith)))

        -- A bin is not null, or it is.
        known : (b : Bin) → (b ≡ empty → ⊥) → home_bin s k hash ≡ b
            → ReturnsSame (forwarded turns s (suc k) hash key).answer (find_moved w lost s hash key turns (suc k))
            → ReturnsSame (forwarded (suc turns) s k hash key).answer (find_moved w lost s hash key (suc turns) k)
        known b n e more = rw (long, e, in_loop turns k b n) (bin-is turns k (bini (length_at s k) hash) b e n l more)

        go : (b : Bin) → home_bin s k hash ≡ b
            → ReturnsSame (forwarded turns s (suc k) hash key).answer (find_moved w lost s hash key turns (suc k))
            → ReturnsSame (forwarded (suc turns) s k hash key).answer (find_moved w lost s hash key (suc turns) k)
        go empty e more = rw (long, e) ends_is
        go bad e more = known bad (λ q. (let z : ◌≡◌ {A = ℕ} 0 1 = cc in omega arith)) e more
        go (list p) e more = known (list p) (λ q. (let z : ◌≡◌ {A = ℕ} 0 1 = cc in omega arith)) e more
        go (tree h) e more = known (tree h) (λ q. (let z : ◌≡◌ {A = ℕ} 0 1 = cc in omega arith)) e more
        go moved e more = known moved (λ q. (let z : ◌≡◌ {A = ℕ} 0 1 = cc in omega arith)) e more

pub looks_as_source : (w : Wild) (lost : FindRun) (s : Set) (fit : Fit s) (t hash key : ℕ) → t < tables_of s
    → LooksAsSource w lost s t hash key
unfolding forwarded
looks_as_source w lost s fit t hash key l =
    let a = known_loop s t hash key fit l in
    record { loop = rw a (loop_is w lost s hash key fit (tables_of s - t) t (omega arith)); bin = binned }
  where
    binned : home_bin s t hash ≢ empty
        → ReturnsSame (lookups s t hash key).answer (find w lost s hash key (tables_of s - suc t) t (home_bin s t hash))
    binned n =
        let z : tables_of s - t ≡ suc (tables_of s - suc t) = omega arith in
        rw (known_loop s t hash key fit l, z)
        (bin-is w lost s hash key fit (tables_of s - suc t) t (bini (length_at s t) hash) (home_bin s t hash) refl n (omega arith)
        (loop_is w lost s hash key fit (tables_of s - suc t) (suc t) (omega arith)))
