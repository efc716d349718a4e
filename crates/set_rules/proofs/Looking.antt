-- Each answer of lookup comes exactly where the rules say: the loop from a table that it comes to has the answer of the whole loop, and
-- what it answers there is told by the bin.
use mathlib.Core.Path.{◌≡◌, refl, sym, ◌∙◌}
use mathlib.Core.Logic.{◌≢◌}
use mathlib.Core.Bool.{Bool, true, false, false≢true}
use mathlib.Core.List.{List}
use Prim.Native.Nat.{ℕ, zero, suc, ◌-◌, ◌<◌, ◌≤◌}
use native.Mathlib.Decide.{dec_lt, ℕ_discrete}
use native.Mathlib.Omega.{arith}
use borrow.Author.Tests.{lt-ltb, le-ltb, le-leb}
use Rattle.slots.specs.Words.{null}
use Rattle.slots.specs.Answers.{Answer, none, given, nothing, refused}
use Rattle.tree_rules.specs.Find.{Look, here, on, looked, Search, ends, looked_then, slots_of, searched, found}
use Rattle.tree_rules.proofs.Claims.{claims as shape-claims}
use Rattle.tree_rules.proofs.Trail.{answers}
use Rattle.tree_rules.proofs.Searching.{at_null, out_of_range, visits_spent, at_slot}
use Rattle.set_rules.specs.Words.{Set, tables_of, root_at, Fit, fits, Bin, empty, moved, bad, list, tree}
use Rattle.set_rules.proofs.Fit.{fits_fit, fit_fits}
use Rattle.set_rules.specs.Lookup.{home_bin, asked, forwarded, lookups, lookups_fit, Reaches, start, down, Astray, Hit, Miss}
use Rattle.set_rules.proofs.Forwarding.{turn, past_last}
use Rattle.set_rules.proofs.Listing as listing

-- A search in a tree has one of three answers.
data Kind : Answer → Type 0 where
  nine : Kind (refused 9)
  slot : (x : ℕ) → Kind (given x)
  null_link : Kind nothing

kind : (names cells : List ℕ) (hash key v p : ℕ) → Kind (searched names cells v p hash key).answer
kind names cells hash key zero p = go (ℕ_discrete p null)
  where
    go : Dec (p ≡ null) → Kind (searched names cells 0 p hash key).answer
    go (yes e) = rw (at_null names cells hash key 0 p e) null_link
    go (no n) = rw (visits_spent names cells hash key p n) nine
kind names cells hash key (suc v) p = go (ℕ_discrete p null) (dec_lt p (slots_of names)) (λ q. kind names cells hash key v q)
  where
    visit : (o : Look) → ((q : ℕ) → Kind (searched names cells v q hash key).answer)
        → Kind (looked_then o p (λ q. searched names cells v q hash key)).answer
    visit here again = slot p
    visit (on q) again = again q

    go : Dec (p ≡ null) → Dec (p < slots_of names) → ((q : ℕ) → Kind (searched names cells v q hash key).answer)
        → Kind (searched names cells (suc v) p hash key).answer
    go (yes e) d again = rw (at_null names cells hash key (suc v) p e) null_link
    go (no n) (no d) again = rw (out_of_range names cells hash key (suc v) p n (omega arith)) nine
    go (no n) (yes l) again = rw (at_slot names cells hash key v p n l) (visit (looked names cells p hash key) again)

module _ (s : Set) (t hash key : ℕ) (there : t < tables_of s) where
  abbrev pub whole : Search
  whole = forwarded (tables_of s - t) s t hash key

  pub comes_in : {k : ℕ} → Reaches s t hash k → k < tables_of s
  comes_in start = there
  comes_in (down c m l) = l

  trace : {k : ℕ} → Reaches s t hash k → whole ≡ forwarded (tables_of s - k) s k hash key
  trace start = refl
  trace (down {k} c m l) = trace c ∙ turn s hash key k (comes_in c) (sym m)

  pub at-bin : {k : ℕ} → Reaches s t hash k → {b : Bin} → home_bin s k hash ≡ b
      → whole ≡ asked s b hash key (forwarded (tables_of s - suc k) s (suc k) hash key)
  at-bin {k} c e = trace c ∙ turn s hash key k (comes_in c) (sym e)

  pub astray_nine : Astray s t hash key → whole.answer ≡ refused 9
  astray_nine (Astray.bad_bin c e) = answers (at-bin c e)
  astray_nine (Astray.moved_last {k} c e l) = answers (at-bin c e ∙ past_last s hash key (suc k) l)
  astray_nine (Astray.in_list {k} {p} c e h) = answers (at-bin c e) ∙ listing.lost_nine s.names s.cells p hash key h
  astray_nine (Astray.in_tree {k} {h} c e l) =
      answers (at-bin c e) ∙ (shape-claims.finds s.names s.cells (root_at s h) hash key).nine.1 l

  pub hit-given : {slot : ℕ} → Hit s t hash key slot → whole.answer ≡ given slot
  hit-given (Hit.in_list {k} {p} c e h) = answers (at-bin c e) ∙ listing.here_given s.names s.cells p hash key h
  hit-given {slot} (Hit.in_tree {k} {h} c e l) =
      answers (at-bin c e) ∙ ((shape-claims.finds s.names s.cells (root_at s h) hash key).at slot).1 l

  pub miss_nothing : Miss s t hash key → whole.answer ≡ nothing
  miss_nothing (Miss.in_none c e) = answers (at-bin c e)
  miss_nothing (Miss.in_list {k} {p} c e h) = answers (at-bin c e) ∙ listing.missed_nothing s.names s.cells p hash key h
  miss_nothing (Miss.in_tree {k} {h} c e l) =
      answers (at-bin c e) ∙ (shape-claims.finds s.names s.cells (root_at s h) hash key).none.1 l

  pub data Outcome : Answer → Type 0 where
    lost : Astray s t hash key → Outcome (refused 9)
    hit : {slot : ℕ} → Hit s t hash key slot → Outcome (given slot)
    miss : Miss s t hash key → Outcome nothing

  in_list : {k p : ℕ} → Reaches s t hash k → home_bin s k hash ≡ list p → {a : Answer}
      → listing.Outcome s.names s.cells p hash key a → Outcome a
  in_list c e (listing.Outcome.lost h) = lost (Astray.in_list c e h)
  in_list c e (listing.Outcome.hit h) = hit (Hit.in_list c e h)
  in_list c e (listing.Outcome.miss h) = miss (Miss.in_list c e h)

  in_tree : {k h : ℕ} → Reaches s t hash k → home_bin s k hash ≡ tree h → {a : Answer} → Kind a
      → (found s.names s.cells (root_at s h) hash key).answer ≡ a → Outcome a
  in_tree {k} {h} c e nine f = lost (Astray.in_tree c e ((shape-claims.finds s.names s.cells (root_at s h) hash key).nine.0 f))
  in_tree {k} {h} c e (slot x) f = hit (Hit.in_tree c e (((shape-claims.finds s.names s.cells (root_at s h) hash key).at x).0 f))
  in_tree {k} {h} c e null_link f = miss (Miss.in_tree c e ((shape-claims.finds s.names s.cells (root_at s h) hash key).none.0 f))

  found_kind : (root : ℕ) → Kind (found s.names s.cells root hash key).answer
  unfolding found
  found_kind root = kind s.names s.cells hash key (slots_of s.names) root

  from : (f k : ℕ) → Reaches s t hash k → tables_of s - k ≡ f → Outcome (forwarded f s k hash key).answer
  unfolding forwarded
  from zero k c e = absurd (omega (arith, comes_in c))
  from (suc f) k c e = go (home_bin s k hash) refl (λ m l. from f (suc k) (down c m l) (omega arith))
    where
      go : (b : Bin) → home_bin s k hash ≡ b
          → (home_bin s k hash ≡ moved → suc k < tables_of s → Outcome (forwarded f s (suc k) hash key).answer)
          → Outcome (asked s b hash key (forwarded f s (suc k) hash key)).answer
      go empty m again = miss (Miss.in_none c m)
      go bad m again = lost (Astray.bad_bin c m)
      go (list p) m again = in_list c m (listing.outcome s.names s.cells p hash key)
      go (tree h) m again = in_tree c m (found_kind (root_at s h)) refl
      go moved m again = below (dec_lt (suc k) (tables_of s))
        where
          below : Dec (suc k < tables_of s) → Outcome (forwarded f s (suc k) hash key).answer
          below (yes l) = again m l
          below (no n) = let z : f ≡ 0 = omega arith in rw z (lost (Astray.moved_last c m (omega arith)))

  pub outcome : Outcome whole.answer
  outcome = from (tables_of s - t) t start refl

-- The gates: 1, then 10, then the loop.
module _ (s : Set) (t hash key : ℕ) where
  pub unfit_one : (Fit s → ⊥) → lookups s t hash key ≡ ends (refused 1)
  unfolding lookups
  unfit_one n = go (fits s) refl
    where
      go : (b : Bool) → fits s ≡ b → lookups s t hash key ≡ ends (refused 1)
      go true e = absurd (n (fits_fit s e))
      go false e = simp e

  pub unknown_ten : Fit s → tables_of s ≤ t → lookups s t hash key ≡ ends (refused 10)
  unfolding lookups
  unknown_ten fit l = simp (fit_fits fit, le-ltb _ _ l)

  pub known_loop : Fit s → t < tables_of s → lookups s t hash key ≡ forwarded (tables_of s - t) s t hash key
  unfolding lookups
  known_loop fit l = simp (fit_fits fit, lt-ltb _ _ l)

  pub fit_loop : Fit s → t < tables_of s → lookups_fit s t hash key ≡ lookups s t hash key
  unfolding lookups_fit
  fit_loop fit l = simp (le-leb (tables_of s) 8 fit.most) (sym (known_loop fit l))

  -- Whether the words are fit is decided.
  pub fitted : Dec (Fit s)
  fitted = go (fits s) refl
    where
      go : (b : Bool) → fits s ≡ b → Dec (Fit s)
      go true e = yes (fits_fit s e)
      go false e = no (λ fit. false≢true (sym e ∙ fit_fits fit))
