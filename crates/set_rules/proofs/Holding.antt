-- Lookup on an accepted set. A list and a tree each answer for the slots that they hold, since no two of them have one pair; so what
-- the bin answers that the loop comes to is told by its entries.
use mathlib.Core.Path.{◌≡◌, refl, ap, sym, ◌∙◌}
use mathlib.Core.Logic.{◌≢◌}
use mathlib.Core.List.{List, [], ◌∷◌}
use Prim.Native.Nat.{ℕ, zero, suc, ◌+◌, ◌-◌, ◌*◌, ◌^◌, ◌<◌, ◌≤◌}
use native.Mathlib.Omega.{arith}
use lib.ListN.{length}
use Rattle.slots.specs.Words.{null, next, cell}
use Rattle.slots.specs.Pairs.{pair, pair_of}
use Rattle.slots.specs.Answers.{Answer, given, nothing, refused}
use Rattle.slots.proofs.Laws.{number, given_is, nothing-given}
use Rattle.tree_rules.specs.Find.{slots_of, found}
use Rattle.tree_rules.specs.Tree.{Tree, slots, times, Rooted}
use Rattle.tree_rules.proofs.Counting.{times_head, times_rest, times_cases, length_most}
use Rattle.tree_rules.proofs.Reaching.{rooted_most, rooted_unique}
use Rattle.index_rules.proofs.Seeking.{seeks}
use Rattle.set_rules.specs.Words.{Set, tables_of, length_at, root_at, count_at, Fit, Bin, empty, moved, bad, list, tree, bini}
use Rattle.set_rules.specs.Accepted.{Accepted, BinThere, Listed, HeldIn, Unlike, Apart}
use Rattle.set_rules.proofs.Fit.{small, ends, bini_less}
use Rattle.set_rules.proofs.Lists.{apart_once, listed_inside, listed_unique}
use Rattle.tree_rules.proofs.Claims.{looks_squared, claims as shape-claims}
use Rattle.tree_rules.proofs.Trail.{answers}
use Rattle.set_rules.specs.Lookup.{sought_in_list, home_bin, lookups, Reaches, Astray, Hit, Miss}
use Rattle.set_rules.specs.Held.{Reached}
use Rattle.set_rules.specs.Walked.{LooksUp}
use Rattle.set_rules.proofs.Reading.{at_null}
use Rattle.set_rules.proofs.Listing.{decided, onward, stays, lost_nine, here_given}
use Rattle.set_rules.proofs.Looks.{lookup_looks, list_length}
use Rattle.set_rules.proofs.Looking.{known_loop, whole, comes_in, at-bin, Outcome, outcome}

-- The answer a for the slots l: the slot that has the pair, or Nothing.
record Finds (names : List ℕ) (hash key : ℕ) (l : List ℕ) (a : Answer) : Type 0 where
  at : (x : ℕ) → 1 ≤ times x l → pair_of names x ≡ pair hash key → a ≡ given x
  none : ((x : ℕ) → 1 ≤ times x l → pair_of names x ≢ pair hash key) → a ≡ nothing

module _ (names : List ℕ) (hash key : ℕ) where
  -- Whether some slot of a list has the pair is decided.
  data Seen (l : List ℕ) : Type 0 where
    there : (x : ℕ) → 1 ≤ times x l → pair_of names x ≡ pair hash key → Seen l
    absent : ((x : ℕ) → 1 ≤ times x l → pair_of names x ≢ pair hash key) → Seen l

  seen : (l : List ℕ) → Seen l
  unfolding times
  seen [] = absent (λ x h. absurd (omega arith))
  seen (y ∷ l) = go (decided names y hash key) (seen l)
    where
      go : Dec (pair_of names y ≡ pair hash key) → Seen l → Seen (y ∷ l)
      go (yes e) s = there y (omega (arith, times_head y l)) e
      go (no n) (there x h e) = there x (omega (arith, times_rest x y l)) e
      go (no n) (absent f) = absent (λ x h. times_cases x y l h (λ e. rw e n) (λ k. f x k))

  module _ {l : List ℕ} {a : Answer} (f : Finds names hash key l a) where
    finds-at : (x : ℕ) → a ≡ given x → (1 ≤ times x l) × (pair_of names x ≡ pair hash key)
    finds-at x e = go (seen l)
      where
        go : Seen l → (1 ≤ times x l) × (pair_of names x ≡ pair hash key)
        go (there y h p) = let z : y ≡ x = given_is (sym (f.at y h p) ∙ e) in (rw z at h, rw z at p)
        go (absent n) = absurd (nothing-given (sym (f.none n) ∙ e))

    finds_never : (n : ℕ) → 1 ≤ n → a ≢ refused n
    finds_never n k e = go (seen l)
      where
        go : Seen l → ⊥
        go (there y h p) = omega (arith, number (sym (f.at y h p) ∙ e))
        go (absent m) = omega (arith, number (sym (f.none m) ∙ e))

-- A list that ends and repeats no pair answers for its slots.
module _ (s : Set) (hash key : ℕ) where
  unlike : {y : ℕ} {l : List ℕ} (x : ℕ) → Unlike s.names y l → 1 ≤ times x l → pair_of s.names y ≢ pair_of s.names x
  unfolding times
  unlike x Unlike.last h = absurd (omega arith)
  unlike x (Unlike.other {y = z} {l} d u) h = times_cases x z l h (λ e. rw e d) (λ k. unlike x u k)

  one_more_lem : slots_of s.names ≤ null → (v p : ℕ) (l : List ℕ) → p < slots_of s.names → Unlike s.names p l
      → Finds s.names hash key l (sought_in_list s.names s.cells v (cell s.cells p next) hash key).answer
      → Finds s.names hash key (p ∷ l) (sought_in_list s.names s.cells (suc v) p hash key).answer
  one_more_lem few v p l b u rest = go (decided s.names p hash key)
    where
      solid : p ≢ null
      solid = omega arith

      go : Dec (pair_of s.names p ≡ pair hash key)
          → Finds s.names hash key (p ∷ l) (sought_in_list s.names s.cells (suc v) p hash key).answer
      go (yes e) =
          let z = stays s.names s.cells p hash key v solid b e in
          record {
            at = λ x h f. z ∙ times_cases x p l h (λ g. ap given (sym g)) (λ k. absurd (unlike x u k (e ∙ sym f)));
            none = λ n. absurd (n p (omega (arith, times_head p l)) e);
          }
      go (no d) =
          let z = onward s.names s.cells p hash key v solid b d in
          record {
            at = λ x h f. z ∙ times_cases x p l h (λ g. absurd (d (ap (λ (j : ℕ). pair_of s.names j) (sym g) ∙ f))) (λ k. rest.at x k f);
            none = λ n. z ∙ rest.none (λ x k. n x (omega (arith, times_rest x p l)));
          }

  list_finds : slots_of s.names ≤ null → {p : ℕ} {l : List ℕ} → Listed (slots_of s.names) s.cells p l → Apart s.names l
      → (v : ℕ) → length l ≤ v
      → Finds s.names hash key l (sought_in_list s.names s.cells v p hash key).answer
  unfolding times
  list_finds few {p} (Listed.ended e) Apart.none v h =
      record { at = λ x k f. absurd (omega arith); none = λ n. answers (at_null s.names s.cells hash key v p e) }
  list_finds few (Listed.onward b t) (Apart.one u a) zero h = absurd (omega arith)
  list_finds few (Listed.onward {i = p} {l} b t) (Apart.one u a) (suc v) h = one_more_lem few v p l b u (list_finds few t a v (omega arith))

-- On an accepted set.
module _ (s : Set) (fit : Fit s) (acc : Accepted s) (hash key : ℕ) where
  home_there : (k : ℕ) → k < tables_of s → BinThere s k (bini (length_at s k) hash)
  home_there k l = record { table = l; index = bini_less fit k l hash }

  list_held : (k p : ℕ) → k < tables_of s → home_bin s k hash ≡ list p
      → (l : List ℕ) × Listed (slots_of s.names) s.cells p l
      × Finds s.names hash key l (sought_in_list s.names s.cells (slots_of s.names) p hash key).answer
  list_held k p b e =
      let g = acc.lists k (bini (length_at s k) hash) p (home_there k b) e in
      let few = small fit in
      let m = length_most (slots_of s.names) g.visits (listed_inside s few g.ends) (apart_once s few g.apart) in
      (g.visits, g.ends, list_finds s hash key few g.ends g.apart (slots_of s.names) m)

  tree_held : (k h : ℕ) → k < tables_of s → home_bin s k hash ≡ tree h
      → (t : Tree) × Rooted (slots_of s.names) s.cells (root_at s h) t
      × Finds s.names hash key (slots t) (found s.names s.cells (root_at s h) hash key).answer
  unfolding found
  tree_held k h b e =
      let g = acc.trees k (bini (length_at s k) hash) h (home_there k b) e in
      let few = small fit in
      let a =
      seeks s.names s.cells few hash key g.rooted.hangs g.rising (slots_of s.names)
      (rooted_most (slots_of s.names) s.cells few (root_at s h) g.rooted) in
      (g.tree, g.rooted, rw g.rooted.from (record { at = a.at; none = a.none }))

  module _ (t : ℕ) (there : t < tables_of s) where
    held_given : {k slot : ℕ} → Reaches s t hash k → (b : Bin) → home_bin s k hash ≡ b → {l : List ℕ} → HeldIn s b l → 1 ≤ times slot l
        → pair_of s.names slot ≡ pair hash key
        → (whole s t hash key there).answer ≡ given slot
    held_given {k} {slot} c (list p) e (HeldIn.listed h) m f =
        let g = list_held k p (comes_in s t hash key there c) e in
        answers (at-bin s t hash key there c e) ∙ g.2.at slot (rw (listed_unique s (small fit) h g.1) at m) f
    held_given {k} {slot} c (tree a) e (HeldIn.grown h) m f =
        let g = tree_held k a (comes_in s t hash key there c) e in
        answers (at-bin s t hash key there c e)
        ∙ g.2.at slot (rw (rooted_unique (slots_of s.names) s.cells (small fit) (root_at s a) h g.1) at m) f
    held_given c empty e x m f = elim x [ ]
    held_given c moved e x m f = elim x [ ]
    held_given c bad e x m f = elim x [ ]

    reached-given : {slot : ℕ} → Reached s t hash key slot → (whole s t hash key there).answer ≡ given slot
    reached-given r = held_given r.comes (home_bin s r.table hash) refl r.entry.holds r.entry.member r.has

    hit-reached : {slot : ℕ} → Hit s t hash key slot → Reached s t hash key slot
    hit-reached {slot} (Hit.in_list {k} {p} c e h) =
        let b = comes_in s t hash key there c in
        let g = list_held k p b e in
        let m = finds-at s.names hash key g.2 slot (here_given s.names s.cells p hash key h) in
        record {
          table = k;
          comes = c;
          entry = record { there = home_there k b; held = g.0; holds = rw e (HeldIn.listed g.1); member = m.0 };
          has = m.1;
        }
    hit-reached {slot} (Hit.in_tree {k} {h = a} c e h) =
        let b = comes_in s t hash key there c in
        let g = tree_held k a b e in
        let m = finds-at s.names hash key g.2 slot (((shape-claims.finds s.names s.cells (root_at s a) hash key).at slot).1 h) in
        record {
          table = k;
          comes = c;
          entry = record { there = home_there k b; held = slots g.0; holds = rw e (HeldIn.grown g.1); member = m.0 };
          has = m.1;
        }

    not_astray : Astray s t hash key → ⊥
    not_astray (Astray.bad_bin {k} c e) = acc.none_bad k (bini (length_at s k) hash) (home_there k (comes_in s t hash key there c)) e
    not_astray (Astray.moved_last {k} c e l) =
        let b = comes_in s t hash key there c in
        acc.last_unmoved k (bini (length_at s k) hash) (home_there k b) (omega arith) e
    not_astray (Astray.in_list {k} {p} c e h) =
        finds_never s.names hash key (list_held k p (comes_in s t hash key there c) e).2 9 (omega arith)
        (lost_nine s.names s.cells p hash key h)
    not_astray (Astray.in_tree {k} {h = a} c e h) =
        finds_never s.names hash key (tree_held k a (comes_in s t hash key there c) e).2 9 (omega arith)
        ((shape-claims.finds s.names s.cells (root_at s a) hash key).nine.1 h)

    at-reached : {a : Answer} → Outcome s t hash key there a → (slot : ℕ) → a ≡ given slot → Reached s t hash key slot
    at-reached (Outcome.lost h) slot e = absurd (not_astray h)
    at-reached (Outcome.hit h) slot e = hit-reached (rw (given_is e) at h)
    at-reached (Outcome.miss h) slot e = absurd (nothing-given e)

    none_nothing : {a : Answer} → Outcome s t hash key there a → ((slot : ℕ) → Reached s t hash key slot → ⊥) → a ≡ nothing
    none_nothing (Outcome.lost h) n = absurd (not_astray h)
    none_nothing (Outcome.hit {slot} h) n = absurd (n slot (hit-reached h))
    none_nothing (Outcome.miss h) n = refl

    never_refused : {a : Answer} → Outcome s t hash key there a → (n : ℕ) → 1 ≤ n → a ≢ refused n
    never_refused (Outcome.lost h) n l e = not_astray h
    never_refused (Outcome.hit h) n l e = omega (arith, number e)
    never_refused (Outcome.miss h) n l e = omega (arith, number e)

    -- A lookup that is not lost looks at no slot twice.
    looked_once : {a : Answer} → Outcome s t hash key there a → (lookups s t hash key).answer ≢ refused 9 → (x : ℕ)
        → times x (lookups s t hash key).looks ≤ 1
    unfolding times
    looked_once (Outcome.lost h) n x = absurd (not_astray h)
    looked_once (Outcome.hit (Hit.in_list c e h)) n x = ((lookup_looks s fit t hash key there).in_list c e).once n x
    looked_once (Outcome.hit (Hit.in_tree c e h)) n x = ((lookup_looks s fit t hash key there).in_tree c e).once n x
    looked_once (Outcome.miss (Miss.in_none c e)) n x = omega (arith, ap (times x) ((lookup_looks s fit t hash key there).in_none c e))
    looked_once (Outcome.miss (Miss.in_list c e h)) n x = ((lookup_looks s fit t hash key there).in_list c e).once n x
    looked_once (Outcome.miss (Miss.in_tree c e h)) n x = ((lookup_looks s fit t hash key there).in_tree c e).once n x

    tree_limit : {k h : ℕ} → Reaches s t hash k → home_bin s k hash ≡ tree h
        → 2 ^ length (lookups s t hash key).looks ≤ (count_at s h + 1) * (count_at s h + 1)
    tree_limit {k} {h} c e =
        let g = acc.trees k (bini (length_at s k) hash) h (home_there k (comes_in s t hash key there c)) e in
        rw (known_loop s t hash key fit there ∙ at-bin s t hash key there c e, ← g.size)
        (looks_squared s.names s.cells (root_at s h) hash key g.rooted g.coloured g.level)

    list_limit : {k p : ℕ} {l : List ℕ} → Reaches s t hash k → home_bin s k hash ≡ list p → Listed (slots_of s.names) s.cells p l
        → length (lookups s t hash key).looks ≤ length l
    list_limit c e h =
        rw (known_loop s t hash key fit there ∙ at-bin s t hash key there c e)
        (list_length s.names s.cells hash key (slots_of s.names) h)

    pub looks_up : LooksUp s t hash key
    looks_up =
        let z = answers (known_loop s t hash key fit there) in
        let o = outcome s t hash key there in
        record {
          at = λ slot. (λ e. at-reached o slot (sym z ∙ e), λ r. z ∙ reached-given r);
          none = (λ e slot r. nothing-given (sym e ∙ z ∙ reached-given r), λ n. z ∙ none_nothing o n);
          never = λ n l e. never_refused o n l (sym z ∙ e);
          once = looked_once o (λ e. never_refused o 9 (omega arith) (sym z ∙ e));
          tree_not_deep = tree_limit;
          list_most = list_limit;
        }
