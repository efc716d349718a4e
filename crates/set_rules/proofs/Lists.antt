-- A list's walk passes where the list ends, repeats no pair, and each of its slots is a list's and in the bin that its hash names; it takes
-- a visit a slot. No slot stands twice, since it would repeat its own pair.
use mathlib.Core.Path.{◌≡◌, refl, ap, sym, ◌∙◌}
use mathlib.Core.Logic.{◌≢◌}
use mathlib.Core.Bool.{Bool, true, false, false≢true}
use mathlib.Core.List.{List, [], ◌∷◌}
use Prim.Native.Nat.{ℕ, zero, suc, ◌+◌, ◌-◌, ◌<◌, ◌≤◌}
use native.Mathlib.Decide.{ℕ_discrete}
use native.Mathlib.Omega.{arith}
use lib.ListN.{length}
use lib.Dec.{eqb, ltb}
use borrow.Author.Tests.{eqb-true, eq-eqb, ne_eqb, lt-ltb, ltb-true}
use Rattle.slots.specs.Words.{null, pick, state, parent, left, right, next, cell, name_of, hash_part}
use Rattle.slots.specs.Pairs.{Pair, pair, pair_of}
use Rattle.slots.specs.Answers.{none, some}
use Rattle.tree_rules.specs.Tree.{times}
use Rattle.tree_rules.proofs.Counting.{times_head, times_else, times_rest, times_cases}
use Rattle.tree_rules.proofs.Reaching.{refuted}
use Rattle.index_rules.proofs.Fit.{both}
use Rattle.index_rules.proofs.Rules.{and}
use Rattle.set_rules.specs.Words.{Set, bini}
use Rattle.set_rules.specs.Accepted.{Listed, ended, onward, Unlike, Apart, ListSlot}
use Rattle.set_rules.specs.Accepting.{is_home, is_list_slot, same_pair, unlike, list_slot_fine, list_fine}
use Rattle.tree_rules.specs.Find.{slots_of}

-- The hashes of these slots name bin i of a table of len bins.
abbrev pub Home : List ℕ → ℕ → ℕ → List ℕ → Type 0
Home names len i l = (x : ℕ) → 1 ≤ times x l → bini len (name_of names x hash_part) ≡ i

is_list_slot_lem : (cells : List ℕ) (x : ℕ) → is_list_slot cells x ≡ true → ListSlot cells x
unfolding is_list_slot
is_list_slot_lem cells x e =
    let a = both (eqb (cell cells x state) 1) _ e in
    let b = both (eqb (cell cells x parent) null) _ a.1 in
    let c = both (eqb (cell cells x left) null) _ b.1 in
    let d = both (eqb (cell cells x right) null) _ c.1 in
    record {
      states = eqb-true _ _ a.0;
      parents = eqb-true _ _ b.0;
      lefts = eqb-true _ _ c.0;
      rights = eqb-true _ _ d.0;
      prevs = eqb-true _ _ d.1;
    }

list_slot_is : (cells : List ℕ) (x : ℕ) → ListSlot cells x → is_list_slot cells x ≡ true
unfolding is_list_slot
list_slot_is cells x h =
    and (eq-eqb _ _ h.states)
    (and (eq-eqb _ _ h.parents) (and (eq-eqb _ _ h.lefts) (and (eq-eqb _ _ h.rights) (eq-eqb _ _ h.prevs))))

module _ (names : List ℕ) (x y : ℕ) where
  other-pair : same_pair names x y ≡ false → pair_of names x ≢ pair_of names y
  unfolding same_pair
  other-pair e p =
      false≢true (sym e ∙ and (eq-eqb _ _ (ap (λ (q : Pair). q.hash) p)) (eq-eqb _ _ (ap (λ (q : Pair). q.key) p)))

  pair-other : pair_of names x ≢ pair_of names y → same_pair names x y ≡ false
  unfolding same_pair
  pair-other d = go (same_pair names x y) refl
    where
      go : (b : Bool) → same_pair names x y ≡ b → same_pair names x y ≡ false
      go true e =
          let h = both (eqb (name_of names x hash_part) (name_of names y hash_part)) _ e in
          let p = eqb-true _ _ h.0 in
          let q = eqb-true _ _ h.1 in
          absurd (d (λ j. pair (p j) (q j)))
      go false e = e

module _ (s : Set) (small : slots_of s.names ≤ null) where
  pub unlike_list : (v x : ℕ) {y : ℕ} {l : List ℕ} → Listed (slots_of s.names) s.cells y l → unlike v s.names s.cells x y ≡ true
      → Unlike s.names x l
  unfolding unlike
  unlike_list v x (ended e) h = Unlike.last
  unlike_list zero x (onward {i = y} b t) h = absurd (omega (arith, small, eqb-true y null h))
  unlike_list (suc v) x (onward {i = y} {l} b t) h =
      go (same_pair s.names x y) refl (rw (ne_eqb y null (omega (arith, small))) at h) (λ g. unlike_list v x t g)
    where
      go : (a : Bool) → same_pair s.names x y ≡ a → pick a false (unlike v s.names s.cells x (cell s.cells y next)) ≡ true
          → (unlike v s.names s.cells x (cell s.cells y next) ≡ true → Unlike s.names x l) → Unlike s.names x (y ∷ l)
      go true p h again = absurd (false≢true h)
      go false p h again = Unlike.other (other-pair s.names x y p) (again h)

  pub list_unlike : (v x : ℕ) {y : ℕ} {l : List ℕ} → Listed (slots_of s.names) s.cells y l → Unlike s.names x l → length l ≤ v
      → unlike v s.names s.cells x y ≡ true
  unfolding unlike
  list_unlike zero x (ended {i = y} e) h b = eq-eqb y null e
  list_unlike (suc v) x (ended {i = y} e) h b = rw (eq-eqb y null e)
  list_unlike zero x (onward w t) h b = absurd (omega arith)
  list_unlike (suc v) x (onward {i = y} w t) (Unlike.other d u) b =
      rw (ne_eqb y null (omega (arith, small)), pair-other s.names x y d) (list_unlike v x t u (omega arith))

  -- A list of different pairs has each slot once.
  unlike_none : (x : ℕ) {l : List ℕ} → Unlike s.names x l → times x l ≡ 0
  unfolding times
  unlike_none x Unlike.last = refl
  unlike_none x (Unlike.other {y = y} {l} d u) = times_else x y l (λ e. d (ap (λ (j : ℕ). pair_of s.names j) e)) ∙ unlike_none x u

  one_head : {x y : ℕ} (l : List ℕ) → x ≡ y → times y l ≡ 0 → times x (y ∷ l) ≤ 1
  one_head {y = y} l e z = rw e (omega (arith, times_head y l, z))

  pub apart_once : {l : List ℕ} → Apart s.names l → (x : ℕ) → times x l ≤ 1
  unfolding times
  apart_once Apart.none x = omega arith
  apart_once (Apart.one {x = y} {l} u a) x = go (ℕ_discrete x y) (apart_once a x)
    where
      go : Dec (x ≡ y) → times x l ≤ 1 → times x (y ∷ l) ≤ 1
      go (yes e) o = one_head l e (unlike_none y u)
      go (no d) o = omega (arith, times_else x y l d)

  pub listed_inside : {y : ℕ} {l : List ℕ} → Listed (slots_of s.names) s.cells y l → (x : ℕ) → 1 ≤ times x l → x < slots_of s.names
  unfolding times
  listed_inside (ended e) x h = absurd (omega arith)
  listed_inside (onward {i = y} {l} b t) x h = times_cases x y l h (λ e. omega arith) (λ z. listed_inside t x z)

  pub listed_unique : {y : ℕ} {l m : List ℕ} → Listed (slots_of s.names) s.cells y l
      → Listed (slots_of s.names) s.cells y m → l ≡ m
  listed_unique (ended e) (ended f) = refl
  listed_unique (ended e) (onward b t) = absurd (omega (arith, small))
  listed_unique (onward b t) (ended e) = absurd (omega (arith, small))
  listed_unique (onward {i = y} b t) (onward c u) = ap (λ (l : List ℕ). y ∷ l) (listed_unique t u)

  module _ (len i : ℕ) where
    -- What a walk that passed has found.
    pub record Walked (x v rest : ℕ) : Type 0 where
      pub visits : List ℕ
      pub ends : Listed (slots_of s.names) s.cells x visits
      pub apart : Apart s.names visits
      pub plain : (y : ℕ) → 1 ≤ times y visits → ListSlot s.cells y
      pub home : Home s.names len i visits
      pub spent : length visits + rest ≡ v

    walked_end : {x v rest : ℕ} → x ≡ null → v ≡ rest → Walked x v rest
    unfolding times
    walked_end e f =
        record {
          visits = [];
          ends = ended e;
          apart = Apart.none;
          plain = λ y z. absurd (omega arith);
          home = λ y z. absurd (omega arith);
          spent = omega arith;
        }

    walked_on : {x v rest : ℕ} → list_slot_fine v s.names s.cells len i x ≡ true → Walked (cell s.cells x next) v rest
        → Walked x (suc v) rest
    unfolding list_slot_fine is_home
    walked_on {x} {v} e w =
        let a = both (ltb x (slots_of s.names)) _ e in
        let b = both (is_list_slot s.cells x) _ a.1 in
        let c = both (eqb (bini len (name_of s.names x hash_part)) i) _ b.1 in
        let p = is_list_slot_lem s.cells x b.0 in
        let q = eqb-true _ _ c.0 in
        record {
          visits = x ∷ w.visits;
          ends = onward (ltb-true x (slots_of s.names) a.0) w.ends;
          apart = Apart.one (unlike_list v x w.ends c.1) w.apart;
          plain = λ y z. times_cases y x w.visits z (λ f. rw f p) (λ g. w.plain y g);
          home = λ y z. times_cases y x w.visits z (λ f. rw f q) (λ g. w.home y g);
          spent = omega (arith, w.spent);
        }

    pub list_walked : (v x rest : ℕ) → list_fine v s.names s.cells len i x ≡ some rest → Walked x v rest
    unfolding list_fine
    list_walked zero x rest e = go (eqb x null) refl e
      where
        go : (a : Bool) → eqb x null ≡ a → pick a (some 0) none ≡ some rest → Walked x 0 rest
        go true p e = walked_end (eqb-true x null p) (cc)
        go false p e = refuted e
    list_walked (suc v) x rest e =
        go (eqb x null) refl (list_slot_fine v s.names s.cells len i x) refl e (λ h. list_walked v (cell s.cells x next) rest h)
      where
        go : (a : Bool) → eqb x null ≡ a → (b : Bool) → list_slot_fine v s.names s.cells len i x ≡ b
            → pick a (some (suc v)) (pick b (list_fine v s.names s.cells len i (cell s.cells x next)) none) ≡ some rest
            → (list_fine v s.names s.cells len i (cell s.cells x next) ≡ some rest → Walked (cell s.cells x next) v rest)
            → Walked x (suc v) rest
        go true p b q e again = walked_end (eqb-true x null p) (cc)
        go false p false q e again = refuted e
        go false p true q e again = walked_on q (again e)

    slot_fine_lem : {v x : ℕ} {l : List ℕ} → x < slots_of s.names → ListSlot s.cells x → bini len (name_of s.names x hash_part) ≡ i
        → Listed (slots_of s.names) s.cells (cell s.cells x next) l → Unlike s.names x l → length l ≤ v
        → list_slot_fine v s.names s.cells len i x ≡ true
    unfolding list_slot_fine is_home
    slot_fine_lem {v} {x} w p h t u b =
        and (lt-ltb x (slots_of s.names) w) (and (list_slot_is s.cells x p) (and (eq-eqb _ _ h) (list_unlike v x t u b)))

    pub walked_list : (v : ℕ) {x : ℕ} {l : List ℕ} → Listed (slots_of s.names) s.cells x l → Apart s.names l
        → ((y : ℕ) → 1 ≤ times y l → ListSlot s.cells y)
        → Home s.names len i l → length l ≤ v → list_fine v s.names s.cells len i x ≡ some (v - length l)
    unfolding list_fine
    walked_list zero (ended {i = x} e) a p h b = rw (eq-eqb x null e) (ap some (omega arith))
    walked_list (suc v) (ended {i = x} e) a p h b = rw (eq-eqb x null e) (ap some (omega arith))
    walked_list zero (onward w t) a p h b = absurd (omega arith)
    walked_list (suc v) (onward {i = x} {l} w t) (Apart.one u a) p h b =
        rw (
          ne_eqb x null (omega (arith, small)),
          slot_fine_lem {v = v} w (p x (omega (arith, times_head x l))) (h x (omega (arith, times_head x l))) t u (omega arith),
        )
        (walked_list v t a (λ y z. p y (omega (arith, times_rest y x l))) (λ y z. h y (omega (arith, times_rest y x l))) (omega arith)
        ∙ ap some (omega arith))
