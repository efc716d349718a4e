-- Entries in a list: where a pair stands once, to put its entry in, to take it out and to give it another place undo each other; a list
-- whose pairs strictly rise is told by its entries.
use mathlib.Core.Path.{◌≡◌, refl, ap, sym, ◌∙◌, subst}
use mathlib.Core.Logic.{◌⊎◌, inl, inr}
use mathlib.Core.Bool.{Bool, true, false}
use mathlib.Core.List.{List, [], ◌∷◌, ◌++◌, map}
use Prim.Native.Nat.{ℕ, suc}
use lib.ListN.{length, length-append}
use native.Mathlib.Decide.{ℕ_discrete}
use native.Mathlib.Omega.{arith}
use borrow.Author.Tests.{eq-eqb, ne_eqb}
use Rattle.slots.specs.Words.{pick}
use Rattle.slots.specs.Pairs.{Pair, pair, pair_of, Less, before}
use Rattle.slots.proofs.Order.{less_irreflexive, less_transitive, before_less}
use Rattle.tree_rules.specs.Tree.{Below, Rising}
use Rattle.index_rules.specs.Live.{Live}
use Rattle.index_rules.specs.Contents.{Entry, entry, entry_of, put, is_pair, without, behind, with_place, In, first, later, Lacks, empty}
use Rattle.index_rules.specs.Contents.{other}

abbrev pub pair_in : Entry → Pair
pair_in e = pair e.hash e.key

-- Every entry of the list lies above e; the list strictly rises.
pub data Above (e : Entry) : List Entry → Type 0 where
  none : Above e []
  more : {x : Entry} {l : List Entry} → Less (pair_in e) (pair_in x) → Above e l → Above e (x ∷ l)

pub data Ascends : List Entry → Type 0 where
  flat : Ascends []
  step : {x : Entry} {l : List Entry} → Above x l → Ascends l → Ascends (x ∷ l)

-- A rising list of slots gives a rising list of entries.
above_map : (t : Live) (i : ℕ) {l : List ℕ} → Below t.names (pair_of t.names i) l → Above (entry_of t i) (map (entry_of t) l)
above_map t i Below.last = none
above_map t i (Below.before h b) = more h (above_map t i b)

pub ascends_map : (t : Live) {l : List ℕ} → Rising t.names l → Ascends (map (entry_of t) l)
ascends_map t Rising.empty = flat
ascends_map t (Rising.rise {i} b r) = step (above_map t i b) (ascends_map t r)

above_mid : {e : Entry} (y : Entry) (a b : List Entry) → Above e (a ++ (y ∷ b)) → Less (pair_in e) (pair_in y)
above_mid y [] b (more h r) = h
above_mid y (x ∷ a) b (more h r) = above_mid y a b r

-- The tests of the order and of the pair.
goes_before : (e x : Entry) → Less (pair_in e) (pair_in x) → before e.hash e.key x.hash x.key ≡ true
goes_before e x h = (before_less e.hash e.key x.hash x.key).1 h

not-before : (e x : Entry) → Less (pair_in x) (pair_in e) → before e.hash e.key x.hash x.key ≡ false
not-before e x h = go (before e.hash e.key x.hash x.key) refl
  where
    go : (b : Bool) → before e.hash e.key x.hash x.key ≡ b → before e.hash e.key x.hash x.key ≡ false
    go true z =
        absurd (less_irreflexive (pair_in e)
        (less_transitive (pair_in e) (pair_in x) (pair_in e) ((before_less e.hash e.key x.hash x.key).0 z) h))
    go false z = z

pub is-pair : (hash key : ℕ) (x : Entry) → x.hash ≡ hash → x.key ≡ key → is_pair hash key x ≡ true
is-pair hash key x e f = rw (eq-eqb x.hash hash e, eq-eqb x.key key f)

pub not-pair : (hash key : ℕ) (x : Entry) → (x.hash ≡ hash → x.key ≡ key → ⊥) → is_pair hash key x ≡ false
not-pair hash key x n = go (ℕ_discrete x.hash hash) (ℕ_discrete x.key key)
  where
    go : Dec (x.hash ≡ hash) → Dec (x.key ≡ key) → is_pair hash key x ≡ false
    go (yes e) (yes f) = absurd (n e f)
    go (yes e) (no f) = rw (eq-eqb x.hash hash e, ne_eqb x.key key f)
    go (no e) f = rw (ne_eqb x.hash hash e)

-- A pair below another is another pair.
less_other : (e x : Entry) → Less (pair_in x) (pair_in e) → x.hash ≡ e.hash → x.key ≡ e.key → ⊥
unfolding Less
less_other e x (inl h) p q = omega arith
less_other e x (inr h) p q = omega (arith, h.1)

more-other : (e x : Entry) → Less (pair_in e) (pair_in x) → x.hash ≡ e.hash → x.key ≡ e.key → ⊥
unfolding Less
more-other e x (inl h) p q = omega arith
more-other e x (inr h) p q = omega (arith, h.1)

-- To put e in, where e stands between a and b in order.
pub put-at : (e : Entry) (a b : List Entry) → Ascends (a ++ (e ∷ b)) → put e (a ++ b) ≡ a ++ (e ∷ b)
unfolding put
put-at e [] [] r = refl
put-at e [] (x ∷ b) (step (more h k) r) = rw (goes_before e x h)
put-at e (x ∷ a) b (step h r) = rw (not-before e x (above_mid e a b h)) (ap (λ (l : List Entry). x ∷ l) (put-at e a b r))

-- To take its pair out, where no entry below has it.
pub without_at : (e : Entry) (a b : List Entry) → Lacks e.hash e.key a → without e.hash e.key (a ++ (e ∷ b)) ≡ a ++ b
unfolding without
without_at e [] b n = rw (is-pair e.hash e.key e refl refl)
without_at e (x ∷ a) b (other n k) = rw (not-pair e.hash e.key x n) (ap (λ (l : List Entry). x ∷ l) (without_at e a b k))

-- To put an entry behind its pair.
pub behind-at : (q e : Entry) (a b : List Entry) → Lacks q.hash q.key a
    → behind q.hash q.key e (a ++ (q ∷ b)) ≡ a ++ (q ∷ (e ∷ b))
unfolding behind
behind-at q e [] b n = rw (is-pair q.hash q.key q refl refl)
behind-at q e (x ∷ a) b (other n k) = rw (not-pair q.hash q.key x n) (ap (λ (l : List Entry). x ∷ l) (behind-at q e a b k))

-- To give its pair another place.
pub lower_lacks : (e : Entry) (a b : List Entry) → Ascends (a ++ (e ∷ b)) → Lacks e.hash e.key a
lower_lacks e [] b r = empty
lower_lacks e (x ∷ a) b (step h r) = other (less_other e x (above_mid e a b h)) (lower_lacks e a b r)

with_at : (e : Entry) (p : ℕ) (a b : List Entry) → Lacks e.hash e.key a
    → with_place e.hash e.key p (a ++ (e ∷ b)) ≡ a ++ (entry e.hash e.key p ∷ b)
unfolding with_place
with_at e p [] b n = rw (is-pair e.hash e.key e refl refl)
with_at e p (x ∷ a) b (other n k) = rw (not-pair e.hash e.key x n) (ap (λ (l : List Entry). x ∷ l) (with_at e p a b k))

pub in_at : (e : Entry) (a b : List Entry) → In e (a ++ (e ∷ b))
in_at e [] b = first
in_at e (x ∷ a) b = later (in_at e a b)

-- An entry of a list, with what stands below and above it.
pub record Placed (e : Entry) (l : List Entry) : Type 0 where
  pub lower : List Entry
  pub upper : List Entry
  pub is : l ≡ lower ++ (e ∷ upper)

pub in_placed : {e : Entry} {l : List Entry} → In e l → Placed e l
in_placed {e} (first {l}) = record { lower = []; upper = l; is = refl }
in_placed (later {x} i) =
    let h = in_placed i in record { lower = x ∷ h.lower; upper = h.upper; is = ap (λ (l : List Entry). x ∷ l) h.is }

lacks_in : {hash key : ℕ} {e : Entry} {l : List Entry} → Lacks hash key l → In e l → e.hash ≡ hash → e.key ≡ key → ⊥
lacks_in (other n k) first p q = n p q
lacks_in (other n k) (later i) p q = lacks_in k i p q
lacks_in empty i p q = elim i [ ]

pub in_lacks : {hash key : ℕ} {e : Entry} {l : List Entry} → In e l → Lacks hash key l → e.hash ≡ hash → e.key ≡ key → ⊥
in_lacks i k p q = lacks_in k i p q

-- No two entries of the list have one pair.
pub data Distinct : List Entry → Type 0 where
  nobody : Distinct []
  another : {x : Entry} {l : List Entry} → Lacks x.hash x.key l → Distinct l → Distinct (x ∷ l)

pub distinct_lower : (e : Entry) (a b : List Entry) → Distinct (a ++ (e ∷ b)) → Lacks e.hash e.key a
distinct_lower e [] b d = empty
distinct_lower e (x ∷ a) b (another n d) = other (λ p q. in_lacks (in_at e a b) n (sym p) (sym q)) (distinct_lower e a b d)

pub distinct_upper : (e : Entry) (a b : List Entry) → Distinct (a ++ (e ∷ b)) → Lacks e.hash e.key b
distinct_upper e [] b (another n d) = n
distinct_upper e (x ∷ a) b (another n d) = distinct_upper e a b d

pub lacks_append : {hash key : ℕ} {a b : List Entry} → Lacks hash key a → Lacks hash key b → Lacks hash key (a ++ b)
lacks_append empty k = k
lacks_append (other n r) k = other n (lacks_append r k)

-- What stands in a list that was taken from, or put to.
in_case : {e : Entry} {m : List Entry} → In e m → (x : Entry) (l : List Entry) → m ≡ x ∷ l → (e ≡ x) ⊎ In e l
in_case {e} (first {l = k}) x l q = let z : e ≡ x = cc in inl z
in_case {e} (later {x = y} {l = k} i) x l q = let z : k ≡ l = cc in inr (subst (λ (r : List Entry). In e r) z i)

pub without_in : (hash key : ℕ) (l : List Entry) (x : Entry) → In x (without hash key l) → In x l
unfolding without
without_in hash key [] x i = i
without_in hash key (y ∷ l) x i = go (is_pair hash key y) i (λ j. without_in hash key l x j)
  where
    rest : (In x (without hash key l) → In x l) → (x ≡ y) ⊎ In x (without hash key l) → In x (y ∷ l)
    rest again (inl q) = subst (λ (r : Entry). In r (y ∷ l)) (sym q) first
    rest again (inr j) = later (again j)

    go : (b : Bool) → In x (pick b l (y ∷ without hash key l)) → (In x (without hash key l) → In x l) → In x (y ∷ l)
    go true j again = later j
    go false j again = rest again (in_case j y (without hash key l) refl)

pub with_all : (P : Entry → Type 0) (hash key p : ℕ) (l : List Entry) → P (entry hash key p) → ((x : Entry) → In x l → P x)
    → (x : Entry) → In x (with_place hash key p l) → P x
unfolding with_place
with_all P hash key p [] q h x i = h x i
with_all P hash key p (y ∷ l) q h x i = go (is_pair hash key y) i (λ j. with_all P hash key p l q (λ z w. h z (later w)) x j)
  where
    head : (x ≡ entry hash key p) ⊎ In x l → P x
    head (inl e) = rw e q
    head (inr j) = h x (later j)

    rest : (In x (with_place hash key p l) → P x) → (x ≡ y) ⊎ In x (with_place hash key p l) → P x
    rest again (inl e) = h x (subst (λ (r : Entry). In r (y ∷ l)) (sym e) first)
    rest again (inr j) = again j

    go : (b : Bool) → In x (pick b (entry hash key p ∷ l) (y ∷ with_place hash key p l)) → (In x (with_place hash key p l) → P x) → P x
    go true j again = head (in_case j (entry hash key p) l refl)
    go false j again = rest again (in_case j y (with_place hash key p l) refl)

pub behind_all : (P : Entry → Type 0) (hash key : ℕ) (e : Entry) (l : List Entry) → P e → ((x : Entry) → In x l → P x) → (x : Entry)
    → In x (behind hash key e l) → P x
unfolding behind
behind_all P hash key e [] q h x i = h x i
behind_all P hash key e (y ∷ l) q h x i = go (is_pair hash key y) i (λ j. behind_all P hash key e l q (λ z w. h z (later w)) x j)
  where
    own : x ≡ y → P x
    own w = h x (subst (λ (r : Entry). In r (y ∷ l)) (sym w) first)

    new : (x ≡ e) ⊎ In x l → P x
    new (inl w) = rw w q
    new (inr j) = h x (later j)

    here : (x ≡ y) ⊎ In x (e ∷ l) → P x
    here (inl w) = own w
    here (inr j) = new (in_case j e l refl)

    rest : (In x (behind hash key e l) → P x) → (x ≡ y) ⊎ In x (behind hash key e l) → P x
    rest again (inl w) = own w
    rest again (inr j) = again j

    go : (b : Bool) → In x (pick b (y ∷ (e ∷ l)) (y ∷ behind hash key e l)) → (In x (behind hash key e l) → P x) → P x
    go true j again = here (in_case j y (e ∷ l) refl)
    go false j again = rest again (in_case j y (behind hash key e l) refl)

pub first_all : (P : Entry → Type 0) (e : Entry) (l : List Entry) → P e → ((x : Entry) → In x l → P x) → (x : Entry) → In x (e ∷ l) → P x
first_all P e l q h x i = go (in_case i e l refl)
  where
    go : (x ≡ e) ⊎ In x l → P x
    go (inl w) = rw w q
    go (inr j) = h x j

-- An entry of a list of distinct pairs: to give its pair another place leaves it there with that one, and to give it its own again gives
-- the list back.
module _ (e : Entry) (l : List Entry) (r : Distinct l) (i : In e l) where
  split_at : Placed e l
  split_at = in_placed i

  alone : Lacks e.hash e.key split_at.lower
  alone = distinct_lower e split_at.lower split_at.upper (rw split_at.is at r)

  pub length_without : suc (length (without e.hash e.key l)) ≡ length l
  length_without =
      let less : without e.hash e.key l ≡ split_at.lower ++ split_at.upper =
      ap (without e.hash e.key) split_at.is ∙ without_at e split_at.lower split_at.upper alone in
      omega (
        arith,
        ap length less,
        ap length split_at.is,
        length-append split_at.lower split_at.upper,
        length-append split_at.lower (e ∷ split_at.upper),
      )

  moves : (p : ℕ) → with_place e.hash e.key p l ≡ split_at.lower ++ (entry e.hash e.key p ∷ split_at.upper)
  moves p = ap (with_place e.hash e.key p) split_at.is ∙ with_at e p split_at.lower split_at.upper alone

  pub in_with : (p : ℕ) → In (entry e.hash e.key p) (with_place e.hash e.key p l)
  in_with p = rw (moves p) (in_at (entry e.hash e.key p) split_at.lower split_at.upper)

  pub with_again : (p : ℕ) → with_place e.hash e.key e.at (with_place e.hash e.key p l) ≡ l
  with_again p =
      ap (with_place e.hash e.key e.at) (moves p)
      ∙ with_at (entry e.hash e.key p) e.at split_at.lower split_at.upper alone
      ∙ sym split_at.is

-- Two rising lists with the same entries are one list.
above_in : {e x : Entry} {l : List Entry} → Above e l → In x l → Less (pair_in e) (pair_in x)
above_in (more h r) first = h
above_in (more h r) (later i) = above_in r i
above_in none i = elim i [ ]

not_both : (x y : Entry) → Less (pair_in x) (pair_in y) → Less (pair_in y) (pair_in x) → ⊥
not_both x y h k = less_irreflexive (pair_in x) (less_transitive (pair_in x) (pair_in y) (pair_in x) h k)

nothing_in : {x : Entry} {m : List Entry} → In x m → m ≡ [] → ⊥
nothing_in (first {l = k}) q = omega (arith, ap length q)
nothing_in (later {l = k} i) q = omega (arith, ap length q)

pub ascends_same : (l m : List Entry) → Ascends l → Ascends m → ((e : Entry) → In e l → In e m) → ((e : Entry) → In e m → In e l) → l ≡ m
ascends_same [] [] a b f g = refl
ascends_same [] (y ∷ m) a b f g = absurd (nothing_in (g y first) refl)
ascends_same (x ∷ l) [] a b f g = absurd (nothing_in (f x first) refl)
ascends_same (x ∷ l) (y ∷ m) (step a r) (step b s) f g =
    let e = heads (in_case (f x first) y m refl) (in_case (g y first) x l refl) in
    let to : (z : Entry) → In z l → In z m = λ z i. rest (in_case (f z (later i)) y m refl) (λ q. away z i a (q ∙ sym e)) in
    let from : (z : Entry) → In z m → In z l = λ z i. rest (in_case (g z (later i)) x l refl) (λ q. away z i b (q ∙ e)) in
    let t = ascends_same l m r s to from in
    λ i. e i ∷ t i
  where
    heads : (x ≡ y) ⊎ In x m → (y ≡ x) ⊎ In y l → x ≡ y
    heads (inl e) j = e
    heads (inr i) (inl e) = sym e
    heads (inr i) (inr j) = absurd (not_both x y (above_in a j) (above_in b i))

    -- what stands above an entry is another
    away : {w : Entry} {k : List Entry} (z : Entry) → In z k → Above w k → z ≡ w → ⊥
    away {w} z i h q = less_irreflexive (pair_in w) (subst (λ (v : Entry). Less (pair_in w) (pair_in v)) q (above_in h i))

    rest : {z w : Entry} {k : List Entry} → (z ≡ w) ⊎ In z k → (z ≡ w → ⊥) → In z k
    rest (inl q) n = absurd (n q)
    rest (inr i) n = i
