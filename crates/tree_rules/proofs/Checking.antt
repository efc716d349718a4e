-- The source's check answers what the rules say: each test means what it is named for, the first that fails is the one of least number,
-- and the walk's outcome is read back off the answer.
use Rattle.std.proofs.Common.{◌≡◌, ℕ, zero, suc, ◌+◌, ◌<◌, ◌≤◌, Bool, true, false, eqb, ◌≢◌, ◌⊎◌, ◌↔◌, List, sym, refl, ap, inl, inr, arith}
use Rattle.std.proofs.Common.{eq-eqb, ne_eqb, eqb-true, le-leb, leb-true}
use mathlib.Core.Logic.{⊎_map}
use mathlib.Core.Bool.{false≢true}
use native.Mathlib.Decide.{ℕ_discrete}
use borrow.Author.Tests.{eqb-false}
use Rattle.slots.specs.Words.{null, pick, parent, left, right, prev, next, cell}
use Rattle.slots.specs.Answers.{Answer, some, nothing, refused}
use Rattle.slots.proofs.Laws.{some_is}
use Rattle.tree_rules.specs.Find.{slots_of}
use Rattle.tree_rules.specs.Check.{points_back, is_child, left_hash, right_hash, not_all_red, test, first_from, first_failing, Walk, passed}
use Rattle.tree_rules.specs.Check.{failed, strayed, walked, walk_answer, checked, Back, Child, LeftHash, RightHash, NotAllRed, Walks}
use Rattle.tree_rules.specs.Claims.{Tests, Checks}
use Rattle.tree_rules.proofs.Walking.{walks, walks_only}

-- A test that is passed over where a link is null.
unless_null : (x : ℕ) (b : Bool) {A : Type 0} → (b ≡ true → A) → pick (eqb x null) true b ≡ true → x ≢ null → A
unless_null x b f e n = f (rw (ne_eqb x null n) at e)

null_or : (x : ℕ) (b : Bool) → (x ≢ null → b ≡ true) → pick (eqb x null) true b ≡ true
null_or x b f = go (ℕ_discrete x null)
  where
    go : Dec (x ≡ null) → pick (eqb x null) true b ≡ true
    go (yes e) = simp (eq-eqb x null e)
    go (no n) = rw (ne_eqb x null n) (f n)

either : (a b : Bool) → pick a true b ≡ true → (a ≡ true) ⊎ (b ≡ true)
either true b e = inl refl
either false b e = inr e

or : (a b : Bool) → (a ≡ true) ⊎ (b ≡ true) → pick a true b ≡ true
or true b e = refl
or false b (inl e) = absurd (false≢true e)
or false b (inr e) = e

-- i is not red, or a child is missing or not red.
abbrev reds : Bool → Bool → Bool → Bool → Bool → Bool
reds i l r a b = pick i (pick l true (pick r true (pick a (pick b false true) true))) true

reds_not : (i l r a b : Bool) → reds i l r a b ≡ true → i ≡ true → l ≡ false → r ≡ false → a ≡ true → b ≡ true → ⊥
reds_not i l r a b e p q u v w = false≢true (rw (p, q, u, v, w) at e)

reds_yes : (i l r a b : Bool) → (i ≡ true → l ≡ false → r ≡ false → a ≡ true → b ≡ true → ⊥) → reds i l r a b ≡ true
reds_yes false l r a b h = refl
reds_yes true true r a b h = refl
reds_yes true false true a b h = refl
reds_yes true false false false b h = refl
reds_yes true false false true false h = refl
reds_yes true false false true true h = absurd (h refl refl refl refl refl)

module _ (names cells : List ℕ) (i : ℕ) where
  back : (f g : ℕ) → (points_back cells i f g ≡ true) ↔ Back names cells i f g
  unfolding points_back
  back f g = (
    λ e. unless_null (cell cells i f) _ (eqb-true (cell cells (cell cells i f) g) i) e,
    λ h. null_or (cell cells i f) _ (λ n. eq-eqb (cell cells (cell cells i f) g) i (h n)),
  )

  child : (is_child cells i ≡ true) ↔ Child names cells i
  unfolding is_child
  child = (λ e. unless_null p _ is e, λ h. null_or p _ (λ n. or _ _ (tests (h n))))
    where
      p : ℕ
      p = cell cells i parent

      is : pick (eqb (cell cells (cell cells i parent) left) i) true (eqb (cell cells (cell cells i parent) right) i) ≡ true
          → (cell cells (cell cells i parent) left ≡ i) ⊎ (cell cells (cell cells i parent) right ≡ i)
      is e = ⊎_map (eqb-true _ _) (eqb-true _ _) (either _ _ e)

      tests : (cell cells (cell cells i parent) left ≡ i) ⊎ (cell cells (cell cells i parent) right ≡ i)
          → (eqb (cell cells (cell cells i parent) left) i ≡ true) ⊎ (eqb (cell cells (cell cells i parent) right) i ≡ true)
      tests h = ⊎_map (eq-eqb _ _) (eq-eqb _ _) h

  left_hash_lem : (left_hash names cells i ≡ true) ↔ LeftHash names cells i
  unfolding left_hash
  left_hash_lem = (λ e. unless_null (cell cells i left) _ (leb-true _ _) e, λ h. null_or (cell cells i left) _ (λ n. le-leb _ _ (h n)))

  right_hash_lem : (right_hash names cells i ≡ true) ↔ RightHash names cells i
  unfolding right_hash
  right_hash_lem = (λ e. unless_null (cell cells i right) _ (leb-true _ _) e, λ h. null_or (cell cells i right) _ (λ n. le-leb _ _ (h n)))

  children_red : (not_all_red cells i ≡ true) ↔ NotAllRed names cells i
  unfolding not_all_red
  children_red = (
    λ e a n m b c. reds_not _ _ _ _ _ e (eq-eqb _ _ a) (ne_eqb _ _ n) (ne_eqb _ _ m) (eq-eqb _ _ b) (eq-eqb _ _ c),
    λ h. reds_yes _ _ _ _ _ (λ a n m b c. h (eqb-true _ _ a) (eqb-false _ _ n) (eqb-false _ _ m) (eqb-true _ _ b) (eqb-true _ _ c)),
  )

  -- The first of k tests from t on.
  first_is : (k t m : ℕ) → 1 ≤ t → m ≢ 0 → first_from k names cells t i ≡ m
      → (test names cells m i ≡ false) × ((u : ℕ) → t ≤ u → u < m → test names cells u i ≡ true)
  unfolding first_from
  first_is zero t m l d e = absurd (d (sym e))
  first_is (suc k) t m l d e = go (test names cells t i) refl e (λ q. first_is k (suc t) m (omega arith) d q)
    where
      go : (b : Bool) → test names cells t i ≡ b → pick b (first_from k names cells (suc t) i) t ≡ m
          → (first_from k names cells (suc t) i ≡ m
          → (test names cells m i ≡ false) × ((u : ℕ) → suc t ≤ u → u < m → test names cells u i ≡ true))
          → (test names cells m i ≡ false) × ((u : ℕ) → t ≤ u → u < m → test names cells u i ≡ true)
      go false q p again = (rw (← p) q, λ u a b. absurd (omega arith))
      go true q p again = let h = again p in (h.0, λ u a b. at u a (ℕ_discrete u t) (λ c. h.1 u c b))
        where
          at : (u : ℕ) → t ≤ u → Dec (u ≡ t) → (suc t ≤ u → test names cells u i ≡ true) → test names cells u i ≡ true
          at u a (yes z) f = rw z q
          at u a (no z) f = f (omega arith)

  first_none : (k t : ℕ) → 1 ≤ t → first_from k names cells t i ≡ 0 → (u : ℕ) → t ≤ u → u < t + k → test names cells u i ≡ true
  unfolding first_from
  first_none zero t l e u a b = absurd (omega arith)
  first_none (suc k) t l e u a b =
      go (test names cells t i) refl e (ℕ_discrete u t) (λ q c. first_none k (suc t) (omega arith) q u c (omega arith))
    where
      go : (b : Bool) → test names cells t i ≡ b → pick b (first_from k names cells (suc t) i) t ≡ 0 → Dec (u ≡ t)
          → (first_from k names cells (suc t) i ≡ 0 → suc t ≤ u → test names cells u i ≡ true) → test names cells u i ≡ true
      go false q p d again = absurd (omega arith)
      go true q p (yes z) again = rw z q
      go true q p (no z) again = again p (omega arith)

  is_first : (k t m : ℕ) → t ≤ m → m < t + k → test names cells m i ≡ false → ((u : ℕ) → t ≤ u → u < m → test names cells u i ≡ true)
      → first_from k names cells t i ≡ m
  unfolding first_from
  is_first zero t m a b e h = absurd (omega arith)
  is_first (suc k) t m a b e h =
      go (ℕ_discrete t m) (λ d. is_first k (suc t) m (omega arith) (omega arith) e (λ u c w. h u (omega arith) w))
    where
      go : Dec (t ≡ m) → (t ≢ m → first_from k names cells (suc t) i ≡ m)
          → pick (test names cells t i) (first_from k names cells (suc t) i) t ≡ m
      go (yes z) again = let q : test names cells t i ≡ false = rw z e in rw q z
      go (no z) again = rw (h t (omega arith) (omega arith)) (again z)

  is_none : (k t : ℕ) → ((u : ℕ) → t ≤ u → u < t + k → test names cells u i ≡ true) → first_from k names cells t i ≡ 0
  unfolding first_from
  is_none zero t h = refl
  is_none (suc k) t h = rw (h t (omega arith) (omega arith)) (is_none k (suc t) (λ u a b. h u (omega arith) (omega arith)))

  pub test_claims : Tests names cells i
  unfolding test first_failing
  test_claims =
      record {
        prev-test = back prev next;
        next-test = back next prev;
        parent-test = child;
        left-parent = back left parent;
        left_hash_lem = left_hash_lem;
        right-parent = back right parent;
        right_hash_lem = right_hash_lem;
        children_red = children_red;
        first = λ t a b. (λ e. first_is 8 1 t (omega arith) (omega arith) e, λ h. is_first 8 1 t a (omega arith) h.0 h.1);
        none = (λ e u a b. first_none 8 1 (omega arith) e u a (omega arith), λ h. is_none 8 1 (λ u a b. h u a (omega arith)));
      }

module _ (names cells : List ℕ) (root : ℕ) where
  outcome : (o : Walk) → walked (slots_of names) names cells root (slots_of names) ≡ o → Walks names cells root (slots_of names) o
  outcome o e = rw e at (walks names cells (slots_of names) root (slots_of names) (omega arith))

  -- What the walk came to, read back.
  back_passed : (o : Walk) → walk_answer o ≡ nothing → (v : ℕ) × (o ≡ passed v)
  back_passed (passed v) e = (v, refl)
  back_passed (failed t i) e = absurd (omega (arith, ap (λ (a : Answer). a.number) e))
  back_passed strayed e = absurd (omega (arith, ap (λ (a : Answer). a.number) e))

  back_failed : (o : Walk) (t i : ℕ) → walk_answer o ≡ record { number = 100 + t; value = some i } → o ≡ failed t i
  back_failed (passed v) t i e = absurd (omega (arith, ap (λ (a : Answer). a.number) e))
  back_failed (failed u j) t i e =
      let p : u ≡ t = omega (arith, ap (λ (a : Answer). a.number) e) in
      let q : j ≡ i = some_is (ap (λ (a : Answer). a.value) e) in
      cc
  back_failed strayed t i e = absurd (omega (arith, ap (λ (a : Answer). a.number) e))

  back_strayed : (o : Walk) → walk_answer o ≡ refused 9 → o ≡ strayed
  back_strayed (passed v) e = absurd (omega (arith, ap (λ (a : Answer). a.number) e))
  back_strayed (failed t i) e = absurd (omega (arith, ap (λ (a : Answer). a.number) e))
  back_strayed strayed e = refl

  only : {o : Walk} → Walks names cells root (slots_of names) o → checked names cells root ≡ walk_answer o
  unfolding checked
  only w = ap walk_answer (walks_only names cells w (slots_of names) (omega arith))

  pub check_claims : Checks names cells root
  unfolding checked
  check_claims =
      record {
        passes = (λ e. (let h = back_passed _ e in (h.0, outcome _ h.1)), λ h. only h.1);
        fails = λ t i. (λ e. outcome _ (back_failed _ t i e), only);
        nine = (λ e. outcome _ (back_strayed _ e), only);
      }
