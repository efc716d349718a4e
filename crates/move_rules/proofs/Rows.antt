-- A pass by next meets the slots of a list in its order. So what is counted of a half is its number, and what is found first is its first.
use mathlib.Core.Path.{◌≡◌, refl, ap}
use mathlib.Core.Bool.{Bool, true, false}
use mathlib.Core.List.{List, [], ◌∷◌}
use Prim.Native.Nat.{ℕ, zero, suc, ◌+◌, ◌≤◌}
use native.Mathlib.Omega.{arith}
use lib.ListN.{length}
use lib.Dec.{eqb}
use borrow.Author.Tests.{eq-eqb, ne_eqb}
use Rattle.slots.specs.Words.{null, pick, next, cell}
use Rattle.set_rules.specs.Accepted.{Listed, ended, onward}
use Rattle.set_rules.specs.Accepting.{is_home}
use Rattle.move_rules.specs.Passes.{home_count, first_home}

-- The first of a list, null where it has none.
abbrev pub head_of : List ℕ → ℕ
head_of [] = null
head_of (x ∷ l) = x

-- The slots from the link p by next, at most so many.
unfoldable pub followed : ℕ → List ℕ → ℕ → List ℕ
followed zero cells p = []
followed (suc v) cells p = pick (eqb p null) [] (p ∷ followed v cells (cell cells p next))

-- Those of these slots whose hash names bin i of a table of len bins, in their order; and the others.
unfoldable pub homed : List ℕ → ℕ → ℕ → List ℕ → List ℕ
homed names len i [] = []
homed names len i (x ∷ l) = pick (is_home names len i x) (x ∷ homed names len i l) (homed names len i l)

unfoldable pub away : List ℕ → ℕ → ℕ → List ℕ → List ℕ
away names len i [] = []
away names len i (x ∷ l) = pick (is_home names len i x) (away names len i l) (x ∷ away names len i l)

pub followed_is : {n p : ℕ} {cells l : List ℕ} (v : ℕ) → n ≤ null → Listed n cells p l → length l ≤ v → followed v cells p ≡ l
unfolding followed
followed_is zero small (ended e) b = refl
followed_is (suc v) small (ended {i} e) b = rw (eq-eqb i null e)
followed_is zero small (onward w r) b = absurd (omega arith)
followed_is {cells = cells} (suc v) small (onward {i} {l} w r) b =
    rw (ne_eqb i null (omega arith)) (ap (λ (m : List ℕ). i ∷ m) (followed_is {p = cell cells i next} v small r (omega arith)))

module _ (names : List ℕ) (len j : ℕ) where
  -- One slot more is counted where it is at home, and not where it is not.
  counts_one : (x : ℕ) (l : List ℕ) {c : ℕ} → c ≡ length (homed names len j l)
      → pick (is_home names len j x) 1 0 + c ≡ length (homed names len j (x ∷ l))
  unfolding homed
  counts_one x l {c} e = go (is_home names len j x)
    where
      go : (b : Bool) → pick b 1 0 + c ≡ length (pick b (x ∷ homed names len j l) (homed names len j l))
      go true = omega arith
      go false = omega arith

  pub count-is : {n p : ℕ} {cells l : List ℕ} (v : ℕ) → n ≤ null → Listed n cells p l → length l ≤ v
      → home_count v names cells len j p ≡ length (homed names len j l)
  unfolding home_count homed
  count-is zero small (ended e) b = refl
  count-is (suc v) small (ended {i} e) b = rw (eq-eqb i null e)
  count-is zero small (onward w r) b = absurd (omega arith)
  count-is {cells = cells} (suc v) small (onward {i} {l} w r) b =
      rw (ne_eqb i null (omega arith)) (counts_one i l (count-is {p = cell cells i next} v small r (omega arith)))

  pub first_is : {n p : ℕ} {cells l : List ℕ} (v : ℕ) → n ≤ null → Listed n cells p l → length l ≤ v
      → first_home v names cells len j p ≡ head_of (homed names len j l)
  unfolding first_home homed
  first_is zero small (ended e) b = refl
  first_is (suc v) small (ended {i} e) b = rw (eq-eqb i null e)
  first_is zero small (onward w r) b = absurd (omega arith)
  first_is {cells = cells} (suc v) small (onward {i} {l} w r) b =
      go (is_home names len j i) refl (first_is {p = cell cells i next} v small r (omega arith))
    where
      go : (b : Bool) → is_home names len j i ≡ b → first_home v names cells len j (cell cells i next) ≡ head_of (homed names len j l)
          → first_home (suc v) names cells len j i ≡ head_of (homed names len j (i ∷ l))
      go true e rest = rw (ne_eqb i null (omega arith), e)
      go false e rest = rw (ne_eqb i null (omega arith), e) rest
