-- A tree that obeys T5 and T6 is not deep: each way down meets as many black slots and no two red ones in a row, and a tree with b
-- black slots on each way has 2 to the b slots but one at least.
use Rattle.std.proofs.Common.{◌≡◌, ℕ, zero, suc, ◌+◌, ◌*◌, ◌^◌, ◌<◌, ◌≤◌, Bool, true, false, eqb, ltb, leb, List, length, refl, ap, ◌∙◌}
use Rattle.std.proofs.Common.{mul-le-mul, add_comm, zero-add, add-one, arith, pow_mono, pow-add, ltb-false, ltb-true}
use native.Mathlib.Decide.{ℕ_discrete, dec_lt}
use native.Mathlib.Nat.{two-pow-succ}
use Rattle.slots.specs.Words.{null, pick, left, right, cell, Colour, black, red}
use Rattle.slots.specs.Answers.{some, nothing as nothing-there, refused}
use Rattle.slots.proofs.Laws.{some_is}
use Rattle.tree_rules.specs.Find.{Look, here, on, decided, looked, ends, looked_then, slots_of, searched}
use Rattle.tree_rules.specs.Tree.{Tree, leaf, node, top, colour, slots, Hangs, Calm, nothing, darkly, redly, Coloured, blacks, Level}
use Rattle.tree_rules.specs.Tree.{higher, height}
use Rattle.tree_rules.specs.Claims.{Looks}
use Rattle.tree_rules.proofs.Deciding.{look_claims}
use Rattle.tree_rules.proofs.Reaching.{length_node}
use Rattle.tree_rules.proofs.Levelling.{level_levels, joined-parts, levels}

red_black : red ≡ black → ⊥
red_black e = let z : ◌≡◌ {A = ℕ} 0 1 = ap blacks e in omega arith

-- Every way down meets so many black slots.
pub data Even : Tree → ℕ → Type 0 where
  bottom : Even leaf 0
  above : {c : Colour} {l : Tree} {i : ℕ} {r : Tree} {b : ℕ} → Even l b → Even r b → Even (node c l i r) (blacks c + b)

levels_even : (t : Tree) (b : ℕ) → levels t ≡ some b → Even t b
unfolding levels
levels_even leaf b e = rw (← some_is e) bottom
levels_even (node c l i r) b e =
    let h = joined-parts (blacks c) (levels l) (levels r) b e in
    rw (← h.3) (above (levels_even l h.0 h.1) (levels_even r h.0 h.2))

pub level_even : (t : Tree) → Level t → (b : ℕ) × Even t b
level_even t h = let k = level_levels t h in (k.0, levels_even t k.0 k.1)

-- 2 to the b slots but one at least.
pub even_size : {t : Tree} {b : ℕ} → Even t b → 2 ^ b ≤ length (slots t) + 1
unfolding slots
even_size bottom = omega arith
even_size (above {c} {l} {i} {r} {b} x y) = go c (even_size x) (even_size y)
  where
    go : (c : Colour) → 2 ^ b ≤ length (slots l) + 1 → 2 ^ b ≤ length (slots r) + 1 → 2 ^ (blacks c + b) ≤ length (slots (node c l i r)) + 1
    go black x y =
        let z : 2 ^ (1 + b) ≡ 2 ^ b + 2 ^ b = ap (λ k. 2 ^ k) (add_comm 1 b) ∙ ap (λ k. 2 ^ k) (add-one b) ∙ two-pow-succ b in
        omega (arith, z, length_node black l i r, x, y)
    go red x y =
        let z : 2 ^ (0 + b) ≡ 2 ^ b = ap (λ k. 2 ^ k) (zero-add b) in
        omega (arith, z, length_node red l i r, x, y)

higher_most : (a b m : ℕ) → a ≤ m → b ≤ m → higher a b ≤ m
higher_most a b m x y = go (ltb a b)
  where
    go : (t : Bool) → pick t b a ≤ m
    go true = y
    go false = x

-- At most as many red slots as black ones, and one more where the top is red.
pub even_height : {t : Tree} {b : ℕ} → Calm t → Even t b → (height t ≤ 2 * b + 1) × (colour t ≡ black → height t ≤ 2 * b)
unfolding height
even_height nothing bottom = (omega arith, λ e. omega arith)
even_height (darkly p q) (above {b = b} x y) =
    let h = higher_most _ _ (2 * b + 1) (even_height p x).0 (even_height q y).0 in
    (omega (arith, h), λ e. omega (arith, h))
even_height (redly u v p q) (above {b = b} x y) =
    let h = higher_most _ _ (2 * b) ((even_height p x).1 u) ((even_height q y).1 v) in
    (omega (arith, h), λ e. absurd (red_black e))

-- 2 to the height is at most the square of one more than the slots.
pub not_deep : (t : Tree) → Coloured t → Level t → 2 ^ height t ≤ (length (slots t) + 1) * (length (slots t) + 1)
not_deep t c h =
    let k = level_even t h in
    let b = k.0 in
    let low : 2 ^ height t ≤ 2 ^ (b + b) = pow_mono (omega (arith, (even_height c.calm k.1).1 c.root)) in
    let parts : 2 ^ (b + b) ≡ 2 ^ b * 2 ^ b = pow-add 2 b b in
    let most : 2 ^ b * 2 ^ b ≤ (length (slots t) + 1) * (length (slots t) + 1) = mul-le-mul (even_size k.1) (even_size k.1) in
    omega (arith, low, parts, most)

-- A look says that the pair is here, or goes on to one of the two children.
data Onward (l r : ℕ) : Look → Type 0 where
  stays : Onward l r here
  leftward : Onward l r (on l)
  rightward : Onward l r (on r)

onward : (at own l r hash key : ℕ) → Onward l r (decided at own l r hash key)
onward at own l r hash key =
    go (dec_lt hash at) (dec_lt at hash) (ℕ_discrete own key) (ℕ_discrete l null) (ℕ_discrete r null) (dec_lt key own)
  where
    c : Looks at own l r hash key
    c = look_claims at own l r hash key

    go : Dec (hash < at) → Dec (at < hash) → Dec (own ≡ key) → Dec (l ≡ null) → Dec (r ≡ null) → Dec (key < own)
        → Onward l r (decided at own l r hash key)
    go (yes h) b k x y d = rw (c.greater h) leftward
    go (no a) (yes h) k x y d = rw (c.less h) rightward
    go (no a) (no b) (yes k) x y d = rw (c.equal (omega arith) k) stays
    go (no a) (no b) (no k) (yes x) y d = rw (c.null-left (omega arith) k x) rightward
    go (no a) (no b) (no k) (no x) (yes y) d = rw (c.null-right (omega arith) k x y) leftward
    go (no a) (no b) (no k) (no x) (no y) (yes d) = rw (c.key_greater (omega arith) d x y) leftward
    go (no a) (no b) (no k) (no x) (no y) (no d) = rw (c.key_less (omega arith) (omega arith) x y) rightward

pub higher-left : (a b : ℕ) → a ≤ higher a b
higher-left a b = go (ltb a b) refl
  where
    go : (t : Bool) → ltb a b ≡ t → a ≤ pick t b a
    go true e = omega (arith, ltb-true a b e)
    go false e = omega arith

pub higher-right : (a b : ℕ) → b ≤ higher a b
higher-right a b = go (ltb a b) refl
  where
    go : (t : Bool) → ltb a b ≡ t → b ≤ pick t b a
    go true e = omega arith
    go false e = omega (arith, ltb-false a b e)

-- So a search looks at no more slots than the longest way down meets, whatever it seeks and however many visits it has.
module _ (n : ℕ) (names cells : List ℕ) (hash key : ℕ) where
  none_left : (p : ℕ) → length (pick (eqb p null) (ends nothing-there) (ends (refused 9))).looks ≡ 0
  none_left p = go (eqb p null)
    where
      go : (b : Bool) → length (pick b (ends nothing-there) (ends (refused 9))).looks ≡ 0
      go true = refl
      go false = refl

  looked_on : (i : ℕ) → Onward (cell cells i left) (cell cells i right) (looked names cells i hash key)
  unfolding looked
  looked_on i = onward _ _ _ _ hash key

  pub looks_most : (visits : ℕ) {q : ℕ} {t : Tree} → Hangs n cells q t
      → length (searched names cells visits (top t) hash key).looks ≤ height t
  unfolding searched height
  looks_most zero {t = t} h = omega (arith, none_left (top t))
  looks_most (suc visits) Hangs.none = omega arith
  looks_most (suc visits) (Hangs.some {l = l} {i} {r} w a b) =
      go (eqb i null) (leb (slots_of names) i) (looked names cells i hash key) (rw (← w.lefts, ← w.rights) (looked_on i))
      (looks_most visits a) (looks_most visits b)
    where
      go : (u v : Bool) (o : Look) → Onward (top l) (top r) o
          → length (searched names cells visits (top l) hash key).looks ≤ height l
          → length (searched names cells visits (top r) hash key).looks ≤ height r
          → length (pick u (ends nothing-there)
          (pick v (ends (refused 9)) (looked_then o i (λ p. searched names cells visits p hash key)))).looks
          ≤ suc (higher (height l) (height r))
      go true v o k x y = omega arith
      go false true o k x y = omega arith
      go false false o stays x y = omega arith
      go false false o leftward x y = omega (arith, x, higher-left (height l) (height r))
      go false false o rightward x y = omega (arith, y, higher-right (height l) (height r))
