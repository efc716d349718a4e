-- What the two walks down from a link come to, on plain values: each law takes what the reads, the calls and the tests gave, in the
-- order of the code. The number of slots is held at 2^32, above any size that is stored.
use mathlib.Core.Path.{◌≡◌, sym, ◌∙◌}
use mathlib.Core.Logic.{◌≢◌}
use mathlib.Core.Bool.{Bool, true, false, not}
use mathlib.Core.List.{List}
use Prim.Native.Nat.{ℕ, zero, suc, ◌+◌, ◌-◌, ◌<◌, ◌≤◌}
use native.Mathlib.Decide.{dec_lt}
use native.Mathlib.Numerals.{sub-one}
use native.Mathlib.Omega.{arith}
use lib.Dec.{eqb}
use borrow.Author.Tests.{eq-eqb, ne_eqb, lt-ltb, le-ltb}
use Rattle.slots.specs.Words.{null, pick, state, left, right, cell}
use Rattle.slots.proofs.Laws.{not_is}
use Rattle.slots.specs.Answers.{some, none}
use Rattle.tree_rules.specs.Rules.{then, levelled, with_parts}
use Rattle.night_rules.specs.Why.{neg, number_below}
use Rattle.night.specs.Told.{held_number as held}

-- The black slots that every way down meets.
module _ (cells : List ℕ) (i : ℕ) where
  pub level-null : (depth : ℕ) → i ≡ null → some 0 ≡ levelled depth cells i
  unfolding levelled
  level-null zero z = rw (eq-eqb i null z)
  level-null (suc depth) z = rw (eq-eqb i null z)

  pub level_out : (depth : ℕ) → i ≢ null → depth ≡ 0 → none ≡ levelled depth cells i
  unfolding levelled
  level_out zero d h = rw (ne_eqb i null d)
  level_out (suc depth) d h = absurd (omega arith)

  level_step : (depth : ℕ) → i ≢ null → depth ≢ 0
      → levelled depth cells i
      ≡ then (levelled (depth - 1) cells (cell cells i left))
      (λ a. then (levelled (depth - 1) cells (cell cells i right))
      (λ b. pick (eqb a b) (some (pick (eqb (cell cells i state) 2) a (a + 1))) none))
  unfolding levelled
  level_step zero d h = absurd (omega arith)
  level_step (suc depth) d h = rw (sub-one, levelled, ne_eqb i null d)

  module _ (depth : ℕ) (d : i ≢ null) (h : depth ≢ 0) {l : ℕ} (e : l ≡ cell cells i left) where
    pub level_no_left : none ≡ levelled (depth - 1) cells l → none ≡ levelled depth cells i
    level_no_left f = sym (level_step depth d h ∙ rw (← e, ← f))

    module _ {a r : ℕ} (f : some a ≡ levelled (depth - 1) cells l) (g : r ≡ cell cells i right) where
      pub level_no_right : none ≡ levelled (depth - 1) cells r → none ≡ levelled depth cells i
      level_no_right k = sym (level_step depth d h ∙ rw (← e, ← f, ← g, ← k))

      module _ {b : ℕ} (k : some b ≡ levelled (depth - 1) cells r) where
        pub level_differ : a ≢ b → none ≡ levelled depth cells i
        level_differ z = sym (level_step depth d h ∙ rw (← e, ← f, ← g, ← k, ne_eqb a b z))

        module _ (z : a ≡ b) {red : Bool} (m : red ≡ eqb (cell cells i state) 2) where
          pub level_red : red ≡ true → some a ≡ levelled depth cells i
          level_red w = sym (level_step depth d h ∙ rw (← e, ← f, ← g, ← k, eq-eqb a b z, ← m, w))

          pub level_black : red ≡ false → some (a + 1) ≡ levelled depth cells i
          level_black w = sym (level_step depth d h ∙ rw (← e, ← f, ← g, ← k, eq-eqb a b z, ← m, w))

-- A number, held at 2^32.
less : (x : ℕ) → x < 4294967296 → held x ≡ x
unfolding held
less x h = rw (lt-ltb x 4294967296 h)

more : (x : ℕ) → 4294967296 ≤ x → held x ≡ 4294967296
unfolding held
more x h = rw (le-ltb x 4294967296 h)

held_small : (x : ℕ) → held x ≤ 4294967296
held_small x = go (dec_lt x 4294967296)
  where
    go : Dec (x < 4294967296) → held x ≤ 4294967296
    go (yes h) = omega (arith, less x h)
    go (no n) = omega (arith, more x (omega arith))

pub held_fits : (x : ℕ) {r : ℕ} → r ≡ held x → r ≤ 4294967296
held_fits x e = omega (arith, held_small x)

pub held_parts : (a b : ℕ) → held (1 + held a + held b) ≡ held (1 + a + b)
held_parts a b = go (dec_lt a 4294967296) (dec_lt b 4294967296)
  where
    go : Dec (a < 4294967296) → Dec (b < 4294967296) → held (1 + held a + held b) ≡ held (1 + a + b)
    go (yes h) (yes g) = simp (less a h, less b g)
    go (yes h) (no g) =
        more (1 + held a + held b) (omega (arith, more b (omega arith))) ∙ sym (more (1 + a + b) (omega arith))
    go (no h) g = more (1 + held a + held b) (omega (arith, more a (omega arith))) ∙ sym (more (1 + a + b) (omega arith))

-- A stored size is not above the last word, so it is compared alike.
pub held_same : (s x : ℕ) → s < 4294967296 → eqb s (held x) ≡ eqb s x
held_same s x l = go (dec_lt x 4294967296)
  where
    go : Dec (x < 4294967296) → eqb s (held x) ≡ eqb s x
    go (yes h) = rw (less x h)
    go (no n) = rw (more x (omega arith), ne_eqb s 4294967296 (λ e. omega arith), ne_eqb s x (λ e. omega arith))

pub held_asked : (s x : ℕ) {m : ℕ} → m ≡ held x → s < 4294967296 → not (eqb s m) ≡ neg (eqb s x)
held_asked s x e l = rw (e, held_same s x l, not_is)

-- The number of slots.
module _ (cells : List ℕ) (i : ℕ) where
  pub number_end : (depth : ℕ) → depth ≡ 0 → 0 ≡ held (number_below depth cells i)
  unfolding number_below
  number_end zero h = sym (less 0 (omega arith))
  number_end (suc depth) h = absurd (omega arith)

  number_step : (depth : ℕ) → depth ≢ 0
      → number_below depth cells i
      ≡ pick (eqb i null) 0
      (with_parts (number_below (depth - 1) cells (cell cells i left)) (number_below (depth - 1) cells (cell cells i right)))
  unfolding number_below
  number_step zero h = absurd (omega arith)
  number_step (suc depth) h = rw (sub-one, number_below)

  pub number_null : (depth : ℕ) → depth ≢ 0 → i ≡ null → 0 ≡ held (number_below depth cells i)
  number_null depth h z = rw (number_step depth h, eq-eqb i null z) (sym (less 0 (omega arith)))

  pub number_on : (depth : ℕ) {l a r b v : ℕ} → depth ≢ 0 → i ≢ null → l ≡ cell cells i left → a ≡ held (number_below (depth - 1) cells l)
      → r ≡ cell cells i right → b ≡ held (number_below (depth - 1) cells r) → v ≡ held (1 + a + b) → v ≡ held (number_below depth cells i)
  unfolding with_parts
  number_on depth h d e f g k m =
      rw (number_step depth h, ne_eqb i null d, ← e, ← g) (m ∙ rw (f, k, held_parts))
