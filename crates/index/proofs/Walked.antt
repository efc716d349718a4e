-- What one walk answers: T3 to T6 and T8 of the tree's slots, each by its own test,
-- where the tree has a size and the header counts as many. With the pass over the slots and the chain it answers for T1's links too.
use mathlib.Core.Path.{◌≡◌, refl, sym, ◌∙◌}
use mathlib.Core.Bool.{Bool, true, false, false≢true}
use Prim.Native.Nat.{ℕ, ◌-◌}
use lib.Dec.{eqb}
use Rattle.slots.specs.Words.{null, pick}
use Rattle.slots.specs.Answers.{Value, none, some}
use Rattle.tree_rules.specs.Find.{slots_of}
use Rattle.tree_rules.specs.Rules.{then, reached, rises, coloured, level, all_sized, obeyed, obeyed_sized, tree_size}
use Rattle.index_rules.specs.Live.{Live, fits, root_of, count_of}
use Rattle.index_rules.specs.Sound.{leaves, frees_fine, rule1, rule2, rule3, rule4, rule5, rule6, rule7, rule8, sound}
use Rattle.index_rules.proofs.Fit.{both, fits_fit}
use Rattle.index.specs.Sound.{rule1_unlinked, tree_rules}
use Rattle.index.proofs.Slots.{and-true}
use Rattle.index.proofs.Unlinked.{links_apart, followed}

abbrev counts : ℕ → Value → Bool
counts count (some m) = eqb m count
counts count none = false

five : (n count : ℕ) (reach : Value) (rise hues even all : Bool)
    → counts count
    (then (pick all (then reach (λ rest. pick rise (pick hues (pick even (some rest) none) none) none)) none) (λ rest. some (n - rest)))
    ≡ pick (leaves n count reach) (pick rise (pick hues (pick even all false) false) false) false
five n count none rise hues even true = refl
five n count none rise hues even false = refl
five n count (some rest) rise hues even all = go rise hues even all (eqb (n - rest) count) refl
  where
    go : (a b c w d : Bool) → eqb (n - rest) count ≡ d
        → counts count (then (pick w (pick a (pick b (pick c (some rest) none) none) none) none) (λ rest. some (n - rest)))
        ≡ pick d (pick a (pick b (pick c w false) false) false) false
    go true true true true true e = e
    go true true true true false e = e
    go true true true false true e = refl
    go true true true false false e = refl
    go true true false true true e = refl
    go true true false true false e = refl
    go true true false false true e = refl
    go true true false false false e = refl
    go true false c true true e = refl
    go true false c true false e = refl
    go true false c false true e = refl
    go true false c false false e = refl
    go false b c true true e = refl
    go false b c true false e = refl
    go false b c false true e = refl
    go false b c false false e = refl

module _ (t : Live) {root : ℕ} (r : root ≡ root_of t) where
  sized : counts (count_of t) (tree_size t.names t.cells t.sizes root) ≡ tree_rules t
  unfolding tree_size obeyed_sized obeyed rule3 rule4 rule5 rule6
  sized =
      rw r
      (five (slots_of t.names) (count_of t)
      (reached (slots_of t.names) (slots_of t.names) t.cells null (root_of t) (slots_of t.names))
      (rises t.names t.cells (root_of t))
      (coloured (slots_of t.names) t.cells (root_of t))
      (level (slots_of t.names) t.cells (root_of t))
      (all_sized (slots_of t.names) t.cells t.sizes (root_of t)))

  pub no_size : none ≡ tree_size t.names t.cells t.sizes root → false ≡ tree_rules t
  no_size e = rw (← e) at sized

  pub by_count : {m count : ℕ} → some m ≡ tree_size t.names t.cells t.sizes root → count ≡ count_of t → eqb m count ≡ tree_rules t
  by_count e c = rw (← e, ← c) at sized

-- Four tests and what comes after them, one inside the other.
inside : (a b c d rest : Bool)
    → pick a (pick b (pick c (pick d rest false) false) false) false ≡ pick (pick a (pick b (pick c d false) false) false) rest false
inside true true true d rest = refl
inside true true false d rest = refl
inside true false c d rest = refl
inside false b c d rest = refl

-- T8's two halves, each asked with what asks it.
halves : (one two three seven all frees : Bool)
    → pick one (pick two (pick three (pick seven (pick all frees false) false) false) false) false
    ≡ pick (pick one frees false) (pick two (pick (pick three all false) seven false) false) false
halves false two three seven all frees = refl
halves true false three seven all true = refl
halves true false three seven all false = refl
halves true true false seven all true = refl
halves true true false seven all false = refl
halves true true true false true true = refl
halves true true true false true false = refl
halves true true true false false true = refl
halves true true true false false false = refl
halves true true true true true frees = sym (and-true frees)
halves true true true true false true = refl
halves true true true true false false = refl

in_order : (t : Live)
    → sound t
    ≡ pick (pick (rule1 t) (frees_fine (slots_of t.names) t) false) (pick (rule2 t) (pick (tree_rules t) (rule7 t) false) false) false
unfolding sound rule8
in_order t =
    let w = all_sized (slots_of t.names) t.cells t.sizes (root_of t) in
    let f = frees_fine (slots_of t.names) t in
    rw (
      inside (rule3 t) (rule4 t) (rule5 t) (rule6 t) (pick (rule7 t) (pick w f false) false),
      inside (rule3 t) (rule4 t) (rule5 t) (rule6 t) w,
    )
    (halves (rule1 t) (rule2 t) (pick (rule3 t) (pick (rule4 t) (pick (rule5 t) (rule6 t) false) false) false) (rule7 t) w f)

-- A test that what comes after it implies need not be asked.
implied : (links one two three seven : Bool) → (one ≡ true → three ≡ true → seven ≡ true → links ≡ true)
    → pick (pick links one false) (pick two (pick three seven false) false) false ≡ pick one (pick two (pick three seven false) false) false
implied true one two three seven h = refl
implied false false two three seven h = refl
implied false true false three seven h = refl
implied false true true false seven h = refl
implied false true true true false h = refl
implied false true true true true h = absurd (false≢true (h refl refl refl))

pub in_four : (t : Live) → fits t ≡ true
    → sound t ≡ pick (rule1_unlinked t) (pick (rule2 t) (pick (tree_rules t) (rule7 t) false) false) false
in_four t fit =
    in_order t
    ∙ rw (links_apart t)
    (implied _ (rule1_unlinked t) (rule2 t) (tree_rules t) (rule7 t)
    (λ one tree seven. followed t (fits_fit t fit) one (both (rule3 t) _ tree).0 seven))
