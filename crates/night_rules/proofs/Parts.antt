-- The part of a tree below one of its slots.
use mathlib.Core.Path.{◌≡◌}
use mathlib.Core.List.{List, [], ◌∷◌}
use Prim.Native.Nat.{ℕ, ◌≤◌}
use native.Mathlib.Omega.{arith}
use lib.ListN.{length}
use Rattle.slots.specs.Words.{state, cell, Colour, code, Side, leftward, rightward, toward}
use Rattle.tree_rules.specs.Tree.{Tree, node, top, slots, times, Hangs}
use Rattle.tree_rules.proofs.Counting.{times-around, times_append, times_head, times_rest}
use Rattle.tree_rules.proofs.Reaching.{length_node, hangs_stand}
use Rattle.tree_rules.specs.Find.{slots_of}
use Rattle.index_rules.specs.Live.{Live}
use Rattle.index_rules.specs.Sound.{T3}
use Rattle.night_rules.specs.Shows.{Used}
use Rattle.night_rules.proofs.Slots.{used_one, not-zero}

pub data PartOf : Tree → Tree → Type 0 where
  whole : {t : Tree} → PartOf t t
  of_left : {c : Colour} {l : Tree} {i : ℕ} {r s : Tree} → PartOf l s → PartOf (node c l i r) s
  of_right : {c : Colour} {l : Tree} {i : ℕ} {r s : Tree} → PartOf r s → PartOf (node c l i r) s

-- The part below the slot k, as the words hold it.
pub record PartBelow (n : ℕ) (cells : List ℕ) (t : Tree) (k : ℕ) : Type 0 where
  pub over : ℕ
  pub hue : Colour
  pub lefts : Tree
  pub rights : Tree
  pub hangs : Hangs n cells over (node hue lefts k rights)
  pub part : PartOf t (node hue lefts k rights)

pub below : {n : ℕ} {cells : List ℕ} {q : ℕ} {t : Tree} (k : ℕ) → Hangs n cells q t → 1 ≤ times k (slots t) → PartBelow n cells t k
unfolding slots times
below k Hangs.none y = absurd (omega arith)
below {n} {cells} {q} k (Hangs.some {c = c} {l} {i} {r} w a b) y =
    times-around k (slots l) i (slots r) y
    (λ z. (let h = below k a z in
    record { over = h.over; hue = h.hue; lefts = h.lefts; rights = h.rights; hangs = h.hangs; part = of_left h.part }))
    (λ e. rw e (record { over = q; hue = c; lefts = l; rights = r; hangs = Hangs.some w a b; part = whole }))
    (λ z. (let h = below k b z in
    record { over = h.over; hue = h.hue; lefts = h.lefts; rights = h.rights; hangs = h.hangs; part = of_right h.part }))

pub part_length : {t s : Tree} → PartOf t s → length (slots s) ≤ length (slots t)
part_length whole = omega arith
part_length (of_left {c} {l} {i} {r} p) = omega (arith, part_length p, length_node c l i r)
part_length (of_right {c} {l} {i} {r} p) = omega (arith, part_length p, length_node c l i r)

pub part_times : {t s : Tree} (k : ℕ) → PartOf t s → times k (slots s) ≤ times k (slots t)
unfolding slots
part_times k whole = omega arith
part_times k (of_left {c} {l} {i} {r} p) = omega (arith, part_times k p, times_append k (slots l) (i ∷ slots r), times_rest k i (slots r))
part_times k (of_right {c} {l} {i} {r} p) = omega (arith, part_times k p, times_append k (slots l) (i ∷ slots r), times_rest k i (slots r))

pub part_hangs : {n q : ℕ} {cells : List ℕ} {t s : Tree} → Hangs n cells q t → PartOf t s → (p : ℕ) × Hangs n cells p s
part_hangs {q = q} h whole = (q, h)
part_hangs (Hangs.some w a b) (of_left p) = part_hangs a p
part_hangs (Hangs.some w a b) (of_right p) = part_hangs b p

pub node_has : (c : Colour) (l : Tree) (i : ℕ) (r : Tree) → 1 ≤ times i (slots (node c l i r))
unfolding slots
node_has c l i r = omega (arith, times_append i (slots l) (i ∷ slots r), times_head i (slots r))

pub member_used : {t : Live} {tree : Tree} → T3 t tree → (i : ℕ) → 1 ≤ times i (slots tree) → Used t i
member_used {t} {tree} three i y =
    let s = hangs_stand (slots_of t.names) t.cells {k = i} three.rooted.hangs y in
    not-zero t i s.words.inside (omega (arith, three.all i s.words.inside))

pub used_member : {t : Live} {tree : Tree} → T3 t tree → {i : ℕ} → Used t i → 1 ≤ times i (slots tree)
used_member three {i} h = omega (arith, three.all i h.inside, used_one h)

pub part_of : {t : Live} {tree : Tree} → T3 t tree → {i : ℕ} → Used t i → PartBelow (slots_of t.names) t.cells tree i
part_of three {i} h = below i three.rooted.hangs (used_member three h)

-- A link of a slot leads to that side of its part.
module _ {n i : ℕ} {cells : List ℕ} {tree : Tree} (b : PartBelow n cells tree i) where
  abbrev pub limb : Side → Tree
  limb leftward = b.lefts
  limb rightward = b.rights

  pub limb_hangs : (σ : Side) → (cell cells i (toward σ) ≡ top (limb σ)) × Hangs n cells i (limb σ)
  limb_hangs σ = go σ b.hangs
    where
      go : (σ : Side) → Hangs n cells b.over (node b.hue b.lefts i b.rights)
          → (cell cells i (toward σ) ≡ top (limb σ)) × Hangs n cells i (limb σ)
      go leftward (Hangs.some w x y) = (w.lefts, x)
      go rightward (Hangs.some w x y) = (w.rights, y)

  -- It is no longer than the tree.
  pub limb_length : (σ : Side) → length (slots (limb σ)) ≤ length (slots tree)
  limb_length leftward = omega (arith, length_node b.hue b.lefts i b.rights, part_length b.part)
  limb_length rightward = omega (arith, length_node b.hue b.lefts i b.rights, part_length b.part)

  pub hue_of : cell cells i state ≡ code b.hue
  hue_of = go b.hangs
    where
      go : Hangs n cells b.over (node b.hue b.lefts i b.rights) → cell cells i state ≡ code b.hue
      go (Hangs.some w x y) = w.hued

pub some_length : (k : ℕ) (m : List ℕ) → 1 ≤ times k m → 1 ≤ length m
unfolding times
some_length k [] y = absurd (omega arith)
some_length k (x ∷ m) y = omega arith
