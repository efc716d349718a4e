-- The source's tests for null: where the words end before slot null, our load behind null gives null and our store stores nothing,
-- so each test falls away, whatever the source's load and store behind null would come to.
use mathlib.Core.Path.{◌≡◌, refl, ap, ◌∙◌, sym}
use mathlib.Core.Bool.{Bool, true, false, not, ◌&&◌, ◌||◌, false≢true}
use mathlib.Core.List.{List}
use Prim.Native.Nat.{ℕ, ◌+◌, ◌*◌, ◌≤◌}
use native.Mathlib.Omega.{arith}
use lib.ListN.{length}
use lib.Seq.{set_out}
use lib.Dec.{eqb}
use borrow.Author.Tests.{eqb-true, eqb-false, eq-eqb, ne_eqb}
use Rattle.slots.specs.Words.{pick, null, state, parent, Colour, code, write}
use Rattle.slots.proofs.Laws.{length-write, cell-null}
use Rattle.redblack.specs.Links.{Links, read, stored, rooted, painted, is_red, resized}
use Rattle.redblack.specs.Rotate.{hung, turned, rotated}
use Rattle.tree_rules.specs.Source.{is-null}
use Rattle.redblack.specs.Source.{WildMemory, memory, load, red_of, to_field}

-- The words end before slot null.
pub record Short (s : Links) : Type 0 where
  pub ends : length s.cells ≤ 7 * null

pub short_stored : {s : Links} (i f v : ℕ) → Short s → Short (stored s i f v)
short_stored {s} i f v h = record { ends = rw (length-write s.cells i f v) h.ends }

pub short_painted : {s : Links} (i : ℕ) (c : Colour) → Short s → Short (painted s i c)
short_painted i c h = short_stored i state (code c) h

-- A load, a store and a colour behind null.
pub load_null : {s : Links} (f : ℕ) → Short s → read s null f ≡ null
load_null {s} f h = cell-null s.cells f h.ends

pub store-null : {s : Links} (f v : ℕ) → Short s → stored s null f v ≡ s
unfolding write
store-null {s} f v h =
    ap (λ (l : List ℕ). record { cells = l; root = s.root; sizes = s.sizes }) (set_out s.cells (7 * null + f) v (omega arith))

pub dark_null : {s : Links} → Short s → is_red s null ≡ false
dark_null h = rw (load_null state h)

-- A red slot is no null.
pub red_solid : {s : Links} → Short s → (p : ℕ) → is_red s p ≡ true → eqb p null ≡ false
red_solid {s} h p r = ne_eqb p null (λ z. false≢true (sym (dark_null h) ∙ (rw z at r)))

module _ (wild : WildMemory) {s : Links} (short : Short s) (p : ℕ) where
  pub guard_store : (f v : ℕ) → pick (not (is-null p)) (to_field wild f (memory s) p v) (memory s) ≡ memory (stored s p f v)
  guard_store f v = go (eqb p null) refl
    where
      go : (b : Bool) → eqb p null ≡ b → pick (not (is-null p)) (to_field wild f (memory s) p v) (memory s) ≡ memory (stored s p f v)
      go false e = rw e
      go true e = rw (eqb-true p null e) (ap memory (sym (store-null f v short)))

  pub guard_red : not (is-null p) && red_of wild (memory s) p ≡ is_red s p
  guard_red = go (eqb p null) refl
    where
      go : (b : Bool) → eqb p null ≡ b → not (is-null p) && red_of wild (memory s) p ≡ is_red s p
      go false e = rw e
      go true e = rw (eqb-true p null e, load_null state short)

  pub guard_dark : is-null p || not (red_of wild (memory s) p) ≡ not (is_red s p)
  guard_dark = go (eqb p null) refl
    where
      go : (b : Bool) → eqb p null ≡ b → is-null p || not (red_of wild (memory s) p) ≡ not (is_red s p)
      go false e = rw e
      go true e = rw (eqb-true p null e, load_null state short)

  pub guard_hue : pick (is-null p) false (red_of wild (memory s) p) ≡ is_red s p
  guard_hue = go (eqb p null) refl
    where
      go : (b : Bool) → eqb p null ≡ b → pick (is-null p) false (red_of wild (memory s) p) ≡ is_red s p
      go false e = rw e
      go true e = rw (eqb-true p null e, load_null state short)

  pub guard_load : (f : ℕ) → pick (is-null p) null (load wild f (memory s) p) ≡ read s p f
  guard_load f = go (eqb p null) refl
    where
      go : (b : Bool) → eqb p null ≡ b → pick (is-null p) null (load wild f (memory s) p) ≡ read s p f
      go false e = rw e
      go true e = rw (eqb-true p null e, load_null f short)

pub eqb_swap : (i j : ℕ) → eqb i j ≡ eqb j i
eqb_swap i j = go (eqb j i) refl
  where
    go : (b : Bool) → eqb j i ≡ b → eqb i j ≡ eqb j i
    go true e = eq-eqb i j (sym (eqb-true j i e)) ∙ sym e
    go false e = ne_eqb i j (λ z. eqb-false j i e (sym z)) ∙ sym e

-- A rotation leaves as many words.
pub short_pick : {s t : Links} (b : Bool) → Short s → Short t → Short (pick b s t)
short_pick true h k = h
short_pick false h k = k

pub short_rooted : {s : Links} (r : ℕ) → Short s → Short (rooted s r)
short_rooted r h = record { ends = h.ends }

short_resized : {s : Links} (l : List ℕ) → Short s → Short (resized s l)
short_resized l h = record { ends = h.ends }

short_hung : {s : Links} (near far pp p r : ℕ) → Short s → Short (hung near far s pp p r)
unfolding hung
short_hung {s} near far pp p r h =
    short_pick (eqb pp null) (short_stored r state 1 (short_rooted r h))
    (short_pick (eqb (read s pp near) p) (short_stored pp near r h) (short_stored pp far r h))

short_turned : {s : Links} (near far p r : ℕ) → Short s → Short (turned near far s p r)
unfolding turned
short_turned {s} near far p r h =
    short_resized _ (short_stored p parent r
    (short_stored r near p (short_hung near far _ p r (short_stored r parent _ (short_stored _ parent p (short_stored p far _ h))))))

pub short_rotated : {s : Links} (near far p : ℕ) → Short s → Short (rotated near far s p)
unfolding rotated
short_rotated {s} near far p h =
    short_pick (eqb p null) h (short_pick (eqb (read s p far) null) h (short_turned near far p (read s p far) h))
