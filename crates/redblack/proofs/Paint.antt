-- A slot in view takes another colour: one word is written, and it is no link.
use mathlib.Core.Path.{◌≡◌, refl, sym, ◌∙◌}
use mathlib.Core.Logic.{◌≢◌}
use mathlib.Core.Bool.{true, false}
use mathlib.Core.List.{[]}
use Prim.Native.Nat.{ℕ, ◌<◌}
use native.Mathlib.Decide.{ℕ_discrete}
use native.Mathlib.Omega.{arith}
use lib.ListN.{length}
use lib.Dec.{eqb, ltb}
use borrow.Author.Tests.{ne_eqb}
use Rattle.slots.specs.Words.{state, fields, code, Colour, Side, other}
use Rattle.slots.proofs.Laws.{length-write}
use Rattle.redblack.specs.Links.{Links, read, rooted, painted}
use Rattle.redblack.specs.Sided.{Sided, Way, top, upper, hit, count, Cap, Cell, Site, fork, some, home}
use Rattle.redblack.specs.Kept.{Agree}
use Rattle.redblack.proofs.Reading.{reads, roomy_cap, recap}
use Rattle.redblack.proofs.Frames.{apart, cell_of, this_of, that_of, tree_frame, way_frame, outward, inward, turn, turn'}

-- The slot in view.
pub painting : {n : ℕ} {s : Links} {σ : Side} {c : Colour} {a b : Sided} {i : ℕ} {C : Way} (d : Colour) → Site n s C (fork σ c a i b)
    → Site n (painted s i d) C (fork σ d a i b)
unfolding count
painting {n} {s} {σ} {a = a} {b = b} {i = i} {C = C} d h =
    let k = cell_of h.tree in
    let off : (j : ℕ) → hit j i ≡ 0 → Agree s (painted s i d) j = λ j e. (let ne = apart e in record { same = λ f l. simp reads }) in
    let k' : Cell n (painted s i d) (upper C) σ d (top a) i (top b) =
    record {
      inside = k.inside;
      above = simp reads k.above;
      this = simp reads k.this;
      that = simp reads k.that;
      hued = simp (reads, roomy_cap i h.cap k.inside);
    } in
    record {
      cap = recap h.cap (simp length-write);
      way = way_frame (λ j l m. off j (omega (arith, h.once j))) refl h.way;
      tree = some k'
          (tree_frame (λ j l m. off j (omega (arith, h.once j))) (this_of h.tree))
          (tree_frame (λ j l m. off j (omega (arith, h.once j))) (that_of h.tree));
      once = h.once;
    }

-- So do its child on the side σ, and the other one.
pub painting_this : {n : ℕ} {s : Links} {σ τ : Side} {c e : Colour} {a b x : Sided} {i j : ℕ} {C : Way} (d : Colour)
    → Site n s C (fork σ c (fork τ e a j b) i x) → Site n (painted s j d) C (fork σ c (fork τ d a j b) i x)
painting_this d h = outward (painting d (inward h))

pub painting_that : {n : ℕ} {s : Links} {σ τ : Side} {c e : Colour} {a b x : Sided} {i j : ℕ} {C : Way} (d : Colour)
    → Site n s C (fork σ c x i (fork τ e a j b)) → Site n (painted s j d) C (fork σ c x i (fork τ d a j b))
painting_that d h = turn' (painting_this d (turn h))

-- The child's two names.
pub turn_this : {n : ℕ} {s : Links} {σ τ : Side} {c e : Colour} {a b x : Sided} {i j : ℕ} {C : Way}
    → Site n s C (fork σ c (fork τ e a j b) i x) → Site n s C (fork σ c (fork (other τ) e b j a) i x)
turn_this h = outward (turn (inward h))

-- From s to t states alone are written, and of no slot but i, j and k: this is said of what is read, in whatever order it was written.
pub record Repaints (s t : Links) (i j k : ℕ) : Type 0 where
  pub long : length t.cells ≡ length s.cells
  pub root : t.root ≡ s.root
  pub links : (l f : ℕ) → ltb f fields ≡ true → eqb state f ≡ false → read t l f ≡ read s l f
  pub states : (l : ℕ) → l ≢ i → l ≢ j → l ≢ k → read t l state ≡ read s l state

-- A word is a link, or it is the state.
by_field : {s t : Links} {l : ℕ} → ((f : ℕ) → ltb f fields ≡ true → eqb state f ≡ false → read t l f ≡ read s l f)
    → read t l state ≡ read s l state → Agree s t l
by_field {s} {t} {l} g h = record { same = λ f m. go f m (ℕ_discrete state f) }
  where
    go : (f : ℕ) → ltb f fields ≡ true → Dec (state ≡ f) → read t l f ≡ read s l f
    go f m (yes e) = rw (← e) h
    go f m (no d) = g f m (ne_eqb state f d)

-- Links that read alike hold the same tree.
read_alike : {n : ℕ} {s t : Links} {C : Way} {v : Sided} → length t.cells ≡ length s.cells → t.root ≡ s.root
    → ((l : ℕ) → Agree s t l) → Site n s C v → Site n t C v
read_alike e f g h =
    record { cap = recap h.cap e; way = way_frame (λ j l m. g j) f h.way; tree = tree_frame (λ j l m. g j) h.tree; once = h.once }

-- What is read at a painted slot, and elsewhere.
at-painted : {n i : ℕ} {s : Links} (t : Links) (c : Colour) → Cap n s → i < n → read t i state ≡ code c → (l : ℕ)
    → (l ≢ i → read t l state ≡ read s l state) → read t l state ≡ read (painted s i c) l state
at-painted {i = i} {s} t c k w e l h = go (ℕ_discrete l i)
  where
    go : Dec (l ≡ i) → read t l state ≡ read (painted s i c) l state
    go (yes q) = rw q (e ∙ sym (simp (reads, roomy_cap i k w)))
    go (no d) = h d ∙ simp reads

-- One of the slots is painted already.
painted_first : {n i j k : ℕ} {s t : Links} (c : Colour) → Cap n s → i < n → Repaints s t i j k → read t i state ≡ code c
    → Repaints (painted s i c) t j k k
painted_first {t = t} c m w r e =
    record {
      long = r.long ∙ simp length-write;
      root = r.root;
      links = λ l f y z. r.links l f y z ∙ simp reads;
      states = λ l a b b'. at-painted t c m w e l (λ d. r.states l d a b);
    }

-- Links that read as s does with a slot painted, or with three slots painted, hold the tree that those hold.
pub one_painted : {n i : ℕ} {s t : Links} {C : Way} {v : Sided} (c : Colour) → Cap n s → i < n → Repaints s t i i i
    → read t i state ≡ code c → Site n (painted s i c) C v → Site n t C v
one_painted {t = t} c m w r e h =
    read_alike (r.long ∙ simp length-write) r.root
    (λ l. by_field (λ f y z. r.links l f y z ∙ simp reads) (at-painted t c m w e l (λ d. r.states l d d d)))
    h

pub three-painted : {n i j k : ℕ} {s t : Links} {C : Way} {v : Sided} (c d e : Colour) → Cap n s → i < n → j < n → k < n
    → Repaints s t i j k → read t i state ≡ code c → read t j state ≡ code d → read t k state ≡ code e
    → Site n (painted (painted (painted s i c) j d) k e) C v → Site n t C v
three-painted {n} {i} {j} {s = s} c d e m wi wj wk r ei ej ek h =
    let m1 : Cap n (painted s i c) = recap m (simp length-write) in
    let m2 : Cap n (painted (painted s i c) j d) = recap m1 (simp length-write) in
    one_painted e m2 wk (painted_first d m1 wj (painted_first c m wi r ei) ej) ek h

-- The root is written once more.
pub rooting : {n : ℕ} {s : Links} {t : Sided} → Site n s [] t → Site n (rooted s (top t)) [] t
rooting {t = t} h =
    record {
      cap = recap h.cap refl;
      way = home {x = top t} refl;
      tree = tree_frame (λ j l m. record { same = λ f k. refl }) h.tree;
      once = h.once;
    }
