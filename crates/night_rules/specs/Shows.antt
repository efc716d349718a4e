-- Which slot shows each broken rule. "Only the first broken rule is told, so those before it hold."
use Rattle.std.specs.Prelude.{◌≡◌, ◌≢◌, ◌⊎◌, List, ◌∷◌, ◌++◌, ℕ, ◌+◌, ◌<◌, eqb}
use Rattle.slots.specs.Words.{null, pick, state, parent, left, right, prev, next, free, cell, black, red, code, Side, leftward, rightward}
use Rattle.slots.specs.Words.{toward}
use Rattle.slots.specs.Pairs.{pair_of, Less}
use Rattle.tree_rules.specs.Check.{Named, LinksNamed}
use Rattle.tree_rules.specs.Chain.{tally}
use Rattle.tree_rules.specs.Tree.{Tree, slots, NextInOrder}
use Rattle.tree_rules.specs.Sizes.{size_word, size_in}
use Rattle.tree_rules.specs.Find.{slots_of}
use Rattle.index_rules.specs.Live.{Live, root_of, first_of, count_of}
use Rattle.index_rules.specs.Sound.{used, Cleared}
use Rattle.night_rules.specs.Account.{WayDown}

-- A used slot is one that is not free.
pub record Used (t : Live) (i : ℕ) : Type 0 where
  pub inside : i < slots_of t.names
  pub busy : cell t.cells i state ≢ free

-- The field f, followed from the slot k, leads to the slot x.
pub data LeadsTo (cells : List ℕ) (f x : ℕ) : ℕ → Type 0 where
  there : {k : ℕ} → k ≡ x → LeadsTo cells f x k
  one_more : {k : ℕ} → LeadsTo cells f x (cell cells k f) → LeadsTo cells f x k

-- T1: "a slot with a link that is neither null nor a slot, with a state above 2, or free and not cleared; else the header (root or first
-- out of range, or the count)".
pub data Faulty (t : Live) (i : ℕ) : Type 0 where
  stray_link : (LinksNamed (slots_of t.names) t.cells i → ⊥) → Faulty t i
  stray_state : 2 < cell t.cells i state → Faulty t i
  uncleared : cell t.cells i state ≡ free → (Cleared t i → ⊥) → Faulty t i

pub record Shows1 (t : Live) (i : ℕ) : Type 0 where
  pub inside : i < slots_of t.names
  pub faulty : Faulty t i

pub data Header1 (t : Live) : Type 0 where
  stray_root : (Named (slots_of t.names) (root_of t) → ⊥) → Header1 t
  stray_first : (Named (slots_of t.names) (first_of t) → ⊥) → Header1 t
  miscounted : count_of t ≢ tally (slots_of t.names) (used t.cells) → Header1 t

-- The slot i is "exactly one of the two children" of p.
abbrev pub OneChild : List ℕ → ℕ → ℕ → Type 0
OneChild cells p i =
    ((cell cells p left ≡ i) × (cell cells p right ≢ i)) ⊎ ((cell cells p left ≢ i) × (cell cells p right ≡ i))

-- T3: "a used slot that is the root and has a parent; or is not the root and not exactly one of the two children of its parent; or has a
-- child that does not point back, or the same child twice; or from which the parents do not lead to the root".
pub data Misplaced (t : Live) (i : ℕ) : Type 0 where
  under_one : i ≡ root_of t → cell t.cells i parent ≢ null → Misplaced t i
  no_child : i ≢ root_of t → (OneChild t.cells (cell t.cells i parent) i → ⊥) → Misplaced t i
  not_back : (σ : Side) → cell t.cells i (toward σ) ≢ null → cell t.cells (cell t.cells i (toward σ)) parent ≢ i → Misplaced t i
  same_twice : cell t.cells i left ≢ null → cell t.cells i left ≡ cell t.cells i right → Misplaced t i
  off_root : (LeadsTo t.cells parent (root_of t) i → ⊥) → Misplaced t i

pub record Shows3 (t : Live) (i : ℕ) : Type 0 where
  pub used : Used t i
  pub misplaced : Misplaced t i

-- T4: "a slot whose pair is not below that of the slot next in order". The two stand next to each other in
-- order, and do not rise.
pub record OutOfOrder (t : Live) (tree : Tree) (i j : ℕ) : Type 0 where
  pub next : NextInOrder i j (slots tree)
  pub falls : Less (pair_of t.names i) (pair_of t.names j) → ⊥

pub record Shows4 (t : Live) (tree : Tree) (i : ℕ) : Type 0 where
  pub other : ℕ
  pub out : OutOfOrder t tree i other

-- T5: "the root if it is red; a red slot with a red child".
pub data Shows5 (t : Live) (i : ℕ) : Type 0 where
  red_root : i < slots_of t.names → i ≡ root_of t → cell t.cells i state ≡ code red → Shows5 t i
  red_child : i < slots_of t.names → (σ : Side) → cell t.cells i state ≡ code red
      → cell t.cells (cell t.cells i (toward σ)) state ≡ code red → Shows5 t i

-- A way from the link i down to a null link meets so many black slots.
abbrev pub black_at : List ℕ → ℕ → ℕ
black_at cells i = pick (eqb (cell cells i state) (code black)) 1 0

pub data Down (cells : List ℕ) : ℕ → ℕ → Type 0 where
  end : {i : ℕ} → i ≡ null → Down cells i 0
  by : {i k : ℕ} (σ : Side) → i ≢ null → Down cells (cell cells i (toward σ)) k → Down cells i (black_at cells i + k)

-- "all ways meet equally many black slots"
abbrev pub EquallyMany : List ℕ → ℕ → Type 0
EquallyMany cells i = (j k : ℕ) → Down cells i j → Down cells i k → j ≡ k

-- T6: "a slot below whose left link all ways meet equally many black slots, below whose right link too, and the two numbers differ".
pub record Shows6 (t : Live) (i : ℕ) : Type 0 where
  pub used : Used t i
  pub lefts : EquallyMany t.cells (cell t.cells i left)
  pub rights : EquallyMany t.cells (cell t.cells i right)
  pub differ : (j k : ℕ) → Down t.cells (cell t.cells i left) j → Down t.cells (cell t.cells i right) k → j ≢ k

-- "The two ways shown go from the root by this slot, one by its left link and one by its right, and from there on by left links; each has
-- its last slot, the side of the null link that it ends at (0 left, 1 right), and the black slots met from the root on."
abbrev pub side_word : Side → ℕ
side_word leftward = 0
side_word rightward = 1

-- From the link i down to the slot s, with so many black slots before s.
pub data Descends (cells : List ℕ) (s : ℕ) : ℕ → ℕ → Type 0 where
  at : {i : ℕ} → i ≡ s → Descends cells s i 0
  by : {i k : ℕ} (σ : Side) → i ≢ null → Descends cells s (cell cells i (toward σ)) k → Descends cells s i (black_at cells i + k)

-- From the slot p by its link on the side σ, "and from there on by left links": the last slot, the side of its null link, and the black
-- slots met after p.
pub data OnByLefts (cells : List ℕ) : ℕ → Side → ℕ → Side → ℕ → Type 0 where
  ends : {p : ℕ} {σ : Side} → cell cells p (toward σ) ≡ null → OnByLefts cells p σ p σ 0
  goes : {p last k : ℕ} {σ τ : Side} → cell cells p (toward σ) ≢ null → OnByLefts cells (cell cells p (toward σ)) leftward last τ k
      → OnByLefts cells p σ last τ (black_at cells (cell cells p (toward σ)) + k)

pub record ShownWay (t : Live) (s : ℕ) (σ : Side) (w : WayDown) : Type 0 where
  pub above : ℕ
  pub descends : Descends t.cells s (root_of t) above
  pub below : ℕ
  pub ending : Side
  pub lefts : OnByLefts t.cells s σ w.last ending below
  pub side : w.side ≡ side_word ending
  pub blacks : w.blacks ≡ above + (black_at t.cells s + below)

-- T7: "a used slot that is first and has a prev; or whose prev's next is another; or whose next has another prev; or from which the prevs
-- do not lead to first".
pub data Unchained (t : Live) (i : ℕ) : Type 0 where
  behind_one : i ≡ first_of t → cell t.cells i prev ≢ null → Unchained t i
  prev_elsewhere : cell t.cells i prev ≢ null → cell t.cells (cell t.cells i prev) next ≢ i → Unchained t i
  next_elsewhere : cell t.cells i next ≢ null → cell t.cells (cell t.cells i next) prev ≢ i → Unchained t i
  off_first : (LeadsTo t.cells prev (first_of t) i → ⊥) → Unchained t i

pub record Shows7 (t : Live) (i : ℕ) : Type 0 where
  pub used : Used t i
  pub unchained : Unchained t i

-- T8: "a slot whose size is not its number, a free one whose size is not 0".
pub data Shows8 (t : Live) (tree : Tree) (i : ℕ) : Type 0 where
  missized : Used t i → size_word t.sizes i ≢ size_in i tree → Shows8 t tree i
  sized_free : i < slots_of t.names → cell t.cells i state ≡ free → size_word t.sizes i ≢ 0 → Shows8 t tree i
