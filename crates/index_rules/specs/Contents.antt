-- What a sound tree holds: its pairs with their places, in order.
use Rattle.std.specs.Prelude.{◌≡◌, ◌↔◌, Bool, List, [], ◌∷◌, ◌++◌, map, ℕ, length, eqb}
use Rattle.slots.specs.Words.{pick, place, cell, name_of, hash_part, key_part, ◌and◌}
use Rattle.slots.specs.Pairs.{pair, pair_of, before}
use Rattle.tree_rules.specs.Tree.{Tree, slots}
use Rattle.redblack.specs.Holding.{Stands}
use Rattle.index_rules.specs.Live.{Live}
use Rattle.index_rules.specs.Sound.{Sound}

-- A pair with its place.
pub record Entry : Type 0 where
  pub hash : ℕ
  pub key : ℕ
  pub at : ℕ

abbrev pub entry : ℕ → ℕ → ℕ → Entry
entry h k p = record { hash = h; key = k; at = p }

abbrev pub entry_of : Live → ℕ → Entry
entry_of t i = entry (name_of t.names i hash_part) (name_of t.names i key_part) (cell t.cells i place)

-- "the very pairs and places": the list of them, read left, self, right. It strictly rises, so two are equal where they hold the same.
abbrev pub listed : Live → Tree → List Entry
listed t tree = map (entry_of t) (slots tree)

abbrev pub contents : {t : Live} → Sound t → List Entry
contents {t} h = listed t h.tree

-- "listing from first": the entries along the chain, in order.
abbrev pub listing : {t : Live} → Sound t → List Entry
listing {t} h = map (entry_of t) h.chain

-- The tree has the pair with the place: some slot of it has both.
pub record HasAt (t : Live) (tree : Tree) (hash key p : ℕ) : Type 0 where
  pub slot : ℕ
  pub stands : Stands slot tree
  pub named : pair_of t.names slot ≡ pair hash key
  pub placed : cell t.cells slot place ≡ p

-- Two sound trees hold the same: each has every pair, with its place, that the other has, in whatever slots and whatever shape.
abbrev pub HoldSame : {t u : Live} → Sound t → Sound u → Type 0
HoldSame {t} {u} h g = (hash key p : ℕ) → HasAt t h.tree hash key p ↔ HasAt u g.tree hash key p

-- The list with one entry more, in its place in the order.
unfoldable pub put : Entry → List Entry → List Entry
put e [] = e ∷ []
put e (x ∷ l) = pick (before e.hash e.key x.hash x.key) (e ∷ (x ∷ l)) (x ∷ put e l)

-- The list without the entry of a pair.
abbrev pub is_pair : ℕ → ℕ → Entry → Bool
is_pair hash key x = eqb x.hash hash and eqb x.key key

unfoldable pub without : ℕ → ℕ → List Entry → List Entry
without hash key [] = []
without hash key (x ∷ l) = pick (is_pair hash key x) l (x ∷ without hash key l)

-- The list with one entry more, right behind the entry of a pair.
unfoldable pub behind : ℕ → ℕ → Entry → List Entry → List Entry
behind hash key e [] = []
behind hash key e (x ∷ l) = pick (is_pair hash key x) (x ∷ (e ∷ l)) (x ∷ behind hash key e l)

-- The list with the place p for a pair, where it stands.
unfoldable pub with_place : ℕ → ℕ → ℕ → List Entry → List Entry
with_place hash key p [] = []
with_place hash key p (x ∷ l) = pick (is_pair hash key x) (entry hash key p ∷ l) (x ∷ with_place hash key p l)

-- The entry stands in the list; some entry of the list has the pair, and none has.
pub data In (e : Entry) : List Entry → Type 0 where
  first : {l : List Entry} → In e (e ∷ l)
  later : {x : Entry} {l : List Entry} → In e l → In e (x ∷ l)

abbrev pub HasPair : ℕ → ℕ → List Entry → Type 0
HasPair hash key l = (p : ℕ) × In (entry hash key p) l

pub data Lacks (hash key : ℕ) : List Entry → Type 0 where
  empty : Lacks hash key []
  other : {x : Entry} {l : List Entry} → ((x.hash ≡ hash) → (x.key ≡ key) → ⊥) → Lacks hash key l → Lacks hash key (x ∷ l)

-- The pair's entry stands at position k of the list: k others stand before it.
pub record StandsAt (k hash key : ℕ) (l : List Entry) : Type 0 where
  pub lower : List Entry
  pub upper : List Entry
  pub at : ℕ
  pub is : l ≡ lower ++ (entry hash key at ∷ upper)
  pub before : length lower ≡ k
