-- What the routines of a tree leave alone: the words that are neither colour nor link, and the slots that stand nowhere in the tree.
use Rattle.std.specs.Prelude.{◌≡◌, ◌≢◌, true, false, ℕ, length, eqb, ltb}
use Rattle.slots.specs.Words.{null, fields, state, parent, left, right}
use Rattle.redblack.specs.Links.{Links, read}
use Rattle.redblack.specs.Sided.{Sided, count}

-- The field f is place, prev or next: neither the state nor a link.
pub record Aside (f : ℕ) : Type 0 where
  pub small : ltb f fields ≡ true
  pub not_state : eqb state f ≡ false
  pub not_parent : eqb parent f ≡ false
  pub not_left : eqb left f ≡ false
  pub not_right : eqb right f ≡ false

-- From s to t no cell came or went, and the field f of every slot is as it was.
pub record Keeps (f : ℕ) (s t : Links) : Type 0 where
  pub long : length t.cells ≡ length s.cells
  pub same : (i : ℕ) → read t i f ≡ read s i f

-- From s to t all words of the slot i are as they were.
pub record Agree (s t : Links) (i : ℕ) : Type 0 where
  pub same : (f : ℕ) → ltb f fields ≡ true → read t i f ≡ read s i f

-- The slot j is no slot of the tree t.
pub record Absent (j : ℕ) (t : Sided) : Type 0 where
  pub solid : j ≢ null
  pub nowhere : count j t ≡ 0
