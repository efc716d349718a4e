-- What a load leaves in the slices, and what lookup and walk find there.
use Rattle.std.specs.Prelude.{◌≡◌, List, ◌++◌, ℕ, ◌-◌, ◌<◌, length, replicate}
use Rattle.set_rules.specs.Words.{Set, lent_set, tables_of}
use Rattle.set_rules.specs.Lookup.{lookups}
use Rattle.set_rules.specs.Cursor.{Cursor, starts}
use Rattle.set_rules.specs.Walk.{nexts}
use Rattle.set_rules.specs.Walked.{Map, WholeWalk}

-- Words at the front of a slice, and zeros behind them.
abbrev pub padding : List ℕ → List ℕ → List ℕ
padding l m = l ++ replicate (length m - length l) 0

-- "The set's words then stand at the front of the slices; on success the unfilled rest of each is zero".
unfoldable pub padded : Set → Set → Set
padded s t =
    lent_set (padding s.lengths t.lengths) (padding s.bins t.bins) (padding s.heads t.heads)
    (padding s.names t.names)
    (padding s.cells t.cells)

-- "the lent slices are then zeroed, every word of them": the slices u, which were t.
pub record Zeroed (t u : Set) : Type 0 where
  pub lengths : u.lengths ≡ replicate (length t.lengths) 0
  pub bins : u.bins ≡ replicate (length t.bins) 0
  pub heads : u.heads ≡ replicate (length t.heads) 0
  pub names : u.names ≡ replicate (length t.names) 0
  pub cells : u.cells ≡ replicate (length t.cells) 0

-- "lookup is the set's map and a whole walk gives each entry once, both as on the set that was saved": of the set u, where s was saved.
pub record ReadsAs (s u : Set) : Type 0 where
  pub map : Map u
  pub walk : (t : ℕ) → t < tables_of u → WholeWalk u t
  pub looks : (t hash key : ℕ) → lookups u t hash key ≡ lookups s t hash key
  pub begins : (t : ℕ) → starts u t ≡ starts s t
  pub steps : (c : Cursor) → nexts u c ≡ nexts s c
