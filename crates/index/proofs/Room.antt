-- What the routines leave on fit words.
use mathlib.Core.Path.{◌≡◌}
use mathlib.Core.List.{List}
use Prim.Native.Nat.{ℕ, ◌<◌, ◌≤◌}
use native.Mathlib.Omega.{arith}
use lib.ListN.{length}
use borrow.Author.Tests.{le-leb, ne_eqb}
use Rattle.slots.specs.Words.{null}
use Rattle.index_rules.specs.Live.{Live, count_of}
use Rattle.index_rules.specs.Index.{JournalLine, length_of, appended}
use Rattle.index_rules.specs.Insert.{grown}
use Rattle.index_rules.specs.Remove.{shrunk}
use Rattle.index.specs.Frees.{appended_if, shrunk_if, grown_if}

pub appended-is : (lines : List ℕ) (j : JournalLine) → length_of lines ≤ 1024 → appended_if lines j ≡ appended lines j
appended-is lines j l = rw (le-leb (length_of lines) 1024 l)

module _ (t : Live) (l : length t.names ≤ 8192) where
  pub shrunk-is : (x : ℕ) → shrunk_if t x ≡ shrunk t x
  shrunk-is x = rw (le-leb (length t.names) 8192 l)

  pub grown-is : (x y hash key p : ℕ) → count_of t < null → grown_if t x y hash key p ≡ grown t x y hash key p
  grown-is x y hash key p h = rw (le-leb (length t.names) 8192 l, ne_eqb (count_of t) null (omega arith))
