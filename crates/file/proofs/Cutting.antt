-- What the counts cut out of the slices, slice by slice.
use mathlib.Core.Path.{◌≡◌}
use mathlib.Core.List.{List}
use Prim.Native.Nat.{ℕ, ◌*◌}
use lib.ListN.{take}
use Rattle.set_rules.specs.Words.{Set, lent_set}
use Rattle.file_rules.specs.Loader.{Loader, count_taken}
use Rattle.file_rules.specs.Loading.{cut_out}

pub cut_is : (r : Loader) (t : Set) {l b h n c : List ℕ} → l ≡ take (count_taken r 0) t.lengths → b ≡ take (count_taken r 1) t.bins
    → h ≡ take (3 * count_taken r 2) t.heads → n ≡ take (2 * count_taken r 3) t.names → c ≡ take (7 * count_taken r 3) t.cells
    → lent_set l b h n c ≡ cut_out r t
unfolding cut_out
cut_is r t d e f g i = rw (d, e, f, g, i)
