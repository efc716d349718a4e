-- What is read of a bin and its halves is what the model reads, and what is written for a bin is what the model writes.
use mathlib.Core.Path.{◌≡◌, ap, ◌∙◌}
use mathlib.Core.List.{List, []}
use Prim.Native.Nat.{ℕ, suc, ◌+◌, ◌/◌, ◌<◌, ◌≤◌}
use native.Mathlib.Omega.{arith}
use lib.ListN.{length, get_or, set}
use borrow.Author.Tests.{le-leb, lt-leb}
use Rattle.slots.specs.Words.{null}
use Rattle.redblack.specs.Links.{Links, lent_links}
use Rattle.set_rules.specs.Words.{Set, lent_set, bins_before, bin_of, bin_word, bin_at}
use Rattle.move_rules.specs.Passes.{home_count, first_home, threaded, plained, backed, joined_from}
use Rattle.move_rules.specs.Moving.{rewritten, first_in, header_in, half_count, half_first, most_listed, headed_at, heads_freed, bins_moved}
use Rattle.move_rules.specs.Moving.{cells_halved}
use Rattle.move_rules.specs.Moving.{bin_taken, list_head, tree_head, list_laid, tree_grown, tree_heads, tree_laid, half_laid}

module _ (s : Set) (k i n : ℕ) (slots : n ≡ length s.names / 2) where
  next_table : k + 1 ≡ suc k
  next_table = omega arith

  module _ {below first : ℕ} (b : below ≡ get_or s.lengths (k + 1) 0)
      (f : first ≡ first_in s.heads (bin_of n (length s.heads / 3) (bin_word s k i))) where
    pub counts : (j : ℕ) {r : ℕ} → r ≡ home_count n s.names s.cells below j first → r ≡ half_count s k i j
    unfolding half_count
    counts j e = e ∙ rw (f, b, slots, next_table)

    pub finds : (j : ℕ) {r : ℕ} → r ≡ first_home n s.names s.cells below j first → r ≡ half_first s k i j
    unfolding half_first
    finds j e = e ∙ rw (f, b, slots, next_table)

    pub takes : {own : ℕ} {bins heads cells : List ℕ} → own ≡ header_in (bin_of n (length s.heads / 3) (bin_word s k i))
        → bins ≡ set s.bins (bins_before s.lengths k + i) 1
        → heads ≡ headed_at s.heads own null null 0
        → cells ≡ threaded n s.names below i s.cells null null first
        → lent_set s.lengths bins heads s.names cells ≡ bin_taken s k i
    unfolding bins_moved heads_freed cells_halved
    takes {own} {bins} {heads} {cells} o u v w =
        let x : heads ≡ heads_freed s.heads (bin_at s k i) = v ∙ rw (o, slots) in
        let y : cells ≡ cells_halved s k i = w ∙ rw (f, b, slots, next_table) in
        λ t. rewritten s (u t) (x t) (y t)

  pub lays_few : (h first count w : ℕ) {bins cells : List ℕ} → count ≤ most_listed → w ≡ list_head first
      → bins ≡ set s.bins (bins_before s.lengths k + i) w
      → cells ≡ plained n s.cells first
      → lent_set s.lengths bins s.heads s.names cells ≡ half_laid s k i h first count
  unfolding half_laid list_laid
  lays_few h first count w {bins} {cells} few e u v =
      let x : bins ≡ set s.bins (bins_before s.lengths k + i) (list_head first) = u ∙ rw e in
      let y : cells ≡ plained (length s.names / 2) s.cells first = v ∙ rw slots in
      rw (le-leb count most_listed few) (λ t. rewritten s (x t) s.heads (y t))

  pub lays_many : (h first count w root : ℕ) {bins heads cells : List ℕ} → most_listed < count
      → lent_links cells root [] ≡ joined_from n s.names (lent_links (backed n s.cells null first) null []) first
      → heads ≡ headed_at s.heads h root first count
      → w ≡ tree_head h
      → bins ≡ set s.bins (bins_before s.lengths k + i) w
      → lent_set s.lengths bins heads s.names cells ≡ half_laid s k i h first count
  unfolding half_laid tree_laid tree_heads tree_grown
  lays_many h first count w root {bins} {heads} {cells} many g v e u =
      let grown : lent_links cells root [] ≡ tree_grown s first = g ∙ rw slots in
      let x : bins ≡ set s.bins (bins_before s.lengths k + i) (tree_head h) = u ∙ rw e in
      let y : heads ≡ headed_at s.heads h (tree_grown s first).root first count =
      v ∙ ap (λ (r : Links). headed_at s.heads h r.root first count) grown in
      let z : cells ≡ (tree_grown s first).cells = ap (λ (r : Links). r.cells) grown in
      rw (lt-leb count most_listed many) (λ t. rewritten s (x t) (y t) (z t))
