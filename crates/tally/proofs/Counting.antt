-- What the words of the totals come to, one by one: a range asked, a word added to, an entry, a slot, a bin.
use mathlib.Core.Path.{◌≡◌, refl, ap, sym, ◌∙◌}
use mathlib.Core.Logic.{◌≢◌}
use mathlib.Core.Bool.{Bool, true, false}
use mathlib.Core.List.{List, [], ◌∷◌}
use Prim.Native.Nat.{ℕ, zero, suc, ◌+◌, ◌-◌, ◌*◌, ◌<◌, ◌≤◌}
use native.Mathlib.Nat.{mul-le-mul}
use native.Mathlib.Omega.{arith}
use lib.ListN.{length, set}
use lib.Dec.{eqb}
use borrow.Author.Tests.{eq-eqb, ne_eqb, le-leb, lt-leb}
use Rattle.slots.specs.Words.{pick, state, cell, name_of, hash_part, key_part}
use Rattle.tree_rules.specs.Find.{Counted, counted}
use Rattle.set_rules.specs.Words.{Set, Bin, empty, moved, bad, list, tree}
use Rattle.set_rules.specs.Lookup.{lookups_fit}
use Rattle.figure_rules.specs.Totals.{total_at, sets_in, most_added, words_fit}
use Rattle.figure_rules.specs.Tally.{with_more, row_word, entry_tallied, slot_looks, slot_tallied, bin_tallied}
use Rattle.tally.specs.Room.{RoomIn}

-- What one set may add.
pub most_looks : {j : ℕ} → j ≡ 5 → 16777216 ≡ most_added j
most_looks {j} e = rw (eq-eqb j 5 e)

pub most_other : {j : ℕ} → j ≢ 5 → 4096 ≡ most_added j
most_other {j} d = rw (ne_eqb j 5 d)

-- The row.
pub row_own : {k : ℕ} → k ≤ 32 → 5 + k ≡ row_word k
unfolding row_word
row_own {k} l = rw (le-leb k 32 l)

pub row_last : {k : ℕ} → 32 < k → 38 ≡ row_word k
unfolding row_word
row_last {k} l = rw (lt-leb k 32 l)

-- A word added to.
pub more-is : (t : List ℕ) (j v : ℕ) {u : List ℕ} {w : ℕ} → w ≡ total_at t j → u ≡ set t j (w + v) → u ≡ with_more t j v
unfolding with_more
more-is t j v e f = f ∙ ap (λ (x : ℕ). set t j (x + v)) e

-- The looks of slot x, of a search for its own pair.
pub own_looks : (s : Set) (x : ℕ) {hash key : ℕ} {c : Counted} {r : ℕ} → hash ≡ name_of s.names x hash_part
    → key ≡ name_of s.names x key_part
    → c ≡ counted (lookups_fit s 0 hash key) → r ≡ c.looks → r ≡ slot_looks s x
unfolding slot_looks
own_looks s x e f g h = h ∙ ap (λ (a : Counted). a.looks) g ∙ (λ i. length (lookups_fit s 0 (e i) (f i)).looks)

-- What a set may add, for a million sets, is a word of 64 bits.
pub most_word : (j : ℕ) {m sets : ℕ} → m ≡ most_added j → sets ≤ 1000000 → m * sets < 18446744073709551616
most_word j {m} {sets} e l =
    let k : m ≤ 16777216 = rw e (go (eqb j 5)) in
    omega (arith, mul-le-mul k l)
  where
    go : (b : Bool) → pick b 16777216 4096 ≤ 16777216
    go true = omega arith
    go false = omega arith

-- The ranges from the last word down.
word_out_lem : (t : List ℕ) (k : ℕ) → most_added (2 + k) * sets_in t < total_at t (2 + k) → words_fit (suc k) t ≡ false
unfolding words_fit
word_out_lem t k h = simp (lt-leb (total_at t (2 + k)) (most_added (2 + k) * sets_in t) h) refl

word_in : (t : List ℕ) (k : ℕ) → total_at t (2 + k) ≤ most_added (2 + k) * sets_in t → words_fit (suc k) t ≡ words_fit k t
unfolding words_fit
word_in t k h = simp (le-leb (total_at t (2 + k)) (most_added (2 + k) * sets_in t) h) refl

module _ (t : List ℕ) (j : ℕ) {m w sets : ℕ} (l : 0 < j) (e : m ≡ most_added (2 + (j - 1))) (f : w ≡ total_at t (2 + (j - 1)))
    (g : sets ≡ sets_in t) {b : Bool} (i : words_fit j t ≡ b) where
  before : words_fit (suc (j - 1)) t ≡ b
  before = ap (λ (n : ℕ). words_fit n t) (omega arith) ∙ i

  pub range_left : m * sets < w → false ≡ b
  range_left h = sym (word_out_lem t (j - 1) (rw (e, f, g) at h)) ∙ before

  pub range_kept : w ≤ m * sets → words_fit (j - 1) t ≡ b
  range_kept h = sym (word_in t (j - 1) (rw (e, f, g) at h)) ∙ before

pub ranges_all : (t : List ℕ) {j : ℕ} → j ≤ 0 → {b : Bool} → words_fit j t ≡ b → true ≡ b
unfolding words_fit
ranges_all t {j} l i = let z : j ≡ 0 = omega arith in rw z at i

-- Adding to a word leaves no word larger by more.
pub more_most : (t : List ℕ) (j v k : ℕ) → total_at (with_more t j v) k ≤ total_at t k + v
unfolding with_more
more_most [] j v k = omega arith
more_most (x ∷ t) zero v zero = omega arith
more_most (x ∷ t) zero v (suc k) = omega arith
more_most (x ∷ t) (suc j) v zero = omega arith
more_most (x ∷ t) (suc j) v (suc k) = more_most t j v k

pub room_more : (t : List ℕ) {u : List ℕ} (j v m n : ℕ) → RoomIn t m → u ≡ with_more t j v → n + v ≤ m → RoomIn u n
room_more t j v m n r e l k = rw e (omega (arith, r k, more_most t j v k))

-- An entry: three words.
pub entry_made : (t : List ℕ) (k : ℕ) {u v w : List ℕ} {r : ℕ} → u ≡ with_more t 2 1 → v ≡ with_more u 5 k → r ≡ row_word k
    → w ≡ with_more v r 1
    → w ≡ entry_tallied t k
unfolding entry_tallied
entry_made t k e f g h = h ∙ (λ i. with_more (f i) (g i) 1) ∙ ap (λ (x : List ℕ). with_more (with_more x 5 k) (row_word k) 1) e

-- A slot.
module _ (s : Set) (x : ℕ) (t : List ℕ) {w : ℕ} (e : w ≡ cell s.cells x state) where
  pub slot_free : w ≡ 0 → t ≡ slot_tallied s x t
  unfolding slot_tallied
  slot_free f = rw (eq-eqb (cell s.cells x state) 0 (sym e ∙ f))

  pub slot_used : w ≢ 0 → {k : ℕ} {u : List ℕ} → k ≡ slot_looks s x → u ≡ entry_tallied t k → u ≡ slot_tallied s x t
  unfolding slot_tallied
  slot_used d f g = rw (ne_eqb (cell s.cells x state) 0 (λ z. d (e ∙ z))) (g ∙ ap (entry_tallied t) f)

-- A bin.
module _ (t : List ℕ) {b : Bin} where
  pub bin-empty : b ≡ empty → t ≡ bin_tallied b t
  unfolding bin_tallied
  bin-empty e = rw e

  pub bin_moved : b ≡ moved → t ≡ bin_tallied b t
  unfolding bin_tallied
  bin_moved e = rw e

  pub bin_bad : b ≡ bad → t ≡ bin_tallied b t
  unfolding bin_tallied
  bin_bad e = rw e

  pub bin_list : {a : ℕ} {u : List ℕ} → b ≡ list a → u ≡ with_more t 3 1 → u ≡ bin_tallied b t
  unfolding bin_tallied
  bin_list e f = rw e f

  pub bin_tree : {h : ℕ} {u : List ℕ} → b ≡ tree h → u ≡ with_more t 4 1 → u ≡ bin_tallied b t
  unfolding bin_tallied
  bin_tree e f = rw e f
