-- A tally adds to each word what the slots and the bin words add to it.
use mathlib.Core.Path.{◌≡◌, refl, ap, sym, ◌∙◌}
use mathlib.Core.Bool.{Bool, true, false}
use mathlib.Core.List.{List}
use Prim.Native.Nat.{ℕ, zero, suc, ◌+◌, ◌*◌, ◌<◌, ◌≤◌}
use native.Mathlib.Decide.{ℕ_discrete, dec_le}
use native.Mathlib.Omega.{arith}
use lib.ListN.{length, set, length-set}
use lib.Seq.{get_or-set_same, get_or-set_other}
use lib.Dec.{eqb}
use borrow.Author.Tests.{leb-true, leb-false}
use Rattle.slots.specs.Words.{pick, state, free, cell}
use Rattle.tree_rules.specs.Find.{slots_of}
use Rattle.tree_rules.specs.Chain.{tally}
use Rattle.tree_rules.proofs.Counting.{hit}
use Rattle.index_rules.specs.Sound.{used}
use Rattle.upload_rules.proofs.Ranges.{pick_by}
use Rattle.set_rules.specs.Words.{Set, Bin, empty, moved, bad, list, tree, word_bin}
use Rattle.figure_rules.specs.Totals.{total_at}
use Rattle.figure_rules.specs.Added.{is_list, is_tree}
use Rattle.figure_rules.specs.Tally.{with_more, row_word, entry_tallied, slot_looks, slot_tallied, slots_tallied, bin_tallied, bins_tallied}
use Rattle.figure_rules.specs.Tally.{set_tallied}
use Rattle.figure_rules.proofs.Sums.{hit-times, hit_none}

pub more_long : (t : List ℕ) (j v : ℕ) → length (with_more t j v) ≡ length t
unfolding with_more
more_long t j v = length-set t j _

pub more-word : (t : List ℕ) (j v k : ℕ) → j < length t → total_at (with_more t j v) k ≡ total_at t k + v * hit k j
unfolding with_more
more-word t j v k b = go (ℕ_discrete k j)
  where
    go : Dec (k ≡ j) → total_at (set t j (total_at t j + v)) k ≡ total_at t k + v * hit k j
    go (yes e) = rw e (get_or-set_same t j (total_at t j + v) 0 b ∙ ap (λ (x : ℕ). total_at t j + x) (sym (hit-times v {a = j} refl)))
    go (no d) = get_or-set_other t j k (total_at t j + v) 0 d ∙ omega (arith, hit_none v d)

-- An entry of at most 32 looks is in the row of its looks, one of more in the last row; so its row is one of the totals' words.
pub row_low : (k : ℕ) → k ≤ 32 → row_word k ≡ 5 + k
unfolding row_word
row_low k l = pick_by (λ (n : ℕ). n ≡ 5 + k) _ _ _ (λ e. refl) (λ e. absurd (omega (arith, leb-false k 32 e)))

pub row_high : (k : ℕ) → 33 ≤ k → row_word k ≡ 38
unfolding row_word
row_high k l = pick_by (λ (n : ℕ). n ≡ 38) _ _ _ (λ e. absurd (omega (arith, leb-true k 32 e))) (λ e. refl)

pub row_range : (k : ℕ) → (5 ≤ row_word k) × (row_word k < 39)
row_range k = go (dec_le k 32)
  where
    go : Dec (k ≤ 32) → (5 ≤ row_word k) × (row_word k < 39)
    go (yes l) = (omega (arith, row_low k l), omega (arith, row_low k l))
    go (no l) = let h = row_high k (omega arith) in (omega arith, omega arith)

-- What an entry of k looks adds to word j.
abbrev pub entry_share : ℕ → ℕ → ℕ
entry_share k j = hit j 2 + (k * hit j 5 + hit j (row_word k))

entry_long : (t : List ℕ) (k : ℕ) → length (entry_tallied t k) ≡ length t
unfolding entry_tallied
entry_long t k = more_long _ _ _ ∙ more_long _ _ _ ∙ more_long _ _ _

entry-word : (t : List ℕ) (k j : ℕ) → length t ≡ 39 → total_at (entry_tallied t k) j ≡ total_at t j + entry_share k j
unfolding entry_tallied
entry-word t k j e =
    let a = more_long t 2 1 in
    let b = more_long (with_more t 2 1) 5 k in
    let r = (row_range k).1 in
    omega (
      arith,
      more-word t 2 1 j (omega arith),
      more-word (with_more t 2 1) 5 k j (omega arith),
      more-word (with_more (with_more t 2 1) 5 k) (row_word k) 1 j (omega arith),
    )

-- What slot x adds to word j: nothing where it is free.
abbrev pub slot_share : Set → ℕ → ℕ → ℕ
slot_share s j x = used s.cells x * entry_share (slot_looks s x) j

long_either : (b : Bool) (x y : List ℕ) → length (pick b x y) ≡ pick b (length x) (length y)
long_either true x y = refl
long_either false x y = refl

one_either : (b : Bool) (m : ℕ) → pick b m m ≡ m
one_either true m = refl
one_either false m = refl

slot_long_lem : (s : Set) (x : ℕ) (t : List ℕ) → length (slot_tallied s x t) ≡ length t
unfolding slot_tallied
slot_long_lem s x t = simp (long_either, entry_long, one_either) refl

slot_word : (s : Set) (x : ℕ) (t : List ℕ) (j : ℕ) → length t ≡ 39 → total_at (slot_tallied s x t) j ≡ total_at t j + slot_share s j x
unfolding slot_tallied
slot_word s x t j e = go (eqb (cell s.cells x state) free)
  where
    go : (b : Bool)
        → total_at (pick b t (entry_tallied t (slot_looks s x))) j ≡ total_at t j + pick b 0 1 * entry_share (slot_looks s x) j
    go true = omega arith
    go false = omega (arith, entry-word t (slot_looks s x) j e)

pub slots_long : (s : Set) (n : ℕ) (t : List ℕ) → length (slots_tallied s n t) ≡ length t
unfolding slots_tallied
slots_long s zero t = refl
slots_long s (suc n) t = slot_long_lem s n (slots_tallied s n t) ∙ slots_long s n t

pub slots-word : (s : Set) (n : ℕ) (t : List ℕ) (j : ℕ) → length t ≡ 39
    → total_at (slots_tallied s n t) j ≡ total_at t j + tally n (slot_share s j)
unfolding slots_tallied tally
slots-word s zero t j e = omega arith
slots-word s (suc n) t j e = omega (arith, slots-word s n t j e, slot_word s n (slots_tallied s n t) j (slots_long s n t ∙ e))

-- What a bin adds to word j.
abbrev pub bin_share : Bin → ℕ → ℕ
bin_share b j = is_list b * hit j 3 + is_tree b * hit j 4

bin_long : (b : Bin) (t : List ℕ) → length (bin_tallied b t) ≡ length t
unfolding bin_tallied
bin_long empty t = refl
bin_long moved t = refl
bin_long bad t = refl
bin_long (list a) t = more_long t _ _
bin_long (tree h) t = more_long t _ _

bin_word_lem : (b : Bin) (t : List ℕ) (j : ℕ) → length t ≡ 39 → total_at (bin_tallied b t) j ≡ total_at t j + bin_share b j
unfolding bin_tallied
bin_word_lem empty t j e = omega arith
bin_word_lem moved t j e = omega arith
bin_word_lem bad t j e = omega arith
bin_word_lem (list a) t j e = omega (arith, more-word t 3 1 j (omega arith))
bin_word_lem (tree h) t j e = omega (arith, more-word t 4 1 j (omega arith))

pub bins_long : (s : Set) (n : ℕ) (t : List ℕ) → length (bins_tallied s n t) ≡ length t
unfolding bins_tallied
bins_long s zero t = refl
bins_long s (suc n) t = bin_long (word_bin s n) (bins_tallied s n t) ∙ bins_long s n t

pub bins_word : (s : Set) (n : ℕ) (t : List ℕ) (j : ℕ) → length t ≡ 39
    → total_at (bins_tallied s n t) j ≡ total_at t j + tally n (λ p. bin_share (word_bin s p) j)
unfolding bins_tallied tally
bins_word s zero t j e = omega arith
bins_word s (suc n) t j e = omega (arith, bins_word s n t j e, bin_word_lem (word_bin s n) (bins_tallied s n t) j (bins_long s n t ∙ e))

-- What an accepted set adds to word j.
unfoldable pub share : Set → ℕ → ℕ
share s j = hit j 0 + (tally (slots_of s.names) (slot_share s j) + tally (length s.bins) (λ p. bin_share (word_bin s p) j))

pub set_long : (s : Set) (t : List ℕ) → length (set_tallied s t) ≡ length t
unfolding set_tallied
set_long s t = bins_long s _ _ ∙ slots_long s _ _ ∙ more_long t _ _

pub set_word : (s : Set) (t : List ℕ) (j : ℕ) → length t ≡ 39 → total_at (set_tallied s t) j ≡ total_at t j + share s j
unfolding set_tallied share
set_word s t j e =
    let a = more_long t 0 1 in
    let u = slots_tallied s (slots_of s.names) (with_more t 0 1) in
    let b = slots_long s (slots_of s.names) (with_more t 0 1) in
    omega (
      arith,
      more-word t 0 1 j (omega arith),
      slots-word s (slots_of s.names) (with_more t 0 1) j (a ∙ e),
      bins_word s (length s.bins) u j (b ∙ a ∙ e),
    )
