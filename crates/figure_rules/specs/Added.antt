-- What a set adds to the totals, as sums over its entries and over its tables' bins. Nothing here knows of the model of a tally.
use Rattle.std.specs.Prelude.{◌≡◌, ◌↔◌, List, [], ◌∷◌, ℕ, suc, ◌+◌, ◌*◌, ◌≤◌, length, eqb, leb}
use Rattle.slots.specs.Words.{pick, name_of, hash_part, key_part}
use Rattle.tree_rules.specs.Find.{Search, slots_of}
use Rattle.tree_rules.specs.Tree.{times}
use Rattle.tree_rules.specs.Chain.{tally}
use Rattle.index_rules.specs.Sound.{used}
use Rattle.set_rules.specs.Accepted.{Accepted}
use Rattle.set_rules.specs.Words.{Set, Fit, tables_of, length_at, Bin, empty, moved, bad, list, tree, bin_at}
use Rattle.set_rules.specs.Held.{EntryFrom}
use Rattle.set_rules.specs.Lookup.{lookups}
use Rattle.figure_rules.specs.Totals.{total_at, sets_in, refused_in, entries_in, lists_in, trees_in, looks_in, row_in}

-- The lookup of slot x's own pair: "Each entry's looks are those of a lookup from table 0."
unfoldable pub own_search : Set → ℕ → Search
own_search s x = lookups s 0 (name_of s.names x hash_part) (name_of s.names x key_part)

abbrev pub looks_of : Set → ℕ → ℕ
looks_of s x = length (own_search s x).looks

-- The bin is a list, or a tree, as a number.
abbrev pub is_list : Bin → ℕ
is_list empty = 0
is_list moved = 0
is_list bad = 0
is_list (list a) = 1
is_list (tree h) = 0

abbrev pub is_tree : Bin → ℕ
is_tree empty = 0
is_tree moved = 0
is_tree bad = 0
is_tree (list a) = 0
is_tree (tree h) = 1

-- The sum of a number over the slots that are not free: on an accepted set these are the entries.
abbrev pub over_entries : Set → (ℕ → ℕ) → ℕ
over_entries s f = tally (slots_of s.names) (λ x. used s.cells x * f x)

-- The sum of a number over all bins, table by table.
abbrev pub over_bins : Set → (Bin → ℕ) → ℕ
over_bins s f = tally (tables_of s) (λ k. tally (length_at s k) (λ i. f (bin_at s k i)))

-- A list of the set's entries, each once, and the sum of a number over a list.
pub record EntriesOnce (s : Set) (l : List ℕ) : Type 0 where
  pub once : (x : ℕ) → times x l ≤ 1
  pub entries : (x : ℕ) → (1 ≤ times x l) ↔ EntryFrom s 0 x

unfoldable pub sum_over : List ℕ → (ℕ → ℕ) → ℕ
sum_over [] f = 0
sum_over (x ∷ l) f = f x + sum_over l f

-- The totals u are t and what the set s adds, word by word.
pub record Added (s : Set) (t u : List ℕ) : Type 0 where
  pub long : length u ≡ length t
  pub sets : sets_in u ≡ sets_in t + 1
  pub refused : refused_in u ≡ refused_in t
  pub entries : entries_in u ≡ entries_in t + over_entries s (λ x. 1)
  pub lists : lists_in u ≡ lists_in t + over_bins s is_list
  pub trees : trees_in u ≡ trees_in t + over_bins s is_tree
  pub looks : looks_in u ≡ looks_in t + over_entries s (looks_of s)
  -- "how many entries are found at 1, 2, 3 and up to 32 looks, the rest in one last row"
  pub rows : (i : ℕ) → 1 ≤ i → i ≤ 32 → row_in u i ≡ row_in t i + over_entries s (λ x. pick (eqb (looks_of s x) i) 1 0)
  pub more : row_in u 33 ≡ row_in t 33 + over_entries s (λ x. pick (leb 33 (looks_of s x)) 1 0)

-- "counts as refused and adds to no other row"
pub record RefusedOnly (t u : List ℕ) : Type 0 where
  pub long : length u ≡ length t
  pub refused : refused_in u ≡ refused_in t + 1
  pub others : (j : ℕ) → (j ≡ 1 → ⊥) → total_at u j ≡ total_at t j

-- Of the sets l those in a are accepted, and r are not.
pub data Sifted : List Set → List Set → ℕ → Type 0 where
  no_set_lem : Sifted [] [] 0
  taken : {s : Set} {l a : List Set} {r : ℕ} → Fit s → Accepted s → Sifted l a r → Sifted (s ∷ l) (s ∷ a) r
  left_out : {s : Set} {l a : List Set} {r : ℕ} → (Fit s → Accepted s → ⊥) → Sifted l a r → Sifted (s ∷ l) a (suc r)

-- The sum of a number over sets.
unfoldable pub over_sets : List Set → (Set → ℕ) → ℕ
over_sets [] f = 0
over_sets (s ∷ l) f = f s + over_sets l f

-- The totals over these accepted sets and so many others, word by word.
pub record Week (a : List Set) (r : ℕ) (u : List ℕ) : Type 0 where
  pub long : length u ≡ 39
  pub sets : sets_in u ≡ length a
  pub refused : refused_in u ≡ r
  pub entries : entries_in u ≡ over_sets a (λ s. over_entries s (λ x. 1))
  pub lists : lists_in u ≡ over_sets a (λ s. over_bins s is_list)
  pub trees : trees_in u ≡ over_sets a (λ s. over_bins s is_tree)
  pub looks : looks_in u ≡ over_sets a (λ s. over_entries s (looks_of s))
  pub rows : (i : ℕ) → 1 ≤ i → i ≤ 32 → row_in u i ≡ over_sets a (λ s. over_entries s (λ x. pick (eqb (looks_of s x) i) 1 0))
  pub more : row_in u 33 ≡ over_sets a (λ s. over_entries s (λ x. pick (leb 33 (looks_of s x)) 1 0))

-- The same members in another order.
pub data Reordered {A : Type 0} : List A → List A → Type 0 where
  nothing : Reordered [] []
  keep : {a : A} {l m : List A} → Reordered l m → Reordered (a ∷ l) (a ∷ m)
  swap : {a b : A} {l : List A} → Reordered (a ∷ (b ∷ l)) (b ∷ (a ∷ l))
  then : {l m n : List A} → Reordered l m → Reordered m n → Reordered l n
