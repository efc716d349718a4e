-- An entry's hash leads to the table and the bin that hold it: the bins above are Moved, and its own is not.
use mathlib.Core.Path.{◌≡◌, refl, ◌∙◌}
use mathlib.Core.Logic.{◌≢◌}
use mathlib.Core.List.{List}
use Prim.Native.Nat.{ℕ, zero, suc, ◌+◌, ◌-◌, ◌<◌, ◌≤◌}
use native.Mathlib.Omega.{arith}
use borrow.Author.Tests.{eq-eqb, ne_eqb}
use Rattle.slots.specs.Words.{name_of, hash_part, key_part}
use Rattle.tree_rules.specs.Find.{slots_of}
use Rattle.set_rules.specs.Words.{Set, Fit, tables_of, length_at, headers_in, bin_word, Bin, moved, bin_at, bini}
use Rattle.set_rules.specs.Accepted.{Accepted, HeldIn, listed, grown, EntryOf}
use Rattle.set_rules.specs.Lookup.{Reaches, start, down}
use Rattle.set_rules.specs.Held.{EntryFrom}
use Rattle.set_rules.proofs.Claims as set-rules
use Rattle.listing_rules.specs.Lines.{home_table}

module _ (s : Set) (hash : ℕ) where
  abbrev home_word : ℕ → ℕ
  home_word k = bin_word s k (bini (length_at s k) hash)

  is_moved_lem : (k : ℕ) → bin_at s k (bini (length_at s k) hash) ≡ moved → home_word k ≡ 1
  is_moved_lem k e = ((set-rules.claims).judged.ranges (slots_of s.names) (headers_in s) (home_word k)).moves.0 e

  moved_is : (k : ℕ) → home_word k ≡ 1 → bin_at s k (bini (length_at s k) hash) ≡ moved
  moved_is k e = ((set-rules.claims).judged.ranges (slots_of s.names) (headers_in s) (home_word k)).moves.1 e

  later : {t k : ℕ} → Reaches s t hash k → t ≤ k
  later start = omega arith
  later (down c m l) = omega (arith, later c)

  -- Down the Moved bins.
  leads : {t k : ℕ} → Reaches s t hash k → (behind m : ℕ) → k + behind ≡ t + m → home_table m s t hash ≡ home_table behind s k hash
  unfolding home_table
  leads {t} start behind m e = let z : m ≡ behind = omega arith in rw z
  leads {t} (down {k} c m l) behind n e =
      leads c (suc behind) n (omega arith) ∙ rw (eq-eqb (home_word k) 1 (is_moved_lem k m))

  stops : (k behind : ℕ) → home_word k ≢ 1 → home_table behind s k hash ≡ k
  unfolding home_table
  stops k zero d = refl
  stops k (suc behind) d = rw (ne_eqb (home_word k) 1 d)

not_moved : {s : Set} {b : Bin} {l : List ℕ} → HeldIn s b l → b ≢ moved
not_moved (listed r) e = let y : ◌≡◌ {A = ℕ} 0 1 = cc in omega arith
not_moved (grown r) e = let y : ◌≡◌ {A = ℕ} 0 1 = cc in omega arith

module _ (s : Set) (fit : Fit s) (acc : Accepted s) where
  pub at_home : (x : ℕ) → EntryFrom s 0 x
      → (let hash = name_of s.names x hash_part in
      let k = home_table 7 s 0 hash in EntryOf s k (bini (length_at s k) hash) x)
  at_home x f =
      let hash = name_of s.names x hash_part in
      let key = name_of s.names x key_part in
      let some : 0 < tables_of s = omega (arith, fit.least) in
      let answered = (((set-rules.claims).walked.mapping_accepted s fit acc).at 0 hash key x some).1 (f, refl) in
      let r = (((set-rules.claims).walked.looking_accepted s fit acc 0 hash key some).at x).0 answered in
      let k = r.table in
      let d : home_word s hash k ≢ 1 = λ e. not_moved r.entry.holds (moved_is s hash k e) in
      let is : home_table 7 s 0 hash ≡ k =
      leads s hash r.comes (7 - k) 7 (omega (arith, r.entry.there.table, fit.most)) ∙ stops s hash k (7 - k) d in
      rw is r.entry
