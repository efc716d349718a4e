-- The entries of a bin in listing order: exactly the slots that the bin holds, each once, no two with one pair. The two halves part them.
use mathlib.Core.Path.{◌≡◌, refl, ap, sym, subst, ◌∙◌}
use mathlib.Core.Logic.{◌≢◌, ◌⊎◌, inl, inr, ◌↔◌}
use mathlib.Core.Bool.{Bool, true, false}
use mathlib.Core.List.{List, [], ◌∷◌}
use Prim.Native.Nat.{ℕ, suc, ◌+◌, ◌%◌, ◌<◌, ◌≤◌}
use native.Mathlib.Decide.{ℕ_discrete}
use native.Mathlib.Omega.{arith}
use lib.ListN.{length}
use lib.Dec.{eqb}
use borrow.Author.Tests.{eqb-true, eqb-false, eq-eqb, ne_eqb}
use Rattle.slots.specs.Words.{pick, name_of, hash_part}
use Rattle.tree_rules.specs.Find.{slots_of}
use Rattle.tree_rules.specs.Tree.{times}
use Rattle.tree_rules.proofs.Counting.{times_head, times_else, times_rest, times_cases, length_most}
use Rattle.tree_rules.proofs.Chaining.{chain_once, chain_most}
use Rattle.set_rules.specs.Words.{Set, Fit, tables_of, length_at, first_at, Bin, empty, moved, bad, list, tree, bin_at, bini}
use Rattle.set_rules.specs.Accepted.{BinThere, Listed, HeldIn, listed, EntryOf, Accepted}
use Rattle.set_rules.specs.Accepting.{is_home}
use Rattle.set_rules.specs.Held.{EntryFrom}
use Rattle.set_rules.proofs.Fit.{small, bini_up, bini_less, halves, length_least}
use Rattle.set_rules.proofs.Lists.{apart_once, listed_inside}
use Rattle.set_rules.proofs.Gathering.{holds_unique, not-empty, not_moved}
use Rattle.set_rules.proofs.Mapping.{map_claims}
use Rattle.move_rules.specs.Moving.{first_in, half_count, half_first}
use Rattle.move_rules.proofs.Rows.{head_of, followed, homed, away, followed_is, count-is, first_is}
use Rattle.move_rules.proofs.Building.{Distinct}
use Rattle.move_rules.proofs.Framing.{chain_listed}

-- The entries of a bin in listing order, and the two halves of those of bin i of table k.
abbrev pub entries_in : Set → Bin → List ℕ
entries_in s b = followed (slots_of s.names) s.cells (first_in s.heads b)

unfoldable pub low_half : Set → ℕ → ℕ → List ℕ
low_half s k i = homed s.names (length_at s (suc k)) i (entries_in s (bin_at s k i))

unfoldable pub high_half : Set → ℕ → ℕ → List ℕ
high_half s k i = homed s.names (length_at s (suc k)) (i + length_at s k) (entries_in s (bin_at s k i))

-- Of these slots those at home in bin i.
module _ (names : List ℕ) (len i : ℕ) where
  pub homed_times : (l : List ℕ) (x : ℕ) → bini len (name_of names x hash_part) ≡ i → times x (homed names len i l) ≡ times x l
  unfolding homed times is_home
  homed_times [] x h = refl
  homed_times (y ∷ l) x h = go (eqb (bini len (name_of names y hash_part)) i) refl (homed_times l x h)
    where
      go : (b : Bool) → eqb (bini len (name_of names y hash_part)) i ≡ b → times x (homed names len i l) ≡ times x l
          → times x (pick b (y ∷ homed names len i l) (homed names len i l)) ≡ times x (y ∷ l)
      go true e rest = omega arith
      go false e rest =
          let d : x ≢ y = λ z. eqb-false _ _ e (ap (λ (j : ℕ). bini len (name_of names j hash_part)) (sym z) ∙ h) in
          rest ∙ sym (times_else x y l d)

  pub homed_home : (l : List ℕ) (x : ℕ) → 1 ≤ times x (homed names len i l) → bini len (name_of names x hash_part) ≡ i
  unfolding homed times is_home
  homed_home [] x m = absurd (omega arith)
  homed_home (y ∷ l) x m = go (eqb (bini len (name_of names y hash_part)) i) refl m (λ z. homed_home l x z)
    where
      go : (b : Bool) → eqb (bini len (name_of names y hash_part)) i ≡ b
          → 1 ≤ times x (pick b (y ∷ homed names len i l) (homed names len i l))
          → (1 ≤ times x (homed names len i l) → bini len (name_of names x hash_part) ≡ i) → bini len (name_of names x hash_part) ≡ i
      go true e m again =
          times_cases x y (homed names len i l) m (λ z. ap (λ (j : ℕ). bini len (name_of names j hash_part)) z ∙ eqb-true _ _ e) again
      go false e m again = again m

  pub homed_less : (l : List ℕ) (x : ℕ) → times x (homed names len i l) ≤ times x l
  homed_less l x = go (ℕ_discrete (bini len (name_of names x hash_part)) i)
    where
      go : Dec (bini len (name_of names x hash_part) ≡ i) → times x (homed names len i l) ≤ times x l
      go (yes e) = omega (arith, homed_times l x e)
      go (no d) = none (ℕ_discrete (times x (homed names len i l)) 0)
        where
          none : Dec (times x (homed names len i l) ≡ 0) → times x (homed names len i l) ≤ times x l
          none (yes z) = omega arith
          none (no z) = absurd (d (homed_home l x (omega arith)))

  pub homed_distinct : (l : List ℕ) → Distinct names l → Distinct names (homed names len i l)
  homed_distinct l d =
      record {
        once = λ k. omega (arith, d.once k, homed_less l k);
        pairs = λ x y p q. d.pairs x y (omega (arith, homed_less l x)) (omega (arith, homed_less l y));
      }

-- Where each slot is at home in one of two bins, those that are not in the first are in the second.
pub away_is : (names : List ℕ) (len i j : ℕ) → i ≢ j → (l : List ℕ)
    → ((x : ℕ) → 1 ≤ times x l → (bini len (name_of names x hash_part) ≡ i) ⊎ (bini len (name_of names x hash_part) ≡ j))
    → away names len i l ≡ homed names len j l
unfolding away homed is_home
away_is names len i j d [] h = refl
away_is names len i j d (x ∷ l) h =
    go (h x (omega (arith, times_head x l))) (away_is names len i j d l (λ y z. h y (omega (arith, times_rest y x l))))
  where
    go : (bini len (name_of names x hash_part) ≡ i) ⊎ (bini len (name_of names x hash_part) ≡ j) → away names len i l ≡ homed names len j l
        → pick (eqb (bini len (name_of names x hash_part)) i) (away names len i l) (x ∷ away names len i l)
        ≡ pick (eqb (bini len (name_of names x hash_part)) j) (x ∷ homed names len j l) (homed names len j l)
    go (inl e) rest = rw (eq-eqb _ i e, ne_eqb _ j (λ f. d (sym e ∙ f))) rest
    go (inr e) rest = rw (ne_eqb _ i (λ f. d (sym f ∙ e)), eq-eqb _ j e) (ap (λ (v : List ℕ). x ∷ v) rest)

sides_length : (names : List ℕ) (len i : ℕ) (l : List ℕ) → length (homed names len i l) + length (away names len i l) ≡ length l
unfolding homed away
sides_length names len i [] = refl
sides_length names len i (x ∷ l) = go (is_home names len i x) (sides_length names len i l)
  where
    go : (b : Bool) → length (homed names len i l) + length (away names len i l) ≡ length l
        → length (pick b (x ∷ homed names len i l) (homed names len i l)) + length (pick b (away names len i l) (x ∷ away names len i l))
        ≡ length (x ∷ l)
    go true e = omega arith
    go false e = omega arith

nil_once : (x : ℕ) → times x [] ≤ 1
unfolding times
nil_once x = omega arith

nil_none : (x : ℕ) → 1 ≤ times x [] → ⊥
unfolding times
nil_none x z = omega arith

-- On an accepted set.
module _ {s : Set} (fit : Fit s) (acc : Accepted s) {k i : ℕ} (p : BinThere s k i) where
  -- The slots of the bin from its first by next.
  record Listing (b : Bin) : Type 0 where
    visits : List ℕ
    strung : Listed (slots_of s.names) s.cells (first_in s.heads b) visits
    most : length visits ≤ slots_of s.names
    once : (x : ℕ) → times x visits ≤ 1
    own : (x : ℕ) → (1 ≤ times x visits) ↔ EntryOf s k i x

  listing : (b : Bin) → bin_at s k i ≡ b → Listing b
  listing empty e =
      record {
        visits = [];
        strung = Listed.ended refl;
        most = omega arith;
        once = nil_once;
        own = λ x. (λ z. absurd (nil_none x z), λ f. absurd (not-empty f.holds e));
      }
  listing moved e =
      record {
        visits = [];
        strung = Listed.ended refl;
        most = omega arith;
        once = nil_once;
        own = λ x. (λ z. absurd (nil_none x z), λ f. absurd (not_moved f.holds e));
      }
  listing bad e = absurd (acc.none_bad k i p e)
  listing (list a) e =
      let g = acc.lists k i a p e in
      let o = apart_once s (small fit) g.apart in
      record {
        visits = g.visits;
        strung = g.ends;
        most = length_most (slots_of s.names) g.visits (listed_inside s (small fit) g.ends) o;
        once = o;
        own = λ x. (
          λ z. record {
            there = p;
            held = g.visits;
            holds = subst (λ (c : Bin). HeldIn s c g.visits) (sym e) (listed g.ends);
            member = z;
          },
          λ f. subst (λ (v : List ℕ). 1 ≤ times x v)
              (holds_unique fit (subst (λ (c : Bin). HeldIn s c f.held) e f.holds) (listed g.ends)) f.member,
        );
      }
  listing (tree h) e =
      let g = acc.chains k i h p e in
      record {
        visits = g.visits;
        strung = chain_listed g.linked;
        most = chain_most (slots_of s.names) s.cells (small fit) (first_at s h) g.linked;
        once = chain_once (slots_of s.names) s.cells (small fit) (first_at s h) g.linked;
        own = g.own;
      }

  its : Listing (bin_at s k i)
  its = listing (bin_at s k i) refl

  entries_are : entries_in s (bin_at s k i) ≡ its.visits
  entries_are = followed_is (slots_of s.names) (small fit) its.strung its.most

  pub entries_strung : Listed (slots_of s.names) s.cells (first_in s.heads (bin_at s k i)) (entries_in s (bin_at s k i))
  entries_strung = rw entries_are its.strung

  pub entries_most : length (entries_in s (bin_at s k i)) ≤ slots_of s.names
  entries_most = rw entries_are its.most

  pub entries_own : (x : ℕ) → (1 ≤ times x (entries_in s (bin_at s k i))) ↔ EntryOf s k i x
  entries_own x = rw entries_are (its.own x)

  pub entries_distinct : Distinct s.names (entries_in s (bin_at s k i))
  entries_distinct =
      record {
        once = λ x. rw entries_are (its.once x);
        pairs = λ x y u v e. (map_claims s fit acc).apart x y (from x u) (from y v) e;
      }
    where
      from : (x : ℕ) → 1 ≤ times x (entries_in s (bin_at s k i)) → EntryFrom s 0 x
      from x z = record { table = k; index = i; later = omega arith; entry = (entries_own x).0 z }

  -- What the model counts and finds first of each half.
  pub low_count : half_count s k i i ≡ length (low_half s k i)
  unfolding half_count low_half
  low_count = count-is s.names (length_at s (suc k)) i (slots_of s.names) (small fit) entries_strung entries_most

  pub low_first : half_first s k i i ≡ head_of (low_half s k i)
  unfolding half_first low_half
  low_first = first_is s.names (length_at s (suc k)) i (slots_of s.names) (small fit) entries_strung entries_most

  pub high_count : half_count s k i (i + length_at s k) ≡ length (high_half s k i)
  unfolding half_count high_half
  high_count = count-is s.names (length_at s (suc k)) (i + length_at s k) (slots_of s.names) (small fit) entries_strung entries_most

  pub high_first : half_first s k i (i + length_at s k) ≡ head_of (high_half s k i)
  unfolding half_first high_half
  high_first = first_is s.names (length_at s (suc k)) (i + length_at s k) (slots_of s.names) (small fit) entries_strung entries_most

  -- Where the hash of an entry leads in the next table.
  module _ (lower : suc k < tables_of s) where
    pub parted : (x : ℕ) → EntryOf s k i x
        → (bini (length_at s (suc k)) (name_of s.names x hash_part) ≡ i)
        ⊎ (bini (length_at s (suc k)) (name_of s.names x hash_part) ≡ i + length_at s k)
    parted x e =
        let hash = name_of s.names x hash_part in
        let j = bini (length_at s (suc k)) hash in
        let u : j % length_at s k ≡ i = bini_up fit k lower hash ∙ acc.home k i x e in
        go (halves j (length_at s k) (omega (arith, bini_less fit (suc k) lower hash, fit.twice k lower))) u
      where
        go : {j : ℕ} → (j ≡ j % length_at s k) ⊎ (j ≡ j % length_at s k + length_at s k) → j % length_at s k ≡ i
            → (j ≡ i) ⊎ (j ≡ i + length_at s k)
        go (inl z) u = inl (z ∙ u)
        go (inr z) u = inr (z ∙ ap (λ (y : ℕ). y + length_at s k) u)

    pub away_high : away s.names (length_at s (suc k)) i (entries_in s (bin_at s k i)) ≡ high_half s k i
    unfolding high_half
    away_high =
        away_is s.names (length_at s (suc k)) i (i + length_at s k) (omega (arith, length_least fit k (omega arith)))
        (entries_in s (bin_at s k i)) (λ x z. parted x ((entries_own x).0 z))

    -- So the halves have as many as the bin.
    pub both_count : length (low_half s k i) + length (high_half s k i) ≡ length (entries_in s (bin_at s k i))
    unfolding low_half
    both_count =
        rw (← away_high) (sides_length s.names (length_at s (suc k)) i (entries_in s (bin_at s k i)))
