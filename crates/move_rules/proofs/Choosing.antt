-- Each large half gets the lowest header that it may have, the low half first. A header that no bin names has no root, and the bin's own is
-- given back, so that the model reads the headers alone.
use mathlib.Core.Path.{◌≡◌, refl, ap, sym, ◌∙◌}
use mathlib.Core.Logic.{◌≢◌, ◌⊎◌, inl, inr}
use mathlib.Core.Bool.{Bool, true, false, false≢true}
use mathlib.Core.List.{List}
use Prim.Native.Nat.{ℕ, zero, suc, ◌+◌, ◌-◌, ◌*◌, ◌<◌, ◌≤◌}
use native.Mathlib.Decide.{ℕ_discrete, dec_le}
use native.Mathlib.Omega.{arith}
use lib.ListN.{length, get_or}
use lib.Dec.{leb}
use borrow.Author.Tests.{eqb-true, eqb-false, eq-eqb, ne_eqb, leb-false, le-leb, lt-leb}
use Rattle.slots.specs.Words.{null}
use Rattle.set_rules.specs.Words.{Set, Fit, headers_in, Bin, empty, moved, bad, list, tree, bin_at}
use Rattle.set_rules.specs.Accepted.{BinThere, Accepted}
use Rattle.set_rules.proofs.Fit.{headers_are}
use Rattle.move_rules.specs.Moving.{header_in, high_index, half_count, most_listed, spare_from, header_for, low_header, high_header, lacks}
use Rattle.move_rules.specs.Moved.{FreeHeader, RunOut, for_one, for_two}
use Rattle.move_rules.proofs.Taking.{tree_or_not}
use Rattle.move_rules.proofs.Halves.{low_half, high_half, low_count, high_count}

-- The header h has no root, or is the bin's own.
abbrev Spare : List ℕ → ℕ → ℕ → Type 0
Spare heads own h = (h ≡ own) ⊎ (get_or heads (3 * h) null ≡ null)

-- Of m headers from h on, g is the lowest of this kind.
record Lowest (P : ℕ → Type 0) (m h g : ℕ) : Type 0 where
  least : h ≤ g
  most : g < h + m
  is : P g
  lower : (j : ℕ) → h ≤ j → j < g → P j → ⊥

module _ (heads : List ℕ) (own : ℕ) where
  spare_or_not : {A : Type 0} (h : ℕ) → (Spare heads own h → A) → ((Spare heads own h → ⊥) → A) → A
  spare_or_not {A} h this that = go (ℕ_discrete h own) (ℕ_discrete (get_or heads (3 * h) null) null)
    where
      go : Dec (h ≡ own) → Dec (get_or heads (3 * h) null ≡ null) → A
      go (yes e) f = this (inl e)
      go (no d) (yes f) = this (inr f)
      go (no d) (no f) = that none
        where
          none : Spare heads own h → ⊥
          none (inl z) = d z
          none (inr z) = f z

  spare_here : (m h : ℕ) → Spare heads own h → spare_from (suc m) heads own h ≡ h
  unfolding spare_from
  spare_here m h (inl e) = rw (eq-eqb h own e)
  spare_here m h (inr e) = go (ℕ_discrete h own)
    where
      go : Dec (h ≡ own) → spare_from (suc m) heads own h ≡ h
      go (yes z) = rw (eq-eqb h own z)
      go (no z) = rw (ne_eqb h own z, eq-eqb _ null e)

  spare_on : (m h : ℕ) → (Spare heads own h → ⊥) → spare_from (suc m) heads own h ≡ spare_from m heads own (suc h)
  unfolding spare_from
  spare_on m h n = rw (ne_eqb h own (λ e. n (inl e)), ne_eqb (get_or heads (3 * h) null) null (λ e. n (inr e)))

  spare_found : (m h : ℕ) → spare_from m heads own h ≢ null → Lowest (Spare heads own) m h (spare_from m heads own h)
  unfolding spare_from
  spare_found zero h d = absurd (d refl)
  spare_found (suc m) h d =
      spare_or_not h
      (λ y. rw (spare_here m h y) (record { least = omega arith; most = omega arith; is = y; lower = λ j a b. absurd (omega arith) }))
      (λ n. rw (spare_on m h n) (later n (spare_found m (suc h) (λ e. d (spare_on m h n ∙ e)))))
    where
      later : {g : ℕ} → (Spare heads own h → ⊥) → Lowest (Spare heads own) m (suc h) g → Lowest (Spare heads own) (suc m) h g
      later {g} n r =
          record {
            least = omega (arith, r.least);
            most = omega (arith, r.most);
            is = r.is;
            lower = λ j a b. at j a b (ℕ_discrete j h);
          }
        where
          at : (j : ℕ) → h ≤ j → j < g → Dec (j ≡ h) → Spare heads own j → ⊥
          at j a b (yes z) = rw z n
          at j a b (no z) = r.lower j (omega arith) b

  spare_none : (m h : ℕ) → h + m ≤ null → spare_from m heads own h ≡ null → (j : ℕ) → h ≤ j → j < h + m → Spare heads own j → ⊥
  spare_none zero h b e j x y = absurd (omega arith)
  spare_none (suc m) h b e j x y =
      spare_or_not h (λ z. absurd (here (spare_here m h z)))
      (λ n. at n (ℕ_discrete j h) (spare_none m (suc h) (omega arith) (sym (spare_on m h n) ∙ e) j))
    where
      here : spare_from (suc m) heads own h ≡ h → ⊥
      here z = omega (arith, e)

      at : (Spare heads own h → ⊥) → Dec (j ≡ h) → (suc h ≤ j → j < suc h + m → Spare heads own j → ⊥) → Spare heads own j → ⊥
      at n (yes z) rest = rw z n
      at n (no z) rest = rest (omega arith) (omega arith)

-- A half of so many entries that lacks no header, or lacks one.
module _ {s : Set} (fit : Fit s) (own h count : ℕ) where
  for_no : lacks count (header_for s own h count) ≡ false → most_listed < count
      → Lowest (Spare s.heads own) (headers_in s - h) h (header_for s own h count)
  unfolding lacks header_for
  for_no e big =
      let z = lt-leb count most_listed big in
      rw z (spare_found s.heads own (headers_in s - h) h (eqb-false _ _ (rw z at e)))

  for_yes : lacks count (header_for s own h count) ≡ true
      → (most_listed < count) × ((j : ℕ) → h ≤ j → j < headers_in s → Spare s.heads own j → ⊥)
  unfolding lacks header_for
  for_yes e = go (leb count most_listed) refl
    where
      go : (b : Bool) → leb count most_listed ≡ b → (most_listed < count) × ((j : ℕ) → h ≤ j → j < headers_in s → Spare s.heads own j → ⊥)
      go true z = absurd (false≢true (rw z at e))
      go false z = (
        leb-false count most_listed z,
        λ j x y. spare_none s.heads own (headers_in s - h) h (omega (arith, headers_are fit, fit.headers_most))
            (eqb-true _ _ (rw z at e)) j x (omega arith),
      )

-- A bin's header names it.
header_names : (b : Bin) {h : ℕ} → h < null → h ≡ header_in b → b ≡ tree h
header_names empty w e = absurd (omega arith)
header_names moved w e = absurd (omega arith)
header_names bad w e = absurd (omega arith)
header_names (list a) w e = absurd (omega arith)
header_names (tree g) w e = ap tree (sym e)

module _ {s : Set} (fit : Fit s) (acc : Accepted s) {k i : ℕ} (p : BinThere s k i) where
  abbrev own : ℕ
  own = header_in (bin_at s k i)

  spare_free : (h : ℕ) → h < headers_in s → Spare s.heads own h → FreeHeader s k i h
  spare_free h w (inl e) =
      record {
        inside = w;
        unnamed = λ m j q f. acc.heads.trees m j k i h q p f
            (header_names (bin_at s k i) (omega (arith, headers_are fit, fit.headers_most)) e);
      }
  spare_free h w (inr e) = record { inside = w; unnamed = λ m j q f. absurd (acc.headers.roots m j h q f e) }

  free_spare : (h : ℕ) → FreeHeader s k i h → Spare s.heads own h
  free_spare h f = go (tree_or_not (bin_at s k i) h)
    where
      go : Dec (bin_at s k i ≡ tree h) → Spare s.heads own h
      go (yes e) = inl (sym (ap header_in e))
      go (no d) = inr (acc.headers.other_root h f.inside (λ m j q e. d (at (f.unnamed m j q e) e)))
        where
          at : {m j : ℕ} → (m ≡ k) × (j ≡ i) → bin_at s m j ≡ tree h → bin_at s k i ≡ tree h
          at {m} {j} z e =
              sym (ap (λ (y : ℕ). bin_at s y j) z.0 ∙ ap (λ (y : ℕ). bin_at s k y) z.1) ∙ e

  abbrev low : List ℕ
  low = low_half s k i

  abbrev high : List ℕ
  high = high_half s k i

  abbrev g : ℕ
  g = low_header s k i

  abbrev h : ℕ
  h = high_header s k i

  abbrev LowLacks : Bool → Type 0
  LowLacks b = lacks (half_count s k i i) g ≡ b

  abbrev HighLacks : Bool → Type 0
  HighLacks b = lacks (half_count s k i (high_index s k i)) h ≡ b

  low_big : most_listed < length low → most_listed < half_count s k i i
  low_big b = omega (arith, low_count fit acc p)

  high_big : most_listed < length high → most_listed < half_count s k i (high_index s k i)
  high_big b = omega (arith, high_count fit acc p)

  -- The low half's header.
  pub low_chosen : LowLacks false → most_listed < length low → FreeHeader s k i g × ((j : ℕ) → j < g → FreeHeader s k i j → ⊥)
  unfolding low_header
  low_chosen a big =
      let r = for_no fit own 0 (half_count s k i i) a (low_big big) in (
        spare_free _ (omega (arith, r.most)) r.is,
        λ j b f. r.lower j (omega arith) b (free_spare j f),
      )

  pub low_short : LowLacks true → RunOut s k i low high
  unfolding low_header
  low_short a =
      let r = for_yes fit own 0 (half_count s k i i) a in
      for_one (inl (omega (arith, r.0, low_count fit acc p))) (λ j f. r.1 j (omega arith) f.inside (free_spare j f))

  -- The high half's is another, and below it is only the low half's.
  pub record HighChosen (e : ℕ) : Type 0 where
    pub frees : FreeHeader s k i e
    pub lower : (j : ℕ) → j < e → FreeHeader s k i j → (most_listed < length low) × (j ≡ g)
    pub other : most_listed < length low → e ≢ g

  pub high_chosen : LowLacks false → HighLacks false → most_listed < length high → HighChosen h
  unfolding high_header
  high_chosen a b big = go (dec_le (length low) most_listed)
    where
      go : Dec (length low ≤ most_listed) → HighChosen h
      go (yes l) =
          let z = le-leb (half_count s k i i) most_listed (omega (arith, low_count fit acc p)) in
          let r = rw z at (for_no fit own _ _ b (high_big big)) in
          rw z (record {
            frees = spare_free _ (omega (arith, r.most)) r.is;
            lower = λ j c f. absurd (r.lower j (omega arith) c (free_spare j f));
            other = λ c. absurd (omega arith);
          })
      go (no l) =
          let large : most_listed < length low = omega arith in
          let z = lt-leb (half_count s k i i) most_listed (low_big large) in
          let r = rw z at (for_no fit own _ _ b (high_big big)) in
          rw z (record {
            frees = spare_free _ (omega (arith, r.least, r.most)) r.is;
            lower = λ j c f. (large, only j c f (dec_le j g) (ℕ_discrete j g) (r.lower j));
            other = λ c e. omega (arith, r.least);
          })
        where
          only : {v : ℕ} (j : ℕ) → j < v → FreeHeader s k i j → Dec (j ≤ g) → Dec (j ≡ g)
              → (suc g ≤ j → j < v → Spare s.heads own j → ⊥) → j ≡ g
          only j c f x (yes e) rest = e
          only j c f (yes x) (no e) rest = absurd ((low_chosen a (omega arith)).1 j (omega arith) f)
          only j c f (no x) (no e) rest = absurd (rest (omega arith) c (free_spare j f))

  pub high_short : LowLacks false → HighLacks true → RunOut s k i low high
  unfolding high_header
  high_short a b = go (dec_le (length low) most_listed)
    where
      go : Dec (length low ≤ most_listed) → RunOut s k i low high
      go (yes l) =
          let z = le-leb (half_count s k i i) most_listed (omega (arith, low_count fit acc p)) in
          let r = for_yes fit own _ _ b in
          for_one (inr (omega (arith, r.0, high_count fit acc p)))
          (λ j f. (rw z at r.1) j (omega arith) f.inside (free_spare j f))
      go (no l) =
          let z = lt-leb (half_count s k i i) most_listed (low_big (omega arith)) in
          let r = for_yes fit own _ _ b in
          for_two (omega arith) (omega (arith, r.0, high_count fit acc p))
          (λ x y e f. only x e (rw z at r.1) (dec_le x g) (ℕ_discrete x g) ∙ sym (only y f (rw z at r.1) (dec_le y g) (ℕ_discrete y g)))
        where
          only : (j : ℕ) → FreeHeader s k i j → ((n : ℕ) → suc g ≤ n → n < headers_in s → Spare s.heads own n → ⊥)
              → Dec (j ≤ g) → Dec (j ≡ g) → j ≡ g
          only j f rest x (yes e) = e
          only j f rest (yes x) (no e) = absurd ((low_chosen a (omega arith)).1 j (omega arith) f)
          only j f rest (no x) (no e) = absurd (rest j (omega arith) f.inside (free_spare j f))
