-- What a bin's word says, range by range, and which headers the bins name: the words of all tables stand in a row, each at one place, so
-- that counting the words that name a header tells whether any other header is left.
-- Parts: the word of a bin, range by range; the place of each bin in the row; the headers that the words name, each once at most; blank
-- headers; the counts tell whether the other headers are blank.
use mathlib.Core.Path.{◌≡◌, refl, ap, sym, ◌∙◌}
use mathlib.Core.Logic.{◌≢◌, ◌⊎◌, inl, inr}
use mathlib.Core.Bool.{Bool, true, false}
use mathlib.Core.List.{List, [], ◌∷◌}
use Prim.Native.Nat.{ℕ, zero, suc, ◌+◌, ◌-◌, ◌<◌, ◌≤◌}
use native.Mathlib.Decide.{ℕ_discrete, dec_le}
use native.Mathlib.Omega.{arith}
use lib.ListN.{length, get_or}
use lib.Dec.{eqb, leb, ltb}
use borrow.Author.Tests.{eqb-true, eqb-false, leb-true, leb-false, ltb-true, ltb-false, eq-eqb, ne_eqb, le-leb, lt-leb, lt-ltb, le-ltb}
use Rattle.slots.specs.Words.{null, pick}
use Rattle.tree_rules.specs.Tree.{times}
use Rattle.tree_rules.specs.Chain.{tally}
use Rattle.tree_rules.proofs.Counting.{times_head, times_else, times_rest, times_cases, exactly, exactly_length}
use Rattle.index_rules.proofs.Fit.{both}
use Rattle.set_rules.specs.Words.{Set, Fit, tables_of, headers_in, bins_before, root_at, first_at, count_at, Bin, empty, moved, bad, list}
use Rattle.set_rules.specs.Words.{tree}
use Rattle.set_rules.specs.Words.{bin_of, bin_at, word_bin}
use Rattle.set_rules.specs.Accepted.{BinThere, HeadsOnce}
use Rattle.set_rules.specs.Accepting.{is_blank, filled, names_header, naming, headers_fine}
use Rattle.set_rules.specs.Judged.{Ranges}
use Rattle.tree_rules.specs.Find.{slots_of}

module _ (n h w : ℕ) where
  -- The ranges, each with the bin that the word is there.
  data Sorted : Bin → Type 0 where
    zeroth : w ≡ 0 → Sorted empty
    first : w ≡ 1 → Sorted moved
    slot : 2 ≤ w → w ≤ 4097 → w - 2 < n → Sorted (list (w - 2))
    no_slot : 2 ≤ w → w ≤ 4097 → n ≤ w - 2 → Sorted bad
    header : 4098 ≤ w → w ≤ 8193 → w - 4098 < h → Sorted (tree (w - 4098))
    no_header : 4098 ≤ w → w ≤ 8193 → h ≤ w - 4098 → Sorted bad
    beyond : 8194 ≤ w → Sorted bad

  sorted : Sorted (bin_of n h w)
  unfolding bin_of
  sorted = go (eqb w 0) refl (eqb w 1) refl (leb w 4097) refl (ltb (w - 2) n) refl (leb w 8193) refl (ltb (w - 4098) h) refl
    where
      go : (a : Bool) → eqb w 0 ≡ a → (b : Bool) → eqb w 1 ≡ b → (c : Bool) → leb w 4097 ≡ c → (d : Bool) → ltb (w - 2) n ≡ d
          → (e : Bool) → leb w 8193 ≡ e → (f : Bool) → ltb (w - 4098) h ≡ f
          → Sorted (pick a empty (pick b moved (pick c (pick d (list (w - 2)) bad) (pick e (pick f (tree (w - 4098)) bad) bad))))
      go true a b q c r d t e u f v = zeroth (eqb-true w 0 a)
      go false a true q c r d t e u f v = first (eqb-true w 1 q)
      go false a false q true r true t e u f v =
          slot (omega (arith, eqb-false w 0 a, eqb-false w 1 q)) (leb-true w 4097 r) (ltb-true (w - 2) n t)
      go false a false q true r false t e u f v =
          no_slot (omega (arith, eqb-false w 0 a, eqb-false w 1 q)) (leb-true w 4097 r) (ltb-false (w - 2) n t)
      go false a false q false r d t true u true v = header (leb-false w 4097 r) (leb-true w 8193 u) (ltb-true (w - 4098) h v)
      go false a false q false r d t true u false v = no_header (leb-false w 4097 r) (leb-true w 8193 u) (ltb-false (w - 4098) h v)
      go false a false q false r d t false u f v = beyond (leb-false w 8193 u)

  is-empty : Sorted empty → w ≡ 0
  is-empty (zeroth e) = e

  is_moved_lem : Sorted moved → w ≡ 1
  is_moved_lem (first e) = e

  is_list_lem : {i : ℕ} → Sorted (list i) → (2 ≤ w) × (w ≤ 4097) × (i ≡ w - 2) × (i < n)
  is_list_lem (slot a b c) = (a, b, refl, c)

  is_tree_lem : {i : ℕ} → Sorted (tree i) → (4098 ≤ w) × (w ≤ 8193) × (i ≡ w - 4098) × (i < h)
  is_tree_lem (header a b c) = (a, b, refl, c)

  is_bad : Sorted bad → (8194 ≤ w) ⊎ (((2 ≤ w) × (w ≤ 4097) × (n ≤ w - 2)) ⊎ ((4098 ≤ w) × (w ≤ 8193) × (h ≤ w - 4098)))
  is_bad (no_slot a b c) = inr (inl (a, b, c))
  is_bad (no_header a b c) = inr (inr (a, b, c))
  is_bad (beyond a) = inl a

  empty-is : w ≡ 0 → bin_of n h w ≡ empty
  unfolding bin_of
  empty-is e = rw (eq-eqb w 0 e)

  moved_is : w ≡ 1 → bin_of n h w ≡ moved
  unfolding bin_of
  moved_is e = rw (ne_eqb w 0 (omega arith), eq-eqb w 1 e)

  list_is : (i : ℕ) → (2 ≤ w) × (w ≤ 4097) × (i ≡ w - 2) × (i < n) → bin_of n h w ≡ list i
  unfolding bin_of
  list_is i p =
      rw (
        ne_eqb w 0 (omega (arith, p.0)),
        ne_eqb w 1 (omega (arith, p.0)),
        le-leb w 4097 p.1,
        lt-ltb (w - 2) n (omega (arith, p.2, p.3)),
      ) (ap list (sym p.2))

  tree_is : (i : ℕ) → (4098 ≤ w) × (w ≤ 8193) × (i ≡ w - 4098) × (i < h) → bin_of n h w ≡ tree i
  unfolding bin_of
  tree_is i p =
      rw (
        ne_eqb w 0 (omega (arith, p.0)),
        ne_eqb w 1 (omega (arith, p.0)),
        lt-leb w 4097 (omega (arith, p.0)),
        le-leb w 8193 p.1,
        lt-ltb (w - 4098) h (omega (arith, p.2, p.3)),
      )
      (ap tree (sym p.2))

  bad_is : (8194 ≤ w) ⊎ (((2 ≤ w) × (w ≤ 4097) × (n ≤ w - 2)) ⊎ ((4098 ≤ w) × (w ≤ 8193) × (h ≤ w - 4098))) → bin_of n h w ≡ bad
  unfolding bin_of
  bad_is (inl a) = rw (ne_eqb w 0 (omega arith), ne_eqb w 1 (omega arith), lt-leb w 4097 (omega arith), lt-leb w 8193 a)
  bad_is (inr (inl p)) =
      rw (ne_eqb w 0 (omega (arith, p.0)), ne_eqb w 1 (omega (arith, p.0)), le-leb w 4097 p.1, le-ltb (w - 2) n p.2)
  bad_is (inr (inr p)) =
      rw (
        ne_eqb w 0 (omega (arith, p.0)),
        ne_eqb w 1 (omega (arith, p.0)),
        lt-leb w 4097 (omega (arith, p.0)),
        le-leb w 8193 p.1,
        le-ltb (w - 4098) h p.2,
      )

  pub ranges : Ranges n h w
  ranges =
      record {
        empties = (λ e. is-empty (rw e at sorted), empty-is);
        moves = (λ e. is_moved_lem (rw e at sorted), moved_is);
        lists = λ i. (λ e. is_list_lem (rw e at sorted), list_is i);
        trees = λ i. (λ e. is_tree_lem (rw e at sorted), tree_is i);
        bads = (λ e. is_bad (rw e at sorted), bad_is);
      }

-- Each bin has a place in the row of all tables' bins, and each place is a bin's.
begins_more : (l : List ℕ) (t k : ℕ) → k < t → bins_before l k + get_or l k 0 ≤ bins_before l t
unfolding bins_before
begins_more l zero k b = absurd (omega arith)
begins_more l (suc t) k b = go (ℕ_discrete k t) (λ d. begins_more l t k (omega arith))
  where
    go : Dec (k ≡ t) → (k ≢ t → bins_before l k + get_or l k 0 ≤ bins_before l t)
        → bins_before l k + get_or l k 0 ≤ bins_before l t + get_or l t 0
    go (yes e) rest = rw e (omega arith)
    go (no d) rest = omega (arith, rest d)

pub begins_there : (l : List ℕ) (t p : ℕ) → p < bins_before l t
    → (k : ℕ) × (i : ℕ) × (k < t) × (i < get_or l k 0) × (bins_before l k + i ≡ p)
unfolding bins_before
begins_there l zero p b = absurd (omega arith)
begins_there l (suc t) p b = go (dec_le (bins_before l t) p) (λ c. begins_there l t p c)
  where
    go : Dec (bins_before l t ≤ p) → (p < bins_before l t → (k : ℕ) × (i : ℕ) × (k < t) × (i < get_or l k 0) × (bins_before l k + i ≡ p))
        → (k : ℕ) × (i : ℕ) × (k < suc t) × (i < get_or l k 0) × (bins_before l k + i ≡ p)
    go (yes c) again = (t, p - bins_before l t, omega arith, omega arith, omega arith)
    go (no d) again = let r = again (omega arith) in (r.0, r.1, omega (arith, r.2), r.3, r.4)

-- The headers that the first q words of the row name.
abbrev put : Bin → List ℕ → List ℕ
put empty l = l
put moved l = l
put bad l = l
put (list a) l = l
put (tree h) l = h ∷ l

named : Set → ℕ → List ℕ
named s zero = []
named s (suc q) = put (word_bin s q) (named s q)

put-length : (b : Bin) (l : List ℕ) → length (put b l) ≡ names_header b + length l
put-length empty l = omega arith
put-length moved l = omega arith
put-length bad l = omega arith
put-length (list a) l = omega arith
put-length (tree h) l = omega arith

named-length : (s : Set) (q : ℕ) → length (named s q) ≡ tally q (naming (slots_of s.names) (headers_in s) s.bins)
unfolding tally named
named-length s zero = refl
named-length s (suc q) = omega (arith, put-length (word_bin s q) (named s q), named-length s q)

-- A header stands among them exactly where a word names it.
named-word : (s : Set) (q h : ℕ) → 1 ≤ times h (named s q) → (p : ℕ) × (p < q) × (word_bin s p ≡ tree h)
unfolding times named
named-word s zero h m = absurd (omega arith)
named-word s (suc q) h m = go (word_bin s q) refl m (λ n. (let r = named-word s q h n in (r.0, omega (arith, r.1), r.2)))
  where
    Found : Type 0
    Found = (p : ℕ) × (p < suc q) × (word_bin s p ≡ tree h)

    go : (b : Bin) → word_bin s q ≡ b → 1 ≤ times h (put b (named s q)) → (1 ≤ times h (named s q) → Found) → Found
    go empty e m again = again m
    go moved e m again = again m
    go bad e m again = again m
    go (list a) e m again = again m
    go (tree i) e m again = times_cases h i (named s q) m (λ z. (q, omega arith, e ∙ ap tree (sym z))) again

word-named : (s : Set) (q h p : ℕ) → p < q → word_bin s p ≡ tree h → 1 ≤ times h (named s q)
unfolding named
word-named s zero h p b e = absurd (omega arith)
word-named s (suc q) h p b e = go (ℕ_discrete p q) (λ d. word-named s q h p (omega arith) e)
  where
    more : (b : Bin) → 1 ≤ times h (named s q) → 1 ≤ times h (put b (named s q))
    more empty m = m
    more moved m = m
    more bad m = m
    more (list a) m = m
    more (tree i) m = omega (arith, times_rest h i (named s q))

    go : Dec (p ≡ q) → (p ≢ q → 1 ≤ times h (named s q)) → 1 ≤ times h (put (word_bin s q) (named s q))
    go (yes z) rest = let f : word_bin s q ≡ tree h = ap (word_bin s) (sym z) ∙ e in rw f (omega (arith, times_head h (named s q)))
    go (no d) rest = more (word_bin s q) (rest d)

-- Where no header is named by two words, each stands there once at most.
abbrev Once : Set → Type 0
Once s = (p q h : ℕ) → p < length s.bins → q < length s.bins → word_bin s p ≡ tree h → word_bin s q ≡ tree h → p ≡ q

module _ (s : Set) (once : Once s) where
  named_once : (q : ℕ) → q ≤ length s.bins → (h : ℕ) → times h (named s q) ≤ 1
  unfolding times named
  named_once zero b h = omega arith
  named_once (suc q) b h = go (word_bin s q) refl (named_once q (omega arith) h)
    where
      first : word_bin s q ≡ tree h → times h (named s q) ≡ 0
      first e = decide (dec_le 1 (times h (named s q)))
        where
          decide : Dec (1 ≤ times h (named s q)) → times h (named s q) ≡ 0
          decide (yes m) =
              let r = named-word s q h m in
              let z : r.0 ≡ q = once r.0 q h (omega (arith, r.1)) (omega arith) r.2 e in
              absurd (omega (arith, r.1))
          decide (no d) = omega arith

      go : (c : Bin) → word_bin s q ≡ c → times h (named s q) ≤ 1 → times h (put c (named s q)) ≤ 1
      go empty e m = m
      go moved e m = m
      go bad e m = m
      go (list a) e m = m
      go (tree i) e m = same (ℕ_discrete h i)
        where
          same : Dec (h ≡ i) → times h (i ∷ named s q) ≤ 1
          same (yes z) = rw (← z) (omega (arith, times_head h (named s q), first (e ∙ ap tree (sym z))))
          same (no d) = omega (arith, times_else h i (named s q) d)

-- "other headers are null with count 0"
pub record Blank (s : Set) (h : ℕ) : Type 0 where
  pub root : root_at s h ≡ null
  pub first : first_at s h ≡ null
  pub count : count_at s h ≡ 0

is_blank_lem : (s : Set) (h : ℕ) → filled s.heads h ≡ 0 → Blank s h
unfolding is_blank
is_blank_lem s h e = go (is_blank (root_at s h) (first_at s h) (count_at s h)) refl e
  where
    go : (b : Bool) → is_blank (root_at s h) (first_at s h) (count_at s h) ≡ b → ◌≡◌ {A = ℕ} (pick b 0 1) 0 → Blank s h
    go true z e =
        let a = both (eqb (root_at s h) null) _ z in
        let b = both (eqb (first_at s h) null) _ a.1 in
        record { root = eqb-true _ _ a.0; first = eqb-true _ _ b.0; count = eqb-true _ _ b.1 }
    go false z e = absurd (omega arith)

blank_is : (s : Set) (h : ℕ) → Blank s h → filled s.heads h ≡ 0
unfolding is_blank
blank_is s h b = rw (eq-eqb _ _ b.root, eq-eqb _ _ b.first, eq-eqb _ _ b.count)

rooted-filled : (s : Set) (h : ℕ) → root_at s h ≢ null → filled s.heads h ≡ 1
unfolding is_blank
rooted-filled s h d = rw (ne_eqb _ _ d)

-- Where no two bins name one header and each named header has a root, the counts agree exactly if the other headers are null with count 0.
module _ {s : Set} (fit : Fit s) (heads : HeadsOnce s)
    (roots : (k i h : ℕ) → BinThere s k i → bin_at s k i ≡ tree h → root_at s h ≢ null) where
  abbrev Bins : ℕ → Type 0
  Bins h = (k : ℕ) × (i : ℕ) × BinThere s k i × (bin_at s k i ≡ tree h)

  -- A word of the row is a bin's, and a bin's word stands in the row.
  word_there : (p h : ℕ) → p < length s.bins → word_bin s p ≡ tree h
      → (k : ℕ) × (i : ℕ) × BinThere s k i × (bin_at s k i ≡ tree h) × (bins_before s.lengths k + i ≡ p)
  word_there p h b e =
      let q = begins_there s.lengths (tables_of s) p (omega (arith, fit.all)) in
      (q.0, q.1, record { table = q.2; index = q.3 }, ap (word_bin s) q.4 ∙ e, q.4)

  once : Once s
  once p q h b c e f =
      let u = word_there p h b e in
      let v = word_there q h c f in
      let r = heads.trees u.0 u.1 v.0 v.1 h u.2 v.2 u.3 v.3 in
      cc (r.0, r.1, u.4, v.4)

  abbrev all : List ℕ
  all = named s (length s.bins)

  named-bin : (h : ℕ) → 1 ≤ times h all → Bins h
  named-bin h m =
      let r = named-word s (length s.bins) h m in
      let u = word_there r.0 h r.1 r.2 in
      (u.0, u.1, u.2, u.3)

  bin-named : (k i h : ℕ) → BinThere s k i → bin_at s k i ≡ tree h → 1 ≤ times h all
  bin-named k i h p e =
      let l = begins_more s.lengths (tables_of s) k p.table in
      word-named s (length s.bins) h (bins_before s.lengths k + i) (omega (arith, p.index, fit.all)) e

  inside : (h : ℕ) → 1 ≤ times h all → h < headers_in s
  inside h m = let r = named-bin h m in (((ranges (slots_of s.names) (headers_in s) _).trees h).0 r.3).3

  marked : (h : ℕ) → 1 ≤ times h all → filled s.heads h ≡ 1
  marked h m = let r = named-bin h m in rooted-filled s h (roots r.0 r.1 h r.2 r.3)

  abbrev Counted : Type 0
  Counted = headers_fine (slots_of s.names) (headers_in s) s.heads s.bins ≡ true

  pub headers_blank : Counted → (h : ℕ) → h < headers_in s → ((k i : ℕ) → BinThere s k i → bin_at s k i ≢ tree h) → Blank s h
  unfolding headers_fine
  headers_blank e h b none = is_blank_lem s h (go (dec_le 1 (times h all)))
    where
      same : filled s.heads h ≡ times h all
      same =
          exactly (headers_in s) all inside (filled s.heads) (named_once s once _ (omega arith)) marked
          (named-length s _ ∙ sym (eqb-true _ _ e)) h b

      go : Dec (1 ≤ times h all) → filled s.heads h ≡ 0
      go (yes m) = let r = named-bin h m in absurd (none r.0 r.1 r.2 r.3)
      go (no d) = omega (arith, same)

  pub blank_headers : ((h : ℕ) → h < headers_in s → ((k i : ℕ) → BinThere s k i → bin_at s k i ≢ tree h) → Blank s h) → Counted
  unfolding headers_fine
  blank_headers blank = eq-eqb _ _ (sym (exactly_length (headers_in s) all inside (filled s.heads) same) ∙ named-length s _)
    where
      same : (h : ℕ) → h < headers_in s → filled s.heads h ≡ times h all
      same h b = go (dec_le 1 (times h all))
        where
          go : Dec (1 ≤ times h all) → filled s.heads h ≡ times h all
          go (yes m) = omega (arith, marked h m, named_once s once (length s.bins) (omega arith) h)
          go (no d) = omega (arith, blank_is s h (blank h b (λ k i p e. d (bin-named k i h p e))))
