-- The two calls by position: after the tests the way down finds what the order says, and a position has one slot.
-- Parts: a list at a position; the positions of a sound tree; why the tests come out as they do; the call that takes a position; the call
-- that takes a pair.
use mathlib.Core.Path.{◌≡◌, refl, ap, sym, ◌∙◌, subst}
use mathlib.Core.Bool.{Bool, true, false, false≢true}
use mathlib.Core.List.{List, [], ◌∷◌, ◌++◌, map}
use Prim.Native.Nat.{ℕ, zero, suc, ◌<◌, ◌≤◌}
use native.Mathlib.Decide.{dec_lt}
use native.Mathlib.Omega.{arith}
use lib.ListN.{length, get_or, length-map}
use borrow.Author.Tests.{lt-ltb, le-ltb}
use Rattle.slots.specs.Words.{null, place, cell}
use Rattle.slots.specs.Pairs.{Pair, pair, pair_of}
use Rattle.slots.specs.Answers.{Value, some, none, given, refused}
use Rattle.slots.proofs.Laws.{number, given_is}
use Rattle.tree_rules.specs.Find.{slots_of}
use Rattle.tree_rules.specs.Tree.{slots}
use Rattle.tree_rules.specs.Ranks.{rank_from}
use Rattle.tree_rules.specs.Claims.{Weighs}
use Rattle.tree_rules.proofs.Claims.{claims}
use Rattle.tree_rules.proofs.Positions.{in_nth, rank_has}
use Rattle.redblack.specs.Holding.{Has}
use Rattle.index_rules.specs.Live.{Live, Fit, fits, root_of, count_of}
use Rattle.index_rules.specs.Sound.{Sound, sound}
use Rattle.index_rules.specs.Ranks.{kths, positions}
use Rattle.index_rules.specs.Contents.{Entry, entry, entry_of, contents, StandsAt}
use Rattle.index_rules.specs.Claims.{Kths, Positions}
use Rattle.index_rules.proofs.Fit.{fit_fits, fits_fit, half}
use Rattle.index_rules.proofs.Rules.{small, ends}
use Rattle.index_rules.proofs.Sounding.{sound_yes, yes_sound, unsound}
use Rattle.index_rules.proofs.Holding.{map_append, contents-length}
use Rattle.index_rules.proofs.Deciding.{Seen, there, absent, seen}

-- A list at a position.
split_nth : (l : List ℕ) (k : ℕ) → k < length l → (a : List ℕ) × (b : List ℕ) × (l ≡ a ++ (get_or l k null ∷ b)) × (length a ≡ k)
split_nth [] k h = absurd (omega arith)
split_nth (x ∷ l) zero h = ([], l, refl, refl)
split_nth (x ∷ l) (suc k) h = onward (split_nth l k (omega arith))
  where
    onward : (a : List ℕ) × (b : List ℕ) × (l ≡ a ++ (get_or l k null ∷ b)) × (length a ≡ k)
        → (a : List ℕ) × (b : List ℕ) × (x ∷ l ≡ a ++ (get_or l k null ∷ b)) × (length a ≡ suc k)
    onward (a, b, e, q) = (x ∷ a, b, ap (λ (r : List ℕ). x ∷ r) e, ap suc q)

head_is : {x y : Entry} {a b : List Entry} → x ∷ a ≡ y ∷ b → x ≡ y
head_is e = cc

tail_is : {x y : Entry} {a b : List Entry} → x ∷ a ≡ y ∷ b → a ≡ b
tail_is e = cc

map_nth : (t : Live) (l : List ℕ) (e : Entry) (lower upper : List Entry) → map (entry_of t) l ≡ lower ++ (e ∷ upper)
    → (length lower < length l) × (entry_of t (get_or l (length lower) null) ≡ e)
map_nth t [] e [] upper q = absurd (omega (arith, ap length q))
map_nth t [] e (y ∷ lower) upper q = absurd (omega (arith, ap length q))
map_nth t (x ∷ l) e [] upper q = (omega arith, head_is q)
map_nth t (x ∷ l) e (y ∷ lower) upper q = let r = map_nth t l e lower upper (tail_is q) in (omega (arith, r.0), r.1)

map_splits : (t : Live) (a b : List ℕ) (x : ℕ) → map (entry_of t) (a ++ (x ∷ b)) ≡ map (entry_of t) a ++ (entry_of t x ∷ map (entry_of t) b)
map_splits t a b x = map_append t a (x ∷ b)

-- On a sound tree.
module _ {t : Live} (fit : Fit t) (h : Sound t) where
  abbrev n : ℕ
  n = slots_of t.names

  abbrev nth : ℕ → ℕ
  nth k = get_or (slots h.tree) k null

  weighs : Weighs t.names t.cells t.sizes (small fit) (ends fit) (fit.each ∙ sym (half fit)) (root_of t)
  weighs = claims.weighs t.names t.cells t.sizes (small fit) (ends fit) (fit.each ∙ sym (half fit)) (root_of t)

  many : length (slots h.tree) ≡ count_of t
  many = sym (length-map (slots h.tree) (entry_of t)) ∙ contents-length h

  -- The entry at a position, and the position of an entry.
  placed_at : (k hash key : ℕ) → k < length (slots h.tree) → pair_of t.names (nth k) ≡ pair hash key → StandsAt k hash key (contents h)
  placed_at k hash key l e =
      let s = split_nth (slots h.tree) k l in
      let is : entry_of t (nth k) ≡ entry hash key (cell t.cells (nth k) place) =
      λ i. entry (e i).hash (e i).key (cell t.cells (nth k) place) in
      record {
        lower = map (entry_of t) s.0;
        upper = map (entry_of t) s.1;
        at = cell t.cells (nth k) place;
        is = ap (map (entry_of t)) s.2 ∙ map_splits t s.0 s.1 (nth k)
            ∙ (λ i. map (entry_of t) s.0 ++ (is i ∷ map (entry_of t) s.1));
        before = length-map s.0 (entry_of t) ∙ s.3;
      }

  at_place : (k hash key : ℕ) → StandsAt k hash key (contents h)
      → (k < length (slots h.tree)) × (pair_of t.names (nth k) ≡ pair hash key)
  at_place k hash key s =
      let r = map_nth t (slots h.tree) (entry hash key s.at) s.lower s.upper s.is in
      let q : entry_of t (nth k) ≡ entry hash key s.at = rw (← s.before) r.1 in
      (omega (arith, r.0, s.before), λ i. pair (q i).hash (q i).key)

  rank_at : (k hash key : ℕ) → k < length (slots h.tree) → pair_of t.names (nth k) ≡ pair hash key
      → rank_from n t.names t.cells t.sizes (root_of t) hash key 0 ≡ some k
  rank_at k hash key l e =
      ap (λ (p : Pair). rank_from n t.names t.cells t.sizes (root_of t) p.hash p.key 0) (sym e)
      ∙ weighs.rank h.t3.rooted h.t8 h.t4 k l

  rank_absent : (hash key : ℕ) → (Has t.names h.tree hash key → ⊥)
      → rank_from n t.names t.cells t.sizes (root_of t) hash key 0 ≡ none
  rank_absent hash key no-pair = go (rank_from n t.names t.cells t.sizes (root_of t) hash key 0) refl
    where
      go : (v : Value) → rank_from n t.names t.cells t.sizes (root_of t) hash key 0 ≡ v
          → rank_from n t.names t.cells t.sizes (root_of t) hash key 0 ≡ none
      go none e = e
      go (some v) e =
          let r =
          rank_has t.names t.cells t.sizes (omega (arith, fit.each, half fit, small fit)) n hash key 0 v h.t3.rooted.hangs
          (ap (λ (i : ℕ). rank_from n t.names t.cells t.sizes i hash key 0) (sym h.t3.rooted.from) ∙ e) in
          absurd (no-pair (record { slot = r.0; stands = r.1; named = r.2 }))

-- Why the tests come out as they do.
fits_not : (t : Live) → (Fit t → ⊥) → fits t ≡ false
fits_not t n = go (fits t) refl
  where
    go : (b : Bool) → fits t ≡ b → fits t ≡ false
    go true e = absurd (n (fits_fit t e))
    go false e = e

sound-not : (t : Live) → Fit t → (Sound t → ⊥) → sound t ≡ false
sound-not t f n = go (sound t) refl
  where
    go : (b : Bool) → sound t ≡ b → sound t ≡ false
    go true e = absurd (n (yes_sound f e))
    go false e = e

module _ (t : Live) (k : ℕ) where
  data KthDid : Type 0 where
    one : (Fit t → ⊥) → kths t k ≡ refused 1 → KthDid
    two : Fit t → (Sound t → ⊥) → kths t k ≡ refused 2 → KthDid
    out : Fit t → Sound t → count_of t ≤ k → kths t k ≡ refused 15 → KthDid
    found : Fit t → (h : Sound t) → k < length (slots h.tree) → kths t k ≡ given (get_or (slots h.tree) k null) → KthDid

  unfit_one : fits t ≡ false → kths t k ≡ refused 1
  unfolding kths
  unfit_one e = rw e

  damaged_two : fits t ≡ true → sound t ≡ false → kths t k ≡ refused 2
  unfolding kths
  damaged_two e f = rw (e, f)

  out_fifteen : fits t ≡ true → sound t ≡ true → count_of t ≤ k → kths t k ≡ refused 15
  unfolding kths
  out_fifteen e f l = rw (e, f, le-ltb k (count_of t) l)

  found_slot : (fit : Fit t) (h : Sound t) → fits t ≡ true → sound t ≡ true → k < length (slots h.tree)
      → kths t k ≡ given (get_or (slots h.tree) k null)
  unfolding kths
  found_slot fit h e f l =
      rw (e, f, lt-ltb k (count_of t) (omega (arith, many fit h))) (ap given ((weighs fit h).kth h.t3.rooted h.t8 k l))

  kth_did : KthDid
  kth_did = go (fits t) refl (sound t) refl
    where
      look : (fit : Fit t) (h : Sound t) → fits t ≡ true → sound t ≡ true → Dec (k < count_of t) → KthDid
      look fit h e f (yes l) = found fit h (omega (arith, many fit h)) (found_slot fit h e f (omega (arith, many fit h)))
      look fit h e f (no m) = out fit h (omega arith) (out_fifteen e f (omega arith))

      go : (a : Bool) → fits t ≡ a → (b : Bool) → sound t ≡ b → KthDid
      go false e b s = one (λ f. false≢true (sym e ∙ fit_fits t f)) (unfit_one e)
      go true e false s = let f = fits_fit t e in two f (unsound f s) (damaged_two e s)
      go true e true s = let f = fits_fit t e in look f (yes_sound f s) e s (dec_lt k (count_of t))

  pub kth_claims : Kths t k
  kth_claims =
      record {
        one = (one_then, λ n. unfit_one (fits_not t n));
        two = (two_then, λ r. damaged_two (fit_fits t r.0) (sound-not t r.0 r.1));
        fifteen = (out_then, λ r. out_fifteen (fit_fits t r.0) (sound_yes r.0 r.1) r.2);
        slot = λ x. (
          slot_then x,
          λ r. (let h = r.1.0 in
              found_slot r.0 h (fit_fits t r.0) (sound_yes r.0 h)
              (omega (arith, r.1.1, length-map (slots h.tree) (entry_of t)))
              ∙ ap given r.1.2),
        );
      }
    where
      one_then : kths t k ≡ refused 1 → Fit t → ⊥
      one_then q = go kth_did
        where
          go : KthDid → Fit t → ⊥
          go (one n e) = n
          go (two f n e) = absurd (omega (arith, number (sym q ∙ e)))
          go (out f h l e) = absurd (omega (arith, number (sym q ∙ e)))
          go (found f h l e) = absurd (omega (arith, number (sym q ∙ e)))

      two_then : kths t k ≡ refused 2 → Fit t × (Sound t → ⊥)
      two_then q = go kth_did
        where
          go : KthDid → Fit t × (Sound t → ⊥)
          go (one n e) = absurd (omega (arith, number (sym q ∙ e)))
          go (two f n e) = (f, n)
          go (out f h l e) = absurd (omega (arith, number (sym q ∙ e)))
          go (found f h l e) = absurd (omega (arith, number (sym q ∙ e)))

      out_then : kths t k ≡ refused 15 → Fit t × Sound t × (count_of t ≤ k)
      out_then q = go kth_did
        where
          go : KthDid → Fit t × Sound t × (count_of t ≤ k)
          go (one n e) = absurd (omega (arith, number (sym q ∙ e)))
          go (two f n e) = absurd (omega (arith, number (sym q ∙ e)))
          go (out f h l e) = (f, h, l)
          go (found f h l e) = absurd (omega (arith, number (sym q ∙ e)))

      slot_then : (x : ℕ) → kths t k ≡ given x → Fit t × ((h : Sound t) × (k < length (contents h)) × (get_or (slots h.tree) k null ≡ x))
      slot_then x q = go kth_did
        where
          go : KthDid → Fit t × ((h : Sound t) × (k < length (contents h)) × (get_or (slots h.tree) k null ≡ x))
          go (one n e) = absurd (omega (arith, number (sym q ∙ e)))
          go (two f n e) = absurd (omega (arith, number (sym q ∙ e)))
          go (out f h l e) = absurd (omega (arith, number (sym q ∙ e)))
          go (found f h l e) = (f, (h, omega (arith, length-map (slots h.tree) (entry_of t)), given_is (sym e ∙ q)))

module _ (t : Live) (hash key : ℕ) where
  data PositionDid : Type 0 where
    one : (Fit t → ⊥) → positions t hash key ≡ refused 1 → PositionDid
    two : Fit t → (Sound t → ⊥) → positions t hash key ≡ refused 2 → PositionDid
    four : Fit t → (h : Sound t) → (Has t.names h.tree hash key → ⊥) → positions t hash key ≡ refused 4 → PositionDid
    found : Fit t → (h : Sound t) (k : ℕ) → k < length (slots h.tree) → pair_of t.names (get_or (slots h.tree) k null) ≡ pair hash key
        → positions t hash key ≡ given k → PositionDid

  unfit_first : fits t ≡ false → positions t hash key ≡ refused 1
  unfolding positions
  unfit_first e = rw e

  damaged_second : fits t ≡ true → sound t ≡ false → positions t hash key ≡ refused 2
  unfolding positions
  damaged_second e f = rw (e, f)

  absent_four : (fit : Fit t) (h : Sound t) → (Has t.names h.tree hash key → ⊥) → positions t hash key ≡ refused 4
  unfolding positions
  absent_four fit h n = rw (fit_fits t fit, sound_yes fit h, rank_absent fit h hash key n)

  found-at_position : (fit : Fit t) (h : Sound t) (k : ℕ) → k < length (slots h.tree)
      → pair_of t.names (get_or (slots h.tree) k null) ≡ pair hash key
      → positions t hash key ≡ given k
  unfolding positions
  found-at_position fit h k l e = rw (fit_fits t fit, sound_yes fit h, rank_at fit h k hash key l e)

  position_did : PositionDid
  position_did = go (fits t) refl (sound t) refl
    where
      look : (fit : Fit t) (h : Sound t) → Seen h hash key → PositionDid
      look fit h (absent n s) = four fit h n (absent_four fit h n)
      look fit h (there x z named s) =
          let r = in_nth x (slots h.tree) z in
          let e : pair_of t.names (get_or (slots h.tree) r.0 null) ≡ pair hash key = rw r.2 named in
          found fit h r.0 r.1 e (found-at_position fit h r.0 r.1 e)

      go : (a : Bool) → fits t ≡ a → (b : Bool) → sound t ≡ b → PositionDid
      go false e b s = one (λ f. false≢true (sym e ∙ fit_fits t f)) (unfit_first e)
      go true e false s = let f = fits_fit t e in two f (unsound f s) (damaged_second e s)
      go true e true s = let f = fits_fit t e in let h = yes_sound f s in look f h (seen f h hash key)

  one_then : positions t hash key ≡ refused 1 → Fit t → ⊥
  one_then q = go position_did
    where
      go : PositionDid → Fit t → ⊥
      go (one n e) = n
      go (two f n e) = absurd (omega (arith, number (sym q ∙ e)))
      go (four f h n e) = absurd (omega (arith, number (sym q ∙ e)))
      go (found f h k l p e) = absurd (omega (arith, number (sym q ∙ e)))

  two_then : positions t hash key ≡ refused 2 → Fit t × (Sound t → ⊥)
  two_then q = go position_did
    where
      go : PositionDid → Fit t × (Sound t → ⊥)
      go (one n e) = absurd (omega (arith, number (sym q ∙ e)))
      go (two f n e) = (f, n)
      go (four f h n e) = absurd (omega (arith, number (sym q ∙ e)))
      go (found f h k l p e) = absurd (omega (arith, number (sym q ∙ e)))

  four-then : positions t hash key ≡ refused 4 → Fit t × ((h : Sound t) × (Has t.names h.tree hash key → ⊥))
  four-then q = go position_did
    where
      go : PositionDid → Fit t × ((h : Sound t) × (Has t.names h.tree hash key → ⊥))
      go (one n e) = absurd (omega (arith, number (sym q ∙ e)))
      go (two f n e) = absurd (omega (arith, number (sym q ∙ e)))
      go (four f h n e) = (f, (h, n))
      go (found f h k l p e) = absurd (omega (arith, number (sym q ∙ e)))

  -- The slot at the position, of the pair.
  place-then : (k : ℕ) → positions t hash key ≡ given k
      → Fit t × ((h : Sound t) × (k < length (slots h.tree)) × (pair_of t.names (get_or (slots h.tree) k null) ≡ pair hash key))
  place-then k q = go position_did
    where
      go : PositionDid
          → Fit t × ((h : Sound t) × (k < length (slots h.tree)) × (pair_of t.names (get_or (slots h.tree) k null) ≡ pair hash key))
      go (one n e) = absurd (omega (arith, number (sym q ∙ e)))
      go (two f n e) = absurd (omega (arith, number (sym q ∙ e)))
      go (four f h n e) = absurd (omega (arith, number (sym q ∙ e)))
      go (found f h j l p e) =
          let same : j ≡ k = given_is (sym e ∙ q) in (
            f,
            (
              h,
              subst (λ (i : ℕ). i < length (slots h.tree)) same l,
              subst (λ (i : ℕ). pair_of t.names (get_or (slots h.tree) i null) ≡ pair hash key) same p,
            ),
          )

  pub position_claims : Positions t hash key
  position_claims =
      record {
        one = (one_then, λ n. unfit_first (fits_not t n));
        two = (two_then, λ r. damaged_second (fit_fits t r.0) (sound-not t r.0 r.1));
        four = (four-then, λ r. absent_four r.0 r.1.0 r.1.1);
        place = λ k. (
          λ q. (let r = place-then k q in (r.0, (r.1.0, placed_at r.0 r.1.0 k hash key r.1.1 r.1.2))),
          λ r. (let s = at_place r.0 r.1.0 k hash key r.1.1 in found-at_position r.0 r.1.0 k s.0 s.1),
        );
        undone = λ k x q e. (let r = ((kth_claims t k).slot x).0 q in let h = r.1.0 in
            found-at_position r.0 h k (omega (arith, r.1.1, length-map (slots h.tree) (entry_of t))) (rw r.1.2 e));
        done_again = λ k q. (let r = place-then k q in let h = r.1.0 in
            (get_or (slots h.tree) k null, found_slot t k r.0 h (fit_fits t r.0) (sound_yes r.0 h) r.1.1, r.1.2));
      }
