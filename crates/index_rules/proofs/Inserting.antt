-- insert, by cases: the tests in the rules' order settle which, and each answer is given in one of them only.
-- Parts: why the tests come out as they do; the slot that the search names, and the lowest free one; each case of the tests with its
-- outcome; each answer is given in one case only; what an accepted insert leaves; all in one law.
use mathlib.Core.Path.{◌≡◌, refl, ap, sym, ◌∙◌, subst}
use mathlib.Core.Logic.{◌≢◌, ◌⊎◌, inl, inr}
use mathlib.Core.Bool.{Bool, true, false, false≢true}
use mathlib.Core.List.{◌∷◌}
use Prim.Native.Nat.{ℕ, ◌<◌}
use native.Mathlib.Decide.{ℕ_discrete, dec_lt}
use native.Mathlib.Omega.{arith}
use borrow.Author.Tests.{eq-eqb, ne_eqb}
use Rattle.slots.specs.Words.{null, state, free, cell}
use Rattle.slots.specs.Pairs.{pair, pair_of}
use Rattle.slots.specs.Answers.{Answer, some, none, given, refused}
use Rattle.slots.proofs.Laws.{number, some_is, value}
use Rattle.tree_rules.specs.Tree.{Tree}
use Rattle.redblack.specs.Holding.{Has, Stands}
use Rattle.index_rules.specs.Live.{Live, Fit}
use Rattle.index_rules.specs.Sound.{Sound, sound}
use Rattle.index_rules.specs.Index.{Index, FitIndex, Outcome, outcome, fits_index, length_of, lines_of, insert_kind, plain_line, appended}
use Rattle.index_rules.specs.Insert.{lowest_free, sought_in, inserts}
use Rattle.index_rules.specs.Contents.{entry, contents, listing, put}
use Rattle.index_rules.specs.Calls.{Lowest, NoneFree, Takes, OneLine}
use Rattle.index_rules.specs.Claims.{Inserts}
use Rattle.index_rules.proofs.Rules.{small}
use Rattle.index_rules.proofs.Fit.{false_of}
use Rattle.index_rules.proofs.Sounding.{sound_yes, yes_sound, unsound}
use Rattle.index_rules.proofs.Journal.{fits-index, index-fits, lines_capacity, one_line}
use Rattle.index_rules.proofs.Growing.{joins_front, grown_fit, grown-sound}
use Rattle.index_rules.proofs.Free.{lowest_free_lem, none_free}
use Rattle.index_rules.proofs.Deciding.{Seen, there, absent, seen}
use Rattle.index_rules.proofs.Seeking.{found_at, found_none}
use Rattle.index_rules.proofs.Holding.{grown-contents}
use Rattle.index_rules.proofs.Lists.{grown_front}
use Rattle.index_rules.proofs.Unrolling.{tree_one, grown_capacity}
use Rattle.tree_rules.specs.Find.{slots_of}

pub value_inj : {a b : Answer} {x y : ℕ} → a ≡ b → a.value ≡ some x → b.value ≡ some y → x ≡ y
value_inj {a} {b} e p q = some_is (sym p ∙ value e ∙ q)

-- Why the tests of an index come out as they do.
module _ (ix : Index) where
  pub unfit_false : (FitIndex ix → ⊥) → fits_index ix ≡ false
  unfit_false n = false_of (fits_index ix) (λ e. n (fits-index ix e))

  pub unsound_false : FitIndex ix → (Sound ix.live → ⊥) → sound ix.live ≡ false
  unsound_false f n = false_of (sound ix.live) (λ e. n (yes_sound f.tree e))

-- The slot that the search names is the one that has the pair.
pub sought-at : {t : Live} → Fit t → (h : Sound t) (hash key x : ℕ) → Stands x h.tree → pair_of t.names x ≡ pair hash key
    → sought_in t hash key ≡ some x
unfolding sought_in
sought-at fit h hash key x z n = ap (λ (r : Answer). r.value) (found_at fit h hash key x z n)

pub sought_none : {t : Live} → Fit t → (h : Sound t) (hash key : ℕ) → (Has t.names h.tree hash key → ⊥) → sought_in t hash key ≡ none
unfolding sought_in
sought_none fit h hash key n = ap (λ (r : Answer). r.value) (found_none fit h hash key n)

-- The lowest free slot is the one that `lowest_free` gives.
least_one : {P : ℕ → Type 0} (a b : ℕ) → P a → P b → ((k : ℕ) → k < a → P k → ⊥) → ((k : ℕ) → k < b → P k → ⊥) → a ≡ b
least_one a b p q u v = go (dec_lt a b) (dec_lt b a)
  where
    go : Dec (a < b) → Dec (b < a) → a ≡ b
    go (yes l) e = absurd (v a l p)
    go (no l) (yes m) = absurd (u b m q)
    go (no l) (no m) = omega arith

pub lowest_is : {t : Live} → Fit t → (x : ℕ) → Lowest t x → lowest_free t ≡ x
lowest_is {t} fit x l = go (ℕ_discrete (lowest_free t) null)
  where
    go : Dec (lowest_free t ≡ null) → lowest_free t ≡ x
    go (yes e) = absurd ((none_free t (small fit)).0 e x l.inside l.unused)
    go (no d) =
        let f = lowest_free_lem t d in
        least_one {P = λ (k : ℕ). cell t.cells k state ≡ free} (lowest_free t) x f.unused l.unused f.lower l.lower

module _ (ix : Index) (hash key p : ℕ) where
  -- What an accepted insert leaves, of the very tree h.
  Leaves : Sound ix.live → ℕ → Outcome → Type 0
  Leaves h x o =
      (g : Sound o.left.live) × FitIndex o.left × (contents g ≡ put (entry hash key p) (contents h))
      × (listing g ≡ entry hash key p ∷ listing h) × (g.chain ≡ x ∷ h.chain)
      × OneLine ix.lines o.left.lines (plain_line insert_kind hash key p)
      × (slots_of o.left.live.names ≡ slots_of ix.live.names)
      × Takes ix.live o.left.live x hash key p

  line_more : FitIndex ix → length_of ix.lines ≢ lines_of ix.lines
      → OneLine ix.lines (appended ix.lines (plain_line insert_kind hash key p)) (plain_line insert_kind hash key p)
  line_more f l = one_line ix.lines (plain_line insert_kind hash key p) (omega (arith, f.within, f.words, lines_capacity f))

  unfit_one : fits_index ix ≡ false → inserts ix hash key p ≡ outcome (refused 1) ix
  unfolding inserts
  unfit_one e = rw e

  damaged_two : fits_index ix ≡ true → sound ix.live ≡ false → inserts ix hash key p ≡ outcome (refused 2) ix
  unfolding inserts
  damaged_two e f = rw (e, f)

  module _ (e : fits_index ix ≡ true) (f : sound ix.live ≡ true) where
    present_three : (slot : ℕ) → sought_in ix.live hash key ≡ some slot
        → inserts ix hash key p ≡ outcome (record { number = 3; value = some slot }) ix
    unfolding inserts
    present_three slot s = rw (e, f, s)

    module _ (s : sought_in ix.live hash key ≡ none) where
      full_five : lowest_free ix.live ≡ null → inserts ix hash key p ≡ outcome (refused 5) ix
      unfolding inserts
      full_five d = rw (e, f, s, eq-eqb (lowest_free ix.live) null d)

      no_line_six : lowest_free ix.live ≢ null → length_of ix.lines ≡ lines_of ix.lines
          → inserts ix hash key p ≡ outcome (refused 6) ix
      unfolding inserts
      no_line_six d l = rw (e, f, s, ne_eqb (lowest_free ix.live) null d, eq-eqb (length_of ix.lines) (lines_of ix.lines) l)

      module _ (d : lowest_free ix.live ≢ null) (l : length_of ix.lines ≢ lines_of ix.lines) where
        done-given : (inserts ix hash key p).answer ≡ given (lowest_free ix.live)
        unfolding inserts
        done-given = rw (e, f, s, ne_eqb (lowest_free ix.live) null d, ne_eqb (length_of ix.lines) (lines_of ix.lines) l)

        done-leaves : FitIndex ix → (h : Sound ix.live) → (Has ix.live.names h.tree hash key → ⊥)
            → Leaves h (lowest_free ix.live) (inserts ix hash key p)
        unfolding inserts Leaves
        done-leaves fit h n =
            let w = lowest_free_lem ix.live d in
            let g = grown-sound fit.tree h (lowest_free ix.live) null hash key p w.inside w.unused (inl refl) n in
            let j = line_more fit l in
            rw (e, f, s, ne_eqb (lowest_free ix.live) null d, ne_eqb (length_of ix.lines) (lines_of ix.lines) l) (
              g.sound,
              record {
                tree = grown_fit fit.tree h (lowest_free ix.live) null hash key p w.inside w.unused (inl refl) n;
                capacity = fit.capacity;
                most = fit.most;
                words = j.long ∙ fit.words;
                within = omega (arith, j.count, fit.within, lines_capacity fit);
              },
              grown-contents g,
              grown_front fit.tree g refl,
              joins_front g.chain refl,
              j,
              grown_capacity ix.live (lowest_free ix.live) null hash key p,
              g.takes,
            )

  -- The case that the tests come to, with what it says.
  data Did : Type 0 where
    one : (FitIndex ix → ⊥) → inserts ix hash key p ≡ outcome (refused 1) ix → Did
    two : FitIndex ix → (Sound ix.live → ⊥) → inserts ix hash key p ≡ outcome (refused 2) ix → Did
    three : FitIndex ix → (h : Sound ix.live) (slot : ℕ) → Stands slot h.tree → pair_of ix.live.names slot ≡ pair hash key
        → inserts ix hash key p ≡ outcome (record { number = 3; value = some slot }) ix → Did
    five : FitIndex ix → (h : Sound ix.live) → (Has ix.live.names h.tree hash key → ⊥) → lowest_free ix.live ≡ null
        → inserts ix hash key p ≡ outcome (refused 5) ix → Did
    six : FitIndex ix → (h : Sound ix.live) → (Has ix.live.names h.tree hash key → ⊥) → lowest_free ix.live ≢ null
        → length_of ix.lines ≡ lines_of ix.lines
        → inserts ix hash key p ≡ outcome (refused 6) ix → Did
    taken : FitIndex ix → (h : Sound ix.live) → (Has ix.live.names h.tree hash key → ⊥) → lowest_free ix.live ≢ null
        → length_of ix.lines ≢ lines_of ix.lines
        → (inserts ix hash key p).answer ≡ given (lowest_free ix.live)
        → ((g : Sound ix.live) → (Has ix.live.names g.tree hash key → ⊥)
        → Leaves g (lowest_free ix.live) (inserts ix hash key p)) → Did

  did : Did
  did = go (fits_index ix) refl (sound ix.live) refl
    where
      line : (f : FitIndex ix) (e : fits_index ix ≡ true) (s : sound ix.live ≡ true) (h : Sound ix.live)
          (n : Has ix.live.names h.tree hash key → ⊥)
          → sought_in ix.live hash key ≡ none → Dec (lowest_free ix.live ≡ null)
          → Dec (length_of ix.lines ≡ lines_of ix.lines) → Did
      line f e s h n q (yes d) l = five f h n d (full_five e s q d)
      line f e s h n q (no d) (yes l) = six f h n d l (no_line_six e s q d l)
      line f e s h n q (no d) (no l) = taken f h n d l (done-given e s q d l) (done-leaves e s q d l f)

      look : (f : FitIndex ix) (e : fits_index ix ≡ true) (s : sound ix.live ≡ true) (h : Sound ix.live) → Seen h hash key → Did
      look f e s h (there x z n q) = three f h x z n (present_three e s x q)
      look f e s h (absent n q) =
          line f e s h n q (ℕ_discrete (lowest_free ix.live) null) (ℕ_discrete (length_of ix.lines) (lines_of ix.lines))

      go : (a : Bool) → fits_index ix ≡ a → (b : Bool) → sound ix.live ≡ b → Did
      go false e b s = one (λ f. false≢true (sym e ∙ index-fits ix f)) (unfit_one e)
      go true e false s = let f = fits-index ix e in two f (unsound f.tree s) (damaged_two e s)
      go true e true s = let f = fits-index ix e in let h = yes_sound f.tree s in look f e s h (seen f.tree h hash key)

  answer : {o : Outcome} → inserts ix hash key p ≡ o → (inserts ix hash key p).answer ≡ o.answer
  answer e = ap (λ (o : Outcome). o.answer) e

  -- An answer given in another case is none.
  clash : {a : Answer} {o : Outcome} → inserts ix hash key p ≡ o → (inserts ix hash key p).answer ≡ a → a.number ≡ o.answer.number
  clash e q = number (sym q ∙ answer e)

  one_then : (inserts ix hash key p).answer ≡ refused 1 → FitIndex ix → ⊥
  one_then q = go did
    where
      go : Did → FitIndex ix → ⊥
      go (one n e) = n
      go (two f n e) = absurd (omega (arith, clash e q))
      go (three f h x z n e) = absurd (omega (arith, clash e q))
      go (five f h n d e) = absurd (omega (arith, clash e q))
      go (six f h n d l e) = absurd (omega (arith, clash e q))
      go (taken f h n d l e r) = absurd (omega (arith, number (sym q ∙ e)))

  two_then : (inserts ix hash key p).answer ≡ refused 2 → FitIndex ix × (Sound ix.live → ⊥)
  two_then q = go did
    where
      go : Did → FitIndex ix × (Sound ix.live → ⊥)
      go (one n e) = absurd (omega (arith, clash e q))
      go (two f n e) = (f, n)
      go (three f h x z n e) = absurd (omega (arith, clash e q))
      go (five f h n d e) = absurd (omega (arith, clash e q))
      go (six f h n d l e) = absurd (omega (arith, clash e q))
      go (taken f h n d l e r) = absurd (omega (arith, number (sym q ∙ e)))

  three-then : (slot : ℕ) → (inserts ix hash key p).answer ≡ record { number = 3; value = some slot }
      → FitIndex ix × ((h : Sound ix.live) × Stands slot h.tree × (pair_of ix.live.names slot ≡ pair hash key))
  three-then slot q = go did
    where
      go : Did → FitIndex ix × ((h : Sound ix.live) × Stands slot h.tree × (pair_of ix.live.names slot ≡ pair hash key))
      go (one n e) = absurd (omega (arith, clash e q))
      go (two f n e) = absurd (omega (arith, clash e q))
      go (three f h x z n e) =
          let y : x ≡ slot = value_inj (sym (answer e) ∙ q) refl refl in
          (f, (h, subst (λ (k : ℕ). Stands k h.tree) y z, subst (λ (k : ℕ). pair_of ix.live.names k ≡ pair hash key) y n))
      go (five f h n d e) = absurd (omega (arith, clash e q))
      go (six f h n d l e) = absurd (omega (arith, clash e q))
      go (taken f h n d l e r) = absurd (omega (arith, number (sym q ∙ e)))

  five_then : (inserts ix hash key p).answer ≡ refused 5
      → FitIndex ix × ((h : Sound ix.live) × (Has ix.live.names h.tree hash key → ⊥) × NoneFree ix.live)
  five_then q = go did
    where
      go : Did → FitIndex ix × ((h : Sound ix.live) × (Has ix.live.names h.tree hash key → ⊥) × NoneFree ix.live)
      go (one n e) = absurd (omega (arith, clash e q))
      go (two f n e) = absurd (omega (arith, clash e q))
      go (three f h x z n e) = absurd (omega (arith, clash e q))
      go (five f h n d e) = (f, (h, n, (none_free ix.live (small f.tree)).0 d))
      go (six f h n d l e) = absurd (omega (arith, clash e q))
      go (taken f h n d l e r) = absurd (omega (arith, number (sym q ∙ e)))

  six_then : (inserts ix hash key p).answer ≡ refused 6
      → FitIndex ix
      × ((h : Sound ix.live) × (Has ix.live.names h.tree hash key → ⊥) × ((x : ℕ) × Lowest ix.live x)
      × (length_of ix.lines ≡ lines_of ix.lines))
  six_then q = go did
    where
      go : Did → FitIndex ix × ((h : Sound ix.live) × (Has ix.live.names h.tree hash key → ⊥) × ((x : ℕ) × Lowest ix.live x)
          × (length_of ix.lines ≡ lines_of ix.lines))
      go (one n e) = absurd (omega (arith, clash e q))
      go (two f n e) = absurd (omega (arith, clash e q))
      go (three f h x z n e) = absurd (omega (arith, clash e q))
      go (five f h n d e) = absurd (omega (arith, clash e q))
      go (six f h n d l e) = (f, (h, n, (lowest_free ix.live, lowest_free_lem ix.live d), l))
      go (taken f h n d l e r) = absurd (omega (arith, number (sym q ∙ e)))

  given-then : (x : ℕ) → (inserts ix hash key p).answer ≡ given x
      → FitIndex ix
      × ((h : Sound ix.live) × (Has ix.live.names h.tree hash key → ⊥) × Lowest ix.live x
      × (length_of ix.lines < lines_of ix.lines))
  given-then x q = go did
    where
      go : Did → FitIndex ix × ((h : Sound ix.live) × (Has ix.live.names h.tree hash key → ⊥) × Lowest ix.live x
          × (length_of ix.lines < lines_of ix.lines))
      go (one n e) = absurd (omega (arith, clash e q))
      go (two f n e) = absurd (omega (arith, clash e q))
      go (three f h y z n e) = absurd (omega (arith, clash e q))
      go (five f h n d e) = absurd (omega (arith, clash e q))
      go (six f h n d l e) = absurd (omega (arith, clash e q))
      go (taken f h n d l e r) =
          let y : lowest_free ix.live ≡ x = value_inj (sym e ∙ q) refl refl in
          (f, (h, n, subst (λ (k : ℕ). Lowest ix.live k) y (lowest_free_lem ix.live d), omega (arith, f.within, lines_capacity f)))

  nothing_written : (inserts ix hash key p).answer.number ≢ 0 → (inserts ix hash key p).left ≡ ix
  nothing_written q = go did
    where
      left : {o : Outcome} → inserts ix hash key p ≡ o → (inserts ix hash key p).left ≡ o.left
      left e = ap (λ (o : Outcome). o.left) e

      go : Did → (inserts ix hash key p).left ≡ ix
      go (one n e) = left e
      go (two f n e) = left e
      go (three f h x z n e) = left e
      go (five f h n d e) = left e
      go (six f h n d l e) = left e
      go (taken f h n d l e r) = absurd (q (number e))

  done : (x : ℕ) → (inserts ix hash key p).answer ≡ given x → (h : Sound ix.live) → Leaves h x (inserts ix hash key p)
  unfolding Leaves
  done x q h = go did
    where
      go : Did → Leaves h x (inserts ix hash key p)
      go (one n e) = absurd (omega (arith, clash e q))
      go (two f n e) = absurd (omega (arith, clash e q))
      go (three f k y z n e) = absurd (omega (arith, clash e q))
      go (five f h n d e) = absurd (omega (arith, clash e q))
      go (six f h n d l e) = absurd (omega (arith, clash e q))
      go (taken f k n d l e r) =
          subst (λ (y : ℕ). Leaves h y (inserts ix hash key p)) (value_inj (sym e ∙ q) refl refl)
          (r h (subst (λ (u : Tree). Has ix.live.names u hash key → ⊥) (tree_one f.tree k h) n))

  pub insert_claims : Inserts ix hash key p
  unfolding Leaves
  insert_claims =
      record {
        one = (one_then, λ n. answer (unfit_one (unfit_false ix n)));
        two = (two_then, λ r. answer (damaged_two (index-fits ix r.0) (unsound_false ix r.0 r.1)));
        three = λ slot. (
          three-then slot,
          λ r. (let h = r.1.0 in
              answer (present_three (index-fits ix r.0) (sound_yes r.0.tree h) slot
              (sought-at r.0.tree h hash key slot r.1.1 r.1.2))),
        );
        five = (
          five_then,
          λ r. (let h = r.1.0 in
              answer (full_five (index-fits ix r.0) (sound_yes r.0.tree h) (sought_none r.0.tree h hash key r.1.1)
              ((none_free ix.live (small r.0.tree)).1 r.1.2))),
        );
        six = (
          six_then,
          λ r. (let h = r.1.0 in
              answer (no_line_six (index-fits ix r.0) (sound_yes r.0.tree h) (sought_none r.0.tree h hash key r.1.1)
              (has_free r.0 r.1.2.0 r.1.2.1) r.1.3)),
        );
        accepted = λ x. (
          given-then x,
          λ r. (let h = r.1.0 in
              done-given (index-fits ix r.0) (sound_yes r.0.tree h) (sought_none r.0.tree h hash key r.1.1)
              (has_free r.0 x r.1.2)
              (omega (arith, r.1.3))
              ∙ ap given (lowest_is r.0.tree x r.1.2)),
        );
        nothing_written = nothing_written;
        done = done;
      }
    where
      has_free : FitIndex ix → (x : ℕ) → Lowest ix.live x → lowest_free ix.live ≢ null
      has_free f x l e = (none_free ix.live (small f.tree)).0 e x l.inside l.unused

  -- Refused, or given a slot.
  pub insert_settled : ((inserts ix hash key p).answer.number ≢ 0) ⊎ ((x : ℕ) × ((inserts ix hash key p).answer ≡ given x))
  insert_settled = go did
    where
      go : Did → ((inserts ix hash key p).answer.number ≢ 0) ⊎ ((x : ℕ) × ((inserts ix hash key p).answer ≡ given x))
      go (one n e) = inl (λ q. omega (arith, number (answer e)))
      go (two f n e) = inl (λ q. omega (arith, number (answer e)))
      go (three f h x z n e) = inl (λ q. omega (arith, number (answer e)))
      go (five f h n d e) = inl (λ q. omega (arith, number (answer e)))
      go (six f h n d l e) = inl (λ q. omega (arith, number (answer e)))
      go (taken f h n d l e r) = inr (lowest_free ix.live, e)

  -- 5 comes with no value.
  pub insert_plain : (inserts ix hash key p).answer.number ≡ 5 → (inserts ix hash key p).answer ≡ refused 5
  insert_plain q = go did
    where
      off : {a : Answer} → (inserts ix hash key p).answer ≡ a → (a.number ≡ 5 → ⊥) → (inserts ix hash key p).answer ≡ refused 5
      off e n = absurd (n (sym (number e) ∙ q))

      go : Did → (inserts ix hash key p).answer ≡ refused 5
      go (one n e) = off (answer e) (λ z. omega arith)
      go (two f n e) = off (answer e) (λ z. omega arith)
      go (three f h x z n e) = off (answer e) (λ w. omega arith)
      go (five f h n d e) = answer e
      go (six f h n d l e) = off (answer e) (λ z. omega arith)
      go (taken f h n d l e r) = off e (λ z. omega arith)
