-- find on a sound tree, from the law of the search there; and that the contents of a sound tree are one list, and its listing another with
-- the same entries.
use mathlib.Core.Path.{◌≡◌, refl, ap, sym, ◌∙◌, subst}
use mathlib.Core.List.{List, map}
use Prim.Native.Nat.{ℕ}
use native.Mathlib.Omega.{arith}
use Rattle.slots.specs.Pairs.{pair, pair_of}
use Rattle.slots.specs.Answers.{given, nothing, refused}
use Rattle.slots.proofs.Laws.{number, none_some, value}
use Rattle.tree_rules.specs.Find.{Search, found, slots_of}
use Rattle.tree_rules.proofs.Claims.{looks_squared}
use Rattle.tree_rules.proofs.Chaining.{chain_unique}
use Rattle.redblack.specs.Holding.{Has, Stands}
use Rattle.index_rules.specs.Live.{Live, unsized_of, Fit, root_of}
use Rattle.index_rules.specs.Sound.{Sound}
use Rattle.index_rules.specs.Find.{finds}
use Rattle.index_rules.specs.Contents.{Entry, entry, entry_of, contents, listing, HasAt, HoldSame, In}
use Rattle.index_rules.specs.Claims.{FindsSound, Contained, Lists}
use Rattle.index_rules.proofs.Rules.{small}
use Rattle.index_rules.proofs.Fit.{fit_unsized}
use Rattle.index_rules.proofs.Reading.{find_fit, find_claims}
use Rattle.index_rules.proofs.Seeking.{found_at, found_none}
use Rattle.index_rules.proofs.Deciding.{Seen, there, absent, seen}
use Rattle.index_rules.proofs.Holding.{contents-length, stands_in, in_stands}
use Rattle.index_rules.proofs.Listing.{ascends_map, ascends_same}
use Rattle.index_rules.proofs.Frames.{sound-count}
use Rattle.index_rules.proofs.Lists.{stands-listed, listed-stands, listing-length}
use Rattle.index_rules.proofs.Unrolling.{contents_one}
use Rattle.index_rules.proofs.Inserting.{value_inj}

module _ {t : Live} (fit : Fit t) (h : Sound t) (hash key : ℕ) where
  is : (finds (unsized_of t) hash key).answer ≡ (found t.names t.cells (root_of t) hash key).answer
  is = ap (λ (s : Search). s.answer) (find_fit (unsized_of t) hash key (fit_unsized fit))

  at_slot : (x : ℕ) → Stands x h.tree → pair_of t.names x ≡ pair hash key → (finds (unsized_of t) hash key).answer ≡ given x
  at_slot x z n = is ∙ found_at fit h hash key x z n

  at_none : (Has t.names h.tree hash key → ⊥) → (finds (unsized_of t) hash key).answer ≡ nothing
  at_none n = is ∙ found_none fit h hash key n

  pub find_sound_claims : FindsSound t fit h hash key
  find_sound_claims =
      record {
        at = λ slot. (to slot, λ r. at_slot slot r.0 r.1);
        none = (lacks, at_none);
        never_nine = λ e. nine e (seen fit h hash key);
        once = ((find_claims (unsized_of t) hash key).looks (fit_unsized fit)).once (λ e. nine e (seen fit h hash key));
        not_deep = rw (find_fit (unsized_of t) hash key (fit_unsized fit), sound-count h)
            (looks_squared t.names t.cells (root_of t) hash key h.t3.rooted h.t5 h.t6);
      }
    where
      to : (slot : ℕ) → (finds (unsized_of t) hash key).answer ≡ given slot → Stands slot h.tree × (pair_of t.names slot ≡ pair hash key)
      to slot e = go (seen fit h hash key)
        where
          go : Seen h hash key → Stands slot h.tree × (pair_of t.names slot ≡ pair hash key)
          go (there x z n s) =
              let y : x ≡ slot = value_inj (sym (at_slot x z n) ∙ e) refl refl in
              (subst (λ (k : ℕ). Stands k h.tree) y z, subst (λ (k : ℕ). pair_of t.names k ≡ pair hash key) y n)
          go (absent n s) = absurd (none_some (value (sym (at_none n) ∙ e)))

      lacks : (finds (unsized_of t) hash key).answer ≡ nothing → Has t.names h.tree hash key → ⊥
      lacks e a = none_some (value (sym e ∙ at_slot a.slot a.stands a.named))

      nine : (finds (unsized_of t) hash key).answer ≡ refused 9 → Seen h hash key → ⊥
      nine e (there x z n s) = omega (arith, number (sym (at_slot x z n) ∙ e))
      nine e (absent n s) = omega (arith, number (sym (at_none n) ∙ e))

-- An entry stands in the contents exactly where the tree has its pair with its place.
has_in : {t : Live} (h : Sound t) (hash key p : ℕ) → HasAt t h.tree hash key p → In (entry hash key p) (contents h)
has_in {t} h hash key p a =
    let is : entry_of t a.slot ≡ entry hash key p = λ i. entry (a.named i).hash (a.named i).key (a.placed i) in
    subst (λ (e : Entry). In e (contents h)) is (stands_in h a.slot a.stands)

in_has : {t : Live} (h : Sound t) (hash key p : ℕ) → In (entry hash key p) (contents h) → HasAt t h.tree hash key p
in_has h hash key p i =
    let s = in_stands h i in
    record { slot = s.slot; stands = s.stands; named = λ j. pair (s.is j).hash (s.is j).key; placed = λ j. (s.is j).at }

module _ {t u : Live} (h : Sound t) (g : Sound u) where
  same_contents : HoldSame h g → contents h ≡ contents g
  same_contents s =
      ascends_same (contents h) (contents g) (ascends_map t h.t4) (ascends_map u g.t4)
      (λ e i. has_in g e.hash e.key e.at ((s e.hash e.key e.at).0 (in_has h e.hash e.key e.at i)))
      (λ e i. has_in h e.hash e.key e.at ((s e.hash e.key e.at).1 (in_has g e.hash e.key e.at i)))

  contents_same : contents h ≡ contents g → HoldSame h g
  contents_same q hash key p = (
    λ a. in_has g hash key p (subst (λ (l : List Entry). In (entry hash key p) l) q (has_in h hash key p a)),
    λ a. in_has h hash key p (subst (λ (l : List Entry). In (entry hash key p) l) (sym q) (has_in g hash key p a)),
  )

pub hold_claims : (t : Live) (fit : Fit t) → Contained t fit
hold_claims t fit =
    record {
      one = contents_one fit;
      rising = λ h. h.t4;
      many = contents-length;
      same = λ h u g. (same_contents h g, contents_same h g);
    }

pub list_claims : (t : Live) (fit : Fit t) → Lists t fit
list_claims t fit =
    record {
      one = λ h g. ap (map (entry_of t)) (chain_unique (slots_of t.names) t.cells (small fit) h.t7.linked g.t7.linked);
      same = λ h e. (
        λ i. (let s = listed-stands h i in subst (λ (r : Entry). In r (contents h)) s.is (stands_in h s.slot s.stands)),
        λ i. (let s = in_stands h i in subst (λ (r : Entry). In r (listing h)) s.is (stands-listed h s.slot s.stands)),
      );
      many = listing-length;
    }
