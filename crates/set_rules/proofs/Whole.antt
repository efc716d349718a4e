-- A whole walk of an accepted set gives one list, in the rules' order: every entry once and nothing else. Lookup and walk agree.
use mathlib.Core.Logic.{◌↔◌}
use mathlib.Core.Path.{◌≡◌, refl, ap, sym, ◌∙◌}
use mathlib.Core.List.{List, ◌∷◌}
use Prim.Native.Nat.{ℕ, ◌<◌, ◌≤◌}
use native.Mathlib.Decide.{ℕ_discrete, dec_le}
use native.Mathlib.Omega.{arith}
use borrow.Author.Tests.{eq-eqb}
use Rattle.slots.specs.Words.{state, free, cell, black, name_of, hash_part, key_part}
use Rattle.slots.specs.Answers.{given}
use Rattle.slots.proofs.Laws.{given_is, nothing-given}
use Rattle.tree_rules.specs.Tree.{times}
use Rattle.tree_rules.proofs.Counting.{exactly_length}
use Rattle.tree_rules.proofs.Reaching.{hangs_stand, hangs_inside}
use Rattle.index_rules.specs.Sound.{used}
use Rattle.index_rules.proofs.Rules.{used_hued}
use Rattle.set_rules.specs.Words.{Set, Fit, tables_of, Bin, empty, moved, bad, list, tree, bin_at}
use Rattle.set_rules.specs.Accepted.{Accepted, EntryOf, HeldIn}
use Rattle.set_rules.proofs.Fit.{small}
use Rattle.set_rules.proofs.Lists.{listed_inside, listed_unique}
use Rattle.set_rules.specs.Cursor.{Cursor, starts}
use Rattle.set_rules.specs.Whole.{Listing}
use Rattle.set_rules.specs.Held.{EntryFrom}
use Rattle.set_rules.specs.Walked.{WholeWalk}
use Rattle.set_rules.proofs.Giving.{walk_gives}
use Rattle.set_rules.proofs.Keeping.{Told, told}
use Rattle.set_rules.proofs.Mapping.{map_claims}
use Rattle.tree_rules.specs.Find.{slots_of}

-- What the steps give is one list.
pub listing_unique : {s : Set} {c : Cursor} {l m : List ℕ} → Listing s c l → Listing s c m → l ≡ m
listing_unique (Listing.done e) (Listing.done f) = refl
listing_unique (Listing.done e) (Listing.step f r) = absurd (nothing-given (sym e ∙ f))
listing_unique (Listing.step e q) (Listing.done f) = absurd (nothing-given (sym f ∙ e))
listing_unique (Listing.step {x = x} {l} e q) (Listing.step {x = y} {l = m} f r) =
    let z : x ≡ y = given_is (sym e ∙ f) in
    rw z (ap (λ (k : List ℕ). y ∷ k) (listing_unique q r))

module _ (s : Set) (fit : Fit s) (acc : Accepted s) where
  -- An entry is not free.
  entry-used : {k i x : ℕ} → EntryOf s k i x → used s.cells x ≡ 1
  entry-used {k} {i} {x} f = go (bin_at s k i) refl f.holds f.member
    where
      go : (b : Bin) → bin_at s k i ≡ b → {m : List ℕ} → HeldIn s b m → 1 ≤ times x m → used s.cells x ≡ 1
      go (list a) e (HeldIn.listed h) m =
          let g = acc.lists k i a f.there e in
          used_hued s.cells x black (g.plain x (rw (listed_unique s (small fit) h g.ends) at m)).states
      go (tree a) e (HeldIn.grown r) m =
          let d = hangs_stand (slots_of s.names) s.cells r.hangs m in used_hued s.cells x d.hue d.words.hued
      go empty e h m = elim h [ ]
      go moved e h m = elim h [ ]
      go bad e h m = elim h [ ]

  entry_inside : {k i x : ℕ} → EntryOf s k i x → x < slots_of s.names
  entry_inside {k} {i} {x} f = go f.holds f.member
    where
      go : {b : Bin} {m : List ℕ} → HeldIn s b m → 1 ≤ times x m → x < slots_of s.names
      go (HeldIn.listed h) m = listed_inside s (small fit) h x m
      go (HeldIn.grown r) m = hangs_inside (slots_of s.names) s.cells r.hangs m

  module _ (t : ℕ) (b : t < tables_of s) where
    abbrev all : Told s fit acc t
    all = told s fit acc t b

    -- From table 0 the entries are the slots that are not free.
    pub held_used : t ≡ 0 → (x : ℕ) → x < slots_of s.names → used s.cells x ≡ times x all.held
    held_used z x w = go (ℕ_discrete (cell s.cells x state) free) (dec_le 1 (times x all.held))
      where
        go : Dec (cell s.cells x state ≡ free) → Dec (1 ≤ times x all.held) → used s.cells x ≡ times x all.held
        go c (yes m) = omega (arith, all.once x, entry-used ((all.entries x).0 m).3)
        go (yes e) (no m) = rw (eq-eqb (cell s.cells x state) free e) (omega arith)
        go (no d) (no m) = let o = acc.slots.used x w d in absurd (m ((all.entries x).1 (o.table, o.index, omega arith, o.entry)))

    pub walk : Listing s (starts s t).cursor all.given
    walk = walk_gives s fit acc t b all.order

    entries : (x : ℕ) → (1 ≤ times x all.given) ↔ EntryFrom s t x
    entries x = (
      λ h. (let r = (all.entries x).0 (omega (arith, all.same x)) in record { table = r.0; index = r.1; later = r.2; entry = r.3 }),
      λ f. omega (arith, all.same x, (all.entries x).1 (f.table, f.index, f.later, f.entry)),
    )

    given-used : t ≡ 0 → (x : ℕ) → x < slots_of s.names → used s.cells x ≡ times x all.given
    given-used z x w = held_used z x w ∙ sym (all.same x)

    pub whole : WholeWalk s t
    whole =
        record {
          given-slots = all.given;
          steps = walk;
          only = λ m h. listing_unique h walk;
          order = λ m. (λ h. listing_unique (walk_gives s fit acc t b h) walk, λ e. rw e all.order);
          entries = entries;
          once = λ x. omega (arith, all.same x, all.once x);
          all = given-used;
          count = λ z. exactly_length (slots_of s.names) all.given (λ x m. entry_inside ((entries x).0 m).entry) (used s.cells)
              (given-used z);
          agree =
              λ x. (let u = (map_claims s fit acc).at t (name_of s.names x hash_part) (name_of s.names x key_part) x b in
              (λ h. u.1 ((entries x).0 h, refl), λ e. (entries x).1 (u.0 e).0));
        }
