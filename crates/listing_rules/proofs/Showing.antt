-- The steps of the whole walk give the entries, and each has its line.
use mathlib.Core.Path.{◌≡◌, refl}
use mathlib.Core.Bool.{Bool, true, false}
use mathlib.Core.List.{List, [], ◌∷◌, ◌++◌}
use Prim.Native.Nat.{ℕ, zero, suc, ◌+◌, ◌-◌, ◌≤◌}
use native.Mathlib.Omega.{arith}
use lib.ListN.{length}
use lib.Dec.{eqb}
use borrow.Author.Tests.{eq-eqb}
use Rattle.slots.specs.Words.{pick, cell, state, free}
use Rattle.tree_rules.specs.Find.{slots_of}
use Rattle.tree_rules.specs.Tree.{times}
use Rattle.tree_rules.specs.Chain.{tally}
use Rattle.index_rules.specs.Sound.{used}
use Rattle.script_rules.specs.Blanks.{blanks_filled, piece, is_blank}
use Rattle.set_rules.specs.Words.{Set, Fit}
use Rattle.set_rules.specs.Accepted.{Accepted}
use Rattle.set_rules.specs.Held.{EntryFrom}
use Rattle.set_rules.specs.Cursor.{Cursor}
use Rattle.set_rules.specs.Walk.{nexts}
use Rattle.set_rules.specs.Whole.{Listing, done, step}
use Rattle.set_rules.proofs.Claims as set-rules
use Rattle.listing_rules.specs.Lines.{slot_line, walk_lines, counts_line, set_text}
use Rattle.listing_rules.specs.PlacedLines.{PlacedLines, over, line}
use Rattle.listing_rules.specs.Claims.{SetShown}
use Rattle.listing_rules.proofs.Homing.{at_home}

first_there : (x : ℕ) (l : List ℕ) → 1 ≤ times x (x ∷ l)
unfolding times
first_there x l = rw (eq-eqb x x refl) (omega arith)

still_there : (y x : ℕ) (l : List ℕ) → 1 ≤ times y l → 1 ≤ times y (x ∷ l)
unfolding times
still_there y x l m = omega (arith, m)

used_one : (cells : List ℕ) (x : ℕ) → used cells x ≤ 1
used_one cells x = go (eqb (cell cells x state) free)
  where
    go : (b : Bool) → pick b 0 1 ≤ 1
    go true = omega arith
    go false = omega arith

tally_within : (n : ℕ) (cells : List ℕ) → tally n (used cells) ≤ n
unfolding tally
tally_within zero cells = omega arith
tally_within (suc n) cells = omega (arith, used_one cells n, tally_within n cells)

module _ (s : Set) where
  -- The slots of a walk as lines.
  slot_lines : List ℕ → List ℕ
  slot_lines [] = []
  slot_lines (x ∷ l) = slot_line s x ++ slot_lines l

  walked_lines : {c : Cursor} {l : List ℕ} (n : ℕ) → Listing s c l → length l ≤ n → walk_lines n s c ≡ slot_lines l
  unfolding walk_lines slot_lines
  walked_lines zero (done e) h = refl
  walked_lines (suc n) (done e) h = rw e
  walked_lines zero (step e r) h = absurd (omega arith)
  walked_lines {c = c} (suc n) (step e r) h = rw (e, walked_lines {c = (nexts s c).cursor} n r (omega arith))

  module _ (fit : Fit s) (acc : Accepted s) where
    placed : (l : List ℕ) → ((x : ℕ) → 1 ≤ times x l → EntryFrom s 0 x) → PlacedLines s l (slot_lines l)
    unfolding slot_lines slot_line blanks_filled piece is_blank
    placed [] h = over
    placed (x ∷ l) h = line (at_home s fit acc x (h x (first_there x l))) (placed l (λ y m. h y (still_there y x l m)))

    pub shown : SetShown s (set_text s)
    unfolding set_text counts_line blanks_filled piece is_blank
    shown =
        let w = (set-rules.claims).walked.whole_walk s fit acc 0 (omega (arith, fit.least)) in
        let few : length w.given-slots ≤ slots_of s.names =
        omega (arith, w.count refl, tally_within (slots_of s.names) s.cells) in
        record {
          walk = w.given-slots;
          steps = w.steps;
          order = (w.order w.given-slots).1 refl;
          entries = w.entries;
          once = w.once;
          lines = slot_lines w.given-slots;
          placed = placed w.given-slots (λ x m. (w.entries x).0 m);
          whole = rw (((set-rules.claims).judged.fitness s).1 fit, walked_lines (slots_of s.names) w.steps few, ← w.count refl);
        }
