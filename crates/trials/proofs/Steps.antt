-- How the code goes: a part byte by byte, the input call by call, and what is left to play from a place on.
use mathlib.Core.Path.{◌≡◌, refl, ap, sym, ◌∙◌}
use mathlib.Core.Logic.{◌≢◌, ◌⊎◌}
use mathlib.Core.Bool.{true, false, false≢true}
use mathlib.Core.List.{List}
use Prim.Native.Nat.{ℕ, zero, suc, ◌+◌, ◌-◌, ◌<◌, ◌≤◌}
use native.Mathlib.Numerals.{add-one}
use native.Mathlib.Omega.{arith}
use lib.ListN.{length, take, drop, get_or, length-drop}
use lib.Seq.{take_all, drop-drop}
use borrow.Author.Tests.{lt-ltb, le-ltb, eq-eqb, ne_eqb}
use Rattle.index_rules.specs.Index.{Index}
use Rattle.script_rules.specs.Feeding.{Line, blank_line, Desk, Fed, feeds, finishes, desk_of}
use Rattle.script_rules.proofs.Reading.{from, past}
use Rattle.std.specs.Prelude.{Ok, Err}
use Rattle.trials.proofs.Agreeing.{no_test}
use Rattle.trials.specs.Playing.{Met, all_same, how_far, agreed, met_by, Played, played_by, cleared, plays, playing}

-- A piece that is all of the rest.
pub fed_all : (cut : ℕ) (rest : List ℕ) (d : Desk) {f : Fed} → length rest ≤ cut → f ≡ feeds rest d → f ≡ feeds (take cut rest) d
fed_all cut rest d h e = e ∙ ap (λ (l : List ℕ). feeds l d) (sym (take_all cut rest h))

-- No is said with a place.
pub unlike : (m : Met) → all_same m ≡ false → m ≡ Err (how_far m)
unlike (Ok n) s = absurd (false≢true (sym s))
unlike (Err n) s = refl

module _ (expected : List ℕ) (at : ℕ) (part : List ℕ) (i : ℕ) where
  pub agreed-over : length part ≤ i → ◌≡◌ {A = Met} (Ok at) (agreed expected at (drop i part))
  unfolding agreed
  agreed-over h = rw (past part i h)

  module _ (h : i < length part) where
    pub agreed-other : (length expected ≤ at) ⊎ (get_or expected at 0 ≢ get_or part i 0)
        → ◌≡◌ {A = Met} (Err at) (agreed expected at (drop i part))
    unfolding agreed
    agreed-other o = rw (from part i h, no_test expected at (get_or part i 0) o)

    pub agreed_on : at < length expected → get_or expected at 0 ≡ get_or part i 0
        → agreed expected (at + 1) (drop (i + 1) part) ≡ agreed expected at (drop i part)
    unfolding agreed
    agreed_on e b = rw (from part i h, lt-ltb _ _ e, eq-eqb _ _ b, add-one at)

module _ (cut : ℕ) (expected rest : List ℕ) (said : ℕ) (d : Desk) {f : Fed} {m : Met} where
  plays-over : (n : ℕ) → length rest ≡ 0 → f ≡ finishes d → m ≡ met_by expected said f → played_by m f ≡ plays n cut expected rest said d
  unfolding plays
  plays-over zero h e g = rw (g, e)
  plays-over (suc n) h e g = rw (eq-eqb _ _ h, g, e)

  module _ (n : ℕ) (h : 0 < length rest) (e : f ≡ feeds (take cut rest) d) (g : m ≡ met_by expected said f) where
    plays-other : all_same m ≡ false → played_by m f ≡ plays (suc n) cut expected rest said d
    unfolding plays
    plays-other s = rw (← e, ← g, ne_eqb (length rest) 0 (omega arith), s) (ap (λ (x : Met). played_by x f) (unlike m s))

    plays_stuck : all_same m ≡ true → f.taken ≡ 0 → played_by (Err (how_far m)) f ≡ plays (suc n) cut expected rest said d
    unfolding plays
    plays_stuck s t = rw (← e, ← g, ne_eqb (length rest) 0 (omega arith), s, le-ltb 0 f.taken (omega arith))

    plays_on : all_same m ≡ true → 0 < f.taken
        → plays n cut expected (drop f.taken rest) (how_far m) (cleared f) ≡ plays (suc n) cut expected rest said d
    unfolding plays
    plays_on s t = rw (← e, ← g, ne_eqb (length rest) 0 (omega arith), s, lt-ltb 0 f.taken t)

-- So many calls from here come to what they all come to, and they are enough for the rest of the input.
pub record Left (cut : ℕ) (expected input : List ℕ) (at said : ℕ) (d : Desk) (all : Played) : Type 0 where
  calls : ℕ
  enough : length input ≤ at + calls
  same : plays calls cut expected (drop at input) said d ≡ all

pub left_start : (cut : ℕ) (expected input : List ℕ) (ix : Index) (out : List ℕ) {line : Line} → line ≡ blank_line
    → Left cut expected input 0 0 (desk_of line ix out) (playing cut expected input ix out)
left_start cut expected input ix out e = record {
  calls = length input;
  enough = omega arith;
  same = ap (λ (l : Line). plays (length input) cut expected input 0 (desk_of l ix out)) e;
}

module _ (cut : ℕ) (expected input : List ℕ) (at said : ℕ) (d : Desk) {all : Played} {f : Fed} {m : Met}
    (left : Left cut expected input at said d all) where
  pub left_over : length input ≤ at → f ≡ finishes d → m ≡ met_by expected said f → played_by m f ≡ all
  left_over h e g = plays-over cut expected (drop at input) said d left.calls (simp length-drop (omega arith)) e g ∙ left.same

  module _ (h : at < length input) (e : f ≡ feeds (take cut (take (length input - at) (drop at input))) d)
      (g : m ≡ met_by expected said f) where
    some : 0 < length (drop at input)
    some = simp length-drop (omega arith)

    -- The rest of the input is lent by its length.
    piece : f ≡ feeds (take cut (drop at input)) d
    piece = e ∙ ap (λ (l : List ℕ). feeds (take cut l) d) (take_all (length input - at) (drop at input) (simp length-drop (omega arith)))

    pub left_other : all_same m ≡ false → played_by m f ≡ all
    left_other s = go left.calls left.enough left.same
      where
        go : (n : ℕ) → length input ≤ at + n → plays n cut expected (drop at input) said d ≡ all → played_by m f ≡ all
        go zero k p = absurd (omega arith)
        go (suc n) k p = plays-other cut expected (drop at input) said d n some piece g s ∙ p

    pub left_stuck : all_same m ≡ true → f.taken ≡ 0 → played_by (Err (how_far m)) f ≡ all
    left_stuck s t = go left.calls left.enough left.same
      where
        go : (n : ℕ) → length input ≤ at + n → plays n cut expected (drop at input) said d ≡ all
            → played_by (Err (how_far m)) f ≡ all
        go zero k p = absurd (omega arith)
        go (suc n) k p = plays_stuck cut expected (drop at input) said d n some piece g s t ∙ p

    pub left_on : all_same m ≡ true → 0 < f.taken → Left cut expected input (at + f.taken) (how_far m) (cleared f) all
    left_on s t = go left.calls left.enough left.same
      where
        go : (n : ℕ) → length input ≤ at + n → plays n cut expected (drop at input) said d ≡ all
            → Left cut expected input (at + f.taken) (how_far m) (cleared f) all
        go zero k p = absurd (omega arith)
        go (suc n) k p = record {
          calls = n;
          enough = omega arith;
          same = ap (λ (l : List ℕ). plays n cut expected l (how_far m) (cleared f)) (sym (drop-drop f.taken at input))
              ∙ plays_on cut expected (drop at input) said d n some piece g s t ∙ p;
        }
