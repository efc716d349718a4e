-- Zeros are written one word after another: what is still to be zeroed from here is what was to be from the start.
use mathlib.Core.Path.{◌≡◌, ◌∙◌}
use mathlib.Core.List.{List, [], ◌∷◌, ◌++◌, append-nil, append_assoc}
use Prim.Native.Nat.{ℕ, suc, ◌+◌, ◌-◌, ◌*◌, ◌<◌, ◌≤◌}
use native.Mathlib.Omega.{arith}
use native.Mathlib.Numerals.{add-one}
use lib.ListN.{length, set, take, replicate, length-set}
use lib.Seq.{take_all, take-suc-set}
use Rattle.slots.specs.Answers.{Answer}
use Rattle.set_rules.specs.Words.{Set, lent_set}
use Rattle.file_rules.specs.Loader.{Loader, count_taken, note_in}
use Rattle.file_rules.specs.Loading.{loading, zeros_for, rest_zeroed, rests_zeroed, load_refused}

-- The words from one on become a value.
abbrev pub rest_filled : {A : Type 0} → A → ℕ → List A → List A
rest_filled v n l = take n l ++ replicate (length l - n) v

pub rest_on : {A : Type 0} (v : A) (l : List A) (i : ℕ) → i < length l → rest_filled v (i + 1) (set l i v) ≡ rest_filled v i l
rest_on v l i h =
    let long = length-set l i v in
    let more : length l - i ≡ suc (length l - suc i) = omega arith in
    rw (add-one i, long, more, take-suc-set l i v h) (append_assoc (take i l) (v ∷ []) (replicate (length l - suc i) v))

pub rest_end : {A : Type 0} (v : A) (l : List A) (i : ℕ) → length l ≤ i → rest_filled v i l ≡ l
rest_end v l i h = let none : length l - i ≡ 0 = omega arith in rw (none, take_all i l h) (append-nil l)

zeros_all : (l : List ℕ) → rest_zeroed 0 l ≡ zeros_for l
zeros_all l = let all : length l - 0 ≡ length l = omega arith in rw all

module _ (r : Loader) (t : Set) {a b c d e : List ℕ} where
  pub rests_zeroed_lem : a ≡ rest_zeroed (count_taken r 0) t.lengths → b ≡ rest_zeroed (count_taken r 1) t.bins
      → c ≡ rest_zeroed (3 * count_taken r 2) t.heads
      → d ≡ rest_zeroed (2 * count_taken r 3) t.names
      → e ≡ rest_zeroed (7 * count_taken r 3) t.cells
      → lent_set a b c d e ≡ rests_zeroed r t
  unfolding rests_zeroed
  rests_zeroed_lem ea eb ec ed ee = λ i. lent_set (ea i) (eb i) (ec i) (ed i) (ee i)

  pub refused_zeroed : (x : Answer) → a ≡ rest_zeroed 0 t.lengths → b ≡ rest_zeroed 0 t.bins → c ≡ rest_zeroed 0 t.heads
      → d ≡ rest_zeroed 0 t.names
      → e ≡ rest_zeroed 0 t.cells
      → {q : Loader}
      → q ≡ note_in r x
      → loading q (lent_set a b c d e) ≡ load_refused r t x
  unfolding load_refused
  refused_zeroed x ea eb ec ed ee eq =
      let ga = ea ∙ zeros_all t.lengths in
      let gb = eb ∙ zeros_all t.bins in
      let gc = ec ∙ zeros_all t.heads in
      let gd = ed ∙ zeros_all t.names in
      let ge = ee ∙ zeros_all t.cells in
      λ i. loading (eq i) (lent_set (ga i) (gb i) (gc i) (gd i) (ge i))
