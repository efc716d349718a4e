-- What is written one after another is the text, on plain values.
use mathlib.Core.Path.{◌≡◌, refl, ap, sym, ◌∙◌}
use mathlib.Core.Logic.{◌≢◌}
use mathlib.Core.Bool.{Bool, true, false}
use mathlib.Core.List.{List, [], ◌∷◌, ◌++◌}
use Prim.Native.Nat.{ℕ, zero, suc, ◌+◌, ◌-◌, ◌*◌, ◌<◌, ◌≤◌}
use lib.ListN.{drop}
use native.Mathlib.Numerals.{add-one, sub-one}
use native.Mathlib.Omega.{arith}
use borrow.Author.Tests.{eq-eqb, ne_eqb, le-leb, lt-leb}
use Rattle.slots.specs.Words.{null, parent, left, right, cell}
use Rattle.tree_rules.specs.Check.{red_slot}
use Rattle.script_rules.specs.Letters.{letters}
use Rattle.script_rules.specs.Feeding.{Paper, typed}
use Rattle.script_rules.proofs.Typing.{typed_append}
use Rattle.index_rules.specs.Live.{Live}
use Rattle.index_rules.specs.Index.{Index, length_of, line_words}
use Rattle.night_rules.specs.Account.{Account}
use Rattle.night_rules.specs.Breach.{Breach}
use Rattle.night_rules.specs.Finding.{Finding, examined}
use Rattle.script_rules.specs.Blanks.{says}
use Rattle.dump_rules.specs.Sentence.{sentence, opening, step_text, down_to, onward, way_text, both_ways, broken_text, finding_text}
use Rattle.dump_rules.specs.Sentence.{tree_text}
use Rattle.dump_rules.specs.Sentence.{index_text, measure_text, why_text}
use Rattle.dump_rules.specs.Dump.{dump_size, Measure, short, long, measured, loaded_as, loaded}

-- Texts one after another.
pub then : (p : Paper) {q r : Paper} (l m : List ℕ) → q ≡ typed p l → r ≡ typed q m → r ≡ typed p (l ++ m)
then p l m e f = f ∙ ap (λ (x : Paper). typed x m) e ∙ sym (typed_append p l m)

pub nothing-more : (p : Paper) → p ≡ typed p []
unfolding typed
nothing-more p = refl

-- A slot with its colour.
module _ (cells : List ℕ) (i : ℕ) {b : Bool} (is : b ≡ red_slot cells i) where
  pub step_red : b ≡ true → says "# red" (i ∷ []) ≡ step_text cells i
  unfolding step_text
  step_red h = rw (← is, h)

  pub step_black : b ≡ false → says "# black" (i ∷ []) ≡ step_text cells i
  unfolding step_text
  step_black h = rw (← is, h)

-- Down to a slot: from no further up, and from its parent.
module _ (cells : List ℕ) (i : ℕ) where
  pub down_end : (budget : ℕ) → budget ≡ 0 → step_text cells i ≡ down_to budget cells i
  unfolding down_to
  down_end zero e = refl
  down_end (suc b) e = absurd (omega arith)

  module _ {p : ℕ} (is : p ≡ cell cells i parent) where
    pub down_root : (budget : ℕ) → p ≡ null → step_text cells i ≡ down_to budget cells i
    unfolding down_to
    down_root zero z = refl
    down_root (suc b) z = rw (← is, eq-eqb p null z)

    pub down_more : (budget : ℕ) → budget ≢ 0 → p ≢ null
        → down_to (budget - 1) cells p ++ (letters ", " ++ step_text cells i) ≡ down_to budget cells i
    unfolding down_to
    down_more zero d z = absurd (d refl)
    down_more (suc b) d z = rw (sub-one, down_to, ← is, ne_eqb p null z)

  -- On by left links.
  pub on_out : (budget : ℕ) → budget ≤ 0 → [] ≡ onward budget cells i
  unfolding onward
  on_out zero h = refl
  on_out (suc b) h = absurd (omega arith)

  pub on_end : (budget : ℕ) → i ≡ null → [] ≡ onward budget cells i
  unfolding onward
  on_end zero z = refl
  on_end (suc b) z = rw (eq-eqb i null z)

  pub on_more : (budget rest : ℕ) {l : ℕ} → budget ≡ rest + 1 → i ≢ null → l ≡ cell cells i left
      → letters ", " ++ (step_text cells i ++ onward rest cells l) ≡ onward budget cells i
  unfolding onward
  on_more budget rest h d e = rw (h, add-one, onward, ne_eqb i null d, ← e)

-- A turn of the loop: a comma, the slot, and the rest.
pub on_turn : (p : Paper) (cells : List ℕ) (i budget rest : ℕ) {q r : Paper} {l : ℕ} → budget ≡ rest + 1 → i ≢ null
    → q ≡ typed p (letters ", ") → r ≡ typed q (step_text cells i) → l ≡ cell cells i left
    → typed r (onward rest cells l) ≡ typed p (onward budget cells i)
on_turn p cells i budget rest h d e f g =
    then p (letters ", ") _ e (then _ (step_text cells i) _ f refl) ∙ ap (typed p) (on_more cells i budget rest h d g)

-- A way whole, and both.
pub way_whole : (p : Paper) (n : ℕ) (cells : List ℕ) (i f : ℕ) {q r s u : Paper} {l : ℕ} → q ≡ typed p (says "%: " (f ∷ []))
    → r ≡ typed q (down_to n cells i) → l ≡ cell cells i f → s ≡ typed r (onward n cells l) → u ≡ typed s (letters "\n")
    → u ≡ typed p (way_text n cells i f)
unfolding way_text
way_whole p n cells i f {r = r} a b c d e =
    let rest = d ∙ ap (λ l. typed r (onward n cells l)) c in
    then p _ _ a (then _ (down_to n cells i) _ b (then r (onward n cells (cell cells i f)) (letters "\n") rest e))

pub both_ways_lem : (p : Paper) (n : ℕ) (cells : List ℕ) (i : ℕ) {q r : Paper} → q ≡ typed p (way_text n cells i left)
    → r ≡ typed q (way_text n cells i right) → r ≡ typed p (both_ways n cells i)
unfolding both_ways
both_ways_lem p n cells i a b = then p _ _ a b

-- The opening of a line.
module _ (rule slot : ℕ) where
  pub opens_header : slot ≡ null → says "T# header: " (rule ∷ (slot ∷ [])) ≡ opening rule slot
  unfolding opening
  opens_header z = rw (eq-eqb slot null z)

  pub opens_slot : slot ≢ null → says "T# slot #: " (rule ∷ (slot ∷ [])) ≡ opening rule slot
  unfolding opening
  opens_slot z = rw (ne_eqb slot null z)

-- How a rule is broken, with the two ways and without.
module _ (p : Paper) (n : ℕ) (cells : List ℕ) (w : Account) (b : Breach) {q r : Paper} (opened : q ≡ typed p (opening w.rule w.slot))
    (said : r ≡ typed q (sentence b)) where
  pub broken_ways : {s : Paper} → w.rule ≡ 6 → s ≡ typed r (both_ways n cells w.slot) → s ≡ typed p (broken_text n cells w b)
  unfolding broken_text
  broken_ways e f =
      rw (eq-eqb w.rule 6 e)
      (then p (opening w.rule w.slot) _ opened (then q (sentence b) (both_ways n cells w.slot) said f))

  pub broken_plain : w.rule ≢ 6 → r ≡ typed p (broken_text n cells w b)
  unfolding broken_text
  broken_plain d =
      rw (ne_eqb w.rule 6 d) (then p (opening w.rule w.slot) _ opened (then q (sentence b) [] said (nothing-more r)))

pub found_text_lem : (t : Live) {f : Finding} → f ≡ examined t → finding_text t f ≡ tree_text t
unfolding tree_text
found_text_lem t e = ap (finding_text t) e

-- The journal's length is within its lines, or passes them.
module _ (ix : Index) (c : ℕ) {j : ℕ} (is : j ≡ length_of ix.lines) where
  pub within_lines : j ≤ c → tree_text ix.live ≡ index_text c ix
  unfolding index_text
  within_lines h = rw (← is, le-leb j c h)

  pub past_lines : c < j → says "unfit: the journal's length # passes its # lines\n" (j ∷ (c ∷ [])) ≡ index_text c ix
  unfolding index_text
  past_lines h = rw (← is, lt-leb j c h)

pub measured_text : (l : List ℕ) {m : Measure} → m ≡ measured l → measure_text l m ≡ why_text l
unfolding why_text
measured_text l e = ap (measure_text l) e

-- The slices are as long as an index's of n slots and c lines.
pub loaded_fronts : (l : List ℕ) (n c : ℕ) {names cells head sizes lines : ℕ} → names ≡ 2 * n → cells ≡ 7 * n → head ≡ 3 → sizes ≡ n
    → lines ≡ 1 + line_words * c
    → loaded_as names cells head sizes lines (drop 8 l) ≡ loaded n c l
loaded_fronts l n c a b d e f = rw (a, b, d, e, f)

-- The size that was computed is the dump's.
pub short_text : (l : List ℕ) (b n c : ℕ) {size : ℕ} → size ≡ dump_size n c → short b n c ≡ measured l
    → says "short: # bytes, and a dump of # slots and # lines has #\n" (b ∷ (n ∷ (c ∷ (size ∷ [])))) ≡ why_text l
short_text l b n c e f = rw e (measured_text l f)

pub long_text : (l : List ℕ) (n c : ℕ) {size : ℕ} → size ≡ dump_size n c → long n c ≡ measured l
    → says "long: more bytes than the # of a dump of # slots and # lines\n" (size ∷ (n ∷ (c ∷ []))) ≡ why_text l
long_text l n c e f = rw e (measured_text l f)
