-- How a list is counted and printed, slot by slot, and when it is refused.
use mathlib.Core.Path.{◌≡◌, refl, ap, sym, ◌∙◌}
use mathlib.Core.Logic.{◌≢◌}
use mathlib.Core.Bool.{Bool, true}
use mathlib.Core.List.{List, ◌∷◌, ◌++◌}
use Prim.Native.Nat.{ℕ, zero, suc, ◌+◌, ◌-◌, ◌<◌, ◌≤◌}
use native.Mathlib.Omega.{arith}
use Rattle.slots.specs.Words.{null, place, next, cell, name_of, hash_part, key_part}
use Rattle.slots.specs.Answers.{Value, none, some}
use Rattle.index_rules.specs.Live.{Live, fits, first_of}
use Rattle.script_rules.specs.Text.{newline, space, decimal, entries_text}
use Rattle.script_rules.specs.Answers.{number_line, more, met, entry_line, entry_lines, list_text}
use Rattle.script_rules.specs.Feeding.{Paper, typed_one, typed}
use Rattle.script_rules.proofs.Typing.{typed_append}
use Rattle.script_rules.proofs.Listing.{met-null, met_outside, met_spent, met_on}
use Rattle.tree_rules.specs.Find.{slots_of}

-- So many were met before.
abbrev pub raised : ℕ → Value → Value
raised c (some k) = some (c + k)
raised c none = none

raised-more : (c : ℕ) (x : Value) → raised c (more x) ≡ raised (c + 1) x
raised-more c (some k) = ap some (omega arith)
raised-more c none = refl

pub raised_none : (x : Value) → raised 0 x ≡ x
raised_none (some k) = ap some (omega arith)
raised_none none = refl

-- The count so far and what is still met come to the whole.
module _ (n : ℕ) (cells : List ℕ) (i count : ℕ) {whole : Value} (so_far : raised count (met (n - count) n cells i) ≡ whole) where
  pub count_end : i ≡ null → some count ≡ whole
  count_end e = ap some (omega arith) ∙ sym (ap (raised count) (met-null (n - count) n cells i e)) ∙ so_far

  pub count_spent : i ≢ null → count ≡ n → none ≡ whole
  count_spent e h =
      let z : n - count ≡ 0 = omega arith in
      sym (ap (raised count) (ap (λ (v : ℕ). met v n cells i) z ∙ met_spent n cells i e)) ∙ so_far

  pub count_outside : i ≢ null → n ≤ i → none ≡ whole
  count_outside e h = sym (ap (raised count) (met_outside (n - count) n cells i e h)) ∙ so_far

  pub count_on : {j : ℕ} → i ≢ null → i < n → count < n → j ≡ cell cells i next
      → raised (count + 1) (met (n - (count + 1)) n cells j) ≡ whole
  count_on e h g f =
      let z : n - count ≡ suc (n - (count + 1)) = omega arith in
      ap (λ (k : ℕ). raised (count + 1) (met (n - (count + 1)) n cells k)) f
      ∙ sym (raised-more count (met (n - (count + 1)) n cells (cell cells i next)))
      ∙ sym (ap (raised count) (ap (λ (v : ℕ). met v n cells i) z ∙ met_on (n - (count + 1)) n cells i e h))
      ∙ so_far

pub ruleset counting = (count_end, count_spent, count_outside, count_on)

-- Bytes, a byte and more bytes.
typed_then : (p : Paper) (a : List ℕ) (b : ℕ) (l : List ℕ) → typed p (a ++ (b ∷ l)) ≡ typed (typed_one (typed p a) b) l
unfolding typed
typed_then p a b l = typed_append p a (b ∷ l)

pub entry_typed : (p : Paper) (names cells : List ℕ) (i : ℕ) {h k at : ℕ} {q1 q2 q3 q4 q5 q6 : Paper}
    → h ≡ name_of names i hash_part → k ≡ name_of names i key_part → at ≡ cell cells i place
    → q1 ≡ typed p (decimal h) → q2 ≡ typed_one q1 space → q3 ≡ typed q2 (decimal k) → q4 ≡ typed_one q3 space
    → q5 ≡ typed q4 (decimal at) → q6 ≡ typed_one q5 newline → q6 ≡ typed p (entry_line names cells i)
unfolding entry_line typed
entry_typed p names cells i {h} {k} {at} eh ek ep e1 e2 e3 e4 e5 e6 =
    rw (← eh, ← ek, ← ep, typed_then, typed_then, typed_then)
    (e6 ∙ ap (λ (x : Paper). typed_one x newline)
    (e5 ∙ ap (λ (x : Paper). typed x (decimal at))
    (e4
    ∙ ap (λ (x : Paper). typed_one x space)
    (e3 ∙ ap (λ (x : Paper). typed x (decimal k)) (e2 ∙ ap (λ (x : Paper). typed_one x space) e1)))))

pub entries_over : (p : Paper) (names cells : List ℕ) (left i : ℕ) → left ≤ 0 → typed p (entry_lines left names cells i) ≡ p
unfolding entry_lines typed
entries_over p names cells zero i h = refl
entries_over p names cells (suc left) i h = absurd (omega arith)

pub entries_on : (p : Paper) {q : Paper} (names cells : List ℕ) (left rest i : ℕ) {j : ℕ} → left ≡ rest + 1
    → q ≡ typed p (entry_line names cells i)
    → j ≡ cell cells i next
    → typed q (entry_lines rest names cells j) ≡ typed p (entry_lines left names cells i)
unfolding entry_lines
entries_on p names cells zero rest i h e f = absurd (omega arith)
entries_on p names cells (suc left) rest i h e f =
    let z : rest ≡ left = omega arith in
    rw (e, f, z) (sym (typed_append p _ _))

pub ruleset entries = (entries_on, entries_over)

-- A list that is printed whole.
pub list_all : (p : Paper) (t : Live) {b : Bool} → b ≡ fits t → b ≡ true → {first : ℕ} → first ≡ first_of t → {c : ℕ} {q r : Paper}
    → some c ≡ met (slots_of t.names) (slots_of t.names) t.cells first
    → q ≡ typed p (number_line entries_text c)
    → r ≡ typed q (entry_lines c t.names t.cells first) → r ≡ typed p (list_text t)
unfolding list_text
list_all p t f y {first} at {c} m e g =
    rw (← f, y, ← at, ← m, ← at)
    (g ∙ ap (λ (x : Paper). typed x (entry_lines c t.names t.cells first)) e ∙ sym (typed_append p (number_line entries_text c) _))
