-- How long an answer can be, and that what there is room for is written whole.
use mathlib.Core.Path.{◌≡◌, refl, ap, sym, ◌∙◌}
use mathlib.Core.Bool.{Bool, true, false}
use mathlib.Core.List.{List, [], ◌∷◌, ◌++◌, append_assoc, append-nil}
use Prim.Native.Nat.{ℕ, zero, suc, ◌+◌, ◌*◌, ◌/◌, ◌%◌, ◌≤◌}
use native.Mathlib.Numerals.{add-one}
use native.Mathlib.Omega.{arith}
use lib.ListN.{length, take, set, length-append, length-set}
use lib.Seq.{take-suc-set}
use lib.Dec.{eqb, ltb}
use borrow.Author.Tests.{lt-ltb}
use Rattle.slots.specs.Words.{null, pick, place, next, cell, name_of, hash_part, key_part}
use Rattle.slots.specs.Answers.{Answer, Value, none, some}
use Rattle.index_rules.specs.Live.{Live, unsized_of, fits, first_of}
use Rattle.index_rules.specs.Index.{Index, fits_index}
use Rattle.index_rules.specs.Find.{finds}
use Rattle.index_rules.proofs.Fit.{fits_fit, half}
use Rattle.script_rules.specs.Text.{digits, space, no_text, mark_text}
use Rattle.script_rules.specs.Commands.{Command, insert, remove, find, rollback, mark, list, bad}
use Rattle.script_rules.specs.Answers.{numbered, number_line, value_line, told, found_value, found_text, search_line, more, met, entry_line}
use Rattle.script_rules.specs.Answers.{entry_lines, counting, list_text, marking, carried_out}
use Rattle.script_rules.specs.Feeding.{Paper, typed_one, typed, longest}
use Rattle.tree_rules.specs.Find.{Counted, counted, slots_of}

pub digits_short : (k x : ℕ) → length (digits k x) ≤ k
unfolding digits
digits_short zero x = omega arith
digits_short (suc k) x = go (digits_short k (x / 10)) (ltb x 10)
  where
    go : length (digits k (x / 10)) ≤ k → (t : Bool) → length (pick t ((48 + x) ∷ []) (digits k (x / 10) ++ ((48 + x % 10) ∷ []))) ≤ suc k
    go h true = omega arith
    go h false = simp length-append (omega arith)

pub line_short : (word : List ℕ) (v : ℕ) → length (number_line word v) ≤ length word + 21
line_short word v = simp length-append (omega (arith, digits_short 20 v))

told_short : (word : List ℕ) (a : Answer) → length word ≤ 8 → length (told word a) ≤ longest
unfolding told
told_short word a h = go (eqb a.number 0) a.value
  where
    go : (t : Bool) (v : Value) → length (pick t (value_line word v) (number_line no_text a.number)) ≤ longest
    go true (some v) = omega (arith, line_short word v)
    go true none = omega arith
    go false v = omega (arith, line_short no_text a.number)

search_short : (c : Counted) → length (search_line c) ≤ 50
unfolding search_line found_text
search_short c = go (eqb c.answer.number 1) (eqb c.answer.number 0) c.answer.value _ _
  where
    front : (t : Bool) (v : Value) (number : ℕ) → length (pick t (found_value v) (numbered no_text number)) ≤ 23
    front true (some v) number = simp length-append (omega (arith, digits_short 20 v))
    front true none number = omega arith
    front false v number = simp length-append (omega (arith, digits_short 20 number))

    go : (u t : Bool) (v : Value) (number looks : ℕ)
        → length (pick u (number_line no_text 1) (pick t (found_value v) (numbered no_text number) ++ number_line (space ∷ []) looks)) ≤ 50
    go true t v number looks = omega (arith, line_short no_text 1)
    go false t v number looks =
        omega (
          arith,
          front t v number,
          line_short (space ∷ []) looks,
          length-append (pick t (found_value v) (numbered no_text number)) (number_line (space ∷ []) looks),
        )

entry_short : (names cells : List ℕ) (i : ℕ) → length (entry_line names cells i) ≤ 63
unfolding entry_line
entry_short names cells i =
    simp length-append (omega (
      arith,
      digits_short 20 (name_of names i hash_part),
      digits_short 20 (name_of names i key_part),
      digits_short 20 (cell cells i place),
    ))

entries_short : (c : ℕ) (names cells : List ℕ) (i : ℕ) → length (entry_lines c names cells i) ≤ 63 * c
unfolding entry_lines
entries_short zero names cells i = omega arith
entries_short (suc c) names cells i =
    simp length-append (omega (arith, entry_short names cells i, entries_short c names cells (cell cells i next)))

-- No more slots are met than there are visits.
met_few : (v n : ℕ) (cells : List ℕ) (i : ℕ) {c : ℕ} → met v n cells i ≡ some c → c ≤ v
unfolding met
met_few zero n cells i e = go (eqb i null) e
  where
    go : {c : ℕ} (t : Bool) → pick t (some 0) none ≡ some c → c ≤ 0
    go {c} true f = let z : 0 ≡ c = cc in omega arith
    go {c} false f = let z : ◌≡◌ {A = ℕ} 0 1 = cc in absurd (omega arith)
met_few (suc v) n cells i {c} e =
    go (λ d q. met_few v n cells (cell cells i next) q) (eqb i null) (ltb i n) (met v n cells (cell cells i next)) refl e
  where
    go : ((d : ℕ) → met v n cells (cell cells i next) ≡ some d → d ≤ v) → (s t : Bool) (r : Value) → met v n cells (cell cells i next) ≡ r
        → pick s (some 0) (pick t (more r) none) ≡ some c → c ≤ suc v
    go again true t r q f = let z : 0 ≡ c = cc in omega arith
    go again false true (some d) q f = let z : suc d ≡ c = cc in omega (arith, again d q)
    go again false true none q f = let z : ◌≡◌ {A = ℕ} 0 1 = cc in absurd (omega arith)
    go again false false r q f = let z : ◌≡◌ {A = ℕ} 0 1 = cc in absurd (omega arith)

pub listing_short : (t : Live) → length (list_text t) ≤ longest
unfolding list_text
listing_short t = go (fits t) refl (met (slots_of t.names) (slots_of t.names) t.cells (first_of t)) refl
  where
    go : (b : Bool) → fits t ≡ b → (r : Value) → met (slots_of t.names) (slots_of t.names) t.cells (first_of t) ≡ r
        → length (pick b (counting t r) (number_line no_text 1)) ≤ longest
    go true f (some c) q =
        let fit = fits_fit t f in
        simp length-append
        (omega (
          arith,
          digits_short 20 c,
          entries_short c t.names t.cells (first_of t),
          met_few (slots_of t.names) (slots_of t.names) t.cells (first_of t) q,
          half fit,
          fit.most,
        ))
    go true f none q = omega (arith, line_short no_text 9)
    go false f r q = omega (arith, line_short no_text 1)

marking_short : (ix : Index) → length (marking ix) ≤ longest
unfolding marking
marking_short ix = go (fits_index ix) _
  where
    go : (b : Bool) (v : ℕ) → length (pick b (number_line mark_text v) (number_line no_text 1)) ≤ longest
    go true v = omega (arith, line_short mark_text v)
    go false v = omega (arith, line_short no_text 1)

-- No answer is longer than `longest`.
pub answer_short : (ix : Index) (c : Command) → length (carried_out ix c).text ≤ longest
unfolding carried_out
answer_short ix (insert h k p) = told_short _ _ (omega arith)
answer_short ix (remove h k) = told_short _ _ (omega arith)
answer_short ix (find h k) = omega (arith, search_short (counted (finds (unsized_of ix.live) h k)))
answer_short ix (rollback m) = told_short _ _ (omega arith)
answer_short ix mark = marking_short ix
answer_short ix list = listing_short ix.live
answer_short ix bad = omega arith

-- With room for all of them, the bytes stand behind what was there.
pub record Whole (p : Paper) (l : List ℕ) : Type 0 where
  pub at : (typed p l).at ≡ p.at + length l
  pub long : length (typed p l).bytes ≡ length p.bytes
  pub behind : take (typed p l).at (typed p l).bytes ≡ take p.at p.bytes ++ l

pub typed_whole : (p : Paper) (l : List ℕ) → p.at + length l ≤ length p.bytes → Whole p l
unfolding typed
typed_whole p [] h = record { at = omega arith; long = refl; behind = sym (append-nil _) }
typed_whole p (b ∷ l) h = step (typed_whole (record { bytes = set p.bytes p.at b; at = p.at + 1 }) l)
  where
    step : (p.at + 1 + length l ≤ length (set p.bytes p.at b)
        → Whole (record { bytes = set p.bytes p.at b; at = p.at + 1 }) l)
        → Whole p (b ∷ l)
    step again =
        let next : Paper = record { bytes = set p.bytes p.at b; at = p.at + 1 } in
        let e : typed_one p b ≡ next = simp (lt-ltb p.at (length p.bytes) (omega arith)) in
        let f : typed (typed_one p b) l ≡ typed next l = ap (λ (q : Paper). typed q l) e in
        let r = again (simp length-set (omega arith)) in
        record {
          at = ap (λ (q : Paper). q.at) f ∙ r.at ∙ omega arith;
          long = ap (λ (q : Paper). length q.bytes) f ∙ r.long ∙ length-set p.bytes p.at b;
          behind = ap (λ (q : Paper). take q.at q.bytes) f ∙ r.behind
              ∙ rw (add-one p.at, take-suc-set p.bytes p.at b (omega arith)) (append_assoc (take p.at p.bytes) (b ∷ []) l);
        }
