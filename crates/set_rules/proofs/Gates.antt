-- The order of refusals: 1, then 10 or 11, then what the words say.
use mathlib.Core.Path.{◌≡◌, refl, ap, sym, ◌∙◌}
use mathlib.Core.Bool.{Bool, true, false}
use Prim.Native.Nat.{ℕ, ◌-◌, ◌<◌, ◌≤◌}
use native.Mathlib.Decide.{dec_lt}
use native.Mathlib.Omega.{arith}
use borrow.Author.Tests.{lt-ltb, le-ltb}
use Rattle.slots.specs.Words.{null}
use Rattle.slots.specs.Answers.{Answer, given, nothing, refused}
use Rattle.slots.proofs.Laws.{number, given_is, nothing-given}
use Rattle.tree_rules.proofs.Trail.{answers, looks}
use Rattle.set_rules.specs.Words.{Set, tables_of, Fit, fits}
use Rattle.set_rules.proofs.Fit.{fits_fit, fit_fits}
use Rattle.set_rules.specs.Lookup.{lookups, Astray, Hit, Miss}
use Rattle.set_rules.specs.Cursor.{Cursor, Step, lone, blank_cursor, starts, BadCursor, fine_cursor}
use Rattle.set_rules.specs.Walk.{InTables, standing, steps_on, nexts}
use Rattle.set_rules.specs.Ways.{Steps}
use Rattle.set_rules.specs.Walked.{Lookups, Starts}
use Rattle.set_rules.proofs.Looks.{lookup_most}
use Rattle.set_rules.proofs.Looking.{Outcome, outcome, astray_nine, hit-given, miss_nothing, unfit_one, unknown_ten, known_loop}
use Rattle.set_rules.proofs.Looking.{fitted}
use Rattle.set_rules.proofs.Cursors.{Right, fine-right, right-stands, right-not_bad, wrong_bad}
use Rattle.set_rules.proofs.Stepping.{steps_walked}
use Rattle.tree_rules.specs.Find.{slots_of}

-- Which gate a lookup passes.
data Gate (s : Set) (t hash key : ℕ) : Answer → Type 0 where
  first : (Fit s → ⊥) → Gate s t hash key (refused 1)
  second : Fit s → tables_of s ≤ t → Gate s t hash key (refused 10)
  through : Fit s → (l : t < tables_of s) → {a : Answer} → Outcome s t hash key l a → Gate s t hash key a

gate : (s : Set) (t hash key : ℕ) → Gate s t hash key (lookups s t hash key).answer
gate s t hash key = go (fitted s t hash key) (dec_lt t (tables_of s))
  where
    go : Dec (Fit s) → Dec (t < tables_of s) → Gate s t hash key (lookups s t hash key).answer
    go (no n) d = rw (unfit_one s t hash key n) (first n)
    go (yes fit) (no d) = rw (unknown_ten s t hash key fit (omega arith)) (second fit (omega arith))
    go (yes fit) (yes l) = rw (known_loop s t hash key fit l) (through fit l (outcome s t hash key l))

module _ (s : Set) (t hash key : ℕ) where
  is_one : {a : Answer} → Gate s t hash key a → a ≡ refused 1 → Fit s → ⊥
  is_one (first n) e = n
  is_one (second fit l) e = absurd (omega (arith, number e))
  is_one (through fit l (Outcome.lost h)) e = absurd (omega (arith, number e))
  is_one (through fit l (Outcome.hit h)) e = absurd (omega (arith, number e))
  is_one (through fit l (Outcome.miss h)) e = absurd (omega (arith, number e))

  is_ten : {a : Answer} → Gate s t hash key a → a ≡ refused 10 → Fit s × (tables_of s ≤ t)
  is_ten (first n) e = absurd (omega (arith, number e))
  is_ten (second fit l) e = (fit, l)
  is_ten (through fit l (Outcome.lost h)) e = absurd (omega (arith, number e))
  is_ten (through fit l (Outcome.hit h)) e = absurd (omega (arith, number e))
  is_ten (through fit l (Outcome.miss h)) e = absurd (omega (arith, number e))

  is_nine : {a : Answer} → Gate s t hash key a → a ≡ refused 9 → Fit s × (t < tables_of s) × Astray s t hash key
  is_nine (first n) e = absurd (omega (arith, number e))
  is_nine (second fit l) e = absurd (omega (arith, number e))
  is_nine (through fit l (Outcome.lost h)) e = (fit, l, h)
  is_nine (through fit l (Outcome.hit h)) e = absurd (omega (arith, number e))
  is_nine (through fit l (Outcome.miss h)) e = absurd (omega (arith, number e))

  is_at : {a : Answer} (slot : ℕ) → Gate s t hash key a → a ≡ given slot → Fit s × (t < tables_of s) × Hit s t hash key slot
  is_at slot (first n) e = absurd (omega (arith, number e))
  is_at slot (second fit l) e = absurd (omega (arith, number e))
  is_at slot (through fit l (Outcome.lost h)) e = absurd (omega (arith, number e))
  is_at slot (through fit l (Outcome.hit h)) e = (fit, l, rw (given_is e) at h)
  is_at slot (through fit l (Outcome.miss h)) e = absurd (nothing-given e)

  is_none : {a : Answer} → Gate s t hash key a → a ≡ nothing → Fit s × (t < tables_of s) × Miss s t hash key
  is_none (first n) e = absurd (omega (arith, number e))
  is_none (second fit l) e = absurd (omega (arith, number e))
  is_none (through fit l (Outcome.lost h)) e = absurd (omega (arith, number e))
  is_none (through fit l (Outcome.hit h)) e = absurd (nothing-given (sym e))
  is_none (through fit l (Outcome.miss h)) e = (fit, l, h)

  pub lookups_claims : Lookups s t hash key
  lookups_claims =
      record {
        one = (is_one (gate s t hash key), λ n. answers (unfit_one s t hash key n));
        ten = (is_ten (gate s t hash key), λ h. answers (unknown_ten s t hash key h.0 h.1));
        nine = (is_nine (gate s t hash key), λ h. answers (known_loop s t hash key h.0 h.1) ∙ astray_nine s t hash key h.1 h.2);
        at = λ slot. (
          is_at slot (gate s t hash key),
          λ h. answers (known_loop s t hash key h.0 h.1) ∙ hit-given s t hash key h.1 h.2,
        );
        none =
            (is_none (gate s t hash key), λ h. answers (known_loop s t hash key h.0 h.1) ∙ miss_nothing s t hash key h.1 h.2);
        one_looks = λ n. looks (unfit_one s t hash key n);
        ten_looks = λ fit l. looks (unknown_ten s t hash key fit l);
        most = lookup_most s t hash key;
      }

-- Start.
module _ (s : Set) (t : ℕ) where
  start_unfit : (Fit s → ⊥) → starts s t ≡ record { answer = refused 1; cursor = blank_cursor }
  unfolding starts
  start_unfit n = go (fits s) refl
    where
      go : (b : Bool) → fits s ≡ b → starts s t ≡ record { answer = refused 1; cursor = blank_cursor }
      go true e = absurd (n (fits_fit s e))
      go false e = rw e

  start_unknown : Fit s → tables_of s ≤ t → starts s t ≡ record { answer = refused 10; cursor = blank_cursor }
  unfolding starts
  start_unknown fit l = rw (fit_fits fit, le-ltb _ _ l)

  pub start_made : Fit s → t < tables_of s
      → starts s t ≡ record { answer = given 1; cursor = record { base = t; depth = 0; indexes = lone 0; last = null } }
  unfolding starts
  start_made fit l = rw (fit_fits fit, lt-ltb _ _ l)

  told : {a b : Step} → a ≡ b → a.answer.number ≡ b.answer.number
  told e = ap (λ (r : Step). r.answer.number) e

  pub starts_claims : Starts s t
  starts_claims =
      record {
        one = (λ e fit. not_one e fit (dec_lt t (tables_of s)), start_unfit);
        ten = (λ e. is_ten_start e (fitted s t 0 0) (dec_lt t (tables_of s)), λ h. start_unknown h.0 h.1);
        made = (λ e. is_made e (fitted s t 0 0) (dec_lt t (tables_of s)), λ h. start_made h.0 h.1);
      }
    where
      not_one : starts s t ≡ record { answer = refused 1; cursor = blank_cursor } → Fit s → Dec (t < tables_of s) → ⊥
      not_one e fit (yes l) = omega (arith, told (sym e ∙ start_made fit l))
      not_one e fit (no n) = omega (arith, told (sym e ∙ start_unknown fit (omega arith)))

      is_ten_start : starts s t ≡ record { answer = refused 10; cursor = blank_cursor } → Dec (Fit s) → Dec (t < tables_of s)
          → Fit s × (tables_of s ≤ t)
      is_ten_start e (no n) d = absurd (omega (arith, told (sym e ∙ start_unfit n)))
      is_ten_start e (yes fit) (yes l) = absurd (omega (arith, told (sym e ∙ start_made fit l)))
      is_ten_start e (yes fit) (no n) = (fit, omega arith)

      is_made : starts s t ≡ record { answer = given 1; cursor = record { base = t; depth = 0; indexes = lone 0; last = null } }
          → Dec (Fit s) → Dec (t < tables_of s) → Fit s × (t < tables_of s)
      is_made e (no n) d = absurd (omega (arith, told (sym e ∙ start_unfit n)))
      is_made e (yes fit) (yes l) = (fit, l)
      is_made e (yes fit) (no n) = absurd (omega (arith, told (sym e ∙ start_unknown fit (omega arith))))

-- Next: which gate a cursor passes.
module _ (s : Set) (c : Cursor) where
  pub next_unfit : (Fit s → ⊥) → nexts s c ≡ record { answer = refused 1; cursor = c }
  unfolding nexts
  next_unfit n = go (fits s) refl
    where
      go : (b : Bool) → fits s ≡ b → nexts s c ≡ record { answer = refused 1; cursor = c }
      go true e = absurd (n (fits_fit s e))
      go false e = rw e

  module _ (fit : Fit s) where
    right : fine_cursor s c ≡ true → Right s.lengths (slots_of s.names) c.base c.depth c.indexes c.last
    right e = fine-right s.lengths (slots_of s.names) c.base c.depth c.indexes c.last e

    pub bad_fine : BadCursor s c → fine_cursor s c ≡ false
    bad_fine h = go (fine_cursor s c) refl
      where
        go : (b : Bool) → fine_cursor s c ≡ b → fine_cursor s c ≡ false
        go true e = absurd (right-not_bad s fit c (right e) h)
        go false e = e

    pub good_fine : (BadCursor s c → ⊥) → fine_cursor s c ≡ true
    good_fine n = go (fine_cursor s c) refl
      where
        go : (b : Bool) → fine_cursor s c ≡ b → fine_cursor s c ≡ true
        go true e = e
        go false e = absurd (n (wrong_bad s fit c e))

    pub next-walked : (BadCursor s c → ⊥) → nexts s c ≡ steps_on s c
    unfolding nexts
    next-walked n = rw (fit_fits fit, good_fine n)

    pub next_bad : BadCursor s c → nexts s c ≡ record { answer = refused 11; cursor = c }
    unfolding nexts
    next_bad h = rw (fit_fits fit, bad_fine h)

    pub next-stands : (BadCursor s c → ⊥) → InTables s.lengths c.base (standing c)
    next-stands n = right-stands s fit c (right (good_fine n))

    pub judged : Dec (BadCursor s c)
    judged = go (fine_cursor s c) refl
      where
        go : (b : Bool) → fine_cursor s c ≡ b → Dec (BadCursor s c)
        go true e = no (right-not_bad s fit c (right e))
        go false e = yes (wrong_bad s fit c e)

  pub data Turn : Step → Type 0 where
    unfit : (Fit s → ⊥) → Turn (record { answer = refused 1; cursor = c })
    wrong : Fit s → BadCursor s c → Turn (record { answer = refused 11; cursor = c })
    takes : Fit s → (BadCursor s c → ⊥) → {r : Step} → Steps s c r → Turn r

  pub turn : Turn (nexts s c)
  turn = go (fitted s 0 0 0)
    where
      go : Dec (Fit s) → Turn (nexts s c)
      go (no n) = rw (next_unfit n) (unfit n)
      go (yes fit) = by (judged fit)
        where
          by : Dec (BadCursor s c) → Turn (nexts s c)
          by (yes b) = rw (next_bad fit b) (wrong fit b)
          by (no n) = rw (next-walked fit n) (takes fit n (steps_walked s fit c (next-stands fit n)))
