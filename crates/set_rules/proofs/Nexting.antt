-- Every claim of a step on any words: its gates, what it hands back past the depth, and that Done stays Done.
use mathlib.Core.Path.{◌≡◌, refl, ap, sym, ◌∙◌}
use mathlib.Core.Logic.{inl, inr}
use mathlib.Core.List.{List}
use Prim.Native.Nat.{ℕ, zero, suc, ◌+◌, ◌-◌, ◌<◌, ◌≤◌}
use native.Mathlib.Decide.{dec_lt, ℕ_discrete}
use native.Mathlib.Omega.{arith}
use lib.ListN.{length, get_or, set, length-set}
use lib.Seq.{get_or-set_same, get_or-set_other}
use Rattle.slots.specs.Words.{null, next}
use Rattle.slots.specs.Answers.{Answer, given, nothing, refused}
use Rattle.slots.proofs.Laws.{cell-null, nothing-given}
use Rattle.set_rules.specs.Words.{Set, tables_of, length_at, Fit}
use Rattle.set_rules.proofs.Fit.{ends}
use Rattle.set_rules.specs.Cursor.{Cursor, Step, index_at, lone, BadCursor}
use Rattle.set_rules.specs.Walk.{WalkPoint, walk_point, deepest, advanced, kept, trimmed, InTables, standing, done, nexts}
use Rattle.set_rules.specs.Ways.{After, Comes, Strays, Steps}
use Rattle.set_rules.specs.Walked.{Nexts}
use Rattle.set_rules.proofs.Turns.{on, advanced_lt, advanced_ge}
use Rattle.set_rules.proofs.Cursors.{right-not_bad}
use Rattle.set_rules.proofs.Beginning.{trimmed_past, standing_begins, read_comes}
use Rattle.set_rules.proofs.Stepping.{onward-after, comes_good, steps_walked, walked_steps}
use Rattle.set_rules.proofs.Gates.{next_unfit, next_bad, next-walked, next-stands, Turn, turn}

told : {a b : Step} → a ≡ b → a.answer.number ≡ b.answer.number
told e = ap (λ (r : Step). r.answer.number) e

-- The indexes past the depth are 0.
Zeroed : WalkPoint → Type 0
Zeroed p = (j : ℕ) → p.depth < j → get_or p.indexes j 0 ≡ 0

zeroed_trimmed : (d : ℕ) (x : List ℕ) → Zeroed (walk_point d (trimmed d x))
unfolding Zeroed
zeroed_trimmed d x = trimmed_past d x

zeroed_advanced : (lengths : List ℕ) (base d : ℕ) (x : List ℕ) → length x ≡ 8 → d < 8 → Zeroed (walk_point d x)
    → Zeroed (advanced d lengths base x)
unfolding Zeroed advanced
zeroed_advanced lengths base zero x e l z = λ j k. get_or-set_other x 0 j (get_or x 0 0 + 1) 0 (omega arith) ∙ z j k
zeroed_advanced lengths base (suc d) x e l z =
    go (dec_lt (on lengths base d x) (get_or lengths (base + suc d) 0))
    (zeroed_advanced lengths base d (set x (suc d) 0) (length-set x (suc d) 0 ∙ e) (omega arith) up)
  where
    up : (j : ℕ) → d < j → get_or (set x (suc d) 0) j 0 ≡ 0
    up j k = by (ℕ_discrete j (suc d))
      where
        by : Dec (j ≡ suc d) → get_or (set x (suc d) 0) j 0 ≡ 0
        by (yes f) = rw f (get_or-set_same x (suc d) 0 0 (omega arith))
        by (no n) = get_or-set_other x (suc d) j 0 0 n ∙ z j (omega arith)

    go : Dec (on lengths base d x < get_or lengths (base + suc d) 0)
        → ((j : ℕ) → (advanced d lengths base (set x (suc d) 0)).depth < j
        → get_or (advanced d lengths base (set x (suc d) 0)).indexes j 0 ≡ 0)
        → (j : ℕ) → (advanced (suc d) lengths base x).depth < j → get_or (advanced (suc d) lengths base x).indexes j 0 ≡ 0
    go (yes k) again =
        rw (advanced_lt lengths base d x k) (λ j m. get_or-set_other x (suc d) j (on lengths base d x) 0 (omega arith) ∙ z j m)
    go (no n) again = rw (advanced_ge lengths base d x (omega arith)) again

module _ (s : Set) (base : ℕ) (from : WalkPoint) (good : InTables s.lengths base from) (zero-from : Zeroed from) where
  zeroed_after : {p q : WalkPoint} → InTables s.lengths base p → Zeroed p → After s base p q → Zeroed q
  zeroed_after {p} h z a =
      rw (onward-after s base a)
      at (zeroed_advanced s.lengths base p.depth p.indexes h.eight (omega (arith, h.deep, h.few)) z)

  zeroed_comes : {p : WalkPoint} → Comes s base from p → Zeroed p
  unfolding Zeroed
  zeroed_comes (Comes.start) = zero-from
  zeroed_comes (Comes.past {p} c w e a) = zeroed_after (comes_good s base from good c) (zeroed_comes c) a
  zeroed_comes (Comes.down {p} c w e l) =
      λ j k. get_or-set_other p.indexes (suc p.depth) j (deepest p) 0 (omega arith) ∙ zeroed_comes c j (omega arith)

module _ (s : Set) (c : Cursor) where
  zeroed_step : Fit s → (BadCursor s c → ⊥) → {r : Step} → Steps s c r → (x : ℕ) → r.answer ≡ given x → (j : ℕ) → r.cursor.depth < j
      → index_at r.cursor j ≡ 0
  unfolding Zeroed
  zeroed_step fit n (Steps.by_next b e m l) x f j k = b.past j (omega (arith, b.depth))
  zeroed_step fit n (Steps.by_list r a) x f j k =
      let g = next-stands s c fit n in
      zeroed_after s c.base (standing c) g (zeroed_trimmed c.depth c.indexes)
      (comes_good s c.base (standing c) g (read_comes c r))
      (zeroed_comes s c.base (standing c) g (zeroed_trimmed c.depth c.indexes) (read_comes c r)) a j k
  zeroed_step fit n (Steps.by_tree r m a) x f j k =
      let g = next-stands s c fit n in
      zeroed_after s c.base (standing c) g (zeroed_trimmed c.depth c.indexes)
      (comes_good s c.base (standing c) g (read_comes c r))
      (zeroed_comes s c.base (standing c) g (zeroed_trimmed c.depth c.indexes) (read_comes c r)) a j k
  zeroed_step fit n (Steps.by_end b e k d f) x g j l = absurd (nothing-given g)
  zeroed_step fit n (Steps.lost h) x g j l = absurd (omega (arith, ap (λ (a : Answer). a.number) g))

  past_depth : {r : Step} → Turn s c r → (x : ℕ) → r.answer ≡ given x → (j : ℕ) → r.cursor.depth < j → index_at r.cursor j ≡ 0
  past_depth (Turn.unfit n) x e j l = absurd (omega (arith, ap (λ (a : Answer). a.number) e))
  past_depth (Turn.wrong fit b) x e j l = absurd (omega (arith, ap (λ (a : Answer). a.number) e))
  past_depth (Turn.takes fit n h) x e j l = zeroed_step fit n h x e j l

  refusal : ℕ → Step
  refusal n = record { answer = refused n; cursor = c }

  again : (m n : ℕ) → m ≡ n → refusal m ≡ refusal n
  again m n e = ap refusal e

  refuses : {r : Step} → Turn s c r → (n : ℕ) → 1 ≤ n → r.answer ≡ refused n → r ≡ record { answer = refused n; cursor = c }
  unfolding refusal
  refuses (Turn.unfit h) n l e = again 1 n (ap (λ (a : Answer). a.number) e)
  refuses (Turn.wrong fit b) n l e = again 11 n (ap (λ (a : Answer). a.number) e)
  refuses (Turn.takes fit h (Steps.by_next b f m k)) n l e = absurd (omega (arith, ap (λ (a : Answer). a.number) e))
  refuses (Turn.takes fit h (Steps.by_list r a)) n l e = absurd (omega (arith, ap (λ (a : Answer). a.number) e))
  refuses (Turn.takes fit h (Steps.by_tree r m a)) n l e = absurd (omega (arith, ap (λ (a : Answer). a.number) e))
  refuses (Turn.takes fit h (Steps.by_end b f k d g)) n l e = absurd (omega (arith, ap (λ (a : Answer). a.number) e))
  refuses (Turn.takes fit h (Steps.lost g)) n l e = again 9 n (ap (λ (a : Answer). a.number) e)

  -- The end, with no slot last given, is Done, and what comes back is the end.
  module _ (fit : Fit s) (there : c.base < tables_of s) where
    abbrev over : Cursor
    over = record { base = c.base; depth = 0; indexes = lone (length_at s c.base); last = null }

    over_good : BadCursor s over → ⊥
    over_good =
        right-not_bad s fit over
        (record { deep = omega arith; first = inr (refl, refl); level = λ j l. absurd (omega arith); known = inl refl })

    over_again : nexts s over ≡ record { answer = nothing; cursor = done s c.base }
    unfolding kept
    over_again =
        next-walked s over fit over_good
        ∙ walked_steps s fit over (next-stands s over fit over_good)
        (Steps.by_end (standing_begins over (omega arith)) (cell-null s.cells next (ends fit)) Comes.start refl refl)

  stays : {r : Step} → Turn s c r → r.answer ≡ nothing → nexts s r.cursor ≡ r
  stays (Turn.unfit n) e = absurd (omega (arith, ap (λ (a : Answer). a.number) e))
  stays (Turn.wrong fit b) e = absurd (omega (arith, ap (λ (a : Answer). a.number) e))
  stays (Turn.takes fit n (Steps.by_next b f m k)) e = absurd (nothing-given (sym e))
  stays (Turn.takes fit n (Steps.by_list r a)) e = absurd (nothing-given (sym e))
  stays (Turn.takes fit n (Steps.by_tree r m a)) e = absurd (nothing-given (sym e))
  stays (Turn.takes fit n (Steps.by_end b f k d g)) e = over_again fit (omega (arith, (next-stands s c fit n).deep))
  stays (Turn.takes fit n (Steps.lost h)) e = absurd (omega (arith, ap (λ (a : Answer). a.number) e))

  -- Which number says what.
  is_one : {r : Step} → Turn s c r → r.answer.number ≡ 1 → Fit s → ⊥
  is_one (Turn.unfit n) e = n
  is_one (Turn.wrong fit b) e = absurd (omega arith)
  is_one (Turn.takes fit n (Steps.by_next b f m k)) e = absurd (omega arith)
  is_one (Turn.takes fit n (Steps.by_list r a)) e = absurd (omega arith)
  is_one (Turn.takes fit n (Steps.by_tree r m a)) e = absurd (omega arith)
  is_one (Turn.takes fit n (Steps.by_end b f k d g)) e = absurd (omega arith)
  is_one (Turn.takes fit n (Steps.lost h)) e = absurd (omega arith)

  is_eleven : {r : Step} → Turn s c r → r.answer.number ≡ 11 → Fit s × BadCursor s c
  is_eleven (Turn.unfit n) e = absurd (omega arith)
  is_eleven (Turn.wrong fit b) e = (fit, b)
  is_eleven (Turn.takes fit n (Steps.by_next b f m k)) e = absurd (omega arith)
  is_eleven (Turn.takes fit n (Steps.by_list r a)) e = absurd (omega arith)
  is_eleven (Turn.takes fit n (Steps.by_tree r m a)) e = absurd (omega arith)
  is_eleven (Turn.takes fit n (Steps.by_end b f k d g)) e = absurd (omega arith)
  is_eleven (Turn.takes fit n (Steps.lost h)) e = absurd (omega arith)

  is_nine : {r : Step} → Turn s c r → r.answer.number ≡ 9 → Fit s × (BadCursor s c → ⊥) × Strays s c
  is_nine (Turn.unfit n) e = absurd (omega arith)
  is_nine (Turn.wrong fit b) e = absurd (omega arith)
  is_nine (Turn.takes fit n (Steps.by_next b f m k)) e = absurd (omega arith)
  is_nine (Turn.takes fit n (Steps.by_list r a)) e = absurd (omega arith)
  is_nine (Turn.takes fit n (Steps.by_tree r m a)) e = absurd (omega arith)
  is_nine (Turn.takes fit n (Steps.by_end b f k d g)) e = absurd (omega arith)
  is_nine (Turn.takes fit n (Steps.lost h)) e = (fit, n, h)

  pub nexts_claims : Nexts s c
  nexts_claims =
      record {
        one = (λ e. is_one (turn s c) (told e), next_unfit s c);
        eleven = (λ e. is_eleven (turn s c) (told e), λ h. next_bad s c h.0 h.1);
        nine = (
          λ e. is_nine (turn s c) (told e),
          λ h. next-walked s c h.0 h.1 ∙ walked_steps s h.0 c (next-stands s c h.0 h.1) (Steps.lost h.2),
        );
        steps =
            λ fit n r. (
              λ e. rw (sym (next-walked s c fit n) ∙ e) at (steps_walked s fit c (next-stands s c fit n)),
              λ h. next-walked s c fit n ∙ walked_steps s fit c (next-stands s c fit n) h,
            );
        refuses = refuses (turn s c);
        past_depth = past_depth (turn s c);
        done = stays (turn s c);
      }
