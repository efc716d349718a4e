-- Bin after bin is moved, and a bin that cannot be is Moved already: its parent came before it. So when all have had their turn every bin
-- of every table but the last is Moved, and only the last table has entries. Each move leaves what the set has.
use mathlib.Core.Path.{◌≡◌, refl, ap, sym, ◌∙◌}
use mathlib.Core.Logic.{◌≢◌}
use mathlib.Core.List.{List}
use Prim.Native.Nat.{ℕ, zero, suc, ◌-◌, ◌%◌, ◌<◌, ◌≤◌}
use native.Mathlib.Decide.{ℕ_discrete}
use native.Mathlib.Omega.{arith}
use native.Mathlib.Nat.{mod-lt}
use lib.ListN.{length, get_or}
use borrow.Author.Tests.{eq-eqb, ne_eqb}
use Rattle.slots.specs.Words.{place, name_of, hash_part, key_part}
use Rattle.slots.specs.Answers.{refused}
use Rattle.set_rules.specs.Words.{Set, Fit, tables_of, length_at, moved, bin_at}
use Rattle.set_rules.specs.Accepted.{BinThere, EntryOf, Accepted}
use Rattle.set_rules.specs.Lookup.{lookups}
use Rattle.set_rules.specs.Held.{EntryFrom}
use Rattle.set_rules.proofs.Fit.{length_least}
use Rattle.set_rules.proofs.Gathering.{not_moved}
use Rattle.set_rules.proofs.Mapping.{map_claims}
use Rattle.move_rules.specs.Moving.{MoveOutcome, moves}
use Rattle.move_rules.specs.Moved.{CannotMove, BinMoved}
use Rattle.move_rules.specs.Finishing.{Finish, finish_begun, move_told, bin_finished, bins_finished, tables_finished, finishing}
use Rattle.move_rules.specs.Finished.{SameEntries, MovedBefore, OnlyLast, MovesMade}
use Rattle.move_rules.specs.Claims.{FinishesWell}
use Rattle.move_rules.proofs.Splitting.{splits}
use Rattle.move_rules.proofs.Deciding.{View, view}

pub same_self : {s : Set} → Fit s → Accepted s → SameEntries s s
same_self fit acc =
    record {
      fit = fit;
      accepted = acc;
      lengths = refl;
      names = refl;
      places = λ x. refl;
      entries = λ x. (λ e. e, λ e. e);
      lookup = λ hash key. refl;
    }

-- What lookup from table 0 answers tells the entries.
lookup_entries : {s t : Set} → Fit s → Accepted s → Fit t → Accepted t → t.names ≡ s.names
    → ((hash key : ℕ) → (lookups t 0 hash key).answer ≡ (lookups s 0 hash key).answer) → (x : ℕ) → EntryFrom t 0 x → EntryFrom s 0 x
lookup_entries {s} {t} fit acc fit' acc' named same x e =
    let hash = name_of t.names x hash_part in
    let key = name_of t.names x key_part in
    (((map_claims s fit acc).at 0 hash key x (omega (arith, fit.least))).0
    (sym (same hash key) ∙ ((map_claims t fit' acc').at 0 hash key x (omega (arith, fit'.least))).1 (e, refl))).0

module _ {s : Set} (fit : Fit s) (acc : Accepted s) where
  -- The move that stopped it.
  record Halted (f : Finish) : Type 0 where
    number : f.number ≡ 5
    table : suc f.table < tables_of s
    bin : f.bin < length_at s f.table
    refuses : (moves f.set f.table f.bin).answer ≡ refused f.number
    before : MovedBefore f.set f.table f.bin

  -- All that comes before bin i of table k has had its turn.
  record Going (f : Finish) (k i : ℕ) : Type 0 where
    same : SameEntries s f.set
    made : MovesMade s f.gone f.set
    onward : f.number ≡ 0 → MovedBefore f.set k i
    halted : f.number ≢ 0 → Halted f

  length_same : {t : Set} → SameEntries s t → (k : ℕ) → length_at t k ≡ length_at s k
  length_same e k = ap (λ l. get_or l k 0) e.lengths

  tables_same : {t : Set} → SameEntries s t → tables_of t ≡ tables_of s
  tables_same e = ap length e.lengths

  -- A bin has had its turn.
  one_more_lem : {t : Set} {k i : ℕ} → MovedBefore t k i → bin_at t k i ≡ moved → MovedBefore t k (suc i)
  one_more_lem {t} {k} {i} b e = record { tables = b.tables; bins = λ j w. at j w (ℕ_discrete j i) }
    where
      at : (j : ℕ) → j < suc i → Dec (j ≡ i) → bin_at t k j ≡ moved
      at j w (yes z) = ap (λ (y : ℕ). bin_at t k y) z ∙ e
      at j w (no z) = b.bins j (omega arith)

  module _ {k i : ℕ} (table : suc k < tables_of s) (index : i < length_at s k) where
    -- A bin that cannot be moved is Moved.
    is_moved_lem : {t : Set} → SameEntries s t → MovedBefore t k i → CannotMove t k i → bin_at t k i ≡ moved
    is_moved_lem e b (CannotMove.no_next c) = absurd (omega (arith, tables_same e))
    is_moved_lem e b (CannotMove.no_bin c) = absurd (omega (arith, length_same e k))
    is_moved_lem e b (CannotMove.already c) = c
    is_moved_lem {t} e b (CannotMove.not_yet j z d) =
        absurd (d (b.tables j (i % length_at t j) (omega arith)
        (mod-lt i (length_least e.fit j (omega (arith, tables_same e))))))

    -- A move leaves what the set has, and the bins that are Moved.
    moved_same : {t u : Set} {low high : List ℕ} → SameEntries s t → BinMoved t k i low high u → SameEntries s u
    moved_same {t} {u} e m =
        record {
          fit = m.fit;
          accepted = m.accepted;
          lengths = m.lengths ∙ e.lengths;
          names = m.names ∙ e.names;
          places = λ x. m.places x ∙ e.places x;
          entries = λ x. (
            lookup_entries fit acc m.fit m.accepted (m.names ∙ e.names) looks x,
            lookup_entries m.fit m.accepted fit acc (sym (m.names ∙ e.names)) (λ hash key. sym (looks hash key)) x,
          );
          lookup = looks;
        }
      where
        looks : (hash key : ℕ) → (lookups u 0 hash key).answer ≡ (lookups s 0 hash key).answer
        looks hash key = m.lookup 0 hash key (omega (arith, e.fit.least)) (omega arith) ∙ e.lookup hash key

    moved_before : {t u : Set} {low high : List ℕ} → SameEntries s t → BinMoved t k i low high u → MovedBefore t k i
        → MovedBefore u k (suc i)
    moved_before {t} {u} e m b =
        one_more_lem {t = u} {k = k} {i = i}
        (record {
          tables = λ n j w c. (let d : j < length_at t n = rw (ap (λ l. get_or l n 0) m.lengths) at c in
              m.other_words n j (record { table = omega (arith, tables_same e); index = d })
              (record { here = λ z. omega (arith, z.0); low = λ z. omega (arith, z.0); high = λ z. omega (arith, z.0) })
              ∙ b.tables n j w d);
          bins = λ j w. m.other_words k j (record { table = omega (arith, tables_same e); index = omega (arith, length_same e k) })
              (record { here = λ z. omega (arith, z.1); low = λ z. omega (arith, z.0); high = λ z. omega (arith, z.0) })
              ∙ b.bins j w;
        }) m.word

    turn : {f : Finish} → Going f k i → Going (bin_finished f k i) k (suc i)
    unfolding bin_finished move_told
    turn {f} g = go (ℕ_discrete f.number 0)
      where
        told : {o : MoveOutcome} → f.number ≡ 0 → moves f.set k i ≡ o → View f.set k i o → Going (bin_finished f k i) k (suc i)
        told e z (View.unfit n) = absurd (n g.same.fit)
        told e z (View.no_table x y) = absurd (omega (arith, tables_same g.same))
        told e z (View.not-accepted x y n) = absurd (n g.same.accepted)
        told e z (View.cannot x y w c) =
            rw (eq-eqb f.number 0 e, z)
            (record {
              same = g.same;
              made = g.made;
              onward = λ y. one_more_lem (g.onward e) (is_moved_lem g.same (g.onward e) c);
              halted = λ n. absurd (n e);
            })
        told e z (View.short x y m r) =
            rw (eq-eqb f.number 0 e, z)
            (record {
              same = g.same;
              made = g.made;
              onward = λ y. absurd (omega arith);
              halted = λ n. record {
                number = refl;
                table = table;
                bin = index;
                refuses = ap (λ (o : MoveOutcome). o.answer) z;
                before = g.onward e;
              };
            })
        told e z (View.went x y m r w b) =
            rw (eq-eqb f.number 0 e, z)
            (record {
              same = moved_same g.same b;
              made = rw w (MovesMade.one_more_lem g.made (splits x y m.there m.unmoved) b);
              onward = λ y. moved_before g.same b (g.onward e);
              halted = λ n. absurd (n refl);
            })

        go : Dec (f.number ≡ 0) → Going (bin_finished f k i) k (suc i)
        go (yes e) = told e refl (view f.set k i)
        go (no d) = rw (ne_eqb f.number 0 d) (record { same = g.same; made = g.made; onward = λ e. absurd (d e); halted = g.halted })

  turns : {k : ℕ} {f : Finish} → suc k < tables_of s → (v : ℕ) → v ≤ length_at s k → Going f k 0 → Going (bins_finished v f k) k v
  unfolding bins_finished
  turns b zero w g = g
  turns b (suc v) w g = turn b (omega arith) (turns b v (omega arith) g)

  tables_turn : (k : ℕ) → suc k ≤ tables_of s → Going (tables_finished k (finish_begun s)) k 0
  unfolding tables_finished
  tables_turn zero w =
      record {
        same = same_self fit acc;
        made = MovesMade.no_move;
        onward = λ e. record { tables = λ m j b. absurd (omega arith); bins = λ j b. absurd (omega arith) };
        halted = λ n. absurd (n refl);
      }
  tables_turn (suc k) w = next (turns (omega arith) (length_at s k) (omega arith) (tables_turn k (omega arith)))
    where
      next : {f : Finish} → Going f k (length_at s k) → Going f (suc k) 0
      next {f} g =
          record {
            same = g.same;
            made = g.made;
            onward = λ e. record { tables = λ m j b c. at m j b c (ℕ_discrete m k) (g.onward e); bins = λ j b. absurd (omega arith) };
            halted = g.halted;
          }
        where
          at : (m j : ℕ) → m < suc k → j < length_at f.set m → Dec (m ≡ k) → MovedBefore f.set k (length_at s k)
              → bin_at f.set m j ≡ moved
          at m j b c (yes z) h =
              ap (λ (y : ℕ). bin_at f.set y j) z ∙ h.bins j (omega (arith, length_same g.same k, ap (length_at f.set) z))
          at m j b c (no z) h = h.tables m j (omega arith) c

  pub finished_well : FinishesWell s
  unfolding finishing
  finished_well =
      let g = tables_turn (tables_of s - 1) (omega (arith, fit.least)) in
      record {
        same = g.same;
        gone = g.made;
        done = λ e. only g.same (g.onward e);
        stopped = λ n. (let h = g.halted n in (h.number, h.table, h.bin, h.refuses, h.before));
      }
    where
      only : {t : Set} → SameEntries s t → MovedBefore t (tables_of s - 1) 0 → OnlyLast t
      only {t} e b = record { moves = λ k i q w. gone k i q w; entries = λ k i x h. at k i x h (ℕ_discrete (suc k) (tables_of t)) }
        where
          gone : (k i : ℕ) → BinThere t k i → suc k < tables_of t → bin_at t k i ≡ moved
          gone k i q w = b.tables k i (omega (arith, tables_same e)) q.index

          at : (k i x : ℕ) → EntryOf t k i x → Dec (suc k ≡ tables_of t) → suc k ≡ tables_of t
          at k i x h (yes z) = z
          at k i x h (no z) = absurd (not_moved h.holds (gone k i h.there (omega (arith, h.there.table))))
