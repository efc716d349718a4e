-- Where every move is refused with one number, the first bin stops it, and what is left is the set as it was.
use mathlib.Core.Path.{◌≡◌, refl}
use mathlib.Core.Logic.{◌≢◌, ◌⊎◌, inl, inr}
use Prim.Native.Nat.{ℕ, zero, suc, ◌-◌, ◌<◌, ◌≤◌}
use native.Mathlib.Decide.{ℕ_discrete}
use native.Mathlib.Omega.{arith}
use borrow.Author.Tests.{ne_eqb}
use Rattle.slots.specs.Answers.{refused}
use Rattle.set_rules.specs.Words.{Set, tables_of, length_at}
use Rattle.move_rules.specs.Moving.{move_outcome, moves}
use Rattle.move_rules.specs.Finishing.{Finish, finish_begun, move_told, bin_finished, bins_finished, tables_finished, finishing}
use Rattle.move_rules.specs.Claims.{FinishRefused}

module _ (s : Set) (n : ℕ) (d : n ≢ 0) (e : n ≢ 16) (each : (k i : ℕ) → k < tables_of s → moves s k i ≡ move_outcome (refused n) s) where
  -- How far it comes: nowhere, or to the move that stops it.
  data Stands : Finish → Type 0 where
    begun : Stands (finish_begun s)
    halted : (k i : ℕ) → Stands (record { number = n; table = k; bin = i; gone = 0; set = s })

  own_set : {f : Finish} → Stands f → f.set ≡ s
  own_set begun = refl
  own_set (halted k i) = refl

  none_gone : {f : Finish} → Stands f → f.gone ≡ 0
  none_gone begun = refl
  none_gone (halted k i) = refl

  either : {f : Finish} → Stands f → (f.number ≡ n) ⊎ (f.number ≡ 0)
  either begun = inr refl
  either (halted k i) = inl refl

  bin_stops : {f : Finish} (k i : ℕ) → k < tables_of s → Stands f → Stands (bin_finished f k i) × ((bin_finished f k i).number ≡ n)
  unfolding bin_finished move_told
  bin_stops k i b begun = rw (each k i b, ne_eqb n 0 d, ne_eqb n 16 e) (halted k i, refl)
  bin_stops k i b (halted m j) = rw (ne_eqb n 0 d) (halted m j, refl)

  bins_stand : (m : ℕ) {f : Finish} (k : ℕ) → k < tables_of s → Stands f → Stands (bins_finished m f k)
  unfolding bins_finished
  bins_stand zero k b h = h
  bins_stand (suc m) k b h = (bin_stops k m b (bins_stand m k b h)).0

  bins_stop : (m : ℕ) {f : Finish} (k : ℕ) → 1 ≤ m → k < tables_of s → Stands f → (bins_finished m f k).number ≡ n
  unfolding bins_finished
  bins_stop zero k l b h = absurd (omega arith)
  bins_stop (suc m) k l b h = (bin_stops k m b (bins_stand m k b h)).1

  bins_keep : (m : ℕ) {f : Finish} (k : ℕ) → k < tables_of s → Stands f → f.number ≡ n → (bins_finished m f k).number ≡ n
  unfolding bins_finished
  bins_keep zero k b h z = z
  bins_keep (suc m) k b h z = (bin_stops k m b (bins_stand m k b h)).1

  tables_stand : (m : ℕ) → m ≤ tables_of s → Stands (tables_finished m (finish_begun s))
  unfolding tables_finished
  tables_stand zero b = begun
  tables_stand (suc k) b = bins_stand _ k (omega arith) (tables_stand k (omega arith))

  tables_stop : (m k : ℕ) → m ≤ tables_of s → k < m → 1 ≤ length_at s k → (tables_finished m (finish_begun s)).number ≡ n
  unfolding tables_finished
  tables_stop zero k b l o = absurd (omega arith)
  tables_stop (suc j) k b l o = go (ℕ_discrete k j) (λ c. tables_stop j k (omega arith) c o)
    where
      h : Stands (tables_finished j (finish_begun s))
      h = tables_stand j (omega arith)

      go : Dec (k ≡ j) → (k < j → (tables_finished j (finish_begun s)).number ≡ n) → (tables_finished (suc j) (finish_begun s)).number ≡ n
      go (yes z) again = bins_stop _ j (rw (← z) o) (omega arith) h
      go (no z) again = bins_keep _ j (omega arith) h (again (omega (arith, z)))

  pub stopped : FinishRefused s n
  unfolding finishing
  stopped =
      let h = tables_stand (tables_of s - 1) (omega arith) in
      record {
        set = own_set h;
        gone = none_gone h;
        number = either h;
        stops = λ k l o. tables_stop (tables_of s - 1) k (omega arith) (omega arith) o;
      }
