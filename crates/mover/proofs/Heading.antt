-- The scan for a header from here on comes to what the scan from the start comes to; the header of a half, and the refusal.
use mathlib.Core.Path.{◌≡◌, refl, sym, ◌∙◌}
use mathlib.Core.Logic.{◌≢◌}
use mathlib.Core.Bool.{Bool, true, false}
use mathlib.Core.List.{List}
use Prim.Native.Nat.{ℕ, suc, ◌+◌, ◌-◌, ◌*◌, ◌<◌, ◌≤◌}
use native.Mathlib.Omega.{arith}
use lib.Dec.{eqb, leb}
use lib.ListN.{get_or}
use borrow.Author.Tests.{eq-eqb, ne_eqb, eqb-false, leb-true, leb-false}
use Rattle.std.specs.Prelude.{Option, None, Some, Ok, Err, IfSome}
use Rattle.slots.specs.Words.{null, pick}
use Rattle.move_rules.specs.Moving.{most_listed, spare_from, lacks}
use Rattle.mover.specs.Moved.{header_of_half, headed, header_after}
use Rattle.mover.specs.declared.moving.MoveRefusal.{MoveRefusal}
use Rattle.mover.specs.declared.moving.MoveRefusal.TheVariants.{Full}

module _ (heads : List ℕ) (own : ℕ) where
  -- One header of those that are left.
  one_left : (m h : ℕ) → h < m → m - h ≡ suc (m - suc h)
  one_left m h b = omega arith

  pub spare_own : (m h : ℕ) {w : ℕ} → spare_from (m - h) heads own h ≡ w → h < m → h ≡ own → h ≡ w
  unfolding spare_from
  spare_own m h e b f = rw (eq-eqb h own f) at (rw (one_left m h b) at e)

  pub spare_blank : (m h : ℕ) {root w : ℕ} → spare_from (m - h) heads own h ≡ w → h < m → h ≢ own → root ≡ get_or heads (3 * h) null
      → root ≡ null
      → h ≡ w
  unfolding spare_from
  spare_blank m h e b d f g = rw (ne_eqb h own d, eq-eqb _ null (sym f ∙ g)) at (rw (one_left m h b) at e)

  pub spare_on : (m h : ℕ) {root w : ℕ} → spare_from (m - h) heads own h ≡ w → h < m → h ≢ own → root ≡ get_or heads (3 * h) null
      → root ≢ null
      → spare_from (m - (h + 1)) heads own (h + 1) ≡ w
  unfolding spare_from
  spare_on m h e b d f g =
      let z : h + 1 ≡ suc h = omega arith in
      rw z (rw (ne_eqb h own d, ne_eqb _ null (λ y. g (f ∙ y))) at (rw (one_left m h b) at e))

  pub spare_out : (m h : ℕ) {w : ℕ} → spare_from (m - h) heads own h ≡ w → m ≤ h → null ≡ w
  unfolding spare_from
  spare_out m h e b = let z : m - h ≡ 0 = omega arith in rw z at e

-- A half that becomes a list has no header, and one that becomes a tree has its own.
module _ (count h : ℕ) where
  pub listed : None ≡ header_of_half count h → count ≤ most_listed
  listed e = go (leb count most_listed) e refl
    where
      go : (b : Bool) → None ≡ pick b None (Some h) → leb count most_listed ≡ b → count ≤ most_listed
      go true e z = leb-true count most_listed z
      go false e z = (cc)

  pub planted : {x : ℕ} → Some x ≡ header_of_half count h → (most_listed < count) × (x ≡ h)
  planted {x} e = go (leb count most_listed) e refl
    where
      go : (b : Bool) → Some x ≡ pick b None (Some h) → leb count most_listed ≡ b → (most_listed < count) × (x ≡ h)
      go true e z = (cc)
      go false e z = (leb-false count most_listed z, (cc))

  -- What was answered for it.
  pub headed_err : {r : MoveRefusal} → Err r ≡ headed count h → (lacks count h ≡ true) × (r ≡ Full)
  headed_err {r} e = go (lacks count h) e refl
    where
      go : (b : Bool) → Err r ≡ pick b (Err Full) (Ok (header_of_half count h)) → lacks count h ≡ b → (lacks count h ≡ true) × (r ≡ Full)
      go true e z = (z, (cc))
      go false e z = (cc)

  pub headed_ok : {g : Option ℕ} → Ok g ≡ headed count h → (lacks count h ≡ false) × (g ≡ header_of_half count h)
  headed_ok {g} e = go (lacks count h) e refl
    where
      go : (b : Bool) → Ok g ≡ pick b (Err Full) (Ok (header_of_half count h)) → lacks count h ≡ b
          → (lacks count h ≡ false) × (g ≡ header_of_half count h)
      go true e z = (cc)
      go false e z = (z, (cc))

  pub after_is : header_after (header_of_half count h) ≡ pick (leb count most_listed) 0 (suc h)
  after_is = go (leb count most_listed)
    where
      go : (b : Bool) → header_after (pick b None (Some h)) ≡ pick b 0 (suc h)
      go true = refl
      go false = refl

  pub real : lacks count h ≡ false → IfSome (header_of_half count h) (λ x. x ≢ null)
  unfolding lacks
  real e = go (leb count most_listed) e
    where
      go : (b : Bool) → pick b false (eqb h null) ≡ false → IfSome (pick b None (Some h)) (λ x. x ≢ null)
      go true e = tt
      go false e = eqb-false h null e
