-- The walk of the source's check: what one visit comes to, and that the model is the walk in the rules' words,
-- whatever the fuel past the visits.
use Rattle.std.proofs.Common.{◌≡◌, ℕ, zero, suc, ◌-◌, ◌<◌, ◌≤◌, Bool, true, false, eqb, ltb, leb, ◌≢◌, List, sym, refl, ap, ◌∙◌, inl, inr}
use Rattle.std.proofs.Common.{arith, ltb-true, lt-ltb, eq-eqb, ne_eqb, eqb-true, le-leb}
use mathlib.Core.Bool.{false≢true}
use native.Mathlib.Decide.{ℕ_discrete, dec_lt}
use borrow.Author.Tests.{lt-leb}
use Rattle.slots.specs.Words.{null, pick, parent, left, right, prev, next, cell}
use Rattle.tree_rules.specs.Find.{slots_of}
use Rattle.tree_rules.specs.Check.{in_range, links_in, first_failing, Walk, passed, failed, strayed, onward, walked, Named, LinksNamed}
use Rattle.tree_rules.specs.Check.{Walks, absent, outside, spent, loose, fails, left_stops, both}

-- A link in range is null or names a slot.
pub named : (n l : ℕ) → in_range n l ≡ true → Named n l
named n l e = go (eqb l null) refl e
  where
    go : (b : Bool) → eqb l null ≡ b → pick b true (ltb l n) ≡ true → Named n l
    go true z e = inl (eqb-true l null z)
    go false z e = inr (ltb-true l n e)

pub ranged : (n l : ℕ) → Named n l → in_range n l ≡ true
ranged n l (inl z) = simp (eq-eqb l null z)
ranged n l (inr h) = go (eqb l null)
  where
    go : (b : Bool) → pick b true (ltb l n) ≡ true
    go true = refl
    go false = lt-ltb l n h

all : (a b : Bool) → pick a b false ≡ true → (a ≡ true) × (b ≡ true)
all true b e = (refl, e)
all false b e = absurd (false≢true e)

pub links_named : (n : ℕ) (cells : List ℕ) (i : ℕ) → links_in n cells i ≡ true → LinksNamed n cells i
unfolding links_in
links_named n cells i e =
    let h1 = all (in_range n (cell cells i parent)) _ e in
    let h2 = all (in_range n (cell cells i left)) _ h1.1 in
    let h3 = all (in_range n (cell cells i right)) _ h2.1 in
    let h4 = all (in_range n (cell cells i prev)) _ h3.1 in
    record {
      parents = named n (cell cells i parent) h1.0;
      lefts = named n (cell cells i left) h2.0;
      rights = named n (cell cells i right) h3.0;
      prevs = named n (cell cells i prev) h4.0;
      nexts = named n (cell cells i next) h4.1;
    }

pub links_in_lem : (n : ℕ) (cells : List ℕ) (i : ℕ) → LinksNamed n cells i → links_in n cells i ≡ true
unfolding links_in
links_in_lem n cells i h =
    rw (
      ranged n (cell cells i parent) h.parents,
      ranged n (cell cells i left) h.lefts,
      ranged n (cell cells i right) h.rights,
      ranged n (cell cells i prev) h.prevs,
      ranged n (cell cells i next) h.nexts,
    )

links_out : (n : ℕ) (cells : List ℕ) (i : ℕ) → (LinksNamed n cells i → ⊥) → links_in n cells i ≡ false
links_out n cells i h = go (links_in n cells i) refl
  where
    go : (b : Bool) → links_in n cells i ≡ b → links_in n cells i ≡ false
    go true e = absurd (h (links_named n cells i e))
    go false e = e

module _ (names cells : List ℕ) where
  pub walk_null : (fuel i v : ℕ) → i ≡ null → walked fuel names cells i v ≡ passed v
  unfolding walked
  walk_null zero i v e = simp (eq-eqb i null e)
  walk_null (suc fuel) i v e = simp (eq-eqb i null e)

  pub walk_outside : (fuel i v : ℕ) → i ≢ null → slots_of names ≤ i → walked fuel names cells i v ≡ strayed
  unfolding walked
  walk_outside zero i v n h = simp (ne_eqb i null n)
  walk_outside (suc fuel) i v n h = simp (ne_eqb i null n, le-leb (slots_of names) i h)

  pub walk_spent : (fuel i v : ℕ) → i ≢ null → v ≡ 0 → walked fuel names cells i v ≡ strayed
  unfolding walked
  walk_spent zero i v n e = simp (ne_eqb i null n)
  walk_spent (suc fuel) i v n e = rw (ne_eqb i null n, eq-eqb v 0 e) (go (leb (slots_of names) i))
    where
      go : (b : Bool) → pick b strayed strayed ≡ strayed
      go true = refl
      go false = refl

  module _ {i v : ℕ} (n : i ≢ null) (l : i < slots_of names) (w : v ≢ 0) where
    pub walk_loose : (fuel : ℕ) → links_in (slots_of names) cells i ≡ false → walked fuel names cells i v ≡ strayed
    unfolding walked
    walk_loose zero e = simp (ne_eqb i null n)
    walk_loose (suc fuel) e = rw (ne_eqb i null n, lt-leb (slots_of names) i l, ne_eqb v 0 w, e)

    pub walk_fails : (fuel : ℕ) → links_in (slots_of names) cells i ≡ true → first_failing names cells i ≢ 0
        → walked (suc fuel) names cells i v ≡ failed (first_failing names cells i) i
    unfolding walked
    walk_fails fuel e f = rw (ne_eqb i null n, lt-leb (slots_of names) i l, ne_eqb v 0 w, e, ne_eqb (first_failing names cells i) 0 f)

    pub walk_on : (fuel : ℕ) → links_in (slots_of names) cells i ≡ true → first_failing names cells i ≡ 0
        → walked (suc fuel) names cells i v
        ≡ onward (walked fuel names cells (cell cells i left) (v - 1)) (λ rest. walked fuel names cells (cell cells i right) rest)
    unfolding walked
    walk_on fuel e f = rw (ne_eqb i null n, lt-leb (slots_of names) i l, ne_eqb v 0 w, e, eq-eqb (first_failing names cells i) 0 f)

  -- No walk hands back more visits than it was given.
  within : {i v : ℕ} {o : Walk} → Walks names cells i v o → (m : ℕ) → o ≡ passed m → m ≤ v
  within (absent {v = v} e) m p = let z : v ≡ m = cc in omega arith
  within (outside n h) m p = absurd (let z : ◌≡◌ {A = ℕ} 0 1 = cc in omega arith)
  within (spent n e) m p = absurd (let z : ◌≡◌ {A = ℕ} 0 1 = cc in omega arith)
  within (loose n l w h) m p = absurd (let z : ◌≡◌ {A = ℕ} 0 1 = cc in omega arith)
  within (fails n l w h f) m p = absurd (let z : ◌≡◌ {A = ℕ} 0 1 = cc in omega arith)
  within (left_stops n l w h f a d) m p = absurd (d m p)
  within (both {m = k} n l w h f a b) m p = omega (arith, within a k refl, within b m p)

  -- A visit whose tests pass, by what the left subtree comes to.
  visit : (fuel i v : ℕ) → v ≤ suc fuel → i ≢ null → i < slots_of names → v ≢ 0 → links_in (slots_of names) cells i ≡ true
      → first_failing names cells i ≡ 0
      → (o : Walk) → walked fuel names cells (cell cells i left) (v - 1) ≡ o → Walks names cells (cell cells i left) (v - 1) o
      → ((m : ℕ) → m ≤ fuel → Walks names cells (cell cells i right) m (walked fuel names cells (cell cells i right) m))
      → Walks names cells i v (walked (suc fuel) names cells i v)
  visit fuel i v le n l w e f (passed m) q a rest =
      rw (walk_on n l w fuel e f, q) (both n l w (links_named _ _ _ e) f a (rest m (omega (arith, within a m refl))))
  visit fuel i v le n l w e f (failed t j) q a rest =
      rw (walk_on n l w fuel e f, q) (left_stops n l w (links_named _ _ _ e) f a (λ m p. (let z : ◌≡◌ {A = ℕ} 0 1 = cc in omega arith)))
  visit fuel i v le n l w e f strayed q a rest =
      rw (walk_on n l w fuel e f, q) (left_stops n l w (links_named _ _ _ e) f a (λ m p. (let z : ◌≡◌ {A = ℕ} 0 1 = cc in omega arith)))

  -- The model is the walk.
  pub walks : (fuel i v : ℕ) → v ≤ fuel → Walks names cells i v (walked fuel names cells i v)
  walks zero i v le = go (ℕ_discrete i null)
    where
      go : Dec (i ≡ null) → Walks names cells i v (walked 0 names cells i v)
      go (yes e) = rw (walk_null 0 i v e) (absent e)
      go (no n) = let z : v ≡ 0 = omega arith in rw (walk_spent 0 i v n z) (spent n z)
  walks (suc fuel) i v le =
      go (ℕ_discrete i null) (dec_lt i (slots_of names)) (ℕ_discrete v 0) (links_in (slots_of names) cells i) refl
      (ℕ_discrete (first_failing names cells i) 0)
      (λ w. walks fuel (cell cells i left) (v - 1) (omega arith)) (λ m h. walks fuel (cell cells i right) m h)
    where
      go : Dec (i ≡ null) → Dec (i < slots_of names) → Dec (v ≡ 0) → (b : Bool) → links_in (slots_of names) cells i ≡ b
          → Dec (first_failing names cells i ≡ 0)
          → (v ≢ 0 → Walks names cells (cell cells i left) (v - 1) (walked fuel names cells (cell cells i left) (v - 1)))
          → ((m : ℕ) → m ≤ fuel → Walks names cells (cell cells i right) m (walked fuel names cells (cell cells i right) m))
          → Walks names cells i v (walked (suc fuel) names cells i v)
      go (yes e) d w b q f lefts rights = rw (walk_null (suc fuel) i v e) (absent e)
      go (no n) (no d) w b q f lefts rights = rw (walk_outside (suc fuel) i v n (omega arith)) (outside n (omega arith))
      go (no n) (yes l) (yes e) b q f lefts rights = rw (walk_spent (suc fuel) i v n e) (spent n e)
      go (no n) (yes l) (no w) false q f lefts rights =
          rw (walk_loose n l w (suc fuel) q) (loose n l w (λ h. false≢true (sym q ∙ links_in_lem _ _ _ h)))
      go (no n) (yes l) (no w) true q (no f) lefts rights = rw (walk_fails n l w fuel q f) (fails n l w (links_named _ _ _ q) f)
      go (no n) (yes l) (no w) true q (yes f) lefts rights = visit fuel i v le n l w q f _ refl (lefts w) rights

  -- And the walk is the model's, with any fuel that is at least the visits.
  pub walks_only : {i v : ℕ} {o : Walk} → Walks names cells i v o → (fuel : ℕ) → v ≤ fuel → walked fuel names cells i v ≡ o
  walks_only (absent {i} {v} e) fuel le = walk_null fuel i v e
  walks_only (outside {i} {v} n h) fuel le = walk_outside fuel i v n h
  walks_only (spent {i} {v} n e) fuel le = walk_spent fuel i v n e
  walks_only (loose n l w h) fuel le = walk_loose n l w fuel (links_out _ _ _ h)
  walks_only (fails n l w h f) zero le = absurd (w (omega arith))
  walks_only (fails n l w h f) (suc fuel) le = walk_fails n l w fuel (links_in_lem _ _ _ h) f
  walks_only (left_stops n l w h f a d) zero le = absurd (w (omega arith))
  walks_only (left_stops {o = passed m} n l w h f a d) (suc fuel) le = absurd (d m refl)
  walks_only (left_stops {i = i} {o = failed t j} n l w h f a d) (suc fuel) le =
      walk_on n l w fuel (links_in_lem _ _ _ h) f
      ∙ ap (λ (o : Walk). onward o (λ rest. walked fuel names cells (cell cells i right) rest)) (walks_only a fuel (omega arith))
  walks_only (left_stops {i = i} {o = strayed} n l w h f a d) (suc fuel) le =
      walk_on n l w fuel (links_in_lem _ _ _ h) f
      ∙ ap (λ (o : Walk). onward o (λ rest. walked fuel names cells (cell cells i right) rest)) (walks_only a fuel (omega arith))
  walks_only (both n l w h f a b) zero le = absurd (w (omega arith))
  walks_only (both {i = i} {m = m} n l w h f a b) (suc fuel) le =
      walk_on n l w fuel (links_in_lem _ _ _ h) f
      ∙ ap (λ (o : Walk). onward o (λ rest. walked fuel names cells (cell cells i right) rest)) (walks_only a fuel (omega arith))
      ∙ walks_only b fuel (omega (arith, within a m refl))

  -- So fuel past the visits changes nothing, and no more visits come back than were given.
  pub walked_fuel : (f g i v : ℕ) → v ≤ f → v ≤ g → walked f names cells i v ≡ walked g names cells i v
  walked_fuel f g i v hf hg = walks_only (walks g i v hg) f hf

  pub walked_within : (fuel i v m : ℕ) → v ≤ fuel → walked fuel names cells i v ≡ passed m → m ≤ v
  walked_within fuel i v m h e = within (walks fuel i v h) m e
