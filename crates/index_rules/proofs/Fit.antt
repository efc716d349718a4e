-- The test of fitness holds exactly of fit words: half the names is the only capacity that can be.
use mathlib.Core.Path.{◌≡◌, refl, sym, ◌∙◌}
use mathlib.Core.Bool.{Bool, true, false, false≢true}
use Prim.Native.Nat.{◌*◌}
use native.Mathlib.Omega.{arith}
use lib.ListN.{length}
use lib.Dec.{eqb, leb}
use borrow.Author.Tests.{eqb-true, leb-true, eq-eqb, le-leb}
use Rattle.slots.specs.Words.{pick}
use Rattle.index_rules.specs.Live.{Live, Unsized, unsized_of, Fit, FitUnsized, fits, fits_unsized}
use Rattle.tree_rules.specs.Find.{slots_of}

-- A chain of tests is true where each is.
pub both : (a b : Bool) → pick a b false ≡ true → (a ≡ true) × (b ≡ true)
both true b e = (refl, e)
both false b e = absurd (false≢true e)

-- A test beside one that is settled.
pub no_and : (a : Bool) → pick a false false ≡ false
no_and true = refl
no_and false = refl

pub and_yes : (a : Bool) → pick a true false ≡ a
and_yes true = refl
and_yes false = refl

-- A test that is not true is false.
pub false_of : (b : Bool) → (b ≡ true → ⊥) → b ≡ false
false_of true n = absurd (n refl)
false_of false n = refl

-- The capacity is half the names.
pub half : {t : Live} (h : Fit t) → slots_of t.names ≡ h.capacity
half h = omega (arith, h.two)

-- The tests of a tree without its sizes.
module _ (t : Unsized) where
  pub unsized-fits : FitUnsized t → fits_unsized t ≡ true
  unfolding fits_unsized
  unsized-fits h =
      let half : slots_of t.names ≡ h.capacity = omega (arith, h.two) in
      simp (
        half,
        le-leb 1 h.capacity h.least,
        le-leb h.capacity 4096 h.most,
        eq-eqb (length t.names) (2 * h.capacity) h.two,
        eq-eqb (length t.cells) (7 * h.capacity) h.seven,
        eq-eqb (length t.head) 3 h.three,
      )

  pub fits-unsized : fits_unsized t ≡ true → FitUnsized t
  unfolding fits_unsized
  fits-unsized e =
      let n = slots_of t.names in
      let h1 = both (leb 1 n) _ e in
      let h2 = both (leb n 4096) _ h1.1 in
      let h3 = both (eqb (length t.names) (2 * n)) _ h2.1 in
      let h4 = both (eqb (length t.cells) (7 * n)) _ h3.1 in
      record {
        capacity = n;
        least = leb-true 1 n h1.0;
        most = leb-true n 4096 h2.0;
        two = eqb-true (length t.names) (2 * n) h3.0;
        seven = eqb-true (length t.cells) (7 * n) h4.0;
        three = eqb-true (length t.head) 3 h4.1;
      }

-- And with them.
pub fit_unsized : {t : Live} → Fit t → FitUnsized (unsized_of t)
fit_unsized h = record { capacity = h.capacity; least = h.least; most = h.most; two = h.two; seven = h.seven; three = h.three }

pub fit_fits : (t : Live) → Fit t → fits t ≡ true
unfolding fits
fit_fits t h = simp (unsized-fits (unsized_of t) (fit_unsized h), half h, eq-eqb (length t.sizes) h.capacity h.each)

pub fits_fit : (t : Live) → fits t ≡ true → Fit t
unfolding fits
fits_fit t e =
    let h = both (fits_unsized (unsized_of t)) _ e in
    let f = fits-unsized (unsized_of t) h.0 in
    let each : length t.sizes ≡ slots_of t.names = eqb-true _ _ h.1 in
    record {
      capacity = f.capacity;
      least = f.least;
      most = f.most;
      two = f.two;
      seven = f.seven;
      three = f.three;
      each = each ∙ omega (arith, f.two);
    }

pub unfit : (t : Live) → fits t ≡ false → Fit t → ⊥
unfit t e h = false≢true (sym e ∙ fit_fits t h)
