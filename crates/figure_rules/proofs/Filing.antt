-- What the loader makes of a whole file does not depend on what the slices held: an accepted file gives back its set, any other none.
use mathlib.Core.Path.{◌≡◌, refl, ap, sym, ◌∙◌}
use mathlib.Core.Logic.{◌≢◌}
use mathlib.Core.List.{List}
use Prim.Native.Nat.{ℕ, ◌-◌, ◌≤◌}
use native.Mathlib.Decide.{ℕ_discrete}
use native.Mathlib.Omega.{arith}
use lib.ListN.{length, replicate, length-append, length-replicate}
use borrow.Author.Tests.{eq-eqb, ne_eqb}
use Rattle.endian.specs.Bytes.{Bytes}
use Rattle.set_rules.specs.Words.{Set, Fit}
use Rattle.set_rules.specs.Accepted.{Accepted}
use Rattle.file_rules.specs.File.{set_bytes, Wide}
use Rattle.file_rules.specs.Layout.{ofLengths, ofBins, ofHeads, ofNames, ofCells}
use Rattle.file_rules.specs.Faults.{Larger, WholeFile, LoadVerdict}
use Rattle.file_rules.specs.Left.{padding, padded, Zeroed}
use Rattle.file_rules.specs.Loading.{LoadOutcome, load_whole}
use Rattle.file_rules.proofs.Why.{SameLengths}
use Rattle.file_rules.proofs.Returning.{accepted_loadable}
use Rattle.file_rules.proofs.Claims.{claims as file-claims}
use Rattle.figure_rules.specs.Stream.{week_slices, no_set, set_to_tally}
use Rattle.figure_rules.specs.Input.{file_set, SmallEnough, CountedFile}

-- The file of an accepted set that the slices t hold.
record FiledIn (t : Set) (l : List ℕ) (s : Set) : Type 0 where
  whole : WholeFile t l s
  fit : Fit s
  accepted : Accepted s

pad_long : (x m : List ℕ) → length x ≤ length m → length (padding x m) ≡ length m
pad_long x m l = length-append x (replicate (length m - length x) 0) ∙ omega (arith, length-replicate {A = ℕ} (length m - length x) 0)

padded-kept : (s t : Set) → Larger s t → SameLengths t (padded s t)
unfolding padded
padded-kept s t g ofLengths = pad_long s.lengths t.lengths g.lengths
padded-kept s t g ofBins = pad_long s.bins t.bins g.bins
padded-kept s t g ofHeads = pad_long s.heads t.heads g.heads
padded-kept s t g ofNames = pad_long s.names t.names g.names
padded-kept s t g ofCells = pad_long s.cells t.cells g.cells

zeros_long : {l : List ℕ} (m : ℕ) → l ≡ replicate m 0 → length l ≡ m
zeros_long m e = ap length e ∙ length-replicate {A = ℕ} m 0

zeros-kept : {t u : Set} → Zeroed t u → SameLengths t u
zeros-kept z ofLengths = zeros_long _ z.lengths
zeros-kept z ofBins = zeros_long _ z.bins
zeros-kept z ofHeads = zeros_long _ z.heads
zeros-kept z ofNames = zeros_long _ z.names
zeros-kept z ofCells = zeros_long _ z.cells

module _ (t : Set) {l : List ℕ} (k : Bytes l) where
  filed_zero : {s : Set} → FiledIn t l s → (load_whole t l).answer.number ≡ 0
  filed_zero {s} h = ((file-claims.loads t l k).verdicts 0).1 (LoadVerdict.accepts s h.whole h.fit h.accepted)

  filed_set : {s : Set} → FiledIn t l s → set_to_tally (load_whole t l) ≡ s
  unfolding set_to_tally
  filed_set {s} h =
      simp (eq-eqb (load_whole t l).answer.number 0 (filed_zero h)) ((file-claims.loads t l k).own s h.whole h.fit h.accepted)

  given_filed : (load_whole t l).answer.number ≡ 0 → (s : Set) × FiledIn t l s
  given_filed e = go 0 refl (((file-claims.loads t l k).verdicts 0).0 e)
    where
      go : (n : ℕ) → n ≡ 0 → LoadVerdict t l n → (s : Set) × FiledIn t l s
      go _ z (LoadVerdict.accepts s w f a) = (s, record { whole = w; fit = f; accepted = a })
      go _ z (LoadVerdict.unfit s w f) = absurd (omega arith)
      go _ z (LoadVerdict.damaged s w f a) = absurd (omega arith)
      go _ z (LoadVerdict.over o) = absurd (omega arith)
      go _ z (LoadVerdict.long o) = absurd (omega arith)
      go _ z (LoadVerdict.short o) = absurd (omega arith)

  -- The slices keep their lengths.
  pub whole_kept : SameLengths t (load_whole t l).left.set
  whole_kept = go (ℕ_discrete (load_whole t l).answer.number 0)
    where
      go : Dec ((load_whole t l).answer.number ≡ 0) → SameLengths t (load_whole t l).left.set
      go (yes e) =
          let h = given_filed e in
          let z = (file-claims.loads t l k).leaves h.0 h.1.whole h.1.fit h.1.accepted in
          rw z (padded-kept h.0 t h.1.whole.loadable.larger)
      go (no n) = zeros-kept ((file-claims.loads t l k).zeros n)

refused-set : (o : LoadOutcome) → o.answer.number ≢ 0 → set_to_tally o ≡ no_set
unfolding set_to_tally
refused-set o n = rw (ne_eqb o.answer.number 0 n)

larger_kept : {s t u : Set} → SameLengths t u → Larger s t → Larger s u
larger_kept k g =
    record {
      lengths = omega (arith, k ofLengths, g.lengths);
      bins = omega (arith, k ofBins, g.bins);
      heads = omega (arith, k ofHeads, g.heads);
      names = omega (arith, k ofNames, g.names);
      cells = omega (arith, k ofCells, g.cells);
    }

file_in : {t s : Set} {l : List ℕ} → Fit s → Accepted s → Wide s → Larger s t → l ≡ set_bytes s → FiledIn t l s
file_in {t} {s} f a w g e = record { whole = record { loadable = accepted_loadable s t f w a g; is = e }; fit = f; accepted = a }

refiled : {s t u : Set} {l : List ℕ} → SameLengths t u → FiledIn t l s → FiledIn u l s
refiled k h =
    file_in h.fit h.accepted h.whole.loadable.wide (larger_kept k h.whole.loadable.larger) h.whole.is

-- Whatever the slices held.
pub same_set : (t u : Set) → SameLengths t u → {l : List ℕ} → Bytes l → set_to_tally (load_whole u l) ≡ set_to_tally (load_whole t l)
same_set t u k {l} b = go (ℕ_discrete (load_whole t l).answer.number 0) (ℕ_discrete (load_whole u l).answer.number 0)
  where
    back : SameLengths u t
    back x = sym (k x)

    go : Dec ((load_whole t l).answer.number ≡ 0) → Dec ((load_whole u l).answer.number ≡ 0)
        → set_to_tally (load_whole u l) ≡ set_to_tally (load_whole t l)
    go (yes e) d = let h = (given_filed t b e).1 in filed_set u b (refiled k h) ∙ sym (filed_set t b h)
    go (no n) (yes e) = let h = (given_filed u b e).1 in filed_set u b h ∙ sym (filed_set t b (refiled back h))
    go (no n) (no m) = refused-set (load_whole u l) m ∙ sym (refused-set (load_whole t l) n)

-- The program's slices.
small_larger : (s : Set) → Fit s → SmallEnough s → Larger s week_slices
unfolding week_slices
small_larger s f m =
    let two = f.two in
    let seven = f.seven in
    let three = f.three in
    let bins = m.bins in
    let headers = m.headers in
    let slots = m.slots in
    record {
      lengths = f.most;
      bins = omega (arith, length-replicate {A = ℕ} 1024 0);
      heads = omega (arith, length-replicate {A = ℕ} 768 0);
      names = omega (arith, length-replicate {A = ℕ} 1024 0);
      cells = omega (arith, length-replicate {A = ℕ} 3584 0);
    }

larger_small : (s : Set) → Larger s week_slices → SmallEnough s
unfolding week_slices
larger_small s g =
    record {
      bins = omega (arith, g.bins, length-replicate {A = ℕ} 1024 0);
      headers = omega (arith, g.heads, length-replicate {A = ℕ} 768 0);
      slots = omega (arith, g.names, length-replicate {A = ℕ} 1024 0);
    }

-- The file of an accepted set that is small enough gives that set.
pub file_set_lem : {l : List ℕ} {s : Set} → Bytes l → CountedFile l s → file_set l ≡ s
unfolding file_set
file_set_lem {l} {s} k h = filed_set week_slices k (file_in h.fit h.accepted h.wide (small_larger s h.fit h.small) h.is)

pub no_fit_set : Fit no_set → ⊥
no_fit_set f = omega (arith, f.least)

-- And any other gives none that fits.
pub set_file : {l : List ℕ} → Bytes l → Fit (file_set l) → CountedFile l (file_set l)
unfolding file_set
set_file {l} b f = go (ℕ_discrete (load_whole week_slices l).answer.number 0)
  where
    go : Dec ((load_whole week_slices l).answer.number ≡ 0) → CountedFile l (set_to_tally (load_whole week_slices l))
    go (yes e) =
        let h = given_filed week_slices b e in
        rw (filed_set week_slices b h.1)
        (record {
          fit = h.1.fit;
          accepted = h.1.accepted;
          small = larger_small h.0 h.1.whole.loadable.larger;
          wide = h.1.whole.loadable.wide;
          is = h.1.whole.is;
        })
    go (no n) = absurd (no_fit_set (rw (refused-set (load_whole week_slices l) n) at f))
