-- A file's bytes tell its set, so sets sent as files are tallied as they are: one that is not accepted, or too large, as a refused one.
use mathlib.Core.Path.{◌≡◌, refl, ap, sym, ◌∙◌}
use mathlib.Core.Bool.{Bool, true, false, false≢true}
use mathlib.Core.List.{List, ◌++◌}
use Prim.Native.Nat.{ℕ, ◌<◌}
use native.Mathlib.Omega.{arith}
use lib.ListN.{length, length-append}
use lib.Dec.{eqb}
use Rattle.slots.specs.Words.{pick}
use Rattle.set_rules.specs.Words.{Set, lent_set, Fit}
use Rattle.set_rules.specs.Accepted.{Accepted}
use Rattle.file_rules.specs.File.{set_bytes, set_size}
use Rattle.file_rules.specs.Faults.{Larger, Loadable}
use Rattle.file_rules.proofs.Returning.{set_are_bytes, accepted_loadable}
use Rattle.file_rules.proofs.Saving.{size_is}
use Rattle.file_rules.proofs.Claims.{claims as file-claims}
use Rattle.figure_rules.specs.Tally.{is_taken, TallyOutcome, tallies}
use Rattle.figure_rules.specs.Stream.{no_set, Figures, figures, no_figures, with_set, with_sets, figures_of}
use Rattle.figure_rules.specs.Input.{blocks, Files, file_set, file_sets, SmallEnough, CountedFile, files_of, Sent}
use Rattle.figure_rules.proofs.Tallying.{taken_is, is-taken, not_taken}
use Rattle.figure_rules.proofs.Filing.{file_set_lem, set_file, no_fit_set}
use Rattle.figure_rules.proofs.Streaming.{whole_figures}

-- Slices that hold either of two sets.
abbrev both_held : Set → Set → Set
both_held s u = lent_set (s.lengths ++ u.lengths) (s.bins ++ u.bins) (s.heads ++ u.heads) (s.names ++ u.names) (s.cells ++ u.cells)

left_larger : (s u : Set) → Larger s (both_held s u)
left_larger s u =
    record {
      lengths = omega (arith, length-append s.lengths u.lengths);
      bins = omega (arith, length-append s.bins u.bins);
      heads = omega (arith, length-append s.heads u.heads);
      names = omega (arith, length-append s.names u.names);
      cells = omega (arith, length-append s.cells u.cells);
    }

right_larger : (s u : Set) → Larger u (both_held s u)
right_larger s u =
    record {
      lengths = omega (arith, length-append s.lengths u.lengths);
      bins = omega (arith, length-append s.bins u.bins);
      heads = omega (arith, length-append s.heads u.heads);
      names = omega (arith, length-append s.names u.names);
      cells = omega (arith, length-append s.cells u.cells);
    }

reload : {t u s : Set} → Larger s u → Loadable t s → Loadable u s
reload g m =
    record {
      three = m.three;
      two = m.two;
      seven = m.seven;
      tables = m.tables;
      bins = m.bins;
      headers = m.headers;
      slots = m.slots;
      larger = g;
      wide = m.wide;
      states = m.states;
    }

-- Bytes tell the set.
file_tells : {s u : Set} → Loadable s s → CountedFile (set_bytes s) u → s ≡ u
file_tells {s} {u} m h =
    let t = both_held s u in
    (file-claims.loads t (set_bytes s) (set_are_bytes s)).one_set s u (record { loadable = reload (left_larger s u) m; is = refl })
    (record { loadable = accepted_loadable u t h.fit h.wide h.accepted (right_larger s u); is = h.is })

-- What is not taken is tallied alike.
tallies_no : (s : Set) (t : List ℕ) → is_taken s ≡ false → tallies s t ≡ tallies no_set t
unfolding tallies
tallies_no s t e = let z = not_taken no_set (λ f a. no_fit_set f) in rw (e, z)

unfit_no : (s : Set) (t : List ℕ) → (Fit s → ⊥) → tallies s t ≡ tallies no_set t
unfit_no s t n = tallies_no s t (not_taken s (λ f a. n f))

clash : (s : Set) → is_taken s ≡ false → Fit s → Accepted s → ⊥
clash s e f a = false≢true (sym e ∙ is-taken s f a)

module _ (s : Set) (may : Loadable s s) (t : List ℕ) where
  itself_tallied : SmallEnough s → tallies (file_set (set_bytes s)) t ≡ tallies s t
  itself_tallied m = go (is_taken s) refl
    where
      go : (b : Bool) → is_taken s ≡ b → tallies (file_set (set_bytes s)) t ≡ tallies s t
      go true e =
          let h = taken_is s e in
          ap (λ (x : Set). tallies x t)
          (file_set_lem (set_are_bytes s) (record { fit = h.0; accepted = h.1; small = m; wide = may.wide; is = refl }))
      go false e =
          unfit_no (file_set (set_bytes s)) t
          (λ f.
          let h = set_file (set_are_bytes s) f in
          let z = file_tells may h in
          clash s e (rw (sym z) at h.fit) (rw (sym z) at h.accepted))
          ∙ sym (tallies_no s t e)

  past_tallied : (SmallEnough s → ⊥) → tallies (file_set (set_bytes s)) t ≡ tallies no_set t
  past_tallied n =
      unfit_no (file_set (set_bytes s)) t
      (λ f. let h = set_file (set_are_bytes s) f in let z = file_tells may h in n (rw (sym z) at h.small))

counts_same : (f : Figures) (s u : Set) → tallies s f.totals ≡ tallies u f.totals → with_set f s ≡ with_set f u
unfolding with_set
counts_same f s u e = ap (λ (r : TallyOutcome). figures r.totals (pick (eqb r.answer.number 17) true f.over)) e

sent_counts : (f : Figures) {l m : List Set} → Sent l m → with_sets f (file_sets (files_of l)) ≡ with_sets f m
unfolding files_of file_sets with_sets
sent_counts f Sent.none_sent = refl
sent_counts f (Sent.itself {s = s} {m = m} may k d) =
    sent_counts (with_set f (file_set (set_bytes s))) d
    ∙ ap (λ (x : Figures). with_sets x m) (counts_same f (file_set (set_bytes s)) s (itself_tallied s may f.totals k))
sent_counts f (Sent.past {s = s} {m = m} may k d) =
    sent_counts (with_set f (file_set (set_bytes s))) d
    ∙ ap (λ (x : Figures). with_sets x m) (counts_same f (file_set (set_bytes s)) no_set (past_tallied s may f.totals k))

file_short : (s : Set) → Loadable s s → length (set_bytes s) < 4294967296
unfolding set_size
file_short s m =
    let e = size_is s m.three in
    let a = m.tables in
    let b = m.bins in
    let c = m.headers in
    let d = m.slots in
    omega arith

sent_files : {l m : List Set} → Sent l m → Files (files_of l)
unfolding files_of
sent_files Sent.none_sent = Files.no_file
sent_files (Sent.itself {s = s} may k d) = Files.one_more_lem (set_are_bytes s) (file_short s may) (sent_files d)
sent_files (Sent.past {s = s} may k d) = Files.one_more_lem (set_are_bytes s) (file_short s may) (sent_files d)

pub sent_figures : {l m : List Set} → Sent l m → figures_of (blocks (files_of l)) ≡ with_sets no_figures m
sent_figures {l} d = whole_figures (files_of l) (sent_files d) ∙ sent_counts no_figures d
