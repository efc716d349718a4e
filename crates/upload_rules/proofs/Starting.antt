-- start answers by the two tests of an index, and writes the reader only.
use mathlib.Core.Path.{◌≡◌, refl, ap, sym, ◌∙◌}
use mathlib.Core.Logic.{◌↔◌}
use mathlib.Core.Bool.{Bool, true, false}
use Prim.Native.Nat.{ℕ}
use native.Mathlib.Omega.{arith}
use Rattle.slots.specs.Answers.{Answer, given, refused}
use Rattle.index_rules.specs.Sound.{Sound, sound}
use Rattle.index_rules.specs.Index.{FitIndex, fits_index, length_of}
use Rattle.index_rules.proofs.Journal.{fits-index, index-fits}
use Rattle.index_rules.proofs.Sounding.{yes_sound, sound_yes}
use Rattle.index_rules.specs.Insert.{inserts}
use Rattle.index_rules.proofs.Inserting.{insert_claims}
use Rattle.upload_rules.specs.Reader.{new_reader}
use Rattle.upload_rules.specs.Reading.{Session, session, ReadOutcome, read_outcome, read_start}
use Rattle.upload_rules.specs.Claims.{ReadStarts}
use Rattle.upload_rules.proofs.Ranges.{no_test, new_range}

module _ (d : Session) where
  data Did : Type 0 where
    one : (FitIndex d.index → ⊥) → read_start d ≡ read_outcome (refused 1) d → Did
    two : FitIndex d.index → (Sound d.index.live → ⊥) → read_start d ≡ read_outcome (refused 2) d → Did
    begun : FitIndex d.index → Sound d.index.live
        → read_start d ≡ read_outcome (given 1) (session (new_reader (length_of d.index.lines)) d.index) → Did

  did : Did
  unfolding read_start
  did = first (fits_index d.index) refl
    where
      second : FitIndex d.index → (b : Bool) → sound d.index.live ≡ b → Did
      second f true e = begun f (yes_sound f.tree e) (rw (index-fits d.index f, e))
      second f false e = two f (λ h. no_test e (sound_yes f.tree h)) (rw (index-fits d.index f, e))

      first : (b : Bool) → fits_index d.index ≡ b → Did
      first true e = second (fits-index d.index e) (sound d.index.live) refl
      first false e = one (λ f. no_test e (index-fits d.index f)) (rw e)

  says : {o : ReadOutcome} {a : Answer} → read_start d ≡ o → (read_start d).answer ≡ a → o.answer.number ≡ a.number
  says e f = ap (λ (o : ReadOutcome). o.answer.number) (sym e) ∙ ap (λ (x : Answer). x.number) f

  abbrev FirstTwo : Type 0
  FirstTwo = (((read_start d).answer ≡ refused 1) ↔ (FitIndex d.index → ⊥))
      × (((read_start d).answer ≡ refused 2) ↔ (FitIndex d.index × (Sound d.index.live → ⊥)))

  -- insert answers 1 and 2 by the same two.
  as_insert : FirstTwo → (hash key p : ℕ) → (((read_start d).answer ≡ refused 1) ↔ ((inserts d.index hash key p).answer ≡ refused 1))
      × (((read_start d).answer ≡ refused 2) ↔ ((inserts d.index hash key p).answer ≡ refused 2))
  as_insert f hash key p =
      let i = insert_claims d.index hash key p in (
        (λ e. i.one.1 (f.0.0 e), λ e. f.0.1 (i.one.0 e)),
        (λ e. i.two.1 (f.1.0 e), λ e. f.1.1 (i.two.0 e)),
      )

  pub start_claims : ReadStarts d
  start_claims = go did
    where
      other : {A : Type 0} {o : ReadOutcome} {a : Answer} → read_start d ≡ o → (o.answer.number ≡ a.number → ⊥)
          → (read_start d).answer ≡ a → A
      other e n f = absurd (n (says e f))

      go : Did → ReadStarts d
      go (one n e) =
          let f : FirstTwo = ((λ f. n, λ x. ap (λ (o : ReadOutcome). o.answer) e), (other e (λ z. omega arith), λ x. absurd (n x.0))) in
          record {
            one = f.0;
            two = f.1;
            as_insert = as_insert f;
            accepted = (other e (λ z. omega arith), λ x. absurd (n x.0));
            refuses = λ x. ap (λ (o : ReadOutcome). o.left) e;
            begins = other e (λ z. omega arith);
            inside = other e (λ z. omega arith);
          }
      go (two f n e) =
          let t : FirstTwo = ((other e (λ z. omega arith), λ x. absurd (x f)), (λ x. (f, n), λ x. ap (λ (o : ReadOutcome). o.answer) e)) in
          record {
            one = t.0;
            two = t.1;
            as_insert = as_insert t;
            accepted = (other e (λ z. omega arith), λ x. absurd (n x.1));
            refuses = λ x. ap (λ (o : ReadOutcome). o.left) e;
            begins = other e (λ z. omega arith);
            inside = other e (λ z. omega arith);
          }
      go (begun f h e) =
          let t : FirstTwo = ((other e (λ z. omega arith), λ x. absurd (x f)), (other e (λ z. omega arith), λ x. absurd (x.1 h))) in
          record {
            one = t.0;
            two = t.1;
            as_insert = as_insert t;
            accepted = (λ x. (f, h), λ x. ap (λ (o : ReadOutcome). o.answer) e);
            refuses = λ x. absurd (x (ap (λ (o : ReadOutcome). o.answer.number) e));
            begins = λ x. ap (λ (o : ReadOutcome). o.left) e;
            inside = λ x. rw e (new_range (length_of d.index.lines));
          }
