-- Save comes to the bytes written, or to one of two refusals, and which of them the word tells.
use mathlib.Core.Path.{◌≡◌, refl}
use mathlib.Core.Bool.{Bool, true, false}
use mathlib.Core.List.{List, ◌++◌}
use Prim.Native.Nat.{ℕ, ◌<◌, ◌≤◌}
use native.Mathlib.Decide.{dec_lt}
use native.Mathlib.Omega.{arith}
use lib.ListN.{length, drop}
use Rattle.slots.specs.Answers.{given, refused, answer_word}
use Rattle.slots.proofs.Laws.{given_is}
use Rattle.upload_rules.proofs.Ranges.{no_test}
use Rattle.set_rules.specs.Words.{Set, Fit, fits}
use Rattle.set_rules.specs.Accepted.{Accepted}
use Rattle.set_rules.specs.Accepting.{accepted, accepts}
use Rattle.set_rules.proofs.Fit.{fits_exactly}
use Rattle.set_rules.proofs.Judged.{judged}
use Rattle.file_rules.specs.File.{set_bytes, set_size}
use Rattle.file_rules.specs.Saving.{Saved, saved, saves}
use Rattle.file_rules.proofs.Claims.{claims}
use Rattle.file.proofs.Saving.{size_small}
use Rattle.word_rules.specs.Loaders.{save_worded}
use Rattle.word_rules.specs.Told.{gives}
use Rattle.word_rules.specs.Filed.{SaveTold}
use Rattle.word_rules.proofs.Telling.{plainly, always_tells}

module _ (s : Set) (out : List ℕ) where
  -- Which of the three it comes to.
  data SaveWay : Saved → Type 0 where
    unfit : ((Fit s × (set_size s ≤ length out)) → ⊥) → SaveWay (saved (refused 1) out)
    damaged : Fit s → set_size s ≤ length out → (Accepted s → ⊥) → SaveWay (saved (refused 2) out)
    done : Fit s → set_size s ≤ length out → Accepted s → SaveWay (saved (given (set_size s)) (set_bytes s ++ drop (set_size s) out))

  yes_or_no : Fit s → Dec (Accepted s)
  unfolding accepts
  yes_or_no fit = go (accepted s) refl
    where
      own : fits s ≡ true
      own = (fits_exactly s).1 fit

      go : (b : Bool) → accepted s ≡ b → Dec (Accepted s)
      go true e = yes ((judged.accepting s).yes.0 (rw (own, e))).1
      go false e = no (λ h. let z = (judged.accepting s).yes.1 (fit, h) in let y = rw (own, e) at z in omega (arith, given_is y))

  way : SaveWay (saves s out)
  way = go (fits s) refl (dec_lt (length out) (set_size s))
    where
      fine : Fit s → set_size s ≤ length out → Dec (Accepted s) → SaveWay (saves s out)
      fine f l (yes h) = rw ((claims.save s out).done f h l) (done f l h)
      fine f l (no h) = rw ((claims.save s out).two f h l) (damaged f l h)

      go : (b : Bool) → fits s ≡ b → Dec (length out < set_size s) → SaveWay (saves s out)
      go false e d =
          let n : Fit s → set_size s ≤ length out → ⊥ = λ f l. no_test e ((fits_exactly s).1 f) in
          rw ((claims.save s out).one n) (unfit (λ p. n p.0 p.1))
      go true e (yes d) =
          let n : Fit s → set_size s ≤ length out → ⊥ = λ f l. omega arith in
          rw ((claims.save s out).one n) (unfit (λ p. n p.0 p.1))
      go true e (no d) = let f = (fits_exactly s).0 e in fine f (omega arith) (yes_or_no f)

  small : Fit s → set_size s < 4294967296
  unfolding set_size
  small f = size_small s out ((fits_exactly s).1 f) refl

  told : {o : Saved} → SaveWay o → SaveTold s out o (save_worded o)
  unfolding save_worded answer_word
  told (unfit n) =
      record {
        tells = always_tells (plainly 1 refl);
        one = (λ e. n, λ m. refl);
        two = (λ e. absurd (omega arith), λ p. absurd (n (p.0, p.1)));
        stays = λ e. refl;
        writes = λ e. absurd (omega arith);
        only = λ e. omega arith;
      }
  told (damaged f l h) =
      record {
        tells = always_tells (plainly 2 refl);
        one = (λ e. absurd (omega arith), λ n. absurd (n (f, l)));
        two = (λ e. (f, l, h), λ p. refl);
        stays = λ e. refl;
        writes = λ e. absurd (omega arith);
        only = λ e. omega arith;
      }
  told (done f l h) =
      let b = small f in
      record {
        tells = always_tells (gives b);
        one = (λ e. absurd (omega arith), λ n. absurd (n (f, l)));
        two = (λ e. absurd (omega arith), λ p. absurd (p.2 h));
        stays = λ e. absurd (e (omega arith));
        writes = λ e. (omega arith, refl);
        only = λ e. absurd (e (omega arith));
      }

pub save_tells : (s : Set) (out : List ℕ) → SaveTold s out (saves s out) (save_worded (saves s out))
save_tells s out = told s out (way s out)
