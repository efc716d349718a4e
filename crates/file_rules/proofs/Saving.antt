-- save writes the bytes of an accepted set, and their number is what it answers.
use mathlib.Core.Path.{◌≡◌, refl, ◌∙◌}
use mathlib.Core.Bool.{Bool, true, false}
use mathlib.Core.List.{List, ◌++◌}
use Prim.Native.Nat.{ℕ, zero, suc, ◌*◌, ◌≤◌}
use native.Mathlib.Omega.{arith}
use lib.ListN.{length, drop, length-append}
use lib.Dec.{leb}
use borrow.Author.Tests.{leb-true, le-leb}
use Rattle.slots.specs.Answers.{given, refused}
use Rattle.endian.proofs.Endian.{little-length, words_bytes_length}
use Rattle.set_rules.specs.Words.{Set, headers_in, Fit, fits}
use Rattle.set_rules.specs.Accepted.{Accepted}
use Rattle.set_rules.specs.Accepting.{accepted}
use Rattle.set_rules.proofs.Fit.{fits_exactly}
use Rattle.set_rules.proofs.Accepting.{yes_accepted, accepted_yes}
use Rattle.file_rules.specs.File.{slot_bytes, slots_bytes, set_section, set_front, set_bytes, set_size}
use Rattle.file_rules.specs.Saving.{saved, saves}

slot_length : (s : Set) (i : ℕ) → length (slot_bytes s i) ≡ 41
unfolding slot_bytes
slot_length s i = simp (length-append, little-length)

pub slots_length : (s : Set) (n : ℕ) → length (slots_bytes s n) ≡ 41 * n
unfolding slots_bytes
slots_length s zero = refl
slots_length s (suc n) =
    let a = slots_length s n in
    let b = slot_length s n in
    length-append (slots_bytes s n) (slot_bytes s n) ∙ omega arith

-- The number that save answers is that of the bytes.
pub size_is : (s : Set) → length s.heads ≡ 3 * headers_in s → length (set_bytes s) ≡ set_size s
unfolding set_front set_section set_size
size_is s e = simp (length-append, little-length, words_bytes_length, slots_length) (omega arith)

module _ (s : Set) (out : List ℕ) where
  pub save_done : Fit s → Accepted s → set_size s ≤ length out
      → saves s out ≡ saved (given (set_size s)) (set_bytes s ++ drop (set_size s) out)
  unfolding saves
  save_done f a l = simp ((fits_exactly s).1 f, le-leb (set_size s) (length out) l, accepted_yes f a)

  pub save_two : Fit s → (Accepted s → ⊥) → set_size s ≤ length out → saves s out ≡ saved (refused 2) out
  unfolding saves
  save_two f n l = go (accepted s) refl
    where
      go : (b : Bool) → accepted s ≡ b → saves s out ≡ saved (refused 2) out
      go true e = absurd (n (yes_accepted f e))
      go false e = simp ((fits_exactly s).1 f, le-leb (set_size s) (length out) l, e)

  pub save_one : (Fit s → set_size s ≤ length out → ⊥) → saves s out ≡ saved (refused 1) out
  unfolding saves
  save_one n = go (fits s) (leb (set_size s) (length out)) refl refl
    where
      go : (b c : Bool) → fits s ≡ b → leb (set_size s) (length out) ≡ c → saves s out ≡ saved (refused 1) out
      go true true e f = absurd (n ((fits_exactly s).0 e) (leb-true _ _ f))
      go true false e f = simp (e, f)
      go false true e f = simp (e, f)
      go false false e f = simp (e, f)
