-- A move comes to one of five refusals, or to entries that are no more than the slots; so its word tells which.
use mathlib.Core.Path.{◌≡◌, refl, ◌∙◌}
use mathlib.Core.Bool.{true}
use Prim.Native.Nat.{ℕ, ◌+◌, ◌<◌}
use native.Mathlib.Omega.{arith}
use lib.Dec.{ltb}
use Rattle.slots.specs.Answers.{Answer, refused, answer_word}
use Rattle.set_rules.specs.Words.{Set, tables_of, fits}
use Rattle.set_rules.specs.Accepting.{accepted}
use Rattle.set_rules.proofs.Fit.{fits_fit}
use Rattle.move_rules.specs.Moving.{half_count, high_index, low_header, high_header, lacks, movable, MoveOutcome, move_outcome, moves_bin}
use Rattle.move_rules.specs.Moving.{moves}
use Rattle.move_rules.proofs.Claims.{claims}
use Rattle.mover.proofs.Moves.{half_most}
use Rattle.word_rules.specs.Told.{Valued, gives}
use Rattle.word_rules.specs.Words.{MoveWorded, move_worded}
use Rattle.word_rules.specs.Moved.{MoveTold}
use Rattle.word_rules.proofs.Telling.{plainly, always_tells, told-when, told-given}
use Rattle.word_rules.proofs.Answering.{picked}

module _ (s : Set) (k i : ℕ) where
  abbrev Tells : MoveOutcome → Type 0
  Tells o = (v : ℕ) × Valued 4294967296 o.answer v

  refuses : (n : ℕ) → Valued 4294967296 (refused n) 0 → Tells (move_outcome (refused n) s)
  refuses n h = (0, h)

  valued_bin : fits s ≡ true → Tells (moves_bin s k i)
  unfolding moves_bin
  valued_bin e =
      let low = half_count s k i i in
      let high = half_count s k i (high_index s k i) in
      let f = fits_fit s e in
      let small : low + high < 4294967296 =
      omega (arith, half_most s k i i, half_most s k i (high_index s k i), f.two, f.slots_most) in
      picked Tells (lacks low (low_header s k i)) (λ _. refuses 5 (plainly 5 refl))
      (λ _. picked Tells (lacks high (high_header s k i)) (λ _. refuses 5 (plainly 5 refl)) (λ _. (low + high, gives small)))

  valued : Tells (moves s k i)
  unfolding moves
  valued =
      picked Tells (fits s)
      (λ e. picked Tells (ltb k (tables_of s))
      (λ _. picked Tells (accepted s)
      (λ _. picked Tells (movable s k i) (λ _. valued_bin e) (λ _. refuses 16 (plainly 16 refl)))
      (λ _. refuses 2 (plainly 2 refl)))
      (λ _. refuses 10 (plainly 10 refl)))
      (λ _. refuses 1 (plainly 1 refl))

pub move_tells : (s : Set) (k i : ℕ) → MoveTold s k i (moves s k i) (move_worded (moves s k i))
unfolding move_worded
move_tells s k i =
    let t = always_tells (valued s k i).1 in
    let c = claims.refusals s k i in
    let m = claims.moving s k i in
    record {
      tells = t;
      one = told-when t 1 refl c.one;
      ten = told-when t 10 refl c.ten;
      two = told-when t 2 refl c.two;
      sixteen = told-when t 16 refl c.sixteen;
      five = λ all low high p. told-when t 5 refl (c.five all low high p);
      stays = λ w. c.unchanged (λ e. w (t.number ∙ e));
      moves = λ all low high p f a n r. (let d = m.moved all low high p f a n r in (told-given t d.0, d.1));
    }

-- The library's outcome in words.
pub tells_move : {w : ℕ} {a : Answer} {t : Set} {o : MoveOutcome} → w ≡ answer_word a → move_outcome a t ≡ o
    → ◌≡◌ {A = MoveWorded} (record { word = w; left = t }) (move_worded o)
unfolding move_worded
tells_move e f = rw (e, ← f)
