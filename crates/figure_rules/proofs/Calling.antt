-- A call is refused exactly where something is out of its ranges; what is in range stays there, so every piece of an input is taken.
use mathlib.Core.Path.{◌≡◌, refl, ap, ◌∙◌}
use mathlib.Core.Bool.{Bool, true}
use mathlib.Core.List.{List}
use Prim.Native.Nat.{ℕ, ◌^◌, ◌<◌}
use native.Mathlib.Omega.{arith}
use lib.Dec.{eqb, ltb, leb}
use borrow.Author.Tests.{eqb-true, eqb-false, leb-true, le-leb, ltb-true, lt-ltb}
use Rattle.slots.specs.Answers.{refused}
use Rattle.slots.proofs.Laws.{number}
use Rattle.endian.specs.Bytes.{Bytes}
use Rattle.index_rules.proofs.Fit.{both, false_of}
use Rattle.index_rules.proofs.Rules.{and}
use Rattle.upload_rules.specs.Reading.{joined_bytes}
use Rattle.upload_rules.proofs.Ranges.{pick_by}
use Rattle.file_rules.proofs.Testing.{goes_in, in_goes}
use Rattle.figure_rules.specs.Stream.{week_slices, Stream, stream, bytes_figured, new_stream, input_ends, figures_of, pieces_figured}
use Rattle.figure_rules.specs.Pieces.{FitLength, FitStream, FitEnd, length_fits, end_fits, stream_fits, StreamOutcome, stream_outcome}
use Rattle.figure_rules.specs.Pieces.{so_far, piece_taken, input_ended, pieces_taken, Pieces, no_piece, one_piece}
use Rattle.figure_rules.proofs.Tallying.{fit_totals, totals_fit}
use Rattle.figure_rules.proofs.Ordering.{no_fit}
use Rattle.figure_rules.proofs.Streaming.{pieces}
use Rattle.figure_rules.proofs.Chunking.{bytes_fit, start_fit}

-- The tests of the ranges.
pub length_in : (got left : ℕ) → length_fits got left ≡ true → FitLength got left
unfolding length_fits
length_in got left e =
    pick_by (λ (b : Bool). b ≡ true → FitLength got left) (eqb got 4) _ _
    (λ f g.
    (let z = eqb-true got 4 f in
    let h = both (leb 1 left) _ g in
    let a = leb-true 1 left h.0 in
    let c = ltb-true left 4294967296 h.1 in
    record { most = omega arith; number = λ n. absurd (omega arith); bytes = λ n. (a, c) }))
    (λ f g.
    (let z = eqb-false got 4 f in
    let h = both (ltb got 4) _ g in
    let a = ltb-true got 4 h.0 in
    record { most = omega arith; number = λ n. ltb-true left (256 ^ got) h.1; bytes = λ n. absurd (z n) }))
    e

pub in_length : (got left : ℕ) → FitLength got left → length_fits got left ≡ true
unfolding length_fits
in_length got left h =
    pick_by (λ (b : Bool). b ≡ true) (eqb got 4) _ _
    (λ f. (let n = h.bytes (eqb-true got 4 f) in and (le-leb _ _ n.0) (lt-ltb _ _ n.1)))
    (λ f.
    (let z = eqb-false got 4 f in
    let m = h.most in
    let l : got < 4 = omega arith in
    and (lt-ltb _ _ l) (lt-ltb _ _ (h.number l))))

module _ (d : Stream) where
  pub end_in : end_fits d ≡ true → FitEnd d
  unfolding end_fits
  end_in e =
      let h = both (length_fits d.got d.left) _ e in
      record { length = length_in d.got d.left h.0; totals = fit_totals d.figured.totals h.1 }

  in_end : FitEnd d → end_fits d ≡ true
  unfolding end_fits
  in_end h = and (in_length d.got d.left h.length) (totals_fit h.totals)

  pub stream_in : stream_fits d ≡ true → FitStream d
  unfolding stream_fits
  stream_in e =
      let h = both (end_fits d) _ e in
      let f = end_in h.0 in
      record { length = f.length; totals = f.totals; loads = in_goes d.loads h.1 }

  in_stream : FitStream d → stream_fits d ≡ true
  unfolding stream_fits
  in_stream h = and (in_end (record { length = h.length; totals = h.totals })) (goes_in d.loads h.loads)

  answered : {a b : StreamOutcome} → a ≡ b → a.answer.number ≡ b.answer.number
  answered e = ap (λ (o : StreamOutcome). o.answer.number) e

  pub taken : (l : List ℕ) → FitStream d → piece_taken d l ≡ so_far (bytes_figured d l)
  unfolding piece_taken
  taken l h = rw (in_stream h)

  pub untaken : (l : List ℕ) → (FitStream d → ⊥) → piece_taken d l ≡ stream_outcome (refused 1) d
  unfolding piece_taken
  untaken l n = rw (false_of (stream_fits d) (λ e. n (stream_in e)))

  pub says_unfit : (l : List ℕ) → piece_taken d l ≡ stream_outcome (refused 1) d → FitStream d → ⊥
  says_unfit l e h = omega (arith, answered e, answered (taken l h))

  pub ended : FitEnd d → input_ended d ≡ so_far (stream 0 0 d.loads (input_ends d))
  unfolding input_ended
  ended h = rw (in_end h)

  pub unended : (FitEnd d → ⊥) → input_ended d ≡ stream_outcome (refused 1) d
  unfolding input_ended
  unended n = rw (false_of (end_fits d) (λ e. n (end_in e)))

  pub says_unended : input_ended d ≡ stream_outcome (refused 1) d → FitEnd d → ⊥
  says_unended e h = omega (arith, answered e, answered (ended h))

-- What is in range stays in range.
pub kept : (d : Stream) {l : List ℕ} → Bytes l → FitStream d → FitStream (piece_taken d l).left
kept d {l} b h = rw (taken d l h) (bytes_fit d b h)

-- So each piece comes to its bytes.
pieces_figured_lem : (d : Stream) {ps : List (List ℕ)} → Pieces ps → FitStream d → pieces_taken d ps ≡ pieces_figured d ps
unfolding pieces_taken pieces_figured
pieces_figured_lem d no_piece h = refl
pieces_figured_lem d (one_piece {l = l} {ls = ls} b k) h =
    ap (λ (o : StreamOutcome). pieces_taken o.left ls) (taken d l h) ∙ pieces_figured_lem (bytes_figured d l) k (bytes_fit d b h)

pieces_fit : (d : Stream) {ps : List (List ℕ)} → Pieces ps → FitStream d → FitStream (pieces_figured d ps)
unfolding pieces_figured
pieces_fit d no_piece h = h
pieces_fit d (one_piece {l = l} b k) h = pieces_fit (bytes_figured d l) k (bytes_fit d b h)

pub all_taken : {ps : List (List ℕ)} → Pieces ps
    → (input_ended (pieces_taken new_stream ps)).left.figured ≡ figures_of (joined_bytes ps)
unfolding figures_of
all_taken {ps} k =
    let h = start_fit week_slices no_fit in
    let f = pieces_fit new_stream k h in
    let e = ended (pieces_figured new_stream ps) (record { length = f.length; totals = f.totals }) in
    ap (λ (d : Stream). (input_ended d).left.figured) (pieces_figured_lem new_stream k h)
    ∙ ap (λ (o : StreamOutcome). o.left.figured) e
    ∙ ap input_ends (pieces new_stream ps)
