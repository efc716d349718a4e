-- What the code makes of an input's bytes is what they come to one by one, on plain values.
use mathlib.Core.Path.{◌≡◌, refl, ap, sym, ◌∙◌, subst}
use mathlib.Core.Logic.{◌≢◌}
use mathlib.Core.Bool.{Bool, true, false}
use mathlib.Core.List.{List, [], ◌∷◌}
use Prim.Native.Nat.{ℕ, zero, suc, ◌+◌, ◌-◌, ◌*◌, ◌^◌, ◌<◌, ◌≤◌, min}
use native.Mathlib.Omega.{arith}
use lib.ListN.{length, get_or, take, drop, take-append-drop}
use lib.Seq.{length-take-le}
use lib.Dec.{eqb, ltb, leb}
use borrow.Author.Tests.{eq-eqb, ne_eqb, le-leb, lt-leb, le-ltb, lt-ltb}
use Rattle.std.specs.Prelude.{Result, Ok, Err, is_err}
use Rattle.file.specs.Meanings.{load_refusal_of, load_reply_of}
use Rattle.file.specs.declared.reply.LoadRefusal.{LoadRefusal}
use Rattle.file.specs.declared.reply.LoadRefusal.TheVariants.{Unfit, Damaged, Short, Long, OverLimit}
use Rattle.slots.specs.Words.{pick}
use Rattle.slots.specs.Answers.{Answer, given, refused}
use Rattle.endian.specs.Bytes.{Bytes}
use Rattle.endian.proofs.Endian.{bytes_split}
use Rattle.upload_rules.proofs.Ranges.{no_test, pick_by}
use Rattle.set_rules.specs.Words.{Set}
use Rattle.file_rules.specs.Loader.{Loader, new_loader}
use Rattle.file_rules.specs.Loading.{Loading, loading, LoadOutcome, cut_out, GoesOn, may_go_on, load_start, load_chunk}
use Rattle.file_rules.specs.Loading.{load_end}
use Rattle.file_rules.proofs.Endian.{small-more}
use Rattle.file_rules.proofs.Ranges.{bytes_go}
use Rattle.file_rules.proofs.Testing.{start_goes, chunk_in, end_in}
use Rattle.figure_rules.specs.Totals.{counted_in, FitTotals, fits_totals}
use Rattle.figure_rules.specs.Tally.{TallyOutcome, tally_outcome, tallies}
use Rattle.figure_rules.specs.Stream.{no_set, set_to_tally, Figures, figures, with_set, Stream, stream, set_ends, awaits, length_byte}
use Rattle.figure_rules.specs.Stream.{byte_figured, bytes_figured, input_ends}
use Rattle.figure_rules.specs.Pieces.{FitStream, length_fits, end_fits, stream_fits, stream_outcome, piece_taken, input_ended}
use Rattle.figure_rules.proofs.Streaming.{figured_append}
use Rattle.figure_rules.proofs.Chunking.{more_totals, bytes_fit, by_chunk}
use Rattle.figure_rules.proofs.Calling.{end_in as end_fit, stream_in}
use Rattle.tally.specs.Steps.{StreamStep}

-- 256 to the power of fewer than four, and a number of at most four bytes.
pub unit_fits : (k : ℕ) → k < 4 → 256 ^ k < 18446744073709551616
unit_fits zero l = omega arith
unit_fits (suc zero) l = omega arith
unit_fits (suc (suc zero)) l = omega arith
unit_fits (suc (suc (suc zero))) l = omega arith
unit_fits (suc (suc (suc (suc k)))) l = absurd (omega arith)

four_bytes : (got : ℕ) → got < 4 → 256 ^ suc got ≤ 4294967296
four_bytes zero l = omega arith
four_bytes (suc zero) l = omega arith
four_bytes (suc (suc zero)) l = omega arith
four_bytes (suc (suc (suc zero))) l = omega arith
four_bytes (suc (suc (suc (suc got)))) l = absurd (omega arith)

module _ (got left b : ℕ) {u : ℕ} (l : got < 4) (m : left < 256 ^ got) (k : b < 256) (e : u ≡ 256 ^ got) where
  pub sum_fits : left + u * b < 18446744073709551616
  sum_fits =
      let s = small-more got left b m k in let p = four_bytes got l in rw e (omega arith)

  pub product_fits : u * b < 18446744073709551616
  product_fits = let s = sum_fits in omega arith

-- The two numbers of a stream.
module _ (got left : ℕ) where
  pub own_fits : got ≡ 4 → 1 ≤ left → ltb left 4294967296 ≡ length_fits got left
  unfolding length_fits
  own_fits e l = rw (eq-eqb got 4 e, le-leb 1 left l)

  pub none_left : got ≡ 4 → left < 1 → leb 1 left ≡ length_fits got left
  unfolding length_fits
  none_left e l = rw (eq-eqb got 4 e, lt-leb 1 left l)

  pub past_four : got ≢ 4 → 4 ≤ got → false ≡ length_fits got left
  unfolding length_fits
  past_four e l = rw (ne_eqb got 4 e, le-ltb got 4 l)

  pub number_fits : {u : ℕ} → got ≢ 4 → got < 4 → u ≡ 256 ^ got → ltb left u ≡ length_fits got left
  unfolding length_fits
  number_fits e l f = rw (ne_eqb got 4 e, lt-ltb got 4 l, f)

-- The tests of the ranges, one after the other.
module _ (d : Stream) {a : Bool} (e : a ≡ length_fits d.got d.left) where
  pub end_both : {b : Bool} → a ≡ true → b ≡ fits_totals d.figured.totals → b ≡ end_fits d
  unfolding end_fits
  end_both f g = rw (← e, f) g

  pub end_not : a ≡ false → a ≡ end_fits d
  unfolding end_fits
  end_not f = rw (← e, f)

module _ (d : Stream) (q : Loading) {a : Bool} (e : a ≡ end_fits (stream d.got d.left q d.figured)) where
  own_end : a ≡ end_fits d
  unfolding end_fits
  own_end = e

  pub all_fit : {b : Bool} → a ≡ true → b ≡ may_go_on d.loads → b ≡ stream_fits d
  unfolding stream_fits
  all_fit f g = rw (← own_end, f) g

  pub not_fit : a ≡ false → a ≡ stream_fits d
  unfolding stream_fits
  not_fit f = rw (← own_end, f)

-- A tally is one set more.
pub one_more_lem : (f : Figures) (s : Set) {a : Answer} {t : List ℕ} {b : Bool} → tally_outcome a t ≡ tallies s f.totals
    → b ≡ pick (eqb a.number 17) true f.over → figures t b ≡ with_set f s
unfolding with_set
one_more_lem f s e g =
    let o = g ∙ ap (λ (r : TallyOutcome). pick (eqb r.answer.number 17) true f.over) e in
    let t = ap (λ (r : TallyOutcome). r.totals) e in
    λ i. figures (t i) (o i)

-- A load is given exactly if its answer's number is 0.
pub given_number : (r : Result ℕ LoadRefusal) {b : Bool} → b ≡ is_err r → b ≡ false → (load_reply_of r).number ≡ 0
given_number (Ok v) e f = refl
given_number (Err x) e f = absurd (no_test f e)

refusal_number : (x : LoadRefusal) → (load_refusal_of x).number ≢ 0
refusal_number Unfit = λ z. omega arith
refusal_number Damaged = λ z. omega arith
refusal_number Short = λ z. omega arith
refusal_number Long = λ z. omega arith
refusal_number OverLimit = λ z. omega arith

pub refused_number : (r : Result ℕ LoadRefusal) {b : Bool} → b ≡ is_err r → b ≡ true → (load_reply_of r).number ≢ 0
refused_number (Ok v) e f = absurd (no_test e f)
refused_number (Err x) e f = refusal_number x

-- The set that is tallied.
module _ (o : LoadOutcome) {a : Answer} (e : a ≡ o.answer) where
  pub none_tallied : a.number ≢ 0 → no_set ≡ set_to_tally o
  unfolding set_to_tally
  none_tallied n = simp (← e, ne_eqb a.number 0 n)

  pub cut_tallied : a.number ≡ 0 → cut_out o.left.loader o.left.set ≡ set_to_tally o
  unfolding set_to_tally
  cut_tallied z = simp (← e, eq-eqb a.number 0 z)

-- The end of a set.
pub set_ended : (d : Loading) (f : Figures) {o : LoadOutcome} {g : Figures} → GoesOn d → o ≡ load_end d → g ≡ with_set f (set_to_tally o)
    → stream 0 0 o.left g ≡ set_ends d f
unfolding set_ends
set_ended d f h e w =
    let q = e ∙ end_in d h in
    let l = ap (λ (x : LoadOutcome). x.left) q in
    let g = w ∙ ap (λ (x : LoadOutcome). with_set f (set_to_tally x)) q in
    λ i. stream 0 0 (l i) (g i)

-- So many bytes to come.
pub none_awaited : {n : ℕ} (d : Loading) (f : Figures) {x : Stream} → n ≡ 0 → x ≡ set_ends d f → x ≡ awaits n d f
unfolding awaits
none_awaited d f e g = rw e g

pub some_awaited : (n : ℕ) (d : Loading) (f : Figures) → n ≢ 0 → stream 4 n d f ≡ awaits n d f
unfolding awaits
some_awaited zero d f n = absurd (n refl)
some_awaited (suc n) d f _ = refl

-- The loader of a start.
started : {o : LoadOutcome} → o ≡ load_start (loading new_loader no_set) → o.left.loader ≡ new_loader
unfolding load_start
started e = ap (λ (x : LoadOutcome). x.left.loader) e

pub started_goes : (s : Set) {o : LoadOutcome} → o ≡ load_start (loading new_loader no_set) → GoesOn (loading o.left.loader s)
started_goes s e = rw (started e) (start_goes s)

-- A byte of the length.
module _ (d : Stream) (b : ℕ) {n : ℕ} (en : n ≡ d.left + 256 ^ d.got * b) where
  pub fourth_byte : {o : LoadOutcome} {x : Stream} → d.got ≡ 3 → o ≡ load_start (loading new_loader no_set)
      → x ≡ awaits n (loading o.left.loader d.loads.set) d.figured
      → x ≡ length_byte d b
  unfolding length_byte
  fourth_byte e f g =
      let z = ap (λ (r : Loader). awaits n (loading r d.loads.set) d.figured) (started f) in
      rw (eq-eqb d.got 3 e, ← en) (g ∙ z)

  pub earlier_byte : d.got ≢ 3 → stream (d.got + 1) n d.loads d.figured ≡ length_byte d b
  unfolding length_byte
  earlier_byte e = rw (ne_eqb d.got 3 e, ← en)

-- What a step leaves is in its ranges.
taken : (d : Stream) {rest : List ℕ} {used : ℕ} {e : Stream} → FitStream d → Bytes rest → 1 ≤ used → used ≤ length rest
    → bytes_figured d (take used rest) ≡ e → StreamStep d rest used e
taken d {used = used} h b l m same =
    record { some = l; most = m; same = same; fit = subst FitStream same (bytes_fit d (bytes_split used b).0 h) }

pub byte_step : (d : Stream) (rest : List ℕ) {b : ℕ} {e : Stream} → FitStream d → Bytes rest → 1 ≤ length rest → d.got ≢ 4
    → b ≡ get_or rest 0 0 → e ≡ length_byte d b → StreamStep d rest 1 e
unfolding bytes_figured byte_figured
byte_step d [] h bs l n e f = absurd (omega arith)
byte_step d (x ∷ rest) h bs l n e f =
    taken d h bs (omega arith) (omega arith) (rw (ne_eqb d.got 4 n) (ap (length_byte d) (sym e) ∙ sym f))

-- Bytes of a set.
module _ (d : Stream) (rest : List ℕ) (h : FitStream d) (four : d.got ≡ 4) {n : ℕ} (en : n ≡ min d.left (length rest)) where
  awaited : d ≡ awaits d.left d.loads d.figured
  awaited =
      let n = h.length.bytes four in
      (λ i. stream (four i) d.left d.loads d.figured) ∙ some_awaited d.left d.loads d.figured (omega (arith, n.0))

  pub own_long : length (take n rest) ≡ n
  own_long = length-take-le n rest (omega arith)

  module _ (b : Bytes rest) {o : LoadOutcome} (eo : o ≡ load_chunk d.loads (take n rest)) where
    pub chunk_goes : GoesOn o.left
    chunk_goes = rw (eo ∙ chunk_in d.loads (take n rest) h.loads) (bytes_go d.loads (bytes_split n b).0 h.loads)

    pub set_step : {e : Stream} → 1 ≤ length rest → e ≡ awaits (d.left - n) o.left d.figured → StreamStep d rest n e
    set_step l f =
        let left = (h.length.bytes four).0 in
        let long = own_long in
        taken d h b (omega arith) (omega arith)
        (ap (λ (x : Stream). bytes_figured x (take n rest)) awaited
        ∙ by_chunk (take n rest) d.left d.loads d.figured (omega arith) h.loads
        ∙ (λ i. awaits (d.left - long i) (sym eo i).left d.figured)
        ∙ sym f)

-- The bytes left of a piece come to what all of them come to.
pub record Going (d : Stream) (piece : List ℕ) (e : Stream) (rest : List ℕ) : Type 0 where
  pub same : bytes_figured e rest ≡ bytes_figured d piece
  pub fit : FitStream e

pub going_start : (d : Stream) (piece : List ℕ) → FitStream d → Going d piece d piece
going_start d piece h = record { same = refl; fit = h }

pub going_on : {d e q : Stream} {piece rest left : List ℕ} {used : ℕ} → Going d piece e rest → StreamStep e rest used q
    → left ≡ drop used rest
    → Going d piece q left
going_on {d} {e} {q} {piece} {rest} {left} {used} g s f =
    record {
      same =
          ap (bytes_figured q) f
          ∙ ap (λ (x : Stream). bytes_figured x (drop used rest)) (sym s.same)
          ∙ sym (figured_append e (take used rest) (drop used rest))
          ∙ ap (bytes_figured e) (take-append-drop used rest)
          ∙ g.same;
      fit = s.fit;
    }

pub going_end : {d e : Stream} {piece rest : List ℕ} → Going d piece e rest → length rest ≡ 0
    → (e ≡ bytes_figured d piece) × FitTotals e.figured.totals
unfolding bytes_figured
going_end {rest = []} g l = (g.same, g.fit.totals)
going_end {rest = x ∷ rest} g l = absurd (omega arith)

-- The calls.
module _ (d : Stream) {b : Bool} (e : b ≡ stream_fits d) where
  pub in_ranges : b ≡ true → FitStream d
  in_ranges f = stream_in d (sym e ∙ f)

  pub piece_unfit : (l : List ℕ) → b ≡ false → stream_outcome (refused 1) d ≡ piece_taken d l
  unfolding piece_taken
  piece_unfit l f = rw (← e, f)

  pub piece-taken : (l : List ℕ) {q : Stream} {n : ℕ} → b ≡ true → q ≡ bytes_figured d l → n ≡ counted_in q.figured.totals
      → stream_outcome (given n) q ≡ piece_taken d l
  unfolding piece_taken
  piece-taken l f g c = rw (← e, f, ← g, c)

module _ (d : Stream) {b : Bool} (e : b ≡ end_fits d) where
  pub ended_fit : {g : Figures} → b ≡ true → g ≡ input_ends d → FitTotals g.totals
  unfolding input_ends
  ended_fit f k =
      let t = (end_fit d (sym e ∙ f)).totals in
      rw k (pick_by (λ (x : Figures). FitTotals x.totals) (eqb d.got 0) _ _ (λ z. t) (λ z. more_totals d.figured no_set t))

  pub end_unfit : b ≡ false → stream_outcome (refused 1) d ≡ input_ended d
  unfolding input_ended
  end_unfit f = rw (← e, f)

  pub end_taken : {g : Figures} {n : ℕ} → b ≡ true → g ≡ input_ends d → n ≡ counted_in g.totals
      → stream_outcome (given n) (stream 0 0 d.loads g) ≡ input_ended d
  unfolding input_ended
  end_taken f g c = rw (← e, f, ← g, c)

-- The end of an input.
pub at_begin : (d : Stream) → d.got ≡ 0 → d.figured ≡ input_ends d
unfolding input_ends
at_begin d e = rw (eq-eqb d.got 0 e)

pub within_set : (d : Stream) {g : Figures} → d.got ≢ 0 → g ≡ with_set d.figured no_set → g ≡ input_ends d
unfolding input_ends
within_set d n e = rw (ne_eqb d.got 0 n) e
