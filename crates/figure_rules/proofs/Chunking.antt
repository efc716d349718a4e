-- A stream's numbers stay in their ranges, so that its loader goes on, and the set's bytes of a piece are one chunk of it.
use mathlib.Core.Path.{◌≡◌, ap, sym, ◌∙◌}
use mathlib.Core.List.{List}
use Prim.Native.Nat.{ℕ, zero, suc, ◌+◌, ◌-◌, ◌*◌, ◌^◌, ◌<◌, ◌≤◌}
use native.Mathlib.Omega.{arith}
use lib.ListN.{length}
use lib.Dec.{eqb}
use borrow.Author.Tests.{eqb-true, eqb-false}
use Rattle.endian.specs.Bytes.{Bytes, nothing, another}
use Rattle.upload_rules.proofs.Ranges.{pick_by}
use Rattle.set_rules.specs.Words.{Set}
use Rattle.file_rules.specs.Loading.{Loading, byte_loaded, LoadOutcome, load_chunk, GoesOn}
use Rattle.file_rules.proofs.Endian.{small-more}
use Rattle.file_rules.proofs.Ranges.{byte_goes, end_goes}
use Rattle.file_rules.proofs.Testing.{start_goes, chunk_in}
use Rattle.figure_rules.specs.Totals.{FitTotals}
use Rattle.figure_rules.specs.Stream.{Figures, with_set, Stream, set_ends, awaits, length_byte, byte_figured, bytes_figured}
use Rattle.figure_rules.specs.Pieces.{FitLength, FitStream, stream_start}
use Rattle.figure_rules.proofs.Tallying.{counts_fit}
use Rattle.figure_rules.proofs.Streaming.{run_bytes}

pub more_totals : (f : Figures) (s : Set) → FitTotals f.totals → FitTotals (with_set f s).totals
unfolding with_set
more_totals f s h = counts_fit s f.totals h

begin_fit : FitLength 0 0
begin_fit = record { most = omega arith; number = λ b. omega arith; bytes = λ e. absurd (omega arith) }

awaits_fit : (n : ℕ) (d : Loading) (f : Figures) → n < 4294967296 → GoesOn d → FitTotals f.totals → FitStream (awaits n d f)
unfolding awaits set_ends
awaits_fit zero d f l r h = record { length = begin_fit; loads = end_goes d r; totals = more_totals f _ h }
awaits_fit (suc n) d f l r h =
    record {
      length = record { most = omega arith; number = λ b. absurd (omega arith); bytes = λ e. (omega arith, l) };
      loads = r;
      totals = h;
    }

length_fit : (d : Stream) (b : ℕ) → b < 256 → d.got < 4 → FitStream d → FitStream (length_byte d b)
unfolding length_byte
length_fit d b k l h =
    let m = small-more d.got d.left b (h.length.number l) k in
    pick_by FitStream (eqb d.got 3) _ _
    (λ e.
    (let z : 256 ^ suc d.got ≡ 4294967296 = ap (λ (k : ℕ). 256 ^ suc k) (eqb-true d.got 3 e) in
    awaits_fit (d.left + 256 ^ d.got * b) _ d.figured (rw z at m) (start_goes d.loads.set) h.totals))
    (λ e.
    (let n = eqb-false d.got 3 e in
    let q : d.got + 1 ≡ suc d.got = omega arith in
    record {
      length = record { most = omega arith; number = λ c. rw q m; bytes = λ c. absurd (omega arith) };
      loads = h.loads;
      totals = h.totals;
    }))

pub byte_fit : (d : Stream) (b : ℕ) → b < 256 → FitStream d → FitStream (byte_figured d b)
unfolding byte_figured
byte_fit d b k h =
    pick_by FitStream (eqb d.got 4) _ _
    (λ e.
    (let n = h.length.bytes (eqb-true d.got 4 e) in
    awaits_fit (d.left - 1) (byte_loaded d.loads b) d.figured (omega (arith, n.1)) (byte_goes d.loads b k h.loads)
    h.totals))
    (λ e. (let n = eqb-false d.got 4 e in let g = h.length.most in length_fit d b k (omega arith) h))

pub bytes_fit : (d : Stream) {l : List ℕ} → Bytes l → FitStream d → FitStream (bytes_figured d l)
unfolding bytes_figured
bytes_fit d nothing h = h
bytes_fit d (another {b = b} c k) h = bytes_fit (byte_figured d b) k (byte_fit d b c h)

pub start_fit : (s : Set) {t : List ℕ} → FitTotals t → FitStream (stream_start s t)
start_fit s h = record { length = begin_fit; loads = start_goes s; totals = h }

-- The set's bytes of a piece in one call of the loader's chunk.
pub by_chunk : (l : List ℕ) (n : ℕ) (d : Loading) (f : Figures) → length l ≤ n → GoesOn d
    → bytes_figured (awaits n d f) l ≡ awaits (n - length l) (load_chunk d l).left f
by_chunk l n d f b r =
    run_bytes l n d f b ∙ ap (λ (o : LoadOutcome). awaits (n - length l) o.left f) (sym (chunk_in d l r))
