-- The input byte by byte: pieces are joined, a block comes to the tally of its file's set, and a rest that is cut short to a refused one.
use mathlib.Core.Path.{◌≡◌, refl, ap, sym, ◌∙◌}
use mathlib.Core.List.{List, [], ◌∷◌, ◌++◌}
use Prim.Native.Nat.{ℕ, zero, suc, ◌+◌, ◌-◌, ◌*◌, ◌<◌, ◌≤◌}
use native.Mathlib.Omega.{arith}
use lib.ListN.{length}
use Rattle.endian.specs.Bytes.{Bytes, little}
use Rattle.upload_rules.specs.Reading.{joined_bytes}
use Rattle.set_rules.specs.Words.{Set}
use Rattle.file_rules.specs.Loader.{new_loader}
use Rattle.file_rules.specs.Loading.{Loading, loading, LoadOutcome, byte_loaded, bytes_loaded, load_whole}
use Rattle.file_rules.proofs.Why.{SameLengths}
use Rattle.file_rules.proofs.CutOut.{whole_is}
use Rattle.figure_rules.specs.Stream.{week_slices, no_set, set_to_tally, Figures, no_figures, with_set, with_sets, Stream, stream, set_ends}
use Rattle.figure_rules.specs.Stream.{awaits, length_byte, byte_figured, bytes_figured, new_stream, input_ends, figures_of, pieces_figured}
use Rattle.figure_rules.specs.Input.{block, blocks, Files, file_set, file_sets, CutShort}
use Rattle.figure_rules.proofs.Filing.{whole_kept, same_set}

pub figured_append : (d : Stream) (a b : List ℕ) → bytes_figured d (a ++ b) ≡ bytes_figured (bytes_figured d a) b
unfolding bytes_figured
figured_append d [] b = refl
figured_append d (x ∷ a) b = figured_append (byte_figured d x) a b

pub pieces : (d : Stream) (ps : List (List ℕ)) → pieces_figured d ps ≡ bytes_figured d (joined_bytes ps)
unfolding pieces_figured joined_bytes bytes_figured
pieces d [] = refl
pieces d (p ∷ ps) = pieces (bytes_figured d p) ps ∙ sym (figured_append d p (joined_bytes ps))

-- Four bytes of a length, the lowest first.
abbrev pub four_of : ℕ → ℕ → ℕ → ℕ → ℕ
four_of a b c e = a + 256 * b + 65536 * c + 16777216 * e

four_come : (a b c e : ℕ) (d : Loading) (f : Figures)
    → bytes_figured (stream 0 0 d f) (a ∷ (b ∷ (c ∷ (e ∷ [])))) ≡ awaits (four_of a b c e) (loading new_loader d.set) f
unfolding bytes_figured byte_figured length_byte
four_come a b c e d f = ap (λ (m : ℕ). awaits m (loading new_loader d.set) f) (omega arith)

run_length : (n : ℕ) (d : Loading) (f : Figures) → n < 4294967296
    → bytes_figured (stream 0 0 d f) (little 4 n) ≡ awaits n (loading new_loader d.set) f
unfolding little
run_length n d f l = four_come _ _ _ _ d f ∙ ap (λ (m : ℕ). awaits m (loading new_loader d.set) f) (omega arith)

-- Bytes of a set, no more than are to come.
run_byte : (b n : ℕ) (d : Loading) (f : Figures) → byte_figured (awaits (suc n) d f) b ≡ awaits n (byte_loaded d b) f
unfolding awaits byte_figured
run_byte b n d f = let e : suc n - 1 ≡ n = omega arith in ap (λ (m : ℕ). awaits m (byte_loaded d b) f) e

pub run_bytes : (l : List ℕ) (n : ℕ) (d : Loading) (f : Figures) → length l ≤ n
    → bytes_figured (awaits n d f) l ≡ awaits (n - length l) (bytes_loaded d l) f
unfolding bytes_figured bytes_loaded
run_bytes [] n d f h = ap (λ (m : ℕ). awaits m d f) (omega arith)
run_bytes (b ∷ l) zero d f h = absurd (omega arith)
run_bytes (b ∷ l) (suc n) d f h =
    ap (λ (x : Stream). bytes_figured x l) (run_byte b n d f) ∙ run_bytes l n (byte_loaded d b) f (omega arith)
    ∙ ap (λ (m : ℕ). awaits m (bytes_loaded (byte_loaded d b) l) f) (omega arith)

-- The end of a set is E1's end call and the tally of what it leaves.
ends_whole : (t : Set) {l : List ℕ} (f : Figures) → Bytes l
    → set_ends (bytes_loaded (loading new_loader t) l) f ≡ stream 0 0 (load_whole t l).left (with_set f (set_to_tally (load_whole t l)))
unfolding set_ends
ends_whole t {l} f k = ap (λ (o : LoadOutcome). stream 0 0 o.left (with_set f (set_to_tally o))) (sym (whole_is t l k))

pub run_block : (d : Loading) {l : List ℕ} (f : Figures) → Bytes l → length l < 4294967296 → SameLengths week_slices d.set
    → bytes_figured (stream 0 0 d f) (block l) ≡ stream 0 0 (load_whole d.set l).left (with_set f (file_set l))
unfolding block file_set awaits
run_block d {l} f k b h =
    let z : length l - length l ≡ 0 = omega arith in
    figured_append (stream 0 0 d f) (little 4 (length l)) l
    ∙ ap (λ (x : Stream). bytes_figured x l) (run_length (length l) d f b)
    ∙ run_bytes l (length l) (loading new_loader d.set) f (omega arith)
    ∙ ap (λ (m : ℕ). awaits m (bytes_loaded (loading new_loader d.set) l) f) z
    ∙ ends_whole d.set f k
    ∙ ap (λ (s : Set). stream 0 0 (load_whole d.set l).left (with_set f s)) (same_set week_slices d.set h k)

-- What blocks come to.
pub record BlocksRun (d : Loading) (f : Figures) (ls : List (List ℕ)) : Type 0 where
  pub last : Loading
  pub kept : SameLengths week_slices last.set
  pub comes : bytes_figured (stream 0 0 d f) (blocks ls) ≡ stream 0 0 last (with_sets f (file_sets ls))

pub run_blocks : (d : Loading) (f : Figures) (ls : List (List ℕ)) → Files ls → SameLengths week_slices d.set → BlocksRun d f ls
unfolding blocks file_sets with_sets bytes_figured
run_blocks d f [] Files.no_file h = record { last = d; kept = h; comes = refl }
run_blocks d f (l ∷ ls) (Files.one_more_lem k b fs) h =
    let e = (load_whole d.set l).left in
    let w = whole_kept d.set k in
    let again = run_blocks e (with_set f (file_set l)) ls fs (λ x. w x ∙ h x) in
    record {
      last = again.last;
      kept = again.kept;
      comes =
          figured_append (stream 0 0 d f) (block l) (blocks ls)
          ∙ ap (λ (x : Stream). bytes_figured x (blocks ls)) (run_block d f k b h)
          ∙ again.comes;
    }

pub whole_figures : (ls : List (List ℕ)) → Files ls → figures_of (blocks ls) ≡ with_sets no_figures (file_sets ls)
unfolding figures_of input_ends
whole_figures ls fs = let r = run_blocks (loading new_loader week_slices) no_figures ls fs (λ x. refl) in rw r.comes

-- A rest that is cut short.
cut_length : (d : Loading) (f : Figures) (l : List ℕ) → 1 ≤ length l → length l < 4
    → input_ends (bytes_figured (stream 0 0 d f) l) ≡ with_set f no_set
unfolding bytes_figured byte_figured length_byte input_ends
cut_length d f [] m n = absurd (omega arith)
cut_length d f (a ∷ []) m n = refl
cut_length d f (a ∷ (b ∷ [])) m n = refl
cut_length d f (a ∷ (b ∷ (c ∷ []))) m n = refl
cut_length d f (a ∷ (b ∷ (c ∷ (e ∷ l)))) m n = absurd (omega arith)

cut_awaits : (k : ℕ) (d : Loading) (f : Figures) → 1 ≤ k → input_ends (awaits k d f) ≡ with_set f no_set
unfolding awaits input_ends
cut_awaits zero d f h = absurd (omega arith)
cut_awaits (suc k) d f h = refl

cut_ends : (d : Loading) (f : Figures) {l : List ℕ} → CutShort l → input_ends (bytes_figured (stream 0 0 d f) l) ≡ with_set f no_set
cut_ends d f (CutShort.in_length {l = l} m n) = cut_length d f l m n
cut_ends d f (CutShort.in_set n l b m) =
    ap input_ends
    (figured_append (stream 0 0 d f) (little 4 n) l ∙ ap (λ (x : Stream). bytes_figured x l) (run_length n d f b)
    ∙ run_bytes l n (loading new_loader d.set) f (omega arith))
    ∙ cut_awaits (n - length l) (bytes_loaded (loading new_loader d.set) l) f (omega arith)

pub cut_figures : (ls : List (List ℕ)) (rest : List ℕ) → Files ls → CutShort rest
    → figures_of (blocks ls ++ rest) ≡ with_set (with_sets no_figures (file_sets ls)) no_set
unfolding figures_of
cut_figures ls rest fs c =
    let r = run_blocks (loading new_loader week_slices) no_figures ls fs (λ x. refl) in
    ap input_ends (figured_append new_stream (blocks ls) rest ∙ ap (λ (x : Stream). bytes_figured x rest) r.comes)
    ∙ cut_ends r.last (with_sets no_figures (file_sets ls)) c
