-- Why bytes are refused: the numbers 13 and 14 exactly when their reasons hold.
use mathlib.Core.Path.{◌≡◌, refl, ap, sym, ◌∙◌}
use mathlib.Core.Bool.{false}
use mathlib.Core.List.{List, [], ◌∷◌, ◌++◌, append_assoc}
use Prim.Native.Nat.{ℕ}
use native.Mathlib.Omega.{arith}
use borrow.Author.Tests.{eq-eqb}
use Rattle.slots.specs.Answers.{Answer, refused}
use Rattle.endian.specs.Bytes.{little}
use Rattle.index_rules.proofs.Fit.{false_of}
use Rattle.upload_rules.specs.Reader.{unsaid, said}
use Rattle.set_rules.specs.Words.{Set}
use Rattle.file_rules.specs.File.{set_front, set_bytes, counts_in}
use Rattle.file_rules.specs.Loader.{Loader, new_loader, next_width}
use Rattle.file_rules.specs.Loading.{Loading, loading, load_refused, may_count, word_came, byte_stored, byte_loaded, bytes_loaded}
use Rattle.file_rules.specs.Faults.{OverLimit, LongFile}
use Rattle.file_rules.proofs.Counting.{may_allowed, may_alike}
use Rattle.file_rules.proofs.Ranges.{byte_open}
use Rattle.file_rules.proofs.Written.{bytes_said}
use Rattle.file_rules.proofs.Spelling.{front_bytes}
use Rattle.file_rules.proofs.Bringing.{bytes_loaded_append, between_words, at-word}
use Rattle.file_rules.proofs.Returning.{up_to, filled_to, to_long, run_wholes, fair_set, set_runs}

-- A byte after four sections, and a count that passes.
past_four : (r : Loader) (t : Set) (b : ℕ) → r.note ≡ unsaid → r.section ≡ 4 → byte_loaded (loading r t) b ≡ load_refused r t (refused 13)
unfolding byte_stored
past_four r t b u e = byte_open (loading r t) b u ∙ rw (eq-eqb r.section 4 e)

refused_says : (r : Loader) (t : Set) (a : Answer) → (load_refused r t a).loader.note ≡ said a
unfolding load_refused
refused_says r t a = refl

-- What is noted by the first bytes is noted by all.
front_said : (t : Set) (l m : List ℕ) (a : Answer) → (bytes_loaded (loading new_loader t) l).loader.note ≡ said a
    → (bytes_loaded (loading new_loader t) (l ++ m)).loader.note ≡ said a
front_said t l m a e =
    ap (λ (d : Loading). d.loader.note)
    (bytes_loaded_append (loading new_loader t) l m ∙ bytes_said (bytes_loaded (loading new_loader t) l) m e)
    ∙ e

pub long_refused : (t : Set) (l : List ℕ) → LongFile t l → (bytes_loaded (loading new_loader t) l).loader.note ≡ said (refused 13)
unfolding bytes_loaded
long_refused t l h =
    let s = h.front in
    let a : (bytes_loaded (loading new_loader t) (set_bytes s ++ (h.byte ∷ []))).loader.note ≡ said (refused 13) =
    ap (λ (d : Loading). d.loader.note)
    (bytes_loaded_append (loading new_loader t) (set_bytes s) (h.byte ∷ [])
    ∙ ap (λ (d : Loading). byte_loaded d h.byte) (set_runs s t h.loadable)
    ∙ past_four (between_words 4 0 (counts_in s)) (filled_to t s (counts_in s) 4) h.byte refl refl)
    ∙ refused_says _ _ (refused 13) in
    let e : l ≡ (set_bytes s ++ (h.byte ∷ [])) ++ h.rest = h.is ∙ sym (append_assoc (set_bytes s) (h.byte ∷ []) h.rest) in
    ap (λ (x : List ℕ). (bytes_loaded (loading new_loader t) x).loader.note) e
    ∙ front_said t (set_bytes s ++ (h.byte ∷ [])) h.rest (refused 13) a

count_off : (q : Loader) (t : Set) (n c : ℕ) → q.section ≡ n → may_count t n c ≡ false → (word_came q t 0 c).loader.note ≡ said (refused 14)
unfolding word_came load_refused
count_off q t n c e m = let f : may_count t q.section c ≡ false = ap (λ (k : ℕ). may_count t k c) e ∙ m in rw f

pub over-refused : (t : Set) (l : List ℕ) → OverLimit t l → (bytes_loaded (loading new_loader t) l).loader.note ≡ said (refused 14)
unfolding next_width
over-refused t l h =
    let s = h.front in
    let n = h.section in
    let c = h.count in
    let cs = counts_in s in
    let u = filled_to t s cs n in
    let k = h.early in
    let f = front_bytes s h.loadable.three n (omega arith) in
    let w = run_wholes t s cs (fair_set s t h.loadable) n (omega arith) in
    let four = h.four in
    let a = at-word n 0 (up_to cs n) u k c (omega arith) 3 refl in
    let m : may_count u n c ≡ false =
    may_alike u t (to_long t s cs n) n c ∙ false_of (may_count t n c) (λ z. h.passes (may_allowed t n c z)) in
    let b : (bytes_loaded (loading new_loader t) (set_front s n ++ little 4 c)).loader.note ≡ said (refused 14) =
    ap (λ (d : Loading). d.loader.note)
    (bytes_loaded_append (loading new_loader t) (set_front s n) (little 4 c)
    ∙ ap (λ (x : List ℕ). bytes_loaded (bytes_loaded (loading new_loader t) x) (little 4 c)) (sym f)
    ∙ ap (λ (d : Loading). bytes_loaded d (little 4 c)) w
    ∙ a.comes)
    ∙ count_off a.last u n c a.like.section m in
    let e : l ≡ (set_front s n ++ little 4 c) ++ h.rest = h.is ∙ sym (append_assoc (set_front s n) (little 4 c) h.rest) in
    ap (λ (x : List ℕ). (bytes_loaded (loading new_loader t) x).loader.note) e
    ∙ front_said t (set_front s n ++ little 4 c) h.rest (refused 14) b
