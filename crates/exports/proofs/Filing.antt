-- A loader's words, read and written, and what a call over them comes to.
use mathlib.Core.Path.{◌≡◌, ap, sym, ◌∙◌}
use mathlib.Core.Logic.{◌≢◌}
use mathlib.Core.List.{List, [], ◌∷◌}
use Prim.Native.Nat.{ℕ, ◌+◌, ◌*◌}
use lib.ListN.{length, get_or, set}
use borrow.Author.Tests.{eq-eqb, ne_eqb}
use Rattle.slots.specs.Answers.{Answer, given, answer_word}
use Rattle.upload_rules.specs.Reader.{Note}
use Rattle.upload_rules.specs.Notes.{NoteSaid, known, unknown, note_word}
use Rattle.set_rules.specs.Words.{Set}
use Rattle.file_rules.specs.Saving.{Saved, saved}
use Rattle.file_rules.specs.Loader.{Loader, loader_of, new_loader, count_taken}
use Rattle.file_rules.specs.Loading.{loading, LoadOutcome, load_outcome, load_start, load_chunk, load_end}
use Rattle.file.specs.Notes.{load_note_at}
use Rattle.word_rules.specs.Loaders.{SaveWorded, save_worded, LoaderSaid, saying_loader, saying_no_loader, loader_noted, loader_in}
use Rattle.word_rules.specs.Loaders.{loader_written, loader_worded, started_loader, load_worded, load_into, chunk_loaded, ended_loader}

-- save's word is that of its answer.
pub tells_save : {a : Answer} {o : Saved} {out : List ℕ} {w : ℕ} → w ≡ answer_word a → saved a out ≡ o
    → ◌≡◌ {A = SaveWorded} (record { word = w; out = out }) (save_worded o)
unfolding save_worded
tells_save e f = rw (e, ← f)

-- What stands in the words.
module _ (w : List ℕ) where
  pub not_eight_words : length w ≢ 8 → saying_no_loader ≡ loader_in w
  unfolding loader_in
  not_eight_words n = rw (ne_eqb (length w) 8 n)

  module _ (l : length w ≡ 8) {n : NoteSaid} (f : n ≡ load_note_at (get_or w 7 0)) where
    pub no_load_note : n ≡ unknown → saying_no_loader ≡ loader_in w
    unfolding loader_in
    no_load_note u = rw (eq-eqb (length w) 8 l, ← f, u)

    pub has_load_note : {x : Note} {r : LoaderSaid} → n ≡ known x → r ≡ loader_noted w (known x) → r ≡ loader_in w
    unfolding loader_in
    has_load_note u g = rw (eq-eqb (length w) 8 l, ← f, u) g

-- The eight words, read and written one by one.
module _ (w : List ℕ) where
  pub loader_eight : {a b c d e f g : ℕ} (n : Note) → a ≡ get_or w 0 0 → b ≡ get_or w 1 0 → c ≡ get_or w 2 0 → d ≡ get_or w 3 0
      → e ≡ get_or w 4 0
      → f ≡ get_or w 5 0 → g ≡ get_or w 6 0
      → saying_loader (loader_of a b c (d ∷ (e ∷ (f ∷ (g ∷ [])))) n) ≡ loader_noted w (known n)
  loader_eight n e1 e2 e3 e4 e5 e6 e7 = rw (e1, e2, e3, e4, e5, e6, e7)

  pub loader_put : (r : Loader) {l1 l2 l3 l4 l5 l6 l7 l8 : List ℕ} {n : ℕ} → l1 ≡ set w 0 r.section → l2 ≡ set l1 1 r.at
      → l3 ≡ set l2 2 r.part
      → l4 ≡ set l3 3 (count_taken r 0)
      → l5 ≡ set l4 4 (count_taken r 1)
      → l6 ≡ set l5 5 (count_taken r 2)
      → l7 ≡ set l6 6 (count_taken r 3)
      → n ≡ note_word r.note
      → l8 ≡ set l7 7 n
      → l8 ≡ loader_written w r
  unfolding loader_written
  loader_put r e1 e2 e3 e4 e5 e6 e7 f e8 = rw (← e1, ← e2, ← e3, ← e4, ← e5, ← e6, ← e7, ← f) e8

  pub start_short : length w ≢ 8 → {told : ℕ} → told ≡ 0 + 4294967296 * 1 → loader_worded told w ≡ started_loader w
  unfolding started_loader answer_word
  start_short n e = rw (ne_eqb (length w) 8 n, e)

  pub start_made : (t : Set) {a : Answer} {r : Loader} {told : ℕ} {v : List ℕ} → length w ≡ 8
      → load_outcome a (loading r t) ≡ load_start (loading new_loader t)
      → v ≡ loader_written w r
      → told ≡ answer_word a
      → loader_worded told v ≡ started_loader w
  unfolding started_loader load_start
  start_made t {told = told} {v} l e g f =
      let ea : told ≡ answer_word (given 1) = f ∙ ap (λ (o : LoadOutcome). answer_word o.answer) e in
      let er : v ≡ loader_written w new_loader = g ∙ ap (λ (o : LoadOutcome). loader_written w o.left.loader) e in
      rw (eq-eqb (length w) 8 l, ea, er)

-- A call over them.
module _ (t : Set) (w : List ℕ) {s : LoaderSaid} (e : s ≡ loader_in w) where
  pub chunk_none : (chunk : List ℕ) → s ≡ saying_no_loader → {told : ℕ} → told ≡ 0 + 4294967296 * 1
      → load_worded told t w ≡ chunk_loaded t w chunk
  unfolding chunk_loaded answer_word
  chunk_none chunk n f = rw (← e, n, f, chunk_loaded)

  pub end_none : s ≡ saying_no_loader → {told : ℕ} → told ≡ 0 + 4294967296 * 1 → load_worded told t w ≡ ended_loader t w
  unfolding ended_loader answer_word
  end_none n f = rw (← e, n, f, ended_loader)

  module _ {r : Loader} (k : s ≡ saying_loader r) {a : Answer} {q : Loader} {u : Set} {told : ℕ} {v : List ℕ} (f : told ≡ answer_word a)
      (g : v ≡ loader_written w q) where
    pub chunk_some : (chunk : List ℕ) → load_outcome a (loading q u) ≡ load_chunk (loading r t) chunk
        → load_worded told u v ≡ chunk_loaded t w chunk
    unfolding chunk_loaded
    chunk_some chunk h =
        let to : chunk_loaded t w chunk ≡ load_into w (load_chunk (loading r t) chunk) = rw (← e, k, chunk_loaded) in
        rw (f, g) (ap (λ (o : LoadOutcome). load_into w o) h ∙ sym to)

    pub end_some : load_outcome a (loading q u) ≡ load_end (loading r t) → load_worded told u v ≡ ended_loader t w
    unfolding ended_loader
    end_some h =
        let to : ended_loader t w ≡ load_into w (load_end (loading r t)) = rw (← e, k, ended_loader) in
        rw (f, g) (ap (λ (o : LoadOutcome). load_into w o) h ∙ sym to)
