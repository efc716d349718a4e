-- What `./figures` makes of its input: sets' files, each after its length in four bytes, taken byte by byte into the loader of a set.
use Rattle.std.specs.Prelude.{Bool, true, false, List, [], ◌∷◌, ℕ, zero, suc, ◌+◌, ◌-◌, ◌*◌, ◌^◌, replicate, eqb}
use Rattle.slots.specs.Words.{pick}
use Rattle.set_rules.specs.Words.{Set, lent_set}
use Rattle.file_rules.specs.Loader.{new_loader, loader_answer}
use Rattle.file_rules.specs.Loading.{Loading, loading, LoadOutcome, load_outcome, byte_loaded, end_loaded, cut_out}
use Rattle.figure_rules.specs.Totals.{no_totals}
use Rattle.figure_rules.specs.Tally.{tallies}

-- "slices of 8, 1,024, 768, 1,024 and 3,584 words"
unfoldable pub week_slices : Set
week_slices = lent_set (replicate 8 0) (replicate 1024 0) (replicate 768 0) (replicate 1024 0) (replicate 3584 0)

-- "what was refused or cut short is tallied as five empty slices"
abbrev pub no_set : Set
no_set = lent_set [] [] [] [] []

-- The set that is tallied after the end call: the one that the counts cut out of the slices, where nothing is refused.
unfoldable pub set_to_tally : LoadOutcome → Set
set_to_tally o = pick (eqb o.answer.number 0) (cut_out o.left.loader o.left.set) no_set

-- The totals, and whether a set came after a million.
pub record Figures : Type 0 where
  pub totals : List ℕ
  pub over : Bool

abbrev pub figures : List ℕ → Bool → Figures
figures t o = record { totals = t; over = o }

abbrev pub no_figures : Figures
no_figures = figures no_totals false

-- One set more.
unfoldable pub with_set : Figures → Set → Figures
with_set f s = let r = tallies s f.totals in figures r.totals (pick (eqb r.answer.number 17) true f.over)

-- One set after the other.
unfoldable pub with_sets : Figures → List Set → Figures
with_sets f [] = f
with_sets f (s ∷ l) = with_sets (with_set f s) l

-- Where the input stands.
pub record Stream : Type 0 where
  -- the bytes of the length that have come, 4 while the set's own come
  pub got : ℕ
  -- the number of those bytes; then the set's bytes that are to come
  pub left : ℕ
  pub loads : Loading
  pub figured : Figures

abbrev pub stream : ℕ → ℕ → Loading → Figures → Stream
stream got left d f = record { got = got; left = left; loads = d; figured = f }

-- The end of a set's bytes: the loader's end call, and the tally.
unfoldable pub set_ends : Loading → Figures → Stream
set_ends d f = let e = end_loaded d in stream 0 0 e (with_set f (set_to_tally (load_outcome (loader_answer e.loader) e)))

-- So many bytes of the set are to come; "a length of 0 is a set".
unfoldable pub awaits : ℕ → Loading → Figures → Stream
awaits zero d f = set_ends d f
awaits (suc n) d f = stream 4 (suc n) d f

-- A byte of the length; after the fourth the loader starts. "The slices go on uncleared from set to set".
unfoldable pub length_byte : Stream → ℕ → Stream
length_byte d b =
    let n = d.left + 256 ^ d.got * b in
    pick (eqb d.got 3) (awaits n (loading new_loader d.loads.set) d.figured) (stream (d.got + 1) n d.loads d.figured)

-- A byte: of a set, or of a length.
unfoldable pub byte_figured : Stream → ℕ → Stream
byte_figured d b = pick (eqb d.got 4) (awaits (d.left - 1) (byte_loaded d.loads b) d.figured) (length_byte d b)

unfoldable pub bytes_figured : Stream → List ℕ → Stream
bytes_figured d [] = d
bytes_figured d (b ∷ l) = bytes_figured (byte_figured d b) l

abbrev pub new_stream : Stream
new_stream = stream 0 0 (loading new_loader week_slices) no_figures

-- "An input that ends where a set would begin ends it"; "cut short by the input's end, in its length too, counts as refused".
unfoldable pub input_ends : Stream → Figures
input_ends d = pick (eqb d.got 0) d.figured (with_set d.figured no_set)

-- The figures of an input, and of one in pieces.
unfoldable pub figures_of : List ℕ → Figures
figures_of l = input_ends (bytes_figured new_stream l)

unfoldable pub pieces_figured : Stream → List (List ℕ) → Stream
pieces_figured d [] = d
pieces_figured d (p ∷ ps) = pieces_figured (bytes_figured d p) ps
