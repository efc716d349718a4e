-- What `./salvage` makes of a dump: the dump of a second index with the kept entries, and a line for each slot that was lost.
use Rattle.std.specs.Prelude.{List, [], ◌∷◌, ◌++◌, ℕ, zero, suc, ◌+◌, ◌-◌, ◌*◌, get_or, replicate, eqb, ltb}
use Rattle.slots.specs.Words.{null, pick, state, cell}
use Rattle.slots.specs.Answers.{Value, some, none}
use Rattle.tree_rules.specs.Chain.{tally}
use Rattle.index_rules.specs.Sound.{used}
use Rattle.index_rules.specs.Index.{Index, index, lent, line_words}
use Rattle.index_rules.specs.Fresh.{freshes}
use Rattle.night_rules.specs.Salvage.{Salvaged, salvages}
use Rattle.script_rules.specs.Feeding.{Paper, typed}
use Rattle.script_rules.specs.Blanks.{says}
use Rattle.dump_rules.specs.Dump.{dump_bytes, Measure, whole, stub, slots_out, lines_out, short, long, measured, loaded}
use Rattle.dump_rules.specs.Sentence.{measure_text}

-- Salvage of these names and cells, into what an index is made by fresh.
unfoldable pub saved_into : List ℕ → List ℕ → Index → List ℕ → Salvaged
saved_into names cells e report = salvages names cells (freshes e).left.live report

-- Zeros of the lengths of an index of n slots and c lines.
abbrev pub zeros : ℕ → ℕ → Index
zeros n c = lent (replicate (2 * n) 0) (replicate (7 * n) 0) (replicate 3 0) (replicate n 0) (replicate (1 + line_words * c) 0)

-- What is saved of an index of n slots, in an index that is empty but for that.
abbrev pub rescued : ℕ → ℕ → Index → Salvaged
rescued n c ix = saved_into ix.live.names ix.live.cells (zeros n c) (replicate n 0)

-- The line of a slot that was used and not kept; none for a slot that was kept or free.
unfoldable pub loss_text : List ℕ → List ℕ → ℕ → List ℕ
loss_text cells report i =
    let w = get_or report i null in
    pick (eqb w 2) (says "slot #: unknown state #\n" (i ∷ (cell cells i state ∷ [])))
    (pick (ltb 2 w) (says "slot #: repeats slot #\n" (i ∷ ((w - 3) ∷ []))) [])

-- The lines of so many slots from i on.
unfoldable pub loss_texts : ℕ → List ℕ → List ℕ → ℕ → List ℕ
loss_texts zero cells report i = []
loss_texts (suc m) cells report i = loss_text cells report i ++ loss_texts m cells report (suc i)

abbrev pub kept_of : Value → ℕ
kept_of (some k) = k
kept_of none = 0

-- The lines, and at the end how many of the slots that were not free are kept.
unfoldable pub rescue_text : ℕ → List ℕ → List ℕ → ℕ → List ℕ
rescue_text n cells report kept = loss_texts n cells report 0 ++ says "kept # of #\n" (kept ∷ (tally n (used cells) ∷ []))

-- The dump of the second index, whose journal is empty, and the text.
unfoldable pub saved_bytes : ℕ → ℕ → List ℕ → List ℕ → Index → List ℕ → List ℕ
saved_bytes n c names cells e report = dump_bytes n c (index (saved_into names cells e report).into (freshes e).left.lines)

unfoldable pub saved_text : ℕ → List ℕ → List ℕ → Index → List ℕ → List ℕ
saved_text n names cells e report = let o = saved_into names cells e report in rescue_text n cells o.report (kept_of o.answer.value)

-- The same of a loaded index.
abbrev pub loaded_bytes : ℕ → ℕ → Index → Index → List ℕ → List ℕ
loaded_bytes n c ix e report = saved_bytes n c ix.live.names ix.live.cells e report

abbrev pub loaded_text : ℕ → Index → Index → List ℕ → List ℕ
loaded_text n ix e report = saved_text n ix.live.names ix.live.cells e report

-- What is written to standard output and to standard error: nothing and what is wrong where the bytes are no dump.
abbrev pub measure_bytes : List ℕ → Measure → List ℕ
measure_bytes l (whole n c) = loaded_bytes n c (loaded n c l) (zeros n c) (replicate n 0)
measure_bytes l (stub b) = []
measure_bytes l (slots_out n) = []
measure_bytes l (lines_out c) = []
measure_bytes l (short b n c) = []
measure_bytes l (long n c) = []

abbrev pub measure_words : List ℕ → Measure → List ℕ
measure_words l (whole n c) = loaded_text n (loaded n c l) (zeros n c) (replicate n 0)
measure_words l (stub b) = measure_text l (stub b)
measure_words l (slots_out n) = measure_text l (slots_out n)
measure_words l (lines_out c) = measure_text l (lines_out c)
measure_words l (short b n c) = measure_text l (short b n c)
measure_words l (long n c) = measure_text l (long n c)

unfoldable pub rescue_bytes : List ℕ → List ℕ
rescue_bytes l = measure_bytes l (measured l)

unfoldable pub rescue_words : List ℕ → List ℕ
rescue_words l = measure_words l (measured l)

-- Two lent buffers, written so far: for the dump and for the text.
pub record BothPapers : Type 0 where
  pub dump : Paper
  pub text : Paper

abbrev pub papers : Paper → Paper → BothPapers
papers p q = record { dump = p; text = q }

unfoldable pub rescues : List ℕ → Paper → Paper → BothPapers
rescues l p q = papers (typed p (rescue_bytes l)) (typed q (rescue_words l))
