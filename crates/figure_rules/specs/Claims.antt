-- What crate `figure_rules` proves, in one record. Every statement of the crate stands here.
use Rattle.std.specs.Prelude.{◌≡◌, ◌↔◌, true, false, List, [], ◌∷◌, ◌++◌, ℕ, ◌+◌, ◌^◌, ◌<◌, ◌≤◌, length, get_or}
use Rattle.slots.specs.Answers.{given, refused}
use Rattle.endian.specs.Bytes.{Bytes}
use Rattle.tree_rules.specs.Find.{slots_of}
use Rattle.index_rules.specs.Sound.{used}
use Rattle.script_rules.specs.Text.{decimal}
use Rattle.script_rules.specs.Letters.{letters, word_line}
use Rattle.upload_rules.specs.Reading.{joined_bytes}
use Rattle.set_rules.specs.Words.{Set, Fit}
use Rattle.set_rules.specs.Accepted.{Accepted}
use Rattle.set_rules.specs.Held.{EntryFrom}
use Rattle.figure_rules.specs.Totals.{total_at, sets_in, refused_in, entries_in, lists_in}
use Rattle.figure_rules.specs.Totals.{trees_in, looks_in, row_in, counted_in, most_sets}
use Rattle.figure_rules.specs.Totals.{FitTotals, no_totals, RowsAgree}
use Rattle.figure_rules.specs.Added.{own_search, looks_of, over_entries, EntriesOnce, sum_over, Added, RefusedOnly, Sifted, Week}
use Rattle.figure_rules.specs.Added.{Reordered}
use Rattle.figure_rules.specs.Tally.{tally_outcome, tallies, all_tallied}
use Rattle.figure_rules.specs.Stream.{no_set, Figures, figures, no_figures, with_sets, Stream, stream, bytes_figured, new_stream}
use Rattle.figure_rules.specs.Stream.{input_ends, figures_of, pieces_figured}
use Rattle.figure_rules.specs.Pieces.{FitStream, FitEnd, stream_outcome, stream_start, piece_taken, input_ended, pieces_taken, Pieces}
use Rattle.figure_rules.specs.Input.{blocks, Files, file_set, file_sets, CutShort, Input, CountedFile, files_of, Sent}
use Rattle.figure_rules.specs.Printed.{figures_text, week_text}
use Rattle.figure_rules.specs.Sample.{list_of_two, totals_of_two, input_of_two}

-- An accepted set's entries and their looks.
pub record EntryLooks (s : Set) (x : ℕ) : Type 0 where
  -- the slots that are not free are the entries
  pub entry : (used s.cells x ≡ 1) ↔ EntryFrom s 0 x
  -- the lookup of an entry's own pair from table 0 answers it, and has looked at a slot at least
  pub found : used s.cells x ≡ 1 → (own_search s x).answer ≡ given x
  pub least : used s.cells x ≡ 1 → 1 ≤ looks_of s x
  pub most : looks_of s x ≤ 4096

-- The tally of a set on any words.
pub record Tallies (s : Set) (t : List ℕ) : Type 0 where
  -- "1 where the totals are not 39 words or one is out of its range", and nothing changes
  pub one : (tallies s t ≡ tally_outcome (refused 1) t) ↔ (FitTotals t → ⊥)
  pub answers_one : (tallies s t).answer ≡ refused 1 → FitTotals t → ⊥
  -- "17 Too many where a million sets are counted", and nothing changes
  pub seventeen : (tallies s t ≡ tally_outcome (refused 17) t) ↔ (FitTotals t × (counted_in t ≡ most_sets))
  pub answers_seventeen : (tallies s t).answer ≡ refused 17 → FitTotals t × (counted_in t ≡ most_sets)
  -- else "1 where the set is counted as accepted, 0 where as refused", and each word exactly
  pub taken : FitTotals t → counted_in t < most_sets → Fit s → Accepted s
      → ((tallies s t).answer ≡ given 1) × Added s t (tallies s t).totals
  pub turned : FitTotals t → counted_in t < most_sets → (Fit s → Accepted s → ⊥)
      → ((tallies s t).answer ≡ given 0) × RefusedOnly t (tallies s t).totals
  -- "What is in range stays in range"
  pub ranges : FitTotals t → FitTotals (tallies s t).totals
  -- what agreed agrees
  pub agree : FitTotals t → RowsAgree t → RowsAgree (tallies s t).totals

-- Many sets.
pub record Weeks (l : List Set) : Type 0 where
  -- from zeros on, each word exactly
  pub words : {a : List Set} {r : ℕ} → Sifted l a r → length l ≤ most_sets → Week a r (all_tallied no_totals l)
  pub agree : RowsAgree (all_tallied no_totals l)
  pub ranges : FitTotals (all_tallied no_totals l)
  -- "Up to a million sets, the figures do not depend on their order": from any totals in range
  pub order : {m : List Set} → Reordered l m → (t : List ℕ) → FitTotals t → counted_in t + length l ≤ most_sets
      → all_tallied t l ≡ all_tallied t m

-- The input of `./figures`.
pub record Streams : Type 0 where
  -- "whatever pieces they come in"
  pub pieces : (d : Stream) (ps : List (List ℕ)) → pieces_figured d ps ≡ bytes_figured d (joined_bytes ps)
  -- every input is files, each after its length, and its end or a rest that is cut short
  pub read : (l : List ℕ) → Bytes l → Input l
  -- its figures are those of the files' sets in order; a rest that is cut short is one more that is refused
  pub whole : (ls : List (List ℕ)) → Files ls → figures_of (blocks ls) ≡ with_sets no_figures (file_sets ls)
  pub cut : (ls : List (List ℕ)) (rest : List ℕ) → Files ls → CutShort rest
      → figures_of (blocks ls ++ rest) ≡ with_sets no_figures (file_sets ls ++ (no_set ∷ []))
  pub none : Fit no_set → ⊥
  -- the set of a file is the one whose file it is, where that fits, is accepted and small enough; of any other file it does not fit
  pub file : (l : List ℕ) (s : Set) → CountedFile l s → file_set l ≡ s
  pub file_only : (l : List ℕ) → Bytes l → Fit (file_set l) → CountedFile l (file_set l)
  -- so the figures of sets that are sent as files are those of the sets in order, accepted or not
  pub sent : {l m : List Set} → Sent l m → figures_of (blocks (files_of l)) ≡ with_sets no_figures m
  -- up to a million sets the figures are their totals; with more they are those of the first million, and this is told
  pub up_to_million : (l : List Set) → length l ≤ most_sets → with_sets no_figures l ≡ figures (all_tallied no_totals l) false
  pub past_million : (l m : List Set) → length l ≡ most_sets → 1 ≤ length m
      → with_sets no_figures (l ++ m) ≡ figures (all_tallied no_totals l) true
  -- and each word exactly, where of the files' sets those in a are accepted and r are not
  pub words : (ls : List (List ℕ)) → Files ls → length ls ≤ most_sets → {a : List Set} {r : ℕ} → Sifted (file_sets ls) a r
      → Week a r (figures_of (blocks ls)).totals
  -- "Up to a million sets, the figures do not depend on their order"
  pub order : {l m : List (List ℕ)} → Reordered l m → Files l → length l ≤ most_sets → figures_of (blocks l) ≡ figures_of (blocks m)
  pub order_cut : {l m : List (List ℕ)} → Reordered l m → Files l → length l ≤ most_sets → (rest : List ℕ) → CutShort rest
      → figures_of (blocks l ++ rest) ≡ figures_of (blocks m ++ rest)
  -- what is printed is a function of the bytes
  pub printed : (ps : List (List ℕ)) → figures_text (input_ends (pieces_figured new_stream ps)) ≡ week_text (joined_bytes ps)

-- The calls on a stream, on any words.
pub record StreamCalls (d : Stream) : Type 0 where
  -- what is out of its ranges is 1, and nothing changes
  pub one : (l : List ℕ) → (piece_taken d l ≡ stream_outcome (refused 1) d) ↔ (FitStream d → ⊥)
  pub end_one : (input_ended d ≡ stream_outcome (refused 1) d) ↔ (FitEnd d → ⊥)
  -- else the bytes are taken one after the other, the input ends, and the sets counted so far are answered
  pub taken : (l : List ℕ) → FitStream d
      → piece_taken d l ≡ stream_outcome (given (counted_in (bytes_figured d l).figured.totals)) (bytes_figured d l)
  pub ended : FitEnd d
      → input_ended d ≡ stream_outcome (given (counted_in (input_ends d).totals)) (stream 0 0 d.loads (input_ends d))
  -- what is in range stays in range
  pub ranges : {l : List ℕ} → Bytes l → FitStream d → FitStream (piece_taken d l).left

-- What is printed of the figures, line by line in its own letters.
pub record PrintsFigures (f : Figures) : Type 0 where
  pub lines : List (List ℕ)
  pub text : figures_text f ≡ joined_bytes lines
  pub sets : get_or lines 0 [] ≡ word_line "sets " (sets_in f.totals)
  pub refused : get_or lines 1 [] ≡ word_line "refused " (refused_in f.totals)
  pub entries : get_or lines 2 [] ≡ word_line "entries " (entries_in f.totals)
  pub lists : get_or lines 3 [] ≡ word_line "lists " (lists_in f.totals)
  pub trees : get_or lines 4 [] ≡ word_line "trees " (trees_in f.totals)
  pub looks : (i : ℕ) → 1 ≤ i → i ≤ 32 → get_or lines (4 + i) [] ≡ letters "looks " ++ (decimal i ++ word_line " " (row_in f.totals i))
  pub more : get_or lines 37 [] ≡ word_line "more " (row_in f.totals 33)
  pub mean : get_or lines 38 [] ≡ letters "mean " ++ (decimal (looks_in f.totals) ++ word_line " " (entries_in f.totals))
  -- and no other line, but "where a set comes after a million, then `no 17` as its last line"
  pub all : f.over ≡ false → length lines ≡ 39
  pub told : f.over ≡ true → (length lines ≡ 40) × (get_or lines 39 [] ≡ letters "no 17\n")

pub record Claims : Type 0 where
  pub looks : (s : Set) → Fit s → Accepted s → (x : ℕ) → x < slots_of s.names → EntryLooks s x
  -- a sum over the slots that are not free is the sum over the entries, each once
  pub sums : (s : Set) → Fit s → Accepted s → (l : List ℕ) → EntriesOnce s l → (f : ℕ → ℕ) → over_entries s f ≡ sum_over l f
  pub tally : (s : Set) (t : List ℕ) → Tallies s t
  pub weeks : (l : List Set) → Weeks l
  -- "every word stays in 64 bits"
  pub narrow : (t : List ℕ) → FitTotals t → (j : ℕ) → total_at t j < 2 ^ 64
  pub streams : Streams
  pub calls : (d : Stream) → StreamCalls d
  -- a start is in range where the totals are; so pieces from a start on, then the end, come to the figures of the input
  pub started : (s : Set) {t : List ℕ} → FitTotals t → FitStream (stream_start s t)
  pub by_calls : {ps : List (List ℕ)} → Pieces ps → (input_ended (pieces_taken new_stream ps)).left.figured ≡ figures_of (joined_bytes ps)
  pub prints : (f : Figures) → PrintsFigures f
  -- what is printed has room in 2,048 bytes
  pub room : (f : Figures) → length (figures_text f) ≤ 2048
  -- a set of one list of two, and an input with its file
  pub worked : tallies list_of_two no_totals ≡ tally_outcome (given 1) (totals_of_two 0)
  pub worked_input : figures_of input_of_two ≡ figures (totals_of_two 1) false
