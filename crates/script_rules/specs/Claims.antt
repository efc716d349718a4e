-- What crate `script_rules` proves of its models, in one record. Every statement of the crate stands here.
use Rattle.std.specs.Prelude.{◌≡◌, ◌≢◌, ◌↔◌, List, [], ◌∷◌, ◌++◌, map, ℕ, ◌+◌, ◌^◌, ◌<◌, ◌≤◌, length, take}
use Prim.Native.String.{String}
use Rattle.slots.specs.Words.{null}
use Rattle.slots.specs.Answers.{given, nothing, refused}
use Rattle.tree_rules.specs.Find.{slots_of}
use Rattle.index_rules.specs.Live.{Live, unsized_of, Fit, first_of}
use Rattle.index_rules.specs.Index.{Index, FitIndex, Outcome, length_of}
use Rattle.index_rules.specs.Sound.{Sound}
use Rattle.index_rules.specs.Contents.{entry_of, listing}
use Rattle.index_rules.specs.Find.{finds}
use Rattle.index_rules.specs.Insert.{inserts}
use Rattle.index_rules.specs.Remove.{removes}
use Rattle.index_rules.specs.Rollback.{rolls}
use Rattle.script_rules.specs.Text.{newline, decimal, worth, Digits}
use Rattle.script_rules.specs.Commands.{Command, insert, remove, find, rollback, mark, list, bad, spoken}
use Rattle.script_rules.specs.Letters.{letters, text_of, InFields, word_line, listing_text, NextVisits}
use Rattle.script_rules.specs.Blanks.{field_text, blanks_filled}
use Rattle.script_rules.specs.Answers.{Said, receipt_text, carried_out}
use Rattle.script_rules.specs.Feeding.{Line, blank_line, Paper, typed, longest, feeds, finishes, Heard, prefixed, heard, desk_of}
use Rattle.script_rules.specs.Feeding.{lent_paper, receipts, printed, Run, NoNewline}

-- "decimal numbers", "with no leading zero".
pub record Decimals (x : ℕ) : Type 0 where
  pub digits : Digits (decimal x)
  pub value : x < 10 ^ 20 → worth 0 (decimal x) ≡ x
  -- the first digit is no zero, unless the number is zero, which is one digit
  pub leading : x < 10 ^ 20 → 0 < x → (l : List ℕ) → decimal x ≢ 48 ∷ l
  pub zero_digit : decimal 0 ≡ 48 ∷ []

-- What a line means: the command of which it is the text, its numbers within their fields; else it is bad.
pub record Means (l : List ℕ) : Type 0 where
  pub command : (c : Command) → c ≢ bad → (spoken l ≡ c) ↔ (InFields c × (l ≡ text_of c))
  pub bad_else : (spoken l ≡ bad) ↔ ((c : Command) → InFields c → l ≡ text_of c → ⊥)
  -- "or over 80 bytes before its newline, prints `bad`"
  pub long : 80 < length l → spoken l ≡ bad

-- A call with a chunk and a buffer.
pub record Calls (chunk : List ℕ) (line : Line) (ix : Index) (buffer : List ℕ) : Type 0 where
  -- 1 exactly where the longest answer has no room, and then nothing has changed and nothing is taken
  pub one : ((feeds chunk (desk_of line ix buffer)).number ≡ 1) ↔ (length buffer < longest)
  pub refused : length buffer < longest
      → feeds chunk (desk_of line ix buffer) ≡ record { number = 1; desk = desk_of line ix buffer; taken = 0 }
  pub other : longest ≤ length buffer → (feeds chunk (desk_of line ix buffer)).number ≡ 0
  -- it takes no more than there is, and something where there is room and something to take: calls come to an end
  pub most : (feeds chunk (desk_of line ix buffer)).taken ≤ length chunk
  pub some : longest ≤ length buffer → 0 < length chunk → 0 < (feeds chunk (desk_of line ix buffer)).taken

-- A command that is a call of the index, and its answer: the word of the table and the number that comes with it, or "`no` and its number";
-- "`no 3` prints no slot". What is left is what the call leaves.
pub record Prints (word : String) (o : Outcome) (s : Said) : Type 0 where
  pub value : (v : ℕ) → o.answer ≡ given v → s.text ≡ word_line word v
  pub number : o.answer.number ≢ 0 → s.text ≡ word_line "no " o.answer.number
  pub left : s.left ≡ o.left

-- "The script program's `?` prints the number last on its line": the slot and the looks, that there is none and the looks, 9 and the looks;
-- 1 is answered before anything is looked at.
pub record Asks (ix : Index) (h k : ℕ) : Type 0 where
  pub at : (slot : ℕ) → (finds (unsized_of ix.live) h k).answer ≡ given slot
      → (carried_out ix (find h k)).text
      ≡ letters "at " ++ (decimal slot ++ word_line " " (length (finds (unsized_of ix.live) h k).looks))
  pub none : (finds (unsized_of ix.live) h k).answer ≡ nothing
      → (carried_out ix (find h k)).text ≡ letters "none" ++ word_line " " (length (finds (unsized_of ix.live) h k).looks)
  pub nine : (finds (unsized_of ix.live) h k).answer ≡ refused 9
      → (carried_out ix (find h k)).text ≡ letters "no 9" ++ word_line " " (length (finds (unsized_of ix.live) h k).looks)
  pub one : (finds (unsized_of ix.live) h k).answer ≡ refused 1 → (carried_out ix (find h k)).text ≡ letters "no 1\n"
  pub left : (carried_out ix (find h k)).left ≡ ix

-- "`mark` and the journal's length".
pub record PrintsMark (ix : Index) : Type 0 where
  pub fit : FitIndex ix → (carried_out ix mark).text ≡ word_line "mark " (length_of ix.lines)
  pub unfit : (FitIndex ix → ⊥) → (carried_out ix mark).text ≡ letters "no 1\n"
  pub left : (carried_out ix mark).left ≡ ix

-- "`entries` and their number, then a line for each", "by the chain from first".
pub record PrintsList (t : Live) (text : List ℕ) : Type 0 where
  pub unfit : (Fit t → ⊥) → text ≡ letters "no 1\n"
  -- next visits these slots from first on, no more of them than there are
  pub chain : Fit t → (l : List ℕ) → NextVisits (slots_of t.names) t.cells (first_of t) l → length l ≤ slots_of t.names
      → text ≡ listing_text (map (entry_of t) l)
  -- 9 where there are no such slots
  pub lost : Fit t
      → ((l : List ℕ) → NextVisits (slots_of t.names) t.cells (first_of t) l → length l ≤ slots_of t.names → ⊥)
      → text ≡ letters "no 9\n"
  pub sound : Fit t → (h : Sound t) → text ≡ listing_text (listing h)

-- What is printed at the end of an upload: "a refusal prints `no` and its number, and else the index is listed as `l` lists it". In a
-- buffer with room for the longest answer it stands whole, and nothing is written into a shorter one.
pub record PrintsReceipt (number : ℕ) (t : Live) : Type 0 where
  pub refusal : number ≢ 0 → receipt_text number t ≡ word_line "no " number
  pub list : number ≡ 0 → PrintsList t (receipt_text number t)
  pub whole : (buffer : List ℕ) → longest ≤ length buffer
      → let p = receipts number t (lent_paper buffer 0) in take p.at p.bytes ≡ receipt_text number t
  pub short : (buffer : List ℕ) → length buffer < longest → receipts number t (lent_paper buffer 0) ≡ lent_paper buffer 0

-- A sentence with blanks: a number, a link or the name of a field for each of them in their order, and every other byte as it is.
pub record Fills (sentence numbers : List ℕ) (v : ℕ) : Type 0 where
  pub number : blanks_filled (letters "#" ++ sentence) (v ∷ numbers) ≡ decimal v ++ blanks_filled sentence numbers
  pub link : v ≢ null → blanks_filled (letters "@" ++ sentence) (v ∷ numbers) ≡ decimal v ++ blanks_filled sentence numbers
  pub no_link : blanks_filled (letters "@" ++ sentence) (null ∷ numbers) ≡ letters "null" ++ blanks_filled sentence numbers
  pub field : blanks_filled (letters "%" ++ sentence) (v ∷ numbers) ≡ field_text v ++ blanks_filled sentence numbers
  pub other : (b : ℕ) → b ≢ 35 → b ≢ 64 → b ≢ 37 → blanks_filled (b ∷ sentence) numbers ≡ b ∷ blanks_filled sentence numbers
  pub end : blanks_filled [] numbers ≡ []

-- "place, state, parent, left, right, prev, next (fields 0 to 6)".
pub record Fields : Type 0 where
  pub places : field_text 0 ≡ letters "place"
  pub states : field_text 1 ≡ letters "state"
  pub parents : field_text 2 ≡ letters "parent"
  pub lefts : field_text 3 ≡ letters "left"
  pub rights : field_text 4 ≡ letters "right"
  pub prevs : field_text 5 ≡ letters "prev"
  pub nexts : field_text 6 ≡ letters "next"

pub record Claims : Type 0 where
  pub fills : (sentence numbers : List ℕ) (v : ℕ) → Fills sentence numbers v
  pub fields : Fields
  pub decimals : (x : ℕ) → Decimals x
  pub means : (l : List ℕ) → Means l
  -- no answer is longer than the room that is asked for, and what there is room for is written whole
  pub room : (ix : Index) (c : Command) → length (carried_out ix c).text ≤ longest
  pub written : (p : Paper) (l : List ℕ) → p.at + length l ≤ length p.bytes
      → ((typed p l).at ≡ p.at + length l) × (take (typed p l).at (typed p l).bytes ≡ take p.at p.bytes ++ l)
  pub calls : (chunk : List ℕ) (line : Line) (ix : Index) (buffer : List ℕ) → Calls chunk line ix buffer
  -- any cutting of the input gives the same output and the same tree and journal
  pub cutting : {line : Line} {ix : Index} {input : List ℕ} {h : Heard} → Run line ix input h → h ≡ heard line ix input
  -- line by line: each is answered as it is meant, and the next begins
  pub lines : (ix : Index) (l rest : List ℕ) → NoNewline l
      → heard blank_line ix (l ++ (newline ∷ rest))
      ≡ prefixed (carried_out ix (spoken l)).text (heard blank_line (carried_out ix (spoken l)).left rest)
  -- "An unended last line counts", and where none has begun nothing is printed
  pub last_line : (ix : Index) (l buffer : List ℕ) → NoNewline l → l ≢ [] → longest ≤ length buffer
      → let f = finishes (desk_of (heard blank_line ix l).line (heard blank_line ix l).index buffer) in
      ((heard blank_line ix l).text ≡ []) × (printed f ≡ (carried_out ix (spoken l)).text)
      × (f.desk.index ≡ (carried_out ix (spoken l)).left)
  pub no_line_lem : (ix : Index) (buffer : List ℕ) → longest ≤ length buffer
      → (printed (finishes (desk_of blank_line ix buffer)) ≡ []) × ((finishes (desk_of blank_line ix buffer)).desk.index ≡ ix)
  -- the table: what each command prints, and what it leaves
  pub prints_insert : (ix : Index) (h k p : ℕ) → Prints "slot " (inserts ix h k p) (carried_out ix (insert h k p))
  pub prints_remove : (ix : Index) (h k : ℕ) → Prints "gone " (removes ix h k) (carried_out ix (remove h k))
  pub asks : (ix : Index) (h k : ℕ) → Asks ix h k
  pub prints_rollback : (ix : Index) (m : ℕ) → Prints "back " (rolls ix m) (carried_out ix (rollback m))
  pub prints_mark : (ix : Index) → PrintsMark ix
  pub prints_list : (ix : Index) → PrintsList ix.live (carried_out ix list).text × ((carried_out ix list).left ≡ ix)
  pub prints_bad : (ix : Index) → ((carried_out ix bad).text ≡ letters "bad\n") × ((carried_out ix bad).left ≡ ix)
  pub prints_receipt : (number : ℕ) (t : Live) → PrintsReceipt number t
