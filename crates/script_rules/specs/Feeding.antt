-- How input comes in, in chunks of any length, and how answers go out, into a lent buffer.
use Rattle.std.specs.Prelude.{◌≡◌, ◌≢◌, List, [], ◌∷◌, ◌++◌, ℕ, suc, ◌+◌, ◌-◌, ◌≤◌, length, take, drop, set, replicate, eqb, ltb}
use Rattle.slots.specs.Words.{pick}
use Rattle.index_rules.specs.Live.{Live}
use Rattle.index_rules.specs.Index.{Index, lent}
use Rattle.script_rules.specs.Text.{newline}
use Rattle.script_rules.specs.Commands.{Command, spoken}
use Rattle.script_rules.specs.Answers.{receipt_text, carried_out}

-- The line that has come so far: at most 81 bytes of it, since one over 80 is bad whatever follows.
abbrev pub width : ℕ
width = 81

pub record Line : Type 0 where
  pub bytes : List ℕ
  pub count : ℕ

abbrev pub blank_line : Line
blank_line = record { bytes = replicate width 0; count = 0 }

abbrev pub held_of : Line → List ℕ
held_of line = take line.count line.bytes

unfoldable pub noted : Line → ℕ → Line
noted line b = pick (ltb line.count width) (record { bytes = set line.bytes line.count b; count = line.count + 1 }) line

-- A lent buffer, and how many bytes of it are written. A byte that has no room is not written.
pub record Paper : Type 0 where
  pub bytes : List ℕ
  pub at : ℕ

-- The paper that a lent buffer is, written so far.
abbrev pub lent_paper : List ℕ → ℕ → Paper
lent_paper out at = record { bytes = out; at = at }

abbrev pub typed_one : Paper → ℕ → Paper
typed_one p b = pick (ltb p.at (length p.bytes)) (record { bytes = set p.bytes p.at b; at = p.at + 1 }) p

unfoldable pub typed : Paper → List ℕ → Paper
typed p [] = p
typed p (b ∷ l) = typed (typed_one p b) l

-- No answer is longer: 4,096 entries of at most 63 bytes, and the line before them.
abbrev pub longest : ℕ
longest = 262144

-- What is printed at the end of an upload, on a lent buffer; nothing where the longest answer has no room.
unfoldable pub receipts : ℕ → Live → Paper → Paper
receipts number t p = pick (ltb (length p.bytes) longest) p (typed p (receipt_text number t))

-- A command obeyed: what is left of the tree and the journal, and the answer on the paper.
pub record CommandTurn : Type 0 where
  pub index : Index
  pub paper : Paper

-- A lent index and a lent buffer, written so far.
abbrev pub lent_turn : List ℕ → List ℕ → List ℕ → List ℕ → List ℕ → List ℕ → ℕ → CommandTurn
lent_turn names cells head sizes lines out at = record { index = lent names cells head sizes lines; paper = lent_paper out at }

abbrev pub performed : Index → Paper → Command → CommandTurn
performed ix p c = let s = carried_out ix c in record { index = s.left; paper = typed p s.text }

-- All that the routine works on.
pub record Desk : Type 0 where
  pub line : Line
  pub index : Index
  pub paper : Paper

-- The desk that a line, a lent index and a lent buffer, written so far, are.
abbrev pub lent_desk : Line → List ℕ → List ℕ → List ℕ → List ℕ → List ℕ → List ℕ → ℕ → Desk
lent_desk line names cells head sizes lines out at =
    record { line = line; index = lent names cells head sizes lines; paper = lent_paper out at }

-- The line is answered, and the next one begins.
unfoldable pub answered : Desk → Desk
answered d =
    let t = performed d.index d.paper (spoken (held_of d.line)) in record { line = blank_line; index = t.index; paper = t.paper }

unfoldable pub fed_byte : Desk → ℕ → Desk
fed_byte d b = pick (eqb b newline) (answered d) (record { line = noted d.line b; index = d.index; paper = d.paper })

-- What a call comes to: the number, the desk, and how many bytes of the chunk were taken.
pub record Fed : Type 0 where
  pub number : ℕ
  pub desk : Desk
  pub taken : ℕ

abbrev pub fed : ℕ → Desk → Fed
fed k d = record { number = 0; desk = d; taken = k }

abbrev pub room_left : Paper → ℕ
room_left p = length p.bytes - p.at

-- The bytes of a chunk one after another, k taken before them, while there is room for any answer.
unfoldable pub feeding : List ℕ → ℕ → Desk → Fed
feeding [] k d = fed k d
feeding (b ∷ l) k d = pick (ltb (room_left d.paper) longest) (fed k d) (feeding l (suc k) (fed_byte d b))

-- A call with a chunk; a buffer in which the longest answer has no room is 1, and nothing is taken.
unfoldable pub feeds : List ℕ → Desk → Fed
feeds chunk d = pick (ltb (length d.paper.bytes) longest) (record { number = 1; desk = d; taken = 0 }) (feeding chunk 0 d)

-- "An unended last line counts": the call at the end of the input.
unfoldable pub finishes : Desk → Fed
finishes d =
    pick (ltb (length d.paper.bytes) longest) (record { number = 1; desk = d; taken = 0 })
    (pick (eqb d.line.count 0) (fed 0 d) (fed 0 (answered d)))

-- What input comes to with no buffer in between: all that is printed, and what is left.
pub record Heard : Type 0 where
  pub text : List ℕ
  pub line : Line
  pub index : Index

abbrev pub prefixed : List ℕ → Heard → Heard
prefixed text h = record { text = text ++ h.text; line = h.line; index = h.index }

unfoldable pub heard : Line → Index → List ℕ → Heard
heard line ix [] = record { text = []; line = line; index = ix }
heard line ix (b ∷ l) =
    pick (eqb b newline)
    (let s = carried_out ix (spoken (held_of line)) in prefixed s.text (heard blank_line s.left l))
    (heard (noted line b) ix l)

abbrev pub desk_of : Line → Index → List ℕ → Desk
desk_of line ix buffer = record { line = line; index = ix; paper = record { bytes = buffer; at = 0 } }

-- What a call has printed.
abbrev pub printed : Fed → List ℕ
printed f = take f.desk.paper.at f.desk.paper.bytes

-- Calls with chunks and buffers of any length until the input is used up: each takes what it takes, the rest is lent again with
-- as much more as the caller likes.
pub data Run : Line → Index → List ℕ → Heard → Type 0 where
  over : {line : Line} {ix : Index} → Run line ix [] (record { text = []; line = line; index = ix })
  call : {line : Line} {ix : Index} {h : Heard} (f : Fed) (chunk rest buffer : List ℕ)
      → longest ≤ length buffer
      → f ≡ feeds chunk (desk_of line ix buffer)
      → Run f.desk.line f.desk.index (drop f.taken chunk ++ rest) h
      → Run line ix (chunk ++ rest) (prefixed (printed f) h)

-- No newline stands in a line.
pub data NoNewline : List ℕ → Type 0 where
  nothing : NoNewline []
  another : {b : ℕ} {l : List ℕ} → b ≢ newline → NoNewline l → NoNewline (b ∷ l)
