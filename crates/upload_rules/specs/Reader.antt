-- The reader's eight words, their ranges, and what it answers.
use Rattle.std.specs.Prelude.{Bool, true, false, ℕ, ◌+◌, ◌*◌, ◌<◌, ◌≤◌, eqb, ltb, leb}
use Rattle.slots.specs.Words.{pick, ◌and◌}
use Rattle.slots.specs.Answers.{Answer, given}

-- Nothing is noted, or an answer is that every later call gives again.
pub data Note : Type 0 where
  unsaid : Note
  said : Answer → Note

pub record Reader : Type 0 where
  -- the sections that are whole
  pub section : ℕ
  -- the bytes of the next one's header that have come, 0 to 2; in its entries 3 and the bytes of the entry
  pub got : ℕ
  -- the entries of it that are to come; in the header the bytes of the count
  pub owed : ℕ
  -- the bytes of the entry
  pub hash : ℕ
  pub key : ℕ
  -- the journal's length at the start
  pub mark : ℕ
  -- the entries taken since the start
  pub taken : ℕ
  pub note : Note

abbrev pub reader_of : ℕ → ℕ → ℕ → ℕ → ℕ → ℕ → ℕ → Note → Reader
reader_of section got owed hash key mark taken note =
    record { section = section; got = got; owed = owed; hash = hash; key = key; mark = mark; taken = taken; note = note }

-- The reader of a start.
abbrev pub new_reader : ℕ → Reader
new_reader mark = reader_of 0 0 0 0 0 mark 0 unsaid

-- The reader with an answer noted.
abbrev pub noting : Reader → Answer → Reader
noting r a = reader_of r.section r.got r.owed r.hash r.key r.mark r.taken (said a)

-- "A byte leaves a reader in range": got is at most 18, and 0 once four sections are whole; a count is 16 bits wide; an entry that has
-- begun is owed, and no more were taken than counts of 16 bits allow. Hash, key, mark and note are any of their type.
pub record FitReader (r : Reader) : Type 0 where
  pub bytes : r.got ≤ 18
  pub sections : 19 * r.section + r.got ≤ 76
  pub count : r.owed < 65536
  pub header : r.got < 3 → r.taken ≤ 65535 * r.section
  pub entries : 3 ≤ r.got → (1 ≤ r.owed) × (r.taken + r.owed ≤ 65535 * (r.section + 1))

-- The test of it.
unfoldable pub fits_reader : Reader → Bool
fits_reader r =
    leb r.got 18 and leb (19 * r.section + r.got) 76 and ltb r.owed 65536
    and pick (ltb r.got 3)
    (leb r.taken (65535 * r.section))
    (leb 1 r.owed and leb (r.taken + r.owed) (65535 * (r.section + 1)))

-- All four sections are whole.
abbrev pub is_whole : Reader → Bool
is_whole r = eqb r.section 4

-- Nothing is noted.
abbrev pub is_open : Note → Bool
is_open unsaid = true
is_open (said a) = false

-- What a call answers: what is noted, or else "the entries taken since the start".
abbrev pub note_answer : Note → ℕ → Answer
note_answer unsaid taken = given taken
note_answer (said a) taken = a

abbrev pub reader_answer : Reader → Answer
reader_answer r = note_answer r.note r.taken
