-- What one byte may do to the index and to what is noted, on any words: told by the index's own insert and rollback.
use Rattle.std.specs.Prelude.{◌≡◌, ◌≢◌, ℕ, ◌+◌, ◌<◌, ◌≤◌}
use Rattle.slots.specs.Answers.{Answer, given, refused}
use Rattle.index_rules.specs.Index.{Index, length_of}
use Rattle.index_rules.specs.Insert.{inserts}
use Rattle.index_rules.specs.Rollback.{rolls}
use Rattle.upload_rules.specs.Reader.{Reader, unsaid, noting}
use Rattle.upload_rules.specs.Reading.{Session, session}

-- "the 1, 2, 7 or 8 that an insert or rollback gives"
pub data Foreign : Answer → Type 0 where
  unfit : Foreign (refused 1)
  damaged : Foreign (refused 2)
  bad_mark : Foreign (refused 7)
  misfit : Foreign (refused 8)

-- Why bytes are refused: "18 Wrong kind, 3, 5, 6 as the insert gives them, 13 Long past section 4, 12 Short at the end call".
pub data Fault (ix : Index) : Answer → Type 0 where
  kind : Fault ix (refused 18)
  long : Fault ix (refused 13)
  short : Fault ix (refused 12)
  entry : (hash key p : ℕ) → (inserts ix hash key p).answer.number ≢ 0 → Fault ix (inserts ix hash key p).answer

pub data ByteStep (r : Reader) (ix : Index) : Session → Type 0 where
  -- no call is made
  moves : {s : Reader} → s.note ≡ unsaid → s.mark ≡ r.mark → s.taken ≡ r.taken → ByteStep r ix (session s ix)
  -- an insert is accepted
  takes : {s : Reader} (hash key p x : ℕ) → p < 4294967296 → (inserts ix hash key p).answer ≡ given x → s.note ≡ unsaid → s.mark ≡ r.mark
      → s.taken ≡ r.taken + 1
      → ByteStep r ix (session s (inserts ix hash key p).left)
  -- the bytes are refused, and the rollback to the mark is accepted
  stops : (a : Answer) → Fault ix a → r.mark + r.taken ≤ length_of ix.lines → (c : ℕ) → (rolls ix r.mark).answer ≡ given c
      → ByteStep r ix (session (noting r a) (rolls ix r.mark).left)
  -- the rollback is refused: its answer goes up, and nothing is written
  foreign : (a : Answer) → Foreign a → r.mark + r.taken ≤ length_of ix.lines → (rolls ix r.mark).answer ≡ a
      → ByteStep r ix (session (noting r a) ix)
  -- "a journal whose length is below mark + taken answers 7, as a rollback to mark + taken does (1 and 2 before it), and nothing is
  -- written"
  cut_short : (a : Answer) → Foreign a → length_of ix.lines < r.mark + r.taken → (rolls ix (r.mark + r.taken)).answer ≡ a
      → ByteStep r ix (session (noting r a) ix)
