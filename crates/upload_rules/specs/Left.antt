-- What is left of the index: by an upload that is accepted, and by one that is refused.
use Rattle.std.specs.Prelude.{◌≡◌, List, [], ◌∷◌, ℕ, suc, ◌+◌, ◌<◌, length, get_or}
use Rattle.index_rules.specs.Sound.{Sound}
use Rattle.index_rules.specs.Index.{Index, FitIndex, length_of, insert_kind, plain_line, line_of, at}
use Rattle.index_rules.specs.Contents.{Entry, contents, listing}
use Rattle.upload_rules.specs.Parts.{put_all}

-- A listing with these entries in front, the last one first.
unfoldable pub front_all : List Entry → List Entry → List Entry
front_all [] l = l
front_all (e ∷ es) l = front_all es (e ∷ l)

-- The lines from k on are inserts of these entries, in this order: kind 1, the entry, and zeros for the pair before.
pub data EntryLines (lines : List ℕ) : ℕ → List Entry → Type 0 where
  none : {k : ℕ} → EntryLines lines k []
  more : {k : ℕ} {e : Entry} {es : List Entry} → line_of lines k ≡ plain_line insert_kind e.hash e.key e.at
      → EntryLines lines (suc k) es → EntryLines lines k (e ∷ es)

-- The lines of the first index's journal are word for word the old ones in the second's.
abbrev pub KeptLines : Index → Index → Type 0
KeptLines ix jx = (j : ℕ) → 0 < j → j < at (length_of ix.lines) 0 → get_or jx.lines j 0 ≡ get_or ix.lines j 0

-- The second index holds what the first, a sound one, holds and these entries more, in front of the listing, and a line for each.
pub record Uploaded (ix : Index) (h : Sound ix.live) (es : List Entry) (jx : Index) : Type 0 where
  pub fit : FitIndex jx
  pub sound : Sound jx.live
  pub holds : contents sound ≡ put_all es (contents h)
  pub listed : listing sound ≡ front_all es (listing h)
  pub long : length_of jx.lines ≡ length_of ix.lines + length es
  pub kept : KeptLines ix jx
  pub lined : EntryLines jx.lines (length_of ix.lines) es

-- "the tree holds what it held at the start": contents, listing, the journal's length and its lines are those of the first.
pub record Restored (ix : Index) (h : Sound ix.live) (jx : Index) : Type 0 where
  pub fit : FitIndex jx
  pub sound : Sound jx.live
  pub holds : contents sound ≡ contents h
  pub listed : listing sound ≡ listing h
  pub long : length_of jx.lines ≡ length_of ix.lines
  pub kept : KeptLines ix jx
