-- What crate `listing_rules` proves, in one record. Every statement of the crate stands here.
use Rattle.std.specs.Prelude.{◌≡◌, ◌↔◌, List, ◌++◌, ℕ, ◌≤◌, length}
use Rattle.endian.specs.Bytes.{Bytes}
use Rattle.tree_rules.specs.Tree.{times}
use Rattle.script_rules.specs.Letters.{word_line}
use Rattle.set_rules.specs.Words.{Set, Fit}
use Rattle.set_rules.specs.Accepted.{Accepted}
use Rattle.set_rules.specs.Held.{EntryFrom}
use Rattle.set_rules.specs.Cursor.{starts}
use Rattle.set_rules.specs.Whole.{Onward, Listing}
use Rattle.file_rules.specs.File.{set_bytes, Wide}
use Rattle.file_rules.specs.Faults.{Larger, WholeFile, LoadVerdict}
use Rattle.file_rules.specs.Loading.{load_whole}
use Rattle.listing_rules.specs.Lines.{load_text}
use Rattle.listing_rules.specs.PlacedLines.{PlacedLines, counted_line}

-- The text of a set: its counts, and its entries.
pub record SetShown (s : Set) (text : List ℕ) : Type 0 where
  -- the slots that the whole walk from table 0 gives, in its order: what its steps give, and what the rules say of the bins
  pub walk : List ℕ
  pub steps : Listing s (starts s 0).cursor walk
  pub order : Onward s 0 0 walk
  -- they are the entries of the set, each once
  pub entries : (x : ℕ) → (1 ≤ times x walk) ↔ EntryFrom s 0 x
  pub once : (x : ℕ) → times x walk ≤ 1
  -- "then the entries in walk order, a line each", "with the table and the bin that hold it"
  pub lines : List ℕ
  pub placed : PlacedLines s walk lines
  -- "N is their number"
  pub whole : text ≡ counted_line s (length walk) ++ lines

pub record Claims : Type 0 where
  -- an accepted file shows its set, and so does the file of an accepted set
  pub accepted : (t : Set) (l : List ℕ) → Bytes l → (s : Set) → WholeFile t l s → Fit s → Accepted s
      → SetShown s (load_text (load_whole t l))
  pub saved : (s : Set) → Fit s → Wide s → Accepted s → (t : Set) → Larger s t → SetShown s (load_text (load_whole t (set_bytes s)))
  -- "Of a file that is refused it prints `no` and the number", whatever its fault
  pub refused : (t : Set) (l : List ℕ) → Bytes l → (n : ℕ) → 1 ≤ n → LoadVerdict t l n → load_text (load_whole t l) ≡ word_line "no " n
  -- what is printed has room in 524,288 bytes
  pub room : (t : Set) (l : List ℕ) → Bytes l → length (load_text (load_whole t l)) ≤ 524288
