-- What crate `intake` proves, in one record. Every statement of the crate stands here.
use Rattle.std.specs.Prelude.{◌≡◌, ◌≢◌, ◌⊎◌, List, reverse, ℕ}
use Rattle.slots.specs.Pairs.{Pair}
use Rattle.index_rules.specs.Sound.{Sound}
use Rattle.index_rules.specs.Index.{Index}
use Rattle.index_rules.specs.Fresh.{FitLengths, freshes}
use Rattle.upload_rules.specs.Upload.{Upload, entries_of}
use Rattle.endian.specs.Bytes.{Bytes}
use Rattle.upload_rules.specs.Parts.{Enters, Refusal, Short}
use Rattle.upload_rules.specs.Reading.{read_whole}
use Rattle.script_rules.specs.Letters.{word_line, listing_text}
use Rattle.script_rules.specs.Answers.{receipt_text}

-- What is printed for an upload of the bytes l into an empty index, in whatever chunks they come.
abbrev pub printed_for : Index → List ℕ → List ℕ
printed_for ix l = let o = read_whole (freshes ix).left l in receipt_text o.answer.number o.left.index.live

-- The words of the index may have been any, of fit lengths, before it was made an empty one.
pub record Intakes (ix : Index) (fit : FitLengths ix) (h : Sound (freshes ix).left.live) (l : List ℕ) (bytes : Bytes l) : Type 0 where
  -- an upload whose entries can all be taken: their number and then each of them, "the last one first"
  pub taken : (ss : List (List Pair)) → Upload l ss → Enters (freshes ix).left h (entries_of 1 0 ss)
      → printed_for ix l ≡ listing_text (reverse (entries_of 1 0 ss))
  -- any other bytes: "`no` and its number", the one whose reason holds
  pub refused : (n : ℕ) → n ≢ 0 → Refusal (freshes ix).left h l n ⊎ (Short (freshes ix).left h l × (n ≡ 12))
      → printed_for ix l ≡ word_line "no " n

pub record Claims : Type 0 where
  pub intakes : (ix : Index) (fit : FitLengths ix) (h : Sound (freshes ix).left.live) (l : List ℕ) (bytes : Bytes l)
      → Intakes ix fit h l bytes
