-- What crate `dump_rules` proves, in one record. Every statement of the crate stands here.
use Rattle.std.specs.Prelude.{◌≡◌, ◌≢◌, ◌↔◌, List, [], ◌++◌, ℕ, ◌+◌, ◌<◌, ◌≤◌, length, get_or}
use Rattle.endian.specs.Bytes.{Bytes}
use Rattle.slots.specs.Words.{null, state, cell, code, red}
use Rattle.tree_rules.specs.Chain.{tally}
use Rattle.index_rules.specs.Sound.{Sound, used}
use Rattle.index_rules.specs.Index.{Index, index, length_of}
use Rattle.index_rules.specs.Fresh.{freshes}
use Rattle.script_rules.specs.Text.{decimal}
use Rattle.script_rules.specs.Letters.{letters}
use Rattle.script_rules.specs.Blanks.{link_text, field_text}
use Rattle.night_rules.specs.Account.{Account}
use Rattle.night_rules.specs.Reason.{Reason}
use Rattle.night_rules.specs.Breach.{Breach, BreaksAt, stray_link, stray_state, left_hash, left_key, left_field, stray_root, stray_first}
use Rattle.night_rules.specs.Breach.{miscount}
use Rattle.night_rules.specs.Breach.{root_count, first_count, root_under, orphan, disowned, child_elsewhere, child_twice, off_root, falls}
use Rattle.night_rules.specs.Breach.{red_root}
use Rattle.night_rules.specs.Breach.{red_under, uneven, first_behind, prev_astray, next_astray, off_first, wrong_size, free_size}
use Rattle.dump_rules.specs.Dump.{dump_bytes, DumpOf, whole, measured, loaded}
use Rattle.dump_rules.specs.Sentence.{sentence, step_text, down_to, onward, broken_text, why_text}
use Rattle.dump_rules.specs.Rows.{RowDown, RowOn, behind_text, row_text}
use Rattle.dump_rules.specs.Rescue.{zeros, rescued, loss_text, loss_texts, kept_of, rescue_bytes, rescue_words}

-- The sentence of each way of breaking a rule, in its own letters.
pub record Sentences : Type 0 where
  pub stray_link_lem : (f x : ℕ) → sentence (stray_link f x)
      ≡ letters "its " ++ (field_text f ++ (letters " link " ++ (decimal x ++ letters " names no slot\n")))
  pub stray_state_lem : (s : ℕ) → sentence (stray_state s)
      ≡ letters "its state is " ++ (decimal s ++ letters "\n")
  pub left_hash_lem : (v : ℕ) → sentence (left_hash v)
      ≡ letters "free, and its hash is " ++ (decimal v ++ letters "\n")
  pub left_key_lem : (v : ℕ) → sentence (left_key v)
      ≡ letters "free, and its key is " ++ (decimal v ++ letters "\n")
  pub left-field : (f v : ℕ) → sentence (left_field f v)
      ≡ letters "free, and its " ++ (field_text f ++ (letters " is " ++ (decimal v ++ letters "\n")))
  pub stray_root_lem : (x : ℕ) → sentence (stray_root x)
      ≡ letters "root " ++ (decimal x ++ letters " names no slot\n")
  pub stray_first_lem : (x : ℕ) → sentence (stray_first x)
      ≡ letters "first " ++ (decimal x ++ letters " names no slot\n")
  pub miscount : (c u : ℕ) → sentence (miscount c u)
      ≡ letters "count " ++ (decimal c ++ (letters ", and " ++ (decimal u ++ letters " slots are used\n")))
  pub root_count_lem : (c x : ℕ) → sentence (root_count c x)
      ≡ letters "count " ++ (decimal c ++ (letters ", and root is " ++ (link_text x ++ letters "\n")))
  pub first_count_lem : (c x : ℕ) → sentence (first_count c x)
      ≡ letters "count " ++ (decimal c ++ (letters ", and first is " ++ (link_text x ++ letters "\n")))
  pub root_under_lem : (p : ℕ) → sentence (root_under p)
      ≡ letters "the root, and its parent is " ++ (decimal p ++ letters "\n")
  pub disowned : (p l r : ℕ) → sentence (disowned p l r)
      ≡ letters "its parent "
      ++ (decimal p ++ (letters " has the children " ++ (link_text l ++ (letters " and " ++ (link_text r ++ letters "\n")))))
  pub child_elsewhere_lem : (f x p : ℕ) → sentence (child_elsewhere f x p)
      ≡ letters "its "
      ++ (field_text f ++ (letters " child " ++ (decimal x ++ (letters " has the parent " ++ (link_text p ++ letters "\n")))))
  pub child_twice_lem : (x : ℕ) → sentence (child_twice x)
      ≡ letters "both its children are " ++ (decimal x ++ letters "\n")
  pub off_root_lem : (x : ℕ) → sentence (off_root x)
      ≡ letters "its parents do not lead to the root " ++ (link_text x ++ letters "\n")
  pub falls : (h k g m j : ℕ) → sentence (falls h k g m j)
      ≡ letters "hash "
      ++ (decimal h ++ (letters " key " ++ (decimal k ++ (letters " is not below hash "
      ++ (decimal g ++ (letters " key " ++ (decimal m ++ (letters " of slot " ++ (decimal j ++ letters ", the next in order\n")))))))))
  pub red_under_lem : (f x : ℕ) → sentence (red_under f x)
      ≡ letters "red, and so is its " ++ (field_text f ++ (letters " child " ++ (decimal x ++ letters "\n")))
  pub uneven : (a b : ℕ) → sentence (uneven a b)
      ≡ decimal a ++ (letters " black slots on a way by its left link, " ++ (decimal b ++ letters " on one by its right\n"))
  pub first_behind_lem : (p : ℕ) → sentence (first_behind p)
      ≡ letters "first, and its prev is " ++ (decimal p ++ letters "\n")
  pub prev_astray_lem : (p x : ℕ) → sentence (prev_astray p x)
      ≡ letters "its prev " ++ (decimal p ++ (letters " has the next " ++ (link_text x ++ letters "\n")))
  pub next_astray_lem : (x p : ℕ) → sentence (next_astray x p)
      ≡ letters "its next " ++ (decimal x ++ (letters " has the prev " ++ (link_text p ++ letters "\n")))
  pub off_first_lem : (x : ℕ) → sentence (off_first x)
      ≡ letters "its prevs do not lead to first " ++ (link_text x ++ letters "\n")
  pub wrong_size_lem : (s m : ℕ) → sentence (wrong_size s m)
      ≡ letters "size " ++ (decimal s ++ (letters ", and its subtree has " ++ (decimal m ++ letters " pairs\n")))
  pub free_size_lem : (s : ℕ) → sentence (free_size s)
      ≡ letters "free, and its size is " ++ (decimal s ++ letters "\n")
  pub orphan : sentence orphan ≡ letters "not the root, and it has no parent\n"
  pub red_root_lem : sentence red_root ≡ letters "red, and the root\n"

-- An index within the limits, and its dump.
pub record Dumps (n c : ℕ) (ix : Index) : Type 0 where
  -- it is taken, and read back as it was
  pub taken : measured (dump_bytes n c ix) ≡ whole n c
  pub back : loaded n c (dump_bytes n c ix) ≡ ix
  -- `sound` is printed exactly of a sound tree whose journal's length is within its lines
  pub sound : (why_text (dump_bytes n c ix) ≡ letters "sound\n") ↔ (Sound ix.live × (length_of ix.lines ≤ c))
  -- of any other tree its one reason, with a true sentence on how the rule is broken
  pub broken : length_of ix.lines ≤ c → (w : Account) → Reason ix.live w
      → (b : Breach) × BreaksAt ix.live w b × (why_text (dump_bytes n c ix) ≡ broken_text n ix.live.cells w b)
  pub journal : c < length_of ix.lines
      → why_text (dump_bytes n c ix)
      ≡ letters "unfit: the journal's length "
      ++ (decimal (length_of ix.lines) ++ (letters " passes its " ++ (decimal c ++ letters " lines\n")))

-- A way of T6 is printed slot by slot from the root, each slot "with its colour".
pub record Rows (cells : List ℕ) (n i : ℕ) : Type 0 where
  pub down : (row : List ℕ) → RowDown cells i row → length row ≤ n + 1 → down_to n cells i ≡ row_text cells row
  pub on : (row : List ℕ) → RowOn cells i row → length row ≤ n → onward n cells i ≡ behind_text cells row
  pub reds : cell cells i state ≡ code red → step_text cells i ≡ decimal i ++ letters " red"
  pub blacks : cell cells i state ≢ code red → step_text cells i ≡ decimal i ++ letters " black"

-- The line of slot i on standard error, by its word of the report.
pub record Losses (cells report : List ℕ) (i : ℕ) : Type 0 where
  pub unknown : get_or report i null ≡ 2
      → loss_text cells report i
      ≡ letters "slot " ++ (decimal i ++ (letters ": unknown state " ++ (decimal (cell cells i state) ++ letters "\n")))
  pub repeats : (s : ℕ) → get_or report i null ≡ 3 + s
      → loss_text cells report i ≡ letters "slot " ++ (decimal i ++ (letters ": repeats slot " ++ (decimal s ++ letters "\n")))
  -- a slot that is kept or free has none
  pub none : get_or report i null ≤ 1 → loss_text cells report i ≡ []

-- What `./salvage` writes of the dump of an index: the dump of what salvage makes of its names and cells, with an empty journal, and the
-- lines of all its slots with the number kept.
pub record Rescues (n c : ℕ) (ix : Index) : Type 0 where
  pub dumped : rescue_bytes (dump_bytes n c ix) ≡ dump_bytes n c (index (rescued n c ix).into (freshes (zeros n c)).left.lines)
  pub told : rescue_words (dump_bytes n c ix)
      ≡ loss_texts n ix.live.cells (rescued n c ix).report 0
      ++ (letters "kept " ++ (decimal (kept_of (rescued n c ix).answer.value)
      ++ (letters " of " ++ (decimal (tally n (used ix.live.cells)) ++ letters "\n"))))

pub record Claims : Type 0 where
  pub rows : (cells : List ℕ) (n i : ℕ) → Rows cells n i
  pub losses : (cells report : List ℕ) (i : ℕ) → Losses cells report i
  pub rescues : (n c : ℕ) (ix : Index) → DumpOf n c ix → Rescues n c ix
  pub sentences : Sentences
  pub dumps : (n c : ℕ) (ix : Index) → DumpOf n c ix → Dumps n c ix
  -- only a dump is taken
  pub own : (n c : ℕ) (l : List ℕ) → Bytes l → measured l ≡ whole n c → l ≡ dump_bytes n c (loaded n c l)
  -- what is printed has room in 524,288 bytes
  pub room : (l : List ℕ) → length (why_text l) ≤ 524288
