-- Whole words and whole slots of a chunk, put into the slices, and what a step of the chunk's loop comes to.
use Rattle.std.specs.Prelude.{◌≡◌, List, [], ◌∷◌, ℕ, zero, suc, ◌+◌, ◌*◌, ◌%◌, ◌<◌, ◌≤◌, length, get_or, set, take, drop}
use Rattle.endian.specs.Bytes.{word_in}
use Rattle.set_rules.specs.Words.{Set}
use Rattle.file_rules.specs.Layout.{field_of, put_field}
use Rattle.file_rules.specs.Loader.{Loader}
use Rattle.file_rules.specs.Loading.{Loading, bytes_loaded, GoesOn}

-- Words put into section s from word j on.
unfoldable pub words_put : Set → ℕ → ℕ → List ℕ → Set
words_put t s j [] = t
words_put t s j (w ∷ ws) = words_put (put_field t (field_of s j) w) s (suc j) ws

-- The slot whose 41 bytes these begin with, as slot i.
unfoldable pub slot_names : List ℕ → ℕ → List ℕ → List ℕ
slot_names names i l = set (set names (2 * i + 0) (word_in 8 l 0)) (2 * i + 1) (word_in 8 l 1)

unfoldable pub slot_links : List ℕ → ℕ → List ℕ → List ℕ
slot_links cells i l =
    let c3 = set (set cells (7 * i + 2) (word_in 4 l 0)) (7 * i + 3) (word_in 4 l 1) in
    set (set (set c3 (7 * i + 4) (word_in 4 l 2)) (7 * i + 5) (word_in 4 l 3)) (7 * i + 6) (word_in 4 l 4)

unfoldable pub slot_cells : List ℕ → ℕ → List ℕ → List ℕ
slot_cells cells i l = slot_links (set (set cells (7 * i + 0) (word_in 4 l 4)) (7 * i + 1) (get_or l 20 0)) i (drop 21 l)

-- The first n slots of the bytes, as the slots from one on.
unfoldable pub slots_names : List ℕ → ℕ → List ℕ → ℕ → List ℕ
slots_names names from l zero = names
slots_names names from l (suc n) = slot_names (slots_names names from l n) (from + n) (drop (41 * n) l)

unfoldable pub slots_cells : List ℕ → ℕ → List ℕ → ℕ → List ℕ
slots_cells cells from l zero = cells
slots_cells cells from l (suc n) = slot_cells (slots_cells cells from l n) (from + n) (drop (41 * n) l)

-- The loader is between two words of a section of words, or between two slots, and the bytes left have a whole one.
pub record WordsReady (r : Loader) (left : ℕ) : Type 0 where
  pub section : r.section < 3
  pub between : r.at % 8 ≡ 0
  pub counted : 8 ≤ r.at
  pub whole : 4 ≤ left

pub record SlotsReady (r : Loader) (left : ℕ) : Type 0 where
  pub section : r.section ≡ 3
  pub between : r.at % 72 ≡ 8
  pub whole : 41 ≤ left

-- So many of the bytes that are left were taken.
pub record StepTaken (d : Loading) (rest : List ℕ) (used : ℕ) (e : Loading) : Type 0 where
  pub some : 1 ≤ used
  pub most : used ≤ length rest
  pub same : bytes_loaded d (take used rest) ≡ e
  pub goes : GoesOn e
