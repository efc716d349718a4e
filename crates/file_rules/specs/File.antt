-- What a set's file is: the bytes of a set. Nothing here knows of a loader.
use Rattle.std.specs.Prelude.{List, [], ◌∷◌, ◌++◌, ℕ, zero, suc, ◌+◌, ◌*◌, ◌^◌, ◌<◌, length, get_or}
use Rattle.slots.specs.Words.{null, place, state, parent, left, right, prev, next, hash_part, key_part, cell, name_of}
use Rattle.endian.specs.Bytes.{little, words_bytes}
use Rattle.tree_rules.specs.Find.{slots_of}
use Rattle.set_rules.specs.Words.{Set, tables_of, headers_in}

-- The words are as wide as their types: those of names 64 bits, the others 32.
pub record Wide (s : Set) : Type 0 where
  pub lengths : (i : ℕ) → get_or s.lengths i 0 < 2 ^ 32
  pub bins : (i : ℕ) → get_or s.bins i 0 < 2 ^ 32
  pub heads : (i : ℕ) → get_or s.heads i null < 2 ^ 32
  pub names : (i : ℕ) → get_or s.names i 0 < 2 ^ 64
  pub cells : (i : ℕ) → get_or s.cells i null < 2 ^ 32

-- "A slot is hash, key, place, state, parent, left, right, prev, next, 41 bytes": "hash and key eight bytes, state one, everything else
-- four".
unfoldable pub slot_bytes : Set → ℕ → List ℕ
slot_bytes s i =
    little 8 (name_of s.names i hash_part)
    ++ (little 8 (name_of s.names i key_part)
    ++ (little 4 (cell s.cells i place)
    ++ (little 1 (cell s.cells i state)
    ++ (little 4 (cell s.cells i parent)
    ++ (little 4 (cell s.cells i left)
    ++ (little 4 (cell s.cells i right)
    ++ (little 4 (cell s.cells i prev)
    ++ little 4 (cell s.cells i next))))))))

-- The first n slots.
unfoldable pub slots_bytes : Set → ℕ → List ℕ
slots_bytes s zero = []
slots_bytes s (suc n) = slots_bytes s n ++ slot_bytes s n

-- "The sections come in fixed order, each after its count: table lengths, bin words, tree headers, slots." Section n, counted from 0.
unfoldable pub set_section : Set → ℕ → List ℕ
set_section s zero = little 4 (tables_of s) ++ words_bytes 4 s.lengths
set_section s (suc zero) = little 4 (length s.bins) ++ words_bytes 4 s.bins
set_section s (suc (suc zero)) = little 4 (headers_in s) ++ words_bytes 4 s.heads
set_section s (suc (suc (suc n))) = little 4 (slots_of s.names) ++ slots_bytes s (slots_of s.names)

-- The first n sections, and all four.
unfoldable pub set_front : Set → ℕ → List ℕ
set_front s zero = []
set_front s (suc n) = set_front s n ++ set_section s n

abbrev pub set_bytes : Set → List ℕ
set_bytes s = set_front s 4

-- "A file has 16 + 4 * tables + 4 * words + 12 * headers + 41 * slots bytes."
unfoldable pub set_size : Set → ℕ
set_size s = 16 + 4 * tables_of s + 4 * length s.bins + 12 * headers_in s + 41 * slots_of s.names

-- The four counts of a set.
abbrev pub counts_in : Set → List ℕ
counts_in s = tables_of s ∷ (length s.bins ∷ (headers_in s ∷ (slots_of s.names ∷ [])))
