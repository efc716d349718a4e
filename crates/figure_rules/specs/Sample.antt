-- A set worked out: one bin with a list of two, the first found at one look and the second at two; and its file in an input.
use Rattle.std.specs.Prelude.{List, [], ◌∷◌, ◌++◌, ℕ, replicate}
use Rattle.slots.specs.Words.{null}
use Rattle.set_rules.specs.Words.{Set, lent_set}
use Rattle.file_rules.specs.Sample.{small}

-- Slot 0 has hash 5 and key 1 and goes on to slot 1, which has hash 7 and key 2.
abbrev pub list_of_two : Set
list_of_two =
    lent_set (1 ∷ []) (2 ∷ []) [] (5 ∷ (1 ∷ (7 ∷ (2 ∷ []))))
    (0 ∷ (1 ∷ (null ∷ (null ∷ (null ∷ (null ∷ (1 ∷ (0 ∷ (1 ∷ (null ∷ (null ∷ (null ∷ (null ∷ (null ∷ []))))))))))))))

-- One set, so many refused, two entries, one list, no tree, three looks, one entry at one look and one at two.
abbrev pub totals_of_two : ℕ → List ℕ
totals_of_two refused = (1 ∷ (refused ∷ (2 ∷ (1 ∷ (0 ∷ (3 ∷ (1 ∷ (1 ∷ [])))))))) ++ replicate 31 0

abbrev pub null_bytes : List ℕ → List ℕ
null_bytes l = 255 ∷ (255 ∷ (255 ∷ (255 ∷ l)))

-- The length 106, the set's file, and one byte of a length that is cut short.
abbrev pub input_of_two : List ℕ
input_of_two =
    small 106 (small 1 (small 1
    (small 1 (small 2
    (small 0
    (small 2
    (small 5 (small 0 (small 1 (small 0 (small 0 (1 ∷ null_bytes (null_bytes (null_bytes (null_bytes (small 1
    (small 7 (small 0 (small 2 (small 0 (small 0 (1 ∷ null_bytes (null_bytes (null_bytes (null_bytes (null_bytes
    (9 ∷ [])))))))))))))))))))))))))))
