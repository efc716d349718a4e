-- A set whose every word is another, and its file byte by byte: one table, one bin word, one header, one slot.
use Rattle.std.specs.Prelude.{List, [], ◌∷◌, ℕ}
use Rattle.set_rules.specs.Words.{Set, lent_set}

-- hash 0x0807060504030201, key 0x1817161514131211, place 0x24232221, state 7, and the links 8 to 12.
abbrev pub sample_set : Set
sample_set =
    lent_set (1 ∷ []) (2 ∷ []) (3 ∷ (4 ∷ (5 ∷ []))) (578437695752307201 ∷ (1735880461161533969 ∷ []))
    (606282273 ∷ (7 ∷ (8 ∷ (9 ∷ (10 ∷ (11 ∷ (12 ∷ [])))))))

-- Four bytes of a number below 256.
abbrev pub small : ℕ → List ℕ → List ℕ
small x l = x ∷ (0 ∷ (0 ∷ (0 ∷ l)))

abbrev pub eight_from : ℕ → ℕ → ℕ → ℕ → ℕ → ℕ → ℕ → ℕ → List ℕ → List ℕ
eight_from a b c d e f g h l = a ∷ (b ∷ (c ∷ (d ∷ (e ∷ (f ∷ (g ∷ (h ∷ l)))))))

-- Each count, then what it counts.
abbrev pub sample_bytes : List ℕ
sample_bytes =
    small 1 (small 1
    (small 1 (small 2
    (small 1 (small 3 (small 4 (small 5
    (small 1
    (eight_from 1 2 3 4 5 6 7 8
    (eight_from 17 18 19 20 21 22 23 24
    (33 ∷ (34 ∷ (35 ∷ (36 ∷
    (7 ∷ small 8 (small 9 (small 10 (small 11 (small 12 [])))))))))))))))))))
