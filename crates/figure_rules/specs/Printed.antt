-- What is printed of the figures.
use Rattle.std.specs.Prelude.{List, [], ◌∷◌, ◌++◌, ℕ, zero, suc}
use Rattle.slots.specs.Words.{pick}
use Rattle.script_rules.specs.Letters.{letters}
use Rattle.script_rules.specs.Blanks.{says}
use Rattle.figure_rules.specs.Totals.{sets_in, refused_in, entries_in, lists_in, trees_in, looks_in, row_in}
use Rattle.figure_rules.specs.Stream.{Figures, figures_of}

-- So many rows from row i on.
unfoldable pub rows_text : ℕ → List ℕ → ℕ → List ℕ
rows_text zero t i = []
rows_text (suc n) t i = says "looks # #\n" (i ∷ (row_in t i ∷ [])) ++ rows_text n t (suc i)

-- "where a set comes after a million, then `no 17` as its last line"
unfoldable pub figures_text : Figures → List ℕ
figures_text f =
    let t = f.totals in
    says "sets #\n" (sets_in t ∷ [])
    ++ (says "refused #\n" (refused_in t ∷ [])
    ++ (says "entries #\n" (entries_in t ∷ [])
    ++ (says "lists #\n" (lists_in t ∷ [])
    ++ (says "trees #\n" (trees_in t ∷ [])
    ++ (rows_text 32 t 1
    ++ (says "more #\n" (row_in t 33 ∷ [])
    ++ (says "mean # #\n" (looks_in t ∷ (entries_in t ∷ []))
    ++ pick f.over (letters "no 17\n") [])))))))

-- What `./figures` prints of its input.
unfoldable pub week_text : List ℕ → List ℕ
week_text l = figures_text (figures_of l)
