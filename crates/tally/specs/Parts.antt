-- What is printed of the figures, in parts: the counts before the rows, and what comes behind them.
use Rattle.std.specs.Prelude.{List, [], ◌∷◌, ◌++◌, ℕ}
use Rattle.script_rules.specs.Blanks.{says}
use Rattle.figure_rules.specs.Totals.{sets_in, refused_in, entries_in, lists_in, trees_in, looks_in, row_in}

unfoldable pub counts_text : List ℕ → List ℕ
counts_text t =
    says "sets #\n" (sets_in t ∷ [])
    ++ (says "refused #\n" (refused_in t ∷ [])
    ++ (says "entries #\n" (entries_in t ∷ []) ++ (says "lists #\n" (lists_in t ∷ []) ++ says "trees #\n" (trees_in t ∷ []))))

unfoldable pub last_text : List ℕ → List ℕ
last_text t = says "more #\n" (row_in t 33 ∷ []) ++ says "mean # #\n" (looks_in t ∷ (entries_in t ∷ []))
