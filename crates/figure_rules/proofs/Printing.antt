-- The text is its lines in a row, and line 4 + i is that of row i; no number has more than twenty digits.
use mathlib.Core.Path.{◌≡◌, refl, ap, sym, ◌∙◌}
use mathlib.Core.Bool.{Bool, true, false}
use mathlib.Core.List.{List, [], ◌∷◌, ◌++◌, append_assoc}
use Prim.Native.Nat.{ℕ, zero, suc, ◌+◌, ◌-◌, ◌*◌, ◌<◌, ◌≤◌}
use native.Mathlib.Omega.{arith}
use lib.ListN.{length, get_or, length-append}
use Rattle.slots.specs.Words.{pick}
use Rattle.script_rules.specs.Text.{decimal}
use Rattle.script_rules.specs.Letters.{letters, word_line}
use Rattle.script_rules.specs.Blanks.{blanks_filled, piece, is_blank}
use Rattle.script_rules.proofs.Room.{digits_short}
use Rattle.upload_rules.specs.Reading.{joined_bytes}
use Rattle.figure_rules.specs.Totals.{sets_in, refused_in, entries_in, lists_in, trees_in, looks_in, row_in}
use Rattle.figure_rules.specs.Stream.{Figures}
use Rattle.figure_rules.specs.Printed.{rows_text, figures_text}
use Rattle.figure_rules.specs.Claims.{PrintsFigures}

abbrev row_line : List ℕ → ℕ → List ℕ
row_line t i = letters "looks " ++ (decimal i ++ word_line " " (row_in t i))

-- So many rows' lines, and others behind them.
row_lines : ℕ → List ℕ → ℕ → List (List ℕ) → List (List ℕ)
row_lines zero t i rest = rest
row_lines (suc n) t i rest = row_line t i ∷ row_lines n t (suc i) rest

rows_joined : (n : ℕ) (t : List ℕ) (i : ℕ) (rest : List (List ℕ))
    → joined_bytes (row_lines n t i rest) ≡ rows_text n t i ++ joined_bytes rest
unfolding row_lines rows_text joined_bytes blanks_filled piece is_blank
rows_joined zero t i rest = refl
rows_joined (suc n) t i rest =
    ap (λ (l : List ℕ). row_line t i ++ l) (rows_joined n t (suc i) rest)
    ∙ sym (append_assoc (row_line t i) (rows_text n t (suc i)) (joined_bytes rest))

rows_at : (n : ℕ) (t : List ℕ) (i : ℕ) (rest : List (List ℕ)) (j : ℕ) → j < n → get_or (row_lines n t i rest) j [] ≡ row_line t (i + j)
unfolding row_lines
rows_at zero t i rest j l = absurd (omega arith)
rows_at (suc n) t i rest zero l = ap (row_line t) (omega arith)
rows_at (suc n) t i rest (suc j) l = rows_at n t (suc i) rest j (omega arith) ∙ ap (row_line t) (omega arith)

rows_behind : (n : ℕ) (t : List ℕ) (i : ℕ) (rest : List (List ℕ)) (j : ℕ) → get_or (row_lines n t i rest) (n + j) [] ≡ get_or rest j []
unfolding row_lines
rows_behind zero t i rest j = ap (λ (k : ℕ). get_or rest k []) (omega arith)
rows_behind (suc n) t i rest j =
    let e : suc n + j ≡ suc (n + j) = omega arith in rw e (rows_behind n t (suc i) rest j)

rows_long : (n : ℕ) (t : List ℕ) (i : ℕ) (rest : List (List ℕ)) → length (row_lines n t i rest) ≡ n + length rest
unfolding row_lines
rows_long zero t i rest = omega arith
rows_long (suc n) t i rest = omega (arith, rows_long n t (suc i) rest)

module _ (f : Figures) where
  abbrev t : List ℕ
  t = f.totals

  abbrev last_lines : Bool → List (List ℕ)
  last_lines o =
      word_line "more " (row_in t 33)
      ∷ ((letters "mean " ++ (decimal (looks_in t) ++ word_line " " (entries_in t))) ∷ pick o (letters "no 17\n" ∷ []) [])

  abbrev all_lines : Bool → List (List ℕ)
  all_lines o =
      word_line "sets " (sets_in t)
      ∷ (word_line "refused " (refused_in t)
      ∷ (word_line "entries " (entries_in t)
      ∷ (word_line "lists " (lists_in t) ∷ (word_line "trees " (trees_in t) ∷ row_lines 32 t 1 (last_lines o)))))

  last_joined : (o : Bool)
      → joined_bytes (last_lines o)
      ≡ word_line "more " (row_in t 33)
      ++ ((letters "mean " ++ (decimal (looks_in t) ++ word_line " " (entries_in t))) ++ pick o (letters "no 17\n") [])
  unfolding joined_bytes
  last_joined true = refl
  last_joined false = refl

  text_is : figures_text f ≡ joined_bytes (all_lines f.over)
  unfolding figures_text joined_bytes blanks_filled piece is_blank
  text_is =
      ap
      (λ (l : List ℕ).
      word_line "sets " (sets_in t)
      ++ (word_line "refused " (refused_in t)
      ++ (word_line "entries " (entries_in t) ++ (word_line "lists " (lists_in t) ++ (word_line "trees " (trees_in t) ++ l)))))
      (sym (rows_joined 32 t 1 (last_lines f.over) ∙ ap (λ (l : List ℕ). rows_text 32 t 1 ++ l) (last_joined f.over)))

  behind : (o : Bool) (j : ℕ) → get_or (all_lines o) (37 + j) [] ≡ get_or (last_lines o) j []
  behind o j =
      let e : 37 + j ≡ suc (suc (suc (suc (suc (32 + j))))) = omega arith in rw e (rows_behind 32 t 1 (last_lines o) j)

  told_long : (o : Bool) → f.over ≡ o → length (all_lines f.over) ≡ 39 + length (pick {A = List (List ℕ)} o (letters "no 17\n" ∷ []) [])
  told_long o e =
      rw e (omega (arith, rows_long 32 t 1 (last_lines o)))

  pub prints : PrintsFigures f
  prints =
      record {
        lines = all_lines f.over;
        text = text_is;
        sets = refl;
        refused = refl;
        entries = refl;
        lists = refl;
        trees = refl;
        looks = λ i l m.
            let e : 4 + i ≡ suc (suc (suc (suc (suc (i - 1))))) = omega arith in
            rw e (rows_at 32 t 1 (last_lines f.over) (i - 1) (omega arith) ∙ ap (row_line t) (omega arith));
        more = behind f.over 0;
        mean = behind f.over 1;
        all = λ e. told_long false e;
        told = λ e. (told_long true e, behind f.over 2 ∙ ap (λ (o : Bool). get_or (last_lines o) 2 []) e);
      }

  -- A row has at most 48 bytes: two words and two numbers.
  rows_short : (n i : ℕ) → length (rows_text n t i) ≤ 48 * n
  unfolding rows_text blanks_filled piece is_blank
  rows_short zero i = omega arith
  rows_short (suc n) i = simp length-append (omega (arith, digits_short 20 i, digits_short 20 (row_in t i), rows_short n (suc i)))

  no_short : (o : Bool) → length (pick o (letters "no 17\n") []) ≤ 6
  no_short true = omega arith
  no_short false = omega arith

  pub text_short : length (figures_text f) ≤ 2048
  unfolding figures_text blanks_filled piece is_blank
  text_short =
      simp length-append
      (omega (
        arith,
        digits_short 20 (sets_in t),
        digits_short 20 (refused_in t),
        digits_short 20 (entries_in t),
        digits_short 20 (lists_in t),
        digits_short 20 (trees_in t),
        rows_short 32 1,
        digits_short 20 (row_in t 33),
        digits_short 20 (looks_in t),
        no_short f.over,
      ))
