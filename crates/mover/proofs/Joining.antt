-- A part of no words stays without words, and a tree without sizes takes a slot as the rules say.
use mathlib.Core.Path.{◌≡◌, refl, ap, sym, ◌∙◌}
use mathlib.Core.List.{List, [], ◌∷◌}
use Prim.Native.Nat.{ℕ, ◌/◌}
use native.Mathlib.Omega.{arith}
use lib.ListN.{length}
use Rattle.slots.specs.Words.{name_of, hash_part, key_part}
use Rattle.redblack.specs.Links.{lent_links}
use Rattle.redblack.specs.Hanging.{inserted, spotted}
use Rattle.move_rules.specs.Passes.{joined}

no_words : (l : List ℕ) → length l ≡ 0 → l ≡ []
no_words [] e = refl
no_words (x ∷ l) e = absurd (omega arith)

pub joins : (names cells : List ℕ) (root x n hash key : ℕ) (after : List ℕ) (top : ℕ) (sizes : List ℕ) → n ≡ length names / 2
    → hash ≡ name_of names x hash_part
    → key ≡ name_of names x key_part
    → length sizes ≡ 0
    → lent_links after top sizes ≡ inserted n (lent_links cells root []) x (spotted n names (lent_links cells root []) hash key)
    → lent_links after top [] ≡ joined names (lent_links cells root []) x
unfolding joined
joins names cells root x n hash key after top sizes a b c d e =
    ap (λ (v : List ℕ). lent_links after top v) (sym (no_words sizes d)) ∙ e ∙ rw (a, b, c)
