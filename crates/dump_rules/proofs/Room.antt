-- How long what is printed can be: a blank takes at most twenty bytes, and a way has at most twice as many slots as the tree.
use mathlib.Core.Path.{◌≡◌, refl, sym}
use mathlib.Core.Bool.{Bool, true, false}
use mathlib.Core.List.{List, [], ◌∷◌, ◌++◌}
use Prim.Native.Nat.{ℕ, zero, suc, ◌+◌, ◌*◌, ◌≤◌}
use native.Mathlib.Omega.{arith}
use lib.ListN.{length, get_or, length-append}
use lib.Dec.{eqb, leb}
use Rattle.slots.specs.Words.{null, pick, place, state, parent, left, right, prev, cell, most_slots}
use Rattle.tree_rules.specs.Find.{slots_of}
use Rattle.tree_rules.specs.Check.{red_slot}
use Rattle.index_rules.specs.Live.{Live, Fit}
use Rattle.index_rules.specs.Index.{Index, length_of}
use Rattle.index_rules.proofs.Fit.{half}
use Rattle.script_rules.specs.Text.{decimal}
use Rattle.script_rules.specs.Letters.{letters}
use Rattle.script_rules.specs.Blanks.{link_text, field_text, piece, is_blank, left_after, blanks_filled, says}
use Rattle.script_rules.proofs.Room.{digits_short}
use Rattle.night_rules.specs.Account.{Account}
use Rattle.night_rules.specs.Breach.{Breach}
use Rattle.night_rules.specs.Breach.{stray_link, stray_state, left_hash, left_key, left_field, stray_root, stray_first, miscount}
use Rattle.night_rules.specs.Breach.{root_count}
use Rattle.night_rules.specs.Breach.{first_count, root_under, orphan, disowned, child_elsewhere, child_twice, off_root, falls, red_root}
use Rattle.night_rules.specs.Breach.{red_under, uneven, first_behind, prev_astray, next_astray, off_first, wrong_size, free_size}
use Rattle.night_rules.specs.Finding.{Finding, sound, broken, unfit, examined}
use Rattle.night_rules.proofs.Claims as night-rules
use Rattle.dump_rules.specs.Dump.{dump_size, Measure, whole, stub, slots_out, lines_out, short, long, measured, loaded}
use Rattle.dump_rules.specs.Sentence.{sentence, opening, step_text, down_to, onward, way_text, both_ways, broken_text, finding_text}
use Rattle.dump_rules.specs.Sentence.{tree_text, index_text, measure_text, why_text}

piece_short : (b v : ℕ) → length (piece b v) ≤ 20
unfolding piece link_text field_text
piece_short b v =
    go (eqb b 35) (eqb b 64) (eqb v null) (eqb b 37) (eqb v place) (eqb v state) (eqb v parent) (eqb v left) (eqb v right) (eqb v prev)
  where
    field : (e f g h i j : Bool)
        → length (pick e (letters "place") (pick f (letters "state") (pick g (letters "parent")
        (pick h (letters "left") (pick i (letters "right") (pick j (letters "prev") (letters "next"))))))) ≤ 20
    field true f g h i j = omega arith
    field false true g h i j = omega arith
    field false false true h i j = omega arith
    field false false false true i j = omega arith
    field false false false false true j = omega arith
    field false false false false false true = omega arith
    field false false false false false false = omega arith

    go : (a c d k e f g h i j : Bool)
        → length (pick a (decimal v) (pick c (pick d (letters "null") (decimal v)) (pick k
        (pick e (letters "place") (pick f (letters "state") (pick g (letters "parent")
        (pick h (letters "left") (pick i (letters "right") (pick j (letters "prev") (letters "next")))))))
        (b ∷ [])))) ≤ 20
    go true c d k e f g h i j = digits_short 20 v
    go false true true k e f g h i j = omega arith
    go false true false k e f g h i j = digits_short 20 v
    go false false d true e f g h i j = field e f g h i j
    go false false d false e f g h i j = omega arith

filled_short : (s numbers : List ℕ) → length (blanks_filled s numbers) ≤ 20 * length s
unfolding blanks_filled
filled_short [] numbers = omega arith
filled_short (b ∷ s) numbers =
    simp length-append (omega (arith, piece_short b (get_or numbers 0 0), filled_short s (left_after b numbers)))

-- Each sentence is short.
sentence_short : (b : Breach) → length (sentence b) ≤ 1600
unfolding sentence
sentence_short (stray_link f x) = omega (arith, filled_short (letters "its % link # names no slot\n") (f ∷ (x ∷ [])))
sentence_short (stray_state s) = omega (arith, filled_short (letters "its state is #\n") (s ∷ []))
sentence_short (left_hash v) = omega (arith, filled_short (letters "free, and its hash is #\n") (v ∷ []))
sentence_short (left_key v) = omega (arith, filled_short (letters "free, and its key is #\n") (v ∷ []))
sentence_short (left_field f v) = omega (arith, filled_short (letters "free, and its % is #\n") (f ∷ (v ∷ [])))
sentence_short (stray_root x) = omega (arith, filled_short (letters "root # names no slot\n") (x ∷ []))
sentence_short (stray_first x) = omega (arith, filled_short (letters "first # names no slot\n") (x ∷ []))
sentence_short (miscount c u) = omega (arith, filled_short (letters "count #, and # slots are used\n") (c ∷ (u ∷ [])))
sentence_short (root_count c x) = omega (arith, filled_short (letters "count #, and root is @\n") (c ∷ (x ∷ [])))
sentence_short (first_count c x) = omega (arith, filled_short (letters "count #, and first is @\n") (c ∷ (x ∷ [])))
sentence_short (root_under p) = omega (arith, filled_short (letters "the root, and its parent is #\n") (p ∷ []))
sentence_short orphan = omega arith
sentence_short (disowned p l r) = omega (arith, filled_short (letters "its parent # has the children @ and @\n") (p ∷ (l ∷ (r ∷ []))))
sentence_short (child_elsewhere f x p) = omega (arith, filled_short (letters "its % child # has the parent @\n") (f ∷ (x ∷ (p ∷ []))))
sentence_short (child_twice x) = omega (arith, filled_short (letters "both its children are #\n") (x ∷ []))
sentence_short (off_root x) = omega (arith, filled_short (letters "its parents do not lead to the root @\n") (x ∷ []))
sentence_short (falls h k g m j) =
    omega (
      arith,
      filled_short (letters "hash # key # is not below hash # key # of slot #, the next in order\n") (h ∷ (k ∷ (g ∷ (m ∷ (j ∷ []))))),
    )
sentence_short red_root = omega arith
sentence_short (red_under f x) = omega (arith, filled_short (letters "red, and so is its % child #\n") (f ∷ (x ∷ [])))
sentence_short (uneven a b) =
    omega (arith, filled_short (letters "# black slots on a way by its left link, # on one by its right\n") (a ∷ (b ∷ [])))
sentence_short (first_behind p) = omega (arith, filled_short (letters "first, and its prev is #\n") (p ∷ []))
sentence_short (prev_astray p x) = omega (arith, filled_short (letters "its prev # has the next @\n") (p ∷ (x ∷ [])))
sentence_short (next_astray x p) = omega (arith, filled_short (letters "its next # has the prev @\n") (x ∷ (p ∷ [])))
sentence_short (off_first x) = omega (arith, filled_short (letters "its prevs do not lead to first @\n") (x ∷ []))
sentence_short (wrong_size s m) = omega (arith, filled_short (letters "size #, and its subtree has # pairs\n") (s ∷ (m ∷ [])))
sentence_short (free_size s) = omega (arith, filled_short (letters "free, and its size is #\n") (s ∷ []))

opening_short : (rule slot : ℕ) → length (opening rule slot) ≤ 240
unfolding opening
opening_short rule slot = go (eqb slot null)
  where
    go : (b : Bool) → length (pick b (says "T# header: " (rule ∷ (slot ∷ []))) (says "T# slot #: " (rule ∷ (slot ∷ [])))) ≤ 240
    go true = omega (arith, filled_short (letters "T# header: ") (rule ∷ (slot ∷ [])))
    go false = omega (arith, filled_short (letters "T# slot #: ") (rule ∷ (slot ∷ [])))

-- A slot of a way with its colour: a number and a word.
step_short : (cells : List ℕ) (i : ℕ) → length (step_text cells i) ≤ 26
unfolding step_text blanks_filled piece is_blank
step_short cells i = go (red_slot cells i)
  where
    go : (b : Bool) → length (pick b (says "# red" (i ∷ [])) (says "# black" (i ∷ []))) ≤ 26
    go true = simp length-append (omega (arith, digits_short 20 i))
    go false = simp length-append (omega (arith, digits_short 20 i))

down_short : (budget : ℕ) (cells : List ℕ) (i : ℕ) → length (down_to budget cells i) ≤ 28 * budget + 26
unfolding down_to
down_short zero cells i = omega (arith, step_short cells i)
down_short (suc budget) cells i = go (down_short budget cells (cell cells i parent)) (eqb (cell cells i parent) null)
  where
    go : length (down_to budget cells (cell cells i parent)) ≤ 28 * budget + 26 → (b : Bool)
        → length (pick b (step_text cells i) (down_to budget cells (cell cells i parent) ++ (letters ", " ++ step_text cells i)))
        ≤ 28 * suc budget + 26
    go above true = omega (arith, step_short cells i)
    go above false = simp length-append (omega (arith, step_short cells i))

on_short : (budget : ℕ) (cells : List ℕ) (i : ℕ) → length (onward budget cells i) ≤ 28 * budget
unfolding onward
on_short zero cells i = omega arith
on_short (suc budget) cells i = go (on_short budget cells (cell cells i left)) (eqb i null)
  where
    go : length (onward budget cells (cell cells i left)) ≤ 28 * budget → (b : Bool)
        → length (pick b [] (letters ", " ++ (step_text cells i ++ onward budget cells (cell cells i left)))) ≤ 28 * suc budget
    go below true = omega arith
    go below false = simp length-append (omega (arith, step_short cells i))

way_short : (n : ℕ) (cells : List ℕ) (i f : ℕ) → length (way_text n cells i f) ≤ 56 * n + 100
unfolding way_text
way_short n cells i f =
    simp length-append
    (omega (arith, filled_short (letters "%: ") (f ∷ []), down_short n cells i, on_short n cells (cell cells i f)))

broken_short : (n : ℕ) (cells : List ℕ) (w : Account) (b : Breach) → n ≤ most_slots → length (broken_text n cells w b) ≤ 524288
unfolding broken_text both_ways
broken_short n cells w b h = go (eqb w.rule 6)
  where
    go : (x : Bool)
        → length (opening w.rule w.slot ++ (sentence b
        ++ pick x (way_text n cells w.slot left ++ way_text n cells w.slot right) [])) ≤ 524288
    go true =
        simp length-append
        (omega (
          arith,
          opening_short w.rule w.slot,
          sentence_short b,
          way_short n cells w.slot left,
          way_short n cells w.slot right,
        ))
    go false = simp length-append (omega (arith, opening_short w.rule w.slot, sentence_short b))

finding_short : (t : Live) (f : Finding) → f ≡ examined t → length (finding_text t f) ≤ 524288
finding_short t sound e = omega arith
finding_short t (broken w b) e =
    let fit = (((night-rules.claims).examined t).broken_true w b (sym e)).0 in
    broken_short (slots_of t.names) t.cells w b (omega (arith, half fit, fit.most))
finding_short t unfit e =
    omega (
      arith,
      filled_short (letters "unfit: # words of names, # of cells, # of head, # of sizes\n")
          (length t.names ∷ (length t.cells ∷ (length t.head ∷ (length t.sizes ∷ [])))),
    )

index_short : (c : ℕ) (ix : Index) → length (index_text c ix) ≤ 524288
unfolding index_text tree_text
index_short c ix = go (leb (length_of ix.lines) c)
  where
    go : (b : Bool)
        → length (pick b (finding_text ix.live (examined ix.live))
        (says "unfit: the journal's length # passes its # lines\n" (length_of ix.lines ∷ (c ∷ [])))) ≤ 524288
    go true = finding_short ix.live (examined ix.live) refl
    go false =
        omega (arith, filled_short (letters "unfit: the journal's length # passes its # lines\n") (length_of ix.lines ∷ (c ∷ [])))

measure_short : (l : List ℕ) (m : Measure) → length (measure_text l m) ≤ 524288
measure_short l (whole n c) = index_short c (loaded n c l)
measure_short l (stub b) = omega (arith, filled_short (letters "short: # bytes, and a dump begins with 8\n") (b ∷ []))
measure_short l (slots_out n) = omega (arith, filled_short (letters "over the limits: # slots, and an index has 1 to 4096\n") (n ∷ []))
measure_short l (lines_out c) = omega (arith, filled_short (letters "over the limits: # lines, and a journal has at most 1024\n") (c ∷ []))
measure_short l (short b n c) =
    omega (arith, filled_short (letters "short: # bytes, and a dump of # slots and # lines has #\n") (b ∷ (n ∷ (c ∷ (dump_size n c ∷ [])))))
measure_short l (long n c) =
    omega (arith, filled_short (letters "long: more bytes than the # of a dump of # slots and # lines\n") (dump_size n c ∷ (n ∷ (c ∷ []))))

pub why_short : (l : List ℕ) → length (why_text l) ≤ 524288
unfolding why_text
why_short l = measure_short l (measured l)
