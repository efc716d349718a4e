-- What is printed of a dump: that its tree is sound, or how the first broken rule is broken, or what does not fit.
use Rattle.std.specs.Prelude.{List, [], ◌∷◌, ◌++◌, ℕ, zero, suc, length, eqb, leb}
use Rattle.slots.specs.Words.{null, pick, parent, left, right, cell}
use Rattle.tree_rules.specs.Find.{slots_of}
use Rattle.tree_rules.specs.Check.{red_slot}
use Rattle.index_rules.specs.Live.{Live}
use Rattle.index_rules.specs.Index.{Index, length_of}
use Rattle.script_rules.specs.Letters.{letters}
use Rattle.script_rules.specs.Blanks.{says}
use Rattle.night_rules.specs.Account.{Account}
use Rattle.night_rules.specs.Breach.{Breach, stray_link, stray_state, left_hash, left_key, left_field, stray_root, stray_first, miscount}
use Rattle.night_rules.specs.Breach.{root_count}
use Rattle.night_rules.specs.Breach.{first_count, root_under, orphan, disowned, child_elsewhere, child_twice, off_root, falls, red_root}
use Rattle.night_rules.specs.Breach.{red_under}
use Rattle.night_rules.specs.Breach.{uneven, first_behind, prev_astray, next_astray, off_first, wrong_size, free_size}
use Rattle.night_rules.specs.Finding.{Finding, sound, broken, unfit, examined}
use Rattle.dump_rules.specs.Dump.{dump_size, Measure, whole, stub, slots_out, lines_out, short, long, measured, loaded}

-- For each way of breaking a rule a sentence.
unfoldable pub sentence : Breach → List ℕ
sentence (stray_link f x) = says "its % link # names no slot\n" (f ∷ (x ∷ []))
sentence (stray_state s) = says "its state is #\n" (s ∷ [])
sentence (left_hash v) = says "free, and its hash is #\n" (v ∷ [])
sentence (left_key v) = says "free, and its key is #\n" (v ∷ [])
sentence (left_field f v) = says "free, and its % is #\n" (f ∷ (v ∷ []))
sentence (stray_root x) = says "root # names no slot\n" (x ∷ [])
sentence (stray_first x) = says "first # names no slot\n" (x ∷ [])
sentence (miscount c u) = says "count #, and # slots are used\n" (c ∷ (u ∷ []))
sentence (root_count c x) = says "count #, and root is @\n" (c ∷ (x ∷ []))
sentence (first_count c x) = says "count #, and first is @\n" (c ∷ (x ∷ []))
sentence (root_under p) = says "the root, and its parent is #\n" (p ∷ [])
sentence orphan = letters "not the root, and it has no parent\n"
sentence (disowned p l r) = says "its parent # has the children @ and @\n" (p ∷ (l ∷ (r ∷ [])))
sentence (child_elsewhere f x p) = says "its % child # has the parent @\n" (f ∷ (x ∷ (p ∷ [])))
sentence (child_twice x) = says "both its children are #\n" (x ∷ [])
sentence (off_root x) = says "its parents do not lead to the root @\n" (x ∷ [])
sentence (falls h k g m j) = says "hash # key # is not below hash # key # of slot #, the next in order\n" (h ∷ (k ∷ (g ∷ (m ∷ (j ∷ [])))))
sentence red_root = letters "red, and the root\n"
sentence (red_under f x) = says "red, and so is its % child #\n" (f ∷ (x ∷ []))
sentence (uneven a b) = says "# black slots on a way by its left link, # on one by its right\n" (a ∷ (b ∷ []))
sentence (first_behind p) = says "first, and its prev is #\n" (p ∷ [])
sentence (prev_astray p x) = says "its prev # has the next @\n" (p ∷ (x ∷ []))
sentence (next_astray x p) = says "its next # has the prev @\n" (x ∷ (p ∷ []))
sentence (off_first x) = says "its prevs do not lead to first @\n" (x ∷ [])
sentence (wrong_size s m) = says "size #, and its subtree has # pairs\n" (s ∷ (m ∷ []))
sentence (free_size s) = says "free, and its size is #\n" (s ∷ [])

-- The rule, and the slot or the header.
unfoldable pub opening : ℕ → ℕ → List ℕ
opening rule slot = pick (eqb slot null) (says "T# header: " (rule ∷ (slot ∷ []))) (says "T# slot #: " (rule ∷ (slot ∷ [])))

-- A slot of a way "with its colour".
unfoldable pub step_text : List ℕ → ℕ → List ℕ
step_text cells i = pick (red_slot cells i) (says "# red" (i ∷ [])) (says "# black" (i ∷ []))

-- "slot by slot from the root": down to slot i, and on from the link i by left links.
unfoldable pub down_to : ℕ → List ℕ → ℕ → List ℕ
down_to zero cells i = step_text cells i
down_to (suc budget) cells i =
    let p = cell cells i parent in
    pick (eqb p null) (step_text cells i) (down_to budget cells p ++ (letters ", " ++ step_text cells i))

unfoldable pub onward : ℕ → List ℕ → ℕ → List ℕ
onward zero cells i = []
onward (suc budget) cells i =
    pick (eqb i null) [] (letters ", " ++ (step_text cells i ++ onward budget cells (cell cells i left)))

-- The way by slot i and its link along the field f.
unfoldable pub way_text : ℕ → List ℕ → ℕ → ℕ → List ℕ
way_text n cells i f = says "%: " (f ∷ []) ++ (down_to n cells i ++ (onward n cells (cell cells i f) ++ letters "\n"))

-- "for T6 a line for each way"
unfoldable pub both_ways : ℕ → List ℕ → ℕ → List ℕ
both_ways n cells i = way_text n cells i left ++ way_text n cells i right

-- The rule, the slot or the header, how it is broken, and of T6 the two ways.
unfoldable pub broken_text : ℕ → List ℕ → Account → Breach → List ℕ
broken_text n cells w b =
    opening w.rule w.slot ++ (sentence b ++ pick (eqb w.rule 6) (both_ways n cells w.slot) [])

abbrev pub finding_text : Live → Finding → List ℕ
finding_text t sound = letters "sound\n"
finding_text t (broken w b) = broken_text (slots_of t.names) t.cells w b
finding_text t unfit =
    says "unfit: # words of names, # of cells, # of head, # of sizes\n"
    (length t.names ∷ (length t.cells ∷ (length t.head ∷ (length t.sizes ∷ []))))

-- What is found of a tree.
unfoldable pub tree_text : Live → List ℕ
tree_text t = finding_text t (examined t)

-- A journal's length that passes its capacity makes an index unfit.
unfoldable pub index_text : ℕ → Index → List ℕ
index_text c ix =
    pick (leb (length_of ix.lines) c) (tree_text ix.live)
    (says "unfit: the journal's length # passes its # lines\n" (length_of ix.lines ∷ (c ∷ [])))

abbrev pub measure_text : List ℕ → Measure → List ℕ
measure_text l (whole n c) = index_text c (loaded n c l)
measure_text l (stub b) = says "short: # bytes, and a dump begins with 8\n" (b ∷ [])
measure_text l (slots_out n) = says "over the limits: # slots, and an index has 1 to 4096\n" (n ∷ [])
measure_text l (lines_out c) = says "over the limits: # lines, and a journal has at most 1024\n" (c ∷ [])
measure_text l (short b n c) =
    says "short: # bytes, and a dump of # slots and # lines has #\n" (b ∷ (n ∷ (c ∷ (dump_size n c ∷ []))))
measure_text l (long n c) = says "long: more bytes than the # of a dump of # slots and # lines\n" (dump_size n c ∷ (n ∷ (c ∷ [])))

-- What `./why` prints of the bytes.
unfoldable pub why_text : List ℕ → List ℕ
why_text l = measure_text l (measured l)
