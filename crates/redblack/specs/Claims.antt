-- What crate `redblack` proves of its models, in one record. Every statement of the crate stands here.
use Rattle.std.specs.Prelude.{◌≡◌, ◌≢◌, ◌⊎◌, ◌↔◌, List, [], ◌∷◌, true, ℕ, suc, ◌*◌, ◌<◌, ◌≤◌, length}
use Rattle.slots.specs.Words.{null, place, state, parent, left, right, prev, next, Colour, black, red, code, Side, other, toward}
use Rattle.slots.specs.Words.{leftward, rightward}
use Rattle.slots.specs.Pairs.{pair, pair_of}
use Rattle.redblack.specs.Links.{Links, read, painted, is_red, done}
use Rattle.redblack.specs.Rotate.{rotated}
use Rattle.redblack.specs.Insertion.{insertion_turn, balanced_insertion}
use Rattle.redblack.specs.Deletion.{deletion_turn, balanced_deletion}
use Rattle.redblack.specs.Removal.{traded, dropped, leftmost, removed}
use Rattle.redblack.specs.Source.{memory, rotate_left, rotate_right, insertion_body, balance_insertion, deletion_body}
use Rattle.redblack.specs.Source.{balance_deletion, WildMemory, flow}
use Rattle.redblack.specs.Driver.{smallest, trade}
use Rattle.redblack.specs.Hanging.{spotted, inserted}
use Rattle.tree_rules.specs.Tree.{Tree, slots, Rising, Meets, NextInOrder}
use Rattle.redblack.specs.Sided.{Sided, bare, fork, Frame, Way, plug, slots as listed, Site}
use Rattle.redblack.specs.Balance.{RedBlack, Wants, Mended, OneFewer, crown}
use Rattle.redblack.specs.Sizes.{SizedTree}
use Rattle.redblack.specs.Kept.{Aside, Keeps, Agree, Absent}
use Rattle.redblack.specs.Holding.{Holds, RedBlackTree, Stands, Fresh, Has, Hung, switched, depth, plain}

-- What the theory's words say in plain ones. `plain` gives the plain tree that a sided one names,
-- and a place in a tree is a view of the whole.
pub record PlainWords : Type 0 where
  -- every plain tree has such a name
  pub named : (t : Tree) → (u : Sided) × (plain u ≡ t)
  -- the slots "read left, self, right" are the same list
  pub order : (t : Sided) → listed t ≡ slots (plain t)
  -- the links hold t at the end of the way C exactly where they hold the whole
  pub held : (n : ℕ) (s : Links) (C : Way) (t : Sided) → Site n s C t ↔ Holds n s (plain (plug C t))
  -- red-black is T5 and T6
  pub balanced : (t : Sided) → ((h : ℕ) × RedBlack black h t) ↔ RedBlackTree (plain t)
  -- its height is the number of black slots that a way down meets
  pub height : (t : Sided) (h : ℕ) → RedBlack black h t ↔ (RedBlackTree (plain t) × Meets (plain t) h)
  -- a way wants a black part of height h exactly where the whole with such a part is red-black
  pub wants : (C : Way) (t : Sided) (h : ℕ) → RedBlack black h t → ((c : Colour) × Wants h c C) ↔ RedBlackTree (plain (plug C t))
  -- a slot is absent where it is none of the tree's
  pub absent : (j : ℕ) (t : Sided) → Absent j t ↔ ((j ≢ null) × Fresh j (plain t))
  -- the fields that a routine of a tree leaves alone are place, prev and next
  pub asides : (f : ℕ) → Aside f ↔ ((f ≡ place) ⊎ ((f ≡ prev) ⊎ (f ≡ next)))

-- rotate_left is `spun leftward`, rotate_right `spun rightward`: p goes down on the side σ, its child on the other side comes up.
abbrev pub spun : Side → Links → ℕ → Links
spun σ s p = rotated (toward σ) (toward (other σ)) s p

-- The rotations, once over the side.
pub record Rotates (σ : Side) (s : Links) (p : ℕ) : Type 0 where
  -- the child r stands in p's place with p below it, r's inner subtree b is p's now, and all else of the tree is as it was;
  -- r keeps its colour, but at the root's place it is black
  pub held : {n : ℕ} {C : Way} {cp cr : Colour} {a b d : Sided} {r : ℕ} → Site n s C (fork σ cp a p (fork σ cr b r d))
      → Site n (spun σ s p) C (fork σ (crown C cr) (fork σ cp a p b) r d)
  -- the slots in order are the same list
  pub order : (C : Way) (cp cr : Colour) (a b d : Sided) (r : ℕ)
      → listed (plug C (fork σ (crown C cr) (fork σ cp a p b) r d)) ≡ listed (plug C (fork σ cp a p (fork σ cr b r d)))
  -- a slot that stands nowhere in the tree keeps all its words
  pub spares : {n j : ℕ} {C : Way} {c : Colour} {a b : Sided} → Site n s C (fork σ c a p b) → Absent j (plug C (fork σ c a p b))
      → Agree s (spun σ s p) j
  -- place, prev and next of every slot are as they were, on any words
  pub keeps : (f : ℕ) → Aside f → Keeps f s (spun σ s p)
  -- "p null .. returns root", on any words
  pub no_slot : p ≡ null → spun σ s p ≡ s
  -- "or the needed child null"
  pub no_child_lem : read s p (toward (other σ)) ≡ null → spun σ s p ≡ s
  -- "a child that becomes root is painted black"
  pub crowned : {n : ℕ} {cp cr : Colour} {a b d : Sided} {r : ℕ} → Site n s [] (fork σ cp a p (fork σ cr b r d))
      → ((spun σ s p).root ≡ r) × (read (spun σ s p) r state ≡ code black)

-- The models are the source's routines, whose text specs/Source.antt has: the same words and the same root, on any words, from any slot,
-- and for as many turns of a loop. The sizes, which the source has not, are left aside.
-- Whatever a load and a store behind null would come to: so the text does neither, but where it is asked to insert null.
pub record AsSource (wild : WildMemory) (s : Links) : Type 0 where
  pub left_rotation : (p : ℕ) → memory (spun leftward s p) ≡ rotate_left wild (memory s) p
  pub right_rotation : (p : ℕ) → memory (spun rightward s p) ≡ rotate_right wild (memory s) p
  -- a turn of each loop, and the whole
  pub insertion_turn_lem : (x : ℕ) → x ≢ null → flow (insertion_turn s x) ≡ insertion_body wild (memory s) x
  pub insertion : (turns x : ℕ) → x ≢ null → memory (balanced_insertion turns s x) ≡ balance_insertion wild turns (memory s) x
  pub deletion_turn_lem : (x : ℕ) → flow (deletion_turn s x) ≡ deletion_body wild (memory s) x
  pub deletion : (turns x : ℕ) → memory (balanced_deletion turns s x) ≡ balance_deletion wild turns (memory s) x
  -- the successor and the trade of the published crate's remove_tree_node, whose text specs/Driver.antt has
  pub successor : (turns q : ℕ) → q ≢ null → leftmost turns s q ≡ smallest wild turns (memory s) q
  pub trading : (p t : ℕ) → p ≢ null → t ≢ null → memory (traded s p t) ≡ trade wild (memory s) p (read s p left) (read s p right) t

-- balance_insertion after the slot x was hung in a red-black tree t, which made it t'.
pub record BalancesInsertion (n budget : ℕ) (s : Links) (x : ℕ) : Type 0 where
  -- "hangs it where the order says .. then balances": the tree is red-black again, and its slots in order are the same list
  pub mends : (t t' : Tree) → RedBlackTree t → Hung x t t' → Holds n (painted s x red) t' → depth t' ≤ budget
      → (u : Tree) × Holds n (balanced_insertion budget s x) u × RedBlackTree u × (slots u ≡ slots t')
  -- the capacity is budget enough
  pub enough : (t : Tree) → Holds n s t → depth t ≤ n
  -- a slot that stands nowhere in the tree keeps all its words
  pub spares : {j : ℕ} {σ : Side} {C : Way} {c : Colour} {a b : Sided} → Site n s C (fork σ c a x b) → Absent j (plug C (fork σ c a x b))
      → Agree s (balanced_insertion budget s x) j
  -- place, prev and next of every slot are as they were, on any words
  pub keeps : (f : ℕ) → Aside f → Keeps f s (balanced_insertion budget s x)

-- balance_deletion from the slot x, whose subtree t stands at the end of the way C and has one black less than C wants.
-- g stands in for t: it is what t counts as once the driver is done. "The one child takes the slot's position": the replacement stays,
-- and g is t itself.
-- "Or the slot stands as its own replacement": it is detached afterwards, and g is bare, so that the tree is red-black without it.
pub record BalancesDeletion (n budget : ℕ) (s : Links) (x : ℕ) : Type 0 where
  -- t stands unchanged at the end of a new way, with g in its place the whole is red-black,
  -- and every tree there has the neighbours that it had
  pub mends : {σ : Side} {C : Way} {h : ℕ} {c : Colour} {a b g : Sided} → Wants (suc h) c C → RedBlack black h g
      → Site n s C (fork σ black a x b) → length C < budget → Mended n (balanced_deletion budget s x) C (fork σ black a x b) g
  -- a replacement that stays: the tree is red-black, and its slots in order are the same list
  pub staying : {σ : Side} {C : Way} {h : ℕ} {c : Colour} {a b : Sided} → Wants (suc h) c C → RedBlack black h (fork σ black a x b)
      → Site n s C (fork σ black a x b) → length C < budget
      → (u : Tree) × Holds n (balanced_deletion budget s x) u × RedBlackTree u × (slots u ≡ listed (plug C (fork σ black a x b)))
  -- its own replacement, a black slot without children: the tree is red-black with nothing in its place
  pub going : {σ : Side} {C : Way} {c : Colour} → Wants 1 c C → Site n s C (fork σ black bare x bare) → length C < budget
      → Mended n (balanced_deletion budget s x) C (fork σ black bare x bare) bare
  -- a red replacement below the root, which in a red-black tree the one child is, is painted black, and no other word changes
  pub blackened : {σ : Side} {f : Frame} {C : Way} {a b : Sided} → Site n s (f ∷ C) (fork σ red a x b) → 0 < budget
      → balanced_deletion budget s x ≡ painted s x black
  -- the capacity is budget enough
  pub enough : {σ : Side} {C : Way} {c : Colour} {a b : Sided} → Site n s C (fork σ c a x b) → length C < n
  -- a slot that stands nowhere in the tree keeps all its words
  pub spares : {j : ℕ} {σ : Side} {C : Way} {c : Colour} {a b : Sided} → Site n s C (fork σ c a x b) → Absent j (plug C (fork σ c a x b))
      → Agree s (balanced_deletion budget s x) j
  -- place, prev and next of every slot are as they were, on any words
  pub keeps : (f : ℕ) → Aside f → Keeps f s (balanced_deletion budget s x)

-- "Remove": the slot p leaves the tree t. Its chain and its own words are the live tree's.
pub record RemovesSlot (n budget : ℕ) (s : Links) (t : Tree) (p : ℕ) : Type 0 where
  -- the tree is red-black again, and its slots in order are those of t without p
  pub removes : Holds n s t → RedBlackTree t → Stands p t → n ≤ budget
      → (u : Tree) × Holds n (removed budget s p) u × RedBlackTree u × OneFewer p (slots t) (slots u)
  -- "With two children, successor and slot trade positions and colours": before all else, with the next of the slots in order;
  -- the links hold t with the two in each other's place then, and every place keeps its colour
  pub trades : Holds n s t → RedBlackTree t → Stands p t → read s p left ≢ null → read s p right ≢ null → n ≤ budget
      → (q : ℕ) × NextInOrder p q (slots t) × Holds n (traded s p q) (switched p q t)
      × (removed budget s p ≡ dropped budget (traded s p q) p)
  -- without two children there is no trade, on any words
  pub no_left : read s p left ≡ null → removed budget s p ≡ dropped budget s p
  pub no_right : read s p right ≡ null → removed budget s p ≡ dropped budget s p
  -- a slot that stands nowhere in the tree keeps all its words
  pub spares : Holds n s t → RedBlackTree t → Stands p t → (j : ℕ) → Fresh j t → Agree s (removed budget s p) j
  -- place, prev and next of every slot are as they were, on any words
  pub keeps : (f : ℕ) → Aside f → Keeps f s (removed budget s p)

-- "Insert .. hangs it where the order says .. then balances": the slot x, whose pair no slot of the tree t has, joins it.
pub record HangsSlot (n budget : ℕ) (names : List ℕ) (s : Links) (t : Tree) (x hash key : ℕ) : Type 0 where
  -- the tree is red-black again, its pairs strictly rise, and its slots in order are those of t with x among them
  pub hangs : Holds n s t → RedBlackTree t → Rising names (slots t) → (Has names t hash key → ⊥) → x < n → Fresh x t
      → pair_of names x ≡ pair hash key → n ≤ budget
      → (u : Tree) × Holds n (inserted budget s x (spotted budget names s hash key)) u × RedBlackTree u × Rising names (slots u)
      × OneFewer x (slots u) (slots t)
  -- another slot that stands nowhere in the tree keeps all its words
  pub spares : Holds n s t → RedBlackTree t → Rising names (slots t) → (Has names t hash key → ⊥) → x < n → Fresh x t → n ≤ budget
      → (j : ℕ) → j ≢ x → Fresh j t → Agree s (inserted budget s x (spotted budget names s hash key)) j
  -- place, prev and next of every slot are as they were, on any words
  pub keeps : (f : ℕ) → Aside f → Keeps f s (inserted budget s x (spotted budget names s hash key))

-- The stored sizes: where they are those of the tree t that the links hold,
-- they are afterwards those of the tree u that the links hold then.
-- That there is such a tree the claims above say.
pub record KeepsSizes (n budget : ℕ) (s : Links) (t : Tree) : Type 0 where
  -- a rotation and both balancings, on any tree, red-black or not
  pub rotation : Holds n s t → SizedTree n s t → (σ : Side) (p : ℕ) → Stands p t → (u : Tree) → Holds n (spun σ s p) u
      → SizedTree n (spun σ s p) u
  pub insertion : (x : ℕ) → Holds n (painted s x red) t → SizedTree n s t → Stands x t → (u : Tree)
      → Holds n (balanced_insertion budget s x) u → SizedTree n (balanced_insertion budget s x) u
  pub deletion : (x : ℕ) → Holds n s t → SizedTree n s t → Stands x t → (u : Tree) → Holds n (balanced_deletion budget s x) u
      → SizedTree n (balanced_deletion budget s x) u
  -- the slot p leaves a red-black tree, and its own size is 0 then
  pub removal : (p : ℕ) → Holds n s t → RedBlackTree t → SizedTree n s t → Stands p t → n ≤ budget → (u : Tree)
      → Holds n (removed budget s p) u → SizedTree n (removed budget s p) u
  -- the slot x, whose pair no slot of the tree has, joins it
  pub hanging : (names : List ℕ) (x hash key : ℕ) → Holds n s t → RedBlackTree t → SizedTree n s t → Rising names (slots t)
      → (Has names t hash key → ⊥) → x < n → Fresh x t → n ≤ budget
      → (u : Tree) → Holds n (inserted budget s x (spotted budget names s hash key)) u
      → SizedTree n (inserted budget s x (spotted budget names s hash key)) u

-- The two traps in the text of the balancing, of the models, on any words.
pub record Traps (s : Links) : Type 0 where
  -- "balance_deletion returns at x == root before looking at colour."
  pub at_root : deletion_turn s s.root ≡ done s
  -- "A driver that trusts it leaves a red root": the words are as they were, and so a red root stays red
  pub as_it_was : (budget : ℕ) → balanced_deletion budget s s.root ≡ s
  pub root_stays_red : (budget : ℕ) → is_red s s.root ≡ true → is_red (balanced_deletion budget s s.root) s.root ≡ true
  -- "balance_insertion, whose grandparent test is then null, keeps red under red": below a red slot with no parent it paints x red,
  -- and that is all
  pub no_grandparent : (x : ℕ) → read s x parent ≢ null → is_red s (read s x parent) ≡ true → read s (read s x parent) parent ≡ null
      → insertion_turn s x ≡ done s
  pub red_under_red : (budget x : ℕ) → read s x parent ≢ null → is_red s (read s x parent) ≡ true → read s (read s x parent) parent ≡ null
      → (balanced_insertion budget s x ≡ painted s x red) × (is_red (painted s x red) (read s x parent) ≡ true)

pub record Claims : Type 0 where
  pub plain_words : PlainWords
  pub rotates : (σ : Side) (s : Links) (p : ℕ) → Rotates σ s p
  -- where slot null has no word: 4,294,967,295 slots and less
  pub as_source : (wild : WildMemory) (s : Links) → length s.cells ≤ 7 * null → AsSource wild s
  pub balances_insertion : (n budget : ℕ) (s : Links) (x : ℕ) → BalancesInsertion n budget s x
  pub balances_deletion : (n budget : ℕ) (s : Links) (x : ℕ) → BalancesDeletion n budget s x
  pub removes_slot : (n budget : ℕ) (s : Links) (t : Tree) (p : ℕ) → RemovesSlot n budget s t p
  pub hangs_slot : (n budget : ℕ) (names : List ℕ) (s : Links) (t : Tree) (x hash key : ℕ) → HangsSlot n budget names s t x hash key
  pub keeps_sizes : (n budget : ℕ) (s : Links) (t : Tree) → KeepsSizes n budget s t
  pub traps : (s : Links) → Traps s
