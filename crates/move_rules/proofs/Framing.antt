-- What a bin holds is read from the words of its own slots and of its own header. So where these stay, it holds what it held, and a slot is
-- an entry of it afterwards exactly if it was one before.
use mathlib.Core.Path.{◌≡◌, refl, sym, subst, ◌∙◌}
use mathlib.Core.Logic.{◌≢◌}
use mathlib.Core.Bool.{true}
use mathlib.Core.List.{List, []}
use Prim.Native.Nat.{ℕ, ◌<◌, ◌≤◌}
use native.Mathlib.Omega.{arith}
use lib.Dec.{ltb}
use Rattle.slots.specs.Words.{null, state, parent, left, right, prev, next, fields, cell}
use Rattle.tree_rules.specs.Find.{slots_of}
use Rattle.tree_rules.specs.Tree.{Tree, slots, times, Rooted, Shaped}
use Rattle.tree_rules.specs.Chain.{Chain}
use Rattle.tree_rules.proofs.Counting.{times_head, times_rest, times_cases}
use Rattle.index_rules.proofs.Frames.{hangs_frame, chain_frame}
use Rattle.set_rules.specs.Words.{Set, Fit, root_at, first_at, count_at, Bin, empty, moved, bad, list, tree, bin_at}
use Rattle.set_rules.specs.Accepted.{BinThere, Listed, ended, onward, HeldIn, listed, grown, EntryOf, GoodList, GoodLists, GoodTrees}
use Rattle.set_rules.specs.Accepted.{ListSlot}
use Rattle.set_rules.specs.Whole.{Gives}
use Rattle.set_rules.proofs.Gathering.{holds_unique}
use Rattle.set_rules.specs.Accepted.{GoodChains}
use Rattle.set_rules.proofs.Lists.{listed_unique}
use Rattle.tree_rules.specs.Chain.{linked as chainLinked, ended as chainEnded}
use Rattle.move_rules.specs.Moving.{rewritten}

-- The slots of a bin in listing order: a list by next, a tree by its chain from first.
pub data BinLists (s : Set) : Bin → List ℕ → Type 0 where
  of_none : BinLists s empty []
  of_list : {a : ℕ} {l : List ℕ} → Listed (slots_of s.names) s.cells a l → BinLists s (list a) l
  of_tree : {h : ℕ} {l : List ℕ} → Listed (slots_of s.names) s.cells (first_at s h) l → BinLists s (tree h) l

-- It is what the walk has a bin give that is not Moved.
pub lists_gives : {s : Set} {k i : ℕ} {b : Bin} {l : List ℕ} → bin_at s k i ≡ b → BinLists s b l → Gives s k i l
lists_gives e of_none = Gives.of_none e
lists_gives e (of_list d) = Gives.of_list e d
lists_gives e (of_tree d) = Gives.of_tree e d

pub gives_lists : {s : Set} {k i : ℕ} {l : List ℕ} → Gives s k i l → bin_at s k i ≢ moved → BinLists s (bin_at s k i) l
gives_lists {s} (Gives.of_none e) n = subst (λ (b : Bin). BinLists s b []) (sym e) of_none
gives_lists {s} (Gives.of_list {l = l} e d) n = subst (λ (b : Bin). BinLists s b l) (sym e) (of_list d)
gives_lists {s} (Gives.of_tree {l = l} e d) n = subst (λ (b : Bin). BinLists s b l) (sym e) (of_tree d)
gives_lists (Gives.of_moved e c x y) n = absurd (n e)

-- From the cells c to d the slot x has all its words as they were.
abbrev pub Untouched : List ℕ → List ℕ → ℕ → Type 0
Untouched c d x = (f : ℕ) → ltb f fields ≡ true → cell d x f ≡ cell c x f

pub listed_frame : {n : ℕ} {c : List ℕ} {i : ℕ} {d l : List ℕ} → ((x : ℕ) → 1 ≤ times x l → Untouched c d x) → Listed n c i l
    → Listed n d i l
listed_frame w (ended e) = ended e
listed_frame w (onward {i} {l} b r) =
    onward {l = l} b (rw (w i (omega (arith, times_head i l)) next refl) (listed_frame (λ x m. w x (omega (arith, times_rest x i l))) r))

-- The same list where next stays.
pub listed_next : {n : ℕ} {c : List ℕ} {i : ℕ} {d l : List ℕ} → ((x : ℕ) → cell d x next ≡ cell c x next) → Listed n c i l → Listed n d i l
listed_next w (ended e) = ended e
listed_next w (onward {i} {l} b r) = onward {l = l} b (rw (w i) (listed_next w r))

pub listed_in : {n : ℕ} {cells : List ℕ} {i : ℕ} {l : List ℕ} → Listed n cells i l → (x : ℕ) → 1 ≤ times x l → x < n
unfolding times
listed_in (ended e) x z = absurd (omega arith)
listed_in (onward {i} {l} b r) x z = times_cases x i l z (λ e. omega arith) (λ y. listed_in r x y)

pub rooted_frame : {n root : ℕ} {c d : List ℕ} {t : Tree} → ((x : ℕ) → 1 ≤ times x (slots t) → Untouched c d x) → Rooted n c root t
    → Rooted n d root t
rooted_frame w r =
    record {
      from = r.from;
      hangs =
          hangs_frame
          (λ k m. record {
            states = w k m state refl;
            parents = w k m parent refl;
            lefts = w k m left refl;
            rights = w k m right refl;
          })
          r.hangs;
      once = r.once;
    }

pub linked_frame : {n q i : ℕ} {c d l : List ℕ} → ((x : ℕ) → 1 ≤ times x l → Untouched c d x) → Chain n c q i l → Chain n d q i l
linked_frame w r = chain_frame (λ k m. record { prevs = w k m prev refl; nexts = w k m next refl }) r

pub list_slot_frame : {c d : List ℕ} (x : ℕ) → Untouched c d x → ListSlot c x → ListSlot d x
list_slot_frame x w p =
    record {
      states = w state refl ∙ p.states;
      parents = w parent refl ∙ p.parents;
      lefts = w left refl ∙ p.lefts;
      rights = w right refl ∙ p.rights;
      prevs = w prev refl ∙ p.prevs;
    }

pub chain_listed : {n : ℕ} {cells : List ℕ} {q i : ℕ} {l : List ℕ} → Chain n cells q i l → Listed n cells i l
chain_listed (chainEnded e) = ended e
chain_listed (chainLinked w p c) = onward w (chain_listed c)

-- What a bin lists is what it holds, where its chain is good.
pub lists_own : (s : Set) → slots_of s.names ≤ null → GoodChains s → {k i : ℕ} → BinThere s k i → {b : Bin} {l : List ℕ} → bin_at s k i ≡ b
    → BinLists s b l → (x : ℕ) → 1 ≤ times x l → EntryOf s k i x
unfolding times
lists_own s few chains p e of_none x z = absurd (omega arith)
lists_own s few chains p {l = l} e (of_list d) x z =
    record { there = p; held = l; holds = subst (λ (c : Bin). HeldIn s c l) (sym e) (listed d); member = z }
lists_own s few chains {k} {i} p e (of_tree {h} {l} d) x z =
    let g = chains k i h p e in
    (g.own x).0 (subst (λ (v : List ℕ). 1 ≤ times x v) (listed_unique s few d (chain_listed g.linked)) z)

-- From the set s to t, which has other bins, headers and cells.
module _ (s : Set) (bins heads cells : List ℕ) where
  abbrev t : Set
  t = rewritten s bins heads cells

  pub there_over : {k i : ℕ} → BinThere s k i → BinThere t k i
  there_over p = record { table = p.table; index = p.index }

  pub there_back : {k i : ℕ} → BinThere t k i → BinThere s k i
  there_back p = record { table = p.table; index = p.index }

  -- The header h has the words that it had.
  pub record SameHeader (h : ℕ) : Type 0 where
    pub root : root_at t h ≡ root_at s h
    pub first : first_at t h ≡ first_at s h
    pub count : count_at t h ≡ count_at s h

  -- A bin's own slots and its header are left alone.
  pub record Left (b : Bin) : Type 0 where
    pub header : (h : ℕ) → b ≡ tree h → SameHeader h
    pub slots : {l : List ℕ} → HeldIn s b l → (x : ℕ) → 1 ≤ times x l → Untouched s.cells cells x

  pub held_frame : {b : Bin} {l : List ℕ} → Left b → HeldIn s b l → HeldIn t b l
  held_frame e (listed d) = listed (listed_frame (e.slots (listed d)) d)
  held_frame e (grown {h} {t = u} r) = grown {h = h} {t = u} (rw (e.header h refl).root (rooted_frame (e.slots (grown r)) r))

  -- A bin whose word stays, and that is left alone, has the entries that it had.
  module _ {k i : ℕ} (same : bin_at t k i ≡ bin_at s k i) (e : Left (bin_at s k i)) where
    pub entry-over : {x : ℕ} → EntryOf s k i x → EntryOf t k i x
    entry-over f =
        record {
          there = there_over f.there;
          held = f.held;
          holds = rw same (held_frame e f.holds);
          member = f.member;
        }

    -- Back, where its list or tree was good.
    module _ (fit : Fit t) (lists : GoodLists s) (trees : GoodTrees s) where
      good_held : BinThere s k i → (b : Bin) → bin_at s k i ≡ b → {l : List ℕ} → HeldIn t b l → (m : List ℕ) × HeldIn s b m
      good_held p (list a) q (listed d) = let g = lists k i a p q in (g.visits, listed g.ends)
      good_held p (tree h) q (grown d) = let g = trees k i h p q in (slots g.tree, grown g.rooted)
      good_held p empty q h = elim h [ ]
      good_held p moved q h = elim h [ ]
      good_held p bad q h = elim h [ ]

      pub entry_back : {x : ℕ} → EntryOf t k i x → EntryOf s k i x
      entry_back {x} f =
          let p = there_back f.there in
          let h : HeldIn t (bin_at s k i) f.held = rw same at f.holds in
          let g = good_held p (bin_at s k i) refl h in
          let z : f.held ≡ g.0 = holds_unique fit h (held_frame e g.1) in
          record { there = p; held = g.0; holds = g.1; member = rw z at f.member }

  pub good_list_frame : (a : ℕ) (g : GoodList s a) → ((x : ℕ) → 1 ≤ times x g.visits → Untouched s.cells cells x) → GoodList t a
  good_list_frame a g w =
      record {
        visits = g.visits;
        ends = listed_frame w g.ends;
        apart = g.apart;
        plain = λ x m. list_slot_frame x (w x m) (g.plain x m);
      }

  pub shaped_frame : (h : ℕ) (g : Shaped s.names s.cells (root_at s h) (count_at s h)) → SameHeader h
      → ((x : ℕ) → 1 ≤ times x (slots g.tree) → Untouched s.cells cells x)
      → Shaped s.names cells (root_at t h) (count_at t h)
  shaped_frame h g z w =
      rw (z.root, z.count)
      (record {
        tree = g.tree;
        rooted = rooted_frame w g.rooted;
        rising = g.rising;
        coloured = g.coloured;
        level = g.level;
        size = g.size;
      })

  pub lists_frame : {b : Bin} {l : List ℕ} → ((h : ℕ) → b ≡ tree h → SameHeader h)
      → ((x : ℕ) → 1 ≤ times x l → Untouched s.cells cells x)
      → BinLists s b l → BinLists t b l
  lists_frame e w of_none = of_none
  lists_frame e w (of_list d) = of_list (listed_frame w d)
  lists_frame e w (of_tree {h} {l} d) = of_tree {h = h} {l = l} (rw (e h refl).first (listed_frame w d))
