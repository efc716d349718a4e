-- Loose slots are laid into an empty bin below a Moved one: the set stays accepted but for the slots that are still loose. Every other bin
-- keeps its word, and its slots and its header are not written, since a loose slot is an entry of no bin and the new header had no root.
-- Parts: a bin that holds exactly the slots l, and what follows of its slots; what it is to lay slots as a bin; every other bin is left
-- alone, and an entry is one that was or laid; each clause of acceptance; the slots still loose, the entries, and what each bin lists.
use mathlib.Core.Path.{◌≡◌, refl, ap, sym, subst, ◌∙◌}
use mathlib.Core.Logic.{◌≢◌, ◌⊎◌, inl, inr, ◌↔◌}
use mathlib.Core.List.{List, []}
use Prim.Native.Nat.{ℕ, suc, ◌%◌, ◌<◌, ◌≤◌}
use native.Mathlib.Decide.{ℕ_discrete}
use native.Mathlib.Omega.{arith}
use lib.ListN.{length}
use Rattle.slots.specs.Words.{null, place, state, parent, left, right, prev, next, free, cell, name_of, hash_part, Colour, black, red, code}
use Rattle.tree_rules.specs.Check.{LinksNamed}
use Rattle.tree_rules.specs.Find.{slots_of}
use Rattle.tree_rules.specs.Tree.{slots, times, Shaped}
use Rattle.tree_rules.specs.Chain.{Chain}
use Rattle.tree_rules.proofs.Counting.{times_head, times_cases}
use Rattle.tree_rules.proofs.Reaching.{hangs_stand}
use Rattle.index_rules.specs.Sound.{Cleared}
use Rattle.index_rules.proofs.Building.{hangs_links, chain_links}
use Rattle.set_rules.specs.Words.{Set, Fit, length_at, headers_in, root_at, first_at, count_at}
use Rattle.set_rules.specs.Words.{Bin, empty, moved, bad, list, tree, bin_at, bini}
use Rattle.set_rules.specs.Accepted.{slotted, BinThere, Listed, ended, onward, HeldIn, listed, grown, EntryOf, NoneBad, SlotWords}
use Rattle.set_rules.specs.Accepted.{LastUnmoved}
use Rattle.set_rules.specs.Accepted.{ParentMoved, EntriesHome, HeadsOnce, GoodList, GoodLists, Headers, GoodTrees, GoodChain, GoodChains}
use Rattle.set_rules.specs.Accepted.{InOne}
use Rattle.set_rules.proofs.Fit.{small, length_least}
use native.Mathlib.Nat.{mod-lt}
use Rattle.set_rules.proofs.Gathering.{not-empty, holds_unique}
use Rattle.set_rules.proofs.Homes.{entry-only}
use Rattle.set_rules.proofs.Naming.{ranges}
use Rattle.move_rules.specs.Moving.{rewritten}
use Rattle.move_rules.proofs.Framing.{Untouched, there_over, there_back, SameHeader, Left, entry-over, entry_back, good_list_frame}
use Rattle.move_rules.proofs.Framing.{shaped_frame, linked_frame, chain_listed, lists_own, lists_frame}
use Rattle.move_rules.proofs.Framing.{BinLists, of_none, of_list, of_tree}
use Rattle.move_rules.proofs.Loose.{Loose}

pub empty_moved : empty ≢ moved
empty_moved e = let z : ◌≡◌ {A = ℕ} 0 1 = cc in omega arith

pub empty_bad : empty ≢ bad
empty_bad e = let z : ◌≡◌ {A = ℕ} 0 1 = cc in omega arith

pub empty_tree : {h : ℕ} → empty ≢ tree h
empty_tree e = let z : ◌≡◌ {A = ℕ} 0 1 = cc in omega arith

-- What a bin of the set t is that holds exactly the slots l.
pub data Sits (t : Set) (l : List ℕ) : Bin → Type 0 where
  nothing : l ≡ [] → Sits t l empty
  as_list : {a : ℕ} (g : GoodList t a) → g.visits ≡ l → 1 ≤ times a l → Sits t l (list a)
  as_tree : {h : ℕ} → root_at t h ≢ null → first_at t h ≢ null → (g : Shaped t.names t.cells (root_at t h) (count_at t h))
      → ((x : ℕ) → times x (slots g.tree) ≡ times x l) → Chain (slots_of t.names) t.cells null (first_at t h) l
      → length l ≡ count_at t h
      → Sits t l (tree h)

sits_unmoved : {t : Set} {l : List ℕ} {b : Bin} → Sits t l b → b ≢ moved
sits_unmoved (nothing e) p = empty_moved p
sits_unmoved (as_list g e m) p = let z : ◌≡◌ {A = ℕ} 0 1 = cc in omega arith
sits_unmoved (as_tree r f g c n d) p = let z : ◌≡◌ {A = ℕ} 0 1 = cc in omega arith

sits_good : {t : Set} {l : List ℕ} {b : Bin} → Sits t l b → b ≢ bad
sits_good (nothing e) p = empty_bad p
sits_good (as_list g e m) p = let z : ◌≡◌ {A = ℕ} 0 1 = cc in omega arith
sits_good (as_tree r f g c n d) p = let z : ◌≡◌ {A = ℕ} 0 1 = cc in omega arith

-- The words of slot x are those of an entry.
record Worded (n : ℕ) (cells : List ℕ) (x : ℕ) : Type 0 where
  states : cell cells x state ≤ 2
  busy : cell cells x state ≢ free
  links : LinksNamed n cells x

hue_words : {n : ℕ} {cells : List ℕ} {x : ℕ} (c : Colour) → cell cells x state ≡ code c → LinksNamed n cells x → Worded n cells x
hue_words black e l = record { states = omega arith; busy = omega arith; links = l }
hue_words red e l = record { states = omega arith; busy = omega arith; links = l }

pub list_links : {n : ℕ} {cells : List ℕ} {i : ℕ} {l : List ℕ} (x : ℕ) → Listed n cells i l → 1 ≤ times x l
    → (cell cells x next ≡ null) ⊎ (cell cells x next < n)
unfolding times
list_links x (ended e) m = absurd (omega arith)
list_links {n} {cells} x (onward {i} {l} b r) m = times_cases x i l m (λ e. rw e (head r)) (λ z. list_links x r z)
  where
    head : {j : ℕ} {k : List ℕ} → Listed n cells j k → (j ≡ null) ⊎ (j < n)
    head (ended e) = inl e
    head (onward c q) = inr c

sits_words : {t : Set} {l : List ℕ} {b : Bin} (x : ℕ) → Sits t l b → 1 ≤ times x l → Worded (slots_of t.names) t.cells x
unfolding times
sits_words x (nothing e) m = absurd (omega (arith, ap (times x) e))
sits_words x (as_list g e z) m =
    let y : 1 ≤ times x g.visits = rw e m in
    let p = g.plain x y in
    hue_words black p.states
    (record {
      parents = inl p.parents;
      lefts = inl p.lefts;
      rights = inl p.rights;
      prevs = inl p.prevs;
      nexts = list_links x g.ends y;
    })
sits_words {t} x (as_tree r f g c n d) m =
    let y : 1 ≤ times x (slots g.tree) = omega (arith, c x) in
    let w = hangs_stand (slots_of t.names) t.cells g.rooted.hangs y in
    let h = hangs_links x (inl refl) g.rooted.hangs y in
    let k = chain_links x (inl refl) n m in
    hue_words w.hue w.words.hued
    (record { parents = h.parents; lefts = h.lefts; rights = h.rights; prevs = k.0; nexts = k.1 })

sits_held : {t : Set} {l : List ℕ} {b : Bin} → Sits t l b → (x : ℕ) → 1 ≤ times x l → (m : List ℕ) × HeldIn t b m × (1 ≤ times x m)
unfolding times
sits_held (nothing e) x m = absurd (omega (arith, ap (times x) e))
sits_held (as_list g e z) x m = (g.visits, listed g.ends, rw e m)
sits_held (as_tree r f g c n d) x m = (slots g.tree, grown g.rooted, omega (arith, c x))

sits_only : {t : Set} {l m : List ℕ} {b : Bin} → Fit t → Sits t l b → HeldIn t b m → (x : ℕ) → 1 ≤ times x m → 1 ≤ times x l
sits_only fit (nothing e) h x z = absurd (not-empty h refl)
sits_only fit (as_list g e y) h x z = let q = holds_unique fit h (listed g.ends) in rw (← e) (rw q at z)
sits_only fit (as_tree r f g c n d) h x z =
    let q = holds_unique fit h (grown g.rooted) in
    let y : 1 ≤ times x (slots g.tree) = rw q at z in
    omega (arith, c x)

-- The head of a list that is a slot is one of its slots.
pub head_in : {n a : ℕ} {cells v : List ℕ} → Listed n cells a v → a < n → n ≤ null → 1 ≤ times a v
head_in (ended e) w z = absurd (omega arith)
head_in (onward {i} {l} c r) w z = omega (arith, times_head i l)

-- The parent of a bin.
pub parent_place : (s : Set) {bins heads cells : List ℕ} → Fit (rewritten s bins heads cells) → {m j : ℕ} → BinThere s (suc m) j
    → BinThere s m (j % length_at s m)
parent_place s fit {m} {j} p = record { table = omega (arith, p.table); index = mod-lt j (length_least fit m (omega (arith, p.table))) }

-- The slots l are laid as the bin b, which is bin i of table k, into the set s.
module _ (s : Set) (P : ℕ → Type 0) (k i : ℕ) (l : List ℕ) (b : Bin) (bins heads cells : List ℕ) where
  abbrev t : Set
  t = rewritten s bins heads cells

  pub record Lays : Type 0 where
    pub fit : Fit t
    pub loose : Loose s P
    pub spot : BinThere s k i
    pub was : bin_at s k i ≡ empty
    pub above : (j : ℕ) → k ≡ suc j → bin_at s j (i % length_at s j) ≡ moved
    pub pending : (x : ℕ) → 1 ≤ times x l → P x
    pub homes : (x : ℕ) → 1 ≤ times x l → bini (length_at s k) (name_of s.names x hash_part) ≡ i
    pub range : headers_in t ≡ headers_in s
    pub here : bin_at t k i ≡ b
    pub there : (m j : ℕ) → BinThere s m j → ((m ≡ k) × (j ≡ i) → ⊥) → bin_at t m j ≡ bin_at s m j
    pub spares : (x : ℕ) → times x l ≡ 0 → Untouched s.cells cells x
    pub headers : (h : ℕ) → b ≢ tree h → SameHeader s bins heads cells h
    pub blank : (h : ℕ) → b ≡ tree h → root_at s h ≡ null
    pub sits : Sits t l b

  module _ (g : Lays) where
    -- A bin is this one or another.
    which : {A : Type 0} (m j : ℕ) → ((m ≡ k) × (j ≡ i) → A) → (((m ≡ k) × (j ≡ i) → ⊥) → A) → A
    which {A} m j this that = go (ℕ_discrete m k) (ℕ_discrete j i)
      where
        go : Dec (m ≡ k) → Dec (j ≡ i) → A
        go (yes p) (yes q) = this (p, q)
        go (yes p) (no q) = that (λ z. q z.1)
        go (no p) q = that (λ z. p z.0)

    -- A bin that holds something, or is Moved, is another.
    full : (m j : ℕ) → bin_at s m j ≢ empty → (m ≡ k) × (j ≡ i) → ⊥
    full m j d z = d (ap (λ (y : ℕ). bin_at s y j) z.0 ∙ ap (λ (y : ℕ). bin_at s k y) z.1 ∙ g.was)

    -- A slot is laid or not.
    among : {A : Type 0} (x : ℕ) → (1 ≤ times x l → A) → (times x l ≡ 0 → A) → A
    among {A} x this that = go (ℕ_discrete (times x l) 0)
      where
        go : Dec (times x l ≡ 0) → A
        go (yes e) = that e
        go (no d) = this (omega arith)

    not_laid : (m j x : ℕ) → EntryOf s m j x → times x l ≡ 0
    not_laid m j x e = among x (λ z. absurd (g.loose.nowhere x (g.pending x z) m j e)) (λ z. z)

    -- Every other bin is left alone.
    kept : (m j : ℕ) → BinThere s m j → Left s bins heads cells (bin_at s m j)
    kept m j p =
        record {
          header = λ h e. g.headers h (λ f. g.loose.headers.roots m j h p e (g.blank h f));
          slots = λ {l = n} d x z. g.spares x (not_laid m j x (record { there = p; held = n; holds = d; member = z }));
        }

    over : (m j x : ℕ) → EntryOf s m j x → EntryOf t m j x
    over m j x e =
        let p = e.there in
        entry-over s bins heads cells (g.there m j p (full m j (not-empty e.holds))) (kept m j p) e

    back : (m j x : ℕ) → ((m ≡ k) × (j ≡ i) → ⊥) → EntryOf t m j x → EntryOf s m j x
    back m j x d e =
        let p = there_back s bins heads cells e.there in
        entry_back s bins heads cells (g.there m j p d) (kept m j p) g.fit g.loose.lists g.loose.trees e

    new : (x : ℕ) → 1 ≤ times x l → EntryOf t k i x
    new x z =
        let h = sits_held g.sits x z in
        record { there = there_over s bins heads cells g.spot; held = h.0; holds = rw g.here h.1; member = h.2 }

    new_only : (x : ℕ) → EntryOf t k i x → 1 ≤ times x l
    new_only x e = sits_only g.fit g.sits (rw g.here at e.holds) x e.member

    -- An entry is one that was, or laid.
    entry_cases : {A : Type 0} (m j x : ℕ) → EntryOf t m j x → (EntryOf s m j x → A) → ((m ≡ k) × (j ≡ i) × (1 ≤ times x l) → A) → A
    entry_cases m j x e old laid =
        which m j
        (λ z. (let f : EntryOf t k i x = subst (λ (y : ℕ). EntryOf t k y x) z.1 (subst (λ (y : ℕ). EntryOf t y j x) z.0 e) in
        laid (z.0, z.1, new_only x f)))
        (λ d. old (back m j x d e))

    at_here : (m j : ℕ) → (m ≡ k) × (j ≡ i) → bin_at t m j ≡ b
    at_here m j z = ap (λ (y : ℕ). bin_at t y j) z.0 ∙ ap (λ (y : ℕ). bin_at t k y) z.1 ∙ g.here

    none_bad : NoneBad t
    none_bad m j p e =
        which m j (λ z. sits_good g.sits (sym (at_here m j z) ∙ e))
        (λ d. (let q = there_back s bins heads cells p in g.loose.none_bad m j q (sym (g.there m j q d) ∙ e)))

    words : SlotWords t
    words =
        record {
          states =
              λ x n. among x (λ z. (sits_words x g.sits z).states) (λ z. rw (g.spares x z state refl) (g.loose.words.states x n));
          links = λ x n. among x (λ z. (sits_words x g.sits z).links) (λ z. old x z (g.loose.words.links x n));
        }
      where
        old : (x : ℕ) → times x l ≡ 0 → LinksNamed (slots_of s.names) s.cells x → LinksNamed (slots_of s.names) cells x
        old x z w =
            let u = g.spares x z in
            record {
              parents = rw (u parent refl) w.parents;
              lefts = rw (u left refl) w.lefts;
              rights = rw (u right refl) w.rights;
              prevs = rw (u prev refl) w.prevs;
              nexts = rw (u next refl) w.nexts;
            }

    last_unmoved : LastUnmoved t
    last_unmoved m j p f e =
        which m j (λ z. sits_unmoved g.sits (sym (at_here m j z) ∙ e))
        (λ d. (let q = there_back s bins heads cells p in g.loose.last_unmoved m j q f (sym (g.there m j q d) ∙ e)))

    parent_moved_lem : ParentMoved t
    parent_moved_lem m j p d =
        which (suc m) j (λ z. absurd (d (this z)))
        (λ n. g.there (suc m) j q n ∙ g.loose.parent_moved_lem m j q (λ e. d (still m (j % length_at s m) r e)))
      where
        q : BinThere s (suc m) j
        q = there_back s bins heads cells p

        r : BinThere s m (j % length_at s m)
        r = parent_place s g.fit q

        still : (a c : ℕ) → BinThere s a c → bin_at s a c ≡ moved → bin_at t a c ≡ moved
        still a c y e = g.there a c y (full a c (λ z. empty_moved (sym z ∙ e))) ∙ e

        this : (suc m ≡ k) × (j ≡ i) → bin_at t m (j % length_at s m) ≡ moved
        this z = still m (j % length_at s m) r (ap (λ (y : ℕ). bin_at s m (y % length_at s m)) z.1 ∙ g.above m (sym z.0))

    home : EntriesHome t
    home m j x e =
        entry_cases m j x e (λ f. g.loose.home m j x f)
        (λ z. ap (λ (y : ℕ). bini (length_at s y) (name_of s.names x hash_part)) z.0 ∙ g.homes x z.2 ∙ sym z.1)

    heads_once : HeadsOnce t
    heads_once =
        record {
          lists =
              λ m j n h a p q e f. which m j
              (λ y. which n h (λ z. (y.0 ∙ sym z.0, y.1 ∙ sym z.1))
              (λ z. absurd (clash_list n h a (over_back q) (sym (g.there n h (over_back q) z) ∙ f) (sym (at_here m j y) ∙ e))))
              (λ y. which n h
              (λ z. absurd (clash_list m j a (over_back p) (sym (g.there m j (over_back p) y) ∙ e) (sym (at_here n h z) ∙ f)))
              (λ z. g.loose.heads.lists m j n h a (over_back p) (over_back q) (sym (g.there m j (over_back p) y) ∙ e)
              (sym (g.there n h (over_back q) z) ∙ f)));
          trees =
              λ m j n h a p q e f. which m j
              (λ y. which n h (λ z. (y.0 ∙ sym z.0, y.1 ∙ sym z.1))
              (λ z. absurd (clash_tree n h a (over_back q) (sym (g.there n h (over_back q) z) ∙ f) (sym (at_here m j y) ∙ e))))
              (λ y. which n h
              (λ z. absurd (clash_tree m j a (over_back p) (sym (g.there m j (over_back p) y) ∙ e) (sym (at_here n h z) ∙ f)))
              (λ z. g.loose.heads.trees m j n h a (over_back p) (over_back q) (sym (g.there m j (over_back p) y) ∙ e)
              (sym (g.there n h (over_back q) z) ∙ f)));
        }
      where
        over_back : {m j : ℕ} → BinThere t m j → BinThere s m j
        over_back p = there_back s bins heads cells p

        -- a list's head is an entry of its bin, so no loose slot
        clash_list : (m j a : ℕ) → BinThere s m j → bin_at s m j ≡ list a → b ≡ list a → ⊥
        clash_list m j a p e f = sits_head (rw f at g.sits)
          where
            sits_head : Sits t l (list a) → ⊥
            sits_head (as_list w z y) =
                let v = g.loose.lists m j a p e in
                let inside : a < slots_of s.names = (((ranges (slots_of s.names) (headers_in s) _).lists a).0 e).3 in
                g.loose.nowhere a (g.pending a y) m j
                (record {
                  there = p;
                  held = v.visits;
                  holds = rw e (listed v.ends);
                  member = head_in v.ends inside (small g.fit);
                })

        clash_tree : (m j h : ℕ) → BinThere s m j → bin_at s m j ≡ tree h → b ≡ tree h → ⊥
        clash_tree m j h p e f = g.loose.headers.roots m j h p e (g.blank h f)

    old_place : {m j : ℕ} → BinThere t m j → BinThere s m j
    old_place p = there_back s bins heads cells p

    -- What every other bin holds is an entry of it, so its words stay.
    held_still : (m j : ℕ) → BinThere s m j → {c : Bin} {v : List ℕ} → bin_at s m j ≡ c → HeldIn s c v → (x : ℕ) → 1 ≤ times x v
        → Untouched s.cells cells x
    held_still m j p {c} {v} e d x z = (kept m j p).slots (subst (λ (y : Bin). HeldIn s y v) (sym e) d) x z

    lists : GoodLists t
    lists m j a p e = which m j this that
      where
        own : Sits t l (list a) → GoodList t a
        own (as_list w z y) = w

        this : (m ≡ k) × (j ≡ i) → GoodList t a
        this z = own (rw (sym (at_here m j z) ∙ e) at g.sits)

        that : ((m ≡ k) × (j ≡ i) → ⊥) → GoodList t a
        that d =
            let q = old_place p in
            let f : bin_at s m j ≡ list a = sym (g.there m j q d) ∙ e in
            let v = g.loose.lists m j a q f in
            good_list_frame s bins heads cells a v (held_still m j q f (listed v.ends))

    named_else : (m j h : ℕ) → BinThere s m j → bin_at s m j ≡ tree h → SameHeader s bins heads cells h
    named_else m j h p e = (kept m j p).header h e

    headers : Headers t
    headers =
        record {
          roots = λ m j h p e. which m j
              (λ z. own_root (rw (sym (at_here m j z) ∙ e) at g.sits))
              (λ d. (let q = old_place p in
              let f = sym (g.there m j q d) ∙ e in
              rw (named_else m j h q f).root (g.loose.headers.roots m j h q f)));
          firsts = λ m j h p e. which m j
              (λ z. own_first (rw (sym (at_here m j z) ∙ e) at g.sits))
              (λ d. (let q = old_place p in
              let f = sym (g.there m j q d) ∙ e in
              rw (named_else m j h q f).first (g.loose.headers.firsts m j h q f)));
          other_root = λ h w n. (same h n).root ∙ g.loose.headers.other_root h (rw g.range at w) (unnamed h n);
          other_first = λ h w n. (same h n).first ∙ g.loose.headers.other_first h (rw g.range at w) (unnamed h n);
          other-count = λ h w n. (same h n).count ∙ g.loose.headers.other-count h (rw g.range at w) (unnamed h n);
        }
      where
        own_root : {h : ℕ} → Sits t l (tree h) → root_at t h ≢ null
        own_root (as_tree r f w c n d) = r

        own_first : {h : ℕ} → Sits t l (tree h) → first_at t h ≢ null
        own_first (as_tree r f w c n d) = f

        same : (h : ℕ) → ((m j : ℕ) → BinThere t m j → bin_at t m j ≢ tree h) → SameHeader s bins heads cells h
        same h n = g.headers h (λ e. n k i (there_over s bins heads cells g.spot) (g.here ∙ e))

        unnamed : (h : ℕ) → ((m j : ℕ) → BinThere t m j → bin_at t m j ≢ tree h) → (m j : ℕ) → BinThere s m j → bin_at s m j ≢ tree h
        unnamed h n m j p e =
            n m j (there_over s bins heads cells p) (g.there m j p (full m j (λ z. empty_tree (sym z ∙ e))) ∙ e)

    trees : GoodTrees t
    trees m j h p e = which m j this that
      where
        own : Sits t l (tree h) → Shaped t.names t.cells (root_at t h) (count_at t h)
        own (as_tree r f w c n d) = w

        this : (m ≡ k) × (j ≡ i) → Shaped t.names t.cells (root_at t h) (count_at t h)
        this z = own (rw (sym (at_here m j z) ∙ e) at g.sits)

        that : ((m ≡ k) × (j ≡ i) → ⊥) → Shaped t.names t.cells (root_at t h) (count_at t h)
        that d =
            let q = old_place p in
            let f : bin_at s m j ≡ tree h = sym (g.there m j q d) ∙ e in
            let v = g.loose.trees m j h q f in
            shaped_frame s bins heads cells h v (named_else m j h q f) (held_still m j q f (grown v.rooted))

    chains : GoodChains t
    chains m j h p e = which m j this that
      where
        own : (m ≡ k) × (j ≡ i) → Sits t l (tree h) → GoodChain t m j h
        own z (as_tree r f w c n d) =
            record {
              visits = l;
              linked = n;
              count = d;
              own = λ x. (
                λ y. subst (λ (a : ℕ). EntryOf t m a x) (sym z.1) (subst (λ (a : ℕ). EntryOf t a i x) (sym z.0) (new x y)),
                λ y. new_only x (subst (λ (a : ℕ). EntryOf t k a x) z.1 (subst (λ (a : ℕ). EntryOf t a j x) z.0 y)),
              );
            }

        this : (m ≡ k) × (j ≡ i) → GoodChain t m j h
        this z = own z (rw (sym (at_here m j z) ∙ e) at g.sits)

        that : ((m ≡ k) × (j ≡ i) → ⊥) → GoodChain t m j h
        that d =
            let q = old_place p in
            let f : bin_at s m j ≡ tree h = sym (g.there m j q d) ∙ e in
            let v = g.loose.chains m j h q f in
            let y = named_else m j h q f in
            record {
              visits = v.visits;
              linked =
                  rw y.first (linked_frame (λ x z. g.spares x (not_laid m j x ((v.own x).0 z))) v.linked);
              count = v.count ∙ sym y.count;
              own = λ x. (λ z. over m j x ((v.own x).0 z), λ z. (v.own x).1 (back m j x d z));
            }

    one_of : (m j x : ℕ) → EntryOf t m j x → InOne t x
    one_of m j x e =
        record { table = m; index = j; entry = e; only = λ n h f. entry-only g.fit parent_moved_lem home f e }

    used : (x : ℕ) → x < slots_of s.names → cell cells x state ≢ free → InOne t x ⊎ (P x × (times x l ≡ 0))
    used x n d =
        among x (λ z. inl (one_of k i x (new x z)))
        (λ z. go z (g.loose.used x n (λ e. d (g.spares x z state refl ∙ e))))
      where
        go : times x l ≡ 0 → InOne s x ⊎ P x → InOne t x ⊎ (P x × (times x l ≡ 0))
        go z (inl o) = inl (one_of o.table o.index x (over o.table o.index x o.entry))
        go z (inr p) = inr (p, z)

    cleared : (x : ℕ) → x < slots_of s.names → cell cells x state ≡ free → Cleared (slotted t) x
    cleared x n e =
        among x (λ z. absurd ((sits_words x g.sits z).busy e))
        (λ z. (let u = g.spares x z in
        let c = g.loose.cleared x n (sym (u state refl) ∙ e) in
        record {
          hash = c.hash;
          key = c.key;
          placed = u place refl ∙ c.placed;
          parents = u parent refl ∙ c.parents;
          lefts = u left refl ∙ c.lefts;
          rights = u right refl ∙ c.rights;
          prevs = u prev refl ∙ c.prevs;
          nexts = u next refl ∙ c.nexts;
        }))

    -- The slots that were loose and are not laid are loose still.
    pub laid_loose : Loose t (λ x. P x × (times x l ≡ 0))
    laid_loose =
        record {
          none_bad = none_bad;
          words = words;
          last_unmoved = last_unmoved;
          parent_moved_lem = parent_moved_lem;
          home = home;
          heads = heads_once;
          lists = lists;
          headers = headers;
          trees = trees;
          chains = chains;
          used = used;
          cleared = cleared;
          inside = λ x p. g.loose.inside x p.0;
          busy = λ x p e. g.loose.busy x p.0 (sym (g.spares x p.1 state refl) ∙ e);
          nowhere = λ x p m j e. entry_cases m j x e (λ f. g.loose.nowhere x p.0 m j f) (λ z. omega (arith, z.2, p.1));
        }

    -- The entries afterwards: those that were, and the slots laid.
    pub laid_entries : (m j x : ℕ) → EntryOf t m j x ↔ (EntryOf s m j x ⊎ ((m ≡ k) × (j ≡ i) × (1 ≤ times x l)))
    laid_entries m j x = (λ e. entry_cases m j x e (λ f. inl f) (λ z. inr z), go)
      where
        go : EntryOf s m j x ⊎ ((m ≡ k) × (j ≡ i) × (1 ≤ times x l)) → EntryOf t m j x
        go (inl f) = over m j x f
        go (inr z) =
            subst (λ (a : ℕ). EntryOf t m a x) (sym z.1) (subst (λ (a : ℕ). EntryOf t a i x) (sym z.0) (new x z.2))

    -- What another bin lists.
    pub laid_lists : (m j : ℕ) → BinThere s m j → ((m ≡ k) × (j ≡ i) → ⊥) → {v : List ℕ} → BinLists s (bin_at s m j) v
        → BinLists t (bin_at t m j) v
    laid_lists m j p d {v} w =
        rw (g.there m j p d)
        (lists_frame s bins heads cells (kept m j p).header
        (λ x z. g.spares x (not_laid m j x (lists_own s (small g.fit) g.loose.chains p refl w x z))) w)

-- What the bin lists that was laid.
pub sits_lists : {t : Set} {l : List ℕ} {b : Bin} → Sits t l b → BinLists t b l
sits_lists {t} (nothing e) = subst (λ (v : List ℕ). BinLists t empty v) (sym e) of_none
sits_lists {t} (as_list {a} g e m) = of_list (subst (λ (v : List ℕ). Listed (slots_of t.names) t.cells a v) e g.ends)
sits_lists (as_tree r f g c n d) = of_tree (chain_listed n)
