-- The check says yes exactly of accepted sets. From its walk come the slots that the bins hold: each is used, stands once, and they are as
-- many as the used ones, so they are the used ones. The other way, the clauses build what the walk finds, and by the same counting its
-- budget is enough.
-- Parts: what the walk says of each bin; the clauses on parents, homes, lists, trees and headers; a used slot is one that the bins hold;
-- the chain of a tree has its slots; a yes means accepted; from the clauses, what the walk finds bin by bin; accepted means a yes.
use mathlib.Core.Path.{◌≡◌, refl, ap, sym, ◌∙◌}
use mathlib.Core.Logic.{◌≢◌, ◌⊎◌, inl, inr}
use mathlib.Core.Bool.{Bool, true, false, false≢true}
use mathlib.Core.List.{List, [], ◌++◌}
use Prim.Native.Nat.{ℕ, zero, suc, ◌+◌, ◌-◌, ◌%◌, ◌<◌, ◌≤◌}
use native.Mathlib.Decide.{ℕ_discrete, dec_le}
use native.Mathlib.Nat.{mod-lt}
use native.Mathlib.Omega.{arith}
use lib.ListN.{length}
use borrow.Author.Tests.{eq-eqb, ne_eqb}
use Rattle.slots.specs.Words.{null, state, free, cell, name_of, hash_part, Colour, black, red, code}
use Rattle.tree_rules.specs.Tree.{Tree, slots, times}
use Rattle.tree_rules.specs.Chain.{Chain, tally}
use Rattle.tree_rules.proofs.Counting.{tally-times, exactly, exactly_length, length_most, times_head}
use Rattle.tree_rules.proofs.Reaching.{hangs_stand, hangs_inside, top_in}
use Rattle.tree_rules.proofs.Chaining.{chain_inside, chain_once}
use Rattle.index_rules.specs.Sound.{used, slots_fine, leaves}
use Rattle.index_rules.proofs.Fit.{both}
use Rattle.index_rules.proofs.Rules.{and, left_of_lem, all_but, all_fine, fine_all}
use Rattle.set_rules.specs.Words.{Set, Fit, tables_of, length_at, headers_in, root_at, first_at, count_at, Bin, empty, moved, bad, list}
use Rattle.set_rules.specs.Words.{tree, bin_at, bini}
use Rattle.set_rules.specs.Accepted.{slotted, BinThere, Listed, ended, onward, HeldIn, listed, grown, EntryOf, ParentMoved}
use Rattle.set_rules.specs.Accepted.{EntriesHome}
use Rattle.set_rules.specs.Accepted.{HeadsOnce, GoodList, GoodChain, InOne, Accepted}
use Rattle.set_rules.specs.Accepting.{headers_fine, table_fine, all_held, accepted}
use Rattle.set_rules.proofs.Fit.{small, length_least, halves, near_parent, far_parent}
use Rattle.set_rules.proofs.Trees.{Grown, Owned}
use Rattle.set_rules.proofs.Forest.{Held, as_list, as_tree, Part, whole, beneath, Good, empties, moves, holding, final, two, Row}
use Rattle.set_rules.proofs.Forest.{start, more, row_found, row_run}
use Rattle.set_rules.proofs.Gathering.{not-empty, not_moved, Sub, all_once, all_members, all_bins, entry_in, held_home, held_holds}
use Rattle.set_rules.proofs.Gathering.{holds_unique}
use Rattle.set_rules.proofs.Naming.{ranges, headers_blank, blank_headers}
use Rattle.set_rules.proofs.Homes.{entry-only, entry_own}
use Rattle.tree_rules.specs.Find.{slots_of}

-- The five kinds of bin, by number.
abbrev kind : Bin → ℕ
kind empty = 0
kind moved = 1
kind bad = 2
kind (list a) = 3
kind (tree h) = 4

kinds : {b c d : Bin} → b ≡ c → b ≡ d → kind c ≡ kind d
kinds p q = ap kind (sym p ∙ q)

held_kind : {s : Set} {k i : ℕ} {b : Bin} {l : List ℕ} → Held s k i b l → 3 ≤ kind b
held_kind (as_list e a p h) = omega arith
held_kind (as_tree g) = omega arith

module _ {s : Set} (fit : Fit s) where
  module _ {l : List ℕ} (row : Row s (length_at s 0) l) where
    sub_at : {k i : ℕ} → BinThere s k i → Sub fit k i l
    sub_at p = all_bins fit row p

    -- What a bin holds, where it is a list or a tree.
    held_at : {k i : ℕ} → BinThere s k i → (b : Bin) → bin_at s k i ≡ b → 2 ≤ kind b → (m : List ℕ) × Held s k i b m
    held_at {k} {i} p b e d = go (sub_at p).good
      where
        go : {left : ℕ} {may : Bool} {m : List ℕ} → Good s whole left k i may m → (m : List ℕ) × Held s k i b m
        go (empties q g) = absurd (omega (arith, kinds e q))
        go (moves q z g) = absurd (omega (arith, kinds e q))
        go (holding {l = a} q h g) = (a, rw (sym q ∙ e) at h)

    none_bad : (k i : ℕ) → BinThere s k i → bin_at s k i ≢ bad
    none_bad k i p e = omega (arith, held_kind (held_at p bad e (omega arith)).1)

    last_unmoved : (k i : ℕ) → BinThere s k i → suc k ≡ tables_of s → bin_at s k i ≢ moved
    last_unmoved k i p t e = let r = sub_at p in go r.good r.sum
      where
        go : {left : ℕ} {may : Bool} {m : List ℕ} → Good s whole left k i may m → suc k + left ≡ tables_of s → ⊥
        go (empties q g) u = omega (arith, kinds e q)
        go (moves q z g) u = z (omega arith)
        go (holding q h g) u = omega (arith, kinds e q, held_kind h)

    -- A bin whose parent is not Moved has nothing; so below a bin that is not Moved both are empty.
    only-empty : {left k i : ℕ} {may : Bool} {m : List ℕ} → Good s whole left k i may m → may ≡ false → bin_at s k i ≡ empty
    only-empty (empties q g) e = q
    only-empty (moves q z g) e = absurd (false≢true (sym e))
    only-empty (holding q h g) e = absurd (false≢true (sym e))

    below-empty : {left k i : ℕ} {may : Bool} {m : List ℕ} → Good s beneath left k i may m → may ≡ false → suc k + left ≡ tables_of s
        → suc k < tables_of s
        → (bin_at s (suc k) i ≡ empty) × (bin_at s (suc k) (i + length_at s k) ≡ empty)
    below-empty final e u t = absurd (omega arith)
    below-empty (two f g) e u t = (only-empty f e, only-empty g e)

    parent_moved_lem : ParentMoved s
    parent_moved_lem k j p d = go (halves j (length_at s k) (omega (arith, p.index, fit.twice k p.table))) (below r.good r.sum)
      where
        r : Sub fit k (j % length_at s k) l
        r = sub_at (record { table = omega (arith, p.table); index = mod-lt j (length_least fit k (omega (arith, p.table))) })

        below : {left : ℕ} {may : Bool} {m : List ℕ} → Good s whole left k (j % length_at s k) may m → suc k + left ≡ tables_of s
            → (bin_at s (suc k) (j % length_at s k) ≡ empty) × (bin_at s (suc k) (j % length_at s k + length_at s k) ≡ empty)
        below (empties q g) u = below-empty g refl u p.table
        below (moves q z g) u = absurd (d q)
        below (holding q h g) u = below-empty g refl u p.table

        go : (j ≡ j % length_at s k) ⊎ (j ≡ j % length_at s k + length_at s k)
            → (bin_at s (suc k) (j % length_at s k) ≡ empty) × (bin_at s (suc k) (j % length_at s k + length_at s k) ≡ empty)
            → bin_at s (suc k) j ≡ empty
        go (inl e) h = ap (λ (i : ℕ). bin_at s (suc k) i) e ∙ h.0
        go (inr e) h = ap (λ (i : ℕ). bin_at s (suc k) i) e ∙ h.1

    homes : EntriesHome s
    homes k i x e = go (sub_at e.there).good e.holds
      where
        go : {left : ℕ} {may : Bool} {m : List ℕ} → Good s whole left k i may m → HeldIn s (bin_at s k i) e.held
            → bini (length_at s k) (name_of s.names x hash_part) ≡ i
        go (empties q g) h = absurd (not-empty h q)
        go (moves q z g) h = absurd (not_moved h q)
        go (holding {l = a} q h g) o =
            let z : times x a ≡ times x e.held = ap (times x) (holds_unique fit (held_holds fit h) (rw q at o)) in
            held_home fit h x (omega (arith, e.member))

    -- The list and the tree of a bin.
    list_held : {k i a : ℕ} {m : List ℕ} → Held s k i (list a) m → GoodList s a
    list_held (as_list e a p h) = record { visits = _; ends = e; apart = a; plain = p }

    tree_held : {k i h : ℕ} {m : List ℕ} → Held s k i (tree h) m → (t : Tree) × Grown s (length_at s k) i h t
    tree_held (as_tree {t = t} g) = (t, g)

    grown-at : (k i h : ℕ) → BinThere s k i → bin_at s k i ≡ tree h → (t : Tree) × Grown s (length_at s k) i h t
    grown-at k i h p e = tree_held (held_at p (tree h) e (omega arith)).1

    list_at_lem : (k i a : ℕ) → BinThere s k i → bin_at s k i ≡ list a → GoodList s a
    list_at_lem k i a p e = list_held (held_at p (list a) e (omega arith)).1

    -- The head of a list, and the root of a tree, is an entry of the bin.
    list_entry : {k i a : ℕ} → BinThere s k i → bin_at s k i ≡ list a → EntryOf s k i a
    list_entry {k} {i} {a} p e =
        let g = list_at_lem k i a p e in
        let r = ((ranges (slots_of s.names) (headers_in s) _).lists a).0 e in
        record { there = p; held = g.visits; holds = rw e (listed g.ends); member = first g.ends (omega (arith, r.3, small fit)) }
      where
        first : {a : ℕ} {m : List ℕ} → Listed (slots_of s.names) s.cells a m → a ≢ null → 1 ≤ times a m
        first (ended z) d = absurd (d z)
        first (onward {i = a} {l = m} b t) d = omega (arith, times_head a m)

    tree_entry : {k i h : ℕ} → BinThere s k i → bin_at s k i ≡ tree h → EntryOf s k i (root_at s h)
    tree_entry {k} {i} {h} p e =
        let g = grown-at k i h p e in
        let r = g.1.rooted in
        record {
          there = p;
          held = slots g.0;
          holds = rw e (grown r);
          member = rw r.from (top_in (slots_of s.names) s.cells r.hangs (λ z. g.1.root (r.from ∙ z)));
        }

    heads_once : HeadsOnce s
    heads_once =
        record {
          lists = λ k i l j a p q e f. entry-only fit parent_moved_lem homes (list_entry p e) (list_entry q f);
          trees = λ k i l j h p q e f. entry-only fit parent_moved_lem homes (tree_entry p e) (tree_entry q f);
        }

    -- A used slot is one of those that the bins hold, where these are as many.
    in_one : length l ≡ tally (slots_of s.names) (used s.cells) → (x : ℕ) → x < slots_of s.names
        → cell s.cells x state ≢ free → InOne s x
    in_one e x b d =
        let u : used s.cells x ≡ 1 = rw (ne_eqb (cell s.cells x state) free d) in
        let z =
        exactly (slots_of s.names) l (λ y m. (all_members fit row y m).inside) (used s.cells) (all_once fit row)
        (λ y m. (all_members fit row y m).used_one) e x b
        in
        let m = all_members fit row x (omega (arith, u, z)) in
        record { table = m.table; index = m.index; entry = m.entry; only = λ k i f. entry-only fit parent_moved_lem homes f m.entry }

    -- A chain of as many slots as the tree, each used and at home in the tree's bin, has the tree's slots: each is an entry of that bin,
    -- and there are no more of these.
    chain_at : length l ≡ tally (slots_of s.names) (used s.cells) → (k i h : ℕ) → BinThere s k i → bin_at s k i ≡ tree h
        → GoodChain s k i h
    chain_at e k i h p b = record { visits = v; linked = c.1; count = c.2; own = λ x. (to x, from x) }
      where
        t : Tree
        t = (grown-at k i h p b).0

        g : Grown s (length_at s k) i h t
        g = (grown-at k i h p b).1

        v : List ℕ
        v = g.chain.0

        c : (l : List ℕ) × Chain (slots_of s.names) s.cells null (first_at s h) l × (length l ≡ count_at s h)
            × Owned s (length_at s k) i l
        c = g.chain

        holds : HeldIn s (bin_at s k i) (slots t)
        holds = rw b (grown g.rooted)

        inside : (x : ℕ) → 1 ≤ times x v → x < slots_of s.names
        inside x m = chain_inside (slots_of s.names) s.cells c.1 m

        to : (x : ℕ) → 1 ≤ times x v → EntryOf s k i x
        to x m = let o = c.3 x m in entry_own fit parent_moved_lem homes holds p.table (in_one e x (inside x m) o.0).entry o.1

        in_tree : (x : ℕ) → EntryOf s k i x → 1 ≤ times x (slots t)
        in_tree x f =
            let z : times x f.held ≡ times x (slots t) = ap (times x) (holds_unique fit f.holds holds) in omega (arith, f.member)

        sizes : length v ≡ tally (slots_of s.names) (λ x. times x (slots t))
        sizes =
            c.2 ∙ sym g.count
            ∙ sym (tally-times (slots_of s.names) (slots t) (λ x m. hangs_inside (slots_of s.names) s.cells g.rooted.hangs m))

        from : (x : ℕ) → EntryOf s k i x → 1 ≤ times x v
        from x f =
            let m = in_tree x f in
            let z =
            exactly (slots_of s.names) v inside (λ y. times y (slots t))
            (chain_once (slots_of s.names) s.cells (small fit) (first_at s h) c.1)
            (λ y n. omega (arith, in_tree y (to y n), g.rooted.once y)) sizes x
            (hangs_inside (slots_of s.names) s.cells g.rooted.hangs m)
            in
            omega (arith, z, m)

  pub yes_accepted : accepted s ≡ true → Accepted s
  unfolding accepted all_held
  yes_accepted e =
      let a = both (slots_fine (slots_of s.names) (slots_of s.names) (slotted s)) _ e in
      let b = both (headers_fine (slots_of s.names) (headers_in s) s.heads s.bins) _ a.1 in
      let c = left_of_lem (slots_of s.names) (tally (slots_of s.names) (used s.cells)) _ b.1 in
      let r = row_found fit (length_at s 0) (slots_of s.names) c.0 c.1 in
      let row = r.1 in
      let fine = all_fine (slotted s) (slots_of s.names) (slots_of s.names) a.0 in
      let blank = headers_blank fit (heads_once row) (λ k i h p z. (grown-at row k i h p z).1.root) b.0 in
      record {
        none_bad = none_bad row;
        words = record { states = λ x w. (fine x w).states; links = λ x w. (fine x w).links };
        last_unmoved = last_unmoved row;
        parent_moved_lem = parent_moved_lem row;
        home = homes row;
        heads = heads_once row;
        lists = list_at_lem row;
        headers =
            record {
              roots = λ k i h p z. (grown-at row k i h p z).1.root;
              firsts = λ k i h p z. (grown-at row k i h p z).1.first;
              other_root = λ h w n. (blank h w n).root;
              other_first = λ h w n. (blank h w n).first;
              other-count = λ h w n. (blank h w n).count;
            };
        trees =
            λ k i h p z. (let g = grown-at row k i h p z in
            record {
              tree = g.0;
              rooted = g.1.rooted;
              rising = g.1.rising;
              coloured = g.1.hues;
              level = g.1.even;
              size = g.1.count;
            });
        chains = chain_at row (omega (arith, r.2, c.2));
        slots = record { used = in_one row (omega (arith, r.2, c.2)); cleared = λ x w z. (fine x w).cleared z };
      }

  module _ (ok : Accepted s) where
    abbrev Built : Part → ℕ → ℕ → ℕ → Bool → Type 0
    Built p left k i may = (l : List ℕ) × Good s p left k i may l

    -- A bin's list or tree is good, by the clauses.
    list_good : {k i a : ℕ} → BinThere s k i → bin_at s k i ≡ list a → (l : List ℕ) × Held s k i (list a) l
    list_good {k} {i} {a} p e =
        let g = ok.lists k i a p e in (
          g.visits,
          as_list g.ends g.apart g.plain
              (λ x m. ok.home k i x (record { there = p; held = g.visits; holds = rw e (listed g.ends); member = m })),
        )

    -- An entry of a tree's bin is not free.
    hued : (c : Colour) → code c ≢ free
    hued black = omega arith
    hued red = omega arith

    tree_used : {k i h x : ℕ} → bin_at s k i ≡ tree h → EntryOf s k i x → cell s.cells x state ≢ free
    tree_used {k} {i} {h} {x} e f = go (rw e at f.holds) f.member
      where
        go : {m : List ℕ} → HeldIn s (tree h) m → 1 ≤ times x m → cell s.cells x state ≢ free
        go (grown r) m = let d = hangs_stand (slots_of s.names) s.cells r.hangs m in λ z. hued d.hue (sym d.words.hued ∙ z)

    tree_good_lem : {k i h : ℕ} → BinThere s k i → bin_at s k i ≡ tree h → (l : List ℕ) × Held s k i (tree h) l
    tree_good_lem {k} {i} {h} p e =
        let g = ok.trees k i h p e in
        let c = ok.chains k i h p e in (
          slots g.tree,
          as_tree (record {
            root = ok.headers.roots k i h p e;
            first = ok.headers.firsts k i h p e;
            rooted = g.rooted;
            rising = g.rising;
            hues = g.coloured;
            even = g.level;
            count = g.size;
            chain = (c.visits, c.linked, c.count, λ x m. (let f = (c.own x).0 m in (tree_used e f, ok.home k i x f)));
            home = λ x m. ok.home k i x (record { there = p; held = slots g.tree; holds = rw e (grown g.rooted); member = m });
          }),
        )

    -- A bin, given what is below it.
    build_bin : (left k i : ℕ) → BinThere s k i → suc k + left ≡ tables_of s
        → ((may : Bool) → (may ≡ false → bin_at s k i ≢ moved) → Built beneath left k i may)
        → (may : Bool) → (may ≡ false → bin_at s k i ≡ empty) → (b : Bin) → bin_at s k i ≡ b → Built whole left k i may
    build_bin left k i p t below may quiet empty e = let r = below false (λ z m. omega (arith, kinds e m)) in (r.0, empties e r.1)
    build_bin left k i p t below true quiet moved e =
        let r = below true (λ z m. false≢true (sym z)) in
        let d : left ≢ 0 = λ z. ok.last_unmoved k i p (omega arith) e in
        (r.0, moves e d r.1)
    build_bin left k i p t below false quiet moved e = absurd (omega (arith, kinds e (quiet refl)))
    build_bin left k i p t below true quiet (list a) e =
        let g = list_good p e in
        let r = below false (λ z m. omega (arith, kinds e m)) in
        (g.0 ++ r.0, holding e g.1 r.1)
    build_bin left k i p t below false quiet (list a) e = absurd (omega (arith, kinds e (quiet refl)))
    build_bin left k i p t below true quiet (tree h) e =
        let g = tree_good_lem p e in
        let r = below false (λ z m. omega (arith, kinds e m)) in
        (g.0 ++ r.0, holding e g.1 r.1)
    build_bin left k i p t below false quiet (tree h) e = absurd (omega (arith, kinds e (quiet refl)))
    build_bin left k i p t below may quiet bad e = absurd (ok.none_bad k i p e)

    both_built : {left k i : ℕ} {may : Bool} → Built whole left (suc k) i may → Built whole left (suc k) (i + length_at s k) may
        → Built beneath (suc left) k i may
    both_built f g = (f.0 ++ g.0, two f.1 g.1)

    build_below : (left k i : ℕ) → BinThere s k i → suc k + left ≡ tables_of s → (may : Bool) → (may ≡ false → bin_at s k i ≢ moved)
        → Built beneath left k i may
    build_below zero k i p t may still = ([], final)
    build_below (suc left) k i p t may still =
        let n : suc k < tables_of s = omega arith in
        let twice = fit.twice k n in
        let near : BinThere s (suc k) i = record { table = n; index = omega (arith, p.index) } in
        let far : BinThere s (suc k) (i + length_at s k) = record { table = n; index = omega (arith, p.index) } in
        let f =
        build_bin left (suc k) i near (omega arith) (build_below left (suc k) i near (omega arith)) may
        (λ z. ok.parent_moved_lem k i near (rw (near_parent i (length_at s k) p.index) (still z))) (bin_at s (suc k) i) refl
        in
        let g =
        build_bin left (suc k) (i + length_at s k) far (omega arith) (build_below left (suc k) (i + length_at s k) far (omega arith)) may
        (λ z. ok.parent_moved_lem k (i + length_at s k) far (rw (far_parent i (length_at s k) p.index) (still z)))
        (bin_at s (suc k) (i + length_at s k)) refl
        in
        both_built f g

    build_row : (m : ℕ) → m ≤ length_at s 0 → (l : List ℕ) × Row s m l
    build_row zero b = ([], start)
    build_row (suc i) b =
        let p : BinThere s 0 i = record { table = omega (arith, fit.least); index = omega arith } in
        let t : suc 0 + (tables_of s - 1) ≡ tables_of s = omega (arith, fit.least) in
        let f =
        build_bin (tables_of s - 1) 0 i p t (build_below (tables_of s - 1) 0 i p t) true (λ z. absurd (false≢true (sym z)))
        (bin_at s 0 i) refl in
        let r = build_row i (omega arith) in
        (f.0 ++ r.0, more f.1 r.1)

    -- What the bins hold is each used slot once.
    used-times : {l : List ℕ} → Row s (length_at s 0) l → (x : ℕ) → x < slots_of s.names → used s.cells x ≡ times x l
    used-times {l} row x b = go (ℕ_discrete (cell s.cells x state) free) (dec_le 1 (times x l))
      where
        go : Dec (cell s.cells x state ≡ free) → Dec (1 ≤ times x l) → used s.cells x ≡ times x l
        go z (yes m) = omega (arith, (all_members fit row x m).used_one, all_once fit row x)
        go (yes z) (no m) = rw (eq-eqb (cell s.cells x state) free z) (omega arith)
        go (no z) (no m) = absurd (m (entry_in fit row (ok.slots.used x b z).entry))

    pub accepted_yes : accepted s ≡ true
    unfolding accepted all_held
    accepted_yes =
        let r = build_row (length_at s 0) (omega arith) in
        let l = r.0 in
        let row = r.1 in
        let inside : (x : ℕ) → 1 ≤ times x l → x < slots_of s.names = λ x m. (all_members fit row x m).inside in
        let most = length_most (slots_of s.names) l inside (all_once fit row) in
        let count = exactly_length (slots_of s.names) l inside (used s.cells) (used-times row) in
        let table : leaves (slots_of s.names) (tally (slots_of s.names) (used s.cells))
        (table_fine (length_at s 0) s (slots_of s.names)) ≡ true =
        rw (row_run fit row (slots_of s.names) most) (eq-eqb _ _ (all_but (slots_of s.names) (length l) _ most count))
        in
        let o = ok.headers in
        let headers =
        blank_headers fit ok.heads o.roots
        (λ h b none. record { root = o.other_root h b none; first = o.other_first h b none; count = o.other-count h b none })
        in
        and (fine_all (slotted s) (slots_of s.names) (slots_of s.names)
        (λ x b. record { links = ok.words.links x b; states = ok.words.states x b; cleared = ok.slots.cleared x b }))
        (and headers table)
