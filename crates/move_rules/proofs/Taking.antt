-- A bin is taken apart: its word is Moved, its header is given back, and its entries are loose. Nothing else of the set is written, so that
-- every clause of acceptance holds of the rest.
-- Parts: the header that is given back; the bin is Moved, and every other bin keeps its word; every other bin is left alone, with its
-- entries; the clauses on parents, homes and headers; the entries of the bin are loose; the bins below, the entries and the lists
-- afterwards; which headers are free.
use mathlib.Core.Path.{◌≡◌, refl, ap, sym, subst, ◌∙◌}
use mathlib.Core.Logic.{◌≢◌, ◌⊎◌, inl, inr, ◌↔◌}
use mathlib.Core.List.{List}
use Prim.Native.Nat.{ℕ, suc, ◌+◌, ◌*◌, ◌/◌, ◌%◌, ◌<◌, ◌≤◌}
use native.Mathlib.Decide.{ℕ_discrete}
use native.Mathlib.Omega.{arith}
use lib.ListN.{length, get_or, length-set}
use Rattle.slots.specs.Words.{null, state, free, cell, Colour, black, red, code}
use Rattle.tree_rules.specs.Find.{slots_of}
use Rattle.tree_rules.specs.Tree.{slots, times}
use Rattle.tree_rules.proofs.Reaching.{hangs_stand, hangs_inside}
use Rattle.set_rules.specs.Words.{Set, Fit, tables_of, length_at, headers_in, root_at, first_at, count_at}
use Rattle.set_rules.specs.Words.{Bin, empty, moved, bad, list, tree}
use Rattle.set_rules.specs.Words.{bin_at}
use Rattle.set_rules.specs.Accepted.{BinThere, HeldIn, listed, grown, EntryOf}
use Rattle.set_rules.specs.Accepted.{ParentMoved, EntriesHome, Headers, InOne, Accepted}
use Rattle.set_rules.proofs.Fit.{small}
use Rattle.set_rules.proofs.Gathering.{not_moved, holds_unique}
use Rattle.set_rules.proofs.Lists.{listed_inside}
use Rattle.set_rules.proofs.Homes.{entry-only}
use Rattle.set_rules.proofs.Naming.{ranges}
use Rattle.move_rules.specs.Moving.{rewritten, place_of, header_in, heads_freed, bins_moved}
use Rattle.move_rules.proofs.Framing.{there_over, there_back, SameHeader, Left, entry-over, entry_back, good_list_frame}
use Rattle.move_rules.proofs.Framing.{BinLists, shaped_frame, lists_frame}
use Rattle.move_rules.specs.Moved.{FreeHeader}
use Rattle.move_rules.proofs.BinRow.{headed_long, headed_root, headed_first, headed-count, headed_else, headed_none, fit_over}
use Rattle.move_rules.proofs.BinRow.{written_here}
use Rattle.move_rules.proofs.BinRow.{written_else}
use Rattle.move_rules.proofs.Laying.{parent_place}
use Rattle.move_rules.proofs.Loose.{Loose}

-- The header that is given back is null, with count 0.
given_back_lem : (heads : List ℕ) (h : ℕ) → 3 * h + 2 < length heads
    → (get_or (heads_freed heads (tree h)) (3 * h) null ≡ null) × (get_or (heads_freed heads (tree h)) (3 * h + 1) null ≡ null)
    × (get_or (heads_freed heads (tree h)) (3 * h + 2) null ≡ 0)
unfolding heads_freed
given_back_lem heads h b = (headed_root heads h _ _ _ b, headed_first heads h _ _ _ b, headed-count heads h _ _ _ b)

back_long : (heads : List ℕ) (b : Bin) → length (heads_freed heads b) ≡ length heads
unfolding heads_freed
back_long heads b = headed_long heads (header_in b) null null 0

-- The words of any other header stay: where the bin has none, null is no header.
back_else : (heads : List ℕ) (b : Bin) (h p : ℕ) → length heads ≤ 3 * null → b ≢ tree h → 3 * h ≤ p → p ≤ 3 * h + 2
    → get_or (heads_freed heads b) p null ≡ get_or heads p null
unfolding heads_freed
back_else heads empty h p r d a c = headed_none heads null null null 0 p r
back_else heads moved h p r d a c = headed_none heads null null null 0 p r
back_else heads bad h p r d a c = headed_none heads null null null 0 p r
back_else heads (list g) h p r d a c = headed_none heads null null null 0 p r
back_else heads (tree g) h p r d a c =
    let n : g ≢ h = λ e. d (ap tree e) in headed_else heads g null null 0 p (omega arith) (omega arith) (omega arith)

-- Whether a bin is the tree of a header is settled.
pub tree_or_not : (b : Bin) (h : ℕ) → Dec (b ≡ tree h)
tree_or_not empty h = no (λ e. (let z : ◌≡◌ {A = ℕ} 0 1 = cc in omega arith))
tree_or_not moved h = no (λ e. (let z : ◌≡◌ {A = ℕ} 0 1 = cc in omega arith))
tree_or_not bad h = no (λ e. (let z : ◌≡◌ {A = ℕ} 0 1 = cc in omega arith))
tree_or_not (list a) h = no (λ e. (let z : ◌≡◌ {A = ℕ} 0 1 = cc in omega arith))
tree_or_not (tree g) h = same (ℕ_discrete g h)
  where
    same : Dec (g ≡ h) → Dec (tree g ≡ tree h)
    same (yes e) = yes (ap tree e)
    same (no d) = no (λ e. d (cc))

hue_busy : (c : Colour) {v : ℕ} → v ≡ code c → v ≢ free
hue_busy black e = omega arith
hue_busy red e = omega arith

module _ {s : Set} (fit : Fit s) (acc : Accepted s) {k i : ℕ} (p : BinThere s k i) (lower : suc k < tables_of s)
    (unmoved : bin_at s k i ≢ moved) (above : (j : ℕ) → k ≡ suc j → bin_at s j (i % length_at s j) ≡ moved) where
  abbrev bins : List ℕ
  bins = bins_moved s k i

  abbrev heads : List ℕ
  heads = heads_freed s.heads (bin_at s k i)

  abbrev t : Set
  t = rewritten s bins heads s.cells

  -- The bin's word is Moved.
  here : bin_at t k i ≡ moved
  unfolding bins_moved
  here =
      written_here fit p _ heads s.cells (back_long s.heads (bin_at s k i))
      ∙ (ranges (slots_of s.names) (headers_in s) _).moves.1 refl

  pub taken_fit : Fit t
  unfolding bins_moved
  taken_fit = fit_over fit (length-set s.bins (place_of s k i) _) (back_long s.heads (bin_at s k i)) refl

  there : (m j : ℕ) → BinThere s m j → ((m ≡ k) × (j ≡ i) → ⊥) → bin_at t m j ≡ bin_at s m j
  unfolding bins_moved
  there m j q d = written_else fit p _ heads s.cells (back_long s.heads (bin_at s k i)) m j q d

  range : headers_in t ≡ headers_in s
  range = ap (λ (m : ℕ). m / 3) (back_long s.heads (bin_at s k i))

  which : {A : Type 0} (m j : ℕ) → ((m ≡ k) × (j ≡ i) → A) → (((m ≡ k) × (j ≡ i) → ⊥) → A) → A
  which {A} m j this that = go (ℕ_discrete m k) (ℕ_discrete j i)
    where
      go : Dec (m ≡ k) → Dec (j ≡ i) → A
      go (yes e) (yes f) = this (e, f)
      go (yes e) (no f) = that (λ z. f z.1)
      go (no e) f = that (λ z. e z.0)

  at_here : (m j : ℕ) → (m ≡ k) × (j ≡ i) → bin_at t m j ≡ moved
  at_here m j z = ap (λ (y : ℕ). bin_at t y j) z.0 ∙ ap (λ (y : ℕ). bin_at t k y) z.1 ∙ here

  was_here : (m j : ℕ) → (m ≡ k) × (j ≡ i) → bin_at s m j ≡ bin_at s k i
  was_here m j z = ap (λ (y : ℕ). bin_at s y j) z.0 ∙ ap (λ (y : ℕ). bin_at s k y) z.1

  few : length s.heads ≤ 3 * null
  few = omega (arith, fit.three, fit.headers_most)

  other_header : (h : ℕ) → bin_at s k i ≢ tree h → SameHeader s bins heads s.cells h
  other_header h d =
      record {
        root = back_else s.heads (bin_at s k i) h (3 * h) few d (omega arith) (omega arith);
        first = back_else s.heads (bin_at s k i) h (3 * h + 1) few d (omega arith) (omega arith);
        count = back_else s.heads (bin_at s k i) h (3 * h + 2) few d (omega arith) (omega arith);
      }

  old_place : {m j : ℕ} → BinThere t m j → BinThere s m j
  old_place q = there_back s bins heads s.cells q

  -- A bin of the new set that is not Moved is another, with the word that it had.
  elsewhere : {b : Bin} (m j : ℕ) → BinThere s m j → b ≢ moved → bin_at t m j ≡ b → ((m ≡ k) × (j ≡ i) → ⊥) × (bin_at s m j ≡ b)
  elsewhere m j q d e =
      let n : (m ≡ k) × (j ≡ i) → ⊥ = λ z. d (sym e ∙ at_here m j z) in (n, sym (there m j q n) ∙ e)

  tree_moved : (h : ℕ) → tree h ≢ moved
  tree_moved h e = let z : ◌≡◌ {A = ℕ} 0 1 = cc in omega arith

  list_moved : (a : ℕ) → list a ≢ moved
  list_moved a e = let z : ◌≡◌ {A = ℕ} 0 1 = cc in omega arith

  -- Every other bin is left alone: no two bins name one header.
  kept : (m j : ℕ) → BinThere s m j → ((m ≡ k) × (j ≡ i) → ⊥) → Left s bins heads s.cells (bin_at s m j)
  kept m j q d =
      record {
        header = λ h e. other_header h (λ f. d (acc.heads.trees m j k i h q p e f));
        slots = λ h x z f b. refl;
      }

  over : (m j x : ℕ) → ((m ≡ k) × (j ≡ i) → ⊥) → EntryOf s m j x → EntryOf t m j x
  over m j x d e = entry-over s bins heads s.cells (there m j e.there d) (kept m j e.there d) e

  back : (m j x : ℕ) → EntryOf t m j x → ((m ≡ k) × (j ≡ i) → ⊥) × EntryOf s m j x
  back m j x e =
      let q = old_place e.there in
      let d : (m ≡ k) × (j ≡ i) → ⊥ = λ z. not_moved e.holds (at_here m j z) in
      (d, entry_back s bins heads s.cells (there m j q d) (kept m j q d) taken_fit acc.lists acc.trees e)

  parents : ParentMoved t
  parents m j q d =
      which (suc m) j (λ z. absurd (d (this z)))
      (λ n. there (suc m) j r n ∙ acc.parent_moved_lem m j r (λ e. d (still e)))
    where
      r : BinThere s (suc m) j
      r = old_place q

      y : BinThere s m (j % length_at s m)
      y = parent_place s taken_fit r

      still : bin_at s m (j % length_at s m) ≡ moved → bin_at t m (j % length_at s m) ≡ moved
      still e = there m (j % length_at s m) y (λ z. unmoved (sym (was_here m (j % length_at s m) z) ∙ e)) ∙ e

      this : (suc m ≡ k) × (j ≡ i) → bin_at t m (j % length_at s m) ≡ moved
      this z = still (ap (λ (a : ℕ). bin_at s m (a % length_at s m)) z.1 ∙ above m (sym z.0))

  homes : EntriesHome t
  homes m j x e = acc.home m j x (back m j x e).1

  headers : Headers t
  headers =
      record {
        roots =
            λ m j h q e. (let r = old_place q in
            let f = elsewhere m j r (tree_moved h) e in
            rw ((kept m j r f.0).header h f.1).root (acc.headers.roots m j h r f.1));
        firsts =
            λ m j h q e. (let r = old_place q in
            let f = elsewhere m j r (tree_moved h) e in
            rw ((kept m j r f.0).header h f.1).first (acc.headers.firsts m j h r f.1));
        other_root = λ h w n. (blank h (rw range at w) n).0;
        other_first = λ h w n. (blank h (rw range at w) n).1;
        other-count = λ h w n. (blank h (rw range at w) n).2;
      }
    where
      blank : (h : ℕ) → h < headers_in s → ((m j : ℕ) → BinThere t m j → bin_at t m j ≢ tree h)
          → (root_at t h ≡ null) × (first_at t h ≡ null) × (count_at t h ≡ 0)
      blank h w n = go (tree_or_not (bin_at s k i) h)
        where
          unnamed : bin_at s k i ≢ tree h → (m j : ℕ) → BinThere s m j → bin_at s m j ≢ tree h
          unnamed d m j q e =
              n m j (there_over s bins heads s.cells q) (there m j q (λ z. d (sym (was_here m j z) ∙ e)) ∙ e)

          go : Dec (bin_at s k i ≡ tree h) → (root_at t h ≡ null) × (first_at t h ≡ null) × (count_at t h ≡ 0)
          go (yes e) = rw e (given_back_lem s.heads h (omega (arith, fit.three)))
          go (no d) =
              let z = other_header h d in (
                z.root ∙ acc.headers.other_root h w (unnamed d),
                z.first ∙ acc.headers.other_first h w (unnamed d),
                z.count ∙ acc.headers.other-count h w (unnamed d),
              )

  -- An entry is a used slot of the set.
  entry-used : (x : ℕ) → EntryOf s k i x → (x < slots_of s.names) × (cell s.cells x state ≢ free)
  entry-used x e = go (bin_at s k i) refl e.holds e.member
    where
      go : (b : Bin) → bin_at s k i ≡ b → {l : List ℕ} → HeldIn s b l → 1 ≤ times x l
          → (x < slots_of s.names) × (cell s.cells x state ≢ free)
      go (list a) f (listed d) z =
          let g = acc.lists k i a p f in
          let q = holds_unique fit (listed d) (listed g.ends) in
          (listed_inside s (small fit) d x z, hue_busy black (g.plain x (rw q at z)).states)
      go (tree h) f (grown d) z =
          let w = hangs_stand (slots_of s.names) s.cells d.hangs z in
          (hangs_inside (slots_of s.names) s.cells d.hangs z, hue_busy w.hue w.words.hued)
      go empty f h z = elim h [ ]
      go moved f h z = elim h [ ]
      go bad f h z = elim h [ ]

  pub taken_loose : Loose t (EntryOf s k i)
  taken_loose =
      record {
        none_bad = λ m j q e. (let f = elsewhere m j (old_place q) bad_moved e in acc.none_bad m j (old_place q) f.1);
        words = record { states = acc.words.states; links = acc.words.links };
        last_unmoved =
            λ m j q f e. which m j (λ z. omega (arith, z.0))
            (λ d. acc.last_unmoved m j (old_place q) f (sym (there m j (old_place q) d) ∙ e));
        parent_moved_lem = parents;
        home = homes;
        heads =
            record {
              lists =
                  λ m j n h a q r e f. acc.heads.lists m j n h a (old_place q) (old_place r)
                  (elsewhere m j (old_place q) (list_moved a) e).1 (elsewhere n h (old_place r) (list_moved a) f).1;
              trees =
                  λ m j n h a q r e f. acc.heads.trees m j n h a (old_place q) (old_place r)
                  (elsewhere m j (old_place q) (tree_moved a) e).1 (elsewhere n h (old_place r) (tree_moved a) f).1;
            };
        lists =
            λ m j a q e. good_list_frame s bins heads s.cells a
            (acc.lists m j a (old_place q) (elsewhere m j (old_place q) (list_moved a) e).1) (λ x z f b. refl);
        headers = headers;
        trees =
            λ m j h q e. (let f = elsewhere m j (old_place q) (tree_moved h) e in
            shaped_frame s bins heads s.cells h (acc.trees m j h (old_place q) f.1) ((kept m j (old_place q) f.0).header h f.1)
            (λ x z g b. refl));
        chains =
            λ m j h q e. (let f = elsewhere m j (old_place q) (tree_moved h) e in
            let v = acc.chains m j h (old_place q) f.1 in
            let y = (kept m j (old_place q) f.0).header h f.1 in
            record {
              visits = v.visits;
              linked = rw y.first v.linked;
              count = v.count ∙ sym y.count;
              own = λ x. (λ z. over m j x f.0 ((v.own x).0 z), λ z. (v.own x).1 (back m j x z).1);
            });
        used = λ x n d. go x (acc.slots.used x n d);
        cleared =
            λ x n e. (let c = acc.slots.cleared x n e in
            record {
              hash = c.hash;
              key = c.key;
              placed = c.placed;
              parents = c.parents;
              lefts = c.lefts;
              rights = c.rights;
              prevs = c.prevs;
              nexts = c.nexts;
            });
        inside = λ x e. (entry-used x e).0;
        busy = λ x e. (entry-used x e).1;
        nowhere = λ x e m j f. (let b = back m j x f in b.0 (entry-only fit acc.parent_moved_lem acc.home b.1 e));
      }
    where
      bad_moved : bad ≢ moved
      bad_moved e = let z : ◌≡◌ {A = ℕ} 0 1 = cc in omega arith

      go : (x : ℕ) → InOne s x → InOne t x ⊎ EntryOf s k i x
      go x o =
          which o.table o.index
          (λ z. inr (subst (λ (a : ℕ). EntryOf s k a x) z.1 (subst (λ (a : ℕ). EntryOf s a o.index x) z.0 o.entry)))
          (λ d. inl (record {
            table = o.table;
            index = o.index;
            entry = over o.table o.index x d o.entry;
            only = λ m j f. o.only m j (back m j x f).1;
          }))

  -- The bins below are empty, and stay so.
  pub taken-below : (j : ℕ) → BinThere s (suc k) j → j % length_at s k ≡ i → bin_at t (suc k) j ≡ empty
  taken-below j q e =
      there (suc k) j q (λ z. omega (arith, z.0)) ∙ acc.parent_moved_lem k j q (λ f. unmoved (ap (λ (y : ℕ). bin_at s k y) (sym e) ∙ f))

  pub taken_here : bin_at t k i ≡ moved
  taken_here = here

  -- The entries afterwards: those of the other bins.
  pub taken_entries : (m j x : ℕ) → EntryOf t m j x ↔ (((m ≡ k) × (j ≡ i) → ⊥) × EntryOf s m j x)
  taken_entries m j x = (back m j x, λ z. over m j x z.0 z.1)

  pub taken_there : (m j : ℕ) → BinThere s m j → ((m ≡ k) × (j ≡ i) → ⊥) → bin_at t m j ≡ bin_at s m j
  taken_there = there

  -- What another bin lists.
  pub taken_lists : (m j : ℕ) → BinThere s m j → ((m ≡ k) × (j ≡ i) → ⊥) → {v : List ℕ} → BinLists s (bin_at s m j) v
      → BinLists t (bin_at t m j) v
  taken_lists m j q d w = rw (there m j q d) (lists_frame s bins heads s.cells (kept m j q d).header (λ x z f b. refl) w)

  -- The headers without a root are those that a half may have.
  pub taken_free : (h : ℕ) → FreeHeader s k i h ↔ ((h < headers_in t) × (root_at t h ≡ null))
  taken_free h = (
    λ f. (
      rw range f.inside,
      headers.other_root h (rw range f.inside)
          (λ m j q e. (let r = elsewhere m j (old_place q) (tree_moved h) e in r.0 (f.unnamed m j (old_place q) r.1))),
    ),
    λ z. record {
      inside = rw range at z.0;
      unnamed = λ m j q e. which m j (λ y. y)
          (λ d. absurd (headers.roots m j h (there_over s bins heads s.cells q) (there m j q d ∙ e) z.1));
    },
  )

  pub taken_header : (h : ℕ) → bin_at s k i ≢ tree h → SameHeader s bins heads s.cells h
  taken_header = other_header

  -- The bin's own header is free.
  pub own_free : (h : ℕ) → bin_at s k i ≡ tree h → FreeHeader s k i h
  own_free h e =
      record {
        inside = (((ranges (slots_of s.names) (headers_in s) _).trees h).0 e).3;
        unnamed = λ m j q f. acc.heads.trees m j k i h q p f e;
      }
