-- A half is laid: as a list where it is small, else as a tree under a header that has no root.
-- Parts: slots of different pairs; what laying comes to, whichever way; the half as a list; its chain, its tree and its header; the half as
-- a tree; both ways in one law.
use mathlib.Core.Path.{◌≡◌, refl, ap, sym, subst, ◌∙◌}
use mathlib.Core.Logic.{◌≢◌, ◌⊎◌, ◌↔◌}
use mathlib.Core.Bool.{Bool, true, false}
use mathlib.Core.List.{List, [], ◌∷◌}
use Prim.Native.Nat.{ℕ, suc, ◌+◌, ◌*◌, ◌%◌, ◌<◌, ◌≤◌}
use native.Mathlib.Omega.{arith}
use lib.ListN.{length, get_or, set, length-set}
use lib.Dec.{leb}
use borrow.Author.Tests.{leb-true, leb-false, lt-ltb}
use Rattle.slots.specs.Words.{null, place, prev, next, most_slots, name_of, hash_part, cell}
use Rattle.slots.specs.Pairs.{pair_of}
use Rattle.tree_rules.specs.Find.{slots_of}
use Rattle.tree_rules.specs.Tree.{Tree, top, slots, times, Hangs}
use Rattle.tree_rules.proofs.Counting.{times_head, times_rest}
use Rattle.index_rules.proofs.Frames.{chain_frame}
use Rattle.redblack.proofs.Kept.{place_aside, prev_aside, next_aside}
use Rattle.redblack.specs.Links.{Links, lent_links}
use Rattle.set_rules.specs.Words.{Set, Fit, length_at, headers_in, root_at, first_at, count_at}
use Rattle.set_rules.specs.Words.{Bin, empty, moved, list, tree, bin_at, bin_of, bini}
use Rattle.set_rules.specs.Accepted.{BinThere, Listed, Unlike, Apart, EntryOf}
use Rattle.set_rules.proofs.Fit.{small, slots_are, headers_are}
use Rattle.set_rules.proofs.Naming.{ranges}
use Rattle.move_rules.specs.Passes.{plained, backed}
use Rattle.move_rules.specs.Moving.{rewritten, place_of, most_listed, list_head, tree_head}
use Rattle.move_rules.specs.Moving.{list_laid, tree_grown, tree_heads, tree_laid, half_laid}
use Rattle.move_rules.specs.Moved.{Form, as_none, as_few, as_many, Planted}
use Rattle.move_rules.proofs.Rows.{head_of}
use Rattle.move_rules.proofs.Building.{Distinct, Built, built_all, grows_all}
use Rattle.move_rules.proofs.Framing.{BinLists, Untouched, SameHeader, listed_next}
use Rattle.move_rules.proofs.BinRow.{headed_long, headed_root, headed_first, headed-count, headed_else}
use Rattle.move_rules.proofs.BinRow.{fit_over, written_range, written_here, written_else}
use Rattle.move_rules.proofs.Lining.{Lined, plain_list, Backed, backed_chain}
use Rattle.move_rules.proofs.Laying.{Sits, nothing, as_list, as_tree, Lays, laid_loose, laid_entries, laid_lists}
use Rattle.move_rules.proofs.Loose.{Loose}

-- Slots of different pairs, in the words of a list.
unlike_all : {names : List ℕ} (x : ℕ) (l : List ℕ) → ((y : ℕ) → 1 ≤ times y l → pair_of names x ≢ pair_of names y) → Unlike names x l
unlike_all x [] d = Unlike.last
unlike_all x (y ∷ l) d =
    Unlike.other (d y (omega (arith, times_head y l))) (unlike_all x l (λ z m. d z (omega (arith, times_rest z y l))))

pub distinct_rest : {names : List ℕ} {x : ℕ} {l : List ℕ} → Distinct names (x ∷ l) → Distinct names l
distinct_rest {names} {x} {l} d =
    record {
      once = λ k. omega (arith, d.once k, times_rest k x l);
      pairs = λ j k p q. d.pairs j k (omega (arith, times_rest j x l)) (omega (arith, times_rest k x l));
    }

pub distinct_apart : {names : List ℕ} (l : List ℕ) → Distinct names l → Apart names l
distinct_apart [] d = Apart.none
distinct_apart {names} (x ∷ l) d = Apart.one (unlike_all x l differ) (distinct_apart l (distinct_rest d))
  where
    differ : (y : ℕ) → 1 ≤ times y l → pair_of names x ≢ pair_of names y
    differ y m e =
        let z : x ≡ y = d.pairs x y (omega (arith, times_head x l)) (omega (arith, times_rest y x l)) e in
        let w : times x l ≡ times y l = ap (λ (j : ℕ). times j l) z in
        omega (arith, d.once x, times_head x l)

-- A tree with a slot has a root.
has_root : {n q : ℕ} {cells : List ℕ} {t : Tree} → Hangs n cells q t → n ≤ null → 1 ≤ length (slots t) → top t ≢ null
unfolding slots
has_root Hangs.none b l = absurd (omega arith)
has_root (Hangs.some c x y) b l = omega (arith, c.inside)

-- What laying comes to, whichever way: the set t is s with other bins, headers and cells.
pub record Done (s : Set) (P : ℕ → Type 0) (k i : ℕ) (l : List ℕ) (h : ℕ) (t : Set) : Type 0 where
  pub bins : List ℕ
  pub heads : List ℕ
  pub cells : List ℕ
  pub is : t ≡ rewritten s bins heads cells
  pub fit : Fit (rewritten s bins heads cells)
  pub loose : Loose (rewritten s bins heads cells) (λ x. P x × (times x l ≡ 0))
  pub entries : (m j x : ℕ) → EntryOf (rewritten s bins heads cells) m j x ↔ (EntryOf s m j x ⊎ ((m ≡ k) × (j ≡ i) × (1 ≤ times x l)))
  pub bin : Bin
  pub here : bin_at (rewritten s bins heads cells) k i ≡ bin
  pub sits : Sits (rewritten s bins heads cells) l bin
  pub there : (m j : ℕ) → BinThere s m j → ((m ≡ k) × (j ≡ i) → ⊥) → bin_at (rewritten s bins heads cells) m j ≡ bin_at s m j
  pub spares : (x : ℕ) → times x l ≡ 0 → Untouched s.cells cells x
  pub places : (x : ℕ) → cell cells x place ≡ cell s.cells x place
  pub lists : (m j : ℕ) → BinThere s m j → ((m ≡ k) × (j ≡ i) → ⊥) → {v : List ℕ} → BinLists s (bin_at s m j) v
      → BinLists (rewritten s bins heads cells) (bin_at (rewritten s bins heads cells) m j) v
  pub headers : (g : ℕ) → bin ≢ tree g → SameHeader s bins heads cells g
  pub range : headers_in (rewritten s bins heads cells) ≡ headers_in s
  pub named : (g : ℕ) → bin ≡ tree g → g ≡ h
  pub form : Form l bin
  pub planted : (g : ℕ) → bin ≡ tree g → Planted (rewritten s bins heads cells) g l

module _ {s : Set} {P : ℕ → Type 0} (fit : Fit s) (loose : Loose s P) {k i : ℕ} (spot : BinThere s k i) (was : bin_at s k i ≡ empty)
    (above : (j : ℕ) → k ≡ suc j → bin_at s j (i % length_at s j) ≡ moved) (l : List ℕ) (pending : (x : ℕ) → 1 ≤ times x l → P x)
    (homes : (x : ℕ) → 1 ≤ times x l → bini (length_at s k) (name_of s.names x hash_part) ≡ i) (d : Distinct s.names l)
    (strung : Listed (slots_of s.names) s.cells (head_of l) l) (few : length l ≤ slots_of s.names) where
  inside : (x : ℕ) → 1 ≤ times x l → x < slots_of s.names
  inside x z = loose.inside x (pending x z)

  seven : length s.cells ≡ 7 * slots_of s.names
  seven = omega (arith, fit.seven, slots_are fit)

  -- As a list.
  abbrev plain : List ℕ
  plain = plained (slots_of s.names) s.cells (head_of l)

  made : Lined s.cells l plain
  made = plain_list (slots_of s.names) s.cells seven (small fit) strung few d.once

  abbrev list_bin : List ℕ → Bin
  list_bin [] = empty
  list_bin (x ∷ m) = list x

  list_word_lem : (m : List ℕ) → ((x : ℕ) → 1 ≤ times x m → x < slots_of s.names)
      → bin_of (slots_of s.names) (headers_in s) (list_head (head_of m)) ≡ list_bin m
  unfolding list_head
  list_word_lem [] b = (ranges (slots_of s.names) (headers_in s) 0).empties.1 refl
  list_word_lem (x ∷ m) b =
      let w = b x (omega (arith, times_head x m)) in
      let r : x < most_slots = omega (arith, slots_are fit, fit.slots_most) in
      rw (lt-ltb x most_slots r)
      (((ranges (slots_of s.names) (headers_in s) _).lists x).1 (omega arith, omega arith, omega arith, w))

  abbrev listed : Set
  listed = rewritten s (set s.bins (place_of s k i) (list_head (head_of l))) s.heads plain

  sits_list : (m : List ℕ) → l ≡ m → Sits listed l (list_bin m)
  sits_list [] e = nothing e
  sits_list (x ∷ m) e =
      as_list
      (record {
        visits = l;
        ends = subst (λ (a : ℕ). Listed (slots_of s.names) plain a l) (ap head_of e) (listed_next made.nexts strung);
        apart = distinct_apart l d;
        plain = made.plain;
      })
      refl
      (rw e (omega (arith, times_head x m)))

  list_bin_tree : (m : List ℕ) (h : ℕ) → list_bin m ≢ tree h
  list_bin_tree [] h e = let z : ◌≡◌ {A = ℕ} 0 1 = cc in omega arith
  list_bin_tree (x ∷ m) h e = let z : ◌≡◌ {A = ℕ} 0 1 = cc in omega arith

  pub lays_list : Lays s P k i l (list_bin l) (set s.bins (place_of s k i) (list_head (head_of l))) s.heads plain
  lays_list =
      record {
        fit = fit_over fit (length-set s.bins (place_of s k i) (list_head (head_of l))) refl made.long;
        loose = loose;
        spot = spot;
        was = was;
        above = above;
        pending = pending;
        homes = homes;
        range = refl;
        here = written_here fit spot (list_head (head_of l)) s.heads plain refl ∙ list_word_lem l inside;
        there = written_else fit spot (list_head (head_of l)) s.heads plain refl;
        spares = made.spares;
        headers = λ h e. record { root = refl; first = refl; count = refl };
        blank = λ h e. absurd (list_bin_tree l h e);
        sits = sits_list l refl;
      }

  -- As a tree under a header that has no root.
  module _ (h : ℕ) (free : h < headers_in s) (rootless : root_at s h ≡ null) (some : 1 ≤ length l) where
    abbrev chained : List ℕ
    chained = backed (slots_of s.names) s.cells null (head_of l)

    behind : Backed (slots_of s.names) s.cells null l chained
    behind = backed_chain (slots_of s.names) s.cells null seven (small fit) strung few d.once

    -- The slots are strung as they were.
    still : Listed (slots_of s.names) chained (head_of l) l
    still = listed_next behind.nexts strung

    abbrev grown : Links
    grown = tree_grown s (head_of l)

    tree_made : Built s.names chained l grown
    unfolding tree_grown
    tree_made = built_all s.names chained l (slots_of s.names) (head_of l) still few (behind.long ∙ seven) (small fit) d

    room : 3 * h + 2 < length s.heads
    room = omega (arith, fit.three)

    abbrev tops : List ℕ
    tops = tree_heads s h (head_of l) (length l)

    abbrev bins : List ℕ
    bins = set s.bins (place_of s k i) (tree_head h)

    top_long : length tops ≡ length s.heads
    unfolding tree_heads
    top_long = headed_long s.heads h _ _ _

    untouched : (x : ℕ) → times x l ≡ 0 → Untouched s.cells grown.cells x
    untouched x z f b = tree_made.spares x f z b ∙ behind.spares x z f b

    first_slot : (m : List ℕ) → ((x : ℕ) → 1 ≤ times x m → x < slots_of s.names) → 1 ≤ length m → head_of m ≢ null
    first_slot [] b z e = omega arith
    first_slot (x ∷ m) b z e = omega (arith, b x (omega (arith, times_head x m)), small fit)

    tree_root : grown.root ≢ null
    tree_root e =
        has_root tree_made.holds.rooted.hangs (small fit) (omega (arith, tree_made.size))
        (sym tree_made.holds.rooted.from ∙ e)

    -- The header has the tree's root, the first of its chain, and the number of its slots.
    top_root : root_at (rewritten s bins tops grown.cells) h ≡ grown.root
    unfolding tree_heads
    top_root = headed_root s.heads h _ _ _ room

    top_first : first_at (rewritten s bins tops grown.cells) h ≡ head_of l
    unfolding tree_heads
    top_first = headed_first s.heads h _ _ _ room

    top_count : count_at (rewritten s bins tops grown.cells) h ≡ length l
    unfolding tree_heads
    top_count = headed-count s.heads h _ _ _ room

    top_else : (j : ℕ) → j ≢ 3 * h → j ≢ 3 * h + 1 → j ≢ 3 * h + 2 → get_or tops j null ≡ get_or s.heads j null
    unfolding tree_heads
    top_else = headed_else s.heads h _ _ _

    sits_tree : Sits (rewritten s bins tops grown.cells) l (tree h)
    sits_tree =
        let e = top_root in
        let f = top_first in
        let c = top_count in
        as_tree {h = h} (rw e tree_root) (rw f (first_slot l inside some))
        (record {
          tree = tree_made.tree;
          rooted = rw e tree_made.holds.rooted;
          rising = tree_made.rising;
          coloured = tree_made.balanced.coloured;
          level = tree_made.balanced.level;
          size = tree_made.size ∙ sym c;
        })
        tree_made.counts
        (rw f
        (chain_frame
        (λ x z. record { prevs = tree_made.keeps x prev prev_aside; nexts = tree_made.keeps x next next_aside }) (behind.chain strung)))
        (sym c)

    tree_word : bin_of (slots_of s.names) (headers_in s) (tree_head h) ≡ tree h
    unfolding tree_head
    tree_word =
        let r : h < most_slots = omega (arith, headers_are fit, fit.headers_most) in
        rw (lt-ltb h most_slots r)
        (((ranges (slots_of s.names) (headers_in s) _).trees h).1 (omega arith, omega arith, omega arith, free))

    pub lays_tree : Lays s P k i l (tree h) bins tops grown.cells
    lays_tree =
        record {
          fit = fit_over fit (length-set s.bins (place_of s k i) (tree_head h)) top_long (tree_made.long ∙ behind.long);
          loose = loose;
          spot = spot;
          was = was;
          above = above;
          pending = pending;
          homes = homes;
          range = written_range fit spot (tree_head h) tops grown.cells top_long;
          here = written_here fit spot (tree_head h) tops grown.cells top_long ∙ tree_word;
          there = written_else fit spot (tree_head h) tops grown.cells top_long;
          spares = untouched;
          headers = λ g e. other_header g (λ z. e (ap tree (sym z)));
          blank = λ g e. rw (same e) at rootless;
          sits = sits_tree;
        }
      where
        same : {g : ℕ} → tree h ≡ tree g → h ≡ g
        same e = cc

        other_header : (g : ℕ) → g ≢ h → SameHeader s bins tops grown.cells g
        other_header g n =
            record {
              root = top_else (3 * g) (omega arith) (omega arith) (omega arith);
              first = top_else (3 * g + 1) (omega arith) (omega arith) (omega arith);
              count = top_else (3 * g + 2) (omega arith) (omega arith) (omega arith);
            }

    tree_planted : Planted (rewritten s bins tops grown.cells) h l
    unfolding tree_grown
    tree_planted =
        record {
          start = lent_links chained null [];
          empty = refl;
          end = grown;
          grows = grows_all s.names (slots_of s.names) (small fit) still few;
          root = top_root;
          words = λ x f m b. refl;
        }

    pub tree_places : (x : ℕ) → cell grown.cells x place ≡ cell s.cells x place
    tree_places x = tree_made.keeps x place place_aside ∙ behind.places x

  small_form : (m : List ℕ) → length m ≤ 6 → Form m (list_bin m)
  small_form [] b = as_none refl
  small_form (x ∷ m) b = as_few (omega arith) b

  tree_is : {a c : ℕ} → tree a ≡ tree c → a ≡ c
  tree_is e = cc

  done_list : (h : ℕ) → length l ≤ 6 → Done s P k i l h (list_laid s k i (head_of l))
  unfolding list_laid
  done_list h b =
      let g = lays_list in
      record {
        bins = _;
        heads = _;
        cells = _;
        is = refl;
        fit = g.fit;
        loose = laid_loose s P k i l (list_bin l) _ _ _ g;
        entries = laid_entries s P k i l (list_bin l) _ _ _ g;
        bin = list_bin l;
        here = g.here;
        sits = g.sits;
        there = g.there;
        spares = g.spares;
        places = made.places;
        lists = laid_lists s P k i l (list_bin l) _ _ _ g;
        headers = g.headers;
        range = g.range;
        named = λ a e. absurd (list_bin_tree l a e);
        form = small_form l b;
        planted = λ a e. absurd (list_bin_tree l a e);
      }

  done_tree : (h : ℕ) → h < headers_in s → root_at s h ≡ null → 6 < length l → Done s P k i l h (tree_laid s k i h (head_of l) (length l))
  unfolding tree_laid
  done_tree h b e big =
      let z : 1 ≤ length l = omega arith in
      let g = lays_tree h b e z in
      record {
        bins = _;
        heads = _;
        cells = _;
        is = refl;
        fit = g.fit;
        loose = laid_loose s P k i l (tree h) _ _ _ g;
        entries = laid_entries s P k i l (tree h) _ _ _ g;
        bin = tree h;
        here = g.here;
        sits = g.sits;
        there = g.there;
        spares = g.spares;
        places = tree_places h b e z;
        lists = laid_lists s P k i l (tree h) _ _ _ g;
        headers = g.headers;
        range = g.range;
        named = λ a y. sym (tree_is y);
        form = as_many big;
        planted = λ a y. subst (λ (c : ℕ). Planted (tree_laid s k i h (head_of l) (length l)) c l) (tree_is y) (tree_planted h b e z);
      }

  pub done : (h : ℕ) → (most_listed < length l → (h < headers_in s) × (root_at s h ≡ null))
      → Done s P k i l h (half_laid s k i h (head_of l) (length l))
  unfolding half_laid
  done h fine = go (leb (length l) most_listed) refl
    where
      go : (b : Bool) → leb (length l) most_listed ≡ b → Done s P k i l h (half_laid s k i h (head_of l) (length l))
      go true e = rw e (done_list h (leb-true (length l) most_listed e))
      go false e =
          let big = leb-false (length l) most_listed e in
          let r = fine big in
          rw e (done_tree h r.0 r.1 big)
