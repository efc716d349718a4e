-- A bin that may be moved: it is taken apart, its low half is laid and then its high half. After that no slot is loose, so that the set is
-- accepted.
-- Parts: the two halves of the entries; the pass that strings them; the low half is laid; the high half is laid, under another header; the
-- set is accepted; where its entries come from; its bins, headers and slots, all in one law.
use mathlib.Core.Path.{◌≡◌, refl, ap, sym, subst, ◌∙◌}
use mathlib.Core.Logic.{◌≢◌, ◌⊎◌, inl, inr, ◌↔◌}
use mathlib.Core.List.{List}
use Prim.Native.Nat.{ℕ, suc, ◌+◌, ◌%◌, ◌<◌, ◌≤◌}
use native.Mathlib.Decide.{ℕ_discrete}
use native.Mathlib.Omega.{arith}
use lib.ListN.{length}
use borrow.Author.Tests.{lt-ltb}
use Rattle.slots.specs.Words.{null, place, state, parent, left, right, prev, next, name_of, hash_part, cell}
use Rattle.slots.proofs.Laws.{cell-null}
use Rattle.tree_rules.specs.Check.{LinksNamed}
use Rattle.tree_rules.specs.Find.{slots_of}
use Rattle.tree_rules.specs.Tree.{times}
use Rattle.set_rules.specs.Words.{Set, Fit, tables_of, length_at, headers_in, root_at, first_at, count_at}
use Rattle.set_rules.specs.Words.{Bin, empty, moved, tree, bin_at, bini}
use Rattle.set_rules.specs.Held.{EntryFrom}
use Rattle.set_rules.specs.Cursor.{Cursor, BadCursor}
use Rattle.set_rules.specs.Walk.{nexts}
use Rattle.set_rules.specs.Whole.{Gives}
use Rattle.set_rules.proofs.Gathering.{not-empty}
use Rattle.set_rules.proofs.Walked.{walked}
use Rattle.move_rules.specs.Moving.{rewritten, heads_freed, bins_moved, cells_halved, bin_taken, half_laid, half_count, half_first}
use Rattle.move_rules.specs.Moving.{most_listed, low_header, high_header, low_laid, both_laid}
use Rattle.move_rules.specs.Moved.{FreeHeader, Form, Planted, Elsewhere, BinMoved}
use Rattle.move_rules.proofs.Finding.{same_lookup, same_walk}
use Rattle.move_rules.proofs.BinRow.{fit_over}
use Rattle.move_rules.proofs.Lining.{Threaded, Past, threads}
use Rattle.move_rules.proofs.Threading.{Threads, threaded_loose, threaded_entries, threaded_lists}
use Rattle.move_rules.proofs.Laying.{sits_lists, list_links}
use Rattle.set_rules.specs.Accepted.{BinThere, EntryOf, Accepted}
use Rattle.set_rules.proofs.Fit.{small, ends, slots_are, length_least, near_parent, far_parent}
use Rattle.set_rules.proofs.Homes.{entry-only}
use Rattle.move_rules.proofs.Building.{Distinct}
use Rattle.move_rules.proofs.Framing.{BinLists, lists_gives, gives_lists, Untouched, listed_frame}
use Rattle.move_rules.proofs.Laid.{Done, done}
use Rattle.move_rules.proofs.Choosing.{HighChosen}
use Rattle.move_rules.proofs.Loose.{settled}
use Rattle.move_rules.proofs.Taking.{taken_fit, taken_loose, taken-below, taken_here, taken_entries, taken_there, taken_lists}
use Rattle.move_rules.proofs.Taking.{taken_free, taken_header, own_free}
use Rattle.move_rules.proofs.Halves.{entries_in, low_half, high_half, homed_times, homed_home, homed_less, homed_distinct}
use Rattle.move_rules.proofs.Halves.{entries_strung}
use Rattle.move_rules.proofs.Halves.{entries_most, entries_own, entries_distinct, low_count, low_first, high_count, high_first}
use Rattle.move_rules.proofs.Halves.{parted}
use Rattle.move_rules.proofs.Halves.{away_high, both_count}

-- The set once the bin is taken apart, before its halves are strung.
abbrev pub taken_of : Set → ℕ → ℕ → Set
taken_of s k i = rewritten s (bins_moved s k i) (heads_freed s.heads (bin_at s k i)) s.cells

-- Whether a cursor is bad is told by the tables' lengths and the number of slots.
same_cursors : (s : Set) (bins heads cells : List ℕ) (c : Cursor) → BadCursor (rewritten s bins heads cells) c → BadCursor s c
same_cursors s bins heads cells c (BadCursor.no_base b) = BadCursor.no_base b
same_cursors s bins heads cells c (BadCursor.too_deep b) = BadCursor.too_deep b
same_cursors s bins heads cells c (BadCursor.out_of_range j a b d) = BadCursor.out_of_range j a b d
same_cursors s bins heads cells c (BadCursor.not_congruent j a d) = BadCursor.not_congruent j a d
same_cursors s bins heads cells c (BadCursor.stray_last a b) = BadCursor.stray_last a b

module _ {s : Set} (fit : Fit s) (acc : Accepted s) {k i : ℕ} (p : BinThere s k i) (lower : suc k < tables_of s)
    (unmoved : bin_at s k i ≢ moved) (above : (j : ℕ) → k ≡ suc j → bin_at s j (i % length_at s j) ≡ moved) where
  -- The halves.
  pub low_own : (x : ℕ) → 1 ≤ times x (low_half s k i) → EntryOf s k i x
  unfolding low_half
  low_own x z =
      (entries_own fit acc p x).0 (omega (arith, homed_less s.names (length_at s (suc k)) i (entries_in s (bin_at s k i)) x))

  pub low_home : (x : ℕ) → 1 ≤ times x (low_half s k i) → bini (length_at s (suc k)) (name_of s.names x hash_part) ≡ i
  unfolding low_half
  low_home x z = homed_home s.names (length_at s (suc k)) i (entries_in s (bin_at s k i)) x z

  pub low_all : (x : ℕ) → EntryOf s k i x → bini (length_at s (suc k)) (name_of s.names x hash_part) ≡ i → 1 ≤ times x (low_half s k i)
  unfolding low_half
  low_all x e h =
      omega (arith, homed_times s.names (length_at s (suc k)) i (entries_in s (bin_at s k i)) x h, (entries_own fit acc p x).1 e)

  low_distinct : Distinct s.names (low_half s k i)
  unfolding low_half
  low_distinct = homed_distinct s.names (length_at s (suc k)) i (entries_in s (bin_at s k i)) (entries_distinct fit acc p)

  pub high_own : (x : ℕ) → 1 ≤ times x (high_half s k i) → EntryOf s k i x
  unfolding high_half
  high_own x z =
      (entries_own fit acc p x).0
      (omega (arith, homed_less s.names (length_at s (suc k)) (i + length_at s k) (entries_in s (bin_at s k i)) x))

  pub high_home : (x : ℕ) → 1 ≤ times x (high_half s k i)
      → bini (length_at s (suc k)) (name_of s.names x hash_part) ≡ i + length_at s k
  unfolding high_half
  high_home x z = homed_home s.names (length_at s (suc k)) (i + length_at s k) (entries_in s (bin_at s k i)) x z

  pub high_all : (x : ℕ) → EntryOf s k i x → bini (length_at s (suc k)) (name_of s.names x hash_part) ≡ i + length_at s k
      → 1 ≤ times x (high_half s k i)
  unfolding high_half
  high_all x e h =
      omega (
        arith,
        homed_times s.names (length_at s (suc k)) (i + length_at s k) (entries_in s (bin_at s k i)) x h,
        (entries_own fit acc p x).1 e,
      )

  high_distinct : Distinct s.names (high_half s k i)
  unfolding high_half
  high_distinct =
      homed_distinct s.names (length_at s (suc k)) (i + length_at s k) (entries_in s (bin_at s k i)) (entries_distinct fit acc p)

  -- There are no more of them than slots.
  low_few : length (low_half s k i) ≤ slots_of s.names
  low_few = omega (arith, both_count fit acc p lower, entries_most fit acc p)

  high_few : length (high_half s k i) ≤ slots_of s.names
  high_few = omega (arith, both_count fit acc p lower, entries_most fit acc p)

  some_bins : 1 ≤ length_at s k
  some_bins = length_least fit k (omega arith)

  pub low_there : BinThere s (suc k) i
  low_there = record { table = lower; index = omega (arith, fit.twice k lower, p.index) }

  high_there : BinThere s (suc k) (i + length_at s k)
  high_there = record { table = lower; index = omega (arith, fit.twice k lower, p.index) }

  -- No entry is in both.
  pub not_both : (x : ℕ) → 1 ≤ times x (low_half s k i) → 1 ≤ times x (high_half s k i) → ⊥
  not_both x u v = let e : i ≡ i + length_at s k = sym (low_home x u) ∙ high_home x v in omega (arith, some_bins)

  -- The pass that strings the halves.
  pass : Threaded (slots_of s.names) s.cells null null (entries_in s (bin_at s k i)) (low_half s k i) (high_half s k i) (cells_halved s k i)
  unfolding low_half cells_halved
  pass =
      rw (← away_high fit acc p lower)
      (threads (slots_of s.names) s.names (length_at s (suc k)) i s.cells null null (omega (arith, fit.seven, slots_are fit))
      (small fit) (entries_strung fit acc p) (entries_most fit acc p) (entries_distinct fit acc p).once none none)
    where
      none : Past (slots_of s.names) null null (entries_in s (bin_at s k i))
      none = record { other = λ h. absurd (omega (arith, small fit)); gone = λ h. absurd (omega (arith, small fit)) }

  strung_threads : Threads (taken_of s k i) (EntryOf s k i) (entries_in s (bin_at s k i)) (cells_halved s k i)
  strung_threads =
      record {
        fit = fit_over (taken_fit fit acc p lower unmoved above) refl refl pass.long;
        loose = taken_loose fit acc p lower unmoved above;
        pending = λ x z. (entries_own fit acc p x).0 z;
        spares = λ x z. spares x z (ℕ_discrete x null);
        states = λ x. pass.aside x state refl refl;
        links = λ x z. links x z (acc.words.links x ((taken_loose fit acc p lower unmoved above).inside x ((entries_own fit acc p x).0 z)));
      }
    where
      spares : (x : ℕ) → times x (entries_in s (bin_at s k i)) ≡ 0 → Dec (x ≡ null) → Untouched s.cells (cells_halved s k i) x
      spares x z (no d) f b = pass.spares x z d d f b
      spares x z (yes e) f b =
          rw e (cell-null (cells_halved s k i) f (omega (arith, pass.long, ends fit)) ∙ sym (cell-null s.cells f (ends fit)))

      next_in_lem : (x : ℕ) → EntryOf s k i x
          → (cell (cells_halved s k i) x next ≡ null) ⊎ (cell (cells_halved s k i) x next < slots_of s.names)
      next_in_lem x e = go (parted fit acc p lower x e)
        where
          go : (bini (length_at s (suc k)) (name_of s.names x hash_part) ≡ i)
              ⊎ (bini (length_at s (suc k)) (name_of s.names x hash_part) ≡ i + length_at s k)
              → (cell (cells_halved s k i) x next ≡ null) ⊎ (cell (cells_halved s k i) x next < slots_of s.names)
          go (inl h) = list_links x pass.lows (low_all x e h)
          go (inr h) = list_links x pass.highs (high_all x e h)

      links : (x : ℕ) → 1 ≤ times x (entries_in s (bin_at s k i)) → LinksNamed (slots_of s.names) s.cells x
          → LinksNamed (slots_of s.names) (cells_halved s k i) x
      links x z w =
          record {
            parents = rw (pass.aside x parent refl refl) w.parents;
            lefts = rw (pass.aside x left refl refl) w.lefts;
            rights = rw (pass.aside x right refl refl) w.rights;
            prevs = rw (pass.aside x prev refl refl) w.prevs;
            nexts = next_in_lem x ((entries_own fit acc p x).0 z);
          }

  pub strung_fit : Fit (bin_taken s k i)
  strung_fit = strung_threads.fit

  pub half_done : (most_listed < length (low_half s k i) → FreeHeader s k i (low_header s k i))
      → Done (bin_taken s k i) (EntryOf s k i) (suc k) i (low_half s k i) (low_header s k i) (low_laid s k i)
  unfolding low_laid
  half_done e =
      rw (low_count fit acc p, low_first fit acc p)
      (done strung_fit (threaded_loose (taken_of s k i) (EntryOf s k i) (entries_in s (bin_at s k i)) (cells_halved s k i) strung_threads)
      (record { table = low_there.table; index = low_there.index })
      (taken-below fit acc p lower unmoved above i low_there (near_parent i (length_at s k) p.index))
      up (low_half s k i) low_own low_home low_distinct pass.lows low_few (low_header s k i)
      (λ b. (taken_free fit acc p lower unmoved above (low_header s k i)).0 (e b)))
    where
      up : (j : ℕ) → suc k ≡ suc j → bin_at (taken_of s k i) j (i % length_at s j) ≡ moved
      up j e =
          let z : k ≡ j = omega arith in
          rw (← z, near_parent i (length_at s k) p.index) (taken_here fit acc p lower unmoved above)

  strung_entries : (m j x : ℕ) → EntryOf (bin_taken s k i) m j x ↔ EntryOf (taken_of s k i) m j x
  strung_entries = threaded_entries (taken_of s k i) (EntryOf s k i) (entries_in s (bin_at s k i)) (cells_halved s k i) strung_threads

  strung_lists : (m j : ℕ) → BinThere s m j → ((m ≡ k) × (j ≡ i) → ⊥) → {v : List ℕ} → BinLists s (bin_at s m j) v
      → BinLists (bin_taken s k i) (bin_at (bin_taken s k i) m j) v
  strung_lists m j q a z =
      threaded_lists (taken_of s k i) (EntryOf s k i) (entries_in s (bin_at s k i)) (cells_halved s k i) strung_threads m j
      (record { table = q.table; index = q.index }) (taken_lists fit acc p lower unmoved above m j q a z)

  module _ (d : Done (bin_taken s k i) (EntryOf s k i) (suc k) i (low_half s k i) (low_header s k i) (low_laid s k i)) where
    abbrev halfway : Set
    halfway = rewritten s d.bins d.heads d.cells

    large : {v : List ℕ} {a : ℕ} {b : Bin} → Form v b → b ≡ tree a → most_listed < length v
    large (Form.as_none z) e = let y : ◌≡◌ {A = ℕ} 0 1 = cc in absurd (omega arith)
    large (Form.as_few z w) e = let y : ◌≡◌ {A = ℕ} 0 1 = cc in absurd (omega arith)
    large (Form.as_many z) e = z

    -- The high half's header is not the low half's.
    pub apart_headers : {g : ℕ} → HighChosen fit acc p g → d.bin ≢ tree g
    apart_headers {g} c e = c.other (large d.form e) (d.named g e)

    pub whole_done : (most_listed < length (high_half s k i) → HighChosen fit acc p (high_header s k i))
        → Done halfway (λ x. EntryOf s k i x × (times x (low_half s k i) ≡ 0)) (suc k) (i + length_at s k) (high_half s k i)
        (high_header s k i)
        (both_laid s k i)
    unfolding both_laid
    whole_done e =
        subst
        (λ (h : Set). Done halfway (λ x. EntryOf s k i x × (times x (low_half s k i) ≡ 0)) (suc k) (i + length_at s k) (high_half s k i)
        (high_header s k i) (half_laid h (suc k) (i + length_at s k) (high_header s k i) (half_first s k i (i + length_at s k))
        (half_count s k i (i + length_at s k)))) (sym d.is)
        (rw (high_count fit acc p, high_first fit acc p)
        (done d.fit d.loose (record { table = high_there.table; index = high_there.index })
        was up (high_half s k i) (λ x z. (high_own x z, none x z)) high_home high_distinct
        (listed_frame (λ x z. d.spares x (none x z)) pass.highs) high_few (high_header s k i) (λ b. rootless (e b))))
      where
        none : (x : ℕ) → 1 ≤ times x (high_half s k i) → times x (low_half s k i) ≡ 0
        none x z = go (ℕ_discrete (times x (low_half s k i)) 0)
          where
            go : Dec (times x (low_half s k i) ≡ 0) → times x (low_half s k i) ≡ 0
            go (yes y) = y
            go (no y) = absurd (not_both x (omega arith) z)

        rootless : HighChosen fit acc p (high_header s k i)
            → (high_header s k i < headers_in halfway) × (root_at halfway (high_header s k i) ≡ null)
        rootless c =
            let z = (taken_free fit acc p lower unmoved above (high_header s k i)).0 c.frees in
            (omega (arith, z.0, d.range), (d.headers (high_header s k i) (apart_headers c)).root ∙ z.1)

        was : bin_at halfway (suc k) (i + length_at s k) ≡ empty
        was =
            d.there (suc k) (i + length_at s k) (record { table = high_there.table; index = high_there.index })
            (λ z. omega (arith, z.1, some_bins))
            ∙ taken-below fit acc p lower unmoved above (i + length_at s k) high_there (far_parent i (length_at s k) p.index)

        up : (j : ℕ) → suc k ≡ suc j → bin_at halfway j ((i + length_at s k) % length_at s j) ≡ moved
        up j e =
            let z : k ≡ j = omega arith in
            rw (← z, far_parent i (length_at s k) p.index)
            (d.there k i (record { table = p.table; index = p.index }) (λ y. omega (arith, y.0))
            ∙ taken_here fit acc p lower unmoved above)

    module _ (g : Done halfway (λ x. EntryOf s k i x × (times x (low_half s k i) ≡ 0)) (suc k) (i + length_at s k) (high_half s k i)
        (high_header s k i) (both_laid s k i))
        (lows : most_listed < length (low_half s k i)
        → FreeHeader s k i (low_header s k i) × ((j : ℕ) → j < low_header s k i → FreeHeader s k i j → ⊥))
        (highs : most_listed < length (high_half s k i) → HighChosen fit acc p (high_header s k i)) where
      abbrev after : Set
      after = rewritten s g.bins g.heads g.cells

      pub moved_accepted : Accepted after
      moved_accepted = settled g.loose none
        where
          none : (x : ℕ) → (EntryOf s k i x × (times x (low_half s k i) ≡ 0)) × (times x (high_half s k i) ≡ 0) → ⊥
          none x z = go (parted fit acc p lower x z.0.0)
            where
              go : (bini (length_at s (suc k)) (name_of s.names x hash_part) ≡ i)
                  ⊎ (bini (length_at s (suc k)) (name_of s.names x hash_part) ≡ i + length_at s k) → ⊥
              go (inl h) = omega (arith, low_all x z.0.0 h, z.0.1)
              go (inr h) = omega (arith, high_all x z.0.0 h, z.1)

      over_half : {m j : ℕ} → BinThere s m j → BinThere halfway m j
      over_half q = record { table = q.table; index = q.index }

      over-taken : {m j : ℕ} → BinThere s m j → BinThere (bin_taken s k i) m j
      over-taken q = record { table = q.table; index = q.index }

      -- Where an entry of the new set comes from.
      come_from : {A : Type 0} (m j x : ℕ) → EntryOf after m j x → (((m ≡ k) × (j ≡ i) → ⊥) → EntryOf s m j x → A)
          → ((m ≡ suc k) × (j ≡ i) × (1 ≤ times x (low_half s k i)) → A)
          → ((m ≡ suc k) × (j ≡ i + length_at s k) × (1 ≤ times x (high_half s k i)) → A) → A
      come_from {A} m j x e old low high = first ((g.entries m j x).0 e)
        where
          second : EntryOf (bin_taken s k i) m j x ⊎ ((m ≡ suc k) × (j ≡ i) × (1 ≤ times x (low_half s k i))) → A
          second (inl f) =
              let r = (taken_entries fit acc p lower unmoved above m j x).0 ((strung_entries m j x).0 f) in old r.0 r.1
          second (inr z) = low z

          first : EntryOf halfway m j x ⊎ ((m ≡ suc k) × (j ≡ i + length_at s k) × (1 ≤ times x (high_half s k i))) → A
          first (inl f) = second ((d.entries m j x).0 f)
          first (inr z) = high z

      stays : (m j x : ℕ) → ((m ≡ k) × (j ≡ i) → ⊥) → EntryOf s m j x → EntryOf after m j x
      stays m j x n e =
          let r = (strung_entries m j x).1 ((taken_entries fit acc p lower unmoved above m j x).1 (n, e)) in
          (g.entries m j x).1 (inl ((d.entries m j x).1 (inl r)))

      goes_low : (x : ℕ) → 1 ≤ times x (low_half s k i) → EntryOf after (suc k) i x
      goes_low x z = (g.entries (suc k) i x).1 (inl ((d.entries (suc k) i x).1 (inr (refl, refl, z))))

      goes_high : (x : ℕ) → 1 ≤ times x (high_half s k i) → EntryOf after (suc k) (i + length_at s k) x
      goes_high x z = (g.entries (suc k) (i + length_at s k) x).1 (inr (refl, refl, z))

      apart : (x : ℕ) → EntryOf after (suc k) i x → EntryOf after (suc k) (i + length_at s k) x → ⊥
      apart x e f =
          let r = entry-only g.fit moved_accepted.parent_moved_lem moved_accepted.home e f in omega (arith, r.1, some_bins)

      -- The bins below held nothing.
      none_below : (j x : ℕ) → BinThere s (suc k) j → j % length_at s k ≡ i → EntryOf s (suc k) j x → ⊥
      none_below j x q e f = not-empty f.holds (acc.parent_moved_lem k j q (λ z. unmoved (ap (λ (y : ℕ). bin_at s k y) (sym e) ∙ z)))

      abbrev InHalf : ℕ → Type 0
      InHalf x =
          ((bini (length_at s (suc k)) (name_of s.names x hash_part) ≡ i)
          × EntryOf after (suc k) i x × (EntryOf after (suc k) (i + length_at s k) x → ⊥))
          ⊎ ((bini (length_at s (suc k)) (name_of s.names x hash_part) ≡ i + length_at s k)
          × EntryOf after (suc k) (i + length_at s k) x × (EntryOf after (suc k) i x → ⊥))

      one_half : (x : ℕ) → EntryOf s k i x → InHalf x
      one_half x e = go (parted fit acc p lower x e)
        where
          go : (bini (length_at s (suc k)) (name_of s.names x hash_part) ≡ i)
              ⊎ (bini (length_at s (suc k)) (name_of s.names x hash_part) ≡ i + length_at s k)
              → InHalf x
          go (inl h) = let f = goes_low x (low_all x e h) in inl (h, f, λ z. apart x f z)
          go (inr h) = let f = goes_high x (high_all x e h) in inr (h, f, λ z. apart x z f)

      from_low : (x : ℕ) → EntryOf after (suc k) i x → EntryOf s k i x
      from_low x e =
          come_from (suc k) i x e (λ n f. absurd (none_below i x low_there (near_parent i (length_at s k) p.index) f))
          (λ z. low_own x z.2) (λ z. high_own x z.2)

      from_high : (x : ℕ) → EntryOf after (suc k) (i + length_at s k) x → EntryOf s k i x
      from_high x e =
          come_from (suc k) (i + length_at s k) x e
          (λ n f. absurd (none_below (i + length_at s k) x high_there (far_parent i (length_at s k) p.index) f))
          (λ z. low_own x z.2) (λ z. high_own x z.2)

      -- The entries from a table on, but for the next, are the same.
      pub from_table : (from : ℕ) → from ≢ suc k → (x : ℕ) → EntryFrom after from x ↔ EntryFrom s from x
      from_table from n x = (back, over)
        where
          old : {m j : ℕ} → from ≤ m → EntryOf s m j x → EntryFrom s from x
          old {m} {j} b e = record { table = m; index = j; later = b; entry = e }

          back : EntryFrom after from x → EntryFrom s from x
          back f =
              come_from f.table f.index x f.entry (λ z e. old f.later e)
              (λ z. old (omega (arith, f.later, z.0)) (low_own x z.2)) (λ z. old (omega (arith, f.later, z.0)) (high_own x z.2))

          halves : from ≤ k → EntryOf s k i x → EntryFrom after from x
          halves b e = go (one_half x e)
            where
              go : InHalf x → EntryFrom after from x
              go (inl z) = record { table = suc k; index = i; later = omega arith; entry = z.1 }
              go (inr z) = record { table = suc k; index = i + length_at s k; later = omega arith; entry = z.1 }

          over : EntryFrom s from x → EntryFrom after from x
          over f = go (ℕ_discrete f.table k) (ℕ_discrete f.index i)
            where
              stayed : ((f.table ≡ k) × (f.index ≡ i) → ⊥) → EntryFrom after from x
              stayed n =
                  record { table = f.table; index = f.index; later = f.later; entry = stays f.table f.index x n f.entry }

              go : Dec (f.table ≡ k) → Dec (f.index ≡ i) → EntryFrom after from x
              go (yes u) (yes v) =
                  halves (omega (arith, f.later))
                  (subst (λ (y : ℕ). EntryOf s k y x) v (subst (λ (y : ℕ). EntryOf s y f.index x) u f.entry))
              go (yes u) (no v) = stayed (λ z. v z.1)
              go (no u) v = stayed (λ z. u z.0)

      low_bin : bin_at after (suc k) i ≡ d.bin
      low_bin = g.there (suc k) i (over_half low_there) (λ z. omega (arith, z.1, some_bins)) ∙ d.here

      low_header_lem : (h : ℕ) → bin_at after (suc k) i ≡ tree h → FreeHeader s k i h × ((j : ℕ) → j < h → FreeHeader s k i j → ⊥)
      low_header_lem h e = let z = sym low_bin ∙ e in rw (d.named h z) (lows (large d.form z))

      low_named : most_listed < length (low_half s k i) → bin_at after (suc k) i ≡ tree (low_header s k i)
      low_named big = low_bin ∙ go d.form d.named
        where
          go : {b : Bin} → Form (low_half s k i) b → ((g : ℕ) → b ≡ tree g → g ≡ low_header s k i) → b ≡ tree (low_header s k i)
          go (Form.as_none z) n = absurd (omega (arith, ap length z))
          go (Form.as_few z w) n = absurd (omega arith)
          go (Form.as_many {h} z) n = ap tree (n h refl)

      high_header_lem : (h : ℕ) → bin_at after (suc k) (i + length_at s k) ≡ tree h
          → FreeHeader s k i h × ((j : ℕ) → j < h → FreeHeader s k i j → bin_at after (suc k) i ≡ tree j)
      high_header_lem h e =
          let z = sym g.here ∙ e in
          let c = highs (large g.form z) in
          rw (g.named h z) (
            c.frees,
            λ j b f. (let w = c.lower j b f in low_named w.0 ∙ ap tree (sym w.1)),
          )

      -- The low half's header is not the high half's.
      low_not_high : (h : ℕ) → d.bin ≡ tree h → g.bin ≢ tree h
      low_not_high h e f =
          apart_headers (highs (large g.form f)) (e ∙ ap tree (g.named h f))

      not_high : (x : ℕ) → 1 ≤ times x (low_half s k i) → times x (high_half s k i) ≡ 0
      not_high x z = go (ℕ_discrete (times x (high_half s k i)) 0)
        where
          go : Dec (times x (high_half s k i) ≡ 0) → times x (high_half s k i) ≡ 0
          go (yes y) = y
          go (no y) = absurd (not_both x z (omega arith))

      low_planted : (h : ℕ) → bin_at after (suc k) i ≡ tree h → Planted after h (low_half s k i)
      low_planted h e =
          let z = sym low_bin ∙ e in
          let w = d.planted h z in
          record {
            start = w.start;
            empty = w.empty;
            end = w.end;
            grows = w.grows;
            root = (g.headers h (low_not_high h z)).root ∙ w.root;
            words = λ x f m b. g.spares x (not_high x m) f (lt-ltb f 7 b) ∙ w.words x f m b;
          }

      none_of : (l : List ℕ) (x : ℕ) → (1 ≤ times x l → ⊥) → times x l ≡ 0
      none_of l x n = go (ℕ_discrete (times x l) 0)
        where
          go : Dec (times x l ≡ 0) → times x l ≡ 0
          go (yes y) = y
          go (no y) = absurd (n (omega arith))

      other-slots : (x : ℕ) → (EntryOf s k i x → ⊥) → (f : ℕ) → f < 7 → cell after.cells x f ≡ cell s.cells x f
      other-slots x n f b =
          let c = lt-ltb f 7 b in
          g.spares x (none_of (high_half s k i) x (λ z. n (high_own x z))) f c
          ∙ d.spares x (none_of (low_half s k i) x (λ z. n (low_own x z))) f c
          ∙ strung_threads.spares x (none_of (entries_in s (bin_at s k i)) x (λ z. n ((entries_own fit acc p x).0 z))) f c

      other_headers : (h : ℕ) → (FreeHeader s k i h → ⊥)
          → (root_at after h ≡ root_at s h) × (first_at after h ≡ first_at s h) × (count_at after h ≡ count_at s h)
      other_headers h n =
          let a = g.headers h (λ e. n (high_header_lem h (g.here ∙ e)).0) in
          let b = d.headers h (λ e. n (low_header_lem h (low_bin ∙ e)).0) in
          let c = taken_header fit acc p lower unmoved above h (λ e. n (own_free fit acc p lower unmoved above h e)) in
          (a.root ∙ b.root ∙ c.root, a.first ∙ b.first ∙ c.first, a.count ∙ b.count ∙ c.count)

      low_gives : Gives after (suc k) i (low_half s k i)
      low_gives =
          lists_gives refl
          (g.lists (suc k) i (over_half low_there) (λ z. omega (arith, z.1, some_bins))
          (subst (λ (b : Bin). BinLists halfway b (low_half s k i)) (sym d.here) (sits_lists d.sits)))

      high_gives : Gives after (suc k) (i + length_at s k) (high_half s k i)
      high_gives = lists_gives g.here (sits_lists g.sits)

      here : bin_at after k i ≡ moved
      here =
          g.there k i (over_half p) (λ z. omega (arith, z.0)) ∙ d.there k i (over-taken p) (λ z. omega (arith, z.0))
          ∙ taken_here fit acc p lower unmoved above

      other_words : (m j : ℕ) → BinThere s m j → Elsewhere s k i m j → bin_at after m j ≡ bin_at s m j
      other_words m j q o =
          g.there m j (over_half q) o.high
          ∙ d.there m j (over-taken q) o.low
          ∙ taken_there fit acc p lower unmoved above m j q o.here

      pub moved_well : BinMoved s k i (low_half s k i) (high_half s k i) after
      moved_well =
          record {
            fit = g.fit;
            accepted = moved_accepted;
            lengths = refl;
            names = refl;
            places = λ x. g.places x ∙ d.places x ∙ pass.aside x place refl refl;
            word = here;
            low_gives = low_gives;
            low_form = subst (λ (b : Bin). Form (low_half s k i) b) (sym low_bin) d.form;
            high_gives = high_gives;
            high_form = subst (λ (b : Bin). Form (high_half s k i) b) (sym g.here) g.form;
            in_order = Gives.of_moved here lower low_gives high_gives;
            low_header_lem = low_header_lem;
            high_header_lem = high_header_lem;
            low_planted = low_planted;
            high_planted = λ h e. g.planted h (sym g.here ∙ e);
            one_half = one_half;
            from_bin = λ x. from x;
            other_words = other_words;
            other_entries = λ m j q o x. (
              λ e. come_from m j x e (λ n f. f) (λ z. absurd (o.low (z.0, z.1))) (λ z. absurd (o.high (z.0, z.1))),
              stays m j x o.here,
            );
            other_order =
                λ m j q o n l z. lists_gives refl
                (g.lists m j (over_half q) o.high
                (d.lists m j (over-taken q) o.low (strung_lists m j q o.here (gives_lists z n))));
            other-slots = other-slots;
            other_headers = other_headers;
            cursors = λ c n. (let fine : BadCursor after c → ⊥ = λ b. n (same_cursors s g.bins g.heads g.cells c b) in
                (fine, ((walked.stepping after c).steps g.fit fine (nexts after c)).0 refl));
            lookup = λ from hash key b n. same_lookup s after fit g.fit acc moved_accepted refl from b b (from_table from n) hash key;
            walk = λ from b n. same_walk s after fit g.fit acc moved_accepted from b b (from_table from n);
          }
        where
          from : (x : ℕ) → EntryOf after (suc k) i x ⊎ EntryOf after (suc k) (i + length_at s k) x → EntryOf s k i x
          from x (inl e) = from_low x e
          from x (inr e) = from_high x e
