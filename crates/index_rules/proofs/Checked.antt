-- A call leaves a fit and sound index, so that the next one needs no check; and no call frees a slot but the one that it removes, so that a
-- search for a free slot may go on where the last one ended.
use mathlib.Core.Path.{◌≡◌, refl, sym, ◌∙◌, subst}
use mathlib.Core.Logic.{◌≢◌, ◌⊎◌, inl, inr}
use mathlib.Core.Bool.{Bool, true, false}
use mathlib.Core.List.{List}
use Prim.Native.Nat.{ℕ, zero, suc, ◌+◌, ◌-◌, ◌<◌, ◌≤◌}
use native.Mathlib.Decide.{ℕ_discrete, dec_lt, dec_le}
use native.Mathlib.Omega.{arith}
use lib.Dec.{eqb, leb, ltb}
use borrow.Author.Tests.{eq-eqb, ne_eqb, le-leb, ltb-true, ltb-false}
use Rattle.slots.specs.Words.{null, pick, state, free, fields, cell, most_slots}
use Rattle.slots.specs.Answers.{Answer, Value, some, none, given}
use Rattle.slots.proofs.Laws.{number, value, word_out_lem}
use Rattle.tree_rules.specs.Find.{slots_of}
use Rattle.tree_rules.specs.Tree.{Tree, slots, times}
use Rattle.index_rules.specs.Live.{Live, Fit, count_of}
use Rattle.index_rules.specs.Sound.{Sound, sound}
use Rattle.index_rules.specs.Index.{Index, FitIndex, Outcome, fits_index, JournalLine}
use Rattle.index_rules.specs.Index.{length_of, line_of}
use Rattle.index_rules.specs.Insert.{free_from, lowest_free, sought_in, inserts}
use Rattle.index_rules.specs.Present.{where_present}
use Rattle.index_rules.specs.Remove.{removes, after_remove}
use Rattle.index_rules.specs.Replace.{replaces, after_replace}
use Rattle.index_rules.specs.Rollback.{Undo, stays, misfit, undone, undone_into, unrolled, rolls}
use Rattle.index_rules.specs.Checked.{NoneBelow, lesser, raised_by, lowered_by, floor_after, lowest_from, on_checked, inserts_sound}
use Rattle.index_rules.specs.Checked.{present_sound, removes_sound, replaces_sound, slot_in, freed_by, unrolled_from, rolls_sound}
use Rattle.index_rules.specs.Calls.{Call, insert_call, remove_call, replace_call, rollback_call, called}
use Rattle.index_rules.specs.Claims.{OnceChecked}
use Rattle.tree_rules.proofs.Counting.{times_rest}
use Rattle.index_rules.proofs.Rules.{small}
use Rattle.index_rules.proofs.Frames.{free_nowhere, nowhere_free, without_else}
use Rattle.index_rules.proofs.Free.{lowest_free_lem, none_free}
use Rattle.index_rules.proofs.Holding.{contents-length}
use Rattle.index_rules.proofs.Lists.{in_chain, in_tree, listing-length}
use Rattle.index_rules.proofs.Sounding.{sound_yes}
use Rattle.index_rules.proofs.Journal.{index-fits}
use Rattle.index_rules.proofs.Unrolling.{listing_most, undone_step}
use Rattle.index_rules.proofs.Inserting.{insert_claims, insert_settled, insert_plain}
use Rattle.index_rules.proofs.Removing.{remove_claims, remove_settled}
use Rattle.index_rules.proofs.Replacing.{replace_claims, replace_settled}
use Rattle.index_rules.proofs.Rolling.{rollback_claims, rollback_settled}

-- The search from a floor finds what the search from 0 finds.
module _ (t : Live) where
  abbrev n : ℕ
  n = slots_of t.names

  one_up : (f : ℕ) → cell t.cells f state ≢ free → Dec (f < n) → free_from (n - suc f) t.cells (suc f) ≡ free_from (n - f) t.cells f
  unfolding free_from
  one_up f d (yes l) =
      let e : n - f ≡ suc (n - suc f) = omega arith in
      rw (e, ne_eqb (cell t.cells f state) free d)
  one_up f d (no l) =
      let a : n - suc f ≡ 0 = omega arith in
      let b : n - f ≡ 0 = omega arith in
      rw (a, b)

  from_floor : (f : ℕ) → NoneBelow f t → free_from (n - f) t.cells f ≡ free_from n t.cells 0
  from_floor zero h = let e : n - 0 ≡ n = omega arith in rw e
  from_floor (suc f) h = one_up f (h f (omega arith)) (dec_lt f n) ∙ from_floor f (λ k l. h k (omega arith))

  pub lowest_from_lem : (f : ℕ) → NoneBelow f t → lowest_from f t ≡ lowest_free t
  unfolding lowest_from lowest_free
  lowest_from_lem f h = from_floor f h

-- A slot past the end is not free.
past_end : {t : Live} → Fit t → (k : ℕ) → slots_of t.names ≤ k → cell t.cells k state ≢ free
unfolding cell
past_end {t} fit k l e = omega (arith, word_out_lem fields null t.cells k state (omega (arith, fit.two, fit.seven)))

-- A slot of the tree that stays one is not free.
module _ {t u : Live} (fit : Fit u) (h : Sound t) (g : Sound u) (same : slots_of u.names ≡ slots_of t.names) where
  still_used : (k : ℕ) → (1 ≤ times k (slots h.tree) → 1 ≤ times k (slots g.tree)) → cell t.cells k state ≢ free
      → cell u.cells k state ≢ free
  still_used k keep d e = go (dec_lt k (slots_of u.names)) (dec_le 1 (times k (slots h.tree)))
    where
      go : Dec (k < slots_of u.names) → Dec (1 ≤ times k (slots h.tree)) → ⊥
      go (no l) m = past_end fit k (omega arith) e
      go (yes l) (yes m) = omega (arith, keep m, free_nowhere g k l e)
      go (yes l) (no m) = d (nowhere_free h k (omega arith) (omega arith))

  pub none_below : (f x : ℕ) → f ≤ x → ((k : ℕ) → k ≢ x → 1 ≤ times k (slots h.tree) → 1 ≤ times k (slots g.tree)) → NoneBelow f t
      → NoneBelow f u
  none_below f x l keep b k w = still_used k (keep k (omega arith)) (b k w)

-- No slot below the lowest free one is free; and none at all where there is no free one.
pub all_used : {t : Live} → Fit t → ((k : ℕ) → k < slots_of t.names → cell t.cells k state ≢ free) → (f : ℕ) → NoneBelow f t
all_used {t} fit h f k l = go (dec_lt k (slots_of t.names))
  where
    go : Dec (k < slots_of t.names) → cell t.cells k state ≢ free
    go (yes w) = h k w
    go (no w) = past_end fit k (omega arith)

below_lowest : {t : Live} → Fit t → NoneBelow (lowest_free t) t
below_lowest {t} fit = go (ℕ_discrete (lowest_free t) null)
  where
    go : Dec (lowest_free t ≡ null) → NoneBelow (lowest_free t) t
    go (yes e) = all_used fit ((none_free t (small fit)).0 e) (lowest_free t)
    go (no d) = (lowest_free_lem t d).lower

lesser_most : (a b : ℕ) → (lesser a b ≤ a) × (lesser a b ≤ b)
lesser_most a b = go (ltb a b) refl
  where
    go : (c : Bool) → ltb a b ≡ c → (pick c a b ≤ a) × (pick c a b ≤ b)
    go true e = (omega arith, omega (arith, ltb-true a b e))
    go false e = (omega (arith, ltb-false a b e), omega arith)

-- Lines undone with a floor.
module _ (lines : List ℕ) (m : ℕ) where
  pub unrolled_same : (c f : ℕ) {t : Live} → Fit t → Sound t → NoneBelow f t → unrolled_from c f t lines m ≡ unrolled c t lines m
  unfolding unrolled_from unrolled
  unrolled_same zero f fit h b = refl
  unrolled_same (suc c) f {t} fit h b = go (undone t j) refl (λ g v. unrolled_same c g {t = v})
    where
      j : JournalLine
      j = line_of lines (m + c)

      e : lowest_from f t ≡ lowest_free t
      e = lowest_from_lem t f b

      go : (o : Undo) → undone t j ≡ o
          → ((g : ℕ) (v : Live) → Fit v → Sound v → NoneBelow g v → unrolled_from c g v lines m ≡ unrolled c v lines m)
          → unrolled_from (suc c) f t lines m ≡ unrolled (suc c) t lines m
      go misfit q rest =
          let p : undone_into (lowest_from f t) t j ≡ misfit = rw e q in
          rw (p, q, unrolled_from, unrolled)
      go (stays v) q rest =
          let p : undone_into (lowest_from f t) t j ≡ stays v = rw e q in
          let s = (undone_step fit h j v q).left in
          let g = lesser (freed_by t j) (lowest_from f t) in
          let l = lesser_most (freed_by t j) (lowest_from f t) in
          let low : NoneBelow g t = λ k w. below_lowest fit k (omega (arith, l.1, e)) in
          rw (p, q, unrolled_from, unrolled)
          (rest g v s.fit s.sound (none_below s.fit h s.sound s.capacity g (freed_by t j) l.0 s.keeps low))

module _ (ix : Index) (fit : FitIndex ix) (h : Sound ix.live) where
  fits : fits_index ix ≡ true
  fits = index-fits ix fit

  sounds : sound ix.live ≡ true
  sounds = sound_yes fit.tree h

  pub count_most : count_of ix.live ≤ most_slots
  count_most = omega (arith, contents-length h, listing-length h, listing_most fit.tree h, fit.tree.two, fit.tree.most)

  counts : leb (count_of ix.live) most_slots ≡ true
  counts = le-leb (count_of ix.live) most_slots count_most

  insert_same : (f hash key p : ℕ) → NoneBelow f ix.live → inserts_sound f ix hash key p ≡ inserts ix hash key p
  unfolding inserts_sound on_checked inserts
  insert_same f hash key p b = go (sought_in ix.live hash key) refl
    where
      go : (v : Value) → sought_in ix.live hash key ≡ v → inserts_sound f ix hash key p ≡ inserts ix hash key p
      go (some x) s = rw (fits, counts, sounds, s)
      go none s = rw (fits, counts, sounds, s, lowest_from_lem ix.live f b)

  present_same : (hash key : ℕ) (leaving : ℕ → Index) → present_sound ix hash key leaving ≡ where_present ix hash key leaving
  unfolding present_sound on_checked where_present
  present_same hash key leaving = rw (fits, counts, sounds)

  remove_same : (hash key : ℕ) → removes_sound ix hash key ≡ removes ix hash key
  unfolding removes_sound removes
  remove_same hash key = present_same hash key (after_remove ix hash key)

  replace_same : (hash key p : ℕ) → replaces_sound ix hash key p ≡ replaces ix hash key p
  unfolding replaces_sound replaces
  replace_same hash key p = present_same hash key (after_replace ix hash key p)

  rollback_same : (m : ℕ) → rolls_sound ix m ≡ rolls ix m
  unfolding rolls_sound on_checked rolls
  rollback_same m =
      rw (fits, counts, sounds, unrolled_same ix.lines m (length_of ix.lines - m) 0 fit.tree h (λ k w. absurd (omega arith)))

  -- What an outcome leaves that writes nothing where it is refused.
  stays_as : (P : Index → Type 0) (o : Outcome) → o.left ≡ ix → P ix → P o.left
  stays_as P o e p = subst P (sym e) p

  -- The floor after each call.
  took : (hash key p x : ℕ) → (inserts ix hash key p).answer ≡ given x → NoneBelow x (inserts ix hash key p).left.live
  took hash key p x q =
      let claim = insert_claims ix hash key p in
      let d = claim.done x q h in
      none_below d.1.tree h d.0 d.6 x x (omega arith)
      (λ k n z. in_tree d.0 k
      (subst (λ (l : List ℕ). 1 ≤ times k l) (sym d.4) (omega (arith, times_rest k x h.chain, in_chain h k z))))
      ((claim.accepted x).0 q).1.2.lower

  raised : (f hash key p : ℕ) → NoneBelow f ix.live
      → NoneBelow (raised_by (inserts ix hash key p).answer f) (inserts ix hash key p).left.live
  unfolding raised_by
  raised f hash key p b = go (insert_settled ix hash key p)
    where
      a : Answer
      a = (inserts ix hash key p).answer

      kept : a.number ≢ 0 → (g : ℕ) → NoneBelow g ix.live → NoneBelow g (inserts ix hash key p).left.live
      kept n g w =
          stays_as (λ (jx : Index). NoneBelow g jx.live) (inserts ix hash key p) ((insert_claims ix hash key p).nothing_written n) w

      full : a.number ≡ 5 → NoneBelow null ix.live
      full e = all_used fit.tree ((insert_claims ix hash key p).five.0 (insert_plain ix hash key p e)).1.2 null

      refused_floor : a.number ≢ 0 → Dec (a.number ≡ 5) → NoneBelow (pick (eqb a.number 5) null f) (inserts ix hash key p).left.live
      refused_floor n (yes e) = rw (eq-eqb a.number 5 e) (kept n null (full e))
      refused_floor n (no d) = rw (ne_eqb a.number 5 d) (kept n f b)

      go : (a.number ≢ 0) ⊎ ((x : ℕ) × (a ≡ given x))
          → NoneBelow (pick (eqb a.number 0) (slot_in a.value) (pick (eqb a.number 5) null f)) (inserts ix hash key p).left.live
      go (inl n) = rw (ne_eqb a.number 0 n) (refused_floor n (ℕ_discrete a.number 5))
      go (inr (x, q)) = rw (eq-eqb a.number 0 (number q), value q) (took hash key p x q)

  lowered : (f hash key : ℕ) → NoneBelow f ix.live
      → NoneBelow (lowered_by (removes ix hash key).answer f) (removes ix hash key).left.live
  unfolding lowered_by
  lowered f hash key b = go (remove_settled ix hash key)
    where
      a : Answer
      a = (removes ix hash key).answer

      gone : (x : ℕ) → a ≡ given x → NoneBelow (lesser x f) (removes ix hash key).left.live
      gone x q =
          let d = (remove_claims ix hash key).done x q h in
          let l = lesser_most x f in
          none_below d.1.tree h d.0 d.6 (lesser x f) x l.0
          (λ k n z. in_tree d.0 k (omega (arith, without_else k d.4 n, in_chain h k z)))
          (λ k w. b k (omega (arith, l.1)))

      go : (a.number ≢ 0) ⊎ ((x : ℕ) × (a ≡ given x))
          → NoneBelow (pick (eqb a.number 0) (lesser (slot_in a.value) f) f) (removes ix hash key).left.live
      go (inl n) =
          rw (ne_eqb a.number 0 n)
          (stays_as (λ (jx : Index). NoneBelow f jx.live) (removes ix hash key) ((remove_claims ix hash key).asks.nothing_written n) b)
      go (inr (x, q)) = rw (eq-eqb a.number 0 (number q), value q) (gone x q)

  level : (f hash key p : ℕ) → NoneBelow f ix.live → NoneBelow f (replaces ix hash key p).left.live
  level f hash key p b = go (replace_settled ix hash key p)
    where
      go : ((replaces ix hash key p).answer.number ≢ 0) ⊎ ((x : ℕ) × ((replaces ix hash key p).answer ≡ given x))
          → NoneBelow f (replaces ix hash key p).left.live
      go (inl n) =
          stays_as (λ (jx : Index). NoneBelow f jx.live) (replaces ix hash key p)
          ((replace_claims ix hash key p).asks.nothing_written n) b
      go (inr r) =
          let d = (replace_claims ix hash key p).done r.0 r.1 h in
          none_below d.1.tree h d.0 d.7 f f (omega arith) (λ k n z. subst (λ (u : Tree). 1 ≤ times k (slots u)) (sym d.4) z) b

  abbrev Ready : Index → Type 0
  Ready jx = FitIndex jx × Sound jx.live

  again : (c : Call) → Ready (called c ix).left
  again (insert_call hash key p) = go (insert_settled ix hash key p)
    where
      go : ((inserts ix hash key p).answer.number ≢ 0) ⊎ ((x : ℕ) × ((inserts ix hash key p).answer ≡ given x))
          → Ready (inserts ix hash key p).left
      go (inl n) = stays_as Ready (inserts ix hash key p) ((insert_claims ix hash key p).nothing_written n) (fit, h)
      go (inr r) = let d = (insert_claims ix hash key p).done r.0 r.1 h in (d.1, d.0)
  again (remove_call hash key) = go (remove_settled ix hash key)
    where
      go : ((removes ix hash key).answer.number ≢ 0) ⊎ ((x : ℕ) × ((removes ix hash key).answer ≡ given x))
          → Ready (removes ix hash key).left
      go (inl n) = stays_as Ready (removes ix hash key) ((remove_claims ix hash key).asks.nothing_written n) (fit, h)
      go (inr r) = let d = (remove_claims ix hash key).done r.0 r.1 h in (d.1, d.0)
  again (replace_call hash key p) = go (replace_settled ix hash key p)
    where
      go : ((replaces ix hash key p).answer.number ≢ 0) ⊎ ((x : ℕ) × ((replaces ix hash key p).answer ≡ given x))
          → Ready (replaces ix hash key p).left
      go (inl n) = stays_as Ready (replaces ix hash key p) ((replace_claims ix hash key p).asks.nothing_written n) (fit, h)
      go (inr r) = let d = (replace_claims ix hash key p).done r.0 r.1 h in (d.1, d.0)
  again (rollback_call m) = go (rollback_settled ix m)
    where
      go : ((rolls ix m).answer.number ≢ 0) ⊎ ((c : ℕ) × ((rolls ix m).answer ≡ given c)) → Ready (rolls ix m).left
      go (inl n) = stays_as Ready (rolls ix m) ((rollback_claims ix m).nothing_written n) (fit, h)
      go (inr r) = let d = (rollback_claims ix m).done r.0 r.1 h in (d.1, d.0)

  floor : (c : Call) (f : ℕ) → NoneBelow f ix.live → NoneBelow (floor_after c (called c ix).answer f) (called c ix).left.live
  floor (insert_call hash key p) f b = raised f hash key p b
  floor (remove_call hash key) f b = lowered f hash key b
  floor (replace_call hash key p) f b = level f hash key p b
  floor (rollback_call m) f b = λ k w. absurd (omega arith)

  pub once_checked : OnceChecked ix fit h
  once_checked =
      record {
        again = again;
        insert = insert_same;
        remove = remove_same;
        replace = replace_same;
        rollback = rollback_same;
        floor = floor;
      }
