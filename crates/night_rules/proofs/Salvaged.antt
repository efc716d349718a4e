-- What the slots come to once all are done: each word of the report exactly where the rules say, the second tree's contents, and from a
-- sound tree the same contents. A cleared tree is a sound one that counts nothing, so the call is refused exactly where its words are not
-- fit.
-- Parts: each word of the report, exactly where; what all the slots come to; the same contents from a sound tree; a cleared tree is a sound
-- one that counts nothing; the tests of the call; the slots begin, and all are done; all in one law.
use mathlib.Core.Path.{◌≡◌, refl, ap, sym, subst, ◌∙◌}
use mathlib.Core.Logic.{◌≢◌, ◌⊎◌, ◌↔◌, inl, inr}
use mathlib.Core.Bool.{Bool, true, false, false≢true}
use mathlib.Core.List.{List, [], ◌∷◌, map}
use Prim.Native.Nat.{ℕ, ◌+◌, ◌<◌, ◌≤◌}
use native.Mathlib.Decide.{dec_lt}
use native.Mathlib.Omega.{arith}
use lib.ListN.{length, get_or, get_or-eq_default}
use lib.Dec.{leb}
use borrow.Author.Tests.{le-leb, leb-true}
use Rattle.slots.specs.Words.{null, ◌and◌, state, free, cell, name_of, hash_part, key_part}
use Rattle.slots.specs.Pairs.{pair_of}
use Rattle.slots.specs.Answers.{given, refused}
use Rattle.slots.proofs.Laws.{number}
use Rattle.tree_rules.specs.Find.{slots_of}
use Rattle.tree_rules.specs.Tree.{slots, times}
use Rattle.tree_rules.specs.Sizes.{size_word}
use Rattle.tree_rules.proofs.Weighing.{size_in_none}
use Rattle.redblack.specs.Holding.{Stands}
use Rattle.index_rules.specs.Live.{Live, Fit, lent_tree, count_of}
use Rattle.index_rules.specs.Sound.{Sound}
use Rattle.index_rules.specs.Contents.{Entry, contents, listing, In}
use Rattle.index_rules.proofs.Fit.{half, fit_fits, fits_fit, false_of}
use Rattle.index_rules.proofs.Rules.{used-not}
use Rattle.index_rules.proofs.Sounding.{sound_yes, yes_sound}
use Rattle.index_rules.proofs.Frames.{tree_inside, free_nowhere, nowhere_free, sound-count}
use Rattle.index_rules.proofs.Listing.{ascends_map, ascends_same}
use Rattle.index_rules.proofs.Holding.{stands_in, in_stands, contents-length}
use Rattle.index_rules.proofs.Placing.{slot_one}
use Rattle.index_rules.proofs.Freshing.{Blank, empty-sound}
use Rattle.index_rules.proofs.Claims.{claims as index-claims}
use Rattle.night_rules.specs.Salvage.{Salvage, Salvaged, salvaged, salvaging, salvaged_all, is_cleared_tree, fits_salvage, salvages}
use Rattle.night_rules.specs.Saved.{ClearedTree, FitSalvage, Usable, KeptSlot, Reports, slot_entry, kept_below, kept_down, unfilled}
use Rattle.night_rules.specs.Claims.{Saves, Salvages}
use Rattle.night_rules.proofs.Testing.{Decides, eq_tests, and_tests, dec_tests}
use Rattle.night_rules.proofs.Keeping.{below_none, down_none, down_from, down_in, in_down}
use Rattle.night_rules.proofs.Salvaging.{SlotSaid, kept, unused, unknown, repeats, DoneBelow, stands, rank_less, counts, slots-done}

-- A state 1 or 2 is neither free nor unknown.
pub usable_least : {x : ℕ} → (x ≡ 1) ⊎ (x ≡ 2) → 1 ≤ x
usable_least (inl e) = omega arith
usable_least (inr e) = omega arith

pub usable_most : {x : ℕ} → (x ≡ 1) ⊎ (x ≡ 2) → x ≤ 2
usable_most (inl e) = omega arith
usable_most (inr e) = omega arith

-- Each word of the report, exactly where.
module _ {names cells r : List ℕ} {n : ℕ} (said : (i : ℕ) → i < n → SlotSaid names cells r i) where
  abbrev Alone : ℕ → Type 0
  Alone i = (s : ℕ) → s < i → KeptSlot r s → pair_of names s ≢ pair_of names i

  why-kept : {i : ℕ} → SlotSaid names cells r i → KeptSlot r i → Usable cells i × Alone i
  why-kept (kept e u m) k = (u, m)
  why-kept (unused e u) k = absurd (omega arith)
  why-kept (unknown e u) k = absurd (omega arith)
  why-kept (repeats s e u b q p) k = absurd (omega arith)

  is-kept : {i : ℕ} → SlotSaid names cells r i → Usable cells i → Alone i → KeptSlot r i
  is-kept (kept e u m) v d = e
  is-kept (unused e u) v d = absurd (omega (arith, usable_least v))
  is-kept (unknown e u) v d = absurd (omega (arith, usable_most v))
  is-kept (repeats s e u b q p) v d = absurd (d s b q p)

  -- A slot with state 1 or 2 has its pair in a kept slot that is not higher.
  first_kept : {i : ℕ} → SlotSaid names cells r i → Usable cells i → (s : ℕ) × (s ≤ i) × KeptSlot r s × (pair_of names s ≡ pair_of names i)
  first_kept {i} (kept e u m) v = (i, omega arith, e, refl)
  first_kept (unused e u) v = absurd (omega (arith, usable_least v))
  first_kept (unknown e u) v = absurd (omega (arith, usable_most v))
  first_kept (repeats s e u b q p) v = (s, omega arith, q, p)

  why-free : {i : ℕ} → SlotSaid names cells r i → get_or r i null ≡ 1 → cell cells i state ≡ 0
  why-free (kept e u m) k = absurd (omega arith)
  why-free (unused e u) k = u
  why-free (unknown e u) k = absurd (omega arith)
  why-free (repeats s e u b q p) k = absurd (omega arith)

  is_free : {i : ℕ} → SlotSaid names cells r i → cell cells i state ≡ 0 → get_or r i null ≡ 1
  is_free (kept e u m) k = absurd (omega (arith, usable_least u))
  is_free (unused e u) k = e
  is_free (unknown e u) k = absurd (omega arith)
  is_free (repeats s e u b q p) k = absurd (omega (arith, usable_least u))

  why_unknown : {i : ℕ} → SlotSaid names cells r i → get_or r i null ≡ 2 → 2 < cell cells i state
  why_unknown (kept e u m) k = absurd (omega arith)
  why_unknown (unused e u) k = absurd (omega arith)
  why_unknown (unknown e u) k = u
  why_unknown (repeats s e u b q p) k = absurd (omega arith)

  is_unknown : {i : ℕ} → SlotSaid names cells r i → 2 < cell cells i state → get_or r i null ≡ 2
  is_unknown (kept e u m) k = absurd (omega (arith, usable_most u))
  is_unknown (unused e u) k = absurd (omega arith)
  is_unknown (unknown e u) k = e
  is_unknown (repeats s e u b q p) k = absurd (omega (arith, usable_most u))

  abbrev Repeated : ℕ → ℕ → Type 0
  Repeated i s = Usable cells i × (s < i) × KeptSlot r s × (pair_of names s ≡ pair_of names i)

  why_repeats : {i : ℕ} → SlotSaid names cells r i → (s : ℕ) → get_or r i null ≡ 3 + s → Repeated i s
  why_repeats (kept e u m) s k = absurd (omega arith)
  why_repeats (unused e u) s k = absurd (omega arith)
  why_repeats (unknown e u) s k = absurd (omega arith)
  why_repeats {i} (repeats c e u b q p) s k = let z : c ≡ s = omega arith in subst (λ (x : ℕ). Repeated i x) z (u, b, q, p)

  -- Two kept slots have no pair in common.
  kept_one : (s c : ℕ) → s < n → c < n → KeptSlot r s → KeptSlot r c → pair_of names s ≡ pair_of names c → s ≡ c
  kept_one s c l m j k e = go (dec_lt s c) (dec_lt c s)
    where
      go : Dec (s < c) → Dec (c < s) → s ≡ c
      go (yes b) d = absurd ((why-kept (said c m) k).1 s b j e)
      go (no b) (yes d) = absurd ((why-kept (said s l) j).1 c d k (sym e))
      go (no b) (no d) = omega arith

  is_repeated : {i : ℕ} → i < n → SlotSaid names cells r i → (s : ℕ) → Repeated i s → get_or r i null ≡ 3 + s
  is_repeated l (kept e u m) s k = absurd (m s k.1 k.2 k.3)
  is_repeated l (unused e u) s k = absurd (omega (arith, usable_least k.0))
  is_repeated l (unknown e u) s k = absurd (omega (arith, usable_most k.0))
  is_repeated l (repeats c e u b q p) s k =
      omega (arith, kept_one c s (omega arith) (omega (arith, k.1)) q k.2 (p ∙ sym k.3))

  reports : (i : ℕ) → i < n → Reports names cells r i
  reports i l =
      record {
        kept = (why-kept (said i l), λ h. is-kept (said i l) h.0 h.1);
        lowest = (lowest, λ h. is-kept (said i l) h.0 (λ s b k e. h.1 s b (why-kept (said s (omega arith)) k).0 e));
        free = (why-free (said i l), is_free (said i l));
        unknown = (why_unknown (said i l), is_unknown (said i l));
        repeats = λ s. (why_repeats (said i l) s, is_repeated l (said i l) s);
      }
    where
      lowest : KeptSlot r i → Usable cells i × ((s : ℕ) → s < i → Usable cells s → pair_of names s ≢ pair_of names i)
      lowest k =
          let h = why-kept (said i l) k in
          (h.0, λ s b u e. (let f = first_kept (said s (omega arith)) u in h.1 f.0 (omega (arith, f.1)) f.2 (f.3 ∙ e)))

-- What all the slots come to.
module _ {names cells : List ℕ} {u : Live} {report : List ℕ} {s : Salvage} (h : DoneBelow names cells u report (slots_of names) s) where
  abbrev n : ℕ
  n = slots_of names

  abbrev r : List ℕ
  r = s.report

  abbrev Held : Entry → Type 0
  Held e = (i : ℕ) × (i < n) × KeptSlot r i × (slot_entry names cells i ≡ e)

  said : (i : ℕ) → i < n → SlotSaid names cells r i
  said = h.said

  held : (e : Entry) → In e (contents h.sound) ↔ Held e
  held e = (out, inward)
    where
      same : In e (listing h.sound) ↔ In e (contents h.sound)
      same = (index-claims.lists s.into h.fit).same h.sound e

      out : In e (contents h.sound) → Held e
      out j = let k = in_down names cells r n e (rw h.listed at (same.1 j)) in (k.slot, k.inside, k.kept, k.is)

      inward : Held e → In e (contents h.sound)
      inward (i, l, k, is) =
          same.0 (rw h.listed
          (subst (λ (x : Entry). In x (map (slot_entry names cells) (kept_down r n))) is (down_in names cells r n i l k)))

  length_held : length (contents h.sound) ≡ kept_below r n
  length_held = contents-length h.sound ∙ counts h ∙ h.many

  -- From a sound tree.
  module _ (head sizes : List ℕ) (fit : Fit (lent_tree names cells head sizes)) (g : Sound (lent_tree names cells head sizes)) where
    used-stands : (i : ℕ) → i < n → Usable cells i → Stands i g.tree
    used-stands i l u = omega (arith, used-not cells i (λ z. omega (arith, usable_least u)), g.t3.all i l)

    kept_or_free : (i : ℕ) → i < n → KeptSlot r i ⊎ (get_or r i null ≡ 1)
    kept_or_free i l = go (said i l)
      where
        go : SlotSaid names cells r i → KeptSlot r i ⊎ (get_or r i null ≡ 1)
        go (kept e u m) = inl e
        go (unused e u) = inr e
        go (unknown e u) = absurd (omega (arith, g.t1.states i l))
        go (repeats c e u b k p) =
            let m : c < n = omega arith in
            let v = (why-kept said (said c m) k).0 in
            let one =
            slot_one fit g (name_of names i hash_part) (name_of names i key_part) i c (used-stands i l u) refl (used-stands c m v) p in
            absurd (omega (arith, one))

    same_contents : contents h.sound ≡ contents g
    same_contents =
        ascends_same (contents h.sound) (contents g) (ascends_map s.into h.sound.t4)
        (ascends_map (lent_tree names cells head sizes) g.t4) out inward
      where
        out : (e : Entry) → In e (contents h.sound) → In e (contents g)
        out e j =
            let (i, l, k, is) = (held e).0 j in
            subst (λ (x : Entry). In x (contents g)) is (stands_in g i (used-stands i l (why-kept said (said i l) k).0))

        inward : (e : Entry) → In e (contents g) → In e (contents h.sound)
        inward e j =
            let k = in_stands g j in
            let l : k.slot < n = tree_inside g k.slot k.stands in
            (held e).1 (k.slot, l, by k.slot l k.stands (kept_or_free k.slot l), k.is)
          where
            by : (i : ℕ) → i < n → Stands i g.tree → KeptSlot r i ⊎ (get_or r i null ≡ 1) → KeptSlot r i
            by i l z (inl e) = e
            by i l z (inr e) = absurd (omega (arith, free_nowhere g i l (why-free said (said i l) e)))

-- A test that is asked where another is true.
given_tests : {a b : Bool} {A B : Type 0} → Decides a A → (A → Decides b B) → Decides (a and b) (A × B)
given_tests {a = true} h k = (λ e. (h.0 refl, (k (h.0 refl)).0 e), λ p. (k p.0).1 p.1)
given_tests {a = false} h k = (λ e. absurd (false≢true e), λ p. h.1 p.0)

-- A test read in other words.
reads : {b : Bool} {A B : Type 0} → Decides b A → (A → B) → (B → A) → Decides b B
reads h to from = (λ e. to (h.0 e), λ x. h.1 (from x))

le_tests : (a b : ℕ) → Decides (leb a b) (a ≤ b)
le_tests a b = (leb-true a b, le-leb a b)

-- A cleared tree is a sound tree that counts nothing.
module _ {u : Live} (fit : Fit u) where
  none_in : (l : List ℕ) → length l ≡ 0 → (i : ℕ) → times i l ≡ 0
  unfolding times
  none_in [] e i = refl
  none_in (x ∷ l) e i = absurd (omega arith)

  counts_cleared : Sound u → count_of u ≡ 0 → ClearedTree u
  counts_cleared h c =
      record {
        states = states;
        cleared = λ i l. h.t1.cleared i l (states i l);
        root = h.t2.root.1 c;
        first = h.t2.first.1 c;
        count = c;
        sizes = λ i l. h.t8 i ∙ size_in_none i h.tree (gone i);
      }
    where
      gone : (i : ℕ) → times i (slots h.tree) ≡ 0
      gone = none_in (slots h.tree) (sym (sound-count h) ∙ c)

      states : (i : ℕ) → i < slots_of u.names → cell u.cells i state ≡ free
      states i l = nowhere_free h i l (gone i)

  module _ (c : ClearedTree u) where
    blank : (i : ℕ) → i < slots_of u.names → Blank u i
    blank i l = record { states = c.states i l; cleared = c.cleared i l }

    weightless : (k : ℕ) → size_word u.sizes k ≡ 0
    weightless k = go (dec_lt k (slots_of u.names))
      where
        go : Dec (k < slots_of u.names) → size_word u.sizes k ≡ 0
        go (yes l) = c.sizes k l
        go (no d) = get_or-eq_default u.sizes 0 (omega (arith, fit.each, half fit))

    unfoldable cleared-sound : Sound u
    cleared-sound = empty-sound fit blank c.root c.first c.count weightless

    -- No slot is done yet.
    begins : (names cells report : List ℕ) → slots_of names ≡ slots_of u.names → DoneBelow names cells u report 0 (salvaging u 0 report)
    unfolding cleared-sound empty-sound down_from
    begins names cells report e =
        record {
          fit = fit;
          capacity = sym e;
          sound = cleared-sound;
          chain = refl;
          many = sym (below_none report);
          long = refl;
          past = λ j l. refl;
          said = λ j l. absurd (omega arith);
          placed = λ j l k. absurd (omega arith);
          listed = ap (map (slot_entry names cells)) (sym (down_none report));
          filled = rw (down_none report) unfilled;
        }

  pub cleared_exactly : ClearedTree u ↔ (Sound u × (count_of u ≡ 0))
  cleared_exactly = (λ c. (cleared-sound c, c.count), λ h. counts_cleared h.0 h.1)

cleared_tests : (u : Live) → Decides (is_cleared_tree u) (Fit u × ClearedTree u)
unfolding is_cleared_tree
cleared_tests u =
    given_tests (fits_fit u, fit_fits u)
    (λ f. reads (and_tests (yes_sound f, sound_yes f) (eq_tests _ _)) (cleared_exactly f).1 (cleared_exactly f).0)

module _ (names cells : List ℕ) (u : Live) (report : List ℕ) where
  -- The tests one by one, and what the rules say.
  abbrev Asked : Type 0
  Asked =
      (length names ≡ length u.names)
      × ((length cells ≡ length u.cells) × ((slots_of names ≤ length report) × (Fit u × ClearedTree u)))

  fit_asked : Asked → FitSalvage names cells u report
  fit_asked (two, (seven, (room, (f, c)))) =
      record {
        capacity = f.capacity;
        least = f.least;
        most = f.most;
        two = two ∙ f.two;
        seven = seven ∙ f.seven;
        second = f;
        same = refl;
        cleared = c;
        room = omega (arith, f.two);
      }

  asked_fit : FitSalvage names cells u report → Asked
  asked_fit h =
      let f = h.second in (
        omega (arith, h.two, h.same, f.two),
        (omega (arith, h.seven, h.same, f.seven), (omega (arith, h.two, h.room), (f, h.cleared))),
      )

  pub fit_tests : Decides (fits_salvage names cells u report) (FitSalvage names cells u report)
  unfolding fits_salvage
  fit_tests =
      reads (and_tests (eq_tests _ _) (and_tests (eq_tests _ _) (and_tests (le_tests _ _) (cleared_tests u)))) fit_asked asked_fit

  -- So the slots begin; all are done, and no more.
  pub starts : FitSalvage names cells u report → DoneBelow names cells u report 0 (salvaging u 0 report)
  starts h = begins h.second h.cleared names cells report (omega (arith, h.two, h.same, h.second.two))

  all_done : FitSalvage names cells u report → DoneBelow names cells u report (slots_of names) (salvaged_all names cells u report)
  unfolding salvaged_all
  all_done h = slots-done (omega (arith, h.two, h.room)) _ (omega arith) (starts h)

  -- The call is refused and writes nothing, or comes to them.
  refuses : (FitSalvage names cells u report → ⊥) → salvages names cells u report ≡ salvaged (refused 1) u report
  unfolding salvages
  refuses d = rw (false_of (fits_salvage names cells u report) (λ e. d (fit_tests.0 e)))

  does : FitSalvage names cells u report → Saves names cells u report (salvages names cells u report)
  unfolding salvages
  does f =
      rw (fit_tests.1 f)
      (let h = all_done f in
      let r = (salvaged_all names cells u report).report in
      record {
        reports = reports h.said;
        past = h.past;
        long = h.long;
        answer = ap given h.many;
        fit = h.fit;
        same = h.capacity;
        sound = h.sound;
        holds = held h;
        many = length_held h;
        placed = λ i l k. (stands h (kept_below r i) (rank_less h i l k), h.placed i l k);
        lists = h.listed;
        filled = h.filled;
        whole = λ head sizes fit g. (same_contents h head sizes fit g, kept_or_free h head sizes fit g);
      })

  accepted : FitSalvage names cells u report → (salvages names cells u report).answer.number ≡ 0
  accepted f = number (does f).answer

  pub salvage_claims : Salvages names cells u report
  salvage_claims =
      record {
        one = (λ e f. omega (arith, accepted f, number e), λ d. ap (λ (o : Salvaged). o.answer) (refuses d));
        nothing_written = stays (dec_tests fit_tests);
        done = does;
      }
    where
      stays : Dec (FitSalvage names cells u report) → (salvages names cells u report).answer.number ≢ 0
          → salvages names cells u report ≡ salvaged (refused 1) u report
      stays (yes f) d = absurd (d (accepted f))
      stays (no m) d = refuses m
