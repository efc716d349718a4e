-- What the steps of a salvage come to, on plain values: each law takes what the calls and the tests gave, in the order of the code.
use mathlib.Core.Path.{◌≡◌, refl, ap, sym, ◌∙◌}
use mathlib.Core.Logic.{◌≢◌}
use mathlib.Core.Bool.{Bool, true, false}
use mathlib.Core.List.{List}
use Prim.Native.Nat.{ℕ, zero, suc, ◌+◌, ◌-◌, ◌<◌, ◌≤◌}
use native.Mathlib.Decide.{ℕ_discrete, dec_lt}
use native.Mathlib.Numerals.{add-one}
use native.Mathlib.Omega.{arith}
use lib.ListN.{length, get_or, set, length-set}
use lib.Seq.{get_or-set_same, get_or-set_other}
use lib.Dec.{eqb}
use borrow.Author.Tests.{eq-eqb, ne_eqb, lt-ltb, le-ltb, le-leb, lt-leb}
use Rattle.slots.specs.Words.{null, place, state, cell, name_of, hash_part, key_part}
use Rattle.slots.specs.Answers.{some, none, given, refused}
use Rattle.slots.proofs.Laws.{number, given_is}
use Rattle.tree_rules.specs.Find.{slots_of}
use Rattle.index_rules.specs.Live.{Live, fits, count_of}
use Rattle.index_rules.specs.Sound.{sound, sounds}
use Rattle.index_rules.specs.Insert.{sought_in, grown}
use Rattle.night_rules.specs.Salvage.{Salvage, salvaging, came_from, unknown_state, salvaged_pair, salvaged_slot, salvaged_from}
use Rattle.night_rules.specs.Salvage.{salvaged_all}
use Rattle.night_rules.specs.Salvage.{is_cleared_tree, fits_salvage, salvaged, salvages}
use Rattle.night_rules.specs.Saved.{FitSalvage, kept_below}
use Rattle.index_rules.proofs.Fit.{fit_fits}
use Rattle.index_rules.proofs.Sounding.{sound_yes, sound_claims}
use Rattle.night_rules.proofs.Keeping.{below_most, rank_rises, came, came_most, below_same, set_below}
use Rattle.night_rules.proofs.Salvaging.{DoneBelow, counts, kept_most, found_below, slot_done}
use Rattle.night_rules.proofs.Salvaged.{starts, fit_tests}
use Rattle.night.specs.Sources.{SourceOf, Sources, SlotReady}

-- A source is one: of two kept slots the lower has fewer kept ones before it.
source_one : (r : List ℕ) (i x a b : ℕ) → SourceOf r i x a → SourceOf r i x b → a ≡ b
source_one r i x a b p q = go (dec_lt a b) (dec_lt b a)
  where
    go : Dec (a < b) → Dec (b < a) → a ≡ b
    go (yes l) d = absurd (omega (arith, rank_rises r a b l p.kept, p.rank, q.rank))
    go (no l) (yes d) = absurd (omega (arith, rank_rises r b a d q.kept, p.rank, q.rank))
    go (no l) (no d) = omega arith

-- The word kept for a slot of the second tree is the slot that the model counts to.
pub source_is : (r : List ℕ) (i kept : ℕ) (from : List ℕ) → Sources r i kept from → kept ≡ kept_below r i → (x : ℕ) → x < kept
    → get_or from x null ≡ came_from i r 0 x
source_is r i kept from h m x l =
    let c = came r i x (omega (arith, m)) in
    source_one r i x (get_or from x null) (came_from i r 0 x) (h.each x l)
    (record { inside = c.inside; kept = c.kept; rank = c.rank })

-- A word written at i leaves the sources of the slots below.
module _ (r : List ℕ) (i kept : ℕ) (from : List ℕ) (w : ℕ) where
  source_stays : (x s : ℕ) → SourceOf r i x s → SourceOf (set r i w) (i + 1) x s
  source_stays x s h =
      let l = h.inside in
      record {
        inside = omega arith;
        kept = set_below r i w s l ∙ h.kept;
        rank = below_same r (set r i w) s (λ k m. set_below r i w k (omega arith)) ∙ h.rank;
      }

  pub sources_stay : {q : List ℕ} → q ≡ set r i w → Sources r i kept from → Sources q (i + 1) kept from
  sources_stay e h = rw e (record { long = h.long; each = λ x l. source_stays x (get_or from x null) (h.each x l) })

-- A kept slot is the source of the next one.
pub sources_more : (r : List ℕ) (i kept : ℕ) (from : List ℕ) {q f : List ℕ} → Sources r i kept from → kept ≡ kept_below r i → i < length r
    → i < 4096
    → q ≡ set r i 0
    → f ≡ set from kept i
    → Sources q (i + 1) (kept + 1) f
sources_more r i kept from h m l b eq ef =
    rw (eq, ef) (record { long = length-set from kept i ∙ h.long; each = λ x n. go x n (ℕ_discrete x kept) })
  where
    few : kept ≤ i
    few = omega (arith, m, below_most r i)

    go : (x : ℕ) → x < kept + 1 → Dec (x ≡ kept) → SourceOf (set r i 0) (i + 1) x (get_or (set from kept i) x null)
    go x n (yes e) =
        rw (e, get_or-set_same from kept i null (omega (arith, h.long, few)))
        (record {
          inside = omega arith;
          kept = get_or-set_same r i 0 null l;
          rank = below_same r (set r i 0) i (set_below r i 0) ∙ sym m;
        })
    go x n (no d) =
        rw (get_or-set_other from kept x i null d) (source_stays r i kept from 0 x (get_or from x null) (h.each x (omega arith)))

-- Its number and 3 are a word of 32 bits.
pub repeat_most : (r : List ℕ) (i x : ℕ) {c : ℕ} → c ≡ came_from i r 0 x → i < 4096 → 3 + c ≤ 4294967295
repeat_most r i x e l = omega (arith, came_most i r 0 x)

module _ (names cells : List ℕ) (i : ℕ) (u : Live) (kept : ℕ) (r : List ℕ) where
  abbrev here : Salvage
  here = salvaging u kept r

  -- A slot with state 1 or 2.
  module _ {hash key : ℕ} (h : hash ≡ name_of names i hash_part) (k : key ≡ name_of names i key_part) where
    pub pair_repeats : {x c : ℕ} {q : List ℕ} → sought_in u hash key ≡ some x → c ≡ came_from i r 0 x → q ≡ set r i (3 + c)
        → salvaging u kept q ≡ salvaged_pair names cells i here
    unfolding salvaged_pair
    pair_repeats {x} s e f =
        let z : sought_in u (name_of names i hash_part) (name_of names i key_part) ≡ some x = rw (← h, ← k) s in rw (f, e, z, salvaged_pair)

    pub pair-kept : {p : ℕ} {v : Live} {q : List ℕ} → sought_in u hash key ≡ none → p ≡ cell cells i place
        → v ≡ grown u kept null hash key p → q ≡ set r i 0 → salvaging v (kept + 1) q ≡ salvaged_pair names cells i here
    unfolding salvaged_pair
    pair-kept s e g f =
        let z : sought_in u (name_of names i hash_part) (name_of names i key_part) ≡ none = rw (← h, ← k) s in
        rw (f, g, e, h, k, add-one, z, salvaged_pair)

  -- By its state.
  module _ {x : ℕ} (e : x ≡ cell cells i state) where
    pub slot_free : {q : List ℕ} → x ≡ 0 → q ≡ set r i 1 → salvaging u kept q ≡ salvaged_slot names cells i here
    unfolding salvaged_slot
    slot_free z f = rw (f, ← e, eq-eqb x 0 z)

    pub slot_unknown : {q : List ℕ} → x ≢ 0 → 2 < x → q ≡ set r i 2 → salvaging u kept q ≡ salvaged_slot names cells i here
    unfolding salvaged_slot unknown_state
    slot_unknown d l f = rw (f, ← e, ne_eqb x 0 d, lt-ltb 2 x l)

    pub slot_pair : {s : Salvage} → x ≢ 0 → x ≤ 2 → s ≡ salvaged_pair names cells i here → s ≡ salvaged_slot names cells i here
    unfolding salvaged_slot unknown_state
    slot_pair d l f = rw (← e, ne_eqb x 0 d, le-ltb 2 x l) f

-- The tests before the first slot.
module _ (u : Live) where
  cleared-not : (sounds u ≡ given 1 → ⊥) → false ≡ is_cleared_tree u
  unfolding is_cleared_tree sounds
  cleared-not d = go (fits u) refl (sound u) refl
    where
      go : (a : Bool) → fits u ≡ a → (b : Bool) → sound u ≡ b → false ≡ is_cleared_tree u
      go false e b f = rw e
      go true e false f = rw (e, f)
      go true e true f = absurd (d (rw (e, f)))

  pub cleared_no : given 0 ≡ sounds u → false ≡ is_cleared_tree u
  cleared_no n = cleared-not (λ e. omega (arith, given_is (n ∙ e)))

  pub cleared_unfit : refused 1 ≡ sounds u → false ≡ is_cleared_tree u
  cleared_unfit n = cleared-not (λ e. omega (arith, number (n ∙ e)))

  pub cleared_counts : given 1 ≡ sounds u → {c : ℕ} → c ≡ count_of u → eqb c 0 ≡ is_cleared_tree u
  unfolding is_cleared_tree
  cleared_counts y e =
      let h = (sound_claims u).yes.0 (sym y) in rw (fit_fits u h.0, sound_yes h.0 h.1, e)

module _ (names cells : List ℕ) (u : Live) (report : List ℕ) where
  pub other_names : length names ≢ length u.names → false ≡ fits_salvage names cells u report
  unfolding fits_salvage
  other_names d = rw (ne_eqb (length names) (length u.names) d)

  module _ (a : length names ≡ length u.names) where
    pub other_cells : length cells ≢ length u.cells → false ≡ fits_salvage names cells u report
    unfolding fits_salvage
    other_cells d = rw (eq-eqb (length names) (length u.names) a, ne_eqb (length cells) (length u.cells) d)

    module _ (b : length cells ≡ length u.cells) where
      pub too_short : length report < slots_of names → false ≡ fits_salvage names cells u report
      unfolding fits_salvage
      too_short l =
          rw (
            eq-eqb (length names) (length u.names) a,
            eq-eqb (length cells) (length u.cells) b,
            lt-leb (slots_of names) (length report) l,
          )

      pub words_fit_lem : slots_of names ≤ length report → {t : Bool} → t ≡ is_cleared_tree u → t ≡ fits_salvage names cells u report
      unfolding fits_salvage
      words_fit_lem l e =
          rw (
            eq-eqb (length names) (length u.names) a,
            eq-eqb (length cells) (length u.cells) b,
            le-leb (slots_of names) (length report) l,
          ) e

  pub unfit : fits_salvage names cells u report ≡ false → salvaged (refused 1) u report ≡ salvages names cells u report
  unfolding salvages
  unfit e = rw e

  module _ (e : fits_salvage names cells u report ≡ true) where
    pub fit : FitSalvage names cells u report
    fit = (fit_tests names cells u report).0 e

    pub saves : {v : Live} {k : ℕ} {q : List ℕ} → salvaging v k q ≡ salvaged_all names cells u report
        → salvaged (given k) v q ≡ salvages names cells u report
    unfolding salvages
    saves f = rw e (ap (λ (s : Salvage). salvaged (given s.kept) s.into s.report) f)

-- A turn of the loop: the slots from i on are left, and what they come to decides the whole; those below i are done.
from_step : (m : ℕ) → 0 < m → (names cells : List ℕ) (i : ℕ) (s : Salvage)
    → salvaged_from m names cells i s ≡ salvaged_from (m - 1) names cells (i + 1) (salvaged_slot names cells i s)
unfolding salvaged_from
from_step zero h names cells i s = absurd (omega arith)
from_step (suc m) h names cells i s = let z : suc m - 1 ≡ m = omega arith in rw (z, add-one)

from_none : (m : ℕ) → m ≤ 0 → (names cells : List ℕ) (i : ℕ) (s : Salvage) → salvaged_from m names cells i s ≡ s
unfolding salvaged_from
from_none zero h names cells i s = refl
from_none (suc m) h names cells i s = absurd (omega arith)

pub record SlotTurn (names cells : List ℕ) (u : Live) (report : List ℕ) (n i : ℕ) (s : Salvage) (from : List ℕ) : Type 0 where
  pub fit : FitSalvage names cells u report
  pub all : n ≡ slots_of names
  pub same : salvaged_from (n - i) names cells i s ≡ salvaged_all names cells u report
  pub done : DoneBelow names cells u report i s
  pub names2 : length s.into.names ≡ length u.names
  pub cells2 : length s.into.cells ≡ length u.cells
  pub head2 : length s.into.head ≡ length u.head
  pub sizes2 : length s.into.sizes ≡ length u.sizes
  pub words : length s.report ≡ length report
  pub sources : Sources s.report i s.kept from

pub turn_start : {names cells : List ℕ} {u : Live} {report : List ℕ} → FitSalvage names cells u report → {n : ℕ} → n ≡ slots_of names
    → {from : List ℕ} → length from ≡ 4096 → SlotTurn names cells u report n 0 (salvaging u 0 report) from
unfolding salvaged_all
turn_start {names} {cells} {u} {report} f {n} e {from} long =
    let z : n - 0 ≡ slots_of names = omega arith in
    record {
      fit = f;
      all = e;
      same = rw z;
      done = starts names cells u report f;
      names2 = refl;
      cells2 = refl;
      head2 = refl;
      sizes2 = refl;
      words = refl;
      sources = record { long = long; each = λ x l. absurd (omega arith) };
    }

module _ {names cells : List ℕ} {u : Live} {report : List ℕ} {n i : ℕ} {s : Salvage} {from : List ℕ}
    (t : SlotTurn names cells u report n i s from) where
  pub turn_ready : i < n
      → (length s.into.names ≤ 8192)
      × ((count_of s.into < null) × ((i < 4096) × ((s.kept ≤ i) × SlotReady names s.into s.report i s.kept from)))
  turn_ready l =
      let m : n ≤ 4096 = omega (arith, t.all, t.fit.two, t.fit.most) in
      let ready : SlotReady names s.into s.report i s.kept from =
      record {
        sources = t.sources;
        many = t.done.many;
        told = omega (arith, t.all, t.words, t.fit.room);
        below = λ x e. found_below t.done _ _ x e;
      } in (
        omega (arith, t.done.fit.two, t.done.fit.most),
        (omega (arith, counts t.done, kept_most t.done), (omega arith, (kept_most t.done, ready))),
      )

  pub turn_on : {q : Salvage} → i < n → q ≡ salvaged_slot names cells i s → length q.into.names ≡ length s.into.names
      → length q.into.cells ≡ length s.into.cells → length q.into.head ≡ length s.into.head
      → length q.into.sizes ≡ length s.into.sizes → length q.report ≡ length s.report
      → {left : List ℕ} → Sources q.report (i + 1) q.kept left → SlotTurn names cells u report n (i + 1) q left
  turn_on l e a b c d f o =
      let z : n - i - 1 ≡ n - (i + 1) = omega arith in
      record {
        fit = t.fit;
        all = t.all;
        same = rw (e, ← z) (sym (from_step (n - i) (omega arith) names cells i s) ∙ t.same);
        done = rw (e, add-one) (slot_done t.done (omega (arith, t.all)) (omega (arith, t.fit.two, t.fit.room)));
        names2 = a ∙ t.names2;
        cells2 = b ∙ t.cells2;
        head2 = c ∙ t.head2;
        sizes2 = d ∙ t.sizes2;
        words = f ∙ t.words;
        sources = o;
      }

  pub turn_end : n ≤ i → s ≡ salvaged_all names cells u report
  turn_end l = sym (from_none (n - i) (omega arith) names cells i s) ∙ t.same

-- The slot that a pair came from, as the code reads it.
pub came_source : (names : List ℕ) (u : Live) (r : List ℕ) (i kept : ℕ) (from : List ℕ) {hash key x w : ℕ}
    → SlotReady names u r i kept from
    → hash ≡ name_of names i hash_part
    → key ≡ name_of names i key_part
    → sought_in u hash key ≡ some x
    → w ≡ get_or from x null
    → w ≡ came_from i r 0 x
came_source names u r i kept from {x = x} h eh ek s e =
    e ∙ source_is r i kept from h.sources h.many x (h.below x (rw (← eh, ← ek) s))
