-- A free slot joins a sound tree: the chain's writes touch no word that the tree reads, the tree's none that the chain reads,
-- and the slots outside keep all their words.
-- Parts: how a slot joins a chain, and what a grown tree is; the old chain, and what follows behind y; the writes of the chain, and the
-- chain with x; which slot has which pair and place; the tree with x; the whole is fit and sound.
use mathlib.Core.Path.{◌≡◌, refl, ap, sym, subst, ◌∙◌}
use mathlib.Core.Logic.{◌≢◌, ◌⊎◌, inl, inr}
use mathlib.Core.Bool.{true}
use mathlib.Core.List.{List, [], ◌∷◌, ◌++◌, append_assoc}
use Prim.Native.Nat.{ℕ, ◌<◌, ◌≤◌}
use native.Mathlib.Decide.{ℕ_discrete}
use native.Mathlib.Omega.{arith}
use lib.ListN.{length}
use lib.Dec.{eqb}
use Rattle.slots.specs.Words.{null, pick, place, state, parent, left, right, prev, next, free, fields, parts, cell, write, roomy}
use Rattle.slots.specs.Pairs.{Pair}
use Rattle.slots.proofs.Laws.{pick_eq, pick_ne, cell_same, cell_across, cell_else, roomy-write, length-write}
use Rattle.tree_rules.specs.Tree.{Tree, slots, times, Rising}
use Rattle.tree_rules.specs.Chain.{Chain}
use Rattle.tree_rules.proofs.Counting.{times_append, times_rest}
use Rattle.tree_rules.proofs.Chaining.{chain_inside, chain_once}
use Rattle.redblack.specs.Links.{Links, read}
use Rattle.redblack.specs.Hanging.{inserted, spotted}
use Rattle.redblack.specs.Balance.{OneFewer}
use Rattle.redblack.specs.Holding.{Holds, RedBlackTree, Has}
use Rattle.redblack.specs.Kept.{Agree}
use Rattle.redblack.specs.Sizes.{SizedTree}
use Rattle.redblack.specs.Claims.{HangsSlot}
use Rattle.redblack.proofs.Kept.{place_aside, prev_aside, next_aside}
use Rattle.redblack.proofs.Claims.{claims}
use Rattle.index_rules.specs.Live.{Live, Fit, root_of, first_of}
use Rattle.index_rules.specs.Sound.{Sound, Cleared}
use Rattle.index_rules.proofs.Built.{Built}
use Rattle.index_rules.specs.Insert.{follower_of, seated, grown}
use Rattle.index_rules.specs.Calls.{Alike, Takes}
use Rattle.index_rules.proofs.Fit.{half}
use Rattle.index_rules.proofs.Rules.{small}
use Rattle.index_rules.proofs.Building.{built_sound, built_tree, built_chain}
use Rattle.index_rules.proofs.Frames.{Still, none_of, off_chain, sound_balanced, same_slots, free_nowhere, nowhere_free, sound-count}
use Rattle.index_rules.proofs.Frames.{hangs_frame, chain_frame, chain_starts, member, Seated, chain_next, seated_front}
use Rattle.index_rules.proofs.Frames.{seated-behind, rising_frame, without_else, without_same, without-length, roomy_cells}
use Rattle.index_rules.proofs.Frames.{roomy_names, name_same, name_across, name_else, roomy-rename, length-rename, headed-length}
use Rattle.index_rules.proofs.Frames.{headed_root, headed_first, headed-count}
use Rattle.tree_rules.specs.Find.{slots_of}

-- The slot x joins a chain right behind y, at the front where y is null.
pub data Joins (x y : ℕ) (l l' : List ℕ) : Type 0 where
  front : y ≡ null → l' ≡ x ∷ l → Joins x y l l'
  after : (a b : List ℕ) → y ≢ null → l ≡ a ++ (y ∷ b) → l' ≡ a ++ (y ∷ (x ∷ b)) → Joins x y l l'

joins_one : {x y : ℕ} {l l' : List ℕ} → Joins x y l l' → OneFewer x l' l
joins_one {x} {y} {l} (front e q) = record { before = []; after = l; whole = q; rest = refl }
joins_one {x} {y} (after a b d e q) =
    record {
      before = a ++ (y ∷ []);
      after = b;
      whole = q ∙ sym (append_assoc a (y ∷ []) (x ∷ b));
      rest = e ∙ sym (append_assoc a (y ∷ []) b);
    }

pub joins_front : {x y : ℕ} {l l' : List ℕ} → Joins x y l l' → y ≡ null → l' ≡ x ∷ l
joins_front (front e q) f = q
joins_front (after a b d e q) f = absurd (d f)

-- The tree u is t with the slot x, which holds the pair (hash, key) and the place p, and stands in the chain behind y.
pub record Grown (t u : Live) (h : Sound t) (x y hash key p : ℕ) : Type 0 where
  pub sound : Sound u
  pub chain : Joins x y h.chain sound.chain
  pub slotted : OneFewer x (slots sound.tree) (slots h.tree)
  pub keeps : (k : ℕ) → 1 ≤ times k (slots h.tree) → Alike t u k
  pub takes : Takes t u x hash key p

module _ {t : Live} (fit : Fit t) (h : Sound t) (x y hash key p : ℕ) (inside : x < slots_of t.names)
    (unused : cell t.cells x state ≡ free)
    (seat : (y ≡ null) ⊎ (1 ≤ times y h.chain)) where
  absent : times x (slots h.tree) ≡ 0
  absent = free_nowhere h x inside unused

  not_x : (k : ℕ) → 1 ≤ times k (slots h.tree) → k ≢ x
  not_x k z = none_of (slots h.tree) absent z

  room : (k : ℕ) → k < slots_of t.names → roomy fields t.cells k ≡ true
  room k l = roomy_cells t.cells k fit.seven (omega (arith, half fit))

  -- What follows in the chain behind y.
  abbrev q : ℕ
  q = follower_of t y

  inside_chain : (k : ℕ) → 1 ≤ times k h.chain → k < slots_of t.names
  inside_chain k z = chain_inside (slots_of t.names) t.cells h.t7.linked z

  once : (k : ℕ) → times k h.chain ≤ 1
  once = chain_once (slots_of t.names) t.cells (small fit) (first_of t) h.t7.linked

  no_x : times x h.chain ≡ 0
  no_x = sym (same_slots h x inside) ∙ absent

  at_front : y ≡ null → q ≡ first_of t
  at_front e = pick_eq (first_of t) (cell t.cells y next) e

  not_null : 1 ≤ times y h.chain → y ≢ null
  not_null z e = omega (arith, inside_chain y z, small fit)

  further : y ≢ null → q ≡ cell t.cells y next
  further d = pick_ne (first_of t) (cell t.cells y next) d

  follows : (q ≡ null) ⊎ (1 ≤ times q h.chain)
  follows = go seat
    where
      after_y : (m : List ℕ) × OneFewer y h.chain m → (cell t.cells y next ≡ null) ⊎ (1 ≤ times (cell t.cells y next) h.chain)
      after_y (m, o) =
          up (chain_next o.before y o.after
          (subst (λ (l : List ℕ). Chain (slots_of t.names) t.cells null (first_of t) l) o.whole h.t7.linked))
        where
          up : (cell t.cells y next ≡ null) ⊎ (1 ≤ times (cell t.cells y next) o.after)
              → (cell t.cells y next ≡ null) ⊎ (1 ≤ times (cell t.cells y next) h.chain)
          up (inl e) = inl e
          up (inr z) =
              inr (rw o.whole (omega (
                arith,
                times_append (cell t.cells y next) o.before (y ∷ o.after),
                times_rest (cell t.cells y next) y o.after,
              )))

      go : (y ≡ null) ⊎ (1 ≤ times y h.chain) → (q ≡ null) ⊎ (1 ≤ times q h.chain)
      go (inl e) = rw (at_front e) (chain_starts h.t7.linked)
      go (inr z) = rw (further (not_null z)) (after_y (member y h.chain z))

  -- A slot outside the tree is neither y nor what follows it.
  not_y : (k : ℕ) → k < slots_of t.names → times k (slots h.tree) ≡ 0 → k ≢ y
  not_y k l z e = off_chain h fit k y l z seat (sym e)

  not_q : (k : ℕ) → k < slots_of t.names → times k (slots h.tree) ≡ 0 → k ≢ q
  not_q k l z e = off_chain h fit k q l z follows (sym e)

  abbrev wide : List ℕ
  wide = seated (write t.cells x place p) x y q

  wide_length : length wide ≡ length t.cells
  unfolding seated
  wide_length = simp length-write

  wide_still : (k : ℕ) → Still t.cells wide k
  unfolding seated
  wide_still k = record { states = simp cell_across; parents = simp cell_across; lefts = simp cell_across; rights = simp cell_across }

  seats : Seated (slots_of t.names) t.cells wide x y q
  unfolding seated
  seats =
      let a : x ≢ y = not_y x inside absent in
      let b : x ≢ q = not_q x inside absent in
      record {
        inside = inside;
        x_prev = simp (cell_else, cell_across, cell_same, roomy-write, room x inside);
        x_next = simp (cell_else, cell_across, cell_same, roomy-write, room x inside);
        y_next = λ l. simp (cell_across, cell_same, roomy-write, room y l);
        q_prev = λ l. simp (cell_same, roomy-write, room q l);
        prevs = λ k d e. simp (cell_across, cell_else);
        nexts = λ k d e. simp (cell_across, cell_else);
      }

  -- The chain with x.
  abbrev top : ℕ
  top = pick (eqb y null) x (first_of t)

  joined : (l : List ℕ) × Joins x y h.chain l × Chain (slots_of t.names) wide null top l
  joined = go seat
    where
      go : (y ≡ null) ⊎ (1 ≤ times y h.chain) → (l : List ℕ) × Joins x y h.chain l × Chain (slots_of t.names) wide null top l
      go (inl e) =
          let s : Seated (slots_of t.names) t.cells wide x null q =
          subst (λ (j : ℕ). Seated (slots_of t.names) t.cells wide x j q) e seats in
          let c : Chain (slots_of t.names) t.cells null q h.chain = rw (at_front e) h.t7.linked in (
            x ∷ h.chain,
            front e refl,
            rw (pick_eq x (first_of t) e) (seated_front s once no_x (λ k z. omega (arith, inside_chain k z, small fit)) c),
          )
      go (inr z) = behind (member y h.chain z)
        where
          behind : (m : List ℕ) × OneFewer y h.chain m
              → (l : List ℕ) × Joins x y h.chain l × Chain (slots_of t.names) wide null top l
          behind (m, o) =
              let s : Seated (slots_of t.names) t.cells wide x y (cell t.cells y next) =
              subst (λ (j : ℕ). Seated (slots_of t.names) t.cells wide x y j) (further (not_null z)) seats in
              let c : Chain (slots_of t.names) t.cells null (first_of t) (o.before ++ (y ∷ o.after)) =
              subst (λ (l : List ℕ). Chain (slots_of t.names) t.cells null (first_of t) l) o.whole h.t7.linked in
              let few : (k : ℕ) → times k (o.before ++ (y ∷ o.after)) ≤ 1 = λ k. rw o.whole at (once k) in
              let none : times x (o.before ++ (y ∷ o.after)) ≡ 0 = rw o.whole at no_x in (
                o.before ++ (y ∷ (x ∷ o.after)),
                after o.before o.after (not_null z) o.whole refl,
                rw (pick_ne x (first_of t) (not_null z))
                    (seated-behind o.before o.after s (small fit) few none (chain_next o.before y o.after c) c),
              )

  room_n : roomy parts t.names x ≡ true
  room_n = roomy_names t.names x fit.two (omega (arith, half fit))

  -- Hanging leaves every place as it was, whatever the order says.
  hung-place : (l : List ℕ) (s : Links) (k : ℕ)
      → read (inserted (slots_of t.names) s x (spotted (slots_of t.names) l s hash key)) k place ≡ read s k place
  hung-place l s k = ((claims.hangs_slot (slots_of t.names) (slots_of t.names) l s h.tree x hash key).keeps place place_aside).same k

  -- Which slot has which pair and place.
  takes : Takes t (grown t x y hash key p) x hash key p
  unfolding grown seated
  takes =
      record {
        named = simp (name_across, name_same, roomy-rename, room_n);
        placed = hung-place _ _ x ∙ simp (cell_across, cell_same, room x inside);
        others = λ y d. record {
          pairs = simp name_else;
          places = hung-place _ _ y ∙ simp (cell_across, cell_else);
        };
      }

  abbrev names : List ℕ
  names = (grown t x y hash key p).names

  abbrev links : Links
  links = record { cells = wide; root = root_of t; sizes = t.sizes }

  abbrev hung : Links
  hung = inserted (slots_of t.names) links x (spotted (slots_of t.names) names links hash key)

  holds : Holds (slots_of t.names) links h.tree
  holds =
      record {
        long = wide_length ∙ omega (arith, fit.seven, half fit);
        small = small fit;
        rooted =
            record {
              from = h.t3.rooted.from;
              hangs = hangs_frame (λ k z. wide_still k) h.t3.rooted.hangs;
              once = h.t3.rooted.once;
            };
      }

  risen : Rising names (slots h.tree)
  risen = rising_frame (λ k z. (takes.others k (not_x k z)).pairs) h.t4

  hangs_slot : HangsSlot (slots_of t.names) (slots_of t.names) names links h.tree x hash key
  hangs_slot = claims.hangs_slot (slots_of t.names) (slots_of t.names) names links h.tree x hash key

  cap : slots_of (grown t x y hash key p).names ≡ slots_of t.names
  unfolding grown
  cap = simp length-rename

  module _ (fresh : Has t.names h.tree hash key → ⊥) where
    fresh_still : Has names h.tree hash key → ⊥
    fresh_still e =
        let d = not_x e.slot e.stands in
        fresh (record { slot = e.slot; stands = e.stands; named = sym (takes.others e.slot d).pairs ∙ e.named })

    result : (u : Tree) × Holds (slots_of t.names) hung u × RedBlackTree u × Rising names (slots u)
        × OneFewer x (slots u) (slots h.tree)
    result = hangs_slot.hangs holds (sound_balanced h) risen fresh_still inside absent takes.named (omega arith)

    hung_sized : SizedTree (slots_of t.names) hung result.0
    hung_sized =
        (claims.keeps_sizes (slots_of t.names) (slots_of t.names) links h.tree).hanging names x hash key holds (sound_balanced h)
        (record { long = fit.each ∙ sym (half fit); same = h.t8 }) risen fresh_still inside absent (omega arith) result.0 result.1

    pub grown_fit : Fit (grown t x y hash key p)
    unfolding grown
    grown_fit =
        record {
          capacity = fit.capacity;
          least = fit.least;
          most = fit.most;
          two = simp length-rename fit.two;
          seven = (hangs_slot.keeps place place_aside).long ∙ wide_length ∙ fit.seven;
          three = headed-length t.head _ _ _ ∙ fit.three;
          each = hung_sized.long ∙ half fit;
        }

    spared : (k : ℕ) → k ≢ x → times k (slots h.tree) ≡ 0 → Agree links hung k
    spared k d z = hangs_slot.spares holds (sound_balanced h) risen fresh_still inside absent (omega arith) k d z

    hung_chain : Chain (slots_of t.names) hung.cells null top joined.0
    hung_chain =
        chain_frame (λ k z. record { prevs = (hangs_slot.keeps prev prev_aside).same k; nexts = (hangs_slot.keeps next next_aside).same k })
        joined.2

    same : (k : ℕ) → k < slots_of t.names → times k (slots result.0) ≡ times k joined.0
    same k l = go (ℕ_discrete k x)
      where
        go : Dec (k ≡ x) → times k (slots result.0) ≡ times k joined.0
        go (yes e) = rw e (without_same result.4 ∙ omega (arith, without_same (joins_one joined.1), same_slots h x inside))
        go (no d) = without_else k result.4 d ∙ same_slots h k l ∙ sym (without_else k (joins_one joined.1) d)

    others : (k : ℕ) → k < slots_of t.names → times k (slots result.0) ≡ 0
        → (cell hung.cells k state ≡ free) × Cleared (grown t x y hash key p) k
    unfolding grown
    others k l z =
        let s = wide_still k in
        let c = h.t1.cleared k l (nowhere_free h k l gone) in
        let a = spared k other gone in (
          a.same state refl ∙ s.states ∙ nowhere_free h k l gone,
          record {
            hash = ap (λ (q : Pair). q.hash) (takes.others k other).pairs ∙ c.hash;
            key = ap (λ (q : Pair). q.key) (takes.others k other).pairs ∙ c.key;
            placed = (takes.others k other).places ∙ c.placed;
            parents = a.same parent refl ∙ s.parents ∙ c.parents;
            lefts = a.same left refl ∙ s.lefts ∙ c.lefts;
            rights = a.same right refl ∙ s.rights ∙ c.rights;
            prevs = a.same prev refl ∙ seats.prevs k other (not_q k l gone) ∙ c.prevs;
            nexts = a.same next refl ∙ seats.nexts k other (not_y k l gone) ∙ c.nexts;
          },
        )
      where
        other : k ≢ x
        other e = none_of {x = k} (slots result.0) z (omega (arith, without_same result.4)) (sym e)

        gone : times k (slots h.tree) ≡ 0
        gone = sym (without_else k result.4 other) ∙ z

    built : Built (grown t x y hash key p)
    unfolding grown
    built =
        record {
          tree = result.0;
          chain = joined.0;
          rooted = rw (cap, headed_root t.head _ _ _ fit.three) result.1.rooted;
          rising = result.3;
          coloured = result.2.coloured;
          level = result.2.level;
          linked = rw (cap, headed_first t.head _ _ _ fit.three) hung_chain;
          same = λ k l. same k (rw cap at l);
          others = λ k l z. others k (rw cap at l) z;
          count = headed-count t.head _ _ _ fit.three ∙ omega (arith, sound-count h, without-length result.4);
          sized = hung_sized.same;
        }

    pub grown-sound : Grown t (grown t x y hash key p) h x y hash key p
    unfolding grown built
    grown-sound =
        record {
          sound = built_sound grown_fit built;
          chain = rw (built_chain grown_fit built) joined.1;
          slotted = rw (built_tree grown_fit built) result.4;
          keeps = λ k z. takes.others k (not_x k z);
          takes = takes;
        }
