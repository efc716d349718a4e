-- A slot leaves a sound tree: the chain closes around it, the tree gives it up, and its own words, which neither reads any more,
-- are cleared.
-- Parts: the chain on either side of x; the chain closes around x; what the clearing of x keeps; what a shrunk tree is; the tree without x,
-- and what it keeps; the chain without x; x is cleared, and the whole is fit and sound.
use mathlib.Core.Path.{◌≡◌, refl, ap, sym, subst, ◌∙◌}
use mathlib.Core.Logic.{◌≢◌, ◌⊎◌, inl, inr}
use mathlib.Core.Bool.{true}
use mathlib.Core.List.{List, [], ◌∷◌, ◌++◌}
use Prim.Native.Nat.{ℕ, ◌+◌, ◌*◌, ◌<◌, ◌≤◌}
use native.Mathlib.Decide.{ℕ_discrete}
use native.Mathlib.Omega.{arith}
use lib.ListN.{length}
use lib.Dec.{ltb}
use Rattle.slots.specs.Words.{null, place, state, parent, left, right, prev, next, free, fields, parts, cell, roomy}
use Rattle.slots.specs.Pairs.{Pair, pair, pair_of}
use Rattle.slots.proofs.Laws.{pick_eq, pick_ne, cell_same, cell_across, cell_else, roomy-write, length-write}
use Rattle.tree_rules.specs.Tree.{Tree, slots, times, Rooted}
use Rattle.tree_rules.specs.Chain.{Chain, linked}
use Rattle.tree_rules.proofs.Counting.{times_append, times_head, times_rest}
use Rattle.tree_rules.proofs.Chaining.{chain_inside, chain_once}
use Rattle.redblack.specs.Links.{Links, read}
use Rattle.redblack.specs.Removal.{removed}
use Rattle.redblack.specs.Balance.{OneFewer}
use Rattle.redblack.specs.Holding.{Holds, RedBlackTree}
use Rattle.redblack.specs.Kept.{Agree}
use Rattle.redblack.specs.Sizes.{SizedTree}
use Rattle.redblack.specs.Claims.{RemovesSlot}
use Rattle.redblack.proofs.Kept.{place_aside, prev_aside, next_aside}
use Rattle.redblack.proofs.Claims.{claims}
use Rattle.index_rules.specs.Live.{Live, Fit, root_of, first_of}
use Rattle.index_rules.specs.Sound.{Sound, Cleared}
use Rattle.index_rules.proofs.Built.{Built}
use Rattle.index_rules.specs.Remove.{unchained, new_first, wiped, shrunk}
use Rattle.index_rules.specs.Calls.{Alike, OthersStay, Frees}
use Rattle.index_rules.proofs.Fit.{half}
use Rattle.index_rules.proofs.Rules.{small}
use Rattle.index_rules.proofs.Building.{built_sound, built_tree, built_chain}
use Rattle.index_rules.proofs.Frames.{Still, none_of, member, off_chain, sound_balanced, tree_inside, same_slots, nowhere_free}
use Rattle.index_rules.proofs.Frames.{sound-count, hangs_frame, chain_frame, chain_behind, chain_starts, rising_frame}
use Rattle.index_rules.proofs.Frames.{rising_without, without_else, without_same, without-length, roomy_cells, roomy_names}
use Rattle.index_rules.proofs.Frames.{name_same, name_across, name_else, roomy-rename, length-rename, headed-length, headed_root}
use Rattle.index_rules.proofs.Frames.{headed_first, headed-count}
use Rattle.tree_rules.specs.Find.{slots_of}

module _ {n : ℕ} {cells : List ℕ} where
  -- The chain after x, and the slot before x.
  chain_after : {q i : ℕ} (a : List ℕ) (x : ℕ) (b : List ℕ) → Chain n cells q i (a ++ (x ∷ b)) → Chain n cells x (cell cells x next) b
  chain_after [] x b (linked w p c) = c
  chain_after {q = q} (y ∷ a) x b (linked w p c) = chain_after {q = y} a x b c

  chain_prior : {q i : ℕ} (a : List ℕ) (x : ℕ) (b : List ℕ) → Chain n cells q i (a ++ (x ∷ b))
      → ((cell cells x prev ≡ q) × (a ≡ [])) ⊎ (1 ≤ times (cell cells x prev) a)
  chain_prior [] x b (linked w p c) = inl (p, refl)
  chain_prior {q = q} (y ∷ a) x b (linked w p c) = inr (go (chain_prior {q = y} a x b c))
    where
      go : ((cell cells x prev ≡ y) × (a ≡ [])) ⊎ (1 ≤ times (cell cells x prev) a) → 1 ≤ times (cell cells x prev) (y ∷ a)
      go (inl e) = rw e.0 (omega (arith, times_head y a))
      go (inr z) = omega (arith, times_rest (cell cells x prev) y a)

-- The slot before x ends what comes before it.
pub chain_last : {n q i : ℕ} {cells : List ℕ} (a : List ℕ) (x : ℕ) (b : List ℕ) → Chain n cells q i (a ++ (x ∷ b))
    → ((cell cells x prev ≡ q) × (a ≡ [])) ⊎ ((c : List ℕ) × (a ≡ c ++ (cell cells x prev ∷ [])))
chain_last [] x b (linked w p r) = inl (p, refl)
chain_last {q = q} {cells = cells} (y ∷ a) x b (linked w p r) = inr (go (chain_last {q = y} a x b r))
  where
    go : ((cell cells x prev ≡ y) × (a ≡ [])) ⊎ ((c : List ℕ) × (a ≡ c ++ (cell cells x prev ∷ [])))
        → (c : List ℕ) × (y ∷ a ≡ c ++ (cell cells x prev ∷ []))
    go (inl e) = ([], λ i. sym e.0 i ∷ e.1 i)
    go (inr e) = (y ∷ e.0, ap (λ (l : List ℕ). y ∷ l) e.1)

-- The words after the chain writes, and where the chain starts without x.
module _ (cells : List ℕ) (x : ℕ) where
  loose_length : length (unchained cells x) ≡ length cells
  unfolding unchained
  loose_length = simp length-write

  loose_still : (k : ℕ) → Still cells (unchained cells x) k
  unfolding unchained
  loose_still k = record { states = simp cell_across; parents = simp cell_across; lefts = simp cell_across; rights = simp cell_across }

  loose_next : (k : ℕ) → k ≢ cell cells x prev → cell (unchained cells x) k next ≡ cell cells k next
  unfolding unchained
  loose_next k d = simp (cell_across, cell_else)

  loose_prev : (k : ℕ) → k ≢ cell cells x next → cell (unchained cells x) k prev ≡ cell cells k prev
  unfolding unchained
  loose_prev k d = simp (cell_across, cell_else)

  skip : List ℕ → ℕ → ℕ
  skip [] i = cell cells x next
  skip (y ∷ a) i = i

  skip_some : (k : ℕ) (a : List ℕ) (i : ℕ) → 1 ≤ times k a → skip a i ≡ i
  unfolding skip times
  skip_some k [] i z = absurd (omega arith)
  skip_some k (y ∷ a) i z = refl

  module _ {n : ℕ} (long : length cells ≡ 7 * n) (small : n ≤ null) where
    prior_next : (k : ℕ) → cell cells x prev ≡ k → k < n → cell (unchained cells x) k next ≡ cell cells x next
    unfolding unchained
    prior_next k e l = rw e (simp (cell_across, cell_same, roomy_cells cells k long l))

    after-prev : cell cells x next < n → cell (unchained cells x) (cell cells x next) prev ≡ cell cells x prev
    unfolding unchained
    after-prev l = simp (cell_same, roomy-write, roomy_cells cells (cell cells x next) long l)

    -- A chain closes around x: no slot stands in it twice, and the slot that it follows is none of it.
    chain_cut : {q i : ℕ} (a b : List ℕ) → ((k : ℕ) → times k (a ++ (x ∷ b)) ≤ 1) → times q (a ++ (x ∷ b)) ≡ 0
        → Chain n cells q i (a ++ (x ∷ b)) → Chain n (unchained cells x) q (skip a i) (a ++ b)
    unfolding skip
    chain_cut {q} [] b once out (linked w p c) =
        chain_behind (λ k. omega (arith, once k, times_rest k x b)) (λ l. after-prev l ∙ p) (λ k z d. loose_prev k d)
        (λ k z. loose_next k (λ e. clash k z (e ∙ p))) c
      where
        clash : (k : ℕ) → 1 ≤ times k b → k ≢ q
        clash k z = none_of b (omega (arith, times_rest q x b)) z
    chain_cut {q} (y ∷ a) b once out (linked w p c) =
        linked {l = a ++ b} w (loose_prev y later ∙ p)
        (rw step (chain_cut {q = y} a b (λ k. omega (arith, once k, times_rest k y (a ++ (x ∷ b)))) nowhere c))
      where
        nowhere : times y (a ++ (x ∷ b)) ≡ 0
        nowhere = omega (arith, once y, times_head y (a ++ (x ∷ b)))

        -- y is not the slot after x
        later : y ≢ cell cells x next
        later e = go (chain_starts (chain_after a x b c))
          where
            go : (cell cells x next ≡ null) ⊎ (1 ≤ times (cell cells x next) b) → ⊥
            go (inl z) = omega arith
            go (inr z) = none_of b (omega (arith, nowhere, times_append y a (x ∷ b), times_rest y x b)) z (sym e)

        step : cell (unchained cells x) y next ≡ skip a (cell cells y next)
        step = go (chain_prior a x b c)
          where
            go : ((cell cells x prev ≡ y) × (a ≡ [])) ⊎ (1 ≤ times (cell cells x prev) a)
                → cell (unchained cells x) y next ≡ skip a (cell cells y next)
            go (inl e) = prior_next y e.0 w ∙ ap (λ (j : List ℕ). skip j (cell cells y next)) (sym e.1)
            go (inr z) =
                loose_next y (λ e. none_of {x = y} a (omega (arith, nowhere, times_append y a (x ∷ b))) z (sym e))
                ∙ sym (skip_some (cell cells x prev) a (cell cells y next) z)

-- What the clearing of x keeps.
module _ (cells : List ℕ) (x : ℕ) where
  wiped-length : length (wiped cells x) ≡ length cells
  unfolding wiped
  wiped-length = simp length-write

  wiped_else : (k f : ℕ) → k ≢ x → ltb f fields ≡ true → cell (wiped cells x) k f ≡ cell cells k f
  unfolding wiped
  wiped_else k f d s = simp cell_else

-- The tree u is t without the slot x.
pub record Shrunk (t u : Live) (h : Sound t) (x : ℕ) : Type 0 where
  pub sound : Sound u
  pub chain : OneFewer x h.chain sound.chain
  pub slotted : OneFewer x (slots h.tree) (slots sound.tree)
  pub keeps : (k : ℕ) → 1 ≤ times k (slots sound.tree) → Alike t u k
  pub frees : Frees t u x

module _ {t : Live} (fit : Fit t) (h : Sound t) (x : ℕ) (here : 1 ≤ times x (slots h.tree)) where
  inside : x < slots_of t.names
  inside = tree_inside h x here

  in_chain : 1 ≤ times x h.chain
  in_chain = omega (arith, here, same_slots h x inside)

  long : length t.cells ≡ 7 * slots_of t.names
  long = omega (arith, fit.seven, half fit)

  abbrev loose : List ℕ
  loose = unchained t.cells x

  abbrev links : Links
  links = record { cells = loose; root = root_of t; sizes = t.sizes }

  abbrev gone : Links
  gone = removed (slots_of t.names) links x

  removes_slot : RemovesSlot (slots_of t.names) (slots_of t.names) links h.tree x
  removes_slot = claims.removes_slot (slots_of t.names) (slots_of t.names) links h.tree x

  -- A removal leaves every place as it was, whatever the links are.
  gone_place : (s : Links) (k : ℕ) → read (removed (slots_of t.names) s x) k place ≡ read s k place
  gone_place s k = ((claims.removes_slot (slots_of t.names) (slots_of t.names) s h.tree x).keeps place place_aside).same k

  -- Which slot keeps which pair and place.
  others_stay : OthersStay t (shrunk t x) x
  unfolding shrunk wiped unchained
  others_stay y d =
      record { pairs = simp name_else; places = simp cell_else (gone_place _ y ∙ simp cell_across) }

  holds : Holds (slots_of t.names) links h.tree
  holds =
      record {
        long = loose_length t.cells x ∙ long;
        small = small fit;
        rooted =
            record {
              from = h.t3.rooted.from;
              hangs = hangs_frame (λ k z. loose_still t.cells x k) h.t3.rooted.hangs;
              once = h.t3.rooted.once;
            };
      }

  result : (u : Tree) × Holds (slots_of t.names) gone u × RedBlackTree u × OneFewer x (slots h.tree) (slots u)
  result = removes_slot.removes holds (sound_balanced h) here (omega arith)

  others_chain : (m : List ℕ) × OneFewer x h.chain m
  others_chain = member x h.chain in_chain

  -- The old chain around x.
  abbrev front : List ℕ
  front = others_chain.1.before

  abbrev back : List ℕ
  back = others_chain.1.after

  whole_chain : Chain (slots_of t.names) t.cells null (first_of t) (front ++ (x ∷ back))
  whole_chain = subst (λ (l : List ℕ). Chain (slots_of t.names) t.cells null (first_of t) l) others_chain.1.whole h.t7.linked

  within : (k : ℕ) → times k h.chain ≡ times k front + times k (x ∷ back)
  within k = ap (λ (l : List ℕ). times k l) others_chain.1.whole ∙ times_append k front (x ∷ back)

  once : (k : ℕ) → times k h.chain ≤ 1
  once = chain_once (slots_of t.names) t.cells (small fit) (first_of t) h.t7.linked

  cut : Chain (slots_of t.names) loose null (skip t.cells x front (first_of t)) others_chain.0
  cut =
      subst (λ (l : List ℕ). Chain (slots_of t.names) loose null (skip t.cells x front (first_of t)) l) (sym others_chain.1.rest)
      (chain_cut t.cells x long (small fit) front back (λ k. omega (arith, once k, within k, times_append k front (x ∷ back)))
      no_null whole_chain)
    where
      no_null : times null (front ++ (x ∷ back)) ≡ 0
      no_null = go (ℕ_discrete (times null (front ++ (x ∷ back))) 0)
        where
          go : Dec (times null (front ++ (x ∷ back)) ≡ 0) → times null (front ++ (x ∷ back)) ≡ 0
          go (yes e) = e
          go (no d) =
              let z : 1 ≤ times null (front ++ (x ∷ back)) = omega arith in
              absurd (omega (arith, small fit, chain_inside (slots_of t.names) t.cells whole_chain z))

  first_is : new_first t x ≡ skip t.cells x front (first_of t)
  unfolding skip
  first_is = go (chain_prior front x back whole_chain)
    where
      go : ((cell t.cells x prev ≡ null) × (front ≡ [])) ⊎ (1 ≤ times (cell t.cells x prev) front)
          → new_first t x ≡ skip t.cells x front (first_of t)
      go (inl e) = pick_eq _ _ e.0 ∙ ap (λ (l : List ℕ). skip t.cells x l (first_of t)) (sym e.1)
      go (inr z) =
          let l : cell t.cells x prev < slots_of t.names =
          chain_inside (slots_of t.names) t.cells h.t7.linked (omega (arith, within (cell t.cells x prev))) in
          let d : cell t.cells x prev ≢ null = omega (arith, small fit) in
          pick_ne _ _ d ∙ sym (skip_some t.cells x (cell t.cells x prev) front (first_of t) z)

  absent : times x (slots result.0) ≡ 0
  absent = omega (arith, without_same result.3, h.t3.rooted.once x)

  absent_chain : times x others_chain.0 ≡ 0
  absent_chain = omega (arith, without_same others_chain.1, once x)

  not_x : (k : ℕ) → 1 ≤ times k (slots result.0) → k ≢ x
  not_x k z = none_of (slots result.0) absent z

  abbrev clean : List ℕ
  clean = wiped gone.cells x

  room : roomy fields gone.cells x ≡ true
  room = roomy_cells gone.cells x result.1.long inside

  clean_still : (k : ℕ) → k ≢ x → Still gone.cells clean k
  clean_still k d =
      record {
        states = wiped_else gone.cells x k state d refl;
        parents = wiped_else gone.cells x k parent d refl;
        lefts = wiped_else gone.cells x k left d refl;
        rights = wiped_else gone.cells x k right d refl;
      }

  clean_rooted : Rooted (slots_of t.names) clean gone.root result.0
  clean_rooted =
      record {
        from = result.1.rooted.from;
        hangs = hangs_frame (λ k z. clean_still k (not_x k z)) result.1.rooted.hangs;
        once = result.1.rooted.once;
      }

  clean_chain : Chain (slots_of t.names) clean null (new_first t x) others_chain.0
  clean_chain =
      rw first_is
      (chain_frame (λ k z. (let d = none_of others_chain.0 absent_chain z in
      record {
        prevs = wiped_else gone.cells x k prev d refl ∙ (removes_slot.keeps prev prev_aside).same k;
        nexts = wiped_else gone.cells x k next d refl ∙ (removes_slot.keeps next next_aside).same k;
      }))
      cut)

  same : (k : ℕ) → k < slots_of t.names → times k (slots result.0) ≡ times k others_chain.0
  same k l = go (ℕ_discrete k x)
    where
      go : Dec (k ≡ x) → times k (slots result.0) ≡ times k others_chain.0
      go (yes e) = rw e (absent ∙ sym absent_chain)
      go (no d) = sym (without_else k result.3 d) ∙ same_slots h k l ∙ without_else k others_chain.1 d

  room_n : roomy parts t.names x ≡ true
  room_n = roomy_names t.names x fit.two (omega (arith, half fit, inside))

  -- The neighbours of x are null or slots of the chain.
  priors : (cell t.cells x prev ≡ null) ⊎ (1 ≤ times (cell t.cells x prev) h.chain)
  priors = go (chain_prior front x back whole_chain)
    where
      go : ((cell t.cells x prev ≡ null) × (front ≡ [])) ⊎ (1 ≤ times (cell t.cells x prev) front)
          → (cell t.cells x prev ≡ null) ⊎ (1 ≤ times (cell t.cells x prev) h.chain)
      go (inl e) = inl e.0
      go (inr z) = inr (omega (arith, within (cell t.cells x prev)))

  afters : (cell t.cells x next ≡ null) ⊎ (1 ≤ times (cell t.cells x next) h.chain)
  afters = go (chain_starts (chain_after front x back whole_chain))
    where
      go : (cell t.cells x next ≡ null) ⊎ (1 ≤ times (cell t.cells x next) back)
          → (cell t.cells x next ≡ null) ⊎ (1 ≤ times (cell t.cells x next) h.chain)
      go (inl e) = inl e
      go (inr z) = inr (omega (arith, within (cell t.cells x next), times_rest (cell t.cells x next) x back))

  -- The slot x is cleared.
  nameless : pair_of (shrunk t x).names x ≡ pair 0 0
  unfolding shrunk
  nameless = simp (name_across, name_same, roomy-rename, room_n)

  own : (cell clean x state ≡ free) × Cleared (shrunk t x) x
  unfolding shrunk wiped
  own = (
    simp (cell_across, cell_same, roomy-write, room),
    record {
      hash = ap (λ (q : Pair). q.hash) nameless;
      key = ap (λ (q : Pair). q.key) nameless;
      placed = simp (cell_across, cell_same, room);
      parents = simp (cell_across, cell_same, roomy-write, room);
      lefts = simp (cell_across, cell_same, roomy-write, room);
      rights = simp (cell_across, cell_same, roomy-write, room);
      prevs = simp (cell_across, cell_same, roomy-write, room);
      nexts = simp (cell_same, roomy-write, room);
    },
  )

  others : (k : ℕ) → k < slots_of t.names → times k (slots result.0) ≡ 0 → (cell clean k state ≡ free) × Cleared (shrunk t x) k
  unfolding shrunk
  others k l z = go (ℕ_discrete k x)
    where
      away : k ≢ x → times k (slots h.tree) ≡ 0 → (cell clean k state ≡ free) × Cleared (shrunk t x) k
      away d y =
          let s = loose_still t.cells x k in
          let c = h.t1.cleared k l (nowhere_free h k l y) in
          let a : Agree links gone k = removes_slot.spares holds (sound_balanced h) here k y in
          let w : (f : ℕ) → ltb f fields ≡ true → cell clean k f ≡ cell loose k f =
          λ f m. wiped_else gone.cells x k f d m ∙ a.same f m in (
            w state refl ∙ s.states ∙ nowhere_free h k l y,
            record {
              hash = ap (λ (q : Pair). q.hash) (others_stay k d).pairs ∙ c.hash;
              key = ap (λ (q : Pair). q.key) (others_stay k d).pairs ∙ c.key;
              placed = (others_stay k d).places ∙ c.placed;
              parents = w parent refl ∙ s.parents ∙ c.parents;
              lefts = w left refl ∙ s.lefts ∙ c.lefts;
              rights = w right refl ∙ s.rights ∙ c.rights;
              prevs =
                  w prev refl ∙ loose_prev t.cells x k (λ e. off_chain h fit k (cell t.cells x next) l y afters (sym e)) ∙ c.prevs;
              nexts =
                  w next refl ∙ loose_next t.cells x k (λ e. off_chain h fit k (cell t.cells x prev) l y priors (sym e)) ∙ c.nexts;
            },
          )

      go : Dec (k ≡ x) → (cell clean k state ≡ free) × Cleared (shrunk t x) k
      go (yes e) = rw e own
      go (no d) = away d (without_else k result.3 d ∙ z)

  gone_sized : SizedTree (slots_of t.names) gone result.0
  gone_sized =
      ((Rattle.redblack.proofs.Claims.claims).keeps_sizes (slots_of t.names) (slots_of t.names) links h.tree).removal x holds
      (sound_balanced h)
      (record { long = fit.each ∙ sym (half fit); same = h.t8 }) here (omega arith) result.0 result.1

  pub shrunk_fit : Fit (shrunk t x)
  unfolding shrunk
  shrunk_fit =
      record {
        capacity = fit.capacity;
        least = fit.least;
        most = fit.most;
        two = simp length-rename fit.two;
        seven = wiped-length gone.cells x ∙ (removes_slot.keeps place place_aside).long ∙ loose_length t.cells x ∙ fit.seven;
        three = headed-length t.head _ _ _ ∙ fit.three;
        each = gone_sized.long ∙ half fit;
      }

  cap : slots_of (shrunk t x).names ≡ slots_of t.names
  unfolding shrunk
  cap = simp length-rename

  built : Built (shrunk t x)
  unfolding shrunk
  built =
      record {
        tree = result.0;
        chain = others_chain.0;
        rooted = rw (cap, headed_root t.head _ _ _ fit.three) clean_rooted;
        rising = rising_frame (λ k z. (others_stay k (not_x k z)).pairs) (rising_without result.3 h.t4);
        coloured = result.2.coloured;
        level = result.2.level;
        linked = rw (cap, headed_first t.head _ _ _ fit.three) clean_chain;
        same = λ k l. same k (rw cap at l);
        others = λ k l z. others k (rw cap at l) z;
        count = headed-count t.head _ _ _ fit.three ∙ omega (arith, sound-count h, without-length result.3);
        sized = gone_sized.same;
      }

  pub shrunk-sound : Shrunk t (shrunk t x) h x
  unfolding shrunk built
  shrunk-sound =
      record {
        sound = built_sound shrunk_fit built;
        chain = rw (built_chain shrunk_fit built) others_chain.1;
        slotted = rw (built_tree shrunk_fit built) result.3;
        keeps = λ k z. others_stay k (not_x k (rw (built_tree shrunk_fit built) at z));
        frees = record { freed = own.0; others = others_stay };
      }
