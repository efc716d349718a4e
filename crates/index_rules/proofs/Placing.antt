-- A slot of a sound tree gets another place: no rule reads the place of a used slot, so the tree is as sound as it was, with the same tree
-- and chain, and only this pair's entry is another.
use mathlib.Core.Path.{◌≡◌, refl, ap, sym, ◌∙◌, subst}
use mathlib.Core.Logic.{◌≢◌}
use mathlib.Core.Bool.{true, false}
use mathlib.Core.List.{List, [], ◌∷◌, map}
use Prim.Native.Nat.{ℕ, ◌+◌, ◌*◌, ◌<◌, ◌≤◌}
use native.Mathlib.Decide.{ℕ_discrete}
use native.Mathlib.Omega.{arith}
use lib.ListN.{get_or}
use lib.Seq.{get_or-set_other}
use lib.Dec.{ltb, eqb}
use Rattle.slots.specs.Words.{place, state, parent, left, right, prev, next, free, fields, cell, write, roomy}
use Rattle.slots.specs.Pairs.{Pair, pair, pair_of}
use Rattle.slots.specs.Answers.{Answer, some}
use Rattle.slots.proofs.Laws.{cell_same, cell_across, cell_else, length-write}
use Rattle.tree_rules.specs.Tree.{Tree, slots, times}
use Rattle.tree_rules.specs.Find.{slots_of}
use Rattle.tree_rules.proofs.Counting.{times_head, times_rest}
use Rattle.redblack.specs.Holding.{Stands}
use Rattle.index_rules.specs.Live.{Live, Fit}
use Rattle.index_rules.specs.Sound.{Sound, Cleared}
use Rattle.index_rules.specs.Replace.{placed_at}
use Rattle.index_rules.specs.Contents.{entry, entry_of, contents, with_place}
use Rattle.index_rules.specs.Calls.{OthersStay, OnlyPlace}
use Rattle.index_rules.proofs.Built.{Built}
use Rattle.index_rules.proofs.Fit.{half}
use Rattle.index_rules.proofs.Building.{built_sound, built_tree, built_chain}
use Rattle.index_rules.proofs.Frames.{none_of, tree_inside, same_slots, nowhere_free, sound-count, hangs_frame, chain_frame}
use Rattle.index_rules.proofs.Frames.{roomy_cells}
use Rattle.index_rules.proofs.Seeking.{found_at}
use Rattle.index_rules.proofs.Listing.{is-pair, not-pair}
use Rattle.index_rules.proofs.Holding.{entry-is, entry_as, map_same}

-- One slot's place is another: the list of entries along any slots, where x is the one slot with the pair.
pub placed_map : (t u : Live) (x hash key p : ℕ) (l : List ℕ) → entry_of u x ≡ entry hash key p → pair_of t.names x ≡ pair hash key
    → OthersStay t u x
    → ((j : ℕ) → 1 ≤ times j l → pair_of t.names j ≡ pair hash key → j ≡ x) → times x l ≤ 1
    → map (entry_of u) l ≡ with_place hash key p (map (entry_of t) l)
unfolding with_place
placed_map t u x hash key p [] e n stay only once = refl
placed_map t u x hash key p (y ∷ l) e n stay only once =
    go (ℕ_discrete y x)
    (placed_map t u x hash key p l e n stay (λ j z. only j (omega (arith, times_rest j y l))) (omega (arith, times_rest x y l)))
  where
    go : Dec (y ≡ x) → map (entry_of u) l ≡ with_place hash key p (map (entry_of t) l)
        → map (entry_of u) (y ∷ l) ≡ with_place hash key p (map (entry_of t) (y ∷ l))
    go (yes q) rest =
        let named : pair_of t.names y ≡ pair hash key = rw q n in
        let within : times x (x ∷ l) ≤ 1 = subst (λ (j : ℕ). times x (j ∷ l) ≤ 1) q once in
        let none : times x l ≡ 0 = omega (arith, times_head x l) in
        let own : entry_of u y ≡ entry hash key p = rw q e in
        let same : map (entry_of u) l ≡ map (entry_of t) l = map_same t u l (λ j z. stay j (none_of l none z)) in
        rw (is-pair hash key (entry_of t y) (ap (λ (r : Pair). r.hash) named) (ap (λ (r : Pair). r.key) named)) (λ i. own i ∷ same i)
    go (no d) rest =
        let s = stay y d in
        let own : entry_of u y ≡ entry_of t y = entry-is t u y s.pairs s.places in
        rw (not-pair hash key (entry_of t y) (λ a b. d (only y (omega (arith, times_head y l)) (λ i. pair (a i) (b i)))))
        (λ i. own i ∷ rest i)

-- A write of a slot's place leaves every other word.
word_away : (cells : List ℕ) (x p j : ℕ) → j ≢ fields * x + place → get_or (write cells x place p) j 0 ≡ get_or cells j 0
unfolding write
word_away cells x p j d = get_or-set_other cells (fields * x + place) j p 0 d

some_is : {x y : ℕ} → some x ≡ some y → x ≡ y
some_is e = cc

-- A sound tree has a pair in one slot.
pub slot_one : {t : Live} → Fit t → (h : Sound t) (hash key x j : ℕ) → Stands x h.tree → pair_of t.names x ≡ pair hash key
    → Stands j h.tree → pair_of t.names j ≡ pair hash key → j ≡ x
slot_one fit h hash key x j z n w m =
    some_is (ap (λ (r : Answer). r.value) (sym (found_at fit h hash key j w m) ∙ found_at fit h hash key x z n))

-- The tree u is t with the place p in the slot x of its tree, and is sound.
pub record Placed (t u : Live) (h : Sound t) (x p : ℕ) : Type 0 where
  pub fit : Fit u
  pub sound : Sound u
  pub tree : sound.tree ≡ h.tree
  pub chain : sound.chain ≡ h.chain
  pub only : OnlyPlace t u x p
  pub others : OthersStay t u x

module _ {t : Live} (fit : Fit t) (h : Sound t) (x p : ℕ) (z : Stands x h.tree) where
  inside : x < slots_of t.names
  inside = tree_inside h x z

  room : roomy fields t.cells x ≡ true
  room = roomy_cells t.cells x fit.seven (omega (arith, half fit, inside))

  -- No other word is another.
  across : (k f : ℕ) → eqb place f ≡ false → ltb f fields ≡ true → cell (placed_at t x p).cells k f ≡ cell t.cells k f
  unfolding placed_at
  across k f e l = simp (cell_across, e, l)

  stay : OthersStay t (placed_at t x p) x
  unfolding placed_at
  stay k d = record { pairs = refl; places = cell_else t.cells x place p k place d refl refl }

  placed_fit : Fit (placed_at t x p)
  unfolding placed_at
  placed_fit =
      record {
        capacity = fit.capacity;
        least = fit.least;
        most = fit.most;
        two = fit.two;
        seven = length-write t.cells x place p ∙ fit.seven;
        three = fit.three;
        each = fit.each;
      }

  -- A free slot is another one, and stays cleared.
  cleared : (k : ℕ) → k < slots_of t.names → times k (slots h.tree) ≡ 0
      → (cell (placed_at t x p).cells k state ≡ free) × Cleared (placed_at t x p) k
  unfolding placed_at
  cleared k l e =
      let d : k ≢ x =
      λ q. (let y : times k (slots h.tree) ≡ times x (slots h.tree) = ap (λ (j : ℕ). times j (slots h.tree)) q in
      omega (arith, z)) in
      let c = h.t1.cleared k l (nowhere_free h k l e) in (
        across k state refl refl ∙ nowhere_free h k l e,
        record {
          hash = c.hash;
          key = c.key;
          placed = (stay k d).places ∙ c.placed;
          parents = across k parent refl refl ∙ c.parents;
          lefts = across k left refl refl ∙ c.lefts;
          rights = across k right refl refl ∙ c.rights;
          prevs = across k prev refl refl ∙ c.prevs;
          nexts = across k next refl refl ∙ c.nexts;
        },
      )

  built : Built (placed_at t x p)
  unfolding placed_at
  built =
      record {
        tree = h.tree;
        chain = h.chain;
        rooted =
            record {
              from = h.t3.rooted.from;
              hangs =
                  hangs_frame (λ k w. record {
                    states = across k state refl refl;
                    parents = across k parent refl refl;
                    lefts = across k left refl refl;
                    rights = across k right refl refl;
                  })
                  h.t3.rooted.hangs;
              once = h.t3.rooted.once;
            };
        rising = h.t4;
        coloured = h.t5;
        level = h.t6;
        linked = chain_frame (λ k w. record { prevs = across k prev refl refl; nexts = across k next refl refl }) h.t7.linked;
        same = same_slots h;
        others = cleared;
        count = sound-count h;
        sized = h.t8;
      }

  only-place : OnlyPlace t (placed_at t x p) x p
  unfolding placed_at
  only-place =
      record {
        names = refl;
        head = refl;
        sizes = refl;
        long = length-write t.cells x place p;
        placed = cell_same t.cells x place p room refl;
        others = λ j d. word_away t.cells x p j d;
      }

  pub placed_sound : Placed t (placed_at t x p) h x p
  unfolding built
  placed_sound =
      record {
        fit = placed_fit;
        sound = built_sound placed_fit built;
        tree = built_tree placed_fit built;
        chain = built_chain placed_fit built;
        only = only-place;
        others = stay;
      }

pub placed_own : {t u : Live} {h : Sound t} {x p : ℕ} (g : Placed t u h x p) (hash key : ℕ) → pair_of t.names x ≡ pair hash key
    → entry_of u x ≡ entry hash key p
placed_own {t} {u} {h} {x} {p} g hash key n =
    entry_as u x hash key p (ap (λ (l : List ℕ). pair_of l x) g.only.names ∙ n) g.only.placed

pub placed_contents : {t u : Live} {h : Sound t} {x p : ℕ} → Fit t → (g : Placed t u h x p) → Stands x h.tree → (hash key : ℕ)
    → pair_of t.names x ≡ pair hash key → contents g.sound ≡ with_place hash key p (contents h)
placed_contents {t} {u} {h} {x} {p} fit g z hash key n =
    ap (λ (r : Tree). map (entry_of u) (slots r)) g.tree
    ∙ placed_map t u x hash key p (slots h.tree) (placed_own g hash key n) n g.others (λ j w m. slot_one fit h hash key x j z n w m)
    (h.t3.rooted.once x)
