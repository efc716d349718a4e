-- A tree that slots join one after the other has T3 to T6 over exactly these slots, and a slot that is none of them keeps all its words.
-- Each step is redblack's theorem of one slot that joins a tree; it asks nothing of the sizes.
use mathlib.Core.Path.{◌≡◌, refl, ap, sym, ◌∙◌}
use mathlib.Core.Logic.{◌≢◌}
use mathlib.Core.List.{List, [], ◌∷◌}
use mathlib.Core.Bool.{true}
use Prim.Native.Nat.{ℕ, zero, suc, ◌+◌, ◌*◌, ◌<◌, ◌≤◌}
use native.Mathlib.Decide.{ℕ_discrete}
use native.Mathlib.Omega.{arith}
use lib.ListN.{length}
use lib.Dec.{ltb}
use borrow.Author.Tests.{eq-eqb, ne_eqb}
use Rattle.slots.specs.Words.{null, name_of, hash_part, key_part, next, fields, cell}
use Rattle.slots.specs.Pairs.{pair_of}
use Rattle.tree_rules.specs.Find.{slots_of}
use Rattle.tree_rules.specs.Tree.{Tree, leaf, slots, times, Rising, Hangs, Calm, Meets}
use Rattle.tree_rules.proofs.Counting.{times_head, times_else, times_rest}
use Rattle.redblack.specs.Links.{Links, read, lent_links}
use Rattle.redblack.specs.Holding.{Holds, RedBlackTree, Has}
use Rattle.redblack.specs.Balance.{OneFewer}
use Rattle.redblack.specs.Kept.{Aside, Keeps, Agree}
use Rattle.redblack.specs.Claims.{HangsSlot}
use Rattle.redblack.proofs.Kept.{place_aside, next_aside}
use Rattle.redblack.proofs.Claims.{claims}
use Rattle.index_rules.proofs.Frames.{without_else, without_same, without-length}
use Rattle.set_rules.specs.Accepted.{Listed, ended, onward}
use Rattle.move_rules.specs.Passes.{joined, joined_from}
use Rattle.move_rules.specs.Moved.{Grows}
use Rattle.move_rules.proofs.Framing.{listed_next}

-- No two of these slots have one pair, and none stands twice.
pub record Distinct (names : List ℕ) (l : List ℕ) : Type 0 where
  pub once : (k : ℕ) → times k l ≤ 1
  pub pairs : (x y : ℕ) → 1 ≤ times x l → 1 ≤ times y l → pair_of names x ≡ pair_of names y → x ≡ y

-- From the tree t that the links s hold to the tree u that r hold, the slots l have joined.
pub record Joined (names : List ℕ) (s r : Links) (t u : Tree) (l : List ℕ) : Type 0 where
  pub holds : Holds (slots_of names) r u
  pub balanced : RedBlackTree u
  pub rising : Rising names (slots u)
  pub counts : (k : ℕ) → times k (slots u) ≡ times k (slots t) + times k l
  pub longer : length (slots u) ≡ length (slots t) + length l
  pub spares : (k : ℕ) → times k (slots t) ≡ 0 → times k l ≡ 0 → Agree s r k
  pub keeps : (f : ℕ) → Aside f → Keeps f s r

module _ (names : List ℕ) where
  -- No slot of the tree has the pair of one of these.
  abbrev pub Unmet : Tree → List ℕ → Type 0
  Unmet t l = (x y : ℕ) → 1 ≤ times x (slots t) → 1 ≤ times y l → pair_of names x ≢ pair_of names y

  module _ {s : Links} {t : Tree} (x : ℕ) (h : Holds (slots_of names) s t) (b : RedBlackTree t) (r : Rising names (slots t))
      (inside : x < slots_of names) (new : (y : ℕ) → 1 ≤ times y (slots t) → pair_of names y ≢ pair_of names x) where
    one : HangsSlot (slots_of names) (slots_of names) names s t x (name_of names x hash_part) (name_of names x key_part)
    one = claims.hangs_slot (slots_of names) (slots_of names) names s t x (name_of names x hash_part) (name_of names x key_part)

    unmet : Has names t (name_of names x hash_part) (name_of names x key_part) → ⊥
    unmet e = new e.slot e.stands e.named

    fresh : times x (slots t) ≡ 0
    fresh = go (ℕ_discrete (times x (slots t)) 0)
      where
        go : Dec (times x (slots t) ≡ 0) → times x (slots t) ≡ 0
        go (yes z) = z
        go (no d) = absurd (new x (omega arith) refl)

    other : (k : ℕ) → times k (x ∷ []) ≡ 0 → k ≢ x
    unfolding times
    other k y e = let z : times k (x ∷ []) ≡ times x (x ∷ []) = ap (λ (j : ℕ). times j (x ∷ [])) e in omega (arith, times_head x [])

    counted : (u : Tree) → OneFewer x (slots u) (slots t) → (k : ℕ) → times k (slots u) ≡ times k (slots t) + times k (x ∷ [])
    unfolding times
    counted u o k = go (ℕ_discrete k x)
      where
        go : Dec (k ≡ x) → times k (slots u) ≡ times k (slots t) + times k (x ∷ [])
        go (yes e) = rw e (omega (arith, without_same o, times_head x []))
        go (no d) = omega (arith, without_else k o d, times_else k x [] d)

    join_one : (u : Tree) × Joined names s (joined names s x) t u (x ∷ [])
    unfolding joined
    join_one =
        let v = one.hangs h b r unmet inside fresh refl (omega arith) in (
          v.0,
          record {
            holds = v.1;
            balanced = v.2;
            rising = v.3;
            counts = counted v.0 v.4;
            longer = without-length v.4;
            spares = λ k z y. one.spares h b r unmet inside fresh (omega arith) k (other k y) z;
            keeps = one.keeps;
          },
        )

  agreed : {o s r : Links} {k : ℕ} → Agree o s k → Agree s r k → Agree o r k
  agreed a b = record { same = λ f l. b.same f l ∙ a.same f l }

  kept : {o s r : Links} {f : ℕ} → Keeps f o s → Keeps f s r → Keeps f o r
  kept a b = record { long = b.long ∙ a.long; same = λ k. b.same k ∙ a.same k }

  -- A slot that joins leaves every next, so that the slots still to come are those that were.
  joined-next : (s : Links) (x k : ℕ) → read (joined names s x) k next ≡ read s k next
  unfolding joined
  joined-next s x k =
      ((claims.hangs_slot (slots_of names) (slots_of names) names s leaf x (name_of names x hash_part) (name_of names x key_part)
      ).keeps next next_aside).same k

  by_one : {s r : Links} {x : ℕ} {l : List ℕ} → Grows names (joined names s x) l r → Grows names s (x ∷ l) r
  unfolding joined
  by_one d = Grows.one_more_lem d

  -- They are inserted in the order in which next visits them.
  pub grows_all : {s : Links} {p : ℕ} {l : List ℕ} (v : ℕ) → slots_of names ≤ null → Listed (slots_of names) s.cells p l → length l ≤ v
      → Grows names s l (joined_from v names s p)
  unfolding joined_from
  grows_all zero small (ended e) w = Grows.no_more
  grows_all (suc v) small (ended {i = p} e) w = rw (eq-eqb p null e) Grows.no_more
  grows_all zero small (onward c g) w = absurd (omega arith)
  grows_all {s} (suc v) small (onward {i = x} {l} c g) w =
      rw (ne_eqb x null (omega arith))
      (by_one
      (grows_all {s = joined names s x} {p = cell s.cells x next} v small (listed_next (λ k. joined-next s x k) g) (omega arith)))

  stays : {s : Links} {t : Tree} → Holds (slots_of names) s t → RedBlackTree t → Rising names (slots t)
      → (u : Tree) × Joined names s s t u []
  unfolding times
  stays {s} {t} h b r = (
    t,
    record {
      holds = h;
      balanced = b;
      rising = r;
      counts = λ k. omega arith;
      longer = omega arith;
      spares = λ k z y. record { same = λ f l. refl };
      keeps = λ f a. record { long = refl; same = λ k. refl };
    },
  )

  pub join_all : {s : Links} {t : Tree} {p : ℕ} {l : List ℕ} (v : ℕ) → Listed (slots_of names) s.cells p l → length l ≤ v
      → Holds (slots_of names) s t → RedBlackTree t → Rising names (slots t) → Distinct names l → Unmet t l
      → (u : Tree) × Joined names s (joined_from v names s p) t u l
  unfolding joined_from times
  join_all zero (ended e) w h b r d m = stays h b r
  join_all (suc v) (ended {i = p} e) w h b r d m = rw (eq-eqb p null e) (stays h b r)
  join_all zero (onward c g) w h b r d m = absurd (omega arith)
  join_all {s} {t} (suc v) (onward {i = x} {l} c g) most h b r d m =
      let y = join_one x h b r c (λ y z. m y x z first) in
      let w = y.1 in
      let strung = listed_next (λ k. joined-next s x k) g in
      let rest =
      join_all {s = joined names s x} {t = y.0} {p = cell s.cells x next} v strung (omega arith) w.holds w.balanced w.rising tail
      (left y.0 w.counts) in
      let z = rest.1 in
      rw (ne_eqb x null (omega (arith, h.small))) (
        rest.0,
        record {
          holds = z.holds;
          balanced = z.balanced;
          rising = z.rising;
          counts = λ k. omega (arith, z.counts k, w.counts k, apart k);
          longer = omega (arith, z.longer, w.longer);
          spares = λ k p q. agreed (w.spares k p (omega (arith, apart k)))
              (z.spares k (omega (arith, w.counts k, apart k)) (omega (arith, apart k)));
          keeps = λ f a. kept (w.keeps f a) (z.keeps f a);
        },
      )
    where
      first : 1 ≤ times x (x ∷ l)
      first = omega (arith, times_head x l)

      apart : (k : ℕ) → times k (x ∷ l) ≡ times k (x ∷ []) + times k l
      apart k = omega arith

      tail : Distinct names l
      tail =
          record {
            once = λ k. omega (arith, d.once k, times_rest k x l);
            pairs = λ j k p q. d.pairs j k (omega (arith, times_rest j x l)) (omega (arith, times_rest k x l));
          }

      left : (u : Tree) → ((k : ℕ) → times k (slots u) ≡ times k (slots t) + times k (x ∷ [])) → Unmet u l
      left u c y k p q e = go (ℕ_discrete y x)
        where
          late : 1 ≤ times k (x ∷ l)
          late = omega (arith, times_rest k x l)

          go : Dec (y ≡ x) → ⊥
          go (yes z) =
              let same : x ≡ k = d.pairs x k first late (ap (λ (j : ℕ). pair_of names j) (sym z) ∙ e) in
              let twice : times x l ≡ times k l = ap (λ (j : ℕ). times j l) same in
              omega (arith, d.once x, times_head x l)
          go (no n) = m y k (omega (arith, c y, times_else y x [] n)) late e

  -- The empty tree, before the first slot joins.
  none_yet : {cells : List ℕ} → length cells ≡ 7 * slots_of names → slots_of names ≤ null
      → Holds (slots_of names) (lent_links cells null []) leaf
  unfolding slots times
  none_yet e l = record { long = e; small = l; rooted = record { from = refl; hangs = Hangs.none; once = λ k. omega arith } }

  bare : RedBlackTree leaf
  bare = record { coloured = record { root = refl; calm = Calm.nothing }; level = level }
    where
      level : (j k : ℕ) → Meets leaf j → Meets leaf k → j ≡ k
      level j k Meets.end Meets.end = refl

  nothing : (l : List ℕ) → Unmet leaf l
  unfolding slots times
  nothing l x y p q e = omega arith

  -- The links r hold the tree of exactly these slots, with T3 to T6. A slot that is none of them has all its words as they were in the
  -- cells, and every slot its place, prev and next.
  pub record Built (cells l : List ℕ) (r : Links) : Type 0 where
    pub tree : Tree
    pub holds : Holds (slots_of names) r tree
    pub balanced : RedBlackTree tree
    pub rising : Rising names (slots tree)
    pub counts : (k : ℕ) → times k (slots tree) ≡ times k l
    pub size : length (slots tree) ≡ length l
    pub spares : (k f : ℕ) → times k l ≡ 0 → ltb f fields ≡ true → cell r.cells k f ≡ cell cells k f
    pub keeps : (k f : ℕ) → Aside f → cell r.cells k f ≡ cell cells k f
    pub long : length r.cells ≡ length cells

  pub built_all : (cells l : List ℕ) (v p : ℕ) → Listed (slots_of names) cells p l → length l ≤ v → length cells ≡ 7 * slots_of names
      → slots_of names ≤ null → Distinct names l → Built cells l (joined_from v names (lent_links cells null []) p)
  unfolding slots times
  built_all cells l v p strung w long small d =
      let y = join_all v strung w (none_yet long small) bare Rising.empty d (nothing l) in
      let z = y.1 in
      record {
        tree = y.0;
        holds = z.holds;
        balanced = z.balanced;
        rising = z.rising;
        counts = λ k. omega (arith, z.counts k);
        size = omega (arith, z.longer);
        spares = λ k f g b. (z.spares k refl g).same f b;
        keeps = λ k f a. (z.keeps f a).same k;
        long = (z.keeps 0 place_aside).long;
      }
