-- The slots of a list are hung in a tree, one after the other. The list passes exactly where what is left of it passes and has no pair that
-- the tree has; so a slot whose pair the tree has is wrong, and one whose pair it lacks is hung, and both stay so.
use mathlib.Core.Path.{◌≡◌, refl, ap, sym, ◌∙◌}
use mathlib.Core.Logic.{◌≢◌, ◌⊎◌, inl, inr}
use mathlib.Core.Bool.{Bool, true, false}
use mathlib.Core.List.{List, [], ◌∷◌}
use Prim.Native.Nat.{ℕ, ◌-◌, ◌<◌, ◌≤◌}
use native.Mathlib.Decide.{ℕ_discrete}
use native.Mathlib.Omega.{arith}
use lib.ListN.{length}
use Rattle.slots.specs.Words.{null, pick, next, cell, name_of, hash_part, key_part, most_slots, most_names}
use Rattle.slots.specs.Pairs.{pair, pair_of}
use Rattle.slots.specs.Answers.{Answer, Value, none, some, nothing}
use Rattle.slots.proofs.Laws.{number, nothing-given}
use Rattle.tree_rules.specs.Find.{Counted, with_looks, slots_of, found}
use Rattle.tree_rules.specs.Tree.{Tree, leaf, slots, times, Hangs, Rooted, Rising, Calm, end, Level}
use Rattle.tree_rules.specs.Tree.Hangs.{none as hangsNone, some as hangsSome}
use Rattle.tree_rules.proofs.Counting.{times_append, times_head, times_rest, times_cases}
use Rattle.tree_rules.proofs.Reaching.{refuted, rooted_most}
use Rattle.redblack.specs.Links.{lent_links}
use Rattle.redblack.specs.Balance.{OneFewer}
use Rattle.redblack.specs.Holding.{Holds, RedBlackTree, Fresh, Has}
use Rattle.redblack.specs.Hanging.{inserted, spotted}
use Rattle.redblack.proofs.Claims.{claims}
use Rattle.index_rules.proofs.Frames.{without_else, without_same}
use Rattle.index_rules.proofs.Seeking.{Answers, seeks}
use Rattle.tree.specs.Find.{searched_of}
use Rattle.tree.specs.declared.find.Found.{Found}
use Rattle.tree.specs.declared.find.Found.TheVariants.{At, Nothing, Lost}
use Rattle.set_rules.specs.Words.{Set}
use Rattle.set_rules.specs.Accepted.{Listed, ended, onward, Unlike}
use Rattle.set_rules.specs.Accepting.{unlike, list_fine}
use Rattle.set_rules.proofs.Lists.{Walked, unlike_list, list_unlike, list_walked}
use Rattle.sets.specs.Lists.{slot_home}
use Rattle.sets.proofs.Steps.{list_null, list_spent, slot_inside, slot_on, slot_wrong}

-- A pair that differs from those of a list differs from each.
module _ (names : List ℕ) (x : ℕ) where
  each_unlike : {l : List ℕ} → Unlike names x l → (y : ℕ) → 1 ≤ times y l → pair_of names x ≢ pair_of names y
  unfolding times
  each_unlike Unlike.last y h = absurd (omega arith)
  each_unlike (Unlike.other {y = z} {l} d u) y h = times_cases y z l h (λ e. rw e d) (λ g. each_unlike u y g)

  unlike_each : (l : List ℕ) → ((y : ℕ) → 1 ≤ times y l → pair_of names x ≢ pair_of names y) → Unlike names x l
  unlike_each [] f = Unlike.last
  unlike_each (y ∷ l) f =
      Unlike.other (f y (omega (arith, times_head y l))) (unlike_each l (λ z h. f z (omega (arith, times_rest z y l))))

-- The slots of a tree that one slot joined.
module _ {x : ℕ} {l k : List ℕ} (o : OneFewer x l k) where
  joined_cases : {A : Type 0} (y : ℕ) → 1 ≤ times y l → (y ≡ x → A) → (1 ≤ times y k → A) → A
  joined_cases {A} y h f g = go (ℕ_discrete y x)
    where
      go : Dec (y ≡ x) → A
      go (yes e) = f e
      go (no d) = g (omega (arith, without_else y o d))

  joined_in : (y : ℕ) → 1 ≤ times y k → 1 ≤ times y l
  joined_in y h = go (ℕ_discrete y x)
    where
      go : Dec (y ≡ x) → 1 ≤ times y l
      go (yes e) = rw e (omega (arith, without_same o))
      go (no d) = omega (arith, without_else y o d)

-- The slots of a tree say how many slots there are to hold it.
within : {n m : ℕ} {cells : List ℕ} {q : ℕ} {t : Tree} → Hangs n cells q t → ((y : ℕ) → 1 ≤ times y (slots t) → y < m) → Hangs m cells q t
unfolding slots
within hangsNone f = hangsNone
within (hangsSome {l = l} {i} {r} k a b) f =
    hangsSome (record {
      inside = f i (omega (arith, times_append i (slots l) (i ∷ slots r), times_head i (slots r)));
      above = k.above;
      lefts = k.lefts;
      rights = k.rights;
      hued = k.hued;
    })
    (within a (λ y h. f y (omega (arith, times_append y (slots l) (i ∷ slots r)))))
    (within b (λ y h. f y (omega (arith, times_append y (slots l) (i ∷ slots r), times_rest y i (slots r)))))

leaf_level : Level leaf
leaf_level j k end end = refl

-- No slot of the list has a pair that the tree has.
abbrev pub Clear : List ℕ → Tree → List ℕ → Type 0
Clear names t l = (y : ℕ) → 1 ≤ times y l → Has names t (name_of names y hash_part) (name_of names y key_part) → ⊥

-- From the link x, with v visits left, the list passes with r left and has no pair that the tree has.
pub record Passes (names cells : List ℕ) (len i : ℕ) (t : Tree) (x v r : ℕ) : Type 0 where
  pub fine : list_fine v names cells len i x ≡ some r
  pub clear : (l : List ℕ) → Listed (slots_of names) cells x l → Clear names t l

-- What holds at each turn: the words hold a tree of slots of the list, and the whole passes exactly where what is left does.
pub record Hanging (names cells : List ℕ) (len i first visits : ℕ) (links sizes : List ℕ) (root x v : ℕ) : Type 0 where
  pub tree : Tree
  pub holds : Holds most_slots (lent_links links root sizes) tree
  pub balanced : RedBlackTree tree
  pub rising : Rising names (slots tree)
  pub inside : (y : ℕ) → 1 ≤ times y (slots tree) → y < slots_of names
  pub into : (r : ℕ) → list_fine visits names cells len i first ≡ some r → Passes names cells len i tree x v r
  pub back : (r : ℕ) → Passes names cells len i tree x v r → list_fine visits names cells len i first ≡ some r

-- The search finds the pair exactly where the tree has it.
sought : (names cells : List ℕ) (few : slots_of names ≤ null) (root hash key : ℕ) {t : Tree} → Rooted (slots_of names) cells root t
    → Rising names (slots t) → Answers names cells few hash key t (found names cells root hash key).answer
unfolding found
sought names cells few root hash key h r =
    rw h.from (seeks names cells few hash key h.hangs r (slots_of names) (rooted_most (slots_of names) cells few root h))

-- What the code's answer says of the search.
module _ {a : Answer} {looks : ℕ} (r : Found ℕ) (e : searched_of r ≡ with_looks looks a) where
  told : (searched_of r).answer ≡ a
  told = ap (λ (c : Counted). c.answer) e

  pub answer_none : {k : ℕ} → r ≡ Nothing k → a ≡ nothing
  answer_none f = sym told ∙ ap (λ (q : Found ℕ). (searched_of q).answer) f

  pub answer_else : ((slot : ℕ) × (k : ℕ) × (r ≡ At slot k)) ⊎ ((k : ℕ) × (r ≡ Lost k)) → a ≢ nothing
  answer_else (inl (slot, k, f)) n = nothing-given (sym (ap (λ (q : Found ℕ). (searched_of q).answer) (sym f) ∙ told ∙ n))
  answer_else (inr (k, f)) n = omega (arith, number (ap (λ (q : Found ℕ). (searched_of q).answer) (sym f) ∙ told ∙ n))

-- The set that has these slots and nothing else: the laws of lists are said of a set.
abbrev pub lists_of : List ℕ → List ℕ → Set
lists_of names cells = record { lengths = []; bins = []; heads = []; names = names; cells = cells }

module _ (names : List ℕ) (few : length names ≤ most_names) where
  most : slots_of names ≤ most_slots
  most = omega arith

  pub small : slots_of names ≤ null
  small = omega (arith, most)

module _ (names cells : List ℕ) (len i first visits : ℕ) where
  -- At the start the tree is empty.
  pub begun : (links sizes : List ℕ) → length links ≡ 28672 → Hanging names cells len i first visits links sizes null first visits
  unfolding slots times
  begun links sizes e =
      record {
        tree = leaf;
        holds =
            record {
              long = e;
              small = omega arith;
              rooted = record { from = refl; hangs = hangsNone; once = λ k. omega arith };
            };
        balanced = record { coloured = record { root = refl; calm = Calm.nothing }; level = leaf_level };
        rising = Rising.empty;
        inside = λ y h. absurd (omega arith);
        into = λ r f. record { fine = f; clear = λ l t y z a. omega (arith, a.stands) };
        back = λ r p. p.fine;
      }

  module _ (few : length names ≤ most_names) {links sizes : List ℕ} {root x v : ℕ}
      (h : Hanging names cells len i first visits links sizes root x v) where
    -- Where what is left cannot pass the whole is wrong.
    wrong : ((r : ℕ) → Passes names cells len i h.tree x v r → ⊥) → none ≡ list_fine visits names cells len i first
    wrong f = go (list_fine visits names cells len i first) refl
      where
        go : (a : Value) → list_fine visits names cells len i first ≡ a → none ≡ list_fine visits names cells len i first
        go none p = sym p
        go (some r) p = absurd (f r (h.into r p))

    pub passed : x ≡ null → some v ≡ list_fine visits names cells len i first
    unfolding times
    passed e = sym (h.back v (record { fine = sym (list_null names cells len i x v e); clear = λ l t. nowhere t }))
      where
        nowhere : {l : List ℕ} → Listed (slots_of names) cells x l → Clear names h.tree l
        nowhere (ended f) y z a = omega arith
        nowhere (onward b t) y z a = omega (arith, small names few)

    pub spent : x ≢ null → v ≡ 0 → none ≡ list_fine visits names cells len i first
    spent d e = wrong (λ r p. refuted (list_spent names cells len i x v d e ∙ p.fine))

    module _ (d : x ≢ null) (n : v ≢ 0) where
      pub not_home : slot_home names cells len i x ≡ false → none ≡ list_fine visits names cells len i first
      not_home e = wrong (λ r p. refuted (slot_wrong names cells len i x v d n e ∙ p.fine))

      module _ {hash key : ℕ} (eh : hash ≡ name_of names x hash_part) (ek : key ≡ name_of names x key_part) where
        seen : Answers names links (small names few) hash key h.tree (found names links root hash key).answer
        seen =
            let t3 = h.holds.rooted in
            let r : Rooted (slots_of names) links root h.tree =
            record { from = t3.from; hangs = within t3.hangs h.inside; once = t3.once } in
            sought names links (small names few) root hash key r h.rising

        named : pair_of names x ≡ pair hash key
        named = rw (eh, ek)

        pub repeated : (found names links root hash key).answer ≢ nothing → none ≡ list_fine visits names cells len i first
        repeated f =
            wrong (λ r p. let w = list_walked (lists_of names cells) (small names few) len i v x r p.fine in
            f (seen.none
            (λ k z s. p.clear w.visits w.ends x (own w.ends) (record { slot = k; stands = z; named = s ∙ sym named }))))
          where
            own : {l : List ℕ} → Listed (slots_of names) cells x l → 1 ≤ times x l
            own (ended e) = absurd (d e)
            own (onward {l = l} b t) = omega (arith, times_head x l)

        module _ (home : slot_home names cells len i x ≡ true) (e : (found names links root hash key).answer ≡ nothing) where
          lacks : Has names h.tree hash key → ⊥
          lacks a = nothing-given (sym e ∙ seen.at a.slot a.stands a.named)

          fresh : Fresh x h.tree
          fresh = go (ℕ_discrete (times x (slots h.tree)) 0)
            where
              go : Dec (times x (slots h.tree) ≡ 0) → Fresh x h.tree
              go (yes z) = z
              go (no z) = absurd (lacks (record { slot = x; stands = omega arith; named = named }))

          -- The slot is hung, and the rest of the list is asked.
          pub hung : {links' sizes' : List ℕ} {top : ℕ}
              → lent_links links' top sizes'
              ≡ inserted most_slots (lent_links links root sizes) x (spotted most_slots names (lent_links links root sizes) hash key)
              → Hanging names cells len i first visits links' sizes' top (cell cells x next) (v - 1)
          hung {links'} {sizes'} {top} g =
              record {
                tree = u;
                holds = grown.1;
                balanced = grown.2;
                rising = grown.3;
                inside = λ y z. joined_cases one y z (λ f. rw f inside_x) (λ k. h.inside y k);
                into = λ r p. onto r (h.into r p);
                back = λ r p. h.back r (outof r p);
              }
            where
              inside_x : x < slots_of names
              inside_x = slot_inside names cells len i x home

              grown : (u : Tree) × Holds most_slots (lent_links links' top sizes') u × RedBlackTree u × Rising names (slots u)
                  × OneFewer x (slots u) (slots h.tree)
              grown =
                  rw g
                  ((claims.hangs_slot most_slots most_slots names (lent_links links root sizes) h.tree x hash key).hangs
                  h.holds h.balanced h.rising lacks (omega (arith, inside_x, most names few)) fresh named (omega arith))

              u : Tree
              u = grown.0

              one : OneFewer x (slots u) (slots h.tree)
              one = grown.4

              onto : (r : ℕ) → Passes names cells len i h.tree x v r → Passes names cells len i u (cell cells x next) (v - 1) r
              onto r p = go (unlike (v - 1) names cells x (cell cells x next)) refl (sym (slot_on names cells len i x v d n home) ∙ p.fine)
                where
                  go : (b : Bool) → unlike (v - 1) names cells x (cell cells x next) ≡ b
                      → pick b (list_fine (v - 1) names cells len i (cell cells x next)) none ≡ some r
                      → Passes names cells len i u (cell cells x next) (v - 1) r
                  go false w f = refuted f
                  go true w f =
                      record {
                        fine = f;
                        clear =
                            λ l t y z a. let o = unlike_list (lists_of names cells) (small names few) (v - 1) x t w in
                            joined_cases one a.slot a.stands
                            (λ q. each_unlike names x o y z (rw q at a.named))
                            (λ k. p.clear (x ∷ l) (onward inside_x t) y (omega (arith, times_rest y x l))
                            (record { slot = a.slot; stands = k; named = a.named }));
                      }

              outof : (r : ℕ) → Passes names cells len i u (cell cells x next) (v - 1) r → Passes names cells len i h.tree x v r
              outof r p = record { fine = slot_on names cells len i x v d n home ∙ rw other p.fine; clear = λ l t. clears t }
                where
                  walk : Walked (lists_of names cells) (small names few) len i (cell cells x next) (v - 1) r
                  walk = list_walked (lists_of names cells) (small names few) len i (v - 1) (cell cells x next) r p.fine

                  differs : Unlike names x walk.visits
                  differs =
                      unlike_each names x walk.visits
                      (λ y z q. p.clear walk.visits walk.ends y z
                      (record { slot = x; stands = omega (arith, without_same one); named = q }))

                  other : unlike (v - 1) names cells x (cell cells x next) ≡ true
                  other = list_unlike (lists_of names cells) (small names few) (v - 1) x walk.ends differs (omega (arith, walk.spent))

                  clears : {l : List ℕ} → Listed (slots_of names) cells x l → Clear names h.tree l
                  clears (ended f) y z a = absurd (d f)
                  clears (onward {l = l} b t) y z a =
                      times_cases y x l z
                      (λ f. lacks (record { slot = a.slot; stands = a.stands; named = (rw f at a.named) ∙ named }))
                      (λ k. p.clear l t y k (record { slot = a.slot; stands = joined_in one a.slot a.stands; named = a.named }))
