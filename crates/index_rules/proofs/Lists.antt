-- The listing of a sound tree: the chain goes over the slots of the tree, each once, so the listing has the entries of the contents, each
-- pair once; and what a slot that joins, leaves or is placed anew makes of it.
use mathlib.Core.Path.{◌≡◌, refl, ap, sym, subst, ◌∙◌}
use mathlib.Core.Logic.{◌≢◌, ◌⊎◌, inl, inr}
use mathlib.Core.List.{List, [], ◌∷◌, ◌++◌, map, append_assoc}
use Prim.Native.Nat.{ℕ, ◌≤◌}
use native.Mathlib.Omega.{arith}
use lib.ListN.{length, length-map}
use Rattle.slots.specs.Words.{null, place, prev, cell, name_of, hash_part, key_part}
use Rattle.slots.specs.Pairs.{Pair, pair, pair_of}
use Rattle.slots.proofs.Laws.{pick_eq, pick_ne}
use Rattle.tree_rules.specs.Tree.{slots, times}
use Rattle.tree_rules.specs.Chain.{Chain}
use Rattle.tree_rules.specs.Find.{slots_of}
use Rattle.tree_rules.proofs.Counting.{times_append, times_head, times_rest, exactly_length}
use Rattle.tree_rules.proofs.Chaining.{chain_inside, chain_once}
use Rattle.redblack.specs.Balance.{OneFewer}
use Rattle.redblack.specs.Holding.{Has, Stands}
use Rattle.index_rules.specs.Live.{Live, Fit, first_of}
use Rattle.index_rules.specs.Sound.{Sound, used}
use Rattle.index_rules.specs.Index.{remove_kind, plain_line, noted_line}
use Rattle.index_rules.specs.Remove.{removal_of}
use Rattle.index_rules.specs.Contents.{Entry, entry, entry_of, contents, listing, without, behind, with_place, In, Lacks}
use Rattle.index_rules.specs.Calls.{Notes, none, one}
use Rattle.index_rules.proofs.Rules.{small}
use Rattle.index_rules.proofs.Frames.{member, same_slots, tree_inside}
use Rattle.index_rules.proofs.Growing.{Joins, front, after, Grown}
use Rattle.index_rules.proofs.Shrinking.{Shrunk, chain_last}
use Rattle.index_rules.proofs.Listing.{Distinct, nobody, another, distinct_lower, without_at, behind-at, in_lacks}
use Rattle.index_rules.proofs.Holding.{map_append, entry-is, entry_as, map_same, split, in_map, Slotted, map_in, lacks-map}
use Rattle.index_rules.proofs.Placing.{Placed, placed_map, slot_one, placed_own}

distinct_map : (t : Live) (l : List ℕ) → ((k : ℕ) → times k l ≤ 1)
    → ((j k : ℕ) → 1 ≤ times j l → 1 ≤ times k l → pair_of t.names j ≡ pair_of t.names k → j ≡ k)
    → Distinct (map (entry_of t) l)
distinct_map t [] once only = nobody
distinct_map t (x ∷ l) once only =
    another (lacks-map t l (name_of t.names x hash_part) (name_of t.names x key_part)
    (λ k z e. away k z (only k x (omega (arith, times_rest k x l)) (omega (arith, times_head x l)) e)))
    (distinct_map t l (λ k. omega (arith, once k, times_rest k x l))
    (λ j k z w e. only j k (omega (arith, times_rest j x l)) (omega (arith, times_rest k x l)) e))
  where
    away : (k : ℕ) → 1 ≤ times k l → k ≡ x → ⊥
    away k z e = let m : times k l ≡ times x l = ap (λ (j : ℕ). times j l) e in omega (arith, once x, times_head x l)

module _ {t : Live} (h : Sound t) where
  pub in_chain : (k : ℕ) → Stands k h.tree → 1 ≤ times k h.chain
  in_chain k z = omega (arith, same_slots h k (tree_inside h k z))

  pub in_tree : (k : ℕ) → 1 ≤ times k h.chain → Stands k h.tree
  in_tree k z = omega (arith, same_slots h k (chain_inside (slots_of t.names) t.cells h.t7.linked z))

  pub stands-listed : (k : ℕ) → Stands k h.tree → In (entry_of t k) (listing h)
  stands-listed k z = in_map t h.chain k (in_chain k z)

  pub listed-stands : {e : Entry} → In e (listing h) → Slotted t (slots h.tree) e
  listed-stands i = let s = map_in t h.chain i in record { slot = s.slot; stands = in_tree s.slot s.stands; is = s.is }

  pub listing-lacks : (hash key : ℕ) → (Has t.names h.tree hash key → ⊥) → Lacks hash key (listing h)
  listing-lacks hash key n = lacks-map t h.chain hash key (λ k z e. n (record { slot = k; stands = in_tree k z; named = e }))

  pub lacking : (hash key : ℕ) → Lacks hash key (listing h) → Has t.names h.tree hash key → ⊥
  lacking hash key l a =
      in_lacks (stands-listed a.slot a.stands) l (ap (λ (p : Pair). p.hash) a.named) (ap (λ (p : Pair). p.key) a.named)

  pub listing-length : length (listing h) ≡ length (contents h)
  listing-length =
      length-map h.chain (entry_of t)
      ∙ exactly_length (slots_of t.names) h.chain (λ k z. chain_inside (slots_of t.names) t.cells h.t7.linked z)
      (used t.cells) h.t7.all
      ∙ sym (exactly_length (slots_of t.names) (slots h.tree) (tree_inside h) (used t.cells) h.t3.all)
      ∙ sym (length-map (slots h.tree) (entry_of t))

  chain_is_once : Fit t → (k : ℕ) → times k h.chain ≤ 1
  chain_is_once fit = chain_once (slots_of t.names) t.cells (small fit) (first_of t) h.t7.linked

  pub listing_distinct : Fit t → Distinct (listing h)
  listing_distinct fit =
      distinct_map t h.chain (chain_is_once fit)
      (λ j k z w e. slot_one fit h (name_of t.names k hash_part) (name_of t.names k key_part) k j (in_tree k w) refl (in_tree j z) e)

-- A slot that joins.
module _ {t u : Live} {h : Sound t} {x y hash key p : ℕ} (fit : Fit t) (g : Grown t u h x y hash key p) where
  own : entry_of u x ≡ entry hash key p
  own = entry_as u x hash key p g.takes.named g.takes.placed

  keep : (l : List ℕ) → ((k : ℕ) → 1 ≤ times k l → 1 ≤ times k h.chain) → map (entry_of u) l ≡ map (entry_of t) l
  keep l w = map_same t u l (λ k z. g.keeps k (in_tree h k (w k z)))

  pub grown_front : y ≡ null → listing g.sound ≡ entry hash key p ∷ listing h
  grown_front e = go g.chain
    where
      go : Joins x y h.chain g.sound.chain → listing g.sound ≡ entry hash key p ∷ listing h
      go (front f q) = let same = keep h.chain (λ k z. z) in ap (map (entry_of u)) q ∙ (λ i. own i ∷ same i)
      go (after a b d f q) = absurd (d e)

  pub grown-behind : (prior_hash prior_key : ℕ) → y ≢ null → pair_of t.names y ≡ pair prior_hash prior_key
      → listing g.sound ≡ behind prior_hash prior_key (entry hash key p) (listing h)
  grown-behind prior_hash prior_key d named = go g.chain
    where
      go : Joins x y h.chain g.sound.chain → listing g.sound ≡ behind prior_hash prior_key (entry hash key p) (listing h)
      go (front f q) = absurd (d f)
      go (after a b c f q) =
          let whole : (k : ℕ) → times k h.chain ≡ times k (a ++ (y ∷ b)) = λ k. ap (λ (l : List ℕ). times k l) f in
          let lower = keep a (λ k z. omega (arith, whole k, times_append k a (y ∷ b))) in
          let upper = keep b (λ k z. omega (arith, whole k, times_append k a (y ∷ b), times_rest k y b)) in
          let stays = g.keeps y (in_tree h y (omega (arith, whole y, times_append y a (y ∷ b), times_head y b))) in
          let same : entry_of u y ≡ entry_of t y = entry-is t u y stays.pairs stays.places in
          let after_is : listing g.sound ≡ map (entry_of t) a ++ (entry_of t y ∷ (entry hash key p ∷ map (entry_of t) b)) =
          ap (map (entry_of u)) q ∙ map_append u a (y ∷ (x ∷ b)) ∙ (λ i. lower i ++ (same i ∷ (own i ∷ upper i))) in
          let before-is : listing h ≡ map (entry_of t) a ++ (entry_of t y ∷ map (entry_of t) b) =
          ap (map (entry_of t)) f ∙ map_append t a (y ∷ b) in
          after_is
          ∙ sym (behind-at (entry_of t y) (entry hash key p) (map (entry_of t) a) (map (entry_of t) b)
          (distinct_lower (entry_of t y) (map (entry_of t) a) (map (entry_of t) b) (rw before-is at (listing_distinct h fit))))
          ∙ ap (λ (r : Pair). behind r.hash r.key (entry hash key p) (map (entry_of t) a ++ (entry_of t y ∷ map (entry_of t) b))) named
          ∙ ap (behind prior_hash prior_key (entry hash key p)) (sym before-is)

-- A slot that leaves.
module _ {t u : Live} {h : Sound t} {x : ℕ} (fit : Fit t) (g : Shrunk t u h x) where
  pub shrunk-listing : listing g.sound ≡ without (entry_of t x).hash (entry_of t x).key (listing h)
  shrunk-listing =
      let s =
      split u t x h.chain g.sound.chain (entry_of t x) g.chain refl
      (λ j z. (let k = g.keeps j (in_tree g.sound j z) in record { pairs = sym k.pairs; places = sym k.places })) in
      let alone = distinct_lower (entry_of t x) s.lower s.upper (rw s.more at (listing_distinct h fit)) in
      s.less ∙ sym (ap (without (entry_of t x).hash (entry_of t x).key) s.more ∙ without_at (entry_of t x) s.lower s.upper alone)

-- The line of a removal notes the entry just before.
pub removal_notes : {t : Live} → Fit t → (h : Sound t) (x hash key : ℕ) → Stands x h.tree → pair_of t.names x ≡ pair hash key
    → Notes (entry hash key (cell t.cells x place)) (listing h) (removal_of t hash key x)
unfolding removal_of
removal_notes {t} fit h x hash key z n = go (member x h.chain (in_chain h x z))
  where
    is : entry_of t x ≡ entry hash key (cell t.cells x place)
    is = λ i. entry (n i).hash (n i).key (cell t.cells x place)

    go : (m : List ℕ) × OneFewer x h.chain m → Notes (entry hash key (cell t.cells x place)) (listing h) (removal_of t hash key x)
    go (m, o) =
        by (chain_last o.before x o.after
        (subst (λ (l : List ℕ). Chain (slots_of t.names) t.cells null (first_of t) l) o.whole h.t7.linked))
      where
        whole : listing h ≡ map (entry_of t) o.before ++ (entry_of t x ∷ map (entry_of t) o.after)
        whole = ap (map (entry_of t)) o.whole ∙ map_append t o.before (x ∷ o.after)

        by : ((cell t.cells x prev ≡ null) × (o.before ≡ [])) ⊎ ((c : List ℕ) × (o.before ≡ c ++ (cell t.cells x prev ∷ [])))
            → Notes (entry hash key (cell t.cells x place)) (listing h) (removal_of t hash key x)
        by (inl e) =
            rw (pick_eq (plain_line remove_kind hash key (cell t.cells x place))
            (noted_line hash key (cell t.cells x place) (name_of t.names (cell t.cells x prev) hash_part)
            (name_of t.names (cell t.cells x prev) key_part)) e.0)
            (none (map (entry_of t) o.after) (whole ∙ (λ i. map (entry_of t) (e.1 i) ++ (is i ∷ map (entry_of t) o.after))))
        by (inr (c, e)) =
            let there : 1 ≤ times (cell t.cells x prev) h.chain =
            rw o.whole (omega (
              arith,
              times_append (cell t.cells x prev) o.before (x ∷ o.after),
              ap (λ (l : List ℕ). times (cell t.cells x prev) l) e,
              times_append (cell t.cells x prev) c (cell t.cells x prev ∷ []),
              times_head (cell t.cells x prev) [],
            )) in
            let d : cell t.cells x prev ≢ null =
            λ q. omega (arith, chain_inside (slots_of t.names) t.cells h.t7.linked there, small fit) in
            let lower : map (entry_of t) o.before ≡ map (entry_of t) c ++ (entry_of t (cell t.cells x prev) ∷ []) =
            ap (map (entry_of t)) e ∙ map_append t c (cell t.cells x prev ∷ []) in
            let all : listing h
            ≡ map (entry_of t) c
            ++ (entry_of t (cell t.cells x prev) ∷ (entry hash key (cell t.cells x place) ∷ map (entry_of t) o.after)) =
            whole ∙ (λ i. lower i ++ (is i ∷ map (entry_of t) o.after))
            ∙ append_assoc (map (entry_of t) c) (entry_of t (cell t.cells x prev) ∷ [])
            (entry hash key (cell t.cells x place) ∷ map (entry_of t) o.after) in
            rw (pick_ne (plain_line remove_kind hash key (cell t.cells x place))
            (noted_line hash key (cell t.cells x place) (name_of t.names (cell t.cells x prev) hash_part)
            (name_of t.names (cell t.cells x prev) key_part)) d)
            (one (map (entry_of t) c) (map (entry_of t) o.after) (entry_of t (cell t.cells x prev)) all)

-- A slot that is placed anew.
pub placed_listing : {t u : Live} {h : Sound t} {x p : ℕ} → Fit t → (g : Placed t u h x p) → Stands x h.tree → (hash key : ℕ)
    → pair_of t.names x ≡ pair hash key → listing g.sound ≡ with_place hash key p (listing h)
placed_listing {t} {u} {h} {x} {p} fit g z hash key n =
    ap (map (entry_of u)) g.chain
    ∙ placed_map t u x hash key p h.chain (placed_own g hash key n) n g.others
    (λ j w m. slot_one fit h hash key x j z n (in_tree h j w) m) (chain_is_once h fit x)
