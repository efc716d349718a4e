-- What a sound tree holds after a slot joins or leaves it: the other entries are as they were, so the list changes by this entry alone.
use mathlib.Core.Path.{◌≡◌, refl, ap, sym, ◌∙◌, subst}
use mathlib.Core.Logic.{◌⊎◌, inl, inr}
use mathlib.Core.List.{List, [], ◌∷◌, ◌++◌, map}
use Prim.Native.Nat.{ℕ, ◌≤◌}
use native.Mathlib.Omega.{arith}
use lib.ListN.{length, length-map}
use Rattle.slots.specs.Words.{place, cell}
use Rattle.slots.specs.Pairs.{pair, pair_of}
use Rattle.tree_rules.specs.Tree.{slots, times}
use Rattle.tree_rules.proofs.Counting.{times_append, times_head, times_rest, times_cases}
use Rattle.redblack.specs.Balance.{OneFewer}
use Rattle.index_rules.specs.Live.{Live, count_of}
use Rattle.index_rules.specs.Sound.{Sound}
use Rattle.index_rules.specs.Contents.{Entry, entry, entry_of, contents, put, without, In, first, later, Lacks, empty, other}
use Rattle.index_rules.specs.Calls.{Alike}
use Rattle.index_rules.proofs.Frames.{sound-count}
use Rattle.index_rules.proofs.Growing.{Grown}
use Rattle.index_rules.proofs.Shrinking.{Shrunk}
use Rattle.index_rules.proofs.Listing.{Ascends, ascends_map, put-at, without_at, lower_lacks}

pub map_append : (t : Live) (a b : List ℕ) → map (entry_of t) (a ++ b) ≡ map (entry_of t) a ++ map (entry_of t) b
map_append t [] b = refl
map_append t (x ∷ a) b = ap (λ (l : List Entry). entry_of t x ∷ l) (map_append t a b)

-- An entry is its pair and its place.
pub entry-is : (t u : Live) (k : ℕ) → pair_of u.names k ≡ pair_of t.names k → cell u.cells k place ≡ cell t.cells k place
    → entry_of u k ≡ entry_of t k
entry-is t u k e f = λ i. entry (e i).hash (e i).key (f i)

pub entry_as : (u : Live) (k hash key p : ℕ) → pair_of u.names k ≡ pair hash key → cell u.cells k place ≡ p
    → entry_of u k ≡ entry hash key p
entry_as u k hash key p e f = λ i. entry (e i).hash (e i).key (f i)

pub map_same : (t u : Live) (l : List ℕ) → ((k : ℕ) → 1 ≤ times k l → Alike t u k) → map (entry_of u) l ≡ map (entry_of t) l
map_same t u [] h = refl
map_same t u (x ∷ l) h =
    let k = h x (omega (arith, times_head x l)) in
    (λ i. entry-is t u x k.pairs k.places i ∷ map (entry_of u) l)
    ∙ ap (λ (r : List Entry). entry_of t x ∷ r) (map_same t u l (λ j z. h j (omega (arith, times_rest j x l))))

-- The list with the entry of x between what lies below and above it.
pub record Split (t u : Live) (l k : List ℕ) (e : Entry) : Type 0 where
  pub lower : List Entry
  pub upper : List Entry
  pub more : map (entry_of u) l ≡ lower ++ (e ∷ upper)
  pub less : map (entry_of t) k ≡ lower ++ upper

pub split : (t u : Live) (x : ℕ) (l k : List ℕ) (e : Entry) → OneFewer x l k → entry_of u x ≡ e → ((j : ℕ) → 1 ≤ times j k → Alike t u j)
    → Split t u l k e
split t u x l k e h n keep =
    let a = h.before in
    let b = h.after in
    let same : map (entry_of u) (a ++ b) ≡ map (entry_of t) (a ++ b) = map_same t u (a ++ b) (λ j z. keep j (rw h.rest z)) in
    let low : map (entry_of u) a ≡ map (entry_of t) a = map_same t u a (λ j z. keep j (rw h.rest (omega (arith, times_append j a b)))) in
    let high : map (entry_of u) b ≡ map (entry_of t) b = map_same t u b (λ j z. keep j (rw h.rest (omega (arith, times_append j a b)))) in
    record {
      lower = map (entry_of t) a;
      upper = map (entry_of t) b;
      more = ap (map (entry_of u)) h.whole ∙ map_append u a (x ∷ b) ∙ (λ i. low i ++ (n i ∷ high i));
      less = ap (map (entry_of t)) h.rest ∙ map_append t a b;
    }

module _ {t u : Live} {h : Sound t} {x y hash key p : ℕ} (g : Grown t u h x y hash key p) where
  grown_split : Split t u (slots g.sound.tree) (slots h.tree) (entry hash key p)
  grown_split =
      split t u x (slots g.sound.tree) (slots h.tree) (entry hash key p) g.slotted
      (entry_as u x hash key p g.takes.named g.takes.placed)
      g.keeps

  grown_ascends : Ascends (grown_split.lower ++ (entry hash key p ∷ grown_split.upper))
  grown_ascends = rw grown_split.more at (ascends_map u g.sound.t4)

  pub grown-contents : contents g.sound ≡ put (entry hash key p) (contents h)
  grown-contents =
      grown_split.more
      ∙ sym (ap (put (entry hash key p)) grown_split.less
      ∙ put-at (entry hash key p) grown_split.lower grown_split.upper grown_ascends)

-- The other way round: t has the slot x, which u has not.
module _ {t u : Live} {h : Sound t} {x : ℕ} (g : Shrunk t u h x) where
  shrunk_split : Split u t (slots h.tree) (slots g.sound.tree) (entry_of t x)
  shrunk_split =
      split u t x (slots h.tree) (slots g.sound.tree) (entry_of t x) g.slotted refl
      (λ j z. (let k = g.keeps j z in record { pairs = sym k.pairs; places = sym k.places }))

  shrunk_ascends : Ascends (shrunk_split.lower ++ (entry_of t x ∷ shrunk_split.upper))
  shrunk_ascends = rw shrunk_split.more at (ascends_map t h.t4)

  pub shrunk-contents : contents g.sound ≡ without (entry_of t x).hash (entry_of t x).key (contents h)
  shrunk-contents =
      shrunk_split.less
      ∙ sym (ap (without (entry_of t x).hash (entry_of t x).key) shrunk_split.more
      ∙ without_at (entry_of t x) shrunk_split.lower shrunk_split.upper
      (lower_lacks (entry_of t x) shrunk_split.lower shrunk_split.upper shrunk_ascends))

-- The contents are as many as the count.
pub contents-length : {t : Live} (h : Sound t) → length (contents h) ≡ count_of t
contents-length {t} h = length-map (slots h.tree) (entry_of t) ∙ sym (sound-count h)

-- A slot of the tree has its entry there, and an entry a slot.
pub in_map : (t : Live) (l : List ℕ) (k : ℕ) → 1 ≤ times k l → In (entry_of t k) (map (entry_of t) l)
unfolding times
in_map t [] k z = absurd (omega arith)
in_map t (x ∷ l) k z = times_cases k x l z (λ e. rw e first) (λ y. later (in_map t l k y))

pub stands_in : {t : Live} (h : Sound t) (k : ℕ) → 1 ≤ times k (slots h.tree) → In (entry_of t k) (contents h)
stands_in {t} h k z = in_map t (slots h.tree) k z

pub record Slotted (t : Live) (l : List ℕ) (e : Entry) : Type 0 where
  pub slot : ℕ
  pub stands : 1 ≤ times slot l
  pub is : entry_of t slot ≡ e

in_one : {e : Entry} {m : List Entry} → In e m → (x : Entry) (l : List Entry) → m ≡ x ∷ l → (e ≡ x) ⊎ In e l
in_one {e} (first {l = k}) x l q = let z : e ≡ x = cc in inl z
in_one {e} (later {x = y} {l = k} i) x l q = let z : k ≡ l = cc in inr (subst (λ (r : List Entry). In e r) z i)

pub map_in : (t : Live) (l : List ℕ) {e : Entry} → In e (map (entry_of t) l) → Slotted t l e
map_in t [] i = none_in i refl
  where
    none_in : {e : Entry} {m : List Entry} → In e m → m ≡ [] → Slotted t [] e
    none_in (first {l = k}) q = absurd (omega (arith, ap length q))
    none_in (later {l = k} j) q = absurd (omega (arith, ap length q))
map_in t (x ∷ l) {e} i = go (in_one i (entry_of t x) (map (entry_of t) l) refl) (λ j. map_in t l j)
  where
    go : (e ≡ entry_of t x) ⊎ In e (map (entry_of t) l) → (In e (map (entry_of t) l) → Slotted t l e) → Slotted t (x ∷ l) e
    go (inl q) rest = record { slot = x; stands = omega (arith, times_head x l); is = sym q }
    go (inr j) rest = let r = rest j in record { slot = r.slot; stands = omega (arith, r.stands, times_rest r.slot x l); is = r.is }

pub in_stands : {t : Live} (h : Sound t) {e : Entry} → In e (contents h) → Slotted t (slots h.tree) e
in_stands {t} h i = map_in t (slots h.tree) i

-- The tree lacks a pair exactly where its contents do.
pub lacks-map : (t : Live) (l : List ℕ) (hash key : ℕ) → ((k : ℕ) → 1 ≤ times k l → pair_of t.names k ≡ pair hash key → ⊥)
    → Lacks hash key (map (entry_of t) l)
lacks-map t [] hash key n = empty
lacks-map t (x ∷ l) hash key n =
    other (λ e f. n x (omega (arith, times_head x l)) (λ i. pair (e i) (f i)))
    (lacks-map t l hash key (λ k z e. n k (omega (arith, times_rest k x l)) e))
