-- Every write of the routines goes to a slot that they were given or have read from a link, and to the state or a link.
-- So a set of slots that the links do not lead out of stays such a set, and a word that lies off those writes is as it was.
use mathlib.Core.Path.{◌≡◌, refl, ◌∙◌}
use mathlib.Core.List.{List}
use mathlib.Core.Bool.{Bool, true, false}
use Prim.Native.Nat.{ℕ, suc, zero, ◌+◌, ◌*◌, ◌<◌}
use native.Mathlib.Omega.{arith}
use native.Mathlib.Decide.{ℕ_discrete, dec_lt}
use lib.ListN.{length}
use lib.Seq.{get_or-set_same, get_or-set_other, set_out}
use lib.Dec.{eqb, ltb}
use Rattle.slots.specs.Words.{pick, null, place, state, parent, left, right, prev, next, Colour, code, fields, cell, write, black, leftward}
use Rattle.slots.specs.Words.{rightward}
use Rattle.slots.proofs.Laws.{cell_across, length-write, toward-small}
use Rattle.redblack.specs.Links.{Links, read, stored, rooted, painted, resized, is_red, colour_of}
use Rattle.redblack.specs.Rotate.{hung, turned, rotated}
use Rattle.redblack.specs.Insertion.{insertion_turns, balanced_insertion}
use Rattle.redblack.specs.Hanging.{Spot, hooked, inserted}
use Rattle.redblack.specs.Deletion.{balanced_deletion}
use Rattle.redblack.specs.Removal.{replaced, lowered, traded, replacement, spliced, detached, dropped, leftmost, removed}
use Rattle.redblack.specs.Kept.{Aside, Keeps}
use Rattle.redblack.proofs.Ends.{Link, up, on}
use Rattle.redblack.proofs.Reading.{state_side}
use Rattle.redblack.proofs.Rounds.{Keeping, near_link, far_link, round_insertion_turns, round_insertion, round_deletion}

-- A read after a write gives what was written, or what was there.
pub read-write : (P : ℕ → Type 0) (l : List ℕ) (i g v k h : ℕ) → P v → P (cell l k h) → P (cell (write l i g v) k h)
unfolding cell write
read-write P l i g v k h pv pc = go (ℕ_discrete (7 * k + h) (7 * i + g)) (dec_lt (7 * i + g) (length l))
  where
    go : Dec (7 * k + h ≡ 7 * i + g) → Dec (7 * i + g < length l) → P (cell (write l i g v) k h)
    go (no d) b = rw (get_or-set_other l (7 * i + g) (7 * k + h) v null d) pc
    go (yes e) (yes b) = rw (e, get_or-set_same l (7 * i + g) v null b) pv
    go (yes e) (no b) = rw (set_out l (7 * i + g) v (omega arith)) pc

pub link_small : {g : ℕ} → Link g → ltb g fields ≡ true
link_small up = refl
link_small (on σ) = toward-small σ

pub link_state : {g : ℕ} → Link g → eqb state g ≡ false
link_state up = refl
link_state (on σ) = state_side σ

-- The links lead from no slot of P out of P, and neither does the root.
pub record Closed (P : ℕ → Type 0) (s : Links) : Type 0 where
  pub none : P null
  pub root : P s.root
  pub links : (i g : ℕ) → Link g → P i → P (read s i g)

pick_in : (P : ℕ → Type 0) {i k : ℕ} (b : Bool) → P i → P k → P (pick b i k)
pick_in P true u v = u
pick_in P false u v = v

leftmost_in : (P : ℕ → Type 0) {s : Links} (m q : ℕ) → Closed P s → P q → P (leftmost m s q)
unfolding leftmost
leftmost_in P zero q c pq = pq
leftmost_in P {s} (suc m) q c pq =
    pick_in P (eqb (read s q left) null) pq (leftmost_in P m (read s q left) c (c.links q left (on leftward) pq))

-- The words s have come from o by writes within P, which left the field f of the slot j.
pub record Held (P : ℕ → Type 0) (j f : ℕ) (o s : Links) : Type 0 where
  pub closed : Closed P s
  pub long : length s.cells ≡ length o.cells
  pub same : read s j f ≡ read o j f

module _ {P : ℕ → Type 0} {j f : ℕ} {o : Links} (off : (l : List ℕ) (i g v : ℕ) → P i → Link g → cell (write l i g v) j f ≡ cell l j f)
    (pale : (l : List ℕ) (i v : ℕ) → P i → cell (write l i state v) j f ≡ cell l j f) where
  held_stored : {s : Links} (i g v : ℕ) → Link g → P i → P v → Held P j f o s → Held P j f o (stored s i g v)
  held_stored {s} i g v lg pi pv h =
      let c : Closed P (stored s i g v) =
      record {
        none = h.closed.none;
        root = h.closed.root;
        links = λ k e le pk. read-write P s.cells i g v k e pv (h.closed.links k e le pk);
      } in
      record { closed = c; long = length-write s.cells i g v ∙ h.long; same = off s.cells i g v pi lg ∙ h.same }

  pub held_painted : {s : Links} (i : ℕ) (c : Colour) → P i → Held P j f o s → Held P j f o (painted s i c)
  held_painted {s} i c pi h =
      let k : Closed P (painted s i c) =
      record {
        none = h.closed.none;
        root = h.closed.root;
        links =
            λ k e le pk. rw (cell_across s.cells i state (code c) k e (link_state le) refl (link_small le)) (h.closed.links k e le pk);
      } in
      record { closed = k; long = length-write s.cells i state (code c) ∙ h.long; same = pale s.cells i (code c) pi ∙ h.same }

  held_rooted : {s : Links} (r : ℕ) → P r → Held P j f o s → Held P j f o (rooted s r)
  held_rooted {s} r pr h =
      record { closed = record { none = h.closed.none; root = pr; links = h.closed.links }; long = h.long; same = h.same }

  -- Other sizes beside the same links.
  held_resized : {s : Links} (l : List ℕ) → Held P j f o s → Held P j f o (resized s l)
  held_resized l h =
      record {
        closed = record { none = h.closed.none; root = h.closed.root; links = h.closed.links };
        long = h.long;
        same = h.same;
      }

  held_pick : {s t : Links} (b : Bool) → Held P j f o s → Held P j f o t → Held P j f o (pick b s t)
  held_pick true h k = h
  held_pick false h k = k

  held_hung : {near far : ℕ} {s : Links} (pp p r : ℕ) → Link near → Link far → P pp → P r → Held P j f o s
      → Held P j f o (hung near far s pp p r)
  unfolding hung
  held_hung {near} {far} {s} pp p r ln lf ppp pr h =
      held_pick (eqb pp null) (held_painted r black pr (held_rooted r pr h))
      (held_pick (eqb (read s pp near) p) (held_stored pp near r ln ppp pr h) (held_stored pp far r lf ppp pr h))

  pub held_rotated : {near far : ℕ} {s : Links} (p : ℕ) → Link near → Link far → P p → Held P j f o s → Held P j f o (rotated near far s p)
  unfolding rotated turned
  held_rotated {near} {far} {s} p ln lf pp h =
      let r = read s p far in
      let pr : P r = h.closed.links p far lf pp in
      let inner = read s r near in
      let pi : P inner = h.closed.links r near ln pr in
      let h1 = held_stored inner parent p up pi pp (held_stored p far inner lf pp pi h) in
      let q = read (stored (stored s p far inner) inner parent p) p parent in
      let pq : P q = h1.closed.links p parent up pp in
      let h2 = held_hung q p r ln lf pq pr (held_stored r parent q up pr pq h1) in
      held_pick (eqb p null) h
      (held_pick (eqb r null) h (held_resized _ (held_stored p parent r up pp pr (held_stored r near p ln pr pp h2))))

  -- The balancings.
  keeping : Keeping P P (Held P j f o)
  keeping =
      record {
        loose = λ pi. pi;
        solid = λ pi e. pi;
        link = λ i g lg pi h. h.closed.links i g lg pi;
        root = λ h. h.closed.root;
        paint = held_painted;
        spin = λ p e pp h. held_rotated p (near_link e) (far_link e) pp h;
        crown = λ x px e h. held_rooted x px h;
      }

  pub held_insertion_turns : {s : Links} (m x : ℕ) → P x → Held P j f o s → Held P j f o (insertion_turns m s x)
  held_insertion_turns m x px h = round_insertion_turns keeping m x px h

  pub held_insertion : {s : Links} (m x : ℕ) → P x → Held P j f o s → Held P j f o (balanced_insertion m s x)
  held_insertion m x px h = round_insertion keeping m x px h

  pub held_deletion : {s : Links} (m x : ℕ) → P x → Held P j f o s → Held P j f o (balanced_deletion m s x)
  held_deletion m x px h = round_deletion keeping m x px h

  -- The removal.
  held_replaced : {s : Links} (q p x : ℕ) → P q → P x → Held P j f o s → Held P j f o (replaced s q p x)
  unfolding replaced
  held_replaced {s} q p x pq px h =
      held_pick (eqb q null) (held_rooted x px h)
      (held_pick (eqb (read s q left) p) (held_stored q left x (on leftward) pq px h) (held_stored q right x (on rightward) pq px h))

  held_lowered : {s : Links} (p t r q : ℕ) → P p → P t → P r → P q → Held P j f o s → Held P j f o (lowered s p t r q)
  unfolding lowered
  held_lowered {s} p t r q pp pt pr pq h =
      let h1 = held_stored p parent q up pp pq h in
      held_pick (eqb t r) (held_stored t right p (on rightward) pt pp (held_stored p parent t up pp pt h))
      (held_stored r parent t up pr pt (held_stored t right r (on rightward) pt pr
      (held_pick (eqb (read (stored s p parent q) q left) t) (held_stored q left p (on leftward) pq pp h1)
      (held_stored q right p (on rightward) pq pp h1))))

  pub held_traded : {s : Links} (p t : ℕ) → P p → P t → Held P j f o s → Held P j f o (traded s p t)
  unfolding traded
  held_traded {s} p t pp pt h =
      let c = h.closed in
      let pl = c.links p left (on leftward) pp in
      let ptr = c.links t right (on rightward) pt in
      let pw = c.links p parent up pp in
      let h1 = held_painted p (colour_of s t) pp (held_painted t (colour_of s p) pt h) in
      let h2 = held_lowered p t _ _ pp pt (c.links p right (on rightward) pp) (c.links t parent up pt) h1 in
      let h3 =
      held_stored _ parent p up ptr pp
      (held_stored p right _ (on rightward) pp ptr (held_stored p left null (on leftward) pp c.none h2)) in
      held_resized _
      (held_replaced _ p t pw pt
      (held_stored t parent _ up pt pw (held_stored _ parent t up pl pt (held_stored t left _ (on leftward) pt pl h3))))

  held_spliced : {s : Links} (p x : ℕ) → P p → P x → Held P j f o s → Held P j f o (spliced s p x)
  unfolding spliced
  held_spliced p x pp px h =
      let pq = h.closed.links p parent up pp in
      held_stored p parent null up pp h.closed.none
      (held_stored p right null (on rightward) pp h.closed.none (held_stored p left null (on leftward) pp h.closed.none
      (held_replaced _ p x pq px (held_stored x parent _ up px pq h))))

  held_detached : {s : Links} (p : ℕ) → P p → Held P j f o s → Held P j f o (detached s p)
  unfolding detached
  held_detached p pp h =
      held_stored p parent null up pp h.closed.none (held_replaced _ p null (h.closed.links p parent up pp) h.closed.none h)

  pub held_dropped : {s : Links} (m p : ℕ) → P p → Held P j f o s → Held P j f o (dropped m s p)
  unfolding dropped replacement
  held_dropped {s} m p pp h =
      let px : P (replacement s p) =
      pick_in P (eqb (read s p left) null) (pick_in P (eqb (read s p right) null) pp (h.closed.links p right (on rightward) pp))
      (h.closed.links p left (on leftward) pp) in
      let x = replacement s p in
      let h1 = held_pick (eqb x p) h (held_spliced p x pp px (held_resized _ h)) in
      let h2 = held_pick (is_red s p) h1 (held_deletion m x px h1) in
      let h3 = held_pick (eqb x p) (held_detached p pp (held_resized _ h2)) h2 in
      held_pick (eqb _ x) (held_painted x black px h3) h3

  pub held_removed : {s : Links} (m p : ℕ) → P p → Held P j f o s → Held P j f o (removed m s p)
  unfolding removed
  held_removed {s} m p pp h =
      let t = leftmost m s (read s p right) in
      let pt : P t = leftmost_in P m (read s p right) h.closed (h.closed.links p right (on rightward) pp) in
      held_pick (eqb (read s p left) null) (held_dropped m p pp h)
      (held_pick (eqb (read s p right) null) (held_dropped m p pp h) (held_dropped m p pp (held_traded p t pp pt h)))

  -- The hanging.
  pub held_hooked : {s : Links} (x : ℕ) (at : Spot) → Link at.side → P x → P at.above → Held P j f o s → Held P j f o (hooked s x at)
  unfolding hooked
  held_hooked x at l px pq h =
      held_stored at.above at.side x l pq px
      (held_stored x right null (on rightward) px h.closed.none
      (held_stored x left null (on leftward) px h.closed.none (held_stored x parent at.above up px pq h)))

  pub held_inserted : {s : Links} (m x : ℕ) (at : Spot) → Link at.side → P x → P at.above → Held P j f o s
      → Held P j f o (inserted m s x at)
  unfolding inserted
  held_inserted m x at l px pq h = held_insertion m x px (held_resized _ (held_hooked x at l px pq h))

-- Place, prev and next lie off all those writes, whatever the slots: here P holds of every slot.
Any : ℕ → Type 0
Any i = Unit {0}

aside_link : {f g : ℕ} → Aside f → Link g → eqb g f ≡ false
aside_link a up = a.not_parent
aside_link a (on leftward) = a.not_left
aside_link a (on rightward) = a.not_right

module _ {f : ℕ} (a : Aside f) where
  aside_off : (j : ℕ) (l : List ℕ) (i g v : ℕ) → Any i → Link g → cell (write l i g v) j f ≡ cell l j f
  aside_off j l i g v u k = cell_across l i g v j f (aside_link a k) (link_small k) a.small

  aside_pale : (j : ℕ) (l : List ℕ) (i v : ℕ) → Any i → cell (write l i state v) j f ≡ cell l j f
  aside_pale j l i v u = cell_across l i state v j f a.not_state refl a.small

  start : (j : ℕ) (s : Links) → Held Any j f s s
  unfolding Any
  start j s = record { closed = record { none = tt; root = tt; links = λ i g k u. tt }; long = refl; same = refl }

  keeps : {s t : Links} → ((j : ℕ) → Held Any j f s t) → Keeps f s t
  keeps h = record { long = (h 0).long; same = λ j. (h j).same }

  pub rotated_keeps : {near far : ℕ} (s : Links) (p : ℕ) → Link near → Link far → Keeps f s (rotated near far s p)
  unfolding Any
  rotated_keeps s p ln lf = keeps (λ j. held_rotated (aside_off j) (aside_pale j) p ln lf tt (start j s))

  pub insertion_keeps : (m : ℕ) (s : Links) (x : ℕ) → Keeps f s (balanced_insertion m s x)
  unfolding Any
  insertion_keeps m s x = keeps (λ j. held_insertion (aside_off j) (aside_pale j) m x tt (start j s))

  pub deletion_keeps : (m : ℕ) (s : Links) (x : ℕ) → Keeps f s (balanced_deletion m s x)
  unfolding Any
  deletion_keeps m s x = keeps (λ j. held_deletion (aside_off j) (aside_pale j) m x tt (start j s))

  pub removed_keeps : (m : ℕ) (s : Links) (p : ℕ) → Keeps f s (removed m s p)
  unfolding Any
  removed_keeps m s p = keeps (λ j. held_removed (aside_off j) (aside_pale j) m p tt (start j s))

  pub inserted_keeps : (m : ℕ) (s : Links) (x : ℕ) (at : Spot) → Link at.side → Keeps f s (inserted m s x at)
  unfolding Any
  inserted_keeps m s x at l = keeps (λ j. held_inserted (aside_off j) (aside_pale j) m x at l tt tt (start j s))

-- The three fields.
pub place_aside : Aside place
place_aside = record { small = refl; not_state = refl; not_parent = refl; not_left = refl; not_right = refl }

pub prev_aside : Aside prev
prev_aside = record { small = refl; not_state = refl; not_parent = refl; not_left = refl; not_right = refl }

pub next_aside : Aside next
next_aside = record { small = refl; not_state = refl; not_parent = refl; not_left = refl; not_right = refl }
