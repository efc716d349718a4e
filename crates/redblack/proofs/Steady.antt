-- The two balancings only paint and rotate slots of the tree, and each such step leaves a tree with the same slots and right sizes.
-- So they keep the sizes right on any tree, red-black or not, and with any budget.
use mathlib.Core.Path.{◌≡◌, refl, ap, ◌∙◌, sym}
use mathlib.Core.Logic.{inl, inr}
use mathlib.Core.List.{List, [], ◌∷◌}
use mathlib.Core.Bool.{Bool, true, false}
use Prim.Native.Nat.{ℕ, ◌+◌, ◌*◌, ◌≤◌}
use native.Mathlib.Omega.{arith}
use native.Mathlib.Decide.{ℕ_discrete, dec_le}
use lib.ListN.{length, get_or}
use lib.Seq.{set_out}
use lib.Dec.{eqb}
use borrow.Author.Tests.{eqb-false}
use Rattle.slots.specs.Words.{null, state, parent, Colour, code, Side, other, toward, write, leftward, rightward}
use Rattle.redblack.specs.Links.{Links, read, rooted, painted}
use Rattle.redblack.specs.Sided.{Sided, Way, plug, count, Site, bare, fork, frame}
use Rattle.redblack.specs.Balance.{crown}
use Rattle.redblack.specs.Rotate.{rotated}
use Rattle.redblack.specs.Insertion.{insertion_turns, balanced_insertion}
use Rattle.redblack.specs.Deletion.{balanced_deletion}
use Rattle.redblack.proofs.Ends.{Link}
use Rattle.redblack.specs.Sizes.{Sized}
use Rattle.redblack.proofs.Frames.{hit_ne, count-plug, cell_of, way_cell, inward, turn, turn', whole}
use Rattle.redblack.proofs.Paint.{painting, turn_this, rooting}
use Rattle.redblack.proofs.Rotation.{rotation}
use Rattle.redblack.proofs.Sizing.{sized_hue, sized_turn, sized_rotation}
use Rattle.redblack.proofs.Rounds.{Sides, sides, Keeping, round_insertion_turns, round_insertion, round_deletion}
use Rattle.redblack.proofs.Outside.{In, closed_site}

-- The same sizes beside other links.
pub sized_of : {n : ℕ} {s : Links} {t : Sided} (s' : Links) → s'.sizes ≡ s.sizes → Sized n s t → Sized n s' t
sized_of s' e z = record { long = ap length e ∙ z.long; same = λ k. ap (λ (l : List ℕ). get_or l k 0) e ∙ z.same k }

-- The links hold a tree whose slots are those of o, and the sizes are right.
pub record Steady (n : ℕ) (o : Sided) (s : Links) : Type 0 where
  pub tree : Sided
  pub site : Site n s [] tree
  pub sized : Sized n s tree
  pub same : (k : ℕ) → count k tree ≡ count k o

-- The same seen at the slot p, by its side σ.
record View (n : ℕ) (o : Sided) (s : Links) (σ : Side) (p : ℕ) : Type 0 where
  path : Way
  colour : Colour
  near : Sided
  far : Sided
  site : Site n s path (fork σ colour near p far)
  sized : Sized n s (plug path (fork σ colour near p far))
  same : (k : ℕ) → count k (plug path (fork σ colour near p far)) ≡ count k o

count_turn : (k : ℕ) (C : Way) (σ τ : Side) (c : Colour) (a : Sided) (i : ℕ) (b : Sided)
    → count k (plug C (fork σ c a i b)) ≡ count k (plug C (fork τ c b i a))
unfolding count
count_turn k C σ τ c a i b = omega (arith, count-plug k C (fork σ c a i b), count-plug k C (fork τ c b i a))

module _ {n : ℕ} {o : Sided} {s : Links} where
  here : {c : Colour} {a b : Sided} {i : ℕ} {C : Way} (σ ρ : Side) → Site n s C (fork ρ c a i b) → Sized n s (plug C (fork ρ c a i b))
      → ((k : ℕ) → count k (plug C (fork ρ c a i b)) ≡ count k o) → View n o s σ i
  here {c} {a} {b} {i} {C} leftward leftward h z e = record { path = C; colour = c; near = a; far = b; site = h; sized = z; same = e }
  here {c} {a} {b} {i} {C} rightward rightward h z e = record { path = C; colour = c; near = a; far = b; site = h; sized = z; same = e }
  here {c} {a} {b} {i} {C} leftward rightward h z e =
      record {
        path = C;
        colour = c;
        near = b;
        far = a;
        site = turn h;
        sized = sized_turn C rightward leftward c a i b z;
        same = λ k. count_turn k C leftward rightward c b i a ∙ e k;
      }
  here {c} {a} {b} {i} {C} rightward leftward h z e =
      record {
        path = C;
        colour = c;
        near = b;
        far = a;
        site = turn h;
        sized = sized_turn C leftward rightward c a i b z;
        same = λ k. count_turn k C rightward leftward c b i a ∙ e k;
      }

  -- Down from any place to a slot below it.
  look : {C : Way} (σ : Side) (p : ℕ) (t : Sided) → 1 ≤ count p t → Site n s C t → Sized n s (plug C t)
      → ((k : ℕ) → count k (plug C t) ≡ count k o) → View n o s σ p
  unfolding count plug
  look σ p bare l h z e = absurd (omega arith)
  look {C} σ p (fork ρ c a i b) l h z e =
      go (ℕ_discrete p i) (dec_le 1 (count p a)) (λ m. look σ p a m (inward h) z e)
      (λ m. look σ p b m (inward (turn h)) (sized_turn C ρ (other ρ) c a i b z) (λ k. count_turn k C (other ρ) ρ c b i a ∙ e k))
    where
      go : Dec (p ≡ i) → Dec (1 ≤ count p a) → (1 ≤ count p a → View n o s σ p) → (1 ≤ count p b → View n o s σ p) → View n o s σ p
      go (yes q) d f g = rw q (here σ ρ h z e)
      go (Prim.no d) (yes u) f g = f u
      go (Prim.no d) (Prim.no u) f g = g (omega (arith, hit_ne d))

  viewed : (σ : Side) (p : ℕ) → 1 ≤ count p o → Steady n o s → View n o s σ p
  unfolding plug
  viewed σ p l h = look σ p h.tree (omega (arith, h.same p)) h.site h.sized h.same

-- Painting null paints nothing.
painted-null : {n : ℕ} {C : Way} {t : Sided} (s : Links) (c : Colour) → Site n s C t → painted s null c ≡ s
unfolding write
painted-null s c h =
    ap (λ (l : List ℕ). record { cells = l; root = s.root; sizes = s.sizes })
    (set_out s.cells (7 * null + state) (code c) (omega (arith, h.cap.long, h.cap.small)))

-- The other name of the child on the other side.
turn_that : {n : ℕ} {s : Links} {σ τ : Side} {c cr : Colour} {a b d : Sided} {p r : ℕ} {C : Way}
    → Site n s C (fork σ c a p (fork τ cr b r d)) → Site n s C (fork σ c a p (fork (other τ) cr d r b))
turn_that h = turn' (turn_this (turn h))

sized_that : {n : ℕ} {s : Links} (C : Way) (σ τ : Side) (c cr : Colour) (a b d : Sided) (p r : ℕ)
    → Sized n s (plug C (fork σ c a p (fork τ cr b r d))) → Sized n s (plug C (fork σ c a p (fork (other τ) cr d r b)))
unfolding plug
sized_that C σ τ c cr a b d p r z =
    sized_turn C (other σ) σ c (fork (other τ) cr d r b) p a
    (sized_turn (frame (other σ) c p a ∷ C) τ (other τ) cr b r d (sized_turn C σ (other σ) c a p (fork τ cr b r d) z))

count_that : (k : ℕ) (C : Way) (σ τ : Side) (c cr : Colour) (a b d : Sided) (p r : ℕ)
    → count k (plug C (fork σ c a p (fork (other τ) cr d r b))) ≡ count k (plug C (fork σ c a p (fork τ cr b r d)))
unfolding count
count_that k C σ τ c cr a b d p r =
    omega (arith, count-plug k C (fork σ c a p (fork (other τ) cr d r b)), count-plug k C (fork σ c a p (fork τ cr b r d)))

rotated-null : (near far : ℕ) (s : Links) → rotated near far s null ≡ s
unfolding rotated
rotated-null near far s = refl

rotated_childless : (near far : ℕ) (s : Links) (p : ℕ) → read s p far ≡ null → rotated near far s p ≡ s
unfolding rotated
rotated_childless near far s p e = go (eqb p null) refl
  where
    go : (t : Bool) → eqb p null ≡ t → rotated near far s p ≡ s
    go true f = rw f
    go false f = rw (f, e)

-- A slot of the tree, or null.
pub data Of (o : Sided) (i : ℕ) : Type 0 where
  no : i ≡ null → Of o i
  slot : 1 ≤ count i o → Of o i

-- A slot that is not null is one of the tree.
solid_of : {o : Sided} {i : ℕ} → Of o i → eqb i null ≡ false → 1 ≤ count i o
solid_of {i = i} (no e) f = absurd (eqb-false i null f e)
solid_of (slot l) f = l

of_in : {o : Sided} {i : ℕ} (t : Sided) → ((k : ℕ) → count k t ≡ count k o) → Of o i → In (plug [] t) i
unfolding In plug
of_in t f (no e) = inl e
of_in {i = i} t f (slot l) = inr (omega (arith, f i))

in_of : {o : Sided} (t : Sided) (i : ℕ) → ((k : ℕ) → count k t ≡ count k o) → In (plug [] t) i → Of o i
unfolding In plug
in_of t i f (inl e) = no e
in_of t i f (inr l) = slot (omega (arith, f i))

module _ {n : ℕ} {o : Sided} where
  -- A link of a slot of the tree leads to a slot of the tree, or to null.
  link_of : {s : Links} (i g : ℕ) → Link g → Of o i → Steady n o s → Of o (read s i g)
  unfolding plug
  link_of {s} i g lg pi h = in_of h.tree (read s i g) h.same ((closed_site [] h.site).links i g lg (of_in h.tree h.same pi))

  root_of_lem : {s : Links} → Steady n o s → Of o s.root
  unfolding plug
  root_of_lem {s} h = in_of h.tree s.root h.same (closed_site [] h.site).root

  steady_painted : {s : Links} (i : ℕ) (c : Colour) → Of o i → Steady n o s → Steady n o (painted s i c)
  unfolding count
  steady_painted {s} i c (no e) h = rw (e, painted-null s c h.site) h
  steady_painted {s} i c (slot l) h =
      let v = viewed leftward i l h in
      let t : Sided = fork leftward c v.near i v.far in
      record {
        tree = plug v.path t;
        site = whole v.path (painting c v.site);
        sized = sized_of (painted s i c) refl (sized_hue v.path leftward v.colour c v.near i v.far v.sized);
        same =
            λ k.
            omega (arith, v.same k, count-plug k v.path t, count-plug k v.path (fork leftward v.colour v.near i v.far));
      }

  -- The rotation at a place.
  spin : {s : Links} {σ : Side} {cp cr : Colour} {a b d : Sided} {p r : ℕ} {C : Way} → Site n s C (fork σ cp a p (fork σ cr b r d))
      → Sized n s (plug C (fork σ cp a p (fork σ cr b r d))) → ((k : ℕ) → count k (plug C (fork σ cp a p (fork σ cr b r d))) ≡ count k o)
      → Steady n o (rotated (toward σ) (toward (other σ)) s p)
  unfolding count
  spin {s} {σ} {cp} {cr} {a} {b} {d} {p} {r} {C} h z e =
      let t : Sided = fork σ (crown C cr) (fork σ cp a p b) r d in
      record {
        tree = plug C t;
        site = whole C (rotation h);
        sized = sized_rotation C cp cr a b d p r h z;
        same = λ k. omega (arith, e k, count-plug k C t, count-plug k C (fork σ cp a p (fork σ cr b r d)));
      }

  -- The child that comes up, by either name.
  spin_far : {s : Links} {c : Colour} {a : Sided} {p : ℕ} {C : Way} (σ : Side) (far : Sided) → Site n s C (fork σ c a p far)
      → Sized n s (plug C (fork σ c a p far)) → ((k : ℕ) → count k (plug C (fork σ c a p far)) ≡ count k o) → Steady n o s
      → Steady n o (rotated (toward σ) (toward (other σ)) s p)
  spin_far {s} {p = p} σ bare h z e y = rw (rotated_childless (toward σ) (toward (other σ)) s p (cell_of h.tree).that) y
  spin_far leftward (fork leftward cr b r d) h z e y = spin h z e
  spin_far rightward (fork rightward cr b r d) h z e y = spin h z e
  spin_far {c = c} {a} {p} {C} leftward (fork rightward cr b r d) h z e y =
      spin (turn_that h) (sized_that C leftward rightward c cr a b d p r z) (λ k. count_that k C leftward rightward c cr a b d p r ∙ e k)
  spin_far {c = c} {a} {p} {C} rightward (fork leftward cr b r d) h z e y =
      spin (turn_that h) (sized_that C rightward leftward c cr a b d p r z) (λ k. count_that k C rightward leftward c cr a b d p r ∙ e k)

  pub steady_rotated : {s : Links} {near far : ℕ} (p : ℕ) → Sides near far → Of o p → Steady n o s → Steady n o (rotated near far s p)
  steady_rotated {s} {near} {far} p f (no e) h = rw (e, rotated-null near far s) h
  steady_rotated p (sides σ) (slot l) h = let v = viewed σ p l h in spin_far σ v.far v.site v.sized v.same h

  -- x stands at the top where it has no parent.
  steady_rooted : {s : Links} (x : ℕ) → 1 ≤ count x o → read s x parent ≡ null → Steady n o s → Steady n o (rooted s x)
  unfolding plug
  steady_rooted {s} x l e h = let v = viewed leftward x l h in go v.path v.site v.sized v.same
    where
      go : {c : Colour} {a b : Sided} (C : Way) → Site n s C (fork leftward c a x b) → Sized n s (plug C (fork leftward c a x b))
          → ((k : ℕ) → count k (plug C (fork leftward c a x b)) ≡ count k o) → Steady n o (rooted s x)
      go [] k z f = record { tree = _; site = rooting k; sized = sized_of (rooted s x) refl z; same = f }
      go (frame τ c q y ∷ C) k z f = absurd (omega (arith, sym (cell_of k.tree).above ∙ e, (way_cell k.way).inside, k.cap.small))

-- Painting and rotating keep all that, so both balancings do.
keeping : (n : ℕ) (o : Sided) → Keeping (Of o) (λ (i : ℕ). 1 ≤ count i o) (Steady n o)
keeping n o =
    record {
      loose = slot;
      solid = solid_of;
      link = link_of;
      root = root_of_lem;
      paint = steady_painted;
      spin = steady_rotated;
      crown = steady_rooted;
    }

module _ {n : ℕ} {o : Sided} where
  pub steady_insertion_turns : {s : Links} (m x : ℕ) → 1 ≤ count x o → Steady n o s → Steady n o (insertion_turns m s x)
  steady_insertion_turns m x px h = round_insertion_turns (keeping n o) m x px h

  pub steady_insertion : {s : Links} (m x : ℕ) → 1 ≤ count x o → Steady n o s → Steady n o (balanced_insertion m s x)
  steady_insertion m x px h = round_insertion (keeping n o) m x px h

  pub steady_deletion : {s : Links} (m x : ℕ) → Of o x → Steady n o s → Steady n o (balanced_deletion m s x)
  steady_deletion m x px h = round_deletion (keeping n o) m x px h
