-- A slot leaves a tree: where its links go, it and the way above it are counted off. While the balancing runs it stands in the tree
-- and counts as one, so at every moment the sizes are those of the tree that the links hold.
use mathlib.Core.Path.{◌≡◌, ◌∙◌, refl}
use mathlib.Core.List.{[], ◌∷◌, ◌++◌}
use mathlib.Core.Bool.{false}
use Prim.Native.Nat.{ℕ, ◌≤◌}
use native.Mathlib.Omega.{arith}
use lib.ListN.{length}
use lib.Dec.{eqb}
use Rattle.slots.specs.Words.{null, parent, Colour, Side, black, red, leftward, rightward}
use Rattle.redblack.specs.Links.{Links, read, stored}
use Rattle.redblack.specs.Sided.{Sided, Way, top, plug, Site, bare, fork, frame}
use Rattle.redblack.specs.Balance.{dark, rosy, void}
use Rattle.redblack.proofs.Ends.{Part, black_part, red_part}
use Rattle.redblack.specs.Removal.{spliced, detached, dropped, removed}
use Rattle.redblack.specs.Climbing.{weighed_out}
use Rattle.redblack.specs.Sizes.{weight, Sized}
use Rattle.redblack.proofs.Reading.{solid}
use Rattle.redblack.proofs.Frames.{cell_of, this_of, way_cell, inward, turn, whole, site_of}
use Rattle.redblack.proofs.Depth.{depth}
use Rattle.redblack.proofs.Parts.{part_in, part_turn, part_reslot}
use Rattle.redblack.proofs.Deletion.{deletion}
use Rattle.redblack.proofs.Removal.{detached_site, red_is, black_is, one_black}
use Rattle.redblack.proofs.Trade.{traded_site}
use Rattle.redblack.proofs.Successor.{successor}
use Rattle.redblack.proofs.Removed.{removed-left, removed-right, removed_two}
use Rattle.redblack.proofs.Sizing.{sized_hue, sized_turn}
use Rattle.redblack.proofs.Steady.{sized_of}
use Rattle.redblack.proofs.Stored.{sized_any, deletion_sized}
use Rattle.redblack.proofs.Climbing.{sized_at, parted_counts}
use Rattle.redblack.proofs.Trading.{replaced_sizes, sized_trade}

-- The links of a slot that leaves keep the sizes.
detached_sizes : (s : Links) (p : ℕ) → (detached s p).sizes ≡ s.sizes
unfolding detached
detached_sizes s p = replaced_sizes s (read s p parent) p null

spliced_sizes : (s : Links) (p x : ℕ) → (spliced s p x).sizes ≡ s.sizes
unfolding spliced
spliced_sizes s p x = replaced_sizes (stored s x parent (read s p parent)) (read s p parent) p x

-- The sizes after are right for every tree that the links may be said to hold.
Right : ℕ → Links → Type 0
Right n s = (u : Sided) → Site n s [] u → Sized n s u

settles : {n : ℕ} {s t : Links} (C : Way) (x : Sided) → s ≡ t → Site n t C x → Sized n t (plug C x) → Right n s
unfolding Right
settles C x e h z = rw e (λ u k. sized_any (plug C x) u (whole C h) k z)

-- p, bare, is detached.
gone : {n : ℕ} {s t : Links} {ρ : Side} {d : Colour} {p : ℕ} {C : Way} (m : ℕ) → length C ≤ m → s ≡ detached (weighed_out m t p) p
    → Site n t C (fork ρ d bare p bare) → Sized n t (plug C (fork ρ d bare p bare)) → Right n s
unfolding weight
gone {t = t} {p = p} {C} m l e h z =
    settles C bare e (detached_site (site_of (weighed_out m t p) refl refl h))
    (sized_of (detached (weighed_out m t p) p) (detached_sizes (weighed_out m t p) p) (sized_at C bare (parted_counts m l h z)))

dropping_sized : {n : ℕ} {s : Links} {ρ : Side} {d : Colour} {a : Sided} {p : ℕ} {C : Way} (m : ℕ) → n ≤ m → Part C (fork ρ d a p bare)
    → Site n s C (fork ρ d a p bare) → Sized n s (plug C (fork ρ d a p bare)) → Right n (dropped m s p)
dropping_sized {s = s} {p = p} {C} m l (black_part w (dark void void)) h z =
    let o = deletion m w void h (omega (arith, depth h)) in
    gone m (omega (arith, depth o.site)) (black_is m h o.site) o.site (deletion_sized C h z m _ (whole o.path o.site))
dropping_sized {s = s} {p = p} {C} m l (black_part w (dark (rosy {σ = σ} {i = x} void void) void)) h z =
    let o = one_black C m (omega (arith, depth h)) h in
    settles C (fork σ black bare x bare) refl o.site
    (sized_of (dropped m s p) (o.sizes ∙ spliced_sizes (weighed_out m s p) p x)
    (sized_hue C σ red black bare x bare (sized_at C (fork σ red bare x bare) (parted_counts m (omega (arith, depth h)) h z))))
dropping_sized m l (red_part w (rosy void void)) h z = gone m (omega (arith, depth h)) (red_is m h) h z
dropping_sized m l (black_part w (dark (dark _ _) x)) h z = elim x [ ]
dropping_sized m l (black_part w (dark (rosy (dark _ _) _) x)) h z = elim x [ ]
dropping_sized m l (red_part w (rosy (dark _ _) x)) h z = elim x [ ]

-- p has two children: it trades places with its successor, and leaves from there.
trading_sized : {n : ℕ} {s : Links} {c d : Colour} {a x y : Sided} {p i : ℕ} {C : Way} (m : ℕ) → n ≤ m → eqb (top a) null ≡ false
    → Part (frame rightward c p a ∷ C) (fork leftward d x i y)
    → Site n s (frame rightward c p a ∷ C) (fork leftward d x i y) → Sized n s (plug (frame rightward c p a ∷ C) (fork leftward d x i y))
    → Right n (removed m s p)
trading_sized {n} {s} {c} {d} {a} {x} {y} {p} {i} {C} m l e o h z =
    let k = way_cell h.way in
    let r = successor x m (omega arith) h o in
    let v = traded_site c p a C r.path r.site in
    let E : Way = frame rightward c p a ∷ C in
    let zt : Sized n s (plug (r.path ++ E) (fork leftward r.colour bare r.slot r.rest)) =
    sized_any (plug E (fork leftward d x i y)) _ (whole E h) (whole (r.path ++ E) r.site) z in
    let w = sized_trade c p a C r.path r.site zt in
    rw (removed_two m s p (top a) i r.slot k.that e k.this (solid (cell_of h.tree).inside h.cap.small) r.finds)
    (dropping_sized m l (part_turn rightward p (part_reslot r.path rightward c p r.slot a C r.part)) (turn v)
    (sized_turn (r.path ++ (frame rightward c r.slot a ∷ C)) leftward rightward r.colour bare p r.rest w))

-- The slot named by its left side, by what its children are.
removes_sized : {n : ℕ} {s : Links} {c : Colour} {p : ℕ} {C : Way} (a b : Sided) (m : ℕ) → n ≤ m → Part C (fork leftward c a p b)
    → Site n s C (fork leftward c a p b) → Sized n s (plug C (fork leftward c a p b)) → Right n (removed m s p)
unfolding plug
removes_sized {s = s} {c} {p} {C} bare b m l o h z =
    rw (removed-left m s p (cell_of h.tree).this)
    (dropping_sized m l (part_turn rightward p o) (turn h) (sized_turn C leftward rightward c bare p b z))
removes_sized {s = s} {c} {p} {C} (fork τ e u j v) bare m l o h z =
    rw (removed-right m s p (cell_of h.tree).that) (dropping_sized m l o h z)
removes_sized {c = c} {p} {C} (fork τ e u j v) (fork leftward d x i y) m l o h z =
    trading_sized m l (solid (cell_of (this_of h.tree)).inside h.cap.small) (part_in (part_turn rightward p o)) (inward (turn h))
    (sized_turn C leftward rightward c (fork τ e u j v) p (fork leftward d x i y) z)
removes_sized {c = c} {p} {C} (fork τ e u j v) (fork rightward d x i y) m l o h z =
    trading_sized m l (solid (cell_of (this_of h.tree)).inside h.cap.small)
    (part_turn leftward i (part_in (part_turn rightward p o))) (turn (inward (turn h)))
    (sized_turn (frame rightward c p (fork τ e u j v) ∷ C) rightward leftward d x i y
    (sized_turn C leftward rightward c (fork τ e u j v) p (fork rightward d x i y) z))

-- The slot p, anywhere in a red-black tree, goes: whatever tree the links hold then, the sizes are right for it.
pub removal_sized : {n : ℕ} {s : Links} {ρ : Side} {c : Colour} {a b : Sided} {p : ℕ} {C : Way} (m : ℕ) → n ≤ m → Part C (fork ρ c a p b)
    → Site n s C (fork ρ c a p b) → Sized n s (plug C (fork ρ c a p b))
    → (u : Sided) → Site n (removed m s p) [] u → Sized n (removed m s p) u
unfolding Right
removal_sized {ρ = leftward} {c} {a} {b} {p} {C} m l o h z = removes_sized a b m l o h z
removal_sized {ρ = rightward} {c} {a} {b} {p} {C} m l o h z =
    removes_sized b a m l (part_turn leftward p o) (turn h) (sized_turn C rightward leftward c a p b z)
