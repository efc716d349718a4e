-- What the routines do to a whole red-black tree: a slot of it is reached by some way, and the laws of that place hold.
use mathlib.Core.Path.{◌≡◌, refl, ap, ◌∙◌, sym}
use mathlib.Core.Logic.{◌≢◌}
use mathlib.Core.List.{List}
use Prim.Native.Nat.{ℕ, ◌<◌, ◌≤◌}
use native.Mathlib.Omega.{arith}
use native.Mathlib.Decide.{ℕ_discrete, dec_le}
use Rattle.slots.specs.Words.{null, Colour, Side, other, toward, red, leftward, rightward}
use Rattle.tree_rules.specs.Tree.{times}
use Rattle.redblack.specs.Links.{Links, read}
use Rattle.redblack.specs.Sided.{Sided, Way, plug, slots, count, count_way, Site, bare, fork}
use Rattle.redblack.specs.Balance.{atop}
use Rattle.redblack.specs.Hanging.{spot, inserted}
use Rattle.redblack.specs.Removal.{removed}
use Rattle.redblack.specs.Kept.{Agree}
use Rattle.redblack.proofs.Ends.{Part, Outcome, With, Without, black_part}
use Rattle.redblack.proofs.Frames.{hit_ne, count-plug, cell_of, this_of, inward, turn, turn'}
use Rattle.redblack.proofs.Order.{slots_turn, count-slots}
use Rattle.redblack.proofs.Lists.{beside}
use Rattle.redblack.proofs.Parts.{part_in, part_turn}
use Rattle.redblack.proofs.Hanging.{inserting_part}
use Rattle.redblack.proofs.Removed.{relisted, removal_part}
use Rattle.redblack.proofs.Outside.{removal_spares, inserting_spares}

-- A slot p of the whole, seen by its side σ; l are the slots of the whole.
pub record Reached (n : ℕ) (s : Links) (σ : Side) (p : ℕ) (l : List ℕ) : Type 0 where
  pub path : Way
  pub colour : Colour
  pub near : Sided
  pub far : Sided
  pub site : Site n s path (fork σ colour near p far)
  pub part : Part path (fork σ colour near p far)
  pub same : slots (plug path (fork σ colour near p far)) ≡ l

seen : {n : ℕ} {s : Links} {σ : Side} {p : ℕ} {l k : List ℕ} → l ≡ k → Reached n s σ p l → Reached n s σ p k
seen e r = record { path = r.path; colour = r.colour; near = r.near; far = r.far; site = r.site; part = r.part; same = r.same ∙ e }

-- A slot in view, by the side that is asked for.
here_same : {n : ℕ} {s : Links} {σ : Side} {c : Colour} {a b : Sided} {i : ℕ} {C : Way} → Site n s C (fork σ c a i b)
    → Part C (fork σ c a i b) → Reached n s σ i (slots (plug C (fork σ c a i b)))
here_same {c = c} {a} {b} {i} {C} h o = record { path = C; colour = c; near = a; far = b; site = h; part = o; same = refl }

here_other : {n : ℕ} {s : Links} {c : Colour} {a b : Sided} {i : ℕ} {C : Way} (σ : Side) → Site n s C (fork (other σ) c a i b)
    → Part C (fork (other σ) c a i b) → Reached n s σ i (slots (plug C (fork (other σ) c a i b)))
here_other {c = c} {a} {b} {i} {C} σ h o =
    record { path = C; colour = c; near = b; far = a; site = turn' h; part = part_turn σ i o; same = sym (slots_turn σ C c b i a) }

here : {n : ℕ} {s : Links} {c : Colour} {a b : Sided} {i : ℕ} {C : Way} (σ ρ : Side) → Site n s C (fork ρ c a i b) → Part C (fork ρ c a i b)
    → Reached n s σ i (slots (plug C (fork ρ c a i b)))
here leftward leftward h o = here_same h o
here rightward rightward h o = here_same h o
here leftward rightward h o = here_other leftward h o
here rightward leftward h o = here_other rightward h o

-- Down from any place to a slot below it.
reach : {n : ℕ} {s : Links} {C : Way} (σ : Side) (p : ℕ) (t : Sided) → 1 ≤ count p t → Site n s C t → Part C t
    → Reached n s σ p (slots (plug C t))
unfolding count plug
reach σ p bare l h o = absurd (omega arith)
reach {n} {s} {C} σ p (fork ρ c a i b) l h o =
    go (ℕ_discrete p i) (dec_le 1 (count p a)) (λ z. reach σ p a z (inward h) (part_in o))
    (λ z. seen (slots_turn ρ C c a i b) (reach σ p b z (inward (turn h)) (part_in (part_turn (other ρ) i o))))
  where
    go : Dec (p ≡ i) → Dec (1 ≤ count p a) → (1 ≤ count p a → Reached n s σ p (slots (plug C (fork ρ c a i b))))
        → (1 ≤ count p b → Reached n s σ p (slots (plug C (fork ρ c a i b)))) → Reached n s σ p (slots (plug C (fork ρ c a i b)))
    go (yes e) d f g = rw e (here σ ρ h o)
    go (no d) (yes u) f g = f u
    go (no d) (no u) f g = g (omega (arith, hit_ne d))

-- Every slot of a whole is reached.
pub reached : {n : ℕ} {s : Links} {l : List ℕ} (σ : Side) (p : ℕ) → 1 ≤ times p l → Outcome n s l → Reached n s σ p l
unfolding plug
reached {l = l} σ p c o =
    let e : times p (slots o.tree) ≡ times p l = ap (times p) o.same in
    seen o.same (reach σ p o.tree (omega (arith, count-slots p o.tree)) o.site (black_part atop o.sound))

-- A slot of the tree leaves it.
pub leaving : {n : ℕ} {s : Links} {l : List ℕ} (m p : ℕ) → n ≤ m → 1 ≤ times p l → Outcome n s l → Without n (removed m s p) p l
leaving m p k c o = let r = reached leftward p c o in relisted r.same (removal_part m k r.part r.site)

-- The list counts as the tree does.
pub counted : {l : List ℕ} (j : ℕ) (t : Sided) → slots t ≡ l → count j t ≡ times j l
counted j t e = sym (count-slots j t) ∙ ap (times j) e

-- A slot whose child on the side σ is null is bare there.
bared : {n : ℕ} {s : Links} {σ : Side} {p : ℕ} {l : List ℕ} (r : Reached n s σ p l) → read s p (toward σ) ≡ null → r.near ≡ bare
bared {n} {s} {σ} {p} r e = go r.near r.site
  where
    go : (a : Sided) → Site n s r.path (fork σ r.colour a p r.far) → a ≡ bare
    go bare h = refl
    go (fork τ d u i v) h = absurd (omega (arith, sym (cell_of h.tree).this ∙ e, (cell_of (this_of h.tree)).inside, h.cap.small))

-- A null link of the whole: the slot q with nothing on its side σ.
pub record Open (n : ℕ) (s : Links) (σ : Side) (q : ℕ) (l : List ℕ) : Type 0 where
  pub path : Way
  pub colour : Colour
  pub far : Sided
  pub site : Site n s path (fork σ colour bare q far)
  pub part : Part path (fork σ colour bare q far)
  pub same : slots (plug path (fork σ colour bare q far)) ≡ l

pub open_at : {n : ℕ} {s : Links} {l : List ℕ} (σ : Side) (q : ℕ) → 1 ≤ times q l → read s q (toward σ) ≡ null → Outcome n s l
    → Open n s σ q l
open_at σ q c e o =
    let r = reached σ q c o in
    let b = bared r e in
    record {
      path = r.path;
      colour = r.colour;
      far = r.far;
      site = rw b at r.site;
      part = rw b at r.part;
      same = rw b at r.same;
    }

-- A slot that stands nowhere in the tree joins it at a null link.
pub joining : {n : ℕ} {s : Links} {l : List ℕ} (m x q : ℕ) (σ : Side) → n ≤ m → x < n → times x l ≡ 0 → 1 ≤ times q l
    → read s q (toward σ) ≡ null → Outcome n s l → With n (inserted m s x (spot q (toward σ))) σ q x l
unfolding plug count count_way
joining {l = l} m x q σ k wx fresh c e o =
    let r = open_at σ q c e o in
    let t : Sided = fork σ r.colour bare q r.far in
    let b = beside r.path σ r.colour red q x r.far in
    record {
      all = slots (plug r.path (fork σ r.colour (fork σ red bare x bare) q r.far));
      outcome = inserting_part m x k wx (omega (arith, counted x (plug r.path t) r.same, count-plug x r.path t))
          (part_in r.part) (inward r.site);
      beside = record { before = b.before; after = b.after; was = sym r.same ∙ b.was; now = b.now };
    }

-- A slot that neither is of the tree nor joins it keeps all its words.
pub leaving_spares : {n : ℕ} {s : Links} {l : List ℕ} (m p j : ℕ) → 1 ≤ times p l → j ≢ null → times j l ≡ 0 → Outcome n s l
    → Agree s (removed m s p) j
leaving_spares m p j c d z o =
    let r = reached leftward p c o in removal_spares r.site (record { solid = d; nowhere = counted j _ r.same ∙ z }) m

pub joining_spares : {n : ℕ} {s : Links} {l : List ℕ} (m x q j : ℕ) (σ : Side) → x < n → times x l ≡ 0 → 1 ≤ times q l
    → read s q (toward σ) ≡ null → j ≢ null → j ≢ x → times j l ≡ 0 → Outcome n s l
    → Agree s (inserted m s x (spot q (toward σ))) j
unfolding plug count count_way
joining_spares {l = l} m x q j σ wx fresh c e d jx z o =
    let r = open_at σ q c e o in
    let t : Sided = fork σ r.colour bare q r.far in
    let u : Sided = fork σ r.colour (fork σ red bare x bare) q r.far in
    inserting_spares m x wx (omega (arith, counted x (plug r.path t) r.same, count-plug x r.path t)) (inward r.site)
    (record {
      solid = d;
      nowhere = omega (arith, counted j (plug r.path t) r.same, count-plug j r.path t, count-plug j r.path u, hit_ne jx);
    })
