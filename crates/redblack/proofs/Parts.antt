-- A red-black whole by its parts: what a way and the tree at its end make together, and what the whole says of the part at a place.
use mathlib.Core.Path.{◌≡◌, refl}
use mathlib.Core.List.{[], ◌∷◌, ◌++◌}
use Prim.Native.Nat.{ℕ}
use Rattle.slots.specs.Words.{Colour, Side, black}
use Rattle.redblack.specs.Sided.{Sided, Way, plug, fork, frame}
use Rattle.redblack.specs.Balance.{RedBlack, Wants, crown, void, dark, rosy, atop, below, under}
use Rattle.redblack.proofs.Ends.{Part, black_part, red_part}

pub crown_black : (C : Way) → crown C black ≡ black
crown_black [] = refl
crown_black (f ∷ C) = refl

-- A red-black tree at the end of a way that wants it makes a red-black whole.
pub plug_black : {h : ℕ} {c : Colour} {C : Way} {t : Sided} → Wants h c C → RedBlack black h t → (k : ℕ) × RedBlack black k (plug C t)
unfolding plug
plug_black {h} atop v = (h, v)
plug_black (below w u) v = plug_black w (dark v u)
plug_black (under (below w u) y) v = plug_black w (dark (rosy v y) u)

pub plug_any : {h : ℕ} {c : Colour} {C : Way} {t : Sided} → Wants h black C → RedBlack c h t → (k : ℕ) × RedBlack black k (plug C t)
unfolding plug
plug_any (below w u) v = plug_black w (dark v u)

-- Under a black slot the part may have either colour.
either : {h : ℕ} {c : Colour} {C : Way} {t : Sided} → Wants h black C → RedBlack c h t → Part C t
either w void = black_part w void
either w (dark u v) = black_part w (dark u v)
either w (rosy u v) = red_part w (rosy u v)

-- The part a step further down.
pub part_in : {σ : Side} {c : Colour} {i : ℕ} {b : Sided} {C : Way} {t : Sided} → Part C (fork σ c t i b) → Part (frame σ c i b ∷ C) t
part_in (black_part w (dark u v)) = either (below w v) u
part_in (red_part w (rosy u v)) = black_part (under w v) u

-- The part of a whole at the end of any way.
pub part_of : {h : ℕ} (C : Way) {t : Sided} → RedBlack black h (plug C t) → Part C t
unfolding plug
part_of [] v = black_part atop v
part_of (frame σ c i b ∷ C) v = part_in (part_of C v)

-- Names are no matter of colours: neither the side by which a slot is named, nor which slot stands where.
pub part_turn : {σ : Side} {c : Colour} {a b : Sided} {i : ℕ} {C : Way} (ρ : Side) (j : ℕ) → Part C (fork σ c a i b)
    → Part C (fork ρ c b j a)
part_turn ρ j (black_part w (dark u v)) = black_part w (dark v u)
part_turn ρ j (red_part w (rosy u v)) = red_part w (rosy v u)

reslot : {h : ℕ} {e : Colour} (D : Way) (τ : Side) (c : Colour) (p t : ℕ) (y : Sided) (C : Way) → Wants h e (D ++ (frame τ c p y ∷ C))
    → Wants h e (D ++ (frame τ c t y ∷ C))
reslot [] τ c p t y C (below w u) = below w u
reslot [] τ c p t y C (under w u) = under w u
reslot (f ∷ D) τ c p t y C (below w u) = below (reslot D τ c p t y C w) u
reslot (f ∷ D) τ c p t y C (under w u) = under (reslot D τ c p t y C w) u

pub part_reslot : {x : Sided} (D : Way) (τ : Side) (c : Colour) (p t : ℕ) (y : Sided) (C : Way) → Part (D ++ (frame τ c p y ∷ C)) x
    → Part (D ++ (frame τ c t y ∷ C)) x
part_reslot D τ c p t y C (black_part w v) = black_part (reslot D τ c p t y C w) v
part_reslot D τ c p t y C (red_part w v) = red_part (reslot D τ c p t y C w) v
