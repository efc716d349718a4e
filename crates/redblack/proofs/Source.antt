-- Our models over the side are the source's routines: first each half of the source's text is one text over the side, then the tests for
-- null fall away, and what is left is the model.
-- Parts: the rotations; the text of the insertion over the side; a turn of the insertion; its loop; the text of the deletion over the side;
-- a turn of the deletion; its loop.
use mathlib.Core.Path.{◌≡◌, refl, ap, ◌∙◌, sym}
use Prim.{Unit, tt}
use mathlib.Core.Bool.{Bool, true, false, not, ◌&&◌, ◌||◌}
use Prim.Native.Nat.{ℕ, zero, suc}
use lib.Dec.{eqb}
use borrow.Author.Tests.{eqb-true, eqb-false}
use Rattle.slots.specs.Words.{pick, null, state, parent, left, right, black, red, code}
use Rattle.redblack.specs.Links.{Links, read, stored, rooted, painted, is_red, colour_of, Turn, done, more}
use Rattle.redblack.specs.Rotate.{hung, turned, rotated}
use Rattle.redblack.specs.Insertion.{raised, straightened, lifted, insertion_turn, insertion_turns, balanced_insertion}
use Rattle.redblack.specs.Deletion.{capped, outer_red, inner_red, dark_sib, by_sib, deletion_turn, balanced_deletion}
use Rattle.tree_rules.specs.Source.{is-null}
use Rattle.redblack.specs.Source.{Memory, WildMemory, memory, load, red_of, to_field, set_red, set_root, rotate_left, rotate_right}
use Rattle.redblack.specs.Source.{Flow, returns, again, flow, insertion_left, insertion_right, insertion_body, insertion_loop}
use Rattle.redblack.specs.Source.{balance_insertion, deletion_left, deletion_right, deletion_body, balance_deletion}
use Rattle.redblack.proofs.Rounds.{Keeping, Round, ended, going, round_insertion_turn, round_deletion_turn}
use Rattle.redblack.proofs.Guards.{Short, short_stored, short_painted, short_rooted, short_rotated, load_null, store-null, eqb_swap}
use Rattle.redblack.proofs.Guards.{red_solid, guard_store, guard_red, guard_dark, guard_hue, guard_load}

memory-pick : (b : Bool) (s t : Links) → pick b (memory s) (memory t) ≡ memory (pick b s t)
memory-pick true s t = refl
memory-pick false s t = refl

-- The text of a rotation over the side.
rotate : WildMemory → ℕ → ℕ → Memory → ℕ → Memory
rotate w near far m p =
    pick (is-null p) m
    (let r = load w far m p in
    pick (is-null r) m
    (let inner = load w near m r in
    let m = to_field w far m p inner in
    let m = pick (not (is-null inner)) (to_field w parent m inner p) m in
    let pp = load w parent m p in
    let m = to_field w parent m r pp in
    let m = pick (is-null pp) (set_red w (set_root m r) r false)
    (pick (eqb (load w near m pp) p) (to_field w near m pp r) (to_field w far m pp r)) in
    to_field w parent (to_field w near m r p) p r))

left_text : (w : WildMemory) (m : Memory) (p : ℕ) → rotate_left w m p ≡ rotate w left right m p
unfolding rotate_left rotate
left_text w m p = refl

right_text : (w : WildMemory) (m : Memory) (p : ℕ) → rotate_right w m p ≡ rotate w right left m p
unfolding rotate_right rotate
right_text w m p = refl

-- Once p and its child r are no null.
hang_is : (w : WildMemory) (near far : ℕ) (s : Links) (pp p r : ℕ)
    → pick (is-null pp) (memory (painted (rooted s r) r black))
    (pick (eqb (load w near (memory s) pp) p) (to_field w near (memory s) pp r) (to_field w far (memory s) pp r))
    ≡ memory (hung near far s pp p r)
unfolding hung
hang_is w near far s pp p r = go (eqb pp null) refl (eqb (read s pp near) p) refl
  where
    go : (b : Bool) → eqb pp null ≡ b → (c : Bool) → eqb (read s pp near) p ≡ c
        → pick (is-null pp) (memory (painted (rooted s r) r black))
        (pick (eqb (load w near (memory s) pp) p) (to_field w near (memory s) pp r) (to_field w far (memory s) pp r))
        ≡ memory (hung near far s pp p r)
    go true e c g = rw e
    go false e true g = rw (e, g)
    go false e false g = rw (e, g)

rotate_is : (w : WildMemory) (near far : ℕ) (s : Links) (p : ℕ) → Short s → rotate w near far (memory s) p ≡ memory (rotated near far s p)
unfolding rotate rotated turned
rotate_is w near far s p h = go (eqb p null) refl (eqb (read s p far) null) refl
  where
    go : (b : Bool) → eqb p null ≡ b → (c : Bool) → eqb (read s p far) null ≡ c
        → rotate w near far (memory s) p ≡ memory (rotated near far s p)
    go true e c f = rw e
    go false e true f = rw (e, f)
    go false e false f =
        let r = read s p far in
        let inner = read s r near in
        let s0 = stored s p far inner in
        let s1 = stored s0 inner parent p in
        let pp = read s1 p parent in
        let s2 = stored s1 r parent pp in
        rw (e, f, guard_store w (short_stored p far inner h) inner parent p, hang_is w near far s2 pp p r)

pub left_is : (w : WildMemory) (s : Links) (p : ℕ) → Short s → rotate_left w (memory s) p ≡ memory (rotated left right s p)
left_is w s p h = left_text w (memory s) p ∙ rotate_is w left right s p h

pub right_is : (w : WildMemory) (s : Links) (p : ℕ) → Short s → rotate_right w (memory s) p ≡ memory (rotated right left s p)
right_is w s p h = right_text w (memory s) p ∙ rotate_is w right left s p h

-- The text of the insertion over the side, with the rotations that it calls.
module _ (w : WildMemory) (near far : ℕ) (down up : Memory → ℕ → Memory) where
  raise : Memory → ℕ → ℕ → Memory
  raise m x_parent x_parent-parent =
      pick (not (is-null x_parent))
      (let m = set_red w m x_parent false in
      pick (not (is-null x_parent-parent))
      (let m = set_red w m x_parent-parent true in
      up m x_parent-parent)
      m)
      m

  insert : Memory → ℕ → ℕ → ℕ → Flow
  insert m x x_parent x_parent-parent =
      let uncle = load w far m x_parent-parent in
      pick (not (is-null uncle) && red_of w m uncle)
      (again (set_red w (set_red w (set_red w m uncle false) x_parent false) x_parent-parent true) x_parent-parent)
      (let (m, x, x_parent, x_parent-parent) : Memory × ℕ × ℕ × ℕ = pick (eqb x (load w far m x_parent))
      (let x = x_parent in
      let m = down m x in
      let x_parent = load w parent m x in
      let x_parent-parent = pick (is-null x_parent) null (load w parent m x_parent) in
      (m, x, x_parent, x_parent-parent))
      (m, x, x_parent, x_parent-parent) in
      again (raise m x_parent x_parent-parent) x)

insertion_left_text : (w : WildMemory) (m : Memory) (x x_parent x_parent-parent : ℕ)
    → insertion_left w m x x_parent x_parent-parent ≡ insert w left right (rotate_left w) (rotate_right w) m x x_parent x_parent-parent
unfolding insertion_left insert raise
insertion_left_text w m x x_parent x_parent-parent = refl

insertion_right_text : (w : WildMemory) (m : Memory) (x x_parent x_parent-parent : ℕ)
    → insertion_right w m x x_parent x_parent-parent (load w left m x_parent-parent)
    ≡ insert w right left (rotate_right w) (rotate_left w) m x x_parent x_parent-parent
unfolding insertion_right insert raise
insertion_right_text w m x x_parent x_parent-parent = refl

spun-null : (near far : ℕ) (s : Links) → rotated near far s null ≡ s
unfolding rotated
spun-null near far s = refl

module _ (w : WildMemory) (near far : ℕ) (down up : Memory → ℕ → Memory)
    (down_is : (s : Links) (p : ℕ) → Short s → down (memory s) p ≡ memory (rotated near far s p))
    (up_is : (s : Links) (p : ℕ) → Short s → up (memory s) p ≡ memory (rotated far near s p)) where
  raise_is : (s : Links) (xp xpp : ℕ) → Short s → (xp ≡ null → xpp ≡ null)
      → raise w near far down up (memory s) xp xpp ≡ memory (raised near far s xp xpp)
  unfolding raise raised
  raise_is s xp xpp h over = go (eqb xp null) refl (eqb xpp null) refl
    where
      go : (b : Bool) → eqb xp null ≡ b → (c : Bool) → eqb xpp null ≡ c
          → raise w near far down up (memory s) xp xpp ≡ memory (raised near far s xp xpp)
      go false e false f = rw (e, f) (up_is (painted (painted s xp black) xpp red) xpp (short_painted xpp red (short_painted xp black h)))
      go false e true f =
          rw (e, eqb-true xpp null f) (ap memory (sym (spun-null far near _ ∙ store-null state 2 (short_painted xp black h))))
      go true e c f =
          rw (eqb-true xp null e, over (eqb-true xp null e))
          (ap memory (sym (spun-null far near _ ∙ store-null state 2 (short_painted null black h) ∙ store-null state 1 h)))

  insert_is : (s : Links) (x xp xpp : ℕ) → Short s → eqb xp null ≡ false → eqb xpp null ≡ false
      → insert w near far down up (memory s) x xp xpp ≡ flow (lifted near far s x xp xpp)
  unfolding insert lifted straightened
  insert_is s x xp xpp h i j = go (is_red s (read s xpp far)) refl (eqb x (read s xp far)) refl
    where
      go : (b : Bool) → is_red s (read s xpp far) ≡ b → (c : Bool) → eqb x (read s xp far) ≡ c
          → insert w near far down up (memory s) x xp xpp ≡ flow (lifted near far s x xp xpp)
      go true e c f =
          let d : eqb (read s xpp far) null ≡ false = red_solid h (read s xpp far) e in
          rw (j, i, guard_red w h (read s xpp far), e, d)
      go false e false f =
          rw (j, i, guard_red w h (read s xpp far), e, f)
          (ap (λ (m : Memory). again m x) (raise_is s xp xpp h (λ z. absurd (eqb-false xp null i z))))
      go false e true f =
          let t = rotated near far s xp in
          let k = short_rotated near far xp h in
          let q = read t xp parent in
          rw (j, i, guard_red w h (read s xpp far), e, f, down_is s xp h, guard_load w k q parent)
          (ap (λ (m : Memory). again m xp) (raise_is t q (read t q parent) k (λ z. rw z (load_null parent k))))

pub body_insertion : (w : WildMemory) (s : Links) (x : ℕ) → Short s → eqb x null ≡ false
    → insertion_body w (memory s) x ≡ flow (insertion_turn s x)
unfolding insertion_body insertion_turn
body_insertion w s x h solid = go (eqb xp null) refl (is_red s xp) refl (eqb xpp null) refl (eqb (read s xpp left) xp) refl
  where
    xp : ℕ
    xp = read s x parent

    xpp : ℕ
    xpp = read s xp parent

    swap : eqb xp (read s xpp left) ≡ eqb (read s xpp left) xp
    swap = eqb_swap xp (read s xpp left)

    go : (a : Bool) → eqb xp null ≡ a → (b : Bool) → is_red s xp ≡ b → (c : Bool) → eqb xpp null ≡ c
        → (d : Bool) → eqb (read s xpp left) xp ≡ d → insertion_body w (memory s) x ≡ flow (insertion_turn s x)
    go true e b f c g d i = rw (solid, e)
    go false e false f c g d i = rw (solid, e, f)
    go false e true f true g d i = rw (solid, e, f, g)
    go false e true f false g true i =
        rw (solid, e, f, g, swap, i)
        (insertion_left_text w (memory s) x xp xpp
        ∙ insert_is w left right (rotate_left w) (rotate_right w) (left_is w) (right_is w) s x xp xpp h e g)
    go false e true f false g false i =
        let k : read s xpp left ≡ load w left (memory s) xpp = rw g in
        rw (solid, e, f, g, swap, i)
        (ap (λ (l : ℕ). insertion_right w (memory s) x xp xpp l) k ∙ insertion_right_text w (memory s) x xp xpp
        ∙ insert_is w right left (rotate_right w) (rotate_left w) (right_is w) (left_is w) s x xp xpp h e g)

-- A turn leaves as many words, and the next turn of an insertion is at a slot that is no null.
anywhere : ℕ → Type 0
anywhere i = Unit {0}

solid : ℕ → Type 0
solid i = eqb i null ≡ false

keeping : Keeping anywhere solid Short
unfolding anywhere solid
keeping =
    record {
      loose = λ a. tt;
      solid = λ a e. e;
      link = λ i g l a h. tt;
      root = λ h. tt;
      paint = λ i c a h. short_painted i c h;
      spin = λ p f a h. short_rotated _ _ p h;
      crown = λ x a e h. short_rooted x h;
    }

loop_insertion : (w : WildMemory) (turns : ℕ) (s : Links) (x : ℕ) → Short s → solid x
    → insertion_loop w turns (memory s) x ≡ memory (insertion_turns turns s x)
unfolding insertion_loop insertion_turns solid
loop_insertion w zero s x h d = refl
loop_insertion w (suc turns) s x h d =
    rw (insertion_loop, body_insertion w s x h d, insertion_turns)
    (go (insertion_turn s x) (round_insertion_turn keeping x d h) (λ t y k i. loop_insertion w turns t y k i))
  where
    go : (g : Turn) → Round Short solid g
        → ((t : Links) (y : ℕ) → Short t → solid y → insertion_loop w turns (memory t) y ≡ memory (insertion_turns turns t y))
        → elim (flow g) [ returns n ↦ n | again n y ↦ insertion_loop w turns n y ]
        ≡ memory (elim g [ done t ↦ t | more t y ↦ insertion_turns turns t y ])
    go (done t) (ended k) on = refl
    go (more t y) (going k a) on = on t y k a

pub insertion_is : (w : WildMemory) (turns : ℕ) (s : Links) (x : ℕ) → Short s → eqb x null ≡ false
    → balance_insertion w turns (memory s) x ≡ memory (balanced_insertion turns s x)
unfolding balance_insertion balanced_insertion solid
insertion_is w turns s x h d = rw d (loop_insertion w turns (painted s x red) x (short_painted x red h) d)

-- The text of the deletion over the side.
module _ (w : WildMemory) (near far : ℕ) (down up : Memory → ℕ → Memory) where
  crowned : Memory → ℕ → ℕ → Memory
  crowned m x_parent sibling =
      pick (not (is-null sibling))
      (let m = set_red w m sibling (pick (is-null x_parent) false (red_of w m x_parent)) in
      let s_far = load w far m sibling in
      pick (not (is-null s_far)) (set_red w m s_far false) m)
      m

  outer_red_lem : Memory → ℕ → ℕ → Flow
  outer_red_lem m x_parent sibling =
      let m = crowned m x_parent sibling in
      let m = pick (not (is-null x_parent)) (down (set_red w m x_parent false) x_parent) m in
      again m m.root

  dark_sibling : Memory → ℕ → ℕ → ℕ → Flow
  dark_sibling m x x_parent sibling =
      pick (is-null sibling) (again m x_parent)
      (let s_near = load w near m sibling in
      let s_far = load w far m sibling in
      pick ((is-null s_far || not (red_of w m s_far)) && (is-null s_near || not (red_of w m s_near)))
      (again (set_red w m sibling true) x_parent)
      (let (m, x_parent, sibling) : Memory × ℕ × ℕ = pick (is-null s_far || not (red_of w m s_far))
      (let m = pick (not (is-null s_near)) (set_red w m s_near false) m in
      let m = up (set_red w m sibling true) sibling in
      let x_parent = load w parent m x in
      (m, x_parent, pick (is-null x_parent) null (load w far m x_parent)))
      (m, x_parent, sibling) in
      outer_red_lem m x_parent sibling))

  delete : Memory → ℕ → ℕ → Flow
  delete m x x_parent =
      let sibling = load w far m x_parent in
      let (m, x_parent, sibling) : Memory × ℕ × ℕ = pick (not (is-null sibling) && red_of w m sibling)
      (let m = down (set_red w (set_red w m sibling false) x_parent true) x_parent in
      let x_parent = load w parent m x in
      (m, x_parent, pick (is-null x_parent) null (load w far m x_parent)))
      (m, x_parent, sibling) in
      dark_sibling m x x_parent sibling

deletion_left_text : (w : WildMemory) (m : Memory) (x x_parent : ℕ)
    → deletion_left w m x x_parent ≡ delete w left right (rotate_left w) (rotate_right w) m x x_parent
unfolding deletion_left delete dark_sibling outer_red_lem crowned
deletion_left_text w m x x_parent = refl

deletion_right_text : (w : WildMemory) (m : Memory) (x x_parent : ℕ)
    → deletion_right w m x x_parent (load w left m x_parent) ≡ delete w right left (rotate_right w) (rotate_left w) m x x_parent
unfolding deletion_right delete dark_sibling outer_red_lem crowned
deletion_right_text w m x x_parent = refl

pub hue_word : (b : Bool) → pick b 2 1 ≡ code (pick b red black)
hue_word true = refl
hue_word false = refl

module _ (w : WildMemory) (near far : ℕ) (down up : Memory → ℕ → Memory)
    (down_is : (s : Links) (p : ℕ) → Short s → down (memory s) p ≡ memory (rotated near far s p))
    (up_is : (s : Links) (p : ℕ) → Short s → up (memory s) p ≡ memory (rotated far near s p)) where
  crowned_is : (s : Links) (xp y : ℕ) → Short s
      → crowned w near far down up (memory s) xp y
      ≡ memory (painted (painted s y (colour_of s xp)) (read (painted s y (colour_of s xp)) y far) black)
  unfolding crowned
  crowned_is s xp y h = go (eqb y null) refl
    where
      go : (b : Bool) → eqb y null ≡ b
          → crowned w near far down up (memory s) xp y
          ≡ memory (painted (painted s y (colour_of s xp)) (read (painted s y (colour_of s xp)) y far) black)
      go false e =
          rw (e, guard_hue w h xp, hue_word (is_red s xp))
          (guard_store w (short_painted y (colour_of s xp) h) (read (painted s y (colour_of s xp)) y far) state 1)
      go true e =
          let k = short_painted null (colour_of s xp) h in
          rw (eqb-true y null e, load_null far k)
          (ap memory (sym (store-null state 1 k ∙ store-null state (code (colour_of s xp)) h)))

  outer_red_is : (s : Links) (xp y : ℕ) → Short s → outer_red_lem w near far down up (memory s) xp y ≡ flow (outer_red near far s xp y)
  unfolding outer_red_lem outer_red capped
  outer_red_is s xp y h =
      let k = short_painted (read (painted s y (colour_of s xp)) y far) black (short_painted y (colour_of s xp) h) in
      rw (crowned_is s xp y h) (ap (λ (m : Memory). again m m.root) (go _ k (eqb xp null) refl))
    where
      go : (t : Links) → Short t → (b : Bool) → eqb xp null ≡ b
          → pick (not (is-null xp)) (down (set_red w (memory t) xp false) xp) (memory t) ≡ memory (rotated near far (painted t xp black) xp)
      go t k false e = rw e (down_is (painted t xp black) xp (short_painted xp black k))
      go t k true e = rw (eqb-true xp null e) (ap memory (sym (spun-null near far _ ∙ store-null state 1 k)))

  dark_sibling_is : (s : Links) (x xp y : ℕ) → Short s → eqb x null ≡ false
      → dark_sibling w near far down up (memory s) x xp y ≡ flow (dark_sib near far s x xp y)
  unfolding dark_sibling dark_sib inner_red
  dark_sibling_is s x xp y h i = go (eqb y null) refl (is_red s (read s y far)) refl (is_red s (read s y near)) refl
    where
      go : (a : Bool) → eqb y null ≡ a → (b : Bool) → is_red s (read s y far) ≡ b → (c : Bool) → is_red s (read s y near) ≡ c
          → dark_sibling w near far down up (memory s) x xp y ≡ flow (dark_sib near far s x xp y)
      go true e b f c g =
          rw (eqb-true y null e, load_null far h, load_null near h, load_null state h)
          (ap (λ (t : Links). again (memory t) xp) (sym (store-null state 2 h)))
      go false e true f c g = rw (e, guard_dark w h (read s y far), f) (outer_red_is s xp y h)
      go false e false f false g = rw (e, guard_dark w h (read s y far), guard_dark w h (read s y near), f, g)
      go false e false f true g =
          let k = short_painted y red (short_painted (read s y near) black h) in
          let j = short_rotated far near y k in
          let t = rotated far near (painted (painted s (read s y near) black) y red) y in
          let q = read t x parent in
          rw (
            e,
            guard_dark w h (read s y far),
            guard_dark w h (read s y near),
            f,
            g,
            guard_store w h (read s y near) state 1,
            up_is (painted (painted s (read s y near) black) y red) y k,
            i,
            guard_load w j q far,
          )
          (outer_red_is t q (read t q far) j)

  delete_is : (s : Links) (x xp : ℕ) → Short s → eqb x null ≡ false → eqb xp null ≡ false
      → delete w near far down up (memory s) x xp ≡ flow (by_sib near far s x xp)
  unfolding delete by_sib
  delete_is s x xp h i c = go (is_red s (read s xp far)) refl
    where
      go : (b : Bool) → is_red s (read s xp far) ≡ b → delete w near far down up (memory s) x xp ≡ flow (by_sib near far s x xp)
      go false e = rw (c, guard_red w h (read s xp far), e) (dark_sibling_is s x xp (read s xp far) h i)
      go true e =
          let k = short_painted xp red (short_painted (read s xp far) black h) in
          let j = short_rotated near far xp k in
          let t = rotated near far (painted (painted s (read s xp far) black) xp red) xp in
          let q = read t x parent in
          rw (
            c,
            guard_red w h (read s xp far),
            e,
            red_solid h (read s xp far) e,
            down_is (painted (painted s (read s xp far) black) xp red) xp k,
            i,
            guard_load w j q far,
          )
          (dark_sibling_is t x q (read t q far) j i)

pub body_deletion : (w : WildMemory) (s : Links) (x : ℕ) → Short s → deletion_body w (memory s) x ≡ flow (deletion_turn s x)
unfolding deletion_body deletion_turn
body_deletion w s x h = go (eqb x null) refl (eqb x s.root) refl (eqb xp null) refl (is_red s x) refl (eqb (read s xp left) x) refl
  where
    xp : ℕ
    xp = read s x parent

    go : (a : Bool) → eqb x null ≡ a → (b : Bool) → eqb x s.root ≡ b → (c : Bool) → eqb xp null ≡ c → (d : Bool) → is_red s x ≡ d
        → (i : Bool) → eqb (read s xp left) x ≡ i → deletion_body w (memory s) x ≡ flow (deletion_turn s x)
    go true e b f c g d j i k = rw e
    go false e true f c g d j i k = rw (e, f)
    go false e false f true g d j i k = rw (e, f, g)
    go false e false f false g true j i k = rw (e, f, g, j)
    go false e false f false g false j true k =
        rw (e, f, g, j, k)
        (deletion_left_text w (memory s) x xp
        ∙ delete_is w left right (rotate_left w) (rotate_right w) (left_is w) (right_is w) s x xp h e g)
    go false e false f false g false j false k =
        let y : read s xp left ≡ load w left (memory s) xp = rw g in
        rw (e, f, g, j, k)
        (ap (λ (l : ℕ). deletion_right w (memory s) x xp l) y ∙ deletion_right_text w (memory s) x xp
        ∙ delete_is w right left (rotate_right w) (rotate_left w) (right_is w) (left_is w) s x xp h e g)

pub deletion_is : (w : WildMemory) (turns : ℕ) (s : Links) (x : ℕ) → Short s
    → balance_deletion w turns (memory s) x ≡ memory (balanced_deletion turns s x)
unfolding balance_deletion balanced_deletion anywhere
deletion_is w zero s x h = refl
deletion_is w (suc turns) s x h =
    rw (balance_deletion, body_deletion w s x h, balanced_deletion)
    (go (deletion_turn s x) (round_deletion_turn keeping x tt h) (λ t y k. deletion_is w turns t y k))
  where
    go : (g : Turn) → Round Short anywhere g
        → ((t : Links) (y : ℕ) → Short t → balance_deletion w turns (memory t) y ≡ memory (balanced_deletion turns t y))
        → elim (flow g) [ returns n ↦ n | again n y ↦ balance_deletion w turns n y ]
        ≡ memory (elim g [ done t ↦ t | more t y ↦ balanced_deletion turns t y ])
    go (done t) (ended k) on = refl
    go (more t y) (going k a) on = on t y k
