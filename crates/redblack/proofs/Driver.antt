-- Our trade is the published crate's.
use mathlib.Core.Path.{◌≡◌, refl, ap, ◌∙◌, sym}
use mathlib.Core.Bool.{Bool, true, false, not}
use Prim.Native.Nat.{ℕ, zero, suc}
use lib.Dec.{eqb, ltb}
use borrow.Author.Tests.{eqb-true}
use Rattle.slots.specs.Words.{pick, null, state, parent, left, right, Colour, code, fields}
use Rattle.slots.proofs.Laws.{cell_across}
use Rattle.redblack.specs.Links.{Links, read, stored, painted, is_red, colour_of}
use Rattle.redblack.specs.Removal.{replaced, lowered, traded, leftmost}
use Rattle.tree_rules.specs.Source.{is-null}
use Rattle.redblack.specs.Source.{WildMemory, memory, load, to_field}
use Rattle.redblack.specs.Driver.{smallest, lower, rehung, trade}
use Rattle.redblack.proofs.Guards.{Short, short_stored, short_painted, short_pick, store-null, eqb_swap}
use Rattle.redblack.proofs.Guards.{guard_store}
use Rattle.redblack.proofs.Source.{hue_word}

pub smallest_is : (w : WildMemory) (turns : ℕ) (s : Links) (q : ℕ) → eqb q null ≡ false → smallest w turns (memory s) q ≡ leftmost turns s q
unfolding smallest leftmost
smallest_is w zero s q d = refl
smallest_is w (suc turns) s q d = go (eqb (read s q left) null) refl (λ e. smallest_is w turns s (read s q left) e)
  where
    go : (b : Bool) → eqb (read s q left) null ≡ b
        → (eqb (read s q left) null ≡ false → smallest w turns (memory s) (read s q left) ≡ leftmost turns s (read s q left))
        → smallest w (suc turns) (memory s) q ≡ leftmost (suc turns) s q
    go true e on = rw (smallest, leftmost, d, e)
    go false e on = rw (smallest, leftmost, d, e) (on e)

rehung_is : (w : WildMemory) (s : Links) (p q t : ℕ) → rehung w (memory s) p q t ≡ memory (replaced s q p t)
unfolding rehung replaced
rehung_is w s p q t = go (eqb q null) refl (eqb (read s q left) p) refl
  where
    go : (b : Bool) → eqb q null ≡ b → (c : Bool) → eqb (read s q left) p ≡ c → rehung w (memory s) p q t ≡ memory (replaced s q p t)
    go true e c f = rw e
    go false e true f = rw (e, eqb_swap p (read s q left), f)
    go false e false f = rw (e, eqb_swap p (read s q left), f)

-- Under the successor's parent p stands in its place; with no parent nothing is stored.
under : (w : WildMemory) (s : Links) (q t p : ℕ) → Short s
    → pick (not (is-null q)) (pick (eqb t (load w left (memory s) q)) (to_field w left (memory s) q p) (to_field w right (memory s) q p))
    (memory s)
    ≡ memory (pick (eqb (read s q left) t) (stored s q left p) (stored s q right p))
under w s q t p h = go (eqb q null) refl (eqb (read s q left) t) refl
  where
    go : (b : Bool) → eqb q null ≡ b → (c : Bool) → eqb (read s q left) t ≡ c
        → pick (not (is-null q))
        (pick (eqb t (load w left (memory s) q)) (to_field w left (memory s) q p) (to_field w right (memory s) q p))
        (memory s)
        ≡ memory (pick (eqb (read s q left) t) (stored s q left p) (stored s q right p))
    go true e true f = rw (f, eqb-true q null e) (ap memory (sym (store-null left p h)))
    go true e false f = rw (f, eqb-true q null e) (ap memory (sym (store-null right p h)))
    go false e true f = rw (e, eqb_swap t (read s q left), f)
    go false e false f = rw (e, eqb_swap t (read s q left), f)

lower_is : (w : WildMemory) (s : Links) (p r t : ℕ) → Short s → eqb p null ≡ false → eqb t null ≡ false
    → lower w (memory s) p r t ≡ memory (lowered s p t r (read s t parent))
unfolding lower lowered
lower_is w s p r t h e f = go (eqb t r) refl
  where
    go : (b : Bool) → eqb t r ≡ b → lower w (memory s) p r t ≡ memory (lowered s p t r (read s t parent))
    go true g = rw (g, e, f)
    go false g =
        let q = read s t parent in
        let a = stored s p parent q in
        let k = short_stored p parent q h in
        let j = short_pick (eqb (read a q left) t) (short_stored q left p k) (short_stored q right p k) in
        rw (g, e, f, under w a q t p k) (guard_store w (short_stored t right r j) r parent t)

-- To paint changes no link.
links_kept : (s : Links) (i j k f : ℕ) (c d : Colour) → eqb state f ≡ false → ltb f fields ≡ true
    → read (painted (painted s i c) j d) k f ≡ read s k f
links_kept s i j k f c d e l =
    cell_across (painted s i c).cells j state (code d) k f e refl l ∙ cell_across s.cells i state (code c) k f e refl l

short_lowered : {s : Links} (p t r q : ℕ) → Short s → Short (lowered s p t r q)
unfolding lowered
short_lowered {s} p t r q h =
    let a = stored s p parent q in
    let k = short_stored p parent q h in
    short_pick (eqb t r) (short_stored t right p (short_stored p parent t h))
    (short_stored r parent t
    (short_stored t right r (short_pick (eqb (read a q left) t) (short_stored q left p k) (short_stored q right p k))))

pub trade_is : (w : WildMemory) (s : Links) (p t : ℕ) → Short s → eqb p null ≡ false → eqb t null ≡ false
    → trade w (memory s) p (read s p left) (read s p right) t ≡ memory (traded s p t)
unfolding trade traded
trade_is w s p t h e f =
    let s1 = painted (painted s t (colour_of s p)) p (colour_of s t) in
    let h1 = short_painted p (colour_of s t) (short_painted t (colour_of s p) h) in
    let tr = read s t right in
    let pl = read s p left in
    let s2 = lowered s1 p t (read s p right) (read s t parent) in
    let h2 = short_lowered p t (read s p right) (read s t parent) h1 in
    let s3 = stored (stored s2 p left null) p right tr in
    let h3 = short_stored p right tr (short_stored p left null h2) in
    let s4 = stored (stored s3 tr parent p) t left pl in
    let h4 = short_stored t left pl (short_stored tr parent p h3) in
    rw (
      e,
      f,
      hue_word (is_red s p),
      hue_word (is_red s t),
      links_kept s t p t right (colour_of s p) (colour_of s t) refl refl,
      links_kept s t p p parent (colour_of s p) (colour_of s t) refl refl,
      lower_is w s1 p (read s p right) t h1 e f,
      links_kept s t p t parent (colour_of s p) (colour_of s t) refl refl,
      guard_store w h3 tr parent p,
      guard_store w h4 pl parent t,
    )
    (rehung_is w (stored (stored s4 pl parent t) t parent (read s p parent)) p (read s p parent) t)
