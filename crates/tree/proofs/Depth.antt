-- A tree that obeys the rules is not deep (Height of tree_rules), and each slot takes a visit. So a walk need not go deeper than 129,
-- whatever number of visits a word holds.
-- Parts: a rule broken breaks all five; past the depth of what hangs there depth changes nothing; one level of T6 and of T5 taken apart;
-- the words below a link as a tree; each slot takes a visit; a depth of 129 is enough.
use mathlib.Core.Path.{◌≡◌, refl, sym, ap, subst, ◌∙◌}
use mathlib.Core.Logic.{◌≢◌}
use mathlib.Core.Bool.{Bool, true, false, false≢true}
use mathlib.Core.List.{List}
use Prim.Native.Nat.{ℕ, zero, suc, ◌+◌, ◌-◌, ◌^◌, ◌<◌, ◌≤◌}
use native.Mathlib.Decide.{dec_le}
use native.Mathlib.Omega.{arith}
use lib.ListN.{length}
use lib.Pow.{pow_mono}
use lib.Dec.{eqb, ltb}
use borrow.Author.Tests.{eqb-true, eqb-false, eq-eqb, ne_eqb, ltb-false}
use Rattle.slots.specs.Words.{null, pick, state, left, right, cell, Colour, black, red}
use Rattle.slots.specs.Answers.{Value, none, some}
use Rattle.slots.proofs.Laws.{some_is}
use Rattle.tree_rules.specs.Find.{slots_of}
use Rattle.tree_rules.specs.Rules.{then, stands, reached, risen, all_calm, levelled, slots_below, is_calm}
use Rattle.tree_rules.specs.Tree.{Tree, leaf, node, colour, slots, Calm, nothing, darkly, redly, blacks, height}
use Rattle.tree_rules.proofs.Reaching.{refuted, length_node}
use Rattle.tree_rules.proofs.Height.{Even, bottom, above, even_size, even_height, higher-left, higher-right}
use Rattle.tree.proofs.Ruling.{rise_null, calm_null, level-null, weigh_null}
use Rattle.tree.specs.Rules.{Verdict, breaks, together, judged, deepest_of}

-- A rule broken breaks all five.
pub no_rise : (reach : Value) (calm : Bool) (level weight : Value) → breaks ≡ together reach none calm level weight
no_rise (some rest) calm level weight = refl
no_rise none calm level weight = refl

pub no_calm : (reach rise level weight : Value) → breaks ≡ together reach rise false level weight
no_calm (some rest) (some last) level weight = refl
no_calm (some rest) none level weight = refl
no_calm none rise level weight = refl

pub no_level : (reach rise : Value) (calm : Bool) (weight : Value) → breaks ≡ together reach rise calm none weight
no_level (some rest) (some last) true weight = refl
no_level (some rest) (some last) false weight = refl
no_level (some rest) none calm weight = refl
no_level none rise calm weight = refl

pub no_weight : (reach rise : Value) (calm : Bool) (level : Value) → breaks ≡ together reach rise calm level none
no_weight (some rest) (some last) true (some blacks) = refl
no_weight (some rest) (some last) true none = refl
no_weight (some rest) (some last) false level = refl
no_weight (some rest) none calm level = refl
no_weight none rise calm level = refl

-- No way from the link i down meets more than d slots.
data Low (cells : List ℕ) : ℕ → ℕ → Type 0 where
  at_null : {d i : ℕ} → i ≡ null → Low cells d i
  at_slot : {d i : ℕ} → i ≢ null → Low cells d (cell cells i left) → Low cells d (cell cells i right) → Low cells (suc d) i

module _ (cells : List ℕ) where
  lower : (d e i : ℕ) → d ≤ e → Low cells d i → Low cells e i
  lower d e i h (at_null z) = at_null z
  lower (suc d) zero i h (at_slot n a b) = absurd (omega arith)
  lower (suc d) (suc e) i h (at_slot n a b) = at_slot n (lower d e _ (omega arith) a) (lower d e _ (omega arith) b)

  -- Past the depth of what hangs there, depth changes nothing.
  rise_past : (names : List ℕ) (d e i : ℕ) → d ≤ e → Low cells d i → (m : ℕ) → risen e names cells m i ≡ risen d names cells m i
  unfolding risen
  rise_past names d e i h (at_null z) m = sym (rise_null names cells m i e z) ∙ rise_null names cells m i d z
  rise_past names (suc d) zero i h (at_slot n a b) m = absurd (omega arith)
  rise_past names (suc d) (suc e) i h (at_slot n a b) m =
      rw (rise_past names d e _ (omega arith) a m, rise_past names d e _ (omega arith) b i)

  calm_past : (d e i : ℕ) → d ≤ e → Low cells d i → all_calm e cells i ≡ all_calm d cells i
  unfolding all_calm
  calm_past d e i h (at_null z) = sym (calm_null cells i e z) ∙ calm_null cells i d z
  calm_past (suc d) zero i h (at_slot n a b) = absurd (omega arith)
  calm_past (suc d) (suc e) i h (at_slot n a b) = rw (calm_past d e _ (omega arith) a, calm_past d e _ (omega arith) b)

  level_past : (d e i : ℕ) → d ≤ e → Low cells d i → levelled e cells i ≡ levelled d cells i
  unfolding levelled
  level_past d e i h (at_null z) = sym (level-null cells i e z) ∙ level-null cells i d z
  level_past (suc d) zero i h (at_slot n a b) = absurd (omega arith)
  level_past (suc d) (suc e) i h (at_slot n a b) = rw (level_past d e _ (omega arith) a, level_past d e _ (omega arith) b)

  weigh_past : (sizes : List ℕ) (d e i : ℕ) → d ≤ e → Low cells d i → slots_below e cells sizes i ≡ slots_below d cells sizes i
  unfolding slots_below
  weigh_past sizes d e i h (at_null z) = sym (weigh_null cells sizes i e z) ∙ weigh_null cells sizes i d z
  weigh_past sizes (suc d) zero i h (at_slot n a b) = absurd (omega arith)
  weigh_past sizes (suc d) (suc e) i h (at_slot n a b) = rw (weigh_past sizes d e _ (omega arith) a, weigh_past sizes d e _ (omega arith) b)

  -- One level of T6 taken apart.
  record Evened (depth i b : ℕ) : Type 0 where
    half : ℕ
    lefts : levelled depth cells (cell cells i left) ≡ some half
    rights : levelled depth cells (cell cells i right) ≡ some half
    blacks : pick (eqb (cell cells i state) 2) half (half + 1) ≡ b

  evened : (depth i b : ℕ) → i ≢ null → levelled (suc depth) cells i ≡ some b → Evened depth i b
  unfolding levelled
  evened depth i b n e =
      go (levelled depth cells (cell cells i left)) refl (levelled depth cells (cell cells i right)) refl (rw (ne_eqb i null n) at e)
    where
      same : (k m : ℕ) → levelled depth cells (cell cells i left) ≡ some k → levelled depth cells (cell cells i right) ≡ some m
          → (t : Bool) → eqb k m ≡ t → pick t (some (pick (eqb (cell cells i state) 2) k (k + 1))) none ≡ some b → Evened depth i b
      same k m x y false t e = refuted e
      same k m x y true t e = record { half = k; lefts = x; rights = y ∙ ap some (sym (eqb-true k m t)); blacks = some_is e }

      go : (u : Value) → levelled depth cells (cell cells i left) ≡ u → (v : Value) → levelled depth cells (cell cells i right) ≡ v
          → then u (λ k. then v (λ m. pick (eqb k m) (some (pick (eqb (cell cells i state) 2) k (k + 1))) none)) ≡ some b → Evened depth i b
      go none x v y e = refuted e
      go (some k) x none y e = refuted e
      go (some k) x (some m) y e = same k m x y (eqb k m) refl e

  pub null_or : (i : ℕ) {A : Type 0} → (i ≡ null → A) → (i ≢ null → A) → A
  null_or i {A} f g = go (eqb i null) refl
    where
      go : (b : Bool) → eqb i null ≡ b → A
      go true e = f (eqb-true i null e)
      go false e = g (eqb-false i null e)

  -- Where T6's walk ends well it went no deeper than it may.
  level_low : (depth i b : ℕ) → levelled depth cells i ≡ some b → Low cells depth i
  unfolding levelled
  level_low zero i b e = null_or i at_null (λ n. refuted (rw (ne_eqb i null n) at e))
  level_low (suc depth) i b e =
      null_or i at_null
      (λ n. (let k = evened depth i b n e in at_slot n (level_low depth _ _ k.lefts) (level_low depth _ _ k.rights)))

  -- One level of T5 taken apart.
  three : (a b c : Bool) → pick a (pick b c false) false ≡ true → (a ≡ true) × (b ≡ true) × (c ≡ true)
  three true true true e = (refl, refl, refl)
  three true true false e = absurd (false≢true e)
  three true false c e = absurd (false≢true e)
  three false b c e = absurd (false≢true e)

  calms : (depth i : ℕ) → i ≢ null → all_calm (suc depth) cells i ≡ true
      → (is_calm cells i ≡ true) × (all_calm depth cells (cell cells i left) ≡ true) × (all_calm depth cells (cell cells i right) ≡ true)
  unfolding all_calm
  calms depth i n e = three (is_calm cells i) _ _ (rw (ne_eqb i null n) at e)

  no_depth : (i : ℕ) → i ≢ null → all_calm zero cells i ≡ true → ⊥
  unfolding all_calm
  no_depth i n e = n (eqb-true i null e)

  black_children : (l r : Bool) → pick l false (pick r false true) ≡ true → (l ≡ false) × (r ≡ false)
  black_children true r e = absurd (false≢true e)
  black_children false true e = absurd (false≢true e)
  black_children false false e = (refl, refl)

  -- The words below a link as T6's walk reads them, as a tree.
  abbrev hue : ℕ → Colour
  hue i = pick (eqb (cell cells i state) 2) red black

  data Drawn : ℕ → Tree → Type 0 where
    at_null : {i : ℕ} → i ≡ null → Drawn i leaf
    at_slot : {i : ℕ} {l r : Tree} → i ≢ null → Drawn (cell cells i left) l → Drawn (cell cells i right) r → Drawn i (node (hue i) l i r)

  hue_blacks : (i half : ℕ) → pick (eqb (cell cells i state) 2) half (half + 1) ≡ blacks (hue i) + half
  hue_blacks i half = go (eqb (cell cells i state) 2)
    where
      go : (t : Bool) → pick t half (half + 1) ≡ blacks (pick t red black) + half
      go true = omega arith
      go false = omega arith

  empty : (depth i b : ℕ) → levelled depth cells i ≡ some b → i ≡ null → (t : Tree) × Drawn i t × Even t b
  empty depth i b e z = (leaf, at_null z, rw (some_is (sym e ∙ sym (level-null cells i depth z))) bottom)

  drawn : (depth i b : ℕ) → levelled depth cells i ≡ some b → (t : Tree) × Drawn i t × Even t b
  unfolding levelled
  drawn zero i b e = null_or i (λ z. empty zero i b e z) (λ n. refuted (rw (ne_eqb i null n) at e))
  drawn (suc depth) i b e =
      null_or i (empty (suc depth) i b e)
      (λ n. (let k = evened depth i b n e in
      let x = drawn depth (cell cells i left) k.half k.lefts in
      let y = drawn depth (cell cells i right) k.half k.rights in
      let z : blacks (hue i) + k.half ≡ b = sym (hue_blacks i k.half) ∙ k.blacks in
      (node (hue i) x.0 i y.0, at_slot n x.1 y.1, subst (Even (node (hue i) x.0 i y.0)) z (above x.2 y.2))))

  -- It is as low as its height says, and as calm as T5's walk found it.
  drawn_low : {i : ℕ} {t : Tree} → Drawn i t → Low cells (height t) i
  unfolding height
  drawn_low (at_null z) = Low.at_null z
  drawn_low (at_slot {l = l} {r} n x y) =
      Low.at_slot n (lower _ _ _ (higher-left (height l) (height r)) (drawn_low x))
      (lower _ _ _ (higher-right (height l) (height r)) (drawn_low y))

  drawn-colour : {i : ℕ} {t : Tree} → Drawn i t → eqb (cell cells i state) 2 ≡ false → colour t ≡ black
  drawn-colour (at_null z) e = refl
  drawn-colour (at_slot n x y) e = rw e refl

  drawn_calm : (depth : ℕ) {i : ℕ} {t : Tree} → Drawn i t → all_calm depth cells i ≡ true → Calm t
  drawn_calm depth (at_null z) e = nothing
  drawn_calm zero (at_slot {i} n x y) e = absurd (no_depth i n e)
  drawn_calm (suc depth) (at_slot {i} {l} {r} n x y) e =
      let q = calms depth i n e in
      go (eqb (cell cells i state) 2) refl q.0 (drawn_calm depth x q.1) (drawn_calm depth y q.2)
    where
      go : (t : Bool) → eqb (cell cells i state) 2 ≡ t → is_calm cells i ≡ true → Calm l → Calm r → Calm (node (pick t red black) l i r)
      go true s q a b =
          let o =
          black_children (eqb (cell cells (cell cells i left) state) 2) (eqb (cell cells (cell cells i right) state) 2) (rw s at q) in
          redly (drawn-colour x o.0) (drawn-colour y o.1) a b
      go false s q a b = darkly a b

module _ (n : ℕ) (cells : List ℕ) where
  -- One visit of T3 taken apart.
  pub record Stepped (q i v rest : ℕ) : Type 0 where
    pub fuel : ℕ
    pub between : ℕ
    pub lefts : reached fuel n cells i (cell cells i left) (v - 1) ≡ some between
    pub rights : reached fuel n cells i (cell cells i right) between ≡ some rest
    pub spent : v ≢ 0

  pub stepped : (f q i v rest : ℕ) → i ≢ null → reached f n cells q i v ≡ some rest → Stepped q i v rest
  unfolding reached
  stepped zero q i v rest d e = refuted (rw (ne_eqb i null d) at e)
  stepped (suc f) q i v rest d e =
      go (ltb i n) (eqb v 0) refl (stands cells q i) (reached f n cells i (cell cells i left) (v - 1)) refl (rw (ne_eqb i null d) at e)
    where
      go : (a b : Bool) → eqb v 0 ≡ b → (c : Bool) → (u : Value) → reached f n cells i (cell cells i left) (v - 1) ≡ u
          → pick a (pick b none (pick c (then u (λ rest. reached f n cells i (cell cells i right) rest)) none)) none ≡ some rest
          → Stepped q i v rest
      go false b x c u y e = refuted e
      go true true x c u y e = refuted e
      go true false x false u y e = refuted e
      go true false x true none y e = refuted e
      go true false x true (some k) y e = record { fuel = f; between = k; lefts = y; rights = e; spent = eqb-false v 0 x }

  pub at_once : (f q i v : ℕ) → i ≡ null → reached f n cells q i v ≡ some v
  unfolding reached
  at_once zero q i v z = rw (eq-eqb i null z)
  at_once (suc f) q i v z = rw (eq-eqb i null z)

  -- Each slot takes a visit.
  visited : (f q i v rest : ℕ) {t : Tree} → Drawn cells i t → reached f n cells q i v ≡ some rest → rest + length (slots t) ≡ v
  unfolding slots
  visited f q i v rest (at_null z) r = let x : v ≡ rest = some_is (sym (at_once f q i v z) ∙ r) in omega (arith, x)
  visited f q i v rest (at_slot {l = l} {r = g} d x y) r =
      let t = stepped f q i v rest d r in
      omega (
        arith,
        t.spent,
        length_node (hue cells i) l i g,
        visited t.fuel i (cell cells i left) (v - 1) t.between x t.lefts,
        visited t.fuel i (cell cells i right) t.between rest y t.rights,
      )

module _ (names cells sizes : List ℕ) (root visits : ℕ) (few : visits < 18446744073709551616) where
  abbrev at : ℕ → Verdict
  at depth = judged names cells sizes null null root depth visits

  -- Two depths that both suffice.
  both_deep : (d e : ℕ) → d ≤ e → Low cells d root → at d ≡ at e
  both_deep d e h k =
      sym (rw (
        rise_past cells names d e root h k null,
        calm_past cells d e root h k,
        level_past cells d e root h k,
        weigh_past cells sizes d e root h k,
      )
      refl)

  -- A number of 64 bits of visits, so no more than 64 black slots on a way.
  few_blacks : (b : ℕ) → 2 ^ b ≤ visits + 1 → b ≤ 64
  few_blacks b h = go (dec_le b 64)
    where
      go : Dec (b ≤ 64) → b ≤ 64
      go (yes l) = l
      go (no n) = let z : 2 ^ 65 ≤ 2 ^ b = pow_mono {i = 65} (omega arith) in absurd (omega (arith, z, h, few))

  shallow : (depth rest b : ℕ) → reached visits (slots_of names) cells null root visits ≡ some rest → levelled depth cells root ≡ some b
      → all_calm depth cells root ≡ true → Low cells 129 root
  shallow depth rest b r e c =
      let t = drawn cells depth root b e in
      let size = visited (slots_of names) cells visits null root visits rest t.1 r in
      let k = few_blacks b (omega (arith, even_size t.2, size)) in
      let tall = (even_height (drawn_calm cells depth t.1 c) t.2).0 in
      lower cells (height t.0) 129 root (omega (arith, k, tall)) (drawn_low cells t.1)

  deep_enough : (n : ℕ) → 129 ≤ n → at 129 ≡ at n
  deep_enough n h =
      go (reached visits (slots_of names) cells null root visits) refl (levelled 129 cells root) refl (levelled n cells root) refl
      (all_calm n cells root) refl
    where
      unlevel : (d : ℕ)
          → breaks
          ≡ together (reached visits (slots_of names) cells null root visits) (risen d names cells null root) (all_calm d cells root) none
          (slots_below d cells sizes root)
      unlevel d =
          no_level (reached visits (slots_of names) cells null root visits) (risen d names cells null root) (all_calm d cells root)
          (slots_below d cells sizes root)

      go : (u : Value) → reached visits (slots_of names) cells null root visits ≡ u → (w : Value) → levelled 129 cells root ≡ w
          → (x : Value) → levelled n cells root ≡ x → (c : Bool) → all_calm n cells root ≡ c → at 129 ≡ at n
      go u p (some b) q x y c z = both_deep 129 n h (level_low cells 129 root b q)
      go none p none q x y c z = rw p refl
      go (some rest) p none q none y c z = rw (q, y) (sym (unlevel 129) ∙ unlevel n)
      go (some rest) p none q (some b) y false z =
          rw (q, z)
          (sym (unlevel 129)
          ∙ no_calm (reached visits (slots_of names) cells null root visits) (risen n names cells null root) (levelled n cells root)
          (slots_below n cells sizes root))
      go (some rest) p none q (some b) y true z = both_deep 129 n h (shallow n rest b p y z)

  pub deepest_enough : (n : ℕ) {depth : ℕ} → depth ≡ deepest_of n → at depth ≡ at n
  deepest_enough n e = rw e (go (ltb n 129) refl)
    where
      go : (b : Bool) → ltb n 129 ≡ b → at (pick b n 129) ≡ at n
      go true x = refl
      go false x = deep_enough n (ltb-false n 129 x)
