-- The trade writes the links of p and of its successor t, and the links to them. Read back, t stands where p stood and p where t stood,
-- each in the other's colour, and the way D between the two places leads from p up to t.
-- Parts: the way between the two places, and what stays along it; what a trade writes; the parts of the tree around p and t; the trade
-- where t is p's child; the trade further down; what the trade reads first; both in one law.
use mathlib.Core.Path.{◌≡◌, refl, ap, ◌∙◌, sym}
use mathlib.Core.Logic.{◌≢◌}
use mathlib.Core.List.{[], ◌∷◌, ◌++◌}
use mathlib.Core.Bool.{Bool, true, false}
use Prim.Native.Nat.{ℕ, ◌+◌, ◌<◌, ◌≤◌}
use native.Mathlib.Omega.{arith}
use lib.Dec.{eqb, ltb}
use borrow.Author.Tests.{eqb-true}
use Rattle.slots.specs.Words.{null, state, parent, left, right, Colour, code, Side, other, toward, fields, roomy, leftward, rightward}
use Rattle.slots.proofs.Laws.{pick_eq, pick_ne, length-write, toward-small, toward-other}
use Rattle.redblack.specs.Links.{Links, read, stored, painted, colour_of}
use Rattle.redblack.specs.Sided.{Sided, Way, top, upper, plug, hit, count, count_way, Cap, Cell, Hangs, Leads, Site, bare, fork, frame}
use Rattle.redblack.specs.Sided.{none, some, via}
use Rattle.redblack.specs.Climbing.{exchanged}
use Rattle.redblack.specs.Removal.{replaced, lowered, traded}
use Rattle.redblack.specs.Kept.{Agree}
use Rattle.redblack.proofs.Reading.{side_state, parent_side, reads, roomy_cap, recap}
use Rattle.redblack.proofs.Frames.{hit_same, apart, count-top, top_count, count-upper, upper-count, cell_of, that_of, way_cell}
use Rattle.redblack.proofs.Frames.{way_tree, way_on_lem, agree_trans, Moved, tree_frame, site_of, outward, inward, rehang}
use Rattle.redblack.proofs.Paint.{painting}
use Rattle.redblack.proofs.Looks.{pick_side, colour-is}
use Rattle.redblack.proofs.Seat.{rewire, Seat, seat}

-- The slot that D leads up to from x: the one below the end of D.
abbrev pub crest : ℕ → Way → ℕ
crest x [] = x
crest x (frame τ c i b ∷ D) = crest i D

pub count_way_append : (k : ℕ) (D E : Way) → count_way k (D ++ E) ≡ count_way k D + count_way k E
unfolding count_way
count_way_append k [] E = omega arith
count_way_append k (frame τ c i b ∷ D) E = omega (arith, count_way_append k D E)

crest_count : (k x : ℕ) (D : Way) → hit k (crest x D) ≤ hit k x + count_way k D
unfolding count_way
crest_count k x [] = omega arith
crest_count k x (frame τ c i b ∷ D) = omega (arith, crest_count k i D)

crest_inside : {n x : ℕ} {s : Links} (D E : Way) → x < n → Leads n s x (D ++ E) → crest x D < n
crest_inside [] E l w = l
crest_inside (frame τ c i b ∷ D) E l (via k y w) = crest_inside D E k.inside w

-- The view climbs over D at once, and dives again.
pub climb : {n : ℕ} {s : Links} (D : Way) {E : Way} {t : Sided} → Site n s (D ++ E) t → Site n s E (plug D t)
unfolding plug
climb [] h = h
climb (frame τ c i b ∷ D) h = climb D (outward h)

pub dive : {n : ℕ} {s : Links} (D : Way) {E : Way} {t : Sided} → Site n s E (plug D t) → Site n s (D ++ E) t
unfolding plug
dive [] h = h
dive (frame τ c i b ∷ D) h = inward (dive D h)

pub leads_on : {n x : ℕ} {s : Links} (D : Way) {E : Way} → Leads n s x (D ++ E) → Leads n s (crest x D) E
leads_on [] h = h
leads_on (frame τ c i b ∷ D) (via k y w) = leads_on D w

-- The two slots' colours change places first.
repaint : {n : ℕ} {s : Links} {ρ : Side} {d : Colour} {a b : Sided} {t : ℕ} (D : Way) (τ : Side) (c : Colour) (p : ℕ) (y : Sided) (C : Way)
    → Site n s (D ++ (frame τ c p y ∷ C)) (fork ρ d a t b)
    → Site n (painted (painted s t c) p d) (D ++ (frame τ d p y ∷ C)) (fork ρ c a t b)
repaint {d = d} D τ c p y C h = dive D (inward (painting d (outward (climb D (painting c h)))))

-- All words of a slot stay where the parent and the others do.
agree_of : {s u : Links} (i : ℕ) → read u i parent ≡ read s i parent
    → ((f : ℕ) → ltb f fields ≡ true → eqb parent f ≡ false → read u i f ≡ read s i f) → Agree s u i
agree_of {s} {u} i e g = record { same = λ f l. go f l (eqb parent f) refl }
  where
    go : (f : ℕ) → ltb f fields ≡ true → (b : Bool) → eqb parent f ≡ b → read u i f ≡ read s i f
    go f l true z = rw (← eqb-true parent f z) e
    go f l false z = g f l z

-- The first slot of D, or p where D is empty, keeps its parent unless that was p, and p's place is t's now.
above_first : (s u : Links) (i t p : ℕ) (τ : Side) (c d : Colour) (b : Sided) (C D : Way) → hit i i + count_way i D ≤ 1
    → read u (crest i D) parent ≡ t → (i ≢ crest i D → read u i parent ≡ read s i parent)
    → read s i parent ≡ upper (D ++ (frame τ c p b ∷ C)) → read u i parent ≡ upper (D ++ (frame τ d t b ∷ C))
unfolding count_way
above_first s u i t p τ c d b C [] l e f k = e
above_first s u i t p τ c d b C (frame σ c' j y ∷ D) l e f k = f (apart (omega (arith, hit_same i, crest_count i j D))) ∙ k

-- Along D all stays but its first slot's child and its last slot's parent.
drag : {n x : ℕ} {s u : Links} (D : Way) {τ : Side} {d : Colour} {b : Sided} {C : Way} {t : ℕ} (c : Colour) (p : ℕ)
    → ((k : ℕ) → count_way k D ≤ 1)
    → ((i : ℕ) → i < n → 1 ≤ count_way i D → (f : ℕ) → ltb f fields ≡ true → eqb parent f ≡ false → read u i f ≡ read s i f)
    → ((i : ℕ) → i < n → 1 ≤ count_way i D → i ≢ crest x D → read u i parent ≡ read s i parent) → read u (crest x D) parent ≡ t
    → Leads n u (crest x D) (frame τ d t b ∷ C) → Leads n s x (D ++ (frame τ c p b ∷ C)) → Leads n u x (D ++ (frame τ d t b ∷ C))
unfolding count_way
drag [] c p m g f e r h = r
drag {n} {x} {s} {u} (frame σ c' i y ∷ D) {τ} {d} {b} {C} {t} c p m g f e r (via k hy w) =
    let a = g i k.inside (omega (arith, hit_same i)) in
    let k' : Cell n u (upper (D ++ (frame τ d t b ∷ C))) σ c' x i (top y) =
    record {
      inside = k.inside;
      above = above_first s u i t p τ c d b C D (omega (arith, m i, hit_same i)) e
          (λ z. f i k.inside (omega (arith, hit_same i)) z) k.above;
      this = a (toward σ) (toward-small σ) (parent_side σ) ∙ k.this;
      that = a (toward (other σ)) (toward-small (other σ)) (parent_side (other σ)) ∙ k.that;
      hued = a state refl refl ∙ k.hued;
    } in
    via k' (tree_frame (λ j l z. agree_of j (f j l (omega arith) (apart (omega (arith, m j, crest_count j i D)))) (g j l (omega arith))) hy)
    (drag D c p (λ j. omega (arith, m j)) (λ j l z. g j l (omega arith)) (λ j l z v. f j l (omega arith) v) e r w)

-- What the trade leaves at p, at t and at the tops a and b of their other subtrees: p under q, t under w with r below it.
record Traded (n : ℕ) (s u : Links) (p t q r a b w : ℕ) : Type 0 where
  cap : Cap n u
  root : u.root ≡ s.root
  p_up : read u p parent ≡ q
  p_left : read u p left ≡ null
  p_right : read u p right ≡ a
  p_hue : read u p state ≡ read s p state
  t_up : read u t parent ≡ w
  t_left : read u t left ≡ b
  t_right : read u t right ≡ r
  t_hue : read u t state ≡ read s t state
  a_moved : a < n → Moved s u a p
  b_moved : b < n → Moved s u b t

-- The words that both trades write last.
linked : Links → ℕ → ℕ → ℕ → ℕ → ℕ → Links
linked s p t a b w = stored (stored (stored (stored (stored (stored s p left null) p right a) a parent p) t left b) b parent t) t parent w

-- The links where t was p's own child, and where it was further down, under q on the side τ, and r stood below p.
next : Links → ℕ → ℕ → ℕ → ℕ → ℕ → Links
next s p t a b w = linked (stored (stored s p parent t) t right p) p t a b w

deep : Links → ℕ → ℕ → ℕ → ℕ → ℕ → Side → ℕ → ℕ → Links
deep s p t a b w τ q r = linked (stored (stored (stored (stored s p parent q) q (toward τ) p) t right r) r parent t) p t a b w

flip : {i j : ℕ} → i ≢ j → j ≢ i
flip h e = h (sym e)

-- The rest of the trade further down.
record Deep (n : ℕ) (s u : Links) (τ : Side) (p t q r a b w : ℕ) : Type 0 where
  ends : Traded n s u p t q r a b w
  rest : (i : ℕ) → i ≢ p → i ≢ t → i ≢ a → i ≢ b → i ≢ q → i ≢ r → Agree s u i
  r_up : read u r parent ≡ t
  q_this : read u q (toward τ) ≡ p
  q_same : (f : ℕ) → ltb f fields ≡ true → eqb parent f ≡ false → eqb (toward τ) f ≡ false → read u q f ≡ read s q f
  ups : (i : ℕ) → i ≢ p → i ≢ t → i ≢ a → i ≢ b → i ≢ r → read u i parent ≡ read s i parent
  along : (i : ℕ) → i ≢ p → i ≢ t → i ≢ q → (f : ℕ) → ltb f fields ≡ true → eqb parent f ≡ false → read u i f ≡ read s i f

-- No slot is two of p, t, a and b, nor x and one of them.
abbrev Alone : ℕ → ℕ → ℕ → ℕ → ℕ → ℕ → Type 0
Alone n p t a b x = (i : ℕ) → i < n → hit i x + (hit i p + hit i t + hit i a + hit i b) ≤ 1

abbrev Apart : ℕ → ℕ → ℕ → ℕ → ℕ → Type 0
Apart n p t a b = (i : ℕ) → i < n → hit i p + hit i t + hit i a + hit i b ≤ 1

module _ {n : ℕ} {s : Links} (k : Cap n s) (p t a b w : ℕ) (wp : p < n) (wt : t < n) (o : Apart n p t a b) where
  traded-next : Traded n s (next s p t a b w) p t t p a b w
  unfolding next linked flip
  traded-next =
      let hp : roomy fields s.cells p ≡ true = roomy_cap p k wp in
      let ht : roomy fields s.cells t ≡ true = roomy_cap t k wt in
      let pt : p ≢ t = apart (omega (arith, o p wp, hit_same p)) in
      let pa : p ≢ a = apart (omega (arith, o p wp, hit_same p)) in
      let pb : p ≢ b = apart (omega (arith, o p wp, hit_same p)) in
      let ta : t ≢ a = apart (omega (arith, o t wt, hit_same t)) in
      let tb : t ≢ b = apart (omega (arith, o t wt, hit_same t)) in
      record {
        cap = recap k (simp length-write);
        root = refl;
        p_up = simp (reads, flip, hp);
        p_left = simp (reads, flip, hp);
        p_right = simp (reads, flip, hp);
        p_hue = simp (reads, flip);
        t_up = simp (reads, flip, ht);
        t_left = simp (reads, flip, ht);
        t_right = simp (reads, flip, ht);
        t_hue = simp (reads, flip);
        a_moved = λ l. (let v : a ≢ b = apart (omega (arith, o a l, hit_same a)) in
            record { up = simp (reads, flip, roomy_cap a k l); same = λ f g e. simp (reads, flip) });
        b_moved = λ l. record { up = simp (reads, flip, roomy_cap b k l); same = λ f g e. simp (reads, flip) };
      }

  next_rest : (i : ℕ) → i ≢ p → i ≢ t → i ≢ a → i ≢ b → Agree s (next s p t a b w) i
  unfolding next linked flip
  next_rest i d e f g = record { same = λ h l. simp (reads, flip) }

  deep_all : (τ : Side) (q r : ℕ) (wq : q < n) (wr : r < n) → Alone n p t a b q → Alone n p t a b r
      → Deep n s (deep s p t a b w τ q r) τ p t q r a b w
  unfolding deep linked flip
  deep_all τ q r wq wr oq or =
      let hp : roomy fields s.cells p ≡ true = roomy_cap p k wp in
      let ht : roomy fields s.cells t ≡ true = roomy_cap t k wt in
      let pt : p ≢ t = apart (omega (arith, o p wp, hit_same p)) in
      let pa : p ≢ a = apart (omega (arith, o p wp, hit_same p)) in
      let pb : p ≢ b = apart (omega (arith, o p wp, hit_same p)) in
      let ta : t ≢ a = apart (omega (arith, o t wt, hit_same t)) in
      let tb : t ≢ b = apart (omega (arith, o t wt, hit_same t)) in
      let hq : roomy fields s.cells q ≡ true = roomy_cap q k wq in
      let hr : roomy fields s.cells r ≡ true = roomy_cap r k wr in
      let qp : q ≢ p = apart (omega (arith, oq q wq, hit_same q)) in
      let qt : q ≢ t = apart (omega (arith, oq q wq, hit_same q)) in
      let qa : q ≢ a = apart (omega (arith, oq q wq, hit_same q)) in
      let qb : q ≢ b = apart (omega (arith, oq q wq, hit_same q)) in
      let rp : r ≢ p = apart (omega (arith, or r wr, hit_same r)) in
      let rt : r ≢ t = apart (omega (arith, or r wr, hit_same r)) in
      let ra : r ≢ a = apart (omega (arith, or r wr, hit_same r)) in
      let rb : r ≢ b = apart (omega (arith, or r wr, hit_same r)) in
      let T : Traded n s (deep s p t a b w τ q r) p t q r a b w =
      record {
        cap = recap k (simp length-write);
        root = refl;
        p_up = simp (reads, flip, hp);
        p_left = simp (reads, flip, hp);
        p_right = simp (reads, flip, hp);
        p_hue = simp (reads, flip);
        t_up = simp (reads, flip, ht);
        t_left = simp (reads, flip, ht);
        t_right = simp (reads, flip, ht);
        t_hue = simp (reads, flip);
        a_moved = λ l. (let v : a ≢ b = apart (omega (arith, o a l, hit_same a)) in
            record { up = simp (reads, flip, roomy_cap a k l); same = λ f g e. simp (reads, flip) });
        b_moved = λ l. record { up = simp (reads, flip, roomy_cap b k l); same = λ f g e. simp (reads, flip) };
      } in
      record {
        ends = T;
        rest = λ i d e f g h j. record { same = λ o l. simp (reads, flip) };
        r_up = simp (reads, flip, hr);
        q_this = simp (reads, flip, hq);
        q_same = λ f l d e. simp (reads, flip);
        ups = λ i d e f g h. simp (reads, flip);
        along = λ i d e f g l h. simp (reads, flip);
      }

-- The parts of the tree around p and t in the links v, where t has p's place at the end of C.
module _ {n : ℕ} {s u v : Links} {cp ct : Colour} {pl tr : Sided} {C : Way} {p t x q₀ q r : ℕ}
    (small : n ≤ null) (kp : Cell n s (upper C) rightward cp x p (top pl)) (kt : Cell n s q₀ leftward ct null t (top tr))
    (hpl : Hangs n s p pl) (htr : Hangs n s t tr) (hC : Leads n s p C)
    (o : (k : ℕ) → hit k p + count k pl + count_way k C + hit k t + count k tr ≤ 1)
    (T : Traded n s u p t q r (top tr) (top pl) (upper C))
    (R : (i : ℕ) → i < n → hit i p + hit i t ≡ 0 → 1 ≤ count i pl + count_way i C + count i tr → i ≢ top tr → i ≢ top pl → Agree s u i)
    (S : Seat n s u v C t) where
  -- What is not in the way is not at its end.
  clear : (i : ℕ) → i < n → count_way i C ≡ 0 → Agree u v i
  clear i l e = S.off i (apart (omega (arith, count-upper i C (omega arith))))

  moved : (i j : ℕ) → i < n → count_way i C ≡ 0 → Moved s u i j → Moved s v i j
  moved i j l e m = let g = clear i l e in record { up = g.same parent refl ∙ m.up; same = λ f h z. g.same f h ∙ m.same f h z }

  low : Hangs n v q (fork leftward cp bare p tr)
  low =
      let g = clear p kp.inside (omega (arith, o p, hit_same p)) in
      let c : Cell n v q leftward cp null p (top tr) =
      record {
        inside = kp.inside;
        above = g.same parent refl ∙ T.p_up;
        this = g.same left refl ∙ T.p_left;
        that = g.same right refl ∙ T.p_right;
        hued = g.same state refl ∙ T.p_hue ∙ kp.hued;
      } in
      some {a = bare} c none
      (rehang
      (λ i l z e. agree_trans (R i l (omega (arith, o i)) (omega arith) e (apart (omega (arith, o i, count-top i pl (omega arith)))))
      (clear i l (omega (arith, o i))))
      (λ l. moved (top tr) p l (omega (arith, o (top tr), top_count tr (omega arith))) (T.a_moved l)) (λ i. omega (arith, o i)) htr)

  high : Leads n v r (frame rightward ct t pl ∷ C)
  high =
      let g = clear t kt.inside (omega (arith, o t, hit_same t)) in
      let c : Cell n v (upper C) rightward ct r t (top pl) =
      record {
        inside = kt.inside;
        above = g.same parent refl ∙ T.t_up;
        this = g.same right refl ∙ T.t_right;
        that = g.same left refl ∙ T.t_left;
        hued = g.same state refl ∙ T.t_hue ∙ kt.hued;
      } in
      via c
      (rehang
      (λ i l z e. agree_trans (R i l (omega (arith, o i)) (omega arith) (apart (omega (arith, o i, count-top i tr (omega arith)))) e)
      (clear i l (omega (arith, o i))))
      (λ l. moved (top pl) t l (omega (arith, o (top pl), top_count pl (omega arith))) (T.b_moved l)) (λ i. omega (arith, o i)) hpl)
      (rewire (λ k. omega (arith, o k))
      (λ i l z e. agree_trans (R i l (omega (arith, o i)) (omega arith) (apart (omega (arith, o i, count-top i tr (omega arith))))
      (apart (omega (arith, o i, count-top i pl (omega arith))))) (S.off i e))
      S.heads hC)

-- The trade where t is p's child.
next_site : {n : ℕ} {s : Links} {cp ct : Colour} {pl tr : Sided} {C : Way} {p t : ℕ}
    → Site n s (frame rightward cp p pl ∷ C) (fork leftward ct bare t tr)
    → Site n (replaced (next s p t (top tr) (top pl) (upper C)) (upper C) p t) (frame rightward ct t pl ∷ C) (fork leftward cp bare p tr)
unfolding count count_way
next_site {n} {s} {cp} {ct} {pl} {tr} {C} {p} {t} h =
    let kp = way_cell h.way in
    let kt = cell_of h.tree in
    let small = h.cap.small in
    let o : (k : ℕ) → hit k p + count k pl + count_way k C + hit k t + count k tr ≤ 1 = λ k. omega (arith, h.once k) in
    let four : Apart n p t (top tr) (top pl) =
    λ i l. omega (arith, o i, count-top i tr (omega (arith, small)), count-top i pl (omega (arith, small))) in
    let u = next s p t (top tr) (top pl) (upper C) in
    let T : Traded n s u p t t p (top tr) (top pl) (upper C) =
    traded-next h.cap p t (top tr) (top pl) (upper C) kp.inside kt.inside four in
    let off : (i : ℕ) → i ≢ p → i ≢ t → i ≢ top tr → i ≢ top pl → Agree s u i =
    next_rest h.cap p t (top tr) (top pl) (upper C) kp.inside kt.inside four in
    let end : (i : ℕ) → 1 ≤ count_way i C → i < n → Agree s u i =
    λ i z l. off i (apart (omega (arith, o i))) (apart (omega (arith, o i)))
    (apart (omega (arith, o i, count-top i tr (omega (arith, small)))))
    (apart (omega (arith, o i, count-top i pl (omega (arith, small))))) in
    let S : Seat n s u (replaced u (upper C) p t) C t =
    seat t small kp.inside (omega (arith, o p, hit_same p)) T.cap T.root
    (λ l. end (upper C) (upper-count C (omega (arith, small))) l) (way_on_lem h.way) in
    let R : (i : ℕ) → i < n → hit i p + hit i t ≡ 0 → 1 ≤ count i pl + count_way i C + count i tr → i ≢ top tr → i ≢ top pl → Agree s u i =
    λ i l z w e f. off i (apart (omega arith)) (apart (omega arith)) e f in
    record {
      cap = S.cap;
      way = high small kp kt (way_tree h.way) (that_of h.tree) (way_on_lem h.way) o T R S;
      tree = low small kp kt (way_tree h.way) (that_of h.tree) (way_on_lem h.way) o T R S;
      once = λ k. omega (arith, o k);
    }

-- The trade where t is further down.
deep_site : {n : ℕ} {s : Links} {τ : Side} {c ct : Colour} {tr y : Sided} {q t : ℕ} (cp : Colour) (p : ℕ) (pl : Sided) (C D : Way)
    → Site n s (frame τ c q y ∷ (D ++ (frame rightward cp p pl ∷ C))) (fork leftward ct bare t tr)
    → Site n (replaced (deep s p t (top tr) (top pl) (upper C) τ q (crest q D)) (upper C) p t)
    (frame τ c q y ∷ (D ++ (frame rightward ct t pl ∷ C))) (fork leftward cp bare p tr)
unfolding count count_way
deep_site {n} {s} {τ} {c} {ct} {tr} {y} {q} {t} cp p pl C D h =
    let E : Way = frame rightward cp p pl ∷ C in
    let kq = way_cell h.way in
    let w = leads_on D (way_on_lem h.way) in
    let kp = way_cell w in
    let kt = cell_of h.tree in
    let small = h.cap.small in
    let r : ℕ = crest q D in
    let wr : r < n = crest_inside D E kq.inside (way_on_lem h.way) in
    let O : (k : ℕ) → hit k q + count k y + count_way k D + (hit k p + count k pl + count_way k C) + hit k t + count k tr ≤ 1 =
    λ k. omega (arith, h.once k, count_way_append k D E) in
    let Z : (k : ℕ) → hit k r ≤ hit k q + count_way k D = λ k. crest_count k q D in
    let o : (k : ℕ) → hit k p + count k pl + count_way k C + hit k t + count k tr ≤ 1 = λ k. omega (arith, O k) in
    let alone : (i : ℕ) → i < n → hit i q + count_way i D + (hit i p + hit i t + hit i (top tr) + hit i (top pl)) ≤ 1 =
    λ i l. omega (arith, O i, count-top i tr (omega (arith, small)), count-top i pl (omega (arith, small))) in
    let u = deep s p t (top tr) (top pl) (upper C) τ q r in
    let v = replaced u (upper C) p t in
    let K : Deep n s u τ p t q r (top tr) (top pl) (upper C) =
    deep_all h.cap p t (top tr) (top pl) (upper C) kp.inside kt.inside (λ i l. omega (arith, alone i l)) τ q r kq.inside wr
    (λ i l. omega (arith, alone i l)) (λ i l. omega (arith, alone i l, Z i)) in
    let T = K.ends in
    let off : (i : ℕ) → i < n → hit i p + hit i t + hit i q + count_way i D ≡ 0 → i ≢ top tr → i ≢ top pl → Agree s u i =
    λ i l z e f. K.rest i (apart (omega arith)) (apart (omega arith)) e f (apart (omega arith)) (apart (omega (arith, Z i))) in
    let out : (i : ℕ) → i < n → hit i p + hit i t + hit i q + count_way i D + count i tr + count i pl ≡ 0 → Agree s u i =
    λ i l z. off i l (omega arith) (apart (omega (arith, count-top i tr (omega (arith, small)))))
    (apart (omega (arith, count-top i pl (omega (arith, small))))) in
    let S : Seat n s u v C t = seat t small kp.inside (omega (arith, O p, hit_same p)) T.cap T.root
    (λ l. out (upper C) l (omega (arith, O (upper C), upper-count C (omega (arith, small))))) (way_on_lem w) in
    let R : (i : ℕ) → i < n → hit i p + hit i t ≡ 0 → 1 ≤ count i pl + count_way i C + count i tr → i ≢ top tr → i ≢ top pl → Agree s u i =
    λ i l z x e f. off i l (omega (arith, O i)) e f in
    let G : (i : ℕ) → i < n → count_way i C ≡ 0 → Agree u v i =
    λ i l z. S.off i (apart (omega (arith, count-upper i C (omega (arith, small))))) in
    let ups : (i : ℕ) → i < n → 1 ≤ hit i q + count_way i D → i ≢ r → read v i parent ≡ read s i parent =
    λ i l z e. (G i l (omega (arith, O i))).same parent refl
    ∙ K.ups i (apart (omega (arith, O i))) (apart (omega (arith, O i))) (apart (omega (arith, O i, count-top i tr (omega (arith, small)))))
    (apart (omega (arith, O i, count-top i pl (omega (arith, small))))) e in
    let along : (i : ℕ) → i < n → 1 ≤ count_way i D → (f : ℕ) → ltb f fields ≡ true → eqb parent f ≡ false → read v i f ≡ read s i f =
    λ i l z f g e. (G i l (omega (arith, O i))).same f g
    ∙ K.along i (apart (omega (arith, O i))) (apart (omega (arith, O i))) (apart (omega (arith, O i))) f g e in
    let er : read v r parent ≡ t = (G r wr (omega (arith, O r, hit_same r, Z r))).same parent refl ∙ K.r_up in
    let gq = G q kq.inside (omega (arith, O q, hit_same q)) in
    let kq' : Cell n v (upper (D ++ (frame rightward ct t pl ∷ C))) τ c p q (top y) =
    record {
      inside = kq.inside;
      above = above_first s v q t p rightward cp ct pl C D (omega (arith, O q)) er
          (λ e. ups q kq.inside (omega (arith, hit_same q)) e) kq.above;
      this = gq.same (toward τ) (toward-small τ) ∙ K.q_this;
      that = gq.same (toward (other τ)) (toward-small (other τ))
          ∙ K.q_same (toward (other τ)) (toward-small (other τ)) (parent_side (other τ)) (toward-other τ) ∙ kq.that;
      hued = gq.same state refl ∙ K.q_same state refl refl (side_state τ) ∙ kq.hued;
    } in
    record {
      cap = S.cap;
      way = via kq'
          (tree_frame (λ i l z. agree_trans (out i l (omega (arith, O i))) (G i l (omega (arith, O i)))) (way_tree h.way))
          (drag D cp p (λ k. omega (arith, O k)) along (λ i l z e. ups i l (omega arith) e) er
          (high small kp kt (way_tree w) (that_of h.tree) (way_on_lem w) o T R S) (way_on_lem h.way));
      tree = low small kp kt (way_tree w) (that_of h.tree) (way_on_lem w) o T R S;
      once = λ k. omega (arith, O k, count_way_append k D (frame rightward ct t pl ∷ C));
    }

-- The trade with what it reads first.
traded_by : Links → ℕ → ℕ → Colour → Colour → ℕ → ℕ → ℕ → ℕ → ℕ → Links
traded_by s p t cp ct a b r w q = exchanged (replaced (linked (lowered (painted (painted s t cp) p ct) p t r q) p t a b w) w p t) p t

traded_by_lem : (s : Links) (p t : ℕ)
    → traded s p t
    ≡ traded_by s p t (colour_of s p) (colour_of s t) (read s t right) (read s p left) (read s p right) (read s p parent) (read s t parent)
unfolding traded traded_by linked
traded_by_lem s p t = refl

traded-is : (s : Links) (cp ct : Colour) (p t a b r w q : ℕ) → read s p state ≡ code cp → read s t state ≡ code ct → read s t right ≡ a
    → read s p left ≡ b → read s p right ≡ r → read s p parent ≡ w → read s t parent ≡ q
    → traded s p t ≡ traded_by s p t cp ct a b r w q
traded-is s cp ct p t a b r w q e1 e2 e3 e4 e5 e6 e7 =
    traded_by_lem s p t ∙ rw (colour-is s p cp e1, colour-is s t ct e2, e3, e4, e5, e6, e7)

lowered-next : (s : Links) (p t q : ℕ) → lowered s p t t q ≡ stored (stored s p parent t) t right p
unfolding lowered
lowered-next s p t q = pick_eq {m = t} _ _ refl

lowered_deep : (s : Links) (τ : Side) (p t r q : ℕ) → t ≢ r → read s q (toward τ) ≡ t → read s q (toward (other τ)) ≢ t
    → lowered s p t r q ≡ stored (stored (stored (stored s p parent q) q (toward τ) p) t right r) r parent t
unfolding lowered
lowered_deep s τ p t r q d e f =
    let a = stored s p parent q in
    pick_ne _ _ d
    ∙ ap (λ (u : Links). stored (stored u t right r) r parent t)
    (pick_side a τ t q (λ (g h : ℕ). stored a q g p) (simp reads e) (simp reads f))

-- p and t have changed places, and each place has kept its colour.
pub traded_site : {n : ℕ} {s : Links} {ct : Colour} {tr : Sided} {t : ℕ} (cp : Colour) (p : ℕ) (pl : Sided) (C D : Way)
    → Site n s (D ++ (frame rightward cp p pl ∷ C)) (fork leftward ct bare t tr)
    → Site n (traded s p t) (D ++ (frame rightward cp t pl ∷ C)) (fork leftward ct bare p tr)
unfolding traded_by next deep count count_way
traded_site {s = s} {ct} {tr} {t} cp p pl C [] h =
    let kp = way_cell h.way in
    let kt = cell_of h.tree in
    let s1 = painted (painted s t cp) p ct in
    let e =
    traded-is s cp ct p t (top tr) (top pl) t (upper C) p kp.hued kt.hued kt.that kp.that kp.this kp.above kt.above
    ∙ ap (λ (u : Links). exchanged (replaced (linked u p t (top tr) (top pl) (upper C)) (upper C) p t) p t) (lowered-next s1 p t p) in
    rw e (site_of _ refl refl (next_site (repaint [] rightward cp p pl C h)))
traded_site {s = s} {ct} {tr} {t} cp p pl C (frame τ c q y ∷ D) h =
    let kp = way_cell (leads_on D (way_on_lem h.way)) in
    let kt = cell_of h.tree in
    let s1 = painted (painted s t cp) p ct in
    let v = repaint (frame τ c q y ∷ D) rightward cp p pl C h in
    let k1 = way_cell v.way in
    let ty : t ≢ top y = apart (omega (arith, h.once t, hit_same t, count-top t y (omega (arith, kt.inside, h.cap.small)))) in
    let tr' : t ≢ crest q D =
    apart (omega (arith, h.once t, hit_same t, crest_count t q D, count_way_append t D (frame rightward cp p pl ∷ C))) in
    let e =
    traded-is s cp ct p t (top tr) (top pl) (crest q D) (upper C) q kp.hued kt.hued kt.that kp.that kp.this
    kp.above kt.above
    ∙ ap (λ (u : Links). exchanged (replaced (linked u p t (top tr) (top pl) (upper C)) (upper C) p t) p t)
    (lowered_deep s1 τ p t (crest q D) q tr' k1.this (λ z. ty (sym z ∙ k1.that))) in
    rw e (site_of _ refl refl (deep_site ct p pl C D v))
