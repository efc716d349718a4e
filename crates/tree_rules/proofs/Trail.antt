-- What a search looks at, for any search that goes on by what a look at each slot says. Where it goes from a slot is told by that
-- slot alone, so the links that it follows are one row, of which its looks are the front; and a search that met a slot twice would
-- go round for ever.
-- Parts: lists from a place on; what a search is, and how it goes; the links followed from a root, and where they end; a search that is not
-- lost is the same with more visits; it looks at no slot twice; the looks of the whole search.
use Rattle.std.proofs.Common.{◌≡◌, ℕ, zero, suc, ◌+◌, ◌-◌, ◌<◌, ◌≤◌, ◌≢◌, ◌⊎◌, List, [], ◌∷◌, length, get_or, drop}
use Rattle.std.proofs.Common.{sym, refl, ap, ◌∙◌, inl, inr, zero-add, arith}
use native.Mathlib.Decide.{ℕ_discrete, dec_lt}
use Rattle.slots.specs.Words.{null}
use Rattle.slots.specs.Pairs.{pair, pair_of}
use Rattle.slots.specs.Answers.{given, nothing, refused}
use Rattle.slots.proofs.Laws.{number, given_is, nothing-given}
use Rattle.tree_rules.specs.Find.{Look, here, on, Search, ends, looked_then, slots_of}
use Rattle.tree_rules.specs.Tree.{times}
use Rattle.tree_rules.specs.Looks.{LooksAt}
use Rattle.tree_rules.proofs.Counting.{times_head, times_else, times_cases}

-- A list whose rest from k on begins with p.
record Starts (p : ℕ) (l : List ℕ) : Type 0 where
  rest : List ℕ
  is : l ≡ p ∷ rest

drop_tail : (l : List ℕ) (k p : ℕ) (r : List ℕ) → drop k l ≡ p ∷ r → drop (suc k) l ≡ r
drop_tail [] zero p r e = absurd (omega (arith, ap length e))
drop_tail (x ∷ l) zero p r e = cc
drop_tail [] (suc k) p r e = absurd (omega (arith, ap length e))
drop_tail (x ∷ l) (suc k) p r e = drop_tail l k p r e

drop_head : (l : List ℕ) (k p : ℕ) (r : List ℕ) → drop k l ≡ p ∷ r → (k < length l) × (get_or l k null ≡ p)
drop_head [] zero p r e = absurd (omega (arith, ap length e))
drop_head (x ∷ l) zero p r e = (omega arith, cc)
drop_head [] (suc k) p r e = absurd (omega (arith, ap length e))
drop_head (x ∷ l) (suc k) p r e = let h = drop_head l k p r e in (omega (arith, h.0), h.1)

-- What holds of the first and, one place on, of each of the rest, holds of each.
spread : (F : ℕ → ℕ → Type 0) (k p : ℕ) (r l : List ℕ) → l ≡ p ∷ r → F k p → ((i : ℕ) → i < length r → F (suc k + i) (get_or r i null))
    → (j : ℕ) → j < length l → F (k + j) (get_or l j null)
spread F k p r l e f g j h = rw e (go j (omega (arith, ap length e)))
  where
    go : (j : ℕ) → j < length (p ∷ r) → F (k + j) (get_or (p ∷ r) j null)
    go zero h = let z : k + 0 ≡ k = omega arith in rw z f
    go (suc i) h = let z : k + suc i ≡ suc k + i = omega arith in rw z (g i (omega arith))

pub answers : {s t : Search} → s ≡ t → s.answer ≡ t.answer
answers e = ap (λ (s : Search). s.answer) e

pub looks : {s t : Search} → s ≡ t → s.looks ≡ t.looks
looks e = ap (λ (s : Search). s.looks) e

pub on_is : {p q : ℕ} → on p ≡ on q → p ≡ q
on_is {p} e = ap back e
  where
    back : Look → ℕ
    back here = p
    back (on q) = q

pub here_on : {q : ℕ} → here ≡ on q → ⊥
here_on e = let z : ◌≡◌ {A = ℕ} 0 1 = ap mark e in omega arith
  where
    mark : Look → ℕ
    mark here = 0
    mark (on q) = 1

fewer : (n k : ℕ) → suc k ≤ n → n - k ≡ suc (n - suc k)
fewer n k h = omega arith

-- A search over n slots from a link, with so many visits left, by the look at each slot.
pub record Runs (n : ℕ) (look : ℕ → Look) (run : ℕ → ℕ → Search) : Type 0 where
  pub at_null : (visits p : ℕ) → p ≡ null → run visits p ≡ ends nothing
  pub out_of_range : (visits p : ℕ) → p ≢ null → n ≤ p → run visits p ≡ ends (refused 9)
  pub visits_spent : (p : ℕ) → p ≢ null → run 0 p ≡ ends (refused 9)
  pub at_slot : (visits p : ℕ) → p ≢ null → p < n → run (suc visits) p ≡ looked_then (look p) p (λ q. run visits q)

module _ {n : ℕ} {look : ℕ → Look} {run : ℕ → ℕ → Search} (r : Runs n look run) where
  -- What a search comes to, by the looks on its way.
  data Goes : ℕ → ℕ → Type 0 where
    ended : {v p : ℕ} → p ≡ null → run v p ≡ ends nothing → Goes v p
    astray : {v p : ℕ} → p ≢ null → (n ≤ p) ⊎ (v ≡ 0) → run v p ≡ ends (refused 9) → Goes v p
    met : {v p : ℕ} → p ≢ null → p < n → look p ≡ here → run (suc v) p ≡ looked_then here p (λ q. run v q) → Goes (suc v) p
    onward : {v p q : ℕ} → p ≢ null → p < n → look p ≡ on q → run (suc v) p ≡ looked_then (on q) p (λ q. run v q) → Goes v q
        → Goes (suc v) p

  by_look : (v p : ℕ) → p ≢ null → p < n → (o : Look) → look p ≡ o → ((q : ℕ) → Goes v q) → Goes (suc v) p
  by_look v p d l here o rest = met d l o (r.at_slot v p d l ∙ ap (λ (o : Look). looked_then o p (λ q. run v q)) o)
  by_look v p d l (on q) o rest = onward d l o (r.at_slot v p d l ∙ ap (λ (o : Look). looked_then o p (λ q. run v q)) o) (rest q)

  goes : (v p : ℕ) → Goes v p
  goes zero p = go (ℕ_discrete p null)
    where
      go : Dec (p ≡ null) → Goes 0 p
      go (yes z) = ended z (r.at_null 0 p z)
      go (no d) = astray d (inr refl) (r.visits_spent p d)
  goes (suc v) p = go (ℕ_discrete p null) (dec_lt p n) (λ q. goes v q)
    where
      go : Dec (p ≡ null) → Dec (p < n) → ((q : ℕ) → Goes v q) → Goes (suc v) p
      go (yes z) l rest = ended z (r.at_null (suc v) p z)
      go (no d) (no l) rest = astray d (inl (omega arith)) (r.out_of_range (suc v) p d (omega arith))
      go (no d) (yes l) rest = by_look v p d l (look p) refl rest

  -- A slot looked at is the first of the looks from there.
  head_look : (v p : ℕ) → p ≢ null → p < n → (o : Look) → look p ≡ o → Starts p (run (suc v) p).looks
  head_look v p d l here o = record { rest = []; is = looks (r.at_slot v p d l ∙ ap (λ (o : Look). looked_then o p (λ q. run v q)) o) }
  head_look v p d l (on q) o =
      record { rest = (run v q).looks; is = looks (r.at_slot v p d l ∙ ap (λ (o : Look). looked_then o p (λ q. run v q)) o) }

  -- The links followed from a root.
  pub data Trail (root : ℕ) : ℕ → ℕ → Type 0 where
    start : Trail root 0 root
    step : {k p q : ℕ} → Trail root k p → p ≢ null → p < n → look p ≡ on q → Trail root (suc k) q

  module _ (root : ℕ) where
    -- Where the search from a link followed ends, and how many looks later.
    data Stops (j v p : ℕ) : Type 0 where
      missed : (run v p).answer ≡ nothing → Trail root (j + length (run v p).looks) null → Stops j v p
      hit : {x : ℕ} → (run v p).answer ≡ given x → (k : ℕ) → length (run v p).looks ≡ suc k → get_or (run v p).looks k null ≡ x
          → look x ≡ here → Stops j v p
      lost : (run v p).answer ≡ refused 9 → (link : ℕ) → Trail root (j + length (run v p).looks) link → link ≢ null
          → (n ≤ link) ⊎ (n ≤ j + length (run v p).looks) → Stops j v p

    further : {j v p q : ℕ} → run (suc v) p ≡ looked_then (on q) p (λ q. run v q) → Stops (suc j) v q → Stops j (suc v) p
    further {j} {v} {p} {q} e (missed a t) =
        let z : j + length (run (suc v) p).looks ≡ suc j + length (run v q).looks = omega (arith, ap length (looks e)) in
        missed (answers e ∙ a) (rw z t)
    further {j} {v} {p} {q} e (hit a k m x h) =
        hit (answers e ∙ a) (suc k) (ap length (looks e) ∙ omega (arith, m)) (ap (λ (l : List ℕ). get_or l (suc k) null) (looks e) ∙ x) h
    further {j} {v} {p} {q} e (lost a link t d o) =
        let z : j + length (run (suc v) p).looks ≡ suc j + length (run v q).looks = omega (arith, ap length (looks e)) in
        lost (answers e ∙ a) link (rw z t) d (rw z o)

    stops : {v p : ℕ} → Goes v p → (j : ℕ) → Trail root j p → j + v ≡ n → Stops j v p
    stops {v} {p} (ended z e) j t s =
        let m : j + length (run v p).looks ≡ j = omega (arith, ap length (looks e)) in
        missed (answers e) (rw m (rw z at t))
    stops {v} {p} (astray d o e) j t s =
        let m : j + length (run v p).looks ≡ j = omega (arith, ap length (looks e)) in
        lost (answers e) p (rw m t) d (rw m (past o))
      where
        past : (n ≤ p) ⊎ (v ≡ 0) → (n ≤ p) ⊎ (n ≤ j)
        past (inl h) = inl h
        past (inr h) = inr (omega arith)
    stops (met {v} {p} d l o e) j t s = hit (answers e) 0 (ap length (looks e)) (ap (λ (l : List ℕ). get_or l 0 null) (looks e)) o
    stops (onward d l o e g) j t s = further e (stops g (suc j) (step t d l o) (omega arith))

    -- Each look is followed, and is a slot.
    shown : {v p : ℕ} → Goes v p → (j : ℕ) → Trail root j p → (k : ℕ) → k < length (run v p).looks
        → Trail root (j + k) (get_or (run v p).looks k null) × (get_or (run v p).looks k null ≢ null) × (get_or (run v p).looks k null < n)
    shown (ended z e) j t k h = absurd (omega (arith, ap length (looks e)))
    shown (astray d o e) j t k h = absurd (omega (arith, ap length (looks e)))
    shown (met {v} {p} d l o e) j t k h =
        spread (λ i x. Trail root i x × (x ≢ null) × (x < n)) j p [] _ (looks e) (t, d, l) (λ i w. absurd (omega arith)) k h
    shown (onward {v} {p} {q} d l o e g) j t k h =
        spread (λ i x. Trail root i x × (x ≢ null) × (x < n)) j p (run v q).looks _ (looks e) (t, d, l)
        (shown g (suc j) (step t d l o)) k h

    -- One link is followed after k visits, and the link before a link followed is a slot without the pair.
    one : {k p q : ℕ} → Trail root k p → Trail root k q → p ≡ q
    one start t = first t refl
      where
        first : {k q : ℕ} → Trail root k q → k ≡ 0 → root ≡ q
        first start e = refl
        first (step t d l o) e = absurd (omega arith)
    one (step {k} {p} {q} s d l o) t = next t refl (λ y g. one s g)
      where
        next : {m x : ℕ} → Trail root m x → m ≡ suc k → ((y : ℕ) → Trail root k y → p ≡ y) → q ≡ x
        next start e same = absurd (omega arith)
        next (step {k = i} {p = y} t c b u) e same =
            let z : i ≡ k = omega arith in
            on_is (sym o ∙ ap look (same y (rw z at t)) ∙ u)

    before : {m x : ℕ} → Trail root m x → (k : ℕ) → m ≡ suc k → (p : ℕ) × Trail root k p × (look p ≡ on x)
    before start k e = absurd (omega arith)
    before (step {k = i} {p} t d l o) k e = let z : i ≡ k = omega arith in (p, rw z at t, o)

    -- The looks past the first k are those of the search from the link followed then.
    looks_from : {k p : ℕ} → Trail root k p → k ≤ n → drop k (run n root).looks ≡ (run (n - k) p).looks
    looks_from start l = let z : n ≡ n - 0 = omega arith in ap (λ (v : ℕ). (run v root).looks) z
    looks_from (step {k} {p} {q} t d i o) l =
        drop_tail (run n root).looks k p (run (n - suc k) q).looks
        (looks_from t (omega arith) ∙ ap (λ (v : ℕ). (run v p).looks) (fewer n k l)
        ∙ looks (r.at_slot (n - suc k) p d i ∙ ap (λ (o : Look). looked_then o p (λ q. run (n - suc k) q)) o))

    every : {k p : ℕ} → Trail root k p → p ≢ null → p < n → k < n → (k < length (run n root).looks) × (get_or (run n root).looks k null ≡ p)
    every {k} {p} t d l h =
        let s = head_look (n - suc k) p d l (look p) refl in
        drop_head (run n root).looks k p s.rest (looks_from t (omega arith) ∙ ap (λ (v : ℕ). (run v p).looks) (fewer n k h) ∙ s.is)

  most : {v p : ℕ} → Goes v p → length (run v p).looks ≤ v
  most (ended z e) = omega (arith, ap length (looks e))
  most (astray d o e) = omega (arith, ap length (looks e))
  most (met d l o e) = omega (arith, ap length (looks e))
  most (onward d l o e g) = omega (arith, ap length (looks e), most g)

  -- More visits change nothing of a search that is not lost.
  more : {v p : ℕ} → Goes v p → (run v p).answer ≢ refused 9 → (w : ℕ) → v ≤ w → run w p ≡ run v p
  more {v} {p} (ended z e) a w l = r.at_null w p z ∙ sym e
  more (astray d o e) a w l = absurd (a (answers e))
  more (met d i o e) a zero l = absurd (omega arith)
  more (met {v} {p} d i o e) a (suc w) l = r.at_slot w p d i ∙ ap (λ (o : Look). looked_then o p (λ q. run w q)) o ∙ sym e
  more (onward d i o e g) a zero l = absurd (omega arith)
  more (onward {v} {p} {q} d i o e g) a (suc w) l =
      r.at_slot w p d i ∙ ap (λ (o : Look). looked_then o p (λ q. run w q)) o
      ∙ ap (λ (s : Search). record { answer = s.answer; looks = p ∷ s.looks }) (more g (λ z. a (answers e ∙ z)) w (omega arith)) ∙ sym e

  -- The search from a slot looked at is the end of the search.
  record Later (v p x : ℕ) : Type 0 where
    visits : ℕ
    fewer : visits ≤ v
    shorter : length (run visits x).looks ≤ length (run v p).looks
    same : (run visits x).answer ≡ (run v p).answer

  later : {v p : ℕ} → Goes v p → (x : ℕ) → 1 ≤ times x (run v p).looks → Later v p x
  unfolding times
  later (ended z e) x h = absurd (omega (arith, ap (times x) (looks e)))
  later (astray d o e) x h = absurd (omega (arith, ap (times x) (looks e)))
  later (met {v} {p} d l o e) x h =
      times_cases x p [] (omega (arith, ap (times x) (looks e)))
      (λ z. rw z (record { visits = suc v; fewer = omega arith; shorter = omega arith; same = refl })) (λ k. absurd (omega arith))
  later (onward {v} {p} {q} d l o e g) x h =
      times_cases x p (run v q).looks (omega (arith, ap (times x) (looks e)))
      (λ z. rw z (record { visits = suc v; fewer = omega arith; shorter = omega arith; same = refl }))
      (λ k. let t = later g x k in record {
        visits = t.visits;
        fewer = omega (arith, t.fewer);
        shorter = omega (arith, t.shorter, ap length (looks e));
        same = t.same ∙ sym (answers e);
      })

  once : {v p : ℕ} → Goes v p → (run v p).answer ≢ refused 9 → (x : ℕ) → times x (run v p).looks ≤ 1
  unfolding times
  once (ended z e) a x = omega (arith, ap (times x) (looks e))
  once (astray d o e) a x = omega (arith, ap (times x) (looks e))
  once (met {v} {p} d l o e) a x = go (ℕ_discrete x p)
    where
      go : Dec (x ≡ p) → times x (run (suc v) p).looks ≤ 1
      go (yes z) = omega (arith, ap (times x) (looks e), ap (λ (y : ℕ). times y (p ∷ [])) z, times_head p [])
      go (no z) = omega (arith, ap (times x) (looks e), times_else x p [] z)
  once (onward {v} {p} {q} d l o e g) a x = go (ℕ_discrete x p) (dec_lt 0 (times p (run v q).looks)) (λ w. once g w x)
    where
      within : (run v q).answer ≢ refused 9
      within z = a (answers e ∙ z)

      round : 1 ≤ times p (run v q).looks → ⊥
      round h =
          let t = later g p h in
          let m = more (goes t.visits p) (λ z. within (sym t.same ∙ z)) (suc v) (omega (arith, t.fewer)) in
          omega (arith, t.shorter, ap length (looks e), ap length (looks m))

      go : Dec (x ≡ p) → Dec (0 < times p (run v q).looks) → ((run v q).answer ≢ refused 9 → times x (run v q).looks ≤ 1)
          → times x (run (suc v) p).looks ≤ 1
      go (yes z) (yes h) rest = absurd (round h)
      go (yes z) (no h) rest =
          omega (arith, ap (times x) (looks e), ap (λ (y : ℕ). times y (p ∷ (run v q).looks)) z, times_head p (run v q).looks)
      go (no z) h rest = omega (arith, ap (times x) (looks e), times_else x p (run v q).looks z, rest within)

-- The looks of the whole search, of any pair that a look is at exactly where it says here.
module _ (names : List ℕ) (hash key : ℕ) {look : ℕ → Look} {run : ℕ → ℕ → Search} (r : Runs (slots_of names) look run)
    (is : (p : ℕ) → look p ≡ here → pair_of names p ≡ pair hash key) (is-not : (p q : ℕ) → look p ≡ on q → pair_of names p ≢ pair hash key)
    (root : ℕ) where
  abbrev whole : Search
  whole = run (slots_of names) root

  stop : Stops r root 0 (slots_of names) root
  stop = stops r root (goes r (slots_of names) root) 0 start (omega arith)

  look_followed : (k : ℕ) → k < length whole.looks
      → Trail r root k (get_or whole.looks k null) × (get_or whole.looks k null ≢ null) × (get_or whole.looks k null < slots_of names)
  look_followed k h = rw zero-add at (shown r root (goes r (slots_of names) root) 0 start k h)

  -- A look after which a link was followed is not at the pair.
  passed : (k x : ℕ) → k < length whole.looks → Trail r root (suc k) x → pair_of names (get_or whole.looks k null) ≢ pair hash key
  passed k x h t =
      let b = before r root t k refl in
      is-not _ x (ap look (one r root (look_followed k h).0 b.1) ∙ b.2)

  module _ (F : ℕ → ℕ → Type 0) (to : (k p : ℕ) → Trail r root k p → F k p) (from : (k p : ℕ) → F k p → Trail r root k p) where
    pub looks_at : LooksAt names hash key F whole
    looks_at =
        record {
          followed = λ k h. to k _ (look_followed k h).0;
          inside = λ k h. ((look_followed k h).1, (look_followed k h).2);
          every = λ {k} {p} f d l h. every r root (from k p f) d l h;
          before_last = λ k h. passed k _ (omega arith) (look_followed (suc k) h).0;
          hit = λ slot e. hits slot e stop;
          no_hit = λ n k h. others n k h stop;
          miss = λ e. misses e stop;
          lost = λ e. loses e stop;
          most = most r (goes r (slots_of names) root);
          once = once r (goes r (slots_of names) root);
        }
      where
        hits : (slot : ℕ) → whole.answer ≡ given slot → Stops r root 0 (slots_of names) root
            → (k : ℕ) × (length whole.looks ≡ suc k) × (get_or whole.looks k null ≡ slot) × (pair_of names slot ≡ pair hash key)
        hits slot e (Stops.missed a t) = absurd (nothing-given (sym a ∙ e))
        hits slot e (Stops.hit a k m x h) = let z = given_is (sym a ∙ e) in (k, m, x ∙ z, rw z at (is _ h))
        hits slot e (Stops.lost a link t d o) = absurd (omega (arith, number (sym a ∙ e)))

        others : ((slot : ℕ) → whole.answer ≢ given slot) → (k : ℕ) → k < length whole.looks → Stops r root 0 (slots_of names) root
            → pair_of names (get_or whole.looks k null) ≢ pair hash key
        others n k h s = go (dec_lt (suc k) (length whole.looks)) s
          where
            go : Dec (suc k < length whole.looks) → Stops r root 0 (slots_of names) root
                → pair_of names (get_or whole.looks k null) ≢ pair hash key
            go (yes l) s = passed k _ h (look_followed (suc k) l).0
            go (no l) (Stops.missed a t) = let z : 0 + length whole.looks ≡ suc k = omega arith in passed k null h (rw z at t)
            go (no l) (Stops.hit {x} a i m y u) = absurd (n x a)
            go (no l) (Stops.lost a link t d o) = let z : 0 + length whole.looks ≡ suc k = omega arith in passed k link h (rw z at t)

        misses : whole.answer ≡ nothing → Stops r root 0 (slots_of names) root → F (length whole.looks) null
        misses e (Stops.missed a t) = to _ null (rw zero-add at t)
        misses e (Stops.hit a k m x h) = absurd (nothing-given (sym e ∙ a))
        misses e (Stops.lost a link t d o) = absurd (omega (arith, number (sym a ∙ e)))

        loses : whole.answer ≡ refused 9 → Stops r root 0 (slots_of names) root
            → (link : ℕ) × F (length whole.looks) link × (link ≢ null)
            × ((slots_of names ≤ link) ⊎ (slots_of names ≤ length whole.looks))
        loses e (Stops.missed a t) = absurd (omega (arith, number (sym a ∙ e)))
        loses e (Stops.hit a k m x h) = absurd (omega (arith, number (sym a ∙ e)))
        loses e (Stops.lost a link t d o) = (link, to _ link (rw zero-add at t), d, rw zero-add at o)
