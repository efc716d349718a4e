-- Our search and our check are the source's, wherever ours are not lost.
-- Parts: a turn of the search, and the search; the asserts at a node are our tests; the first that fails, or what follows; our walk is the
-- walk of the source; an answer of the check says which walk it was.
use Prim.{Unit, tt}
use Rattle.std.proofs.Common.{◌≡◌, ℕ, zero, suc, ◌+◌, ◌-◌, Bool, true, false, not, ◌&&◌, ◌||◌, eqb, ltb, leb, ◌≢◌, List, refl, ap, ◌∙◌}
use Rattle.std.proofs.Common.{arith, ltb-false, ne_eqb}
use borrow.Author.Tests.{eqb-false}
use Rattle.slots.specs.Words.{null, pick, parent, left, right, prev, next, cell, name_of, hash_part, key_part}
use Rattle.slots.specs.Answers.{Value, Answer, none, some, given, nothing, refused}
use Rattle.tree_rules.specs.Find.{Look, here, on, decided, looked, slots_of, searched}
use Rattle.tree_rules.specs.Check.{points_back, is_child, left_hash, right_hash, red_slot, not_all_red, test, first_from, first_failing}
use Rattle.tree_rules.specs.Check.{links_in, Walk, passed, failed, strayed, onward, walked, walk_answer, checked}
use Rattle.tree_rules.specs.Source.{Wild, load, name, is-null, red_of, cmp}
use Rattle.tree_rules.specs.Source.{find_body, turn_of, FindRun, returned, running, ReturnsSame, find_tree_node}
use Rattle.tree_rules.specs.Source.{CheckRun, passes, fails, ◌⨾◌, assert, when, check_invariants}

-- A turn of the search: one of two different keys is the greater, so `unreachable!` is not reached.
pub body_is : (w : Wild) (names cells : List ℕ) (p hash key : ℕ) → eqb p null ≡ false
    → find_body w names cells p hash key ≡ turn_of p (looked names cells p hash key)
unfolding find_body cmp looked decided
body_is w names cells p hash key solid = go (ltb hash at) refl (ltb at hash) refl (eqb own key) refl (eqb l null) refl (eqb r null) refl
    (ltb key own) refl (ltb own key) refl
  where
    at : ℕ
    at = name_of names p hash_part

    own : ℕ
    own = name_of names p key_part

    l : ℕ
    l = cell cells p left

    r : ℕ
    r = cell cells p right

    go : (a : Bool) → ltb hash at ≡ a → (b : Bool) → ltb at hash ≡ b → (c : Bool) → eqb own key ≡ c → (d : Bool) → eqb l null ≡ d
        → (e : Bool) → eqb r null ≡ e → (f : Bool) → ltb key own ≡ f → (g : Bool) → ltb own key ≡ g
        → find_body w names cells p hash key ≡ turn_of p (looked names cells p hash key)
    go true a b z c w d y e x f u g v = rw (solid, a)
    go false a true b c w d y e x f u g v = rw (solid, a, b)
    go false a false b true c d y e x f u g v = rw (solid, a, b, c)
    go false a false b false c true d e x f u g v = rw (solid, a, b, c, d)
    go false a false b false c false d true e f u g v = rw (solid, a, b, c, d, e)
    go false a false b false c false d false e true f g v = rw (solid, a, b, c, d, e, f)
    go false a false b false c false d false e false f true g = rw (solid, a, b, c, d, e, f, g)
    go false a false b false c false d false e false f false g =
        absurd (eqb-false own key c (omega (arith, ltb-false key own f, ltb-false own key g)))

value_of : Answer → Value
value_of a = a.value

pub ends_is : ReturnsSame nothing (returned null)
unfolding value_of
ends_is =
    record {
      at = λ i e. (let f : none ≡ some i = ap value_of e in let z : ◌≡◌ {A = ℕ} 0 1 = cc in absurd (omega arith));
      none = λ e. refl;
    }

pub here_is : (p : ℕ) → ReturnsSame (given p) (returned p)
unfolding value_of
here_is p =
    record {
      at = λ i e. (let f : some p ≡ some i = ap value_of e in let z : p ≡ i = cc in ap returned z);
      none = λ e. (let f : some p ≡ none = ap value_of e in let z : ◌≡◌ {A = ℕ} 0 1 = cc in absurd (omega arith));
    }

pub lost_is : (o : FindRun) → ReturnsSame (refused 9) o
lost_is o =
    record {
      at = λ i e. (let f : ◌≡◌ {A = ℕ} 9 0 = ap (λ (a : Answer). a.number) e in absurd (omega arith));
      none = λ e. (let f : ◌≡◌ {A = ℕ} 9 0 = ap (λ (a : Answer). a.number) e in absurd (omega arith));
    }

pub search_is : (w : Wild) (names cells : List ℕ) (visits p hash key : ℕ)
    → ReturnsSame (searched names cells visits p hash key).answer (find_tree_node w names cells visits p hash key)
unfolding searched find_tree_node
search_is w names cells zero p hash key = go (eqb p null) refl
  where
    go : (b : Bool) → eqb p null ≡ b
        → ReturnsSame (searched names cells zero p hash key).answer (find_tree_node w names cells zero p hash key)
    go true e = rw e ends_is
    go false e = rw e (lost_is running)
search_is w names cells (suc visits) p hash key =
    go (eqb p null) refl (leb (slots_of names) p) refl (looked names cells p hash key) refl (λ q. search_is w names cells visits q hash key)
  where
    go : (b : Bool) → eqb p null ≡ b → (c : Bool) → leb (slots_of names) p ≡ c → (l : Look) → looked names cells p hash key ≡ l
        → ((q : ℕ) → ReturnsSame (searched names cells visits q hash key).answer (find_tree_node w names cells visits q hash key))
        → ReturnsSame (searched names cells (suc visits) p hash key).answer (find_tree_node w names cells (suc visits) p hash key)
    go true e c f l g more = rw e ends_is
    go false e true f l g more = rw (e, f) (lost_is _)
    go false e false f here g more = rw (e, f, body_is w names cells p hash key e, g) (here_is p)
    go false e false f (on q) g more = rw (e, f, body_is w names cells p hash key e, g) (more q)

-- The asserts at a node, each with its `if`: what the tests of ours by the same numbers say.
assert-is : (a t : ℕ) (c : Bool) → assert a t c ≡ pick c passes (fails a t)
assert-is a t true = refl
assert-is a t false = refl

either_is : (a t : ℕ) (c d : Bool) → assert a t (c || d) ≡ pick (pick c true d) passes (fails a t)
either_is a t true d = refl
either_is a t false true = refl
either_is a t false false = refl

both_is : (a e t : ℕ) (c d : Bool) → assert a t c ⨾ assert e t d ≡ pick c (pick d passes (fails e t)) (fails a t)
both_is a e t true true = refl
both_is a e t true false = refl
both_is a e t false d = refl

red_is : (a t : ℕ) (r x y : Bool)
    → when (r && true && true) (assert a t (not (x && y))) ≡ pick (pick r (pick x (pick y false true) true) true) passes (fails a t)
red_is a t false x y = refl
red_is a t true false y = refl
red_is a t true true true = refl
red_is a t true true false = refl

off_left : (r q : Bool) (c d : CheckRun) → when (r && false && q) c ≡ pick (pick r true true) passes d
off_left true q c d = refl
off_left false q c d = refl

off_right : (r : Bool) (c d : CheckRun) → when (r && true && false) c ≡ pick (pick r true true) passes d
off_right true c d = refl
off_right false c d = refl

module _ (w : Wild) (names cells : List ℕ) (t : ℕ) where
  if_assert : (a b f : ℕ)
      → when (not (is-null b)) (assert a t (eqb (load w names cells f b) t))
      ≡ pick (pick (is-null b) true (eqb (cell cells b f) t)) passes (fails a t)
  if_assert a b f = go (eqb b null) refl
    where
      go : (c : Bool) → eqb b null ≡ c
          → when (not (is-null b)) (assert a t (eqb (load w names cells f b) t))
          ≡ pick (pick (is-null b) true (eqb (cell cells b f) t)) passes (fails a t)
      go true e = rw e
      go false e = rw e (assert-is a t (eqb (cell cells b f) t))

  if_either : (a b f g : ℕ)
      → when (not (is-null b)) (assert a t (eqb (load w names cells f b) t || eqb (load w names cells g b) t))
      ≡ pick (pick (is-null b) true (pick (eqb (cell cells b f) t) true (eqb (cell cells b g) t))) passes (fails a t)
  if_either a b f g = go (eqb b null) refl
    where
      go : (c : Bool) → eqb b null ≡ c
          → when (not (is-null b)) (assert a t (eqb (load w names cells f b) t || eqb (load w names cells g b) t))
          ≡ pick (pick (is-null b) true (pick (eqb (cell cells b f) t) true (eqb (cell cells b g) t))) passes (fails a t)
      go true e = rw e
      go false e = rw e (either_is a t (eqb (cell cells b f) t) (eqb (cell cells b g) t))

  if_left : (b : ℕ)
      → when (not (is-null b))
      (assert 4 t (eqb (load w names cells parent b) t) ⨾ assert 5 t (leb (name w names cells hash_part b) (name_of names t hash_part)))
      ≡ pick (pick (is-null b) true (eqb (cell cells b parent) t))
      (pick (pick (is-null b) true (leb (name_of names b hash_part) (name_of names t hash_part))) passes (fails 5 t)) (fails 4 t)
  if_left b = go (eqb b null) refl
    where
      go : (c : Bool) → eqb b null ≡ c
          → when (not (is-null b))
          (assert 4 t (eqb (load w names cells parent b) t) ⨾ assert 5 t (leb (name w names cells hash_part b) (name_of names t hash_part)))
          ≡ pick (pick (is-null b) true (eqb (cell cells b parent) t))
          (pick (pick (is-null b) true (leb (name_of names b hash_part) (name_of names t hash_part))) passes (fails 5 t)) (fails 4 t)
      go true e = rw e
      go false e = rw e (both_is 4 5 t (eqb (cell cells b parent) t) (leb (name_of names b hash_part) (name_of names t hash_part)))

  if_right : (b : ℕ)
      → when (not (is-null b))
      (assert 6 t (eqb (load w names cells parent b) t) ⨾ assert 7 t (leb (name_of names t hash_part) (name w names cells hash_part b)))
      ≡ pick (pick (is-null b) true (eqb (cell cells b parent) t))
      (pick (pick (is-null b) true (leb (name_of names t hash_part) (name_of names b hash_part))) passes (fails 7 t)) (fails 6 t)
  if_right b = go (eqb b null) refl
    where
      go : (c : Bool) → eqb b null ≡ c
          → when (not (is-null b))
          (assert 6 t (eqb (load w names cells parent b) t) ⨾ assert 7 t (leb (name_of names t hash_part) (name w names cells hash_part b)))
          ≡ pick (pick (is-null b) true (eqb (cell cells b parent) t))
          (pick (pick (is-null b) true (leb (name_of names t hash_part) (name_of names b hash_part))) passes (fails 7 t)) (fails 6 t)
      go true e = rw e
      go false e = rw e (both_is 6 7 t (eqb (cell cells b parent) t) (leb (name_of names t hash_part) (name_of names b hash_part)))

  if_red : (a l r : ℕ)
      → when (red_slot cells t && not (is-null l) && not (is-null r)) (assert a t (not (red_of w names cells l && red_of w names cells r)))
      ≡ pick (pick (red_slot cells t)
      (pick (eqb l null) true (pick (eqb r null) true (pick (red_slot cells l) (pick (red_slot cells r) false true) true))) true) passes
      (fails a t)
  if_red a l r = go (eqb l null) refl (eqb r null) refl
    where
      go : (b : Bool) → eqb l null ≡ b → (c : Bool) → eqb r null ≡ c
          → when (red_slot cells t && not (is-null l) && not (is-null r))
          (assert a t (not (red_of w names cells l && red_of w names cells r)))
          ≡ pick (pick (red_slot cells t)
          (pick (eqb l null) true (pick (eqb r null) true (pick (red_slot cells l) (pick (red_slot cells r) false true) true))) true) passes
          (fails a t)
      go true e c f = rw e (off_left (red_slot cells t) (not (is-null r)) _ (fails a t))
      go false e true f = rw (e, f) (off_right (red_slot cells t) _ (fails a t))
      go false e false f = rw (e, f) (red_is a t (red_slot cells t) (red_slot cells l) (red_slot cells r))

-- The first that fails, or what follows.
told : ℕ → ℕ → CheckRun → CheckRun
told first t rest = pick (eqb first 0) rest (fails first t)

in_turn : (t : ℕ) (rest : CheckRun) (b1 b2 b3 b4 b5 b6 b7 b8 : Bool)
    → pick b1 passes (fails 1 t) ⨾ pick b2 passes (fails 2 t) ⨾ pick b3 passes (fails 3 t)
    ⨾ pick b4 (pick b5 passes (fails 5 t)) (fails 4 t) ⨾ pick b6 (pick b7 passes (fails 7 t)) (fails 6 t)
    ⨾ pick b8 passes (fails 8 t) ⨾ rest
    ≡ told (pick b1 (pick b2 (pick b3 (pick b4 (pick b5 (pick b6 (pick b7 (pick b8 0 8) 7) 6) 5) 4) 3) 2) 1) t rest
unfolding told
in_turn t rest false b2 b3 b4 b5 b6 b7 b8 = refl
in_turn t rest true false b3 b4 b5 b6 b7 b8 = refl
in_turn t rest true true false b4 b5 b6 b7 b8 = refl
in_turn t rest true true true false b5 b6 b7 b8 = refl
in_turn t rest true true true true false b6 b7 b8 = refl
in_turn t rest true true true true true false b7 b8 = refl
in_turn t rest true true true true true true false b8 = refl
in_turn t rest true true true true true true true false = refl
in_turn t rest true true true true true true true true = refl

node_is : (w : Wild) (names cells : List ℕ) (deep t : ℕ) → eqb t null ≡ false
    → check_invariants w names cells (suc deep) t
    ≡ told (first_failing names cells t) t
    (when (not (is-null (cell cells t left))) (check_invariants w names cells deep (cell cells t left))
    ⨾ when (not (is-null (cell cells t right))) (check_invariants w names cells deep (cell cells t right)))
unfolding check_invariants first_failing first_from test points_back is_child left_hash right_hash not_all_red
node_is w names cells deep t solid =
    let l = cell cells t left in
    let r = cell cells t right in
    rw (
      solid,
      if_assert w names cells t 1 (cell cells t prev) next,
      if_assert w names cells t 2 (cell cells t next) prev,
      if_either w names cells t 3 (cell cells t parent) left right,
      if_left w names cells t l,
      if_right w names cells t r,
      if_red w names cells t 8 l r,
    )
    (in_turn t
    (when (not (is-null l)) (check_invariants w names cells deep l) ⨾ when (not (is-null r)) (check_invariants w names cells deep r))
    (test names cells 1 t) (test names cells 2 t) (test names cells 3 t) (test names cells 4 t) (test names cells 5 t)
    (test names cells 6 t) (test names cells 7 t) (test names cells 8 t))

-- What a walk of ours says of the source's.
abbrev pub IsWalk : Walk → CheckRun → Type 0
IsWalk (passed v) c = c ≡ passes
IsWalk (failed a t) c = c ≡ fails a t
IsWalk strayed c = Unit {0}

onward-is : (w : Walk) (rest : ℕ → Walk) (c d : CheckRun) → IsWalk w c → ((v : ℕ) → IsWalk (rest v) d) → IsWalk (onward w rest) (c ⨾ d)
onward-is (passed v) rest c d e f = rw e (f v)
onward-is (failed a t) rest c d e f = rw e
onward-is strayed rest c d e f = tt

pub walk_is : (w : Wild) (deep : ℕ) (names cells : List ℕ) (t v : ℕ)
    → IsWalk (walked deep names cells t v) (when (not (is-null t)) (check_invariants w names cells deep t))
unfolding walked told
walk_is w zero names cells t v = go (eqb t null) refl
  where
    go : (b : Bool) → eqb t null ≡ b
        → IsWalk (walked zero names cells t v) (when (not (is-null t)) (check_invariants w names cells zero t))
    go true e = rw e
    go false e = rw e tt
walk_is w (suc deep) names cells t v =
    go (eqb t null) refl (leb (slots_of names) t) refl (eqb v 0) refl (links_in (slots_of names) cells t) refl
    (eqb (first_failing names cells t) 0) refl
    (onward-is (walked deep names cells (cell cells t left) (v - 1)) (λ (rest : ℕ). walked deep names cells (cell cells t right) rest) _ _
    (walk_is w deep names cells (cell cells t left) (v - 1)) (λ rest. walk_is w deep names cells (cell cells t right) rest))
  where
    go : (b : Bool) → eqb t null ≡ b → (c : Bool) → leb (slots_of names) t ≡ c → (d : Bool) → eqb v 0 ≡ d
        → (f : Bool) → links_in (slots_of names) cells t ≡ f → (g : Bool) → eqb (first_failing names cells t) 0 ≡ g
        → IsWalk (onward (walked deep names cells (cell cells t left) (v - 1)) (λ rest. walked deep names cells (cell cells t right) rest))
        (when (not (is-null (cell cells t left))) (check_invariants w names cells deep (cell cells t left))
        ⨾ when (not (is-null (cell cells t right))) (check_invariants w names cells deep (cell cells t right)))
        → IsWalk (walked (suc deep) names cells t v) (when (not (is-null t)) (check_invariants w names cells (suc deep) t))
    go true b c w d x f y g z k = rw b
    go false b true c d x f y g z k = rw (b, c) tt
    go false b false c true d f y g z k = rw (b, c, d) tt
    go false b false c false d false f g z k = rw (b, c, d, f) tt
    go false b false c false d true f true g k = rw (b, c, d, f, node_is w names cells deep t b, told, g) k
    go false b false c false d true f false g k = rw (b, c, d, f, node_is w names cells deep t b, told, g)

pub record IsChecked (a : Answer) (c : CheckRun) : Type 0 where
  pub passing : a ≡ nothing → c ≡ passes
  pub failing : (k i : ℕ) → a ≡ record { number = 100 + k; value = some i } → c ≡ fails k i

-- An answer of the check says which walk it was.
pub answer_is : (w : Wild) (names cells : List ℕ) (t : ℕ) → t ≢ null
    → IsChecked (checked names cells t) (check_invariants w names cells (slots_of names) t)
unfolding checked
answer_is w names cells t d =
    go (walked (slots_of names) names cells t (slots_of names)) _
    (rw (ne_eqb t null d) at (walk_is w (slots_of names) names cells t (slots_of names)))
  where
    go : (w : Walk) (c : CheckRun) → IsWalk w c → IsChecked (walk_answer w) c
    go (passed v) c e =
        record {
          passing = λ z. e;
          failing = λ a i z. (let f : 0 ≡ 100 + a = ap (λ (x : Answer). x.number) z in absurd (omega arith));
        }
    go (failed b j) c e =
        record {
          passing = λ z. (let f : 100 + b ≡ 0 = ap (λ (x : Answer). x.number) z in absurd (omega arith));
          failing = λ a i z. (let f : 100 + b ≡ 100 + a = ap (λ (x : Answer). x.number) z in
              let g : some j ≡ some i = ap (λ (x : Answer). x.value) z in let u : b ≡ a = omega arith in let v : j ≡ i = cc in e ∙ cc);
        }
    go strayed c e =
        record {
          passing = λ z. (let f : ◌≡◌ {A = ℕ} 9 0 = ap (λ (x : Answer). x.number) z in absurd (omega arith));
          failing = λ a i z. (let f : 9 ≡ 100 + a = ap (λ (x : Answer). x.number) z in absurd (omega arith));
        }
