-- Each pass from here, with the slots that are left, comes to what the pass from the start comes to: at null, with none left, and a slot
-- on.
use mathlib.Core.Path.{◌≡◌, ◌∙◌}
use mathlib.Core.Logic.{◌≢◌}
use mathlib.Core.Bool.{Bool, true, false}
use mathlib.Core.List.{List, []}
use Prim.Native.Nat.{ℕ, zero, suc, ◌+◌, ◌-◌, ◌<◌, ◌≤◌}
use native.Mathlib.Omega.{arith}
use borrow.Author.Tests.{eq-eqb, ne_eqb}
use mir.Val.{bool_byte}
use Rattle.slots.specs.Words.{null, pick, next, prev, cell, write}
use Rattle.redblack.specs.Links.{Links, lent_links}
use Rattle.set_rules.specs.Accepting.{is_home}
use Rattle.move_rules.specs.Passes.{home_count, first_home, halves_ended, threaded, plain_slot, plained, backed, joined, joined_from}

-- One step of those that are left, and none.
one_left : (m c : ℕ) → c < m → m - c ≡ suc (m - (c + 1))
one_left m c h = omega arith

none_left : (m c : ℕ) → m ≤ c → m - c ≡ 0
none_left m c h = omega arith

pub one_most : (b : Bool) → bool_byte b ≤ 1
one_most true = omega arith
one_most false = omega arith

module _ (names cells : List ℕ) (len i p : ℕ) {w : ℕ} where
  pub count-null : (v n : ℕ) → n + home_count v names cells len i p ≡ w → p ≡ null → n ≡ w
  unfolding home_count
  count-null zero n h e = omega (arith, h)
  count-null (suc v) n h e = let z : n + 0 ≡ w = rw (eq-eqb p null e) at h in omega arith

  pub count_spent : (m c n : ℕ) → n + home_count (m - c) names cells len i p ≡ w → m ≤ c → n ≡ w
  unfolding home_count
  count_spent m c n h e = let z : n + 0 ≡ w = rw (none_left m c e) at h in omega arith

  pub count_on : (m c n : ℕ) {q : ℕ} {b : Bool} → n + home_count (m - c) names cells len i p ≡ w → p ≢ null → c < m
      → b ≡ is_home names len i p
      → q ≡ cell cells p next
      → n + bool_byte b + home_count (m - (c + 1)) names cells len i q ≡ w
  unfolding home_count
  count_on m c n {q} {b} h d k e g = rw g (go b _ (rw (ne_eqb p null d, ← e) at (rw (one_left m c k) at h)))
    where
      go : (b : Bool) (r : ℕ) → n + (pick b 1 0 + r) ≡ w → n + bool_byte b + r ≡ w
      go true r f = omega (arith, f)
      go false r f = omega (arith, f)

  pub first_null : (v : ℕ) → first_home v names cells len i p ≡ w → p ≡ null → null ≡ w
  unfolding first_home
  first_null zero h e = h
  first_null (suc v) h e = rw (eq-eqb p null e) at h

  pub first_spent : (m c : ℕ) → first_home (m - c) names cells len i p ≡ w → m ≤ c → null ≡ w
  unfolding first_home
  first_spent m c h e = rw (none_left m c e) at h

  module _ (m c : ℕ) {b : Bool} (h : first_home (m - c) names cells len i p ≡ w) (d : p ≢ null) (k : c < m)
      (e : b ≡ is_home names len i p) where
    pub first_here : b ≡ true → p ≡ w
    unfolding first_home
    first_here f = rw (ne_eqb p null d, ← e, f) at (rw (one_left m c k) at h)

    pub first_on : {q : ℕ} → b ≡ false → q ≡ cell cells p next → first_home (m - (c + 1)) names cells len i q ≡ w
    unfolding first_home
    first_on f g = rw g (rw (ne_eqb p null d, ← e, f) at (rw (one_left m c k) at h))

-- The slot that was met last in a half.
module _ (names : List ℕ) (len i a b p : ℕ) {w : List ℕ} where
  pub thread_null : (v : ℕ) (cells : List ℕ) {made : List ℕ} → threaded v names len i cells a b p ≡ w → p ≡ null
      → made ≡ halves_ended cells a b
      → made ≡ w
  unfolding threaded
  thread_null zero cells h e f = f ∙ h
  thread_null (suc v) cells h e f = f ∙ rw (eq-eqb p null e) at h

  pub thread_spent : (m c : ℕ) (cells : List ℕ) {made : List ℕ} → threaded (m - c) names len i cells a b p ≡ w → m ≤ c
      → made ≡ halves_ended cells a b
      → made ≡ w
  unfolding threaded
  thread_spent m c cells h e f = f ∙ rw (none_left m c e) at h

  pub thread_on : (m c : ℕ) (cells : List ℕ) (t : Bool) {q last x y : ℕ} {made : List ℕ} → threaded (m - c) names len i cells a b p ≡ w
      → p ≢ null
      → c < m
      → q ≡ cell cells p next
      → t ≡ is_home names len i p
      → last ≡ pick t a b
      → made ≡ write cells last next p
      → x ≡ pick t p a
      → y ≡ pick t b p
      → threaded (m - (c + 1)) names len i made x y q ≡ w
  unfolding threaded
  thread_on m c cells true h d n e f g k l z = rw (k, g, l, z, e) (rw (ne_eqb p null d, ← f) at (rw (one_left m c n) at h))
  thread_on m c cells false h d n e f g k l z = rw (k, g, l, z, e) (rw (ne_eqb p null d, ← f) at (rw (one_left m c n) at h))

module _ (p : ℕ) {w : List ℕ} where
  pub plain-null : (v : ℕ) (cells : List ℕ) → plained v cells p ≡ w → p ≡ null → cells ≡ w
  unfolding plained
  plain-null zero cells h e = h
  plain-null (suc v) cells h e = rw (eq-eqb p null e) at h

  pub plain_spent : (m c : ℕ) (cells : List ℕ) → plained (m - c) cells p ≡ w → m ≤ c → cells ≡ w
  unfolding plained
  plain_spent m c cells h e = rw (none_left m c e) at h

  pub plain_on : (m c : ℕ) (cells : List ℕ) {q : ℕ} {made : List ℕ} → plained (m - c) cells p ≡ w → p ≢ null → c < m
      → q ≡ cell cells p next
      → made ≡ plain_slot cells p
      → plained (m - (c + 1)) made q ≡ w
  unfolding plained
  plain_on m c cells h d n e f = rw (f, e) (rw (ne_eqb p null d) at (rw (one_left m c n) at h))

  pub back_null : (v q : ℕ) (cells : List ℕ) → backed v cells q p ≡ w → p ≡ null → cells ≡ w
  unfolding backed
  back_null zero q cells h e = h
  back_null (suc v) q cells h e = rw (eq-eqb p null e) at h

  pub back_spent : (m c q : ℕ) (cells : List ℕ) → backed (m - c) cells q p ≡ w → m ≤ c → cells ≡ w
  unfolding backed
  back_spent m c q cells h e = rw (none_left m c e) at h

  pub back_on : (m c q : ℕ) (cells : List ℕ) {r : ℕ} {made : List ℕ} → backed (m - c) cells q p ≡ w → p ≢ null → c < m
      → r ≡ cell cells p next
      → made ≡ write cells p prev q
      → backed (m - (c + 1)) made p r ≡ w
  unfolding backed
  back_on m c q cells h d n e f = rw (f, e) (rw (ne_eqb p null d) at (rw (one_left m c n) at h))

module _ (names : List ℕ) (p : ℕ) {w : Links} where
  pub join_null : (v : ℕ) (s : Links) → joined_from v names s p ≡ w → p ≡ null → s ≡ w
  unfolding joined_from
  join_null zero s h e = h
  join_null (suc v) s h e = rw (eq-eqb p null e) at h

  pub join_spent : (m c : ℕ) (s : Links) → joined_from (m - c) names s p ≡ w → m ≤ c → s ≡ w
  unfolding joined_from
  join_spent m c s h e = rw (none_left m c e) at h

  pub join_on : (m c root : ℕ) (cells : List ℕ) {q : ℕ} {r : Links} → joined_from (m - c) names (lent_links cells root []) p ≡ w → p ≢ null
      → c < m
      → q ≡ cell cells p next
      → r ≡ joined names (lent_links cells root []) p
      → joined_from (m - (c + 1)) names r q ≡ w
  unfolding joined_from
  join_on m c root cells h d n e f = rw (f, e) (rw (ne_eqb p null d) at (rw (one_left m c n) at h))
