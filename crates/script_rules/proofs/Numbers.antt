-- A number is read exactly from its decimal digits: what is read has this one text, and this text is read.
use mathlib.Core.Path.{◌≡◌, refl, ap, sym, ◌∙◌}
use mathlib.Core.Logic.{◌≢◌, ◌⊎◌, inl, inr}
use mathlib.Core.Bool.{Bool, true, false}
use mathlib.Core.List.{List, [], ◌∷◌, ◌++◌, append_assoc, append-nil}
use Prim.Native.Nat.{ℕ, zero, suc, ◌+◌, ◌-◌, ◌*◌, ◌/◌, ◌%◌, ◌^◌, ◌<◌, ◌≤◌}
use native.Mathlib.Nat.{pow-suc}
use native.Mathlib.Decide.{dec_lt}
use native.Mathlib.Omega.{arith}
use lib.ListN.{length}
use lib.Dec.{eqb, leb}
use borrow.Author.Tests.{le-leb, leb-true, lt-ltb, le-ltb, eqb-true, eqb-false, ne_eqb}
use Rattle.slots.specs.Words.{pick}
use Rattle.index_rules.proofs.Fit.{both}
use Rattle.script_rules.specs.Text as Text
use Rattle.script_rules.specs.Claims.{Decimals}
use Rattle.script_rules.specs.Text.{worth, digits, decimal, read, unread, is_digit, read_on, read_number}
use Rattle.script_rules.proofs.Reading.{digit_in}

-- Which way a test went.
pub picked : {A : Type 0} (t : Bool) {a b c : A} → pick t a b ≡ c → ((t ≡ true) × (a ≡ c)) ⊎ ((t ≡ false) × (b ≡ c))
picked true e = inl (refl, e)
picked false e = inr (refl, e)

digit_is : (b : ℕ) → is_digit b ≡ true → (48 ≤ b) × (b ≤ 57)
digit_is b e = let h = both (leb 48 b) (leb b 57) e in (leb-true _ _ h.0, leb-true _ _ h.1)

-- No digit stands at the front.
pub data Stops : List ℕ → Type 0 where
  ended : Stops []
  other : {b : ℕ} {l : List ℕ} → is_digit b ≡ false → Stops (b ∷ l)

pub on_stops : (most v : ℕ) {r : List ℕ} → Stops r → read_on most v r ≡ read v r
unfolding read_on
on_stops most v ended = refl
on_stops most v (other d) = rw d

-- One digit more.
digits_on : (k v d : ℕ) → 0 < v → d < 10 → digits (suc k) (10 * v + d) ≡ digits k v ++ ((48 + d) ∷ [])
unfolding digits
digits_on k v d h g =
    let q : (10 * v + d) / 10 ≡ v = omega arith in
    let r : (10 * v + d) % 10 ≡ d = omega arith in
    simp (le-ltb (10 * v + d) 10 (omega arith), q, r)

-- The digits s that were read on after the value v, up to the value x and the bytes r.
record Digits (most v : ℕ) (l : List ℕ) (x : ℕ) (r : List ℕ) : Type 0 where
  s : List ℕ
  whole : l ≡ s ++ r
  text : (j : ℕ) → 0 < v → digits (length s + j) x ≡ digits j v ++ s
  small : (j : ℕ) → v < 10 ^ j → x < 10 ^ (length s + j)
  bound : v ≤ most → x ≤ most
  stops : Stops r

number_is : {v x : ℕ} {l r : List ℕ} → read v l ≡ read x r → v ≡ x
number_is e = cc

rest_is : {v x : ℕ} {l r : List ℕ} → read v l ≡ read x r → l ≡ r
rest_is e = cc

unread_not : {A : Type 0} {x : ℕ} {r : List ℕ} → unread ≡ read x r → A
unread_not e = let z : ◌≡◌ {A = ℕ} 0 1 = cc in absurd (omega arith)

stopped : (most v : ℕ) {x : ℕ} {l r : List ℕ} → Stops l → read v l ≡ read x r → Digits most v l x r
stopped most v {x} {l} {r} st e = record {
  s = [];
  whole = rest_is e;
  text = λ j h. rw (← number_is e) (rw append-nil (ap (λ (m : ℕ). digits m v) (omega arith)));
  small = λ j h. rw (← number_is e) (rw (zeroes j) h);
  bound = λ h. rw (← number_is e) h;
  stops = rw (← rest_is e) st;
}
  where
    zeroes : (j : ℕ) → 0 + j ≡ j
    zeroes j = omega arith

on_read : (most v : ℕ) (l : List ℕ) {x : ℕ} {r : List ℕ} → 9 ≤ most → read_on most v l ≡ read x r → Digits most v l x r
unfolding read_on
on_read most v [] n e = stopped most v ended e
on_read most v (b ∷ l) {x} {r} n e = go (λ f. on_read most (10 * v + (b - 48)) l n f) (picked (is_digit b) e)
  where
    more : 48 ≤ b → b ≤ 57 → v ≤ (most - (b - 48)) / 10 → Digits most (10 * v + (b - 48)) l x r → Digits most v (b ∷ l) x r
    more low high w d = record {
      s = b ∷ d.s;
      whole = ap (λ (m : List ℕ). b ∷ m) d.whole;
      text = λ j h.
          let one : suc (length d.s) + j ≡ length d.s + suc j = omega arith in
          let byte : 48 + (b - 48) ≡ b = omega arith in
          rw one (d.text (suc j) (omega arith) ∙ rw (digits_on j v (b - 48) h (omega arith), append_assoc, byte));
      small = λ j h.
          let one : suc (length d.s) + j ≡ length d.s + suc j = omega arith in
          rw one (d.small (suc j) (rw (pow-suc 10 j) (omega arith)));
      bound = λ h. d.bound (omega arith);
      stops = d.stops;
    }

    wide : (read_on most (10 * v + (b - 48)) l ≡ read x r → Digits most (10 * v + (b - 48)) l x r) → 48 ≤ b → b ≤ 57
        → ((leb v ((most - (b - 48)) / 10) ≡ true) × (read_on most (10 * v + (b - 48)) l ≡ read x r))
        ⊎ ((leb v ((most - (b - 48)) / 10) ≡ false) × (unread ≡ read x r))
        → Digits most v (b ∷ l) x r
    wide again low high (inl (w, f)) = more low high (leb-true _ _ w) (again f)
    wide again low high (inr (w, f)) = unread_not f

    go : (read_on most (10 * v + (b - 48)) l ≡ read x r → Digits most (10 * v + (b - 48)) l x r)
        → ((is_digit b ≡ true) × (pick (leb v ((most - (b - 48)) / 10)) (read_on most (10 * v + (b - 48)) l) unread ≡ read x r))
        ⊎ ((is_digit b ≡ false) × (read v (b ∷ l) ≡ read x r))
        → Digits most v (b ∷ l) x r
    go again (inl (d, f)) = wide again (digit_is b d).0 (digit_is b d).1 (picked (leb v ((most - (b - 48)) / 10)) f)
    go again (inr (d, f)) = stopped most v (other d) f

-- Digits enough: more of them change nothing.
enough : (k m x : ℕ) → x < 10 ^ suc k → x < 10 ^ suc m → digits (suc k) x ≡ digits (suc m) x
unfolding digits
enough zero m x h g = let l : x < 10 = h in simp (lt-ltb x 10 l)
enough (suc k) zero x h g = let l : x < 10 = g in simp (lt-ltb x 10 l)
enough (suc k) (suc m) x h g = go (enough k m (x / 10)) (dec_lt x 10)
  where
    go : (x / 10 < 10 ^ suc k → x / 10 < 10 ^ suc m → digits (suc k) (x / 10) ≡ digits (suc m) (x / 10)) → Dec (x < 10)
        → digits (suc (suc k)) x ≡ digits (suc (suc m)) x
    go again (yes l) = simp (lt-ltb x 10 l)
    go again (no n) =
        let h' : x < 10 ^ suc k * 10 = rw (pow-suc 10 (suc k)) at h in
        let g' : x < 10 ^ suc m * 10 = rw (pow-suc 10 (suc m)) at g in
        simp (le-ltb x 10 (omega arith)) (ap (λ (l : List ℕ). l ++ ((48 + x % 10) ∷ [])) (again (omega arith) (omega arith)))

-- What is read: this number's digits stood there, and it is not above `most`.
pub record Written (most : ℕ) (l : List ℕ) (x : ℕ) (r : List ℕ) : Type 0 where
  pub text : l ≡ decimal x ++ r
  pub bound : x ≤ most

pub number_read : (most : ℕ) (l : List ℕ) {x : ℕ} {r : List ℕ} → 9 ≤ most → most < 10 ^ 20 → read_number most l ≡ read x r
    → Written most l x r
unfolding read_number digits
number_read most [] n g e = unread_not e
number_read most (b ∷ l) {x} {r} n g e = go (picked (eqb b 48) e)
  where
    nonzero : 48 < b → b ≤ 57 → Digits most (b - 48) l x r → Written most (b ∷ l) x r
    nonzero low high d =
        let top : x < 10 ^ 20 = lt_trans (d.bound (omega arith)) in
        let one : length d.s + 1 ≡ suc (length d.s) = omega arith in
        let tall : x < 10 ^ suc (length d.s) = rw one at (d.small 1 (omega arith)) in
        let first : digits 1 (b - 48) ≡ b ∷ [] = simp (lt-ltb (b - 48) 10 (omega arith)) (ap (λ (c : ℕ). c ∷ []) (omega arith)) in
        let written : digits (suc (length d.s)) x ≡ b ∷ d.s = rw one at (d.text 1 (omega arith)) ∙ rw first in
        record {
          text = rw (← enough (length d.s) 19 x tall top, written) (ap (λ (m : List ℕ). b ∷ m) d.whole);
          bound = d.bound (omega arith);
        }
      where
        lt_trans : x ≤ most → x < 10 ^ 20
        lt_trans h = omega arith

    digit : b ≢ 48 → ((is_digit b ≡ true) × (read_on most (b - 48) l ≡ read x r)) ⊎ ((is_digit b ≡ false) × (unread ≡ read x r))
        → Written most (b ∷ l) x r
    digit ne (inl (d, f)) = nonzero (omega (arith, (digit_is b d).0)) (digit_is b d).1 (on_read most (b - 48) l n f)
    digit ne (inr (d, f)) = unread_not f

    go : ((eqb b 48 ≡ true) × (read 0 l ≡ read x r))
        ⊎ ((eqb b 48 ≡ false) × (pick (is_digit b) (read_on most (b - 48) l) unread ≡ read x r))
        → Written most (b ∷ l) x r
    go (inl (z, f)) =
        record { text = rw (← number_is f, ← rest_is f) (ap (λ (c : ℕ). c ∷ l) (eqb-true _ _ z)); bound = rw (← number_is f) (omega arith) }
    go (inr (z, f)) = digit (eqb-false _ _ z) (picked (is_digit b) f)

on_digit : (most v d : ℕ) (l : List ℕ) → d < 10 → 10 * v + d ≤ most → read_on most v ((48 + d) ∷ l) ≡ read_on most (10 * v + d) l
unfolding read_on
on_digit most v d l g w =
    let e : 48 + d - 48 ≡ d = omega arith in
    simp (digit_in (48 + d) (omega arith) (omega arith), e, le-leb v ((most - d) / 10) (omega arith))

-- What is written is read: the digits of x take the value from 0 to x.
on_written : (most k x : ℕ) (r : List ℕ) → x < 10 ^ k → 0 < x → x ≤ most → read_on most 0 (digits k x ++ r) ≡ read_on most x r
unfolding digits
on_written most zero x r h p b = absurd (omega arith)
on_written most (suc k) x r h p b = go (λ l. on_written most k (x / 10) l) (dec_lt x 10)
  where
    go : ((l : List ℕ) → x / 10 < 10 ^ k → 0 < x / 10 → x / 10 ≤ most → read_on most 0 (digits k (x / 10) ++ l) ≡ read_on most (x / 10) l)
        → Dec (x < 10) → read_on most 0 (digits (suc k) x ++ r) ≡ read_on most x r
    go again (yes l) =
        let z : 10 * 0 + x ≡ x = omega arith in
        simp (lt-ltb _ _ l) (on_digit most 0 x r l (omega arith) ∙ ap (λ (v : ℕ). read_on most v r) z)
    go again (no n) =
        let h' : x < 10 ^ k * 10 = rw (pow-suc 10 k) at h in
        let back : 10 * (x / 10) + x % 10 ≡ x = omega arith in
        simp (le-ltb x 10 (omega arith), append_assoc)
        (again ((48 + x % 10) ∷ r) (omega arith) (omega arith) (omega arith) ∙ on_digit most (x / 10) (x % 10) r (omega arith) (omega arith)
        ∙ ap (λ (v : ℕ). read_on most v r) back)

-- The first digit of a number above 0 is not 0.
record First (l : List ℕ) : Type 0 where
  byte : ℕ
  after : List ℕ
  is : l ≡ byte ∷ after
  low : 48 < byte
  high : byte ≤ 57

first_digit : (k x : ℕ) → x < 10 ^ k → 0 < x → First (digits k x)
unfolding digits
first_digit zero x h p = absurd (omega arith)
first_digit (suc k) x h p = go (first_digit k (x / 10)) (dec_lt x 10)
  where
    go : (x / 10 < 10 ^ k → 0 < x / 10 → First (digits k (x / 10))) → Dec (x < 10) → First (digits (suc k) x)
    go again (yes l) = record { byte = 48 + x; after = []; is = simp (lt-ltb _ _ l); low = omega arith; high = omega arith }
    go again (no n) =
        let h' : x < 10 ^ k * 10 = rw (pow-suc 10 k) at h in
        let f = again (omega arith) (omega arith) in
        record {
          byte = f.byte;
          after = f.after ++ ((48 + x % 10) ∷ []);
          is = simp (le-ltb x 10 (omega arith)) (rw f.is);
          low = f.low;
          high = f.high;
        }

opened : (most b : ℕ) (l : List ℕ) → 48 < b → b ≤ 57 → read_number most (b ∷ l) ≡ read_on most 0 (b ∷ l)
unfolding read_on read_number
opened most b l low high =
    let z : 10 * 0 + (b - 48) ≡ b - 48 = omega arith in
    simp (ne_eqb b 48 (omega arith), digit_in b (omega arith) high, le-leb 0 ((most - (b - 48)) / 10) (omega arith), z)

pub number_written : (most x : ℕ) {r : List ℕ} → x ≤ most → most < 10 ^ 20 → Stops r → read_number most (decimal x ++ r) ≡ read x r
unfolding read_number digits
number_written most zero {r} h g st = refl
number_written most (suc x) {r} h g st =
    let small : suc x < 10 ^ 20 = omega arith in
    let f = first_digit 20 (suc x) small (omega arith) in
    let all = on_written most 20 (suc x) r small (omega arith) h in
    ap (λ (l : List ℕ). read_number most (l ++ r)) f.is ∙ opened most f.byte (f.after ++ r) f.low f.high
    ∙ sym (ap (λ (l : List ℕ). read_on most 0 (l ++ r)) f.is) ∙ all ∙ on_stops most (suc x) st

-- The digits are digits, and are worth the number.
digits_append : {a b : List ℕ} → Text.Digits a → Text.Digits b → Text.Digits (a ++ b)
digits_append Text.none e = e
digits_append (Text.digit l h d) e = Text.digit l h (digits_append d e)

digits-only : (k x : ℕ) → Text.Digits (digits k x)
unfolding digits
digits-only zero x = Text.none
digits-only (suc k) x = go (dec_lt x 10) (digits-only k (x / 10))
  where
    go : Dec (x < 10) → Text.Digits (digits k (x / 10)) → Text.Digits (digits (suc k) x)
    go (yes l) d = rw (lt-ltb x 10 l) (Text.digit {b = 48 + x} (omega arith) (omega arith) Text.none)
    go (no n) d = rw (le-ltb x 10 (omega arith)) (digits_append d (Text.digit {b = 48 + x % 10} (omega arith) (omega arith) Text.none))

worth-digits : (k x : ℕ) (r : List ℕ) → x < 10 ^ k → worth 0 (digits k x ++ r) ≡ worth x r
unfolding digits worth
worth-digits zero x r h = ap (λ (v : ℕ). worth v r) (omega arith)
worth-digits (suc k) x r h = go (dec_lt x 10) (λ l. worth-digits k (x / 10) l)
  where
    go : Dec (x < 10) → ((l : List ℕ) → x / 10 < 10 ^ k → worth 0 (digits k (x / 10) ++ l) ≡ worth (x / 10) l)
        → worth 0 (digits (suc k) x ++ r) ≡ worth x r
    go (yes l) again = let z : 10 * 0 + (48 + x - 48) ≡ x = omega arith in rw (lt-ltb x 10 l) (ap (λ (v : ℕ). worth v r) z)
    go (no n) again =
        let h' : x < 10 ^ k * 10 = rw (pow-suc 10 k) at h in
        let z : 10 * (x / 10) + (48 + x % 10 - 48) ≡ x = omega arith in
        rw (le-ltb x 10 (omega arith), append_assoc) (again ((48 + x % 10) ∷ r) (omega arith) ∙ ap (λ (v : ℕ). worth v r) z)

head_is : {a b : ℕ} {l m : List ℕ} → a ∷ l ≡ b ∷ m → a ≡ b
head_is e = cc

pub decimal_claims : (x : ℕ) → Decimals x
unfolding digits worth
decimal_claims x = record {
  digits = digits-only 20 x;
  value = λ h. sym (ap (worth 0) (append-nil (decimal x))) ∙ worth-digits 20 x [] h;
  leading = λ h p l e. let f = first_digit 20 x h p in let z = head_is (sym f.is ∙ e) in omega (arith, z, f.low);
  zero_digit = refl;
}
