-- A word is value + 2^32 * number and the value is below 2^32, so dividing by 2^32 gives both back; and number and value give the answer
-- back, for a bare number 0, a refusal and a value never look alike.
use mathlib.Core.Path.{◌≡◌, refl, ap, sym, ◌∙◌}
use mathlib.Core.Logic.{◌≢◌, ◌↔◌}
use mathlib.Core.Bool.{Bool, true, false, false≢true}
use mathlib.Core.List.{List}
use Prim.Native.Nat.{ℕ, ◌+◌, ◌/◌, ◌%◌, ◌<◌, ◌≤◌}
use native.Mathlib.Omega.{arith}
use lib.ListN.{length}
use lib.Dec.{eqb, leb, ltb}
use borrow.Author.Tests.{leb-true, eq-eqb, ne_eqb, lt-ltb, le-ltb}
use Rattle.slots.specs.Words.{null, pick, ◌and◌}
use Rattle.slots.specs.Answers.{Answer, some, none, given, nothing, refused, word_of, answer_word}
use Rattle.slots.proofs.Laws.{pick_eq, some_is, none_some, number, value}
use Rattle.tree_rules.specs.Find.{Search, counted}
use Rattle.index_rules.specs.Index.{Index, Outcome}
use Rattle.index_rules.specs.Batch.{Batched, batched}
use Rattle.index_rules.proofs.Fit.{both}
use Rattle.word_rules.specs.Told as T
use Rattle.word_rules.specs.Told.{Valued, gives, refuses, present, fails, WordTells, LooksTold}
use Rattle.word_rules.specs.Words.{search_word, check_word, worded, batch_worded}
use Rattle.word_rules.specs.Leaving.{WritesTold}

-- The answer of a number and a value.
abbrev told_by : ℕ → ℕ → ℕ → Answer
told_by bare n v =
    pick (eqb n 0) (pick (eqb v bare) nothing (given v))
    (pick (eqb n 3) (record { number = 3; value = some v }) (pick (ltb n 100) (refused n) (record { number = n; value = some v })))

told_is : {bare : ℕ} {a : Answer} {v : ℕ} → Valued bare a v → told_by bare a.number v ≡ a
told_is {bare} (gives {v} l) = rw (ne_eqb v bare (λ e. omega arith))
told_is {bare} (T.none l) = rw (eq-eqb bare bare refl)
told_is (refuses {n} l k m) = rw (ne_eqb n 0 (λ e. omega arith), ne_eqb n 3 m, lt-ltb n 100 (omega arith))
told_is (present l) = refl
told_is (fails {t} l k m) =
    rw (ne_eqb (100 + t) 0 (λ e. omega arith), ne_eqb (100 + t) 3 (λ e. omega arith), le-ltb (100 + t) 100 (omega arith))

pub answers_apart : {bare : ℕ} {a b : Answer} {word : ℕ} → WordTells bare a word → WordTells bare b word → a ≡ b
answers_apart {bare} {a} {b} p q =
    let e : a.number ≡ b.number = sym p.number ∙ q.number in
    let f : p.beside ≡ q.beside = sym p.value ∙ q.value in
    sym (told_is p.valued) ∙ (λ i. told_by bare (e i) (f i)) ∙ told_is q.valued

-- What is known of the value: the one that comes, 0 with a refusal that has none; and it is a 32-bit word.
pub value_some : {bare : ℕ} {a : Answer} {v x : ℕ} → Valued bare a v → a.value ≡ some x → v ≡ x
value_some (gives l) e = some_is e
value_some (T.none l) e = absurd (none_some e)
value_some (refuses l k m) e = absurd (none_some e)
value_some (present l) e = some_is e
value_some (fails l k m) e = some_is e

pub value_none : {bare : ℕ} {a : Answer} {v : ℕ} → Valued bare a v → a.number ≢ 0 → a.value ≡ none → v ≡ 0
value_none (gives l) n e = absurd (none_some (sym e))
value_none (T.none l) n e = absurd (n refl)
value_none (refuses l k m) n e = refl
value_none (present l) n e = absurd (none_some (sym e))
value_none (fails l k m) n e = absurd (none_some (sym e))

value_bare : {bare : ℕ} {a : Answer} {v : ℕ} → Valued bare a v → a.number ≡ 0 → a.value ≡ none → v ≡ bare
value_bare (gives l) n e = absurd (none_some (sym e))
value_bare (T.none l) n e = refl
value_bare (refuses l k m) n e = absurd (omega arith)
value_bare (present l) n e = absurd (none_some (sym e))
value_bare (fails l k m) n e = absurd (none_some (sym e))

one_value : {bare : ℕ} {a : Answer} {v w : ℕ} → Valued bare a v → Valued bare a w → v ≡ w
one_value (gives l) q = sym (value_some q refl)
one_value (T.none l) q = sym (value_bare q refl refl)
one_value (refuses l k m) q = sym (value_none q (λ e. omega arith) refl)
one_value (present l) q = sym (value_some q refl)
one_value (fails l k m) q = sym (value_some q refl)

pub one_word : {bare : ℕ} {a : Answer} {v w : ℕ} → WordTells bare a v → WordTells bare a w → v ≡ w
one_word p q = omega (arith, p.number, q.number, p.value, q.value, one_value p.valued q.valued)

-- The number of a refusal that has no value with it, by a test.
abbrev pub plain_number : ℕ → Bool
plain_number n = leb 1 n and leb n 18 and pick (eqb n 3) false true

plain_range : (n : ℕ) → plain_number n ≡ true → (1 ≤ n) × ((n ≤ 18) × (n ≢ 3))
plain_range n e =
    let a = both (leb 1 n) _ e in
    let b = both (leb n 18) _ a.1 in
    (leb-true 1 n a.0, (leb-true n 18 b.0, λ z. false≢true (sym (pick_eq false true z) ∙ b.1)))

pub plainly : {bare : ℕ} (n : ℕ) → plain_number n ≡ true → Valued bare (refused n) 0
plainly n e = let r = plain_range n e in refuses r.0 r.1.0 r.1.1

-- Where something always comes, none is a bare number 0.
pub never_bare : {a : Answer} {v : ℕ} → Valued 4294967296 a v → a ≡ nothing → ⊥
never_bare (gives l) e = none_some (sym (value e))
never_bare (T.none l) e = omega arith
never_bare (refuses l k m) e = omega (arith, number e)
never_bare (present l) e = omega (arith, number e)
never_bare (fails l k m) e = omega (arith, number e)

-- A refusal's number stands in the words that tell that refusal, and in no others: so it stands there exactly when the refusal is made.
refusal_is : {bare n : ℕ} {a : Answer} {v : ℕ} → 1 ≤ n → n ≢ 3 → n < 100 → Valued bare a v → a.number ≡ n → a ≡ refused n
refusal_is l d k (gives b) e = absurd (omega arith)
refusal_is l d k (T.none b) e = absurd (omega arith)
refusal_is l d k (refuses b c m) e = ap refused e
refusal_is l d k (present b) e = absurd (d (sym e))
refusal_is l d k (fails b c m) e = absurd (omega arith)

pub told-when : {bare : ℕ} {a : Answer} {word : ℕ} {P : Type 0} → WordTells bare a word → (n : ℕ) → plain_number n ≡ true
    → (a ≡ refused n) ↔ P
    → (word / 4294967296 ≡ n) ↔ P
told-when {a = a} {word} {P} t n e h = go (plain_range n e)
  where
    go : (1 ≤ n) × ((n ≤ 18) × (n ≢ 3)) → (word / 4294967296 ≡ n) ↔ P
    go (l, (k, d)) =
        (λ w. h.0 (refusal_is l d (omega arith) t.valued (sym t.number ∙ w)), λ p. t.number ∙ number (h.1 p))

-- What comes with number 0 is its own word.
pub told-given : {bare : ℕ} {a : Answer} {word v : ℕ} → WordTells bare a word → a ≡ given v → word ≡ v
told-given t e = omega (arith, t.number, t.value, number e, value_some t.valued (value e))

-- The word made of an answer tells it.
pub word_tells : (b : ℕ) {bare : ℕ} {a : Answer} {v : ℕ} → (a ≡ nothing → b ≡ bare) → bare ≤ 4294967296 → Valued bare a v
    → WordTells bare a (word_of b a)
word_tells b s l (gives {v} k) = record { beside = v; valued = gives k; number = omega arith; value = omega arith }
word_tells b {bare} s l (T.none k) =
    let e = s refl in record { beside = bare; valued = T.none k; number = omega arith; value = omega arith }
word_tells b s l (refuses {n} k m d) =
    let z : pick (eqb n 0) b 0 ≡ 0 = rw (ne_eqb n 0 (λ e. omega arith)) in
    record { beside = 0; valued = refuses k m d; number = omega (arith, z); value = omega (arith, z) }
word_tells b s l (present {x} k) = record { beside = x; valued = present k; number = omega arith; value = omega arith }
word_tells b s l (fails {t} {s = x} k m d) = record { beside = x; valued = fails k m d; number = omega arith; value = omega arith }

pub answer_tells : {a : Answer} {v : ℕ} → Valued null a v → WordTells null a (answer_word a)
unfolding answer_word
answer_tells h = word_tells null (λ e. refl) (omega arith) h

-- Where something always comes with number 0.
pub always_tells : {a : Answer} {v : ℕ} → Valued 4294967296 a v → WordTells 4294967296 a (answer_word a)
unfolding answer_word
always_tells h = word_tells null (λ e. absurd (never_bare h e)) (omega arith) h

pub check_tells : {a : Answer} {v : ℕ} → Valued 0 a v → WordTells 0 a (check_word a)
unfolding check_word
check_tells h = word_tells _ (λ e. refl) (omega arith) h

pub worded_tells : (o : Outcome) {v : ℕ} → Valued null o.answer v → WritesTold o (worded o)
unfolding worded answer_word
worded_tells o h = record { tells = word_tells null (λ e. refl) (omega arith) h; left = refl }

-- Its word has 48 bits, so that looks stand above it.
pub told_below : {bare : ℕ} {a : Answer} {word : ℕ} → WordTells bare a word → word < 281474976710656
told_below {word = word} t = go t.valued t.number
  where
    go : {bare : ℕ} {a : Answer} {v : ℕ} → Valued bare a v → word / 4294967296 ≡ a.number → word < 281474976710656
    go (gives l) e = omega arith
    go (T.none l) e = omega arith
    go (refuses l k m) e = omega arith
    go (present l) e = omega arith
    go (fails l k m) e = omega arith

pub looks_told : (s : Search) {v : ℕ} → Valued null s.answer v → ((x : ℕ) → s.answer ≡ given x → x < 4096) → length s.looks ≤ 4096
    → LooksTold s (search_word (counted s))
unfolding search_word
looks_told s h below l =
    let t = answer_tells h in
    let b = told_below t in
    let low : search_word (counted s) % 281474976710656 ≡ answer_word s.answer = omega arith in
    record {
      tells = rw low t;
      number = omega (arith, t.number);
      value = omega (arith, t.value);
      looks = omega arith;
      below = below;
      within = l;
    }

-- Of a call that writes: the outcome's answer becomes its word, what is left stays.
pub tells : {w : ℕ} {a : Answer} {ix : Index} {o : Outcome} → w ≡ answer_word a → record { answer = a; left = ix } ≡ o
    → record { word = w; left = ix } ≡ worded o
unfolding worded
tells {w} {a} {ix} {o} e f = ap (λ (n : ℕ). record { word = n; left = ix }) e ∙ ap worded f

-- Of a batch, which leaves words of answers too.
pub tells_batch : {w : ℕ} {a : Answer} {ix : Index} {answers : List ℕ} {o : Batched} → w ≡ answer_word a → batched a ix answers ≡ o
    → record { word = w; left = ix; answers = answers } ≡ batch_worded o
unfolding batch_worded
tells_batch {w} {a} {ix} {answers} {o} e f = ap (λ (n : ℕ). record { word = n; left = ix; answers = answers }) e ∙ ap batch_worded f

-- A count and no refusal is its own word.
pub taken_word : (n : ℕ) → n < 4294967296 → WordTells 4294967296 (given n) n
taken_word n b = record { beside = n; valued = gives b; number = omega arith; value = omega arith }
