-- What the steps of a batch come to, on plain values: a call on a ready index is the single call, and the next one is ready.
use mathlib.Core.Path.{◌≡◌, refl, ap, sym, ◌∙◌, subst}
use mathlib.Core.Logic.{◌≢◌}
use mathlib.Core.Bool.{Bool, true, false}
use mathlib.Core.List.{List}
use Prim.Native.Nat.{ℕ, zero, suc, ◌+◌, ◌-◌, ◌*◌, ◌<◌, ◌≤◌}
use native.Mathlib.Numerals.{add-one, sub-one}
use native.Mathlib.Omega.{arith}
use lib.ListN.{length, set}
use lib.Dec.{eqb, leb, ltb}
use borrow.Author.Tests.{ne_eqb, ltb-true}
use Rattle.slots.specs.Words.{pick}
use Rattle.slots.specs.Answers.{Answer, given, refused, answer_word}
use Rattle.index_rules.specs.Sound.{sound}
use Rattle.index_rules.specs.Index.{Index, Outcome, outcome, fits_index, length_of, insert_kind, remove_kind, replace_kind}
use Rattle.index_rules.specs.Calls.{Call, insert_call, remove_call, replace_call, called}
use Rattle.index_rules.specs.Checked.{NoneBelow, Ready, sounds_index, floor_after, inserts_sound, removes_sound, replaces_sound}
use Rattle.index_rules.specs.Batch.{Batched, batched, call_word, calls_in, call_fits, all_fit, calls_fit, call_at, runs, batches}
use Rattle.index_rules.specs.Claims.{OnceChecked}
use Rattle.index_rules.proofs.Fit.{both, no_and}
use Rattle.index_rules.proofs.Sounding.{told_unfit, told_no, told_yes}
use Rattle.index_rules.proofs.Batching.{at_insert, at_remove, call_line, all_pass}
use Rattle.index_rules.proofs.Claims.{claims}
use Rattle.batch.specs.Making.{CallMade}

-- The words of a call.
module _ (calls : List ℕ) (k : ℕ) {kind hash key p : ℕ}
    (e0 : kind ≡ call_word calls k 0) (e1 : hash ≡ call_word calls k 1) (e2 : key ≡ call_word calls k 2)
    (e3 : p ≡ call_word calls k 3) where
  pub is_insert : kind ≡ insert_kind → insert_call hash key p ≡ call_at calls k
  is_insert h = sym (at_insert calls k (sym e0 ∙ h) ∙ rw (e1, e2, e3))

  pub is_remove : kind ≡ remove_kind → remove_call hash key ≡ call_at calls k
  is_remove h = sym (at_remove calls k (sym e0 ∙ h) ∙ rw (e1, e2))

  pub is_replace : kind ≢ insert_kind → kind ≢ remove_kind → replace_call hash key p ≡ call_at calls k
  unfolding call_at
  is_replace a b = rw (← e0, ne_eqb kind insert_kind a, ne_eqb kind remove_kind b, e1, e2, e3)

  pub small : call_fits calls k ≡ true → kind ≢ remove_kind → p < 4294967296
  unfolding call_fits
  small h d =
      let w =
      both (pick (eqb kind insert_kind) true (eqb kind replace_kind)) (ltb p 4294967296)
      (rw (← e0, ← e3, ne_eqb kind remove_kind d) at h) in
      ltb-true p 4294967296 w.1

module _ {ix : Index} {floor : ℕ} (r : Ready ix floor) where
  passed : OnceChecked ix r.passes.fit r.passes.sound
  passed = claims.once_checked ix r.passes.fit r.passes.sound

  -- A call whose outcome is the single call's.
  pub made : (c : Call) {answers words : List ℕ} (k : ℕ) {a b : Answer} {jx : Index} {w floor' : ℕ}
      → outcome a jx ≡ called c ix → b ≡ a → w ≡ answer_word b → words ≡ set answers k w → floor' ≡ floor_after c a floor
      → CallMade ix answers k c jx words floor'
  made c {answers} {words} k {a} {b} {jx} {w} {floor'} e f g h i =
      let left : jx ≡ (called c ix).left = ap (λ (o : Outcome). o.left) e in
      let answer : a ≡ (called c ix).answer = ap (λ (o : Outcome). o.answer) e in
      let again = passed.again c in
      let none = passed.floor c floor r.none in
      record {
        left = left;
        word = h ∙ ap (λ (n : ℕ). set answers k n) (g ∙ ap answer_word (f ∙ answer));
        ready = subst (λ (z : Index). Ready z floor') (sym left)
            (record {
              passes = record { fit = again.0; sound = again.1 };
              none = subst (λ (n : ℕ). NoneBelow n (called c ix).left.live)
                  (sym (i ∙ ap (λ (z : Answer). floor_after c z floor) answer)) none;
            });
      }

  pub insert_is : (hash key p : ℕ) {o : Outcome} → o ≡ inserts_sound floor ix hash key p → o ≡ called (insert_call hash key p) ix
  insert_is hash key p e = e ∙ passed.insert floor hash key p r.none

  pub remove_is : (hash key : ℕ) {o : Outcome} → o ≡ removes_sound ix hash key → o ≡ called (remove_call hash key) ix
  remove_is hash key e = e ∙ passed.remove hash key

  pub replace_is : (hash key p : ℕ) {o : Outcome} → o ≡ replaces_sound ix hash key p → o ≡ called (replace_call hash key p) ix
  replace_is hash key p e = e ∙ passed.replace hash key p

pub made_as : {ix jx : Index} {answers words : List ℕ} {k floor : ℕ} {c d : Call} → c ≡ d → CallMade ix answers k c jx words floor
    → CallMade ix answers k d jx words floor
made_as {ix} {jx} {answers} {words} {k} {floor} e m = subst (λ (z : Call). CallMade ix answers k z jx words floor) e m

-- A turn of the batch: calls from number k on are left, and what they come to decides the whole;
-- as many were accepted as there are lines more.
pub record Turn (start : Index) (calls : List ℕ) (m : ℕ) (first : List ℕ) (ix : Index) (answers : List ℕ) (floor k : ℕ) : Type 0 where
  pub same : runs (m - k) ix calls k answers (length_of ix.lines - length_of start.lines) ≡ runs m start calls 0 first 0
  pub ready : Ready ix floor
  pub more : length_of start.lines ≤ length_of ix.lines
  pub names : length ix.live.names ≡ length start.live.names
  pub cells : length ix.live.cells ≡ length start.live.cells
  pub head : length ix.live.head ≡ length start.live.head
  pub sizes : length ix.live.sizes ≡ length start.live.sizes
  pub lines : length ix.lines ≡ length start.lines
  pub words : length answers ≡ length first

pub turn_start : {start : Index} (calls : List ℕ) (m : ℕ) (first : List ℕ) → Ready start 0 → Turn start calls m first start first 0 0
turn_start {start} calls m first r =
    let a : m - 0 ≡ m = omega arith in
    let b : length_of start.lines - length_of start.lines ≡ 0 = omega arith in
    record {
      same = rw (a, b);
      ready = r;
      more = omega arith;
      names = refl;
      cells = refl;
      head = refl;
      sizes = refl;
      lines = refl;
      words = refl;
    }

runs_on : (n : ℕ) → 0 < n → (ix : Index) (calls : List ℕ) (k : ℕ) (answers : List ℕ) (a : ℕ)
    → runs n ix calls k answers a
    ≡ runs (n - 1) (called (call_at calls k) ix).left calls (k + 1) (set answers k (answer_word (called (call_at calls k) ix).answer))
    (pick (eqb (called (call_at calls k) ix).answer.number 0) (a + 1) a)
unfolding runs
runs_on zero h ix calls k answers a = absurd (omega arith)
runs_on (suc n) h ix calls k answers a = rw (sub-one, ← add-one k) refl

runs_end : (n : ℕ) → n ≤ 0 → (ix : Index) (calls : List ℕ) (k : ℕ) (answers : List ℕ) (a : ℕ)
    → runs n ix calls k answers a ≡ batched (given a) ix answers
unfolding runs
runs_end zero h ix calls k answers a = refl
runs_end (suc n) h ix calls k answers a = absurd (omega arith)

-- One accepted more where the journal has one line more.
counted_on : (b : Bool) (l before now : ℕ) → before ≤ l → now ≡ l + pick b 1 0 → now - before ≡ pick b (l - before + 1) (l - before)
counted_on true l before now h e = omega arith
counted_on false l before now h e = omega arith

module _ {start : Index} {calls : List ℕ} {m : ℕ} {first : List ℕ} {ix : Index} {answers : List ℕ} {floor k : ℕ}
    (turn : Turn start calls m first ix answers floor k) where
  pub turn_on : {jx : Index} {words : List ℕ} {floor' : ℕ} → k < m → CallMade ix answers k (call_at calls k) jx words floor'
      → length jx.live.names ≡ length ix.live.names → length jx.live.cells ≡ length ix.live.cells
      → length jx.live.head ≡ length ix.live.head → length jx.live.sizes ≡ length ix.live.sizes
      → length jx.lines ≡ length ix.lines → length words ≡ length answers
      → Turn start calls m first jx words floor' (k + 1)
  turn_on {jx} {words} {floor'} l made n1 n2 n3 n4 n5 n6 =
      let o = called (call_at calls k) ix in
      let b = eqb o.answer.number 0 in
      let before = length_of start.lines in
      let line : length_of jx.lines ≡ length_of ix.lines + pick b 1 0 =
      ap (λ (z : Index). length_of z.lines) made.left ∙ call_line ix turn.ready.passes.sound calls k in
      let count = counted_on b (length_of ix.lines) before (length_of jx.lines) turn.more line in
      let z : m - k - 1 ≡ m - (k + 1) = omega arith in
      let step : runs (m - k) ix calls k answers (length_of ix.lines - before)
      ≡ runs (m - (k + 1)) jx calls (k + 1) words (length_of jx.lines - before) =
      rw (count, made.left, made.word, ← z) (runs_on (m - k) (omega arith) ix calls k answers (length_of ix.lines - before)) in
      record {
        same = sym step ∙ turn.same;
        ready = made.ready;
        more = omega (arith, turn.more, line);
        names = n1 ∙ turn.names;
        cells = n2 ∙ turn.cells;
        head = n3 ∙ turn.head;
        sizes = n4 ∙ turn.sizes;
        lines = n5 ∙ turn.lines;
        words = n6 ∙ turn.words;
      }

  pub turn_fits : all_fit m calls ≡ true → k < m → call_fits calls k ≡ true
  turn_fits h l = all_pass calls m h k l

  pub turn_end : m ≤ k → batched (given (length_of ix.lines - length_of start.lines)) ix answers ≡ runs m start calls 0 first 0
  turn_end l = sym (runs_end (m - k) (omega arith) ix calls k answers (length_of ix.lines - length_of start.lines)) ∙ turn.same

  pub turn_most : length_of ix.lines ≤ 1024
  turn_most = omega (arith, turn.ready.passes.fit.most, turn.ready.passes.fit.within)

-- The tests before the calls.
module _ (ix : Index) (calls answers : List ℕ) where
  pub unknown : calls_fit calls answers ≡ false → batched (refused 1) ix answers ≡ batches ix calls answers
  unfolding batches
  unknown f = rw (f, no_and (fits_index ix))

  pub unfit : refused 1 ≡ sounds_index ix → batched (refused 1) ix answers ≡ batches ix calls answers
  unfolding batches sounds_index
  unfit e = rw (told_unfit (fits_index ix) (sound ix.live) e)

  module _ (f : calls_fit calls answers ≡ true) where
    pub damaged : given 0 ≡ sounds_index ix → batched (refused 2) ix answers ≡ batches ix calls answers
    unfolding batches sounds_index
    damaged e = let t = told_no (fits_index ix) (sound ix.live) e in rw (t.0, f, t.1)

    pub does : given 1 ≡ sounds_index ix → {b : Batched} → b ≡ runs (calls_in calls) ix calls 0 answers 0 → b ≡ batches ix calls answers
    unfolding batches sounds_index
    does e h = let t = told_yes (fits_index ix) (sound ix.live) e in rw (t.0, f, t.1) h

pub all_known : (calls answers : List ℕ) → calls_fit calls answers ≡ true → all_fit (calls_in calls) calls ≡ true
unfolding calls_fit
all_known calls answers f =
    let a = both (eqb (length calls) (4 * calls_in calls)) _ f in
    (both (leb (calls_in calls) (length answers)) _ a.1).1

-- The number of calls, and how many were accepted, in a local's words.
pub known_so_many : (calls : List ℕ) {m : ℕ} → m ≡ calls_in calls → all_fit (calls_in calls) calls ≡ true → all_fit m calls ≡ true
known_so_many calls e h = rw e h

pub given-more : (calls first : List ℕ) (start : Index) {answers : List ℕ} {ix : Index} {m before after : ℕ} → after ≡ length_of ix.lines
    → before ≡ length_of start.lines → m ≡ calls_in calls
    → batched (given (length_of ix.lines - length_of start.lines)) ix answers ≡ runs m start calls 0 first 0
    → batched (given (after - before)) ix answers ≡ runs (calls_in calls) start calls 0 first 0
given-more calls first start e1 e2 e3 h = rw (e1, e2, ← e3) h
