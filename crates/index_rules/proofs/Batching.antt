-- A batch is the fold of the single calls: each call leaves a fit and sound index, so one check serves for all; the words that are written
-- are the answers' words one after another, and each accepted call has its line.
-- Parts: the calls that a slice says, and the tests that they pass; the words that the calls write; a line for each accepted call; what the
-- tests before the calls settle; all in one law.
use mathlib.Core.Path.{◌≡◌, refl, ap, sym, ◌∙◌}
use mathlib.Core.Logic.{◌≢◌, ◌⊎◌, inl, inr}
use mathlib.Core.Bool.{Bool, true, false, false≢true}
use mathlib.Core.List.{List, [], ◌∷◌, ◌++◌, map, append_assoc}
use Prim.Native.Nat.{ℕ, zero, suc, ◌+◌, ◌*◌, ◌<◌, ◌≤◌}
use native.Mathlib.Decide.{ℕ_discrete}
use native.Mathlib.Omega.{arith}
use lib.ListN.{length, set, take, drop, length-set, take-append-drop}
use lib.Seq.{take-suc-set, drop-set-lt}
use lib.Dec.{eqb, leb}
use borrow.Author.Tests.{eqb-true, leb-true, ltb-true, eq-eqb, ne_eqb, le-leb, lt-ltb}
use Rattle.slots.specs.Words.{pick}
use Rattle.slots.specs.Answers.{Answer, given, refused, answer_word}
use Rattle.slots.proofs.Laws.{number}
use Rattle.index_rules.specs.Sound.{Sound, sound}
use Rattle.index_rules.specs.Index.{Index, FitIndex, Outcome, fits_index, length_of, insert_kind, remove_kind, replace_kind}
use Rattle.index_rules.specs.Insert.{inserts}
use Rattle.index_rules.specs.Remove.{removes}
use Rattle.index_rules.specs.Replace.{replaces}
use Rattle.index_rules.specs.Calls.{Call, insert_call, remove_call, replace_call, called, after}
use Rattle.index_rules.specs.Batch.{call_words, call_word, calls_in, Batched, batched, Says, FitCalls, singly, accepted_in, answered_with}
use Rattle.index_rules.specs.Batch.{call_fits, all_fit, calls_fit, call_at, runs, batches}
use Rattle.index_rules.specs.Batch.{end, insert, remove, replace}
use Rattle.index_rules.specs.Claims.{Batches}
use Rattle.index_rules.proofs.Fit.{both}
use Rattle.index_rules.proofs.Rules.{and}
use Rattle.index_rules.proofs.Journal.{fits-index, index-fits}
use Rattle.index_rules.proofs.Sounding.{sound_yes, yes_sound, unsound}
use Rattle.index_rules.proofs.Inserting.{insert_claims, insert_settled}
use Rattle.index_rules.proofs.Removing.{remove_claims, remove_settled}
use Rattle.index_rules.proofs.Replacing.{replace_claims, replace_settled}
use Rattle.index_rules.proofs.Checked.{once_checked}

-- The calls of the slice by their numbers, so many from k on.
unfoldable made : ℕ → List ℕ → ℕ → List Call
made zero calls k = []
made (suc m) calls k = call_at calls k ∷ made m calls (suc k)

made_length : (m : ℕ) (calls : List ℕ) (k : ℕ) → length (made m calls k) ≡ m
unfolding made
made_length zero calls k = refl
made_length (suc m) calls k = ap suc (made_length m calls (suc k))

-- The tests settle what a call is, and a slice whose calls all pass says them.
module _ (calls : List ℕ) where
  pub at_insert : (k : ℕ) → call_word calls k 0 ≡ insert_kind
      → call_at calls k ≡ insert_call (call_word calls k 1) (call_word calls k 2) (call_word calls k 3)
  unfolding call_at
  at_insert k e = rw (eq-eqb (call_word calls k 0) insert_kind e)

  pub at_remove : (k : ℕ) → call_word calls k 0 ≡ remove_kind → call_at calls k ≡ remove_call (call_word calls k 1) (call_word calls k 2)
  unfolding call_at
  at_remove k e = rw (ne_eqb (call_word calls k 0) insert_kind (omega arith), eq-eqb (call_word calls k 0) remove_kind e)

  at_replace : (k : ℕ) → call_word calls k 0 ≡ replace_kind
      → call_at calls k ≡ replace_call (call_word calls k 1) (call_word calls k 2) (call_word calls k 3)
  unfolding call_at
  at_replace k e = rw (ne_eqb (call_word calls k 0) insert_kind (omega arith), ne_eqb (call_word calls k 0) remove_kind (omega arith))

  says_one : (k : ℕ) {cs : List Call} → call_fits calls k ≡ true → Says calls (suc k) cs → Says calls k (call_at calls k ∷ cs)
  unfolding call_fits
  says_one k {cs} h rest =
      go (ℕ_discrete (call_word calls k 0) remove_kind) (ℕ_discrete (call_word calls k 0) insert_kind)
      (ℕ_discrete (call_word calls k 0) replace_kind)
    where
      kind : ℕ
      kind = call_word calls k 0

      small : kind ≢ remove_kind → call_word calls k 3 < 4294967296
      small d = ltb-true _ _ (both (pick (eqb kind insert_kind) true (eqb kind replace_kind)) _ (rw (ne_eqb kind remove_kind d) at h)).1

      go : Dec (kind ≡ remove_kind) → Dec (kind ≡ insert_kind) → Dec (kind ≡ replace_kind) → Says calls k (call_at calls k ∷ cs)
      go (yes a) b c = rw (at_remove k a) (remove a rest)
      go (no a) (yes b) c = rw (at_insert k b) (insert b (small a) rest)
      go (no a) (no b) (yes c) = rw (at_replace k c) (replace c (small a) rest)
      go (no a) (no b) (no c) =
          absurd (false≢true (rw (ne_eqb kind remove_kind a, ne_eqb kind insert_kind b, ne_eqb kind replace_kind c) at h))

  says_made : (m k : ℕ) → length calls ≡ call_words * (k + m) → ((i : ℕ) → i < k + m → call_fits calls i ≡ true)
      → Says calls k (made m calls k)
  unfolding made
  says_made zero k e h = end {k = k} (omega arith)
  says_made (suc m) k e h = says_one k (h k (omega arith)) (says_made m (suc k) (omega arith) (λ i l. h i (omega arith)))

  -- And what it says passes.
  one_fits : (k : ℕ)
      → (call_word calls k 0 ≡ remove_kind)
      ⊎ (((call_word calls k 0 ≡ insert_kind) ⊎ (call_word calls k 0 ≡ replace_kind)) × (call_word calls k 3 < 4294967296))
      → call_fits calls k ≡ true
  unfolding call_fits
  one_fits k (inl e) = rw (eq-eqb (call_word calls k 0) remove_kind e)
  one_fits k (inr (inl e, l)) =
      rw (
        ne_eqb (call_word calls k 0) remove_kind (omega arith),
        eq-eqb (call_word calls k 0) insert_kind e,
        lt-ltb (call_word calls k 3) 4294967296 l,
      )
  one_fits k (inr (inr e, l)) =
      rw (
        ne_eqb (call_word calls k 0) remove_kind (omega arith),
        ne_eqb (call_word calls k 0) insert_kind (omega arith),
        eq-eqb (call_word calls k 0) replace_kind e,
        lt-ltb (call_word calls k 3) 4294967296 l,
      )

  record Passes (k : ℕ) (cs : List Call) : Type 0 where
    long : length calls ≡ call_words * (k + length cs)
    are : cs ≡ made (length cs) calls k
    pass : (i : ℕ) → k ≤ i → i < k + length cs → call_fits calls i ≡ true

  passes_one : (k : ℕ) (c : Call) (cs : List Call) → call_at calls k ≡ c → call_fits calls k ≡ true → Passes (suc k) cs → Passes k (c ∷ cs)
  unfolding made
  passes_one k c cs is fits p =
      record {
        long = omega (arith, p.long);
        are = (λ i. sym is i ∷ p.are i);
        pass = λ i a b. go i a b (ℕ_discrete i k);
      }
    where
      go : (i : ℕ) → k ≤ i → i < k + length (c ∷ cs) → Dec (i ≡ k) → call_fits calls i ≡ true
      go i a b (yes e) = rw e fits
      go i a b (no d) = p.pass i (omega arith) (omega arith)

  passes : {k : ℕ} {cs : List Call} → Says calls k cs → Passes k cs
  unfolding made
  passes (end {k = k} e) = record { long = omega arith; are = refl; pass = λ i a b. absurd (omega arith) }
  passes (insert {k = k} {cs = cs} e l rest) = passes_one k _ cs (at_insert k e) (one_fits k (inr (inl e, l))) (passes rest)
  passes (remove {k = k} {cs = cs} e rest) = passes_one k _ cs (at_remove k e) (one_fits k (inl e)) (passes rest)
  passes (replace {k = k} {cs = cs} e l rest) = passes_one k _ cs (at_replace k e) (one_fits k (inr (inr e, l))) (passes rest)

  pub all_pass : (m : ℕ) → all_fit m calls ≡ true → (i : ℕ) → i < m → call_fits calls i ≡ true
  unfolding all_fit
  all_pass zero h i l = absurd (omega arith)
  all_pass (suc m) h i l =
      let b = both (call_fits calls m) _ h in
      go (ℕ_discrete i m) b.0 (λ w. all_pass m b.1 i w)
    where
      go : Dec (i ≡ m) → call_fits calls m ≡ true → (i < m → call_fits calls i ≡ true) → call_fits calls i ≡ true
      go (yes e) b rest = rw e b
      go (no d) b rest = rest (omega arith)

  pass_all : (m : ℕ) → ((i : ℕ) → i < m → call_fits calls i ≡ true) → all_fit m calls ≡ true
  unfolding all_fit
  pass_all zero h = refl
  pass_all (suc m) h = and (h m (omega arith)) (pass_all m (λ i l. h i (omega arith)))

  module _ (answers : List ℕ) where
    fit_calls : calls_fit calls answers ≡ true → FitCalls calls answers
    unfolding calls_fit
    fit_calls e =
        let a = both (eqb (length calls) (call_words * calls_in calls)) _ e in
        let b = both (leb (calls_in calls) (length answers)) _ a.1 in
        record {
          made = made (calls_in calls) calls 0;
          says = says_made (calls_in calls) 0 (omega (arith, eqb-true (length calls) (call_words * calls_in calls) a.0))
              (λ i l. all_pass (calls_in calls) b.1 i (omega (arith, l)));
          room = omega (arith, leb-true (calls_in calls) (length answers) b.0, made_length (calls_in calls) calls 0);
        }

    -- How many calls a fit slice says, and which.
    count-is : (c : FitCalls calls answers) → calls_in calls ≡ length c.made
    count-is c = omega (arith, (passes c.says).long)

    calls_fit_lem : FitCalls calls answers → calls_fit calls answers ≡ true
    unfolding calls_fit
    calls_fit_lem c =
        let p = passes c.says in
        let n = count-is c in
        and (eq-eqb (length calls) (call_words * calls_in calls) (omega (arith, p.long)))
        (and (le-leb (calls_in calls) (length answers) (omega (arith, c.room)))
        (pass_all (calls_in calls) (λ i l. p.pass i (omega arith) (omega arith))))

-- The words written: those of the answers from k on, between what stood before and what stands behind.
abbrev between : ℕ → List Answer → List ℕ → List ℕ
between k l answers = take k answers ++ (map answer_word l ++ drop (k + length l) answers)

module _ (calls : List ℕ) where
  runs_made : (m : ℕ) (ix : Index) (k : ℕ) (answers : List ℕ) (a : ℕ) → k + m ≤ length answers
      → runs m ix calls k answers a
      ≡ batched (given (a + accepted_in (singly (made m calls k) ix))) (after (made m calls k) ix)
      (between k (singly (made m calls k) ix) answers)
  unfolding runs made singly accepted_in after
  runs_made zero ix k answers a l =
      let e : a + 0 ≡ a = omega arith in
      let z : k + 0 ≡ k = omega arith in
      rw (e, z, take-append-drop k answers)
  runs_made (suc m) ix k answers a l =
      go (eqb o.answer.number 0) refl (λ b. runs_made m o.left (suc k) (set answers k w) b (omega (arith, length-set answers k w)))
    where
      o : Outcome
      o = called (call_at calls k) ix

      w : ℕ
      w = answer_word o.answer

      rest : List Answer
      rest = singly (made m calls (suc k)) o.left

      words : between (suc k) rest (set answers k w) ≡ take k answers ++
          (w ∷ (map answer_word rest ++ drop (k + suc (length rest)) answers))
      words =
          let z : suc k + length rest ≡ k + suc (length rest) = omega arith in
          rw (take-suc-set answers k w (omega arith), drop-set-lt (suc k + length rest) answers k w (omega arith), z)
          (append_assoc (take k answers) (w ∷ []) (map answer_word rest ++ drop (k + suc (length rest)) answers))

      go : (b : Bool) → eqb o.answer.number 0 ≡ b
          → ((b : ℕ)
          → runs m o.left calls (suc k) (set answers k w) b
          ≡ batched (given (b + accepted_in rest)) (after (made m calls (suc k)) o.left) (between (suc k) rest (set answers k w)))
          → runs m o.left calls (suc k) (set answers k w) (pick b (a + 1) a)
          ≡ batched (given (a + pick b (1 + accepted_in rest) (accepted_in rest))) (after (made m calls (suc k)) o.left)
          (take k answers ++ (w ∷ (map answer_word rest ++ drop (k + suc (length rest)) answers)))
      go true e again =
          let s : a + 1 + accepted_in rest ≡ a + (1 + accepted_in rest) = omega arith in
          rw (← words, ← s) (again (a + 1))
      go false e again = rw (← words) (again a)

-- Each accepted call has its line, and a refused one leaves the journal.
module _ {ix : Index} (o : Outcome) where
  line_more : (o.answer.number ≢ 0 → o.left ≡ ix)
      → ((x : ℕ) → o.answer ≡ given x → length_of o.left.lines ≡ length_of ix.lines + 1)
      → (o.answer.number ≢ 0) ⊎ ((x : ℕ) × (o.answer ≡ given x)) → (n : ℕ)
      → length_of o.left.lines + n ≡ length_of ix.lines + pick (eqb o.answer.number 0) (1 + n) n
  line_more stays done (inl d) n = rw (ne_eqb o.answer.number 0 d, stays d)
  line_more stays done (inr (x, q)) n = rw (eq-eqb o.answer.number 0 (number q), done x q) (omega arith)

-- A call that is no rollback.
data Single : Call → Type 0 where
  inserting : {hash key p : ℕ} → Single (insert_call hash key p)
  removing : {hash key : ℕ} → Single (remove_call hash key)
  replacing : {hash key p : ℕ} → Single (replace_call hash key p)

one_line_more : (ix : Index) → Sound ix.live → {c : Call} → Single c → (n : ℕ)
    → length_of (called c ix).left.lines + n ≡ length_of ix.lines + pick (eqb (called c ix).answer.number 0) (1 + n) n
one_line_more ix h (inserting {hash} {key} {p}) n =
    let claim = insert_claims ix hash key p in
    line_more (inserts ix hash key p) claim.nothing_written (λ x q. (claim.done x q h).5.count) (insert_settled ix hash key p) n
one_line_more ix h (removing {hash} {key}) n =
    let claim = remove_claims ix hash key in
    line_more (removes ix hash key) claim.asks.nothing_written (λ x q. (claim.done x q h).5.2.count) (remove_settled ix hash key) n
one_line_more ix h (replacing {hash} {key} {p}) n =
    let claim = replace_claims ix hash key p in
    line_more (replaces ix hash key p) claim.asks.nothing_written (λ x q. (claim.done x q h).6.count) (replace_settled ix hash key p) n

single_at : (calls : List ℕ) (k : ℕ) → Single (call_at calls k)
unfolding call_at
single_at calls k = go (eqb (call_word calls k 0) insert_kind) (eqb (call_word calls k 0) remove_kind)
  where
    go : (a b : Bool) → Single (pick a (insert_call (call_word calls k 1) (call_word calls k 2) (call_word calls k 3))
        (pick b (remove_call (call_word calls k 1) (call_word calls k 2))
        (replace_call (call_word calls k 1) (call_word calls k 2) (call_word calls k 3))))
    go true b = inserting
    go false true = removing
    go false false = replacing

pub call_line : (ix : Index) → Sound ix.live → (calls : List ℕ) (k : ℕ)
    → length_of (called (call_at calls k) ix).left.lines
    ≡ length_of ix.lines + pick (eqb (called (call_at calls k) ix).answer.number 0) 1 0
call_line ix h calls k = omega (arith, one_line_more ix h (single_at calls k) 0)

single_says : {calls : List ℕ} {k : ℕ} {c : Call} {cs : List Call} → Says calls k (c ∷ cs) → Single c
single_says (insert e l rest) = inserting
single_says (remove e rest) = removing
single_says (replace e l rest) = replacing

later : {calls : List ℕ} {k : ℕ} {c : Call} {cs : List Call} → Says calls k (c ∷ cs) → Says calls (suc k) cs
later (insert e l rest) = rest
later (remove e rest) = rest
later (replace e l rest) = rest

pub lines_more : (cs : List Call) {calls : List ℕ} {k : ℕ} → Says calls k cs → (ix : Index) → FitIndex ix → Sound ix.live
    → length_of (after cs ix).lines ≡ length_of ix.lines + accepted_in (singly cs ix)
unfolding after singly accepted_in
lines_more [] s ix fit h = omega arith
lines_more (c ∷ cs) s ix fit h =
    let r = (once_checked ix fit h).again c in
    lines_more cs (later s) (called c ix).left r.0 r.1
    ∙ one_line_more ix h (single_says s) (accepted_in (singly cs (called c ix).left))

-- The tests before the calls settle the batch.
module _ (ix : Index) (calls answers : List ℕ) where
  refuses_one : fits_index ix ≡ false → batches ix calls answers ≡ batched (refused 1) ix answers
  unfolding batches
  refuses_one e = rw e

  refuses_calls : fits_index ix ≡ true → calls_fit calls answers ≡ false → batches ix calls answers ≡ batched (refused 1) ix answers
  unfolding batches
  refuses_calls e f = rw (e, f)

  refuses_two : fits_index ix ≡ true → calls_fit calls answers ≡ true → sound ix.live ≡ false
      → batches ix calls answers ≡ batched (refused 2) ix answers
  unfolding batches
  refuses_two e f g = rw (e, f, g)

  does : fits_index ix ≡ true → calls_fit calls answers ≡ true → sound ix.live ≡ true
      → batches ix calls answers ≡ runs (calls_in calls) ix calls 0 answers 0
  unfolding batches
  does e f g = rw (e, f, g)

  made_done : FitIndex ix → Sound ix.live → (c : FitCalls calls answers)
      → batches ix calls answers
      ≡ batched (given (accepted_in (singly c.made ix))) (after c.made ix) (answered_with (singly c.made ix) answers)
  made_done fit h c =
      let p = passes calls c.says in
      let n = count-is calls answers c in
      let m : made (calls_in calls) calls 0 ≡ c.made = rw n (sym p.are) in
      let plus : 0 + accepted_in (singly (made (calls_in calls) calls 0) ix) ≡ accepted_in (singly (made (calls_in calls) calls 0) ix) =
      omega arith in
      let none : 0 + length (singly (made (calls_in calls) calls 0) ix) ≡ length (singly (made (calls_in calls) calls 0) ix) =
      omega arith in
      does (index-fits ix fit) (calls_fit_lem calls answers c) (sound_yes fit.tree h)
      ∙ rw (← m) (rw (plus, none) at (runs_made calls (calls_in calls) ix 0 answers 0 (omega (arith, c.room))))

  -- The case that the tests come to.
  data Came : Type 0 where
    unfit : ((FitIndex ix × FitCalls calls answers) → ⊥) → batches ix calls answers ≡ batched (refused 1) ix answers → Came
    damaged : FitIndex ix × FitCalls calls answers → (Sound ix.live → ⊥)
        → batches ix calls answers ≡ batched (refused 2) ix answers → Came
    made_all : FitIndex ix × FitCalls calls answers → Sound ix.live → (n : ℕ) → (batches ix calls answers).answer ≡ given n → Came

  came : Came
  came = go (fits_index ix) refl (calls_fit calls answers) refl (sound ix.live) refl
    where
      go : (a : Bool) → fits_index ix ≡ a → (b : Bool) → calls_fit calls answers ≡ b → (s : Bool) → sound ix.live ≡ s → Came
      go false e b f s g = unfit (λ p. false≢true (sym e ∙ index-fits ix p.0)) (refuses_one e)
      go true e false f s g = unfit (λ p. false≢true (sym f ∙ calls_fit_lem calls answers p.1)) (refuses_calls e f)
      go true e true f false g =
          let fit = fits-index ix e in damaged (fit, fit_calls calls answers f) (unsound fit.tree g) (refuses_two e f g)
      go true e true f true g =
          let fit = fits-index ix e in
          let h = yes_sound fit.tree g in
          let c = fit_calls calls answers f in
          made_all (fit, c) h _ (ap (λ (b : Batched). b.answer) (made_done fit h c))

  answered : {b : Batched} → batches ix calls answers ≡ b → (batches ix calls answers).answer ≡ b.answer
  answered e = ap (λ (b : Batched). b.answer) e

  pub batch_claims : Batches ix calls answers
  batch_claims =
      record {
        one = (one_then came, λ n. one_if n came);
        two = (two_then came, λ r. two_if r came);
        nothing_written = λ d. nothing came d;
        done = λ fit h c. (made_done fit h c, lines_more c.made c.says ix fit h);
      }
    where
      one_then : Came → (batches ix calls answers).answer ≡ refused 1 → (FitIndex ix × FitCalls calls answers) → ⊥
      one_then (unfit n e) q = n
      one_then (damaged p n e) q = absurd (omega (arith, number (sym q ∙ answered e)))
      one_then (made_all p h n e) q = absurd (omega (arith, number (sym q ∙ e)))

      one_if : ((FitIndex ix × FitCalls calls answers) → ⊥) → Came → (batches ix calls answers).answer ≡ refused 1
      one_if n (unfit m e) = answered e
      one_if n (damaged p m e) = absurd (n p)
      one_if n (made_all p h m e) = absurd (n p)

      two_then : Came → (batches ix calls answers).answer ≡ refused 2 → (FitIndex ix × FitCalls calls answers) × (Sound ix.live → ⊥)
      two_then (unfit n e) q = absurd (omega (arith, number (sym q ∙ answered e)))
      two_then (damaged p n e) q = (p, n)
      two_then (made_all p h n e) q = absurd (omega (arith, number (sym q ∙ e)))

      two_if : (FitIndex ix × FitCalls calls answers) × (Sound ix.live → ⊥) → Came → (batches ix calls answers).answer ≡ refused 2
      two_if r (unfit m e) = absurd (m r.0)
      two_if r (damaged p m e) = answered e
      two_if r (made_all p h m e) = absurd (r.1 h)

      nothing : Came → (batches ix calls answers).answer.number ≢ 0
          → batches ix calls answers ≡ batched (batches ix calls answers).answer ix answers
      nothing (unfit m e) d = e ∙ ap (λ (a : Answer). batched a ix answers) (sym (answered e))
      nothing (damaged p m e) d = e ∙ ap (λ (a : Answer). batched a ix answers) (sym (answered e))
      nothing (made_all p h m e) d = absurd (d (number e))
