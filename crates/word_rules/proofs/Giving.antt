-- What the other calls answer is a value below null, a slot with 3 or a refusal without a value: the model's tests show which, and the
-- bound of a value is what the call's own claims say of it.
-- Parts: a value, or a refusal that has none; what an insert answers; remove, replace, rollback and a fresh index; yes or no, and the calls
-- by position; the check of the source; a batch.
use mathlib.Core.Path.{◌≡◌, refl, ap, sym, ◌∙◌}
use mathlib.Core.Logic.{◌≢◌}
use mathlib.Core.Bool.{Bool, true, false}
use mathlib.Core.List.{List, [], ◌∷◌, ◌++◌, map}
use Prim.Native.Nat.{ℕ, zero, suc, ◌+◌, ◌-◌, ◌<◌, ◌≤◌}
use native.Mathlib.Decide.{dec_lt}
use native.Mathlib.Omega.{arith}
use lib.ListN.{length, length-map}
use lib.Dec.{eqb, leb, ltb}
use borrow.Author.Tests.{leb-false, eqb-false}
use Rattle.slots.specs.Words.{null, pick, ◌and◌, cell, left, right}
use Rattle.slots.proofs.Laws.{number, given_is}
use Rattle.slots.specs.Answers.{Answer, Value, some, none, given, refused, answer_word}
use Rattle.tree_rules.specs.Find.{slots_of}
use Rattle.tree_rules.specs.Tree.{slots, times}
use Rattle.tree_rules.specs.Ranks.{rank_from}
use Rattle.tree_rules.specs.Check.{test, first_from, first_failing, links_in, Walk, passed, failed, strayed, onward, walked, walk_answer}
use Rattle.tree_rules.specs.Check.{checked}
use Rattle.tree_rules.proofs.Positions.{nth_in}
use Rattle.tree_rules.proofs.Reaching.{hangs_inside, rooted_most}
use Rattle.index_rules.specs.Live.{Live, Unsized, Fit, root_word, root_of, count_of, fits, fits_unsized}
use Rattle.index_rules.specs.Sound.{Sound, sound, sounds}
use Rattle.index_rules.specs.Index.{Index, Outcome, FitIndex, fits_index, length_of, lines_of}
use Rattle.index_rules.specs.Check.{checks}
use Rattle.index_rules.specs.Insert.{lowest_free, sought_in, inserts}
use Rattle.index_rules.specs.Present.{where_present}
use Rattle.index_rules.specs.Remove.{removes, after_remove}
use Rattle.index_rules.specs.Replace.{replaces, after_replace}
use Rattle.index_rules.specs.Rollback.{Undo, stays, misfit, unrolled, rolls}
use Rattle.index_rules.specs.Fresh.{fits_lengths, freshes}
use Rattle.index_rules.specs.Ranks.{kths, ranked, positions}
use Rattle.index_rules.proofs.Fit.{half, fits-unsized}
use Rattle.index_rules.specs.Contents.{entry_of}
use Rattle.index_rules.specs.Calls.{Call, insert_call, remove_call, replace_call, rollback_call, called, after}
use Rattle.index_rules.specs.Batch.{FitCalls, calls_in, calls_fit, Batched, runs, batches, singly}
use Rattle.index_rules.specs.Claims.{AsksPresent}
use Rattle.index_rules.proofs.Rules.{small}
use Rattle.index_rules.proofs.Claims.{claims}
use Rattle.set_rules.specs.Words.{Set}
use Rattle.set_rules.specs.Words.{fits as setFits}
use Rattle.set_rules.specs.Accepting.{accepted, accepts}
use Rattle.word_rules.specs.Told as T
use Rattle.word_rules.specs.Told.{Valued, gives, refuses, present, fails}
use Rattle.word_rules.specs.Words.{batch_worded}
use Rattle.word_rules.specs.Leaving.{EachTold, end, next, BatchTold}
use Rattle.word_rules.proofs.Telling.{plain_number, plainly, word_tells, answer_tells}
use Rattle.word_rules.proofs.Answering.{picked}

-- An answer with its value in its word.
abbrev pub Tellable : ℕ → Answer → Type 0
Tellable bare a = (v : ℕ) × Valued bare a v

-- A value is given, or a refusal that has none.
pub data Shape : Answer → Type 0 where
  slot : (x : ℕ) → Shape (given x)
  off : {n : ℕ} → plain_number n ≡ true → Shape (refused n)

shaped : {a : Answer} → Shape a → ((x : ℕ) → a ≡ given x → x < null) → Tellable null a
shaped (slot x) f = (x, gives (f x refl))
shaped (off {n} e) f = (0, plainly n e)

unfit : Shape (refused 1)
unfit = off {n = 1} refl

damaged : Shape (refused 2)
damaged = off {n = 2} refl

absent : Shape (refused 4)
absent = off {n = 4} refl

unlined : Shape (refused 6)
unlined = off {n = 6} refl

high : Shape (refused 7)
high = off {n = 7} refl

ill : Shape (refused 8)
ill = off {n = 8} refl

out : Shape (refused 15)
out = off {n = 15} refl

-- The slots of a fit tree are few, and a slot that stands in a sound one is one of them.
few : {t : Live} → Fit t → slots_of t.names ≤ 4096
few {t} fit = omega (arith, half fit, fit.most)

stands-below : {t : Live} {x : ℕ} → Fit t → (h : Sound t) → 1 ≤ times x (slots h.tree) → x < 4096
stands-below {t} fit h s = omega (arith, few fit, hangs_inside (slots_of t.names) t.cells h.t3.rooted.hangs s)

-- An outcome's answer.
abbrev OutcomeShape : Outcome → Type 0
OutcomeShape o = Shape o.answer

-- What an insert answers.
pub data InsertSays : Answer → Type 0 where
  one : InsertSays (refused 1)
  two : InsertSays (refused 2)
  three : (x : ℕ) → InsertSays (record { number = 3; value = some x })
  five : InsertSays (refused 5)
  six : InsertSays (refused 6)
  takes : (x : ℕ) → InsertSays (given x)

module _ (ix : Index) (hash key : ℕ) where
  pub inserts_shape : (p : ℕ) → InsertSays (inserts ix hash key p).answer
  unfolding inserts
  inserts_shape p = go (fits_index ix) refl (sound ix.live) refl (sought_in ix.live hash key) refl
    where
      Did : Outcome → Type 0
      Did o = InsertSays o.answer

      go : (a : Bool) → fits_index ix ≡ a → (b : Bool) → sound ix.live ≡ b → (v : Value) → sought_in ix.live hash key ≡ v
          → InsertSays (inserts ix hash key p).answer
      go false e b f v g = rw e one
      go true e false f v g = rw (e, f) two
      go true e true f (some x) g = rw (e, f, g) (three x)
      go true e true f none g =
          rw (e, f, g)
          (picked Did (eqb (lowest_free ix.live) null) (λ q. five)
          (λ q. picked Did (eqb (length_of ix.lines) (lines_of ix.lines)) (λ r. six) (λ r. takes (lowest_free ix.live))))

  present_shape : (leaving : ℕ → Index) → OutcomeShape (where_present ix hash key leaving)
  unfolding where_present
  present_shape leaving = go (fits_index ix) refl (sound ix.live) refl (sought_in ix.live hash key) refl
    where
      go : (a : Bool) → fits_index ix ≡ a → (b : Bool) → sound ix.live ≡ b → (v : Value) → sought_in ix.live hash key ≡ v
          → OutcomeShape (where_present ix hash key leaving)
      go false e b f v g = rw e unfit
      go true e false f v g = rw (e, f) damaged
      go true e true f none g = rw (e, f, g) absent
      go true e true f (some x) g =
          rw (e, f, g) (picked OutcomeShape (eqb (length_of ix.lines) (lines_of ix.lines)) (λ r. unlined) (λ r. slot x))

  -- The slot is one of the tree's.
  module _ (p x : ℕ) where
    pub present_below : (inserts ix hash key p).answer ≡ record { number = 3; value = some x } → x < 4096
    present_below e = let r = ((claims.insert ix hash key p).three x).0 e in stands-below r.0.tree r.1.0 r.1.1

    pub taken-below : (inserts ix hash key p).answer ≡ given x → x < 4096
    taken-below e = let r = ((claims.insert ix hash key p).accepted x).0 e in omega (arith, few r.0.tree, r.1.2.inside)

  pub inserts_valued : (p : ℕ) → Tellable null (inserts ix hash key p).answer
  inserts_valued p = go (inserts_shape p) refl
    where
      go : {a : Answer} → InsertSays a → (inserts ix hash key p).answer ≡ a → Tellable null a
      go one e = (0, plainly 1 refl)
      go two e = (0, plainly 2 refl)
      go (three x) e = (x, present {x = x} (omega (arith, present_below p x e)))
      go five e = (0, plainly 5 refl)
      go six e = (0, plainly 6 refl)
      go (takes x) e = (x, gives {v = x} (omega (arith, taken-below p x e)))

  asks_valued : {o : Outcome} → OutcomeShape o → AsksPresent ix hash key o → Tellable null o.answer
  asks_valued s c = shaped s (λ x e. (let r = (c.accepted x).0 e in omega (arith, stands-below r.0.tree r.1.0 r.1.1)))

  pub removes_valued : Tellable null (removes ix hash key).answer
  unfolding removes
  removes_valued = asks_valued (present_shape (after_remove ix hash key)) (claims.remove ix hash key).asks

  pub replaces_valued : (p : ℕ) → Tellable null (replaces ix hash key p).answer
  unfolding replaces
  replaces_valued p = asks_valued (present_shape (after_replace ix hash key p)) (claims.replace ix hash key p).asks

module _ (ix : Index) where
  rolls_shape : (m : ℕ) → OutcomeShape (rolls ix m)
  unfolding rolls
  rolls_shape m = go (fits_index ix) refl (sound ix.live) refl (ltb (length_of ix.lines) m) refl undoing refl
    where
      undoing : Undo
      undoing = unrolled (length_of ix.lines - m) ix.live ix.lines m

      go : (a : Bool) → fits_index ix ≡ a → (b : Bool) → sound ix.live ≡ b → (c : Bool) → ltb (length_of ix.lines) m ≡ c
          → (u : Undo) → unrolled (length_of ix.lines - m) ix.live ix.lines m ≡ u
          → OutcomeShape (rolls ix m)
      go false e b f c g u i = rw e unfit
      go true e false f c g u i = rw (e, f) damaged
      go true e true f true g u i = rw (e, f, g) high
      go true e true f false g (stays t) i = rw (e, f, g, i) (slot (length_of ix.lines - m))
      go true e true f false g misfit i = rw (e, f, g, i) ill

  pub rolls_valued : (m : ℕ) → Tellable null (rolls ix m).answer
  rolls_valued m =
      shaped (rolls_shape m)
      (λ x e. (let r = ((claims.rollback ix m).accepted x).0 e in omega (arith, r.2, r.0.within, r.0.most)))

  pub freshes_valued : Tellable null (freshes ix).answer
  unfolding freshes
  freshes_valued =
      picked (λ (o : Outcome). Tellable null o.answer) (fits_lengths ix) (λ e. (1, gives {v = 1} (omega arith)))
      (λ e. (0, plainly 1 refl))

-- Yes or no, or 1.
verdict_valued : (a b : Bool) → Tellable null (pick a (pick b (given 1) (given 0)) (refused 1))
verdict_valued true true = (1, gives {v = 1} (omega arith))
verdict_valued true false = (0, gives {v = 0} (omega arith))
verdict_valued false b = (0, plainly 1 refl)

module _ (t : Live) where
  pub sounds_valued : Tellable null (sounds t)
  unfolding sounds
  sounds_valued = verdict_valued (fits t) (sound t)

  kths_shape : (k : ℕ) → Shape (kths t k)
  unfolding kths
  kths_shape k =
      picked Shape (fits t)
      (λ e. picked Shape (sound t) (λ f. picked Shape (ltb k (count_of t)) (λ g. slot _) (λ g. out)) (λ f. damaged)) (λ e. unfit)

  pub kths_valued : (k : ℕ) → Tellable null (kths t k)
  kths_valued k =
      shaped (kths_shape k) (λ x e. (let r = ((claims.kth t k).slot x).0 e in let h = r.1.0 in
      let l : k < length (slots h.tree) = omega (arith, r.1.1, length-map (slots h.tree) (entry_of t)) in
      omega (arith, stands-below r.0 h (nth_in (slots h.tree) k l), r.1.2)))

  positions_shape : (hash key : ℕ) → Shape (positions t hash key)
  unfolding positions
  positions_shape hash key =
      picked Shape (fits t) (λ e. picked Shape (sound t) (λ f.
      ranked_shape (rank_from (slots_of t.names) t.names t.cells t.sizes (root_of t) hash key 0)) (λ f. damaged)) (λ e. unfit)
    where
      ranked_shape : (v : Value) → Shape (ranked v)
      ranked_shape (some k) = slot k
      ranked_shape none = absent

  pub positions_valued : (hash key : ℕ) → Tellable null (positions t hash key)
  positions_valued hash key =
      shaped (positions_shape hash key) (λ k e. (let r = (claims.position t hash key).done_again k e in
      let q = ((claims.kth t k).slot r.0).0 r.1 in let h = q.1.0 in
      omega (
        arith,
        few q.0,
        q.1.1,
        length-map (slots h.tree) (entry_of t),
        rooted_most (slots_of t.names) t.cells (small q.0) (root_of t) h.t3.rooted,
      )))

pub accepts_valued : (s : Set) → Tellable null (accepts s)
unfolding accepts
accepts_valued s = verdict_valued (setFits s) (accepted s)

-- The source's check: a test from 1 to 8 fails at a slot.
module _ (names cells : List ℕ) where
  first_below_lem : (k t i : ℕ) → 1 ≤ t → first_from k names cells t i < t + k
  unfolding first_from
  first_below_lem zero t i l = omega arith
  first_below_lem (suc k) t i l =
      picked (λ (n : ℕ). n < t + suc k) (test names cells t i) (λ e. omega (arith, first_below_lem k (suc t) i (omega arith)))
      (λ e. omega arith)

  pub data CheckEnds : Walk → Type 0 where
    passes : {v : ℕ} → CheckEnds (passed v)
    stops : {t i : ℕ} → 1 ≤ t → t ≤ 8 → i < slots_of names → CheckEnds (failed t i)
    loses : CheckEnds strayed

  onward-ends : {w : Walk} (rest : ℕ → Walk) → CheckEnds w → ((v : ℕ) → CheckEnds (rest v)) → CheckEnds (onward w rest)
  onward-ends rest (passes {v}) again = again v
  onward-ends rest (stops l k b) again = stops l k b
  onward-ends rest loses again = loses

  fails_ends : (i : ℕ) → i < slots_of names → eqb (first_failing names cells i) 0 ≡ false
      → CheckEnds (failed (first_failing names cells i) i)
  unfolding first_failing
  fails_ends i b e =
      let d : first_from 8 names cells 1 i ≢ 0 = eqb-false (first_from 8 names cells 1 i) 0 e in
      let f = first_below_lem 8 1 i (omega arith) in
      stops {t = first_from 8 names cells 1 i} (omega arith) (omega arith) b

  walk_ends : (fuel i v : ℕ) → CheckEnds (walked fuel names cells i v)
  unfolding walked
  walk_ends zero i v = picked CheckEnds (eqb i null) (λ e. passes) (λ e. loses)
  walk_ends (suc fuel) i v =
      picked CheckEnds (eqb i null) (λ e. passes)
      (λ e. picked CheckEnds (leb (slots_of names) i) (λ f. loses)
      (λ f. picked CheckEnds (eqb v 0) (λ g. loses)
      (λ g. picked CheckEnds (links_in (slots_of names) cells i)
      (λ h. picked CheckEnds (eqb (first_failing names cells i) 0)
      (λ k. onward-ends (λ rest. walked fuel names cells (cell cells i right) rest) (walk_ends fuel (cell cells i left) (v - 1))
      (λ m. walk_ends fuel (cell cells i right) m))
      (λ k. fails_ends i (leb-false _ _ f) k))
      (λ h. loses))))

  ends_valued : {w : Walk} → slots_of names ≤ 4096 → CheckEnds w → Tellable 0 (walk_answer w)
  ends_valued l passes = (0, T.none (omega arith))
  ends_valued l (stops {t} {i} k m b) = (i, fails {t = t} {s = i} k m (omega arith))
  ends_valued l loses = (0, plainly 9 refl)

  pub checked_valued : (root : ℕ) → slots_of names ≤ 4096 → Tellable 0 (checked names cells root)
  unfolding checked
  checked_valued root l = ends_valued l (walk_ends (slots_of names) root (slots_of names))

pub checks_valued : (t : Unsized) → Tellable 0 (checks t)
unfolding checks
checks_valued t =
    picked (Tellable 0) (fits_unsized t)
    (λ e. (let fit = fits-unsized t e in checked_valued t.names t.cells (root_word t.head) (omega (arith, fit.two, fit.most))))
    (λ e. (0, plainly 1 refl))

-- A batch: the journal has a line for each call that was accepted, and is within its limit.
after_passes : (cs : List Call) (ix : Index) → FitIndex ix → Sound ix.live → FitIndex (after cs ix)
unfolding after
after_passes [] ix f h = f
after_passes (c ∷ cs) ix f h = let a = (claims.once_checked ix f h).again c in after_passes cs (called c ix).left a.0 a.1

called_valued : (c : Call) (ix : Index) → Tellable null (called c ix).answer
called_valued (insert_call hash key p) ix = inserts_valued ix hash key p
called_valued (remove_call hash key) ix = removes_valued ix hash key
called_valued (replace_call hash key p) ix = replaces_valued ix hash key p
called_valued (rollback_call m) ix = rolls_valued ix m

singly-told : (cs : List Call) (ix : Index) (rest : List ℕ) → EachTold (singly cs ix) (map answer_word (singly cs ix) ++ rest)
unfolding singly
singly-told [] ix rest = end
singly-told (c ∷ cs) ix rest = next (answer_tells (called_valued c ix).1) (singly-told cs (called c ix).left rest)

module _ (ix : Index) (calls answers : List ℕ) where
  abbrev made : Batched
  made = batches ix calls answers

  runs_shape : (m : ℕ) (jx : Index) (k : ℕ) (told : List ℕ) (n : ℕ) → Shape (runs m jx calls k told n).answer
  unfolding runs
  runs_shape zero jx k told n = slot n
  runs_shape (suc m) jx k told n = runs_shape m _ _ _ _

  batches_shape : Shape made.answer
  unfolding batches
  batches_shape =
      picked (λ (b : Batched). Shape b.answer) (fits_index ix and calls_fit calls answers)
      (λ e. picked (λ (b : Batched). Shape b.answer) (sound ix.live) (λ f. runs_shape (calls_in calls) ix 0 answers 0) (λ f. damaged))
      (λ e. unfit)

  few_accepted : (x : ℕ) → made.answer ≡ given x → FitIndex ix → Sound ix.live → FitCalls calls answers → x < null
  few_accepted x e f h c =
      let d = (claims.batch ix calls answers).done f h c in
      let g = after_passes c.made ix f h in
      omega (arith, d.1, g.within, g.most, given_is (sym e ∙ ap (λ (b : Batched). b.answer) d.0))

  -- What gives a value was neither 1 nor 2, so the words are fit and sound.
  accepted-below : (x : ℕ) → made.answer ≡ given x → x < null
  accepted-below x e = go (dec_lt x null)
    where
      go : Dec (x < null) → x < null
      go (yes l) = l
      go (no n) =
          let no_one : made.answer ≡ refused 1 → ⊥ = λ q. omega (arith, number (sym e ∙ q)) in
          let no-two : made.answer ≡ refused 2 → ⊥ = λ q. omega (arith, number (sym e ∙ q)) in
          absurd (no_one ((claims.batch ix calls answers).one.1 (λ f. no-two ((claims.batch ix calls answers).two.1
          (f, λ h. n (few_accepted x e f.0 h f.1))))))

  pub batches_valued : Tellable null made.answer
  batches_valued = shaped batches_shape accepted-below

  pub batch_told : BatchTold ix calls answers
  unfolding batch_worded answer_word
  batch_told =
      let t = word_tells null (λ e. refl) (omega arith) batches_valued.1 in
      record {
        tells = t;
        left = refl;
        refuses = λ n. ap (λ (b : Batched). b.answers) ((claims.batch ix calls answers).nothing_written (λ e. n (t.number ∙ e)));
        each = λ f h c. rw ((claims.batch ix calls answers).done f h c).0 (singly-told c.made ix _);
      }
