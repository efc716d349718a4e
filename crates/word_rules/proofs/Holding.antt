-- Words written into a slice of the right length are all of it, so each stands where the rules' table has it, and is read there again. What
-- start and the walk leave is a cursor of eight indexes, written so, or the words as they were.
use mathlib.Core.Path.{◌≡◌, refl, ap, sym, ◌∙◌, subst}
use mathlib.Core.Logic.{◌≢◌, ◌↔◌}
use mathlib.Core.List.{List, [], ◌∷◌, ◌++◌}
use Prim.Native.Nat.{ℕ, zero, suc, ◌+◌, ◌/◌, ◌<◌}
use native.Mathlib.Decide.{ℕ_discrete}
use native.Mathlib.Omega.{arith}
use lib.ListN.{length, get_or, set, length-set, get_or-append}
use lib.Seq.{ext_get_or}
use lib.Dec.{eqb, leb, ltb}
use borrow.Author.Tests.{eq-eqb, ne_eqb, lt-ltb, le-ltb}
use Rattle.slots.specs.Words.{null, next, cell}
use Rattle.slots.specs.Answers.{Answer, given, nothing, answer_word}
use Rattle.slots.proofs.Laws.{number}
use Rattle.tree_rules.specs.Find.{slots_of}
use Rattle.set_rules.specs.Words.{Set, Fit, tables_of, length_at, first_at, Bin, empty, moved, bad, list, tree, fits}
use Rattle.set_rules.specs.Accepted.{Accepted}
use Rattle.set_rules.specs.Cursor.{Cursor, Step, starts, fine_cursor}
use Rattle.set_rules.specs.Walk.{WalkPoint, deepest, bin_here, further, advanced, Sought, entered, sought, turns_in, stepped, standing}
use Rattle.set_rules.specs.Walk.{steps_on, nexts}
use Rattle.set_rules.specs.Whole.{Listing}
use Rattle.set_rules.proofs.Claims.{claims}
use Rattle.word_rules.specs.Told as T
use Rattle.word_rules.specs.Told.{gives, refuses, WordTells}
use Rattle.word_rules.specs.Cursors.{cursor_in, written, left_in, of_eleven, started_cursor, walked_cursor}
use Rattle.word_rules.specs.Lent.{CursorWords}
use Rattle.word_rules.specs.Leaving.{RefusedBy, UnknownCursor, CursorMade, WalkTold, WordsListing, WordsWalk}
use Rattle.word_rules.proofs.Telling.{answers_apart, one_word, plainly, answer_tells}
use Rattle.word_rules.proofs.Answering.{Plain, slot, none, picked, plain_valued, plain-below, nexts-plain}
use Rattle.word_rules.proofs.Giving.{Tellable}

-- A list taken apart as far as its length is known.
pub data OfLength : ℕ → List ℕ → Type 0 where
  end : OfLength 0 []
  one : (x : ℕ) {n : ℕ} {w : List ℕ} → OfLength n w → OfLength (suc n) (x ∷ w)

long_of : (w : List ℕ) → OfLength (length w) w
long_of [] = end
long_of (x ∷ w) = one x (long_of w)

pub long : {n : ℕ} (w : List ℕ) → length w ≡ n → OfLength n w
long w e = subst (λ (n : ℕ). OfLength n w) e (long_of w)

-- What stands behind two words and before a last one.
between : (a b z : ℕ) (x : List ℕ) (j : ℕ) → j < length x → get_or (a ∷ b ∷ (x ++ (z ∷ []))) (2 + j) 0 ≡ get_or x j 0
between a b z x j l = let e : 2 + j ≡ suc (suc j) = omega arith in rw e (get_or-append x (z ∷ []) 0 j l)

-- The eleven words read are those of the table.
cursor_read : {w : List ℕ} → OfLength 11 w → CursorWords w (cursor_in w)
cursor_read (one a (one b (one p (one q (one r (one s (one t (one u (one v (one w (one z end))))))))))) =
    record {
      eleven = refl;
      base = refl;
      depth = refl;
      eight = refl;
      indexes = λ j l. between a b z (p ∷ q ∷ r ∷ s ∷ t ∷ u ∷ v ∷ w ∷ []) j l;
      last = refl;
    }

-- And so are the eleven words written.
cursor_write : {w x : List ℕ} → OfLength 11 w → OfLength 8 x → (b d l : ℕ)
    → CursorWords (written w (record { base = b; depth = d; indexes = x; last = l }))
    (record { base = b; depth = d; indexes = x; last = l })
unfolding written
cursor_write (one a (one b (one c (one d (one e (one f (one g (one h (one i (one j (one k end)))))))))))
    (one p (one q (one r (one s (one t (one u (one v (one w end)))))))) x y z =
    record {
      eleven = refl;
      base = refl;
      depth = refl;
      eight = refl;
      indexes = λ j l. between x y z (p ∷ q ∷ r ∷ s ∷ t ∷ u ∷ v ∷ w ∷ []) j l;
      last = refl;
    }

cursor_written : (w : List ℕ) (c : Cursor) → length w ≡ 11 → length c.indexes ≡ 8 → CursorWords (written w c) c
cursor_written w c e f = cursor_write (long w e) (long c.indexes f) c.base c.depth c.last

-- Words are one cursor.
one_cursor : {w : List ℕ} {c d : Cursor} → CursorWords w c → CursorWords w d → c ≡ d
one_cursor {w} {c} {d} p q =
    let e : c.base ≡ d.base = sym p.base ∙ q.base in
    let f : c.depth ≡ d.depth = sym p.depth ∙ q.depth in
    let g : c.last ≡ d.last = sym p.last ∙ q.last in
    let x : c.indexes ≡ d.indexes =
    ext_get_or 0 c.indexes d.indexes (p.eight ∙ sym q.eight)
    (λ j l. sym (p.indexes j (omega (arith, p.eight))) ∙ q.indexes j (omega (arith, p.eight))) in
    λ i. record { base = e i; depth = f i; indexes = x i; last = g i }

pub cursor_words : (w : List ℕ) → length w ≡ 11 → (c : Cursor) → (cursor_in w ≡ c) ↔ CursorWords w c
cursor_words w l c = (λ e. subst (CursorWords w) e (cursor_read (long w l)), λ h. one_cursor (cursor_read (long w l)) h)

-- A step keeps eight indexes.
advanced_long : (d : ℕ) (lengths : List ℕ) (base : ℕ) (x : List ℕ) → length (advanced d lengths base x).indexes ≡ length x
unfolding advanced
advanced_long zero lengths base x = length-set x 0 (get_or x 0 0 + 1)
advanced_long (suc d) lengths base x =
    picked (λ (p : WalkPoint). length p.indexes ≡ length x) (ltb (further lengths base d x) (get_or lengths (base + suc d) 0))
    (λ e. length-set x (suc d) (further lengths base d x))
    (λ e. advanced_long d lengths base (set x (suc d) 0) ∙ length-set x (suc d) 0)

module _ (s : Set) (c : Cursor) (eight : length c.indexes ≡ 8) where
  abbrev KeepsEight : Sought → Type 0
  KeepsEight g = length (stepped s c g).cursor.indexes ≡ 8

  sought_keeps : (turns base : ℕ) (p : WalkPoint) → length p.indexes ≡ 8 → KeepsEight (sought turns s base p)
  unfolding sought
  sought_keeps zero base p h = refl
  sought_keeps (suc turns) base p h =
      picked KeepsEight (leb (length_at s (base + p.depth)) (deepest p)) (λ e. refl)
      (λ e. go (bin_here s base p) (λ q g. sought_keeps turns base q g))
    where
      on : length (advanced p.depth s.lengths base p.indexes).indexes ≡ 8
      on = advanced_long p.depth s.lengths base p.indexes ∙ h

      go : (b : Bin) → ((q : WalkPoint) → length q.indexes ≡ 8 → KeepsEight (sought turns s base q))
          → KeepsEight (entered s base p b (λ q. sought turns s base q))
      go empty again = again _ on
      go moved again =
          picked KeepsEight (ltb (base + p.depth + 1) (tables_of s))
          (λ f. again _ (length-set p.indexes (suc p.depth) (deepest p) ∙ h))
          (λ f. eight)
      go bad again = eight
      go (list x) again = on
      go (tree h) again = picked KeepsEight (ltb (first_at s h) (slots_of s.names)) (λ f. on) (λ f. eight)

  abbrev EightAfter : Step → Type 0
  EightAfter r = length r.cursor.indexes ≡ 8

  nexts_eight : EightAfter (nexts s c)
  unfolding nexts steps_on
  nexts_eight =
      picked EightAfter (fits s)
      (λ e. picked EightAfter (fine_cursor s c)
      (λ f. picked EightAfter (eqb (cell s.cells c.last next) null)
      (λ g. sought_keeps (turns_in s c.base) c.base (standing c) refl)
      (λ g. picked EightAfter (ltb (cell s.cells c.last next) (slots_of s.names)) (λ h. refl) (λ h. eight)))
      (λ f. eight))
      (λ e. eight)

starts_eight : (s : Set) (t : ℕ) → length (starts s t).cursor.indexes ≡ 8
unfolding starts
starts_eight s t =
    picked (λ (r : Step). length r.cursor.indexes ≡ 8) (fits s)
    (λ e. picked (λ (r : Step). length r.cursor.indexes ≡ 8) (ltb t (tables_of s)) (λ f. refl) (λ f. refl)) (λ e. refl)

starts_valued : (s : Set) (t : ℕ) → Tellable null (starts s t).answer
unfolding starts
starts_valued s t =
    picked (λ (r : Step). Tellable null r.answer) (fits s)
    (λ e. picked (λ (r : Step). Tellable null r.answer) (ltb t (tables_of s)) (λ f. (1, gives {v = 1} (omega arith)))
    (λ f. (0, plainly 10 refl)))
    (λ e. (0, plainly 1 refl))

-- What a step leaves in eleven words: its cursor, where its word is no refusal's.
module _ (w : List ℕ) (r : Step) where
  module _ (l : length w ≡ 11) (h : Tellable null r.answer) where
    kept_tells : WordTells null r.answer (of_eleven w r).word
    kept_tells = rw (eq-eqb (length w) 11 l) (answer_tells h.1)

    kept_made : length r.cursor.indexes ≡ 8 → (of_eleven w r).word / 4294967296 ≡ 0 → CursorWords (of_eleven w r).cursor r.cursor
    unfolding left_in
    kept_made e z =
        let f : answer_word r.answer / 4294967296 ≡ 0 = rw (eq-eqb (length w) 11 l) at z in
        rw (eq-eqb (length w) 11 l, lt-ltb (answer_word r.answer) 4294967296 (omega arith)) (cursor_written w r.cursor l e)

  kept-refused : RefusedBy (of_eleven w r).word → (of_eleven w r).cursor ≡ w
  unfolding left_in
  kept-refused n = go (ℕ_discrete (length w) 11)
    where
      go : Dec (length w ≡ 11) → (of_eleven w r).cursor ≡ w
      go (yes l) =
          let f : answer_word r.answer / 4294967296 ≢ 0 = rw (eq-eqb (length w) 11 l) at n in
          rw (eq-eqb (length w) 11 l, le-ltb (answer_word r.answer) 4294967296 (omega arith))
      go (no d) = rw (ne_eqb (length w) 11 d)

  kept_another : length w ≢ 11 → UnknownCursor w (of_eleven w r)
  kept_another d =
      rw (ne_eqb (length w) 11 d) (answer_tells (plainly 1 refl), refl)

pub start_tells : (s : Set) (t : ℕ) (w : List ℕ) → CursorMade s t w
unfolding started_cursor
start_tells s t w =
    record {
      tells = λ l. kept_tells w (starts s t) l (starts_valued s t);
      made = λ l z. kept_made w (starts s t) l (starts_valued s t) (starts_eight s t) z;
      refuses = kept-refused w (starts s t);
      another = kept_another w (starts s t);
    }

-- A step of the walk that is refused hands the same cursor back.
refused_same : (s : Set) (c : Cursor) → (nexts s c).answer.number ≢ 0 → (nexts s c).cursor ≡ c
refused_same s c n = go (nexts-plain s c) refl
  where
    go : {a : Answer} → Plain 4096 a → (nexts s c).answer ≡ a → (nexts s c).cursor ≡ c
    go (slot l) e = absurd (n (number e))
    go none e = absurd (n (number e))
    go (Plain.refuses {m = m} l k d) e = ap (λ (r : Step). r.cursor) ((claims.walked.stepping s c).refuses m l e)

nexts_valued : (s : Set) (c : Cursor) → Tellable null (nexts s c).answer
nexts_valued s c = plain_valued (nexts-plain s c)

module _ (s : Set) (w : List ℕ) where
  -- The cursor that the words are is the one that is read.
  module _ (c : Cursor) (h : CursorWords w c) where
    is_read : cursor_in w ≡ c
    is_read = (cursor_words w h.eleven c).1 h

    walk_word : WordTells null (nexts s c).answer (walked_cursor s w).word
    unfolding walked_cursor
    walk_word = rw is_read (kept_tells w (nexts s c) h.eleven (nexts_valued s c))

    walk_steps : CursorWords (walked_cursor s w).cursor (nexts s c).cursor
    unfolding walked_cursor
    walk_steps = rw is_read (go (ℕ_discrete ((of_eleven w (nexts s c)).word / 4294967296) 0))
      where
        told : WordTells null (nexts s c).answer (of_eleven w (nexts s c)).word
        told = kept_tells w (nexts s c) h.eleven (nexts_valued s c)

        go : Dec ((of_eleven w (nexts s c)).word / 4294967296 ≡ 0) → CursorWords (of_eleven w (nexts s c)).cursor (nexts s c).cursor
        go (yes z) = kept_made w (nexts s c) h.eleven (nexts_valued s c) (nexts_eight s c h.eight) z
        go (no n) = rw (kept-refused w (nexts s c) n, refused_same s c (λ e. n (told.number ∙ e))) h

  pub walk_tells : WalkTold s w
  unfolding walked_cursor
  walk_tells =
      record {
        tells = walk_word;
        below = λ c. plain-below (nexts-plain s c);
        steps = walk_steps;
        refuses = kept-refused w (nexts s (cursor_in w));
        another = kept_another w (nexts s (cursor_in w));
      }

-- A word that is null is Done's, and a smaller one a slot's.
done-word : WordTells null nothing null
unfolding answer_word
done-word = answer_tells (T.none (omega arith))

slot_word : (x : ℕ) → x < null → WordTells null (given x) x
slot_word x l = record { beside = x; valued = gives l; number = omega arith; value = omega arith }

words_list : (s : Set) {w l : List ℕ} → WordsListing s w l → (c : Cursor) → CursorWords w c → Listing s c l
words_list s {w} (WordsListing.done e) c h = Listing.done (answers_apart ((walk_tells s w).tells c h) (rw e done-word))
words_list s {w} (WordsListing.step {x = x} e b k) c h =
    Listing.step {x = x} (answers_apart ((walk_tells s w).tells c h) (rw e (slot_word x b))) (words_list s k _ ((walk_tells s w).steps c h))

list_words : (s : Set) {c : Cursor} {l : List ℕ} → Listing s c l → (w : List ℕ) → CursorWords w c → WordsListing s w l
list_words s {c} (Listing.done e) w h = WordsListing.done (one_word (rw e at ((walk_tells s w).tells c h)) done-word)
list_words s {c} (Listing.step {x = x} e k) w h =
    let b = (walk_tells s w).below c x e in
    WordsListing.step {x = x} (one_word (rw e at ((walk_tells s w).tells c h)) (slot_word x (omega arith))) (omega arith)
    (list_words s k (walked_cursor s w).cursor ((walk_tells s w).steps c h))

pub walk_lists : (s : Set) (w : List ℕ) (c : Cursor) → CursorWords w c → (l : List ℕ) → WordsListing s w l ↔ Listing s c l
walk_lists s w c h l = (λ k. words_list s k c h, λ k. list_words s k w h)

pub walk_done : (s : Set) (w : List ℕ) → ((walked_cursor s w).word ≡ null) ↔ ((length w ≡ 11) × ((nexts s (cursor_in w)).answer ≡ nothing))
walk_done s w = (λ e. to e (ℕ_discrete (length w) 11), λ h. back h.0 h.1)
  where
    here : length w ≡ 11 → CursorWords w (cursor_in w)
    here l = (cursor_words w l (cursor_in w)).0 refl

    to : (walked_cursor s w).word ≡ null → Dec (length w ≡ 11) → (length w ≡ 11) × ((nexts s (cursor_in w)).answer ≡ nothing)
    to e (yes l) = (l, answers_apart ((walk_tells s w).tells (cursor_in w) (here l)) (rw e done-word))
    to e (no d) = absurd (omega (arith, ((walk_tells s w).another d).0.number))

    back : length w ≡ 11 → (nexts s (cursor_in w)).answer ≡ nothing → (walked_cursor s w).word ≡ null
    back l e = one_word (rw e at ((walk_tells s w).tells (cursor_in w) (here l))) done-word

pub walk_whole : (s : Set) → Fit s → Accepted s → (t : ℕ) → t < tables_of s → (w : List ℕ) → length w ≡ 11 → WordsWalk s t w
walk_whole s f a t b w l =
    let g = claims.walked.whole_walk s f a t b in
    let m = start_tells s t w in
    let e = ap (λ (r : Step). r.answer) ((claims.walked.starting s t).made.1 (f, b)) in
    let z : (started_cursor s t w).word / 4294967296 ≡ 0 = (m.tells l).number ∙ number e in
    let c = m.made l z in
    record {
      walk = g;
      same = λ k. (λ e. g.only k (words_list s e _ c), λ e. rw e (list_words s g.steps _ c));
    }
