-- What find, lookup and the walk answer is one of at most 4,096 slots, Nothing or a refusal without a value; so its word tells which.
use mathlib.Core.Path.{◌≡◌, refl, sym, ◌∙◌}
use mathlib.Core.Logic.{◌≢◌}
use mathlib.Core.Bool.{Bool, true, false, false≢true}
use mathlib.Core.List.{List}
use Prim.Native.Nat.{ℕ, zero, suc, ◌+◌, ◌-◌, ◌<◌, ◌≤◌}
use native.Mathlib.Omega.{arith}
use lib.ListN.{length}
use lib.Dec.{eqb, leb, ltb}
use borrow.Author.Tests.{leb-false, ltb-true}
use Rattle.slots.specs.Words.{null, pick, next, cell}
use Rattle.slots.specs.Answers.{Answer, given, nothing, refused, answer_word}
use Rattle.slots.proofs.Laws.{number, given_is, nothing-given}
use Rattle.tree_rules.specs.Find.{Look, here, on, Search, counted, looked_then, slots_of, looked, searched, found}
use Rattle.index_rules.specs.Live.{Unsized, root_word, fits_unsized}
use Rattle.index_rules.specs.Find.{finds}
use Rattle.index_rules.proofs.Fit.{unsized-fits, fits-unsized}
use Rattle.index_rules.proofs.Reading.{find_claims}
use Rattle.set_rules.specs.Words.{Set, tables_of, length_at, headers_in, root_at, first_at, Bin, empty, moved, bad, list, tree}
use Rattle.set_rules.specs.Words.{fits as setFits}
use Rattle.set_rules.proofs.Fit.{fits_fit as set-fit, fit_fits as set-fits, slots_are}
use Rattle.set_rules.proofs.Gates.{lookups_claims}
use Rattle.set_rules.proofs.Naming.{ranges}
use Rattle.set_rules.specs.Lookup.{list_look, sought_in_list, home_bin, asked, forwarded, lookups}
use Rattle.set_rules.specs.Cursor.{Cursor, Step, fine_cursor}
use Rattle.set_rules.specs.Walk.{WalkPoint, deepest, bin_here, Sought, entered, sought, turns_in, stepped, standing, steps_on, nexts}
use Rattle.word_rules.specs.Words.{search_word}
use Rattle.word_rules.specs.Told as T
use Rattle.word_rules.specs.Told.{Valued, gives, LooksTold}
use Rattle.word_rules.proofs.Telling.{answer_tells, told_below, looks_told}

-- The three kinds of answer, where there are n slots.
pub data Plain (n : ℕ) : Answer → Type 0 where
  slot : {x : ℕ} → x < n → Plain n (given x)
  none : Plain n nothing
  refuses : {m : ℕ} → 1 ≤ m → m ≤ 11 → m ≢ 3 → Plain n (refused m)

more : {m n : ℕ} {a : Answer} → m ≤ n → Plain m a → Plain n a
more l (slot {x = x} b) = slot {x = x} (omega arith)
more l none = none
more l (refuses b c d) = refuses b c d

nine : {n : ℕ} → Plain n (refused 9)
nine = refuses {m = 9} (omega arith) (omega arith) (λ e. omega arith)

-- What holds of both ways of a test holds of the test.
pub picked : {A : Type 0} (P : A → Type 0) (b : Bool) {x y : A} → (b ≡ true → P x) → (b ≡ false → P y) → P (pick b x y)
picked P true f g = f refl
picked P false f g = g refl

-- The search of a tree, and of a list.
module _ (names cells : List ℕ) (hash key : ℕ) where
  abbrev Found : Search → Type 0
  Found r = Plain (slots_of names) r.answer

  after-plain : (p : ℕ) → p < slots_of names → (rest : ℕ → Search) (l : Look) → ((q : ℕ) → Found (rest q)) → Found (looked_then l p rest)
  after-plain p b rest here again = slot b
  after-plain p b rest (on q) again = again q

  searched-plain : (v p : ℕ) → Found (searched names cells v p hash key)
  unfolding searched
  searched-plain zero p = picked Found (eqb p null) (λ e. none) (λ e. nine)
  searched-plain (suc v) p =
      picked Found (eqb p null) (λ e. none)
      (λ e. picked Found (leb (slots_of names) p) (λ f. nine)
      (λ f. after-plain p (leb-false _ _ f) (λ q. searched names cells v q hash key) (looked names cells p hash key)
      (λ q. searched-plain v q)))

  found_plain : (root : ℕ) → Found (found names cells root hash key)
  unfolding found
  found_plain root = searched-plain (slots_of names) root

  listed_plain : (v p : ℕ) → Found (sought_in_list names cells v p hash key)
  unfolding sought_in_list
  listed_plain zero p = picked Found (eqb p null) (λ e. none) (λ e. nine)
  listed_plain (suc v) p =
      picked Found (eqb p null) (λ e. none)
      (λ e. picked Found (leb (slots_of names) p) (λ f. nine)
      (λ f. after-plain p (leb-false _ _ f) (λ q. sought_in_list names cells v q hash key) (list_look names cells p hash key)
      (λ q. listed_plain v q)))

-- An answer with whatever looks.
abbrev Told : Search → Type 0
Told s = Plain 4096 s.answer

pub finds-plain : (t : Unsized) (hash key : ℕ) → Plain 4096 (finds t hash key).answer
unfolding finds
finds-plain t hash key =
    picked Told (fits_unsized t)
    (λ e. (let fit = fits-unsized t e in
    more (omega (arith, fit.two, fit.most)) (found_plain t.names t.cells hash key (root_word t.head))))
    (λ e. refuses {m = 1} (omega arith) (omega arith) (λ e. omega arith))

-- The loop over the tables.
module _ (s : Set) (hash key : ℕ) where
  forwarded-plain : (tables k : ℕ) → Plain (slots_of s.names) (forwarded tables s k hash key).answer
  unfolding forwarded
  forwarded-plain zero k = nine
  forwarded-plain (suc tables) k = go (home_bin s k hash) (forwarded-plain tables (suc k))
    where
      go : (b : Bin) → Plain (slots_of s.names) (forwarded tables s (suc k) hash key).answer
          → Plain (slots_of s.names) (asked s b hash key (forwarded tables s (suc k) hash key)).answer
      go empty rest = none
      go moved rest = rest
      go bad rest = nine
      go (list p) rest = listed_plain s.names s.cells hash key (slots_of s.names) p
      go (tree h) rest = found_plain s.names s.cells hash key (root_at s h)

few : (s : Set) → setFits s ≡ true → slots_of s.names ≤ 4096
few s e = let fit = set-fit s e in omega (arith, slots_are fit, fit.slots_most)

pub lookups-plain : (s : Set) (t hash key : ℕ) → Plain 4096 (lookups s t hash key).answer
unfolding lookups
lookups-plain s t hash key =
    picked Told (setFits s)
    (λ e. picked Told (ltb t (tables_of s)) (λ f. more (few s e) (forwarded-plain s hash key (tables_of s - t) t))
    (λ f. refuses {m = 10} (omega arith) (omega arith) (λ e. omega arith)))
    (λ e. refuses {m = 1} (omega arith) (omega arith) (λ e. omega arith))

-- A step of the walk.
module _ (s : Set) (c : Cursor) where
  abbrev Gives : Sought → Type 0
  Gives g = Plain (slots_of s.names) (stepped s c g).answer

  sought-plain : (turns base : ℕ) (p : WalkPoint) → Gives (sought turns s base p)
  unfolding sought
  sought-plain zero base p = none
  sought-plain (suc turns) base p =
      picked Gives (leb (length_at s (base + p.depth)) (deepest p)) (λ e. none)
      (λ e. go (bin_here s base p) refl (λ q. sought-plain turns base q))
    where
      go : (b : Bin) → bin_here s base p ≡ b → ((q : WalkPoint) → Gives (sought turns s base q))
          → Gives (entered s base p b (λ q. sought turns s base q))
      go empty e again = again _
      go moved e again = picked Gives (ltb (base + p.depth + 1) (tables_of s)) (λ f. again _) (λ f. nine)
      go bad e again = nine
      go (list x) e again = slot (((ranges (slots_of s.names) (headers_in s) _).lists x).0 e).3
      go (tree h) e again = picked Gives (ltb (first_at s h) (slots_of s.names)) (λ f. slot (ltb-true _ _ f)) (λ f. nine)

  abbrev Steps : Step → Type 0
  Steps r = Plain (slots_of s.names) r.answer

  walked-plain : Steps (steps_on s c)
  unfolding steps_on
  walked-plain =
      picked Steps (eqb (cell s.cells c.last next) null) (λ e. sought-plain (turns_in s c.base) c.base (standing c))
      (λ e. picked Steps (ltb (cell s.cells c.last next) (slots_of s.names)) (λ f. slot (ltb-true _ _ f)) (λ f. nine))

  pub nexts-plain : Plain 4096 (nexts s c).answer
  unfolding nexts
  nexts-plain =
      picked (λ (r : Step). Plain 4096 r.answer) (setFits s)
      (λ e. picked (λ (r : Step). Plain 4096 r.answer) (fine_cursor s c) (λ f. more (few s e) walked-plain)
      (λ f. refuses {m = 11} (omega arith) (omega arith) (λ e. omega arith)))
      (λ e. refuses {m = 1} (omega arith) (omega arith) (λ e. omega arith))

-- The value of each kind, and the bound of a slot.
pub plain_valued : {a : Answer} → Plain 4096 a → (v : ℕ) × Valued null a v
plain_valued (slot {x = x} l) = (x, gives {v = x} (omega arith))
plain_valued none = (null, T.none (omega arith))
plain_valued (refuses l k d) = (0, T.refuses l (omega arith) d)

pub plain-below : {a : Answer} → Plain 4096 a → (x : ℕ) → a ≡ given x → x < 4096
plain-below (slot l) x e = omega (arith, given_is e)
plain-below none x e = absurd (nothing-given e)
plain-below (refuses l k d) x e = absurd (omega (arith, number e))

-- Its word has 48 bits.
pub answer_below : {a : Answer} → Plain 4096 a → answer_word a < 281474976710656
answer_below p = told_below (answer_tells (plain_valued p).1)

pub finds_looks : (t : Unsized) (hash key : ℕ) → length (finds t hash key).looks ≤ 4096
finds_looks t hash key = go (fits_unsized t) refl
  where
    go : (b : Bool) → fits_unsized t ≡ b → length (finds t hash key).looks ≤ 4096
    go true e = let fit = fits-unsized t e in omega (arith, fit.two, fit.most, ((find_claims t hash key).looks fit).most)
    go false e = rw ((find_claims t hash key).unfit_looks (λ fit. false≢true (sym e ∙ unsized-fits t fit))) (omega arith)

pub lookups_looks : (s : Set) (t hash key : ℕ) → length (lookups s t hash key).looks ≤ 4096
lookups_looks s t hash key = go (setFits s) refl
  where
    go : (b : Bool) → setFits s ≡ b → length (lookups s t hash key).looks ≤ 4096
    go true e = omega (arith, few s e, (lookups_claims s t hash key).most)
    go false e = rw ((lookups_claims s t hash key).one_looks (λ fit. false≢true (sym e ∙ set-fits fit))) (omega arith)

pub find_tells : (t : Unsized) (hash key : ℕ) → LooksTold (finds t hash key) (search_word (counted (finds t hash key)))
find_tells t hash key =
    let p = finds-plain t hash key in looks_told (finds t hash key) (plain_valued p).1 (plain-below p) (finds_looks t hash key)

pub lookup_tells : (s : Set) (t hash key : ℕ) → LooksTold (lookups s t hash key) (search_word (counted (lookups s t hash key)))
lookup_tells s t hash key =
    let p = lookups-plain s t hash key in looks_told (lookups s t hash key) (plain_valued p).1 (plain-below p) (lookups_looks s t hash key)
