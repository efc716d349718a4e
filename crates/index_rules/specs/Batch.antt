-- "Take a slice of calls (replaces too) and a slice for answers, check once, and make the calls in order."
use Rattle.std.specs.Prelude.{◌≡◌, Bool, true, List, [], ◌∷◌, ◌++◌, map, ℕ, zero, suc, ◌+◌, ◌*◌, ◌/◌, ◌<◌, ◌≤◌, length, get_or, set, drop}
use Rattle.std.specs.Prelude.{eqb, leb, ltb}
use Rattle.slots.specs.Words.{pick, ◌and◌}
use Rattle.slots.specs.Answers.{Answer, given, refused, answer_word}
use Rattle.index_rules.specs.Sound.{sound}
use Rattle.index_rules.specs.Index.{Index, fits_index, insert_kind, remove_kind, replace_kind}
use Rattle.index_rules.specs.Calls.{Call, insert_call, remove_call, replace_call, called}

-- Four words a call: kind, hash, key, place. The kinds are those of a journal's line.
abbrev pub call_words : ℕ
call_words = 4

abbrev pub call_word : List ℕ → ℕ → ℕ → ℕ
call_word calls k f = get_or calls (call_words * k + f) 0

abbrev pub calls_in : List ℕ → ℕ
calls_in calls = length calls / call_words

-- A batch comes to its answer, and to what it leaves in the index and in the slice of answers.
pub record Batched : Type 0 where
  pub answer : Answer
  pub left : Index
  pub answers : List ℕ

abbrev pub batched : Answer → Index → List ℕ → Batched
batched a ix answers = record { answer = a; left = ix; answers = answers }

-- What the words of a whole slice of calls say, from number k on: "a call is of no known kind" where they say none, and a place is a 32-bit
-- word. The place of a remove is not read.
pub data Says (calls : List ℕ) : ℕ → List Call → Type 0 where
  end : {k : ℕ} → length calls ≡ call_words * k → Says calls k []
  insert : {k : ℕ} {cs : List Call} → call_word calls k 0 ≡ insert_kind → call_word calls k 3 < 4294967296 → Says calls (suc k) cs
      → Says calls k (insert_call (call_word calls k 1) (call_word calls k 2) (call_word calls k 3) ∷ cs)
  remove : {k : ℕ} {cs : List Call} → call_word calls k 0 ≡ remove_kind → Says calls (suc k) cs
      → Says calls k (remove_call (call_word calls k 1) (call_word calls k 2) ∷ cs)
  replace : {k : ℕ} {cs : List Call} → call_word calls k 0 ≡ replace_kind → call_word calls k 3 < 4294967296 → Says calls (suc k) cs
      → Says calls k (replace_call (call_word calls k 1) (call_word calls k 2) (call_word calls k 3) ∷ cs)

-- The slice says some calls, and there is an answer's word for each.
pub record FitCalls (calls answers : List ℕ) : Type 0 where
  pub made : List Call
  pub says : Says calls 0 made
  pub room : length made ≤ length answers

-- The answers of the same calls made singly, and how many of them are accepted.
unfoldable pub singly : List Call → Index → List Answer
singly [] ix = []
singly (c ∷ cs) ix = (called c ix).answer ∷ singly cs (called c ix).left

unfoldable pub accepted_in : List Answer → ℕ
accepted_in [] = 0
accepted_in (a ∷ l) = pick (eqb a.number 0) (1 + accepted_in l) (accepted_in l)

-- The answers' words in front, and behind them what stood there: "answers past the calls stay".
abbrev pub answered_with : List Answer → List ℕ → List ℕ
answered_with l answers = map answer_word l ++ drop (length l) answers

-- The tests of it.
unfoldable pub call_fits : List ℕ → ℕ → Bool
call_fits calls k =
    let kind = call_word calls k 0 in
    pick (eqb kind remove_kind) true (pick (eqb kind insert_kind) true (eqb kind replace_kind) and ltb (call_word calls k 3) 4294967296)

unfoldable pub all_fit : ℕ → List ℕ → Bool
all_fit zero calls = true
all_fit (suc m) calls = call_fits calls m and all_fit m calls

unfoldable pub calls_fit : List ℕ → List ℕ → Bool
calls_fit calls answers =
    let m = calls_in calls in
    eqb (length calls) (call_words * m) and leb m (length answers) and all_fit m calls

-- Call number k of the slice.
unfoldable pub call_at : List ℕ → ℕ → Call
call_at calls k =
    let kind = call_word calls k 0 in
    let hash = call_word calls k 1 in
    let key = call_word calls k 2 in
    let p = call_word calls k 3 in
    pick (eqb kind insert_kind) (insert_call hash key p) (pick (eqb kind remove_kind) (remove_call hash key) (replace_call hash key p))

-- So many calls from number k on, made in order; a were accepted before them. "a refused call in the middle does not stop the later ones".
unfoldable pub runs : ℕ → Index → List ℕ → ℕ → List ℕ → ℕ → Batched
runs zero ix calls k answers a = batched (given a) ix answers
runs (suc m) ix calls k answers a =
    let o = called (call_at calls k) ix in
    runs m o.left calls (suc k) (set answers k (answer_word o.answer)) (pick (eqb o.answer.number 0) (a + 1) a)

-- "1 also where the answer slice is shorter than the calls or a call is of no known kind, then 2; nothing is done."
unfoldable pub batches : Index → List ℕ → List ℕ → Batched
batches ix calls answers =
    pick (fits_index ix and calls_fit calls answers)
    (pick (sound ix.live) (runs (calls_in calls) ix calls 0 answers 0) (batched (refused 2) ix answers))
    (batched (refused 1) ix answers)
