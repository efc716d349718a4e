-- A rising list: what stands before a slot has a lower pair, what stands after a higher one, and its parts rise.
use Rattle.std.proofs.Common.{ℕ, ◌≤◌, List, [], ◌∷◌, ◌++◌, arith}
use Rattle.slots.specs.Pairs.{Pair, pair_of, Less}
use Rattle.tree_rules.specs.Tree.{times, Below, Rising, empty, rise}
use Rattle.tree_rules.proofs.Counting.{times_append, times_head, times_cases}

below_at : {names : List ℕ} {p : Pair} {l : List ℕ} (k : ℕ) → Below names p l → 1 ≤ times k l → Less p (pair_of names k)
unfolding times
below_at k Below.last z = absurd (omega arith)
below_at {names} {p = p} k (Below.before {i} {l} h b) z = times_cases k i l z (λ e. rw e h) (λ y. below_at k b y)

pub rising_after : {names : List ℕ} (a : List ℕ) (i : ℕ) (b : List ℕ) (k : ℕ) → Rising names (a ++ (i ∷ b)) → 1 ≤ times k b
    → Less (pair_of names i) (pair_of names k)
rising_after [] i b k (rise h r) z = below_at k h z
rising_after (x ∷ a) i b k (rise h r) z = rising_after a i b k r z

pub rising_before : {names : List ℕ} (a : List ℕ) (i : ℕ) (b : List ℕ) (k : ℕ) → Rising names (a ++ (i ∷ b)) → 1 ≤ times k a
    → Less (pair_of names k) (pair_of names i)
unfolding times
rising_before [] i b k r z = absurd (omega arith)
rising_before {names} (x ∷ a) i b k (rise h r) z =
    times_cases k x a z (λ e. rw e (below_at i h (omega (arith, times_append i a (i ∷ b), times_head i b))))
    (λ y. rising_before a i b k r y)

below_front : {names : List ℕ} {p : Pair} (a b : List ℕ) → Below names p (a ++ b) → Below names p a
below_front [] b h = Below.last
below_front (x ∷ a) b (Below.before h r) = Below.before h (below_front a b r)

pub rising_front : {names : List ℕ} (a b : List ℕ) → Rising names (a ++ b) → Rising names a
rising_front [] b r = empty
rising_front (x ∷ a) b (rise h r) = rise (below_front a b h) (rising_front a b r)

pub rising_back : {names : List ℕ} (a b : List ℕ) → Rising names (a ++ b) → Rising names b
rising_back [] b r = r
rising_back (x ∷ a) b (rise h r) = rising_back a b r

pub rising_tail : {names : List ℕ} {i : ℕ} {l : List ℕ} → Rising names (i ∷ l) → Rising names l
rising_tail (rise h r) = r
