-- A step of each way down, on plain values: each law takes what the reads and the tests gave, in the order of the code.
use Rattle.std.proofs.Common.{◌≡◌, ℕ, zero, suc, ◌+◌, ◌-◌, ◌<◌, ◌≤◌, Bool, true, false, eqb, ltb, ◌≢◌, List, get_or}
use Rattle.std.proofs.Common.{sym, refl, ◌∙◌, sub-one, arith, le-ltb, lt-ltb, eq-eqb, ne_eqb}
use Rattle.slots.specs.Words.{null, pick, left, right, cell, name_of, hash_part, key_part, sum}
use Rattle.slots.specs.Pairs.{before}
use Rattle.slots.specs.Answers.{some, none}
use Rattle.tree_rules.specs.Sizes.{size_word}
use Rattle.tree_rules.specs.Ranks.{kth_from, rank_from}

-- Down to a position.
module _ (cells sizes : List ℕ) (i k : ℕ) where
  pub kth_end : (steps : ℕ) → steps ≤ 0 → null ≡ kth_from steps cells sizes i k
  unfolding kth_from
  kth_end zero h = refl
  kth_end (suc steps) h = absurd (omega arith)

  module _ {l w : ℕ} (e1 : l ≡ cell cells i left) (e2 : w ≡ get_or sizes l 0) where
    kth_step : (steps : ℕ) → 0 < steps
        → kth_from steps cells sizes i k
        ≡ pick (ltb k w) (kth_from (steps - 1) cells sizes l k)
        (pick (eqb k w) i (kth_from (steps - 1) cells sizes (cell cells i right) (k - (w + 1))))
    unfolding kth_from
    kth_step zero h = absurd (omega arith)
    kth_step (suc steps) h = rw (sub-one, kth_from, ← e1, ← e2)

    module _ (steps : ℕ) (h : 0 < steps) where
      pub kth_here : k ≡ w → i ≡ kth_from steps cells sizes i k
      kth_here z = sym (kth_step steps h ∙ rw (le-ltb k w (omega arith), eq-eqb k w z))

      pub kth_left : k < w → kth_from (steps - 1) cells sizes l k ≡ kth_from steps cells sizes i k
      kth_left z = sym (kth_step steps h ∙ rw (lt-ltb k w z))

      pub kth_right : {r : ℕ} → w ≤ k → k ≢ w → r ≡ cell cells i right
          → kth_from (steps - 1) cells sizes r (k - w - 1) ≡ kth_from steps cells sizes i k
      kth_right {r} z d e3 =
          let q : k - (w + 1) ≡ k - w - 1 = omega arith in
          sym (kth_step steps h ∙ rw (le-ltb k w z, ne_eqb k w d, q, ← e3))

-- Down to a pair.
module _ (names cells sizes : List ℕ) (i hash key m : ℕ) where
  pub rank_end : (steps : ℕ) → steps ≤ 0 → none ≡ rank_from steps names cells sizes i hash key m
  unfolding rank_from
  rank_end zero h = refl
  rank_end (suc steps) h = absurd (omega arith)

  rank_step : (steps : ℕ) → 0 < steps → {at own l : ℕ} → at ≡ name_of names i hash_part → own ≡ name_of names i key_part
      → l ≡ cell cells i left
      → rank_from steps names cells sizes i hash key m
      ≡ pick (eqb i null) none (pick (before hash key at own) (rank_from (steps - 1) names cells sizes l hash key m)
      (pick (before at own hash key)
      (rank_from (steps - 1) names cells sizes (cell cells i right) hash key (sum (sum m (size_word sizes l)) 1))
      (some (sum m (size_word sizes l)))))
  unfolding rank_from
  rank_step zero h e1 e2 e3 = absurd (omega arith)
  rank_step (suc steps) h e1 e2 e3 = rw (sub-one, rank_from, ← e1, ← e2, ← e3)

  module _ (steps : ℕ) (h : 0 < steps) where
    pub rank_null : i ≡ null → none ≡ rank_from steps names cells sizes i hash key m
    rank_null z = sym (rank_step steps h refl refl refl ∙ rw (eq-eqb i null z))

    module _ (d : i ≢ null) {at own l : ℕ} (e1 : at ≡ name_of names i hash_part) (e2 : own ≡ name_of names i key_part)
        (e3 : l ≡ cell cells i left) {low : Bool} (e4 : low ≡ before hash key at own) where
      pub rank_left : low ≡ true → rank_from (steps - 1) names cells sizes l hash key m ≡ rank_from steps names cells sizes i hash key m
      rank_left z = sym (rank_step steps h e1 e2 e3 ∙ rw (ne_eqb i null d, ← e4, z))

      module _ {w : ℕ} (e5 : w ≡ get_or sizes l 0) {high : Bool} (e6 : high ≡ before at own hash key) (z : low ≡ false) where
        pub rank_here : {v : ℕ} → high ≡ false → v ≡ sum m w → some v ≡ rank_from steps names cells sizes i hash key m
        rank_here y e = sym (rank_step steps h e1 e2 e3 ∙ rw (ne_eqb i null d, ← e4, z, ← e6, y, ← e5, ← e))

        pub rank_right : {a b r : ℕ} → high ≡ true → a ≡ sum m w → b ≡ sum a 1 → r ≡ cell cells i right
            → rank_from (steps - 1) names cells sizes r hash key b ≡ rank_from steps names cells sizes i hash key m
        rank_right y ea eb er = sym (rank_step steps h e1 e2 e3 ∙ rw (ne_eqb i null d, ← e4, z, ← e6, y, ← e5, ← ea, ← eb, ← er))
