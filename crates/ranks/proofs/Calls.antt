-- What the two calls come to, on plain values: the full check's answer settles the tests, and the way down the rest.
use Rattle.std.proofs.Common.{◌≡◌, ℕ, ◌<◌, ◌≤◌, true, false, length, arith, le-ltb, lt-ltb}
use Rattle.slots.specs.Answers.{Value, given, refused}
use Rattle.tree_rules.specs.Find.{slots_of}
use Rattle.tree_rules.specs.Ranks.{kth_from, rank_from}
use Rattle.index_rules.specs.Live.{Live, root_of, count_of, fits}
use Rattle.index_rules.specs.Sound.{sound, sounds}
use Rattle.index_rules.specs.Ranks.{kths, ranked, positions}
use Rattle.index_rules.proofs.Fit.{fits_fit}
use Rattle.index_rules.proofs.Sounding.{told_unfit, told_no, told_yes}

-- What the full check's answer says.
module _ (t : Live) where
  unfit : refused 1 ≡ sounds t → fits t ≡ false
  unfolding sounds
  unfit e = told_unfit (fits t) (sound t) e

  damaged : given 0 ≡ sounds t → (fits t ≡ true) × (sound t ≡ false)
  unfolding sounds
  damaged e = told_no (fits t) (sound t) e

  fine : given 1 ≡ sounds t → (fits t ≡ true) × (sound t ≡ true)
  unfolding sounds
  fine e = told_yes (fits t) (sound t) e

  -- A tree that passes has no more names than 4,096 slots have.
  pub few : given 1 ≡ sounds t → length t.names ≤ 8192
  few e = let f = fits_fit t (fine e).0 in omega (arith, f.two, f.most)

  module _ (k : ℕ) where
    pub kth_unfit : refused 1 ≡ sounds t → refused 1 ≡ kths t k
    unfolding kths
    kth_unfit e = rw (unfit e)

    pub kth_damaged : given 0 ≡ sounds t → refused 2 ≡ kths t k
    unfolding kths
    kth_damaged e = let d = damaged e in rw (d.0, d.1)

    module _ (e : given 1 ≡ sounds t) {count : ℕ} (e1 : count ≡ count_of t) where
      pub kth_out : count ≤ k → refused 15 ≡ kths t k
      unfolding kths
      kth_out h = let d = fine e in rw (d.0, d.1, ← e1, le-ltb k count h)

      pub kth_at : {root x : ℕ} → k < count → root ≡ root_of t → x ≡ kth_from (slots_of t.names) t.cells t.sizes root k
          → given x ≡ kths t k
      unfolding kths
      kth_at h e2 e3 = let d = fine e in rw (d.0, d.1, ← e1, lt-ltb k count h, ← e2, ← e3)

  module _ (hash key : ℕ) where
    pub position_unfit : refused 1 ≡ sounds t → refused 1 ≡ positions t hash key
    unfolding positions
    position_unfit e = rw (unfit e)

    pub position_damaged : given 0 ≡ sounds t → refused 2 ≡ positions t hash key
    unfolding positions
    position_damaged e = let d = damaged e in rw (d.0, d.1)

    pub position_done : given 1 ≡ sounds t → {root : ℕ} {v : Value} → root ≡ root_of t
        → v ≡ rank_from (slots_of t.names) t.names t.cells t.sizes root hash key 0 → ranked v ≡ positions t hash key
    unfolding positions
    position_done e e1 e2 = let d = fine e in rw (d.0, d.1, ← e1, ← e2)
