-- How the tests of a dump's counts and of its length decide, on plain values.
use mathlib.Core.Path.{◌≡◌}
use mathlib.Core.List.{List}
use Prim.Native.Nat.{ℕ, ◌<◌, ◌≤◌}
use native.Mathlib.Omega.{arith}
use lib.ListN.{length}
use borrow.Author.Tests.{lt-ltb, le-ltb, le-leb, lt-leb}
use Rattle.slots.specs.Words.{most_slots, most_lines}
use Rattle.endian.specs.Bytes.{word_in}
use Rattle.dump_rules.specs.Dump.{dump_size, Measure, whole, stub, slots_out, lines_out, short, long, weighed, measured}

module _ (b n c : ℕ) {size : ℕ} (is : size ≡ dump_size n c) where
  pub weigh_short : b < size → short b n c ≡ weighed b n c
  unfolding weighed
  weigh_short h = rw (lt-ltb b (dump_size n c) (omega arith))

  pub weigh_long : size ≤ b → size < b → long n c ≡ weighed b n c
  unfolding weighed
  weigh_long h g = rw (le-ltb b (dump_size n c) (omega arith), lt-ltb (dump_size n c) b (omega arith))

  pub weigh_whole : size ≤ b → b ≤ size → whole n c ≡ weighed b n c
  unfolding weighed
  weigh_whole h g = rw (le-ltb b (dump_size n c) (omega arith), le-ltb (dump_size n c) b (omega arith))

module _ (l : List ℕ) where
  pub gauge_stub : length l < 8 → stub (length l) ≡ measured l
  unfolding measured
  gauge_stub h = rw (lt-ltb (length l) 8 h)

  module _ (counted : 8 ≤ length l) {n : ℕ} (first : n ≡ word_in 4 l 0) where
    pub gauge_none : n < 1 → slots_out n ≡ measured l
    unfolding measured
    gauge_none h = rw (le-ltb (length l) 8 counted, ← first, lt-leb 1 n h)

    pub gauge_many : 1 ≤ n → most_slots < n → slots_out n ≡ measured l
    unfolding measured
    gauge_many h g = rw (le-ltb (length l) 8 counted, ← first, le-leb 1 n h, lt-leb n most_slots g)

    module _ (some : 1 ≤ n) (few : n ≤ most_slots) {c : ℕ} (second : c ≡ word_in 4 l 1) where
      pub gauge_lines : most_lines < c → lines_out c ≡ measured l
      unfolding measured
      gauge_lines h =
          rw (le-ltb (length l) 8 counted, ← first, ← second, le-leb 1 n some, le-leb n most_slots few, lt-leb c most_lines h)

      pub gauge_weighed : c ≤ most_lines → {m : Measure} → m ≡ weighed (length l) n c → m ≡ measured l
      unfolding measured
      gauge_weighed h e =
          rw (le-ltb (length l) 8 counted, ← first, ← second, le-leb 1 n some, le-leb n most_slots few, le-leb c most_lines h) e
