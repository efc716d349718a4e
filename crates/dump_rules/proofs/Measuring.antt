-- What a measure says of the bytes, and when they are a whole dump.
use mathlib.Core.Path.{◌≡◌, refl, sym, ◌∙◌}
use mathlib.Core.Bool.{Bool, true, false}
use mathlib.Core.List.{List}
use Prim.Native.Nat.{ℕ, ◌<◌, ◌≤◌}
use native.Mathlib.Omega.{arith}
use lib.ListN.{length}
use lib.Dec.{leb, ltb}
use borrow.Author.Tests.{le-ltb, le-leb, leb-true, ltb-false}
use Rattle.slots.specs.Words.{pick, most_slots, most_lines, ◌and◌}
use Rattle.endian.specs.Bytes.{word_in}
use Rattle.dump_rules.specs.Dump.{dump_size, Measure, whole, stub, slots_out, lines_out, short, long, weighed, measured}

-- What is known of a whole dump.
pub record WholeDump (l : List ℕ) (n c : ℕ) : Type 0 where
  pub least : 1 ≤ n
  pub most : n ≤ most_slots
  pub lined : c ≤ most_lines
  pub size : length l ≡ dump_size n c
  pub first : word_in 4 l 0 ≡ n
  pub second : word_in 4 l 1 ≡ c

pub is_whole : {l : List ℕ} {n c : ℕ} → WholeDump l n c → measured l ≡ whole n c
unfolding measured weighed
is_whole {l} {n} {c} w =
    simp (
      le-ltb (length l) 8 (omega (arith, w.size)),
      w.first,
      w.second,
      le-leb 1 n w.least,
      le-leb n most_slots w.most,
      le-leb c most_lines w.lined,
      le-ltb (length l) (dump_size n c) (omega (arith, w.size)),
      le-ltb (dump_size n c) (length l) (omega (arith, w.size)),
    )

abbrev Says : List ℕ → Measure → Type 0
Says l (whole n c) = WholeDump l n c
Says l (stub b) = Unit {0}
Says l (slots_out n) = Unit {0}
Says l (lines_out c) = Unit {0}
Says l (short b n c) = Unit {0}
Says l (long n c) = Unit {0}

measured-says : (l : List ℕ) → Says l (measured l)
unfolding measured weighed
measured-says l =
    go (ltb (length l) 8) (leb 1 n) refl (leb n most_slots) refl (leb c most_lines) refl (ltb (length l) (dump_size n c)) refl
    (ltb (dump_size n c) (length l)) refl
  where
    n : ℕ
    n = word_in 4 l 0

    c : ℕ
    c = word_in 4 l 1

    go : (a x : Bool) → leb 1 n ≡ x → (y : Bool) → leb n most_slots ≡ y → (z : Bool) → leb c most_lines ≡ z
        → (u : Bool) → ltb (length l) (dump_size n c) ≡ u → (v : Bool) → ltb (dump_size n c) (length l) ≡ v
        → Says l (pick a (stub (length l))
        (pick (x and y) (pick z (pick u (short (length l) n c) (pick v (long n c) (whole n c))) (lines_out c)) (slots_out n)))
    go true x p y q z r u s v t = tt
    go false false p y q z r u s v t = tt
    go false true p false q z r u s v t = tt
    go false true p true q false r u s v t = tt
    go false true p true q true r true s v t = tt
    go false true p true q true r false s true t = tt
    go false true p true q true r false s false t =
        record {
          least = leb-true 1 n p;
          most = leb-true n most_slots q;
          lined = leb-true c most_lines r;
          size = omega (arith, ltb-false (length l) (dump_size n c) s, ltb-false (dump_size n c) (length l) t);
          first = refl;
          second = refl;
        }

pub whole_is : (l : List ℕ) {n c : ℕ} → measured l ≡ whole n c → WholeDump l n c
whole_is l e = rw e at (measured-says l)
