-- One pass strings each half by next, since no write of it goes to the next of a slot still to come. Then slots that are written as a list
-- are a list, and slots that are written as a chain are a chain. A slot that is none of them keeps all its words, and every slot its place.
use mathlib.Core.Path.{◌≡◌, refl, ap, sym, ◌∙◌}
use mathlib.Core.Logic.{◌≢◌}
use mathlib.Core.Bool.{Bool, true, false}
use mathlib.Core.List.{List, [], ◌∷◌}
use Prim.Native.Nat.{ℕ, zero, suc, ◌*◌, ◌<◌, ◌≤◌}
use native.Mathlib.Omega.{arith}
use lib.ListN.{length}
use lib.Dec.{eqb, ltb}
use borrow.Author.Tests.{eq-eqb, ne_eqb}
use Rattle.slots.specs.Words.{null, place, prev, next, fields, cell, write, roomy}
use Rattle.slots.proofs.Laws.{cell_same, cell_across, cell_else, roomy-write, length-write}
use Rattle.tree_rules.specs.Tree.{times}
use Rattle.tree_rules.specs.Chain.{Chain, ended, linked}
use Rattle.tree_rules.proofs.Counting.{times_head, times_rest, times_cases}
use Rattle.index_rules.proofs.Frames.{roomy_cells}
use Rattle.set_rules.specs.Accepted.{Listed, ListSlot}
use Rattle.set_rules.specs.Accepting.{is_home}
use Rattle.move_rules.specs.Passes.{halves_ended, threaded, plain_slot, plained, backed}
use Rattle.move_rules.proofs.Rows.{head_of, homed, away}
use Rattle.move_rules.proofs.Framing.{Untouched, list_slot_frame, listed_frame, listed_next, listed_in}

-- What the first slot is, the rest do not hold.
gone : (x : ℕ) (l : List ℕ) → ((k : ℕ) → times k (x ∷ l) ≤ 1) → times x l ≡ 0
gone x l once = omega (arith, once x, times_head x l)

other : {x k : ℕ} (l : List ℕ) → times k (x ∷ l) ≡ 0 → k ≢ x
other {x} {k} l z e = let y : times k (x ∷ l) ≡ times x (x ∷ l) = ap (λ (j : ℕ). times j (x ∷ l)) e in omega (arith, times_head x l)

-- The pass: the links of the two halves from the slots a and b on, and the words that it leaves.
pub record Threaded (n : ℕ) (cells : List ℕ) (a b : ℕ) (l low high made : List ℕ) : Type 0 where
  pub long : length made ≡ length cells
  pub aside : (k f : ℕ) → eqb next f ≡ false → ltb f fields ≡ true → cell made k f ≡ cell cells k f
  pub spares : (k : ℕ) → times k l ≡ 0 → k ≢ a → k ≢ b → Untouched cells made k
  pub low_next : a < n → cell made a next ≡ head_of low
  pub high_next : b < n → cell made b next ≡ head_of high
  pub lows : Listed n made (head_of low) low
  pub highs : Listed n made (head_of high) high

-- The slot a, where it is one, is neither b nor still to come.
pub record Past (n a b : ℕ) (l : List ℕ) : Type 0 where
  pub other : a < n → a ≢ b
  pub gone : a < n → times a l ≡ 0

module _ {n : ℕ} (cells : List ℕ) (a b : ℕ) (long : length cells ≡ 7 * n) where
  ended_pass : Past n a b [] → Threaded n cells a b [] [] [] (halves_ended cells a b)
  unfolding halves_ended
  ended_pass p =
      record {
        long = simp length-write;
        aside = λ k f e h. cell_across (write cells a next null) b next null k f e refl h ∙ cell_across cells a next null k f e refl h;
        spares = λ k z x y f h. cell_else (write cells a next null) b next null k f y refl h ∙ cell_else cells a next null k f x refl h;
        low_next = λ h. cell_else (write cells a next null) b next null a next (p.other h) refl refl
            ∙ cell_same cells a next null (roomy_cells cells a long h) refl;
        high_next = λ h. cell_same (write cells a next null) b next null
            (roomy-write cells a next null b ∙ roomy_cells cells b long h) refl;
        lows = Listed.ended refl;
        highs = Listed.ended refl;
      }

  -- A slot of the low half, and one of the high half.
  module _ (x : ℕ) (l low high : List ℕ) {made : List ℕ} (inside : x < n) where
    low_pass : Past n a b (x ∷ l) → Threaded n (write cells a next x) x b l low high made → Threaded n cells a b (x ∷ l) (x ∷ low) high made
    low_pass p r =
        record {
          long = r.long ∙ length-write cells a next x;
          aside = λ k f e h. r.aside k f e h ∙ cell_across cells a next x k f e refl h;
          spares = λ k z y w f h. r.spares k (omega (arith, times_rest k x l)) (other l z) w f h ∙ cell_else cells a next x k f y refl h;
          low_next = λ h. r.spares a (omega (arith, p.gone h, times_rest a x l)) (other l (p.gone h)) (p.other h) next refl
              ∙ cell_same cells a next x (roomy_cells cells a long h) refl;
          high_next = r.high_next;
          lows = Listed.onward {l = low} inside (rw (r.low_next inside) r.lows);
          highs = r.highs;
        }

    high_pass : Past n b a (x ∷ l) → Threaded n (write cells b next x) a x l low high made
        → Threaded n cells a b (x ∷ l) low (x ∷ high) made
    high_pass p r =
        record {
          long = r.long ∙ length-write cells b next x;
          aside = λ k f e h. r.aside k f e h ∙ cell_across cells b next x k f e refl h;
          spares = λ k z y w f h. r.spares k (omega (arith, times_rest k x l)) y (other l z) f h ∙ cell_else cells b next x k f w refl h;
          low_next = r.low_next;
          high_next = λ h. r.spares b (omega (arith, p.gone h, times_rest b x l)) (p.other h) (other l (p.gone h)) next refl
              ∙ cell_same cells b next x (roomy_cells cells b long h) refl;
          lows = r.lows;
          highs = Listed.onward {l = high} inside (rw (r.high_next inside) r.highs);
        }

-- What is past stays so.
past_more : {n a b x : ℕ} (l : List ℕ) → Past n a b (x ∷ l) → Past n a x l
past_more {a = a} {x = x} l p = record { other = λ h. other l (p.gone h); gone = λ h. omega (arith, p.gone h, times_rest a x l) }

-- Words that are written to a slot which is not still to come leave the list.
rest_listed : {n p : ℕ} {cells l : List ℕ} (a v : ℕ) → Listed n cells p l → (a < n → times a l ≡ 0) → Listed n (write cells a next v) p l
rest_listed {cells = cells} {l = l} a v r d = listed_frame (λ x z f b. cell_else cells a next v x f (λ e. apart x e z) refl b) r
  where
    apart : (x : ℕ) → x ≡ a → 1 ≤ times x l → ⊥
    apart x e z = let y : times x l ≡ times a l = ap (λ (j : ℕ). times j l) e in omega (arith, d (rw e at (listed_in r x z)))

pub threads : {n p : ℕ} {l : List ℕ} (v : ℕ) (names : List ℕ) (len i : ℕ) (cells : List ℕ) (a b : ℕ) → length cells ≡ 7 * n → n ≤ null
    → Listed n cells p l → length l ≤ v → ((k : ℕ) → times k l ≤ 1) → Past n a b l → Past n b a l
    → Threaded n cells a b l (homed names len i l) (away names len i l) (threaded v names len i cells a b p)
unfolding threaded homed away
threads zero names len i cells a b long small (Listed.ended e) h once p q = ended_pass cells a b long p
threads (suc v) names len i cells a b long small (Listed.ended {i = x} e) h once p q = rw (eq-eqb x null e) (ended_pass cells a b long p)
threads zero names len i cells a b long small (Listed.onward w r) h once p q = absurd (omega arith)
threads {n} (suc v) names len i cells a b long small (Listed.onward {i = x} {l} w r) h once p q =
    go (is_home names len i x) refl
    (threads {p = cell cells x next} v names len i (write cells a next x) x b (length-write cells a next x ∙ long) small
    (rest_listed a x r (past p)) (omega arith) rest_once (fresh b q) (past_more l q))
    (threads {p = cell cells x next} v names len i (write cells b next x) a x (length-write cells b next x ∙ long) small
    (rest_listed b x r (past q)) (omega arith) rest_once (past_more l p) (fresh a p))
  where
    rest_once : (k : ℕ) → times k l ≤ 1
    rest_once k = omega (arith, once k, times_rest k x l)

    past : {c d : ℕ} → Past n c d (x ∷ l) → c < n → times c l ≡ 0
    past {c} w z = omega (arith, w.gone z, times_rest c x l)

    -- x is now past, and it is not the slot c of the other half
    fresh : {d : ℕ} (c : ℕ) → Past n c d (x ∷ l) → Past n x c l
    fresh c w = record { other = λ h e. other l (w.gone (rw e at h)) (sym e); gone = λ h. gone x l once }

    go : (t : Bool) → is_home names len i x ≡ t
        → Threaded n (write cells a next x) x b l (homed names len i l) (away names len i l)
        (threaded v names len i (write cells a next x) x b (cell cells x next))
        → Threaded n (write cells b next x) a x l (homed names len i l) (away names len i l)
        (threaded v names len i (write cells b next x) a x (cell cells x next))
        → Threaded n cells a b (x ∷ l) (homed names len i (x ∷ l)) (away names len i (x ∷ l)) (threaded (suc v) names len i cells a b x)
    go true e r s =
        rw (ne_eqb x null (omega arith), e) (low_pass cells a b long x l (homed names len i l) (away names len i l) w p r)
    go false e r s =
        rw (ne_eqb x null (omega arith), e) (high_pass cells a b long x l (homed names len i l) (away names len i l) w q s)

-- One slot of a list.
module _ {n : ℕ} (cells : List ℕ) (x : ℕ) (long : length cells ≡ 7 * n) (inside : x < n) where
  room : roomy fields cells x ≡ true
  room = roomy_cells cells x long inside

  plain_long : length (plain_slot cells x) ≡ length cells
  unfolding plain_slot
  plain_long = simp length-write

  plain_slot_lem : ListSlot (plain_slot cells x) x
  unfolding plain_slot
  plain_slot_lem =
      record {
        states = simp (cell_across, cell_same, room);
        parents = simp (cell_across, cell_same, roomy-write, room);
        lefts = simp (cell_across, cell_same, roomy-write, room);
        rights = simp (cell_across, cell_same, roomy-write, room);
        prevs = simp (cell_same, roomy-write, room);
      }

  plain-next : (k : ℕ) → cell (plain_slot cells x) k next ≡ cell cells k next
  unfolding plain_slot
  plain-next k = simp cell_across

  plain-place : (k : ℕ) → cell (plain_slot cells x) k place ≡ cell cells k place
  unfolding plain_slot
  plain-place k = simp cell_across

  plain_else : (k : ℕ) → k ≢ x → Untouched cells (plain_slot cells x) k
  unfolding plain_slot
  plain_else k d f b = simp (cell_else, b)

pub record Lined (cells l made : List ℕ) : Type 0 where
  pub long : length made ≡ length cells
  pub spares : (k : ℕ) → times k l ≡ 0 → Untouched cells made k
  pub places : (k : ℕ) → cell made k place ≡ cell cells k place
  pub nexts : (k : ℕ) → cell made k next ≡ cell cells k next
  pub plain : (k : ℕ) → 1 ≤ times k l → ListSlot made k

none_lined : (cells : List ℕ) → Lined cells [] cells
unfolding times
none_lined cells =
    record { long = refl; spares = λ k z f b. refl; places = λ k. refl; nexts = λ k. refl; plain = λ k z. absurd (omega arith) }

-- One more slot before a list.
line_one : {n : ℕ} (cells : List ℕ) (x : ℕ) (l : List ℕ) {made : List ℕ} → length cells ≡ 7 * n → x < n → ((k : ℕ) → times k (x ∷ l) ≤ 1)
    → Lined (plain_slot cells x) l made → Lined cells (x ∷ l) made
line_one {n} cells x l {made} long in-x once rest =
    record {
      long = rest.long ∙ plain_long cells x long in-x;
      spares = λ k z f b. rest.spares k (omega (arith, times_rest k x l)) f b ∙ plain_else cells x long in-x k (other l z) f b;
      places = λ k. rest.places k ∙ plain-place cells x long in-x k;
      nexts = λ k. rest.nexts k ∙ plain-next cells x long in-x k;
      plain = λ k z. times_cases k x l z
          (λ e. rw e (list_slot_frame x (rest.spares x (gone x l once)) (plain_slot_lem cells x long in-x))) (λ y. rest.plain k y);
    }

pub plain_list : {n p : ℕ} {l : List ℕ} (v : ℕ) (cells : List ℕ) → length cells ≡ 7 * n → n ≤ null → Listed n cells p l → length l ≤ v
    → ((k : ℕ) → times k l ≤ 1) → Lined cells l (plained v cells p)
unfolding plained
plain_list zero cells long small (Listed.ended e) h once = none_lined cells
plain_list (suc v) cells long small (Listed.ended {i} e) h once = rw (eq-eqb i null e) (none_lined cells)
plain_list zero cells long small (Listed.onward w r) h once = absurd (omega arith)
plain_list (suc v) cells long small (Listed.onward {i = x} {l} w r) h once =
    rw (ne_eqb x null (omega arith))
    (line_one cells x l long w once
    (plain_list {p = cell cells x next} v (plain_slot cells x) (plain_long cells x long w ∙ long) small
    (listed_next (plain-next cells x long w) r) (omega arith) (λ k. omega (arith, once k, times_rest k x l))))

-- The prevs of a chain.
pub record Backed (n : ℕ) (cells : List ℕ) (q : ℕ) (l made : List ℕ) : Type 0 where
  pub long : length made ≡ length cells
  pub spares : (k : ℕ) → times k l ≡ 0 → Untouched cells made k
  pub places : (k : ℕ) → cell made k place ≡ cell cells k place
  pub nexts : (k : ℕ) → cell made k next ≡ cell cells k next
  pub chain : {i : ℕ} → Listed n cells i l → Chain n made q i l

back_one : {n : ℕ} (cells : List ℕ) (q x : ℕ) (l : List ℕ) {made : List ℕ} → length cells ≡ 7 * n → x < n
    → ((k : ℕ) → times k (x ∷ l) ≤ 1) → Backed n (write cells x prev q) x l made → Backed n cells q (x ∷ l) made
back_one {n} cells q x l {made} long in-x once rest =
    record {
      long = rest.long ∙ length-write cells x prev q;
      spares = λ k z f b. rest.spares k (omega (arith, times_rest k x l)) f b ∙ cell_else cells x prev q k f (other l z) refl b;
      places = λ k. rest.places k ∙ simp cell_across;
      nexts = λ k. rest.nexts k ∙ simp cell_across;
      chain = chain;
    }
  where
    chain : {i : ℕ} → Listed n cells i (x ∷ l) → Chain n made q i (x ∷ l)
    chain (Listed.onward b r) =
        linked {l = l} b (rest.spares x (gone x l once) prev refl ∙ cell_same cells x prev q (roomy_cells cells x long in-x) refl)
        (rw (rest.nexts x ∙ cell_across cells x prev q x next refl refl refl)
        (rest.chain (listed_next (λ k. cell_across cells x prev q k next refl refl refl) r)))

none_backed : {n : ℕ} (cells : List ℕ) (q : ℕ) → Backed n cells q [] cells
none_backed {n} cells q =
    record { long = refl; spares = λ k z f b. refl; places = λ k. refl; nexts = λ k. refl; chain = chain }
  where
    chain : {i : ℕ} → Listed n cells i [] → Chain n cells q i []
    chain (Listed.ended e) = ended e

pub backed_chain : {n p : ℕ} {l : List ℕ} (v : ℕ) (cells : List ℕ) (q : ℕ) → length cells ≡ 7 * n → n ≤ null → Listed n cells p l
    → length l ≤ v → ((k : ℕ) → times k l ≤ 1) → Backed n cells q l (backed v cells q p)
unfolding backed
backed_chain zero cells q long small (Listed.ended e) h once = none_backed cells q
backed_chain (suc v) cells q long small (Listed.ended {i} e) h once = rw (eq-eqb i null e) (none_backed cells q)
backed_chain zero cells q long small (Listed.onward w r) h once = absurd (omega arith)
backed_chain (suc v) cells q long small (Listed.onward {i = x} {l} w r) h once =
    rw (ne_eqb x null (omega arith))
    (back_one cells q x l long w once
    (backed_chain {p = cell cells x next} v (write cells x prev q) x (length-write cells x prev q ∙ long) small
    (listed_next (λ k. cell_across cells x prev q k next refl refl refl) r) (omega arith) (λ k. omega (arith, once k, times_rest k x l))))
