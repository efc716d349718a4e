-- What one step of each walk comes to: at null or at the end, with no visits left, and at a slot, a header or a bin.
-- Parts: the numbers of the recursion over tables; a list and a chain; the two tests of a list's slot, and which lists
-- are long; what is counted; a bin, the two below it and table 0.
use mathlib.Core.Path.{◌≡◌, refl, sym, ◌∙◌}
use mathlib.Core.Logic.{◌≢◌}
use mathlib.Core.Bool.{Bool, true, false}
use mathlib.Core.List.{List, []}
use Prim.Native.Nat.{ℕ, zero, suc, ◌+◌, ◌-◌, ◌*◌, ◌<◌, ◌≤◌}
use native.Mathlib.Numerals.{sub-one, add-one}
use native.Mathlib.Omega.{arith}
use lib.ListN.{get_or}
use lib.Dec.{ltb}
use borrow.Author.Tests.{eq-eqb, ne_eqb, ltb-true}
use Rattle.slots.specs.Words.{null, pick, left, next, cell, most_slots, ◌and◌}
use Rattle.slots.specs.Answers.{Value, none, some}
use Rattle.tree_rules.specs.Rules.{then}
use Rattle.tree_rules.specs.Find.{slots_of}
use Rattle.tree_rules.specs.Chain.{tally}
use Rattle.index_rules.proofs.Fit.{both}
use Rattle.set_rules.specs.Words.{Set, fits, tables_of, length_at, headers_in, bins_before, Bin, empty, moved, bad, list, tree, bin_of}
use Rattle.set_rules.specs.Words.{bin_at}
use Rattle.set_rules.specs.Accepting.{is_home, is_list_slot, same_pair, unlike, list_slot_fine, list_fine, is_own, chain_own}
use Rattle.set_rules.specs.Accepting.{is_blank}
use Rattle.set_rules.specs.Accepting.{filled, names_header}
use Rattle.set_rules.specs.Accepting.{tree_fine, may_stand, own_fine, is_moved, bin_asks, bin_fine, below_fine, table_fine}
use Rattle.set_rules.proofs.Fit.{fits_fit, length_bound}
use Rattle.set_rules.proofs.Forest.{row_found}
use Rattle.sets.specs.Room.{Room}
use Rattle.sets.specs.Lists.{slot_home, runs_over}
use Rattle.sets.proofs.Sized.{begins_on, begins_most}

-- The numbers of the recursion stay within their words.
module _ {lengths : List ℕ} {left k from i : ℕ} (r : Room lengths left k from i) where
  pub room_from : from ≤ most_slots * k
  room_from = omega (arith, r.begins, begins_most most_slots lengths r.lengths_most k)

  module _ (d : left ≢ 0) {len next : ℕ} (e : len ≡ get_or lengths k 0) (f : next ≡ from + len) where
    pub room_near : Room lengths (left - 1) (k + 1) next i
    room_near =
        record {
          tables = omega (arith, r.tables);
          begins = omega (arith, r.begins, begins_on lengths k);
          index = omega (arith, r.index);
          lengths_most = r.lengths_most;
        }

    pub room_far : Room lengths (left - 1) (k + 1) next (i + len)
    room_far =
        record {
          tables = omega (arith, r.tables);
          begins = omega (arith, r.begins, begins_on lengths k);
          index = omega (arith, r.index, r.lengths_most k);
          lengths_most = r.lengths_most;
        }

module _ (names cells : List ℕ) (x y : ℕ) where
  pub unlike-null : (v : ℕ) → y ≡ null → true ≡ unlike v names cells x y
  unfolding unlike
  unlike-null zero e = simp (eq-eqb y null e)
  unlike-null (suc v) e = simp (eq-eqb y null e)

  pub unlike_spent : (v : ℕ) → y ≢ null → v ≡ 0 → false ≡ unlike v names cells x y
  unfolding unlike
  unlike_spent zero d e = simp (ne_eqb y null d)
  unlike_spent (suc v) d e = absurd (omega arith)

  pub unlike_same : (v : ℕ) → y ≢ null → v ≢ 0 → {b : Bool} → b ≡ same_pair names x y → b ≡ true → false ≡ unlike v names cells x y
  unfolding unlike
  unlike_same zero d n e f = absurd (n refl)
  unlike_same (suc v) d n e f = rw (ne_eqb y null d, ← e, f)

  pub unlike_on : (v : ℕ) → y ≢ null → v ≢ 0 → {b : Bool} → b ≡ same_pair names x y → b ≡ false → {z : ℕ} → z ≡ cell cells y next
      → unlike (v - 1) names cells x z ≡ unlike v names cells x y
  unfolding unlike
  unlike_on zero d n e f g = absurd (n refl)
  unlike_on (suc v) d n e f g = rw (sub-one, ne_eqb y null d, ← e, f, g)

module _ (names cells : List ℕ) (len i x : ℕ) where
  pub list_null : (v : ℕ) → x ≡ null → some v ≡ list_fine v names cells len i x
  unfolding list_fine
  list_null zero e = simp (eq-eqb x null e)
  list_null (suc v) e = simp (eq-eqb x null e)

  pub list_spent : (v : ℕ) → x ≢ null → v ≡ 0 → none ≡ list_fine v names cells len i x
  unfolding list_fine
  list_spent zero d e = simp (ne_eqb x null d)
  list_spent (suc v) d e = absurd (omega arith)

  pub list_wrong : (v : ℕ) → x ≢ null → v ≢ 0 → {b : Bool} → b ≡ list_slot_fine (v - 1) names cells len i x → b ≡ false
      → none ≡ list_fine v names cells len i x
  unfolding list_fine
  list_wrong zero d n e f = absurd (n refl)
  list_wrong (suc v) d n e f = let g = rw sub-one at e in rw (ne_eqb x null d, ← g, f)

  pub list_on : (v : ℕ) → x ≢ null → v ≢ 0 → {b : Bool} → b ≡ list_slot_fine (v - 1) names cells len i x → b ≡ true → {y : ℕ}
      → y ≡ cell cells x next
      → list_fine (v - 1) names cells len i y ≡ list_fine v names cells len i x
  unfolding list_fine
  list_on zero d n e f h = absurd (n refl)
  list_on (suc v) d n e f h = let g = rw sub-one at e in rw (sub-one, ne_eqb x null d, ← g, f, h)

  pub own_null : (v : ℕ) → x ≡ null → true ≡ chain_own v names cells len i x
  unfolding chain_own
  own_null zero e = simp (eq-eqb x null e)
  own_null (suc v) e = simp (eq-eqb x null e)

  pub own_spent : (v : ℕ) → x ≢ null → v ≡ 0 → false ≡ chain_own v names cells len i x
  unfolding chain_own
  own_spent zero d e = simp (ne_eqb x null d)
  own_spent (suc v) d e = absurd (omega arith)

  pub own_wrong : (v : ℕ) → x ≢ null → v ≢ 0 → {b : Bool} → b ≡ is_own names cells len i x → b ≡ false
      → false ≡ chain_own v names cells len i x
  unfolding chain_own
  own_wrong zero d n e f = absurd (n refl)
  own_wrong (suc v) d n e f = rw (ne_eqb x null d, ← e, f)

  pub own_on : (v : ℕ) → x ≢ null → v ≢ 0 → {b : Bool} → b ≡ is_own names cells len i x → b ≡ true → {y : ℕ} → y ≡ cell cells x next
      → chain_own (v - 1) names cells len i y ≡ chain_own v names cells len i x
  unfolding chain_own
  own_on zero d n e f h = absurd (n refl)
  own_on (suc v) d n e f h = rw (sub-one, ne_eqb x null d, ← e, f, h)

-- The test of a slot is that of its words, and that of its pair.
module _ (names cells : List ℕ) (len i x : ℕ) where
  pub slot_parts : (v : ℕ)
      → list_slot_fine v names cells len i x ≡ slot_home names cells len i x and unlike v names cells x (cell cells x next)
  unfolding list_slot_fine slot_home
  slot_parts v = go (ltb x (slots_of names)) (is_list_slot cells x) (is_home names len i x) (unlike v names cells x (cell cells x next))
    where
      go : (a b c d : Bool) → a and b and c and d ≡ (a and b and c) and d
      go false b c d = refl
      go true false c d = refl
      go true true false d = refl
      go true true true d = refl

  pub slot_inside : slot_home names cells len i x ≡ true → x < slots_of names
  unfolding slot_home
  slot_inside e = ltb-true x (slots_of names) (both (ltb x (slots_of names)) _ e).0

  pub slot_on : (v : ℕ) → x ≢ null → v ≢ 0 → slot_home names cells len i x ≡ true
      → list_fine v names cells len i x
      ≡ pick (unlike (v - 1) names cells x (cell cells x next)) (list_fine (v - 1) names cells len i (cell cells x next)) none
  unfolding list_fine
  slot_on zero d n h = absurd (n refl)
  slot_on (suc v) d n h = rw (sub-one, ne_eqb x null d, slot_parts v, h)

  pub slot_wrong : (v : ℕ) → x ≢ null → v ≢ 0 → slot_home names cells len i x ≡ false → none ≡ list_fine v names cells len i x
  slot_wrong v d n h =
      let e : false ≡ list_slot_fine (v - 1) names cells len i x = rw (slot_parts (v - 1), h) in
      list_wrong names cells len i x v d n e refl

-- A turn of the walk that asks whether a list is long.
module _ (cells : List ℕ) (x : ℕ) where
  pub long_null : (k : ℕ) → x ≡ null → false ≡ runs_over k cells x
  unfolding runs_over
  long_null zero e = simp (eq-eqb x null e)
  long_null (suc k) e = simp (eq-eqb x null e)

  pub long_end : (k : ℕ) → x ≢ null → k ≡ 0 → true ≡ runs_over k cells x
  unfolding runs_over
  long_end zero d e = simp (ne_eqb x null d)
  long_end (suc k) d e = absurd (omega arith)

  pub long_on : (k : ℕ) → x ≢ null → k ≢ 0 → {y : ℕ} → y ≡ cell cells x next → runs_over (k - 1) cells y ≡ runs_over k cells x
  unfolding runs_over
  long_on zero d n e = absurd (n refl)
  long_on (suc k) d n e = rw (sub-one, ne_eqb x null d, e)

-- One thing more is counted.
pub tally_next : (f : ℕ → ℕ) (k : ℕ) → tally (k + 1) f ≡ f k + tally k f
unfolding tally
tally_next f k = rw add-one

-- Each thing counted is counted once at most.
pub filled_one : (heads : List ℕ) (h : ℕ) → filled heads h ≤ 1
filled_one heads h = go (is_blank (get_or heads (3 * h) null) (get_or heads (3 * h + 1) null) (get_or heads (3 * h + 2) null))
  where
    go : (b : Bool) → pick b 0 1 ≤ 1
    go true = omega arith
    go false = omega arith

pub names_one : (b : Bin) → names_header b ≤ 1
names_one empty = omega arith
names_one moved = omega arith
names_one bad = omega arith
names_one (list a) = omega arith
names_one (tree h) = omega arith

module _ (s : Set) where
  -- A tree bin reads the three words of its header.
  pub own_tree : (len i h v : ℕ) {root first count : ℕ} → root ≡ get_or s.heads (3 * h + 0) null → first ≡ get_or s.heads (3 * h + 1) null
      → count ≡ get_or s.heads (3 * h + 2) null
      → {o : Value} → o ≡ tree_fine s.names s.cells len i root first count v → o ≡ own_fine s len i (tree h) v
  unfolding own_fine
  own_tree len i h v e f g k = let z : 3 * h + 0 ≡ 3 * h = omega arith in let y = rw z at e in rw (← y, ← f, ← g) k

  pub below_none : (left k i : ℕ) (may : Bool) (v : ℕ) → left ≡ 0 → some v ≡ below_fine left s k i may v
  unfolding below_fine
  below_none zero k i may v e = refl
  below_none (suc left) k i may v e = absurd (omega arith)

  below_on : (left k i : ℕ) (may : Bool) (v : ℕ) → left ≢ 0
      → below_fine left s k i may v
      ≡ then (bin_fine (left - 1) s (k + 1) i may v) (λ w. bin_fine (left - 1) s (k + 1) (i + length_at s k) may w)
  unfolding below_fine bin_fine
  below_on zero k i may v d = absurd (d refl)
  below_on (suc left) k i may v d = rw (sub-one, add-one)

  pub below_wrong : (left k i : ℕ) (may : Bool) (v : ℕ) → left ≢ 0 → none ≡ bin_fine (left - 1) s (k + 1) i may v
      → none ≡ below_fine left s k i may v
  below_wrong left k i may v d e = sym (below_on left k i may v d ∙ rw (← e))

  pub below_both : (left k i : ℕ) (may : Bool) (v : ℕ) → left ≢ 0 → {len : ℕ} → len ≡ length_at s k → {rest : ℕ}
      → some rest ≡ bin_fine (left - 1) s (k + 1) i may v
      → {o : Value} → o ≡ bin_fine (left - 1) s (k + 1) (i + len) may rest → o ≡ below_fine left s k i may v
  below_both left k i may v d l e f = f ∙ sym (below_on left k i may v d ∙ rw (← e, ← l))

  -- The list or tree of a bin reads no table.
  own_same : (len i : ℕ) (b : Bin) (v : ℕ)
      → own_fine (record { lengths = []; bins = []; heads = s.heads; names = s.names; cells = s.cells }) len i b v ≡ own_fine s len i b v
  unfolding own_fine
  own_same len i empty v = refl
  own_same len i moved v = refl
  own_same len i (list a) v = refl
  own_same len i (tree h) v = refl
  own_same len i bad v = refl

  -- The bin is read where its table begins.
  pub bin-read : {left k from i : ℕ} → Room s.lengths left k from i → {b : Bin}
      → b ≡ bin_of (slots_of s.names) (headers_in s) (get_or s.bins (from + i) 0)
      → b ≡ bin_at s k i
  bin-read r e = rw (← r.begins) e

  module _ (left k i : ℕ) (may : Bool) (v : ℕ) {b : Bin} (e : b ≡ bin_at s k i) {stands : Bool} (f : stands ≡ may_stand b may left) where
    pub bin_astray : stands ≡ false → none ≡ bin_fine left s k i may v
    unfolding bin_fine bin_asks
    bin_astray g = rw (← e, ← f, g)

    module _ (g : stands ≡ true) {len : ℕ} (l : len ≡ length_at s k) where
      pub bin_wrong : none ≡ own_fine (record { lengths = []; bins = []; heads = s.heads; names = s.names; cells = s.cells }) len i b v
          → none ≡ bin_fine left s k i may v
      unfolding bin_fine bin_asks
      bin_wrong o = let p : none ≡ own_fine s len i b v = o ∙ own_same len i b v in rw (← e, ← f, g, ← l, ← p)

      pub bin_on : {rest : ℕ}
          → some rest ≡ own_fine (record { lengths = []; bins = []; heads = s.heads; names = s.names; cells = s.cells }) len i b v
          → {opened : Bool} → opened ≡ is_moved b → {o : Value} → o ≡ below_fine left s k i opened rest → o ≡ bin_fine left s k i may v
      unfolding bin_fine bin_asks
      bin_on {rest} o m r = let p : some rest ≡ own_fine s len i b v = o ∙ own_same len i b v in rw (← e, ← f, g, ← l, ← p, ← m) r

  pub table_none : (i v : ℕ) → i ≤ 0 → some v ≡ table_fine i s v
  unfolding table_fine
  table_none zero v h = refl
  table_none (suc i) v h = absurd (omega arith)

  table_on : (i v : ℕ) → 0 < i → table_fine i s v ≡ then (bin_fine (tables_of s - 1) s 0 (i - 1) true v) (λ w. table_fine (i - 1) s w)
  unfolding table_fine
  table_on zero v h = absurd (omega arith)
  table_on (suc i) v h = let z : suc i - 1 ≡ i = omega arith in rw z

  pub table_wrong : (i v : ℕ) → 0 < i → none ≡ bin_fine (tables_of s - 1) s 0 (i - 1) true v → none ≡ table_fine i s v
  table_wrong i v h e = sym (table_on i v h ∙ rw (← e))

  pub table_step : (i v : ℕ) → 0 < i → {rest : ℕ} → some rest ≡ bin_fine (tables_of s - 1) s 0 (i - 1) true v
      → table_fine (i - 1) s rest ≡ table_fine i s v
  table_step i v h e = sym (table_on i v h ∙ rw (← e))

  module _ (fine : fits s ≡ true) where
    -- A walk hands back at most its visits.
    pub table_within : (i v rest : ℕ) → table_fine i s v ≡ some rest → rest ≤ v
    table_within i v rest e = let r = row_found (fits_fit s fine) i v rest e in omega (arith, r.2)

    pub room_first : (i : ℕ) → i ≤ length_at s 0 → Room s.lengths (tables_of s - 1) 0 0 (i - 1)
    unfolding bins_before
    room_first i b =
        let fit = fits_fit s fine in
        record {
          tables = omega (arith, fit.most);
          begins = refl;
          index = omega (arith, length_bound fit 0);
          lengths_most = length_bound fit;
        }
