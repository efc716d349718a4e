-- Through the slots of the first tree: the second tree is sound after each, its slots from 0 on hold the kept entries in their order, so
-- its chain lists them last first, and the report says of each slot what it should. A kept slot is one more insert into a sound tree.
-- Parts: states, and what the report says of a slot; what holds when the slots below i are done; the slots of the second tree; a slot that
-- is told and not kept, and one that repeats another; a kept slot is one more insert; any slot; all of them.
use mathlib.Core.Path.{◌≡◌, refl, ap, sym, subst, ◌∙◌}
use mathlib.Core.Logic.{◌≢◌, inl, inr}
use mathlib.Core.Bool.{Bool, true, false, false≢true}
use mathlib.Core.List.{List, [], ◌∷◌, map}
use Prim.Native.Nat.{ℕ, zero, suc, ◌+◌, ◌<◌, ◌≤◌}
use native.Mathlib.Decide.{ℕ_discrete}
use native.Mathlib.Omega.{arith}
use lib.ListN.{length, get_or, set, length-set, length-map}
use lib.Seq.{get_or-set_same, get_or-set_other}
use borrow.Author.Tests.{eqb-true, eqb-false, ne_eqb, lt-ltb, ltb-true}
use Rattle.slots.specs.Words.{null, pick, state, free, cell, name_of, hash_part, key_part}
use Rattle.slots.specs.Pairs.{pair, pair_of}
use Rattle.slots.specs.Answers.{some, none, given}
use Rattle.tree_rules.specs.Find.{slots_of}
use Rattle.tree_rules.specs.Tree.{slots, times}
use Rattle.redblack.specs.Holding.{Has, Stands}
use Rattle.index_rules.specs.Live.{Live, Fit, count_of}
use Rattle.index_rules.specs.Sound.{Sound}
use Rattle.index_rules.specs.Index.{index, FitIndex}
use Rattle.index_rules.specs.Insert.{sought_in, inserts}
use Rattle.index_rules.specs.Calls.{Lowest}
use Rattle.index_rules.specs.Contents.{Entry, entry, entry_of, listing}
use Rattle.index_rules.proofs.Growing.{Grown, joins_front, grown_fit, grown-sound}
use Rattle.index_rules.proofs.Frames.{free_nowhere, nowhere_free}
use Rattle.index_rules.proofs.Rules.{small}
use Rattle.index_rules.proofs.Sounding.{sound_yes}
use Rattle.index_rules.proofs.Journal.{index-fits}
use Rattle.index_rules.proofs.Inserting.{sought_none, lowest_is, insert_claims}
use Rattle.index_rules.proofs.Holding.{entry-is, entry_as, contents-length}
use Rattle.index_rules.proofs.Lists.{grown_front, in_chain, in_tree, listing-length}
use Rattle.index_rules.proofs.Unrolling.{grown_capacity}
use Rattle.index_rules.proofs.Deciding.{Seen, there, absent, seen}
use Rattle.night_rules.specs.Salvage.{Salvage, slot_told, slot_kept, unknown_state, salvaged_pair, salvaged_slot, salvaged_from}
use Rattle.night_rules.specs.Saved.{Usable, KeptSlot, slot_entry, kept_below, kept_down, Filled, filled_by}
use Rattle.night_rules.proofs.Testing.{Decides}
use Rattle.night_rules.proofs.Keeping.{SameBelow, mark_kept, mark_not, below_next, below_most, rank_rises, down_kept, down_not}
use Rattle.night_rules.proofs.Keeping.{CameFrom, came, below_same, down_same, set_below, down_from, down_length, down_times}
use Rattle.night_rules.proofs.Keeping.{times_down}

-- An entry's pair.
entry-pair : {a b : Entry} → a ≡ b → pair a.hash a.key ≡ pair b.hash b.key
entry-pair e = ap (λ (x : Entry). pair x.hash x.key) e

-- What holds on either side of a test.
either : {A : Type 0} (P : A → Type 0) (b : Bool) {x y : A} → (b ≡ true → P x) → (b ≡ false → P y) → P (pick b x y)
either P true f g = f refl
either P false f g = g refl

-- A state is unknown exactly where it is above 2.
unknown_tests : (x : ℕ) → Decides (unknown_state x) (2 < x)
unfolding unknown_state
unknown_tests x = (ltb-true 2 x, lt-ltb 2 x)

-- A state that is neither 0 nor above 2.
one_or_two : (cells : List ℕ) (i : ℕ) → cell cells i state ≢ 0 → (2 < cell cells i state → ⊥) → Usable cells i
one_or_two cells i d l = go (ℕ_discrete (cell cells i state) 1)
  where
    go : Dec (cell cells i state ≡ 1) → Usable cells i
    go (yes e) = inl e
    go (no e) = inr (omega arith)

-- What the report r says of slot i, and why.
pub data SlotSaid (names cells r : List ℕ) (i : ℕ) : Type 0 where
  kept : KeptSlot r i → Usable cells i → ((s : ℕ) → s < i → KeptSlot r s → pair_of names s ≢ pair_of names i) → SlotSaid names cells r i
  unused : get_or r i null ≡ 1 → cell cells i state ≡ 0 → SlotSaid names cells r i
  unknown : get_or r i null ≡ 2 → 2 < cell cells i state → SlotSaid names cells r i
  repeats : (s : ℕ) → get_or r i null ≡ 3 + s → Usable cells i → s < i → KeptSlot r s → pair_of names s ≡ pair_of names i
      → SlotSaid names cells r i

-- It goes by the slots up to i alone.
said_same : {names cells r q : List ℕ} {i j : ℕ} → SameBelow i r q → j < i → SlotSaid names cells r j → SlotSaid names cells q j
said_same {i = i} {j = j} a l (kept e u n) = kept (a j l ∙ e) u (λ s b k. n s b (sym (a s (omega arith)) ∙ k))
said_same {i = i} {j = j} a l (unused e u) = unused (a j l ∙ e) u
said_same {i = i} {j = j} a l (unknown e u) = unknown (a j l ∙ e) u
said_same {i = i} {j = j} a l (repeats s e u b k p) = repeats s (a j l ∙ e) u b (a s (omega arith) ∙ k) p

-- What holds when the slots below i are done.
pub record DoneBelow (names cells : List ℕ) (u : Live) (report : List ℕ) (i : ℕ) (s : Salvage) : Type 0 where
  pub fit : Fit s.into
  pub capacity : slots_of s.into.names ≡ slots_of names
  pub sound : Sound s.into
  pub chain : sound.chain ≡ down_from s.kept
  pub many : s.kept ≡ kept_below s.report i
  pub long : length s.report ≡ length report
  pub past : (j : ℕ) → i ≤ j → get_or s.report j null ≡ get_or report j null
  pub said : (j : ℕ) → j < i → SlotSaid names cells s.report j
  pub placed : (j : ℕ) → j < i → KeptSlot s.report j → entry_of s.into (kept_below s.report j) ≡ slot_entry names cells j
  pub listed : listing sound ≡ map (slot_entry names cells) (kept_down s.report i)
  pub filled : Filled u (map (slot_entry names cells) (kept_down s.report i)) s.into

module _ {names cells : List ℕ} {u : Live} {report : List ℕ} {i : ℕ} {s : Salvage} (h : DoneBelow names cells u report i s) where
  -- The slots of the second tree are those below the number kept, and the count is that number.
  pub stands : (x : ℕ) → x < s.kept → Stands x h.sound.tree
  stands x l = in_tree h.sound x (rw h.chain (times_down s.kept x l))

  stood : (x : ℕ) → Stands x h.sound.tree → x < s.kept
  stood x z = down_times s.kept x (rw h.chain at (in_chain h.sound x z))

  pub counts : count_of s.into ≡ s.kept
  counts =
      sym (contents-length h.sound) ∙ sym (listing-length h.sound) ∙ length-map h.sound.chain (entry_of s.into)
      ∙ ap length h.chain ∙ down_length s.kept

  pub kept_most : s.kept ≤ i
  kept_most = omega (arith, h.many, below_most s.report i)

  pub rank_less : (j : ℕ) → j < i → KeptSlot s.report j → kept_below s.report j < s.kept
  rank_less j l k = omega (arith, rank_rises s.report j i l k, h.many)

  -- What a search finds in the second tree is one of its slots.
  pub found_below : (hash key x : ℕ) → sought_in s.into hash key ≡ some x → x < s.kept
  found_below hash key x e = go (seen h.fit h.sound hash key)
    where
      go : Seen h.sound hash key → x < s.kept
      go (there y z p f) = let q : some y ≡ some x = sym f ∙ e in let w : y ≡ x = cc in rw (← w) (stood y z)
      go (absent m f) = let q : none ≡ some x = sym f ∙ e in let w : ◌≡◌ {A = ℕ} 0 1 = cc in absurd (omega arith)

  module _ (inside : i < slots_of names) (room : slots_of names ≤ length report) where
    abbrev r : List ℕ
    r = s.report

    here : (w : ℕ) → get_or (set r i w) i null ≡ w
    here w = get_or-set_same r i w null (omega (arith, h.long))

    later : (w j : ℕ) → suc i ≤ j → get_or (set r i w) j null ≡ get_or report j null
    later w j l = get_or-set_other r i j w null (omega arith) ∙ h.past j (omega arith)

    said_all : (w : ℕ) → SlotSaid names cells (set r i w) i → (j : ℕ) → j < suc i → SlotSaid names cells (set r i w) j
    said_all w d j l = go (ℕ_discrete j i)
      where
        go : Dec (j ≡ i) → SlotSaid names cells (set r i w) j
        go (yes e) = rw e d
        go (no e) = said_same (set_below r i w) (omega arith) (h.said j (omega arith))

    -- A slot that is told and not kept leaves the second tree as it is.
    told : (w : ℕ) → w ≢ 0 → (get_or (set r i w) i null ≡ w → SlotSaid names cells (set r i w) i)
        → DoneBelow names cells u report (suc i) (slot_told s i w)
    told w d z =
        let a = set_below r i w in
        let no : KeptSlot (set r i w) i → ⊥ = λ e. d (sym (here w) ∙ e) in
        record {
          fit = h.fit;
          capacity = h.capacity;
          sound = h.sound;
          chain = h.chain;
          many = omega (arith, h.many, below_next (set r i w) i, mark_not (set r i w) i no, below_same r (set r i w) i a);
          long = length-set r i w ∙ h.long;
          past = later w;
          said = said_all w (z (here w));
          placed = placed_still;
          listed = h.listed ∙ ap (map (slot_entry names cells)) (sym (down_not (set r i w) i no ∙ down_same r (set r i w) i a));
          filled = rw (down_not (set r i w) i no, down_same r (set r i w) i a) h.filled;
        }
      where
        placed_still : (j : ℕ) → j < suc i → KeptSlot (set r i w) j
            → entry_of s.into (kept_below (set r i w) j) ≡ slot_entry names cells j
        placed_still j l k = go (ℕ_discrete j i)
          where
            go : Dec (j ≡ i) → entry_of s.into (kept_below (set r i w) j) ≡ slot_entry names cells j
            go (yes e) = absurd (d (sym (here w) ∙ ap (λ (m : ℕ). get_or (set r i w) m null) (sym e) ∙ k))
            go (no e) =
                let b : j < i = omega arith in
                ap (entry_of s.into) (below_same r (set r i w) j (λ m y. set_below r i w m (omega arith)))
                ∙ h.placed j b (sym (set_below r i w j b) ∙ k)

    -- A slot whose pair the second tree has in its slot x repeats the slot that came to x.
    told_repeat : Usable cells i → (x : ℕ) → Stands x h.sound.tree → pair_of s.into.names x ≡ pair_of names i
        → (c : ℕ) → CameFrom r i x c → DoneBelow names cells u report (suc i) (slot_told s i (3 + c))
    told_repeat v x z e c f =
        let p : pair_of names c ≡ pair_of names i =
        sym (entry-pair (h.placed c f.inside f.kept)) ∙ ap (λ (k : ℕ). pair_of s.into.names k) f.rank ∙ e in
        told _ (λ y. omega arith) (λ y. repeats c y v f.inside (set_below r i _ _ f.inside ∙ f.kept) p)

    -- A kept slot is one more insert, into the slot that is the number kept so far.
    module _ (hash key at : ℕ) (is : slot_entry names cells i ≡ entry hash key at) (v : Usable cells i)
        (fresh : Has s.into.names h.sound.tree hash key → ⊥) where
      abbrev after : Live
      after = (slot_kept s i hash key at).into

      abbrev q : List ℕ
      q = set r i 0

      within : s.kept < slots_of s.into.names
      within = omega (arith, kept_most, h.capacity)

      vacant : cell s.into.cells s.kept state ≡ free
      vacant = nowhere_free h.sound s.kept within (go (ℕ_discrete (times s.kept (slots h.sound.tree)) 0))
        where
          go : Dec (times s.kept (slots h.sound.tree) ≡ 0) → times s.kept (slots h.sound.tree) ≡ 0
          go (yes e) = e
          go (no d) = absurd (omega (arith, stood s.kept (omega arith)))

      more : Grown s.into after h.sound s.kept null hash key at
      more = grown-sound h.fit h.sound _ _ _ _ _ within vacant (inl refl) fresh

      alone : (j : ℕ) → j < i → KeptSlot q j → pair_of names j ≢ pair_of names i
      alone j l k e =
          let b : KeptSlot r j = sym (set_below r i 0 j l) ∙ k in
          fresh (record {
            slot = kept_below r j;
            stands = stands (kept_below r j) (rank_less j l b);
            named = entry-pair (h.placed j l b) ∙ e ∙ entry-pair is;
          })

      placed_more : (j : ℕ) → j < suc i → KeptSlot q j → entry_of after (kept_below q j) ≡ slot_entry names cells j
      placed_more j l k = go (ℕ_discrete j i)
        where
          same : kept_below q j ≡ kept_below r j
          same = below_same r q j (λ m y. set_below r i 0 m (omega arith))

          go : Dec (j ≡ i) → entry_of after (kept_below q j) ≡ slot_entry names cells j
          go (yes e) =
              ap (entry_of after) (same ∙ ap (kept_below r) e ∙ sym h.many)
              ∙ entry_as after s.kept hash key at more.takes.named more.takes.placed
              ∙ sym is ∙ ap (slot_entry names cells) (sym e)
          go (no e) =
              let b : j < i = omega arith in
              let k' : KeptSlot r j = sym (set_below r i 0 j b) ∙ k in
              let o = more.takes.others (kept_below r j) (omega (arith, rank_less j b k')) in
              ap (entry_of after) same ∙ entry-is s.into after (kept_below r j) o.pairs o.places ∙ h.placed j b k'

      -- It is what insert does, with a journal of one line.
      abbrev lines : List ℕ
      lines = 0 ∷ (0 ∷ (0 ∷ (0 ∷ (0 ∷ (0 ∷ (0 ∷ []))))))

      fit_index : FitIndex (index s.into lines)
      fit_index = record { tree = h.fit; capacity = 1; most = omega arith; words = refl; within = omega arith }

      lowest : Lowest s.into s.kept
      lowest =
          record {
            inside = within;
            unused = vacant;
            lower = λ k l e. omega (arith, free_nowhere h.sound k (omega (arith, within)) e, stands k l);
          }

      accepts : (inserts (index s.into lines) hash key at).answer ≡ given s.kept
      accepts = ((insert_claims (index s.into lines) hash key at).accepted s.kept).1 (fit_index, (h.sound, fresh, lowest, omega arith))

      leaves : (inserts (index s.into lines) hash key at).left.live ≡ after
      unfolding inserts
      leaves =
          rw (
            index-fits (index s.into lines) fit_index,
            sound_yes h.fit h.sound,
            sought_none h.fit h.sound hash key fresh,
            lowest_is h.fit s.kept lowest,
            ne_eqb s.kept null (omega (arith, within, small h.fit)),
          )

      told-kept : DoneBelow names cells u report (suc i) (slot_kept s i hash key at)
      unfolding down_from
      told-kept =
          let a = set_below r i 0 in
          record {
            fit = grown_fit h.fit h.sound _ _ _ _ _ within vacant (inl refl) fresh;
            capacity = grown_capacity s.into _ _ _ _ _ ∙ h.capacity;
            sound = more.sound;
            chain = joins_front more.chain refl ∙ ap (λ (l : List ℕ). s.kept ∷ l) h.chain;
            many = omega (arith, h.many, below_next q i, mark_kept q i (here 0), below_same r q i a);
            long = length-set r i 0 ∙ h.long;
            past = later 0;
            said = said_all 0 (kept (here 0) v alone);
            placed = placed_more;
            listed =
                grown_front h.fit more refl ∙ ap (λ (e : Entry). e ∷ listing h.sound) (sym is)
                ∙ ap (λ (l : List Entry). slot_entry names cells i ∷ l)
                (h.listed ∙ ap (map (slot_entry names cells)) (sym (down_same r q i a)))
                ∙ ap (map (slot_entry names cells)) (sym (down_kept q i (here 0)));
            filled =
                rw (down_kept q i (here 0), down_same r q i a)
                (rw is (subst (λ (v : Live). Filled u (entry hash key at ∷ map (slot_entry names cells) (kept_down r i)) v) leaves
                (filled_by (entry hash key at) lines s.kept h.filled accepts)));
          }

    -- A slot with state 1 or 2: the search says whether its pair is there.
    pair-done : Usable cells i → DoneBelow names cells u report (suc i) (salvaged_pair names cells i s)
    unfolding salvaged_pair
    pair-done v = go (seen h.fit h.sound (name_of names i hash_part) (name_of names i key_part))
      where
        go : Seen h.sound (name_of names i hash_part) (name_of names i key_part)
            → DoneBelow names cells u report (suc i) (salvaged_pair names cells i s)
        go (there x z e f) =
            rw (f, salvaged_pair) (told_repeat v x z e _ (came r i x (omega (arith, stood x z, h.many))))
        go (absent m f) = rw (f, salvaged_pair) (told-kept _ _ _ refl v m)

    pub slot_done : DoneBelow names cells u report (suc i) (salvaged_slot names cells i s)
    unfolding salvaged_slot
    slot_done =
        either (DoneBelow names cells u report (suc i)) _
        (λ e. told _ (λ z. omega arith) (λ y. unused y (eqb-true _ _ e)))
        (λ d. either (DoneBelow names cells u report (suc i)) _
        (λ e. told _ (λ z. omega arith) (λ y. unknown y ((unknown_tests _).0 e)))
        (λ n. pair-done (one_or_two cells i (eqb-false _ _ d) (λ l. false≢true (sym n ∙ (unknown_tests _).1 l)))))

-- And so for all of them.
pub slots-done : {names cells : List ℕ} {u : Live} {report : List ℕ} → slots_of names ≤ length report
    → (c : ℕ) {i : ℕ} {s : Salvage} → i + c ≡ slots_of names → DoneBelow names cells u report i s
    → DoneBelow names cells u report (slots_of names) (salvaged_from c names cells i s)
unfolding salvaged_from
slots-done {names} {cells} {u} {report} room zero {i} {s} e h =
    let z : i ≡ slots_of names = omega arith in subst (λ (k : ℕ). DoneBelow names cells u report k s) z h
slots-done room (suc c) e h = slots-done room c (omega arith) (slot_done h (omega arith) room)
