-- The drivers undo a line exactly where the line fits, and what they leave is what the rule's sentence leaves.
-- Parts: a sound tree has one list of contents; when a slot is free; what undoing one line leaves; a line of each kind that is undone fits;
-- a line that fits is undone; so many lines, both ways.
use mathlib.Core.Path.{◌≡◌, refl, ap, sym, ◌∙◌, subst}
use mathlib.Core.Logic.{◌≢◌, ◌↔◌, ◌⊎◌, inl, inr}
use mathlib.Core.Bool.{Bool, true, false}
use mathlib.Core.List.{List, ◌∷◌}
use Prim.Native.Nat.{ℕ, zero, suc, ◌+◌, ◌/◌, ◌%◌, ◌<◌, ◌≤◌}
use native.Mathlib.Decide.{ℕ_discrete}
use native.Mathlib.Omega.{arith}
use lib.ListN.{length}
use lib.Dec.{eqb}
use borrow.Author.Tests.{eqb-true, ltb-true, eq-eqb, ne_eqb, lt-ltb}
use Rattle.slots.specs.Words.{null, pick, place, state, free, cell}
use Rattle.slots.specs.Pairs.{Pair, pair, pair_of}
use Rattle.slots.specs.Answers.{Answer, some, none}
use Rattle.tree_rules.specs.Tree.{Tree, times}
use Rattle.tree_rules.specs.Chain.{tally}
use Rattle.tree_rules.proofs.Reaching.{rooted_unique}
use Rattle.redblack.specs.Balance.{OneFewer}
use Rattle.redblack.specs.Holding.{Has, Stands}
use Rattle.index_rules.specs.Live.{Live, Fit, root_of}
use Rattle.index_rules.specs.Sound.{Sound, used}
use Rattle.index_rules.specs.Index.{JournalLine, insert_kind, remove_kind, noted_kind, replace_kind, line_of}
use Rattle.index_rules.specs.Insert.{lowest_free, sought_in, grown}
use Rattle.index_rules.specs.Remove.{shrunk}
use Rattle.index_rules.specs.Replace.{placed_at}
use Rattle.index_rules.specs.Rollback.{Undo, stays, misfit, taken_back, put_back, put_behind, placed_back, undone, undone_into, unrolled}
use Rattle.index_rules.specs.Checked.{freed_by}
use Rattle.index_rules.specs.Contents.{Entry, entry, entry_of, contents, listing, without, behind, with_place, In}
use Rattle.index_rules.specs.Undoing.{line_entry, CanReturn, UndoneTo, insert_line, remove_line, behind_line, replace_line, Undoes, back}
use Rattle.index_rules.specs.Undoing.{down, SlotUndone, freeing, taking, placing, LinesUndone, at_mark, below}
use Rattle.index_rules.specs.Calls.{Lowest, Takes}
use Rattle.index_rules.proofs.Rules.{small}
use Rattle.index_rules.proofs.Frames.{length-rename, tree_inside, without_else, without_same}
use Rattle.index_rules.proofs.Growing.{grown_fit, grown-sound}
use Rattle.index_rules.proofs.Shrinking.{shrunk_fit, shrunk-sound}
use Rattle.index_rules.proofs.Free.{lowest_free_lem, none_free}
use Rattle.index_rules.proofs.Deciding.{Seen, there, absent, seen}
use Rattle.index_rules.proofs.Holding.{contents-length}
use Rattle.index_rules.proofs.Placing.{placed_sound}
use Rattle.index_rules.proofs.Lists.{in_chain, stands-listed, listed-stands, listing-lacks, lacking, listing-length, grown_front}
use Rattle.index_rules.proofs.Lists.{grown-behind, shrunk-listing, placed_listing}
use Rattle.index_rules.proofs.Undoing.{undone_one}
use Rattle.index_rules.proofs.Seeking.{found_at, found_none}
use Rattle.tree_rules.specs.Find.{slots_of}

-- A sound tree has one tree, and so one list of contents.
pub tree_one : {t : Live} → Fit t → (h g : Sound t) → h.tree ≡ g.tree
tree_one {t} fit h g = rooted_unique (slots_of t.names) t.cells (small fit) (root_of t) h.t3.rooted g.t3.rooted

pub contents_one : {t : Live} → Fit t → (h g : Sound t) → contents h ≡ contents g
contents_one {t} fit h g =
    ap (λ (u : Tree). Rattle.index_rules.specs.Contents.listed t u) (tree_one fit h g)

pub grown_capacity : (t : Live) (x y hash key p : ℕ) → slots_of (grown t x y hash key p).names ≡ slots_of t.names
unfolding grown
grown_capacity t x y hash key p = simp length-rename

pub shrunk_capacity : (t : Live) (x : ℕ) → slots_of (shrunk t x).names ≡ slots_of t.names
unfolding shrunk
shrunk_capacity t x = simp length-rename

-- There is a free slot exactly where the entries are fewer than the slots.
tally_all : (n : ℕ) (f : ℕ → ℕ) → ((k : ℕ) → k < n → f k ≡ 1) → tally n f ≡ n
unfolding tally
tally_all zero f h = refl
tally_all (suc n) f h = omega (arith, h n (omega arith), tally_all n f (λ k l. h k (omega arith)))

tally_most : (n : ℕ) (f : ℕ → ℕ) → ((k : ℕ) → f k ≤ 1) → tally n f ≤ n
unfolding tally
tally_most zero f h = omega arith
tally_most (suc n) f h = omega (arith, h n, tally_most n f h)

tally_fewer : (n x : ℕ) (f : ℕ → ℕ) → ((k : ℕ) → f k ≤ 1) → x < n → f x ≡ 0 → tally n f < n
unfolding tally
tally_fewer zero x f h l e = absurd (omega arith)
tally_fewer (suc n) x f h l e = go (ℕ_discrete x n) (λ d. tally_fewer n x f h (omega arith) e)
  where
    go : Dec (x ≡ n) → (x ≢ n → tally n f < n) → f n + tally n f < suc n
    go (yes z) rest = let y : f n ≡ 0 = rw (← z) e in omega (arith, tally_most n f h)
    go (no d) rest = omega (arith, rest d, h n)

used_most : (cells : List ℕ) (k : ℕ) → used cells k ≤ 1
used_most cells k = go (eqb (cell cells k state) free)
  where
    go : (b : Bool) → pick b 0 1 ≤ 1
    go true = omega arith
    go false = omega arith

pub free_room : {t : Live} → Fit t → (h : Sound t) → (lowest_free t ≢ null) ↔ (length (listing h) < slots_of t.names)
free_room {t} fit h = (to, from)
  where
    to : lowest_free t ≢ null → length (listing h) < slots_of t.names
    to d =
        let f = lowest_free_lem t d in
        omega (
          arith,
          listing-length h,
          contents-length h,
          h.t1.count,
          tally_fewer (slots_of t.names) (lowest_free t) (used t.cells) (used_most t.cells) f.inside
              (rw (eq-eqb (cell t.cells (lowest_free t) state) free f.unused)),
        )

    from : length (listing h) < slots_of t.names → lowest_free t ≢ null
    from l e =
        let n = (none_free t (small fit)).0 e in
        omega (
          arith,
          listing-length h,
          contents-length h,
          h.t1.count,
          tally_all (slots_of t.names) (used t.cells) (λ k w. rw (ne_eqb (cell t.cells k state) free (n k w))),
        )

pub listing_most : {t : Live} → Fit t → (h : Sound t) → length (listing h) ≤ slots_of t.names
listing_most {t} fit h =
    omega (
      arith,
      listing-length h,
      contents-length h,
      h.t1.count,
      tally_most (slots_of t.names) (used t.cells) (used_most t.cells),
    )

-- A slot of a list is one of the list with one more.
pub still_there : {x : ℕ} {l m : List ℕ} → OneFewer x l m → (k : ℕ) → 1 ≤ times k m → 1 ≤ times k l
still_there {x} {l} {m} o k z = go (ℕ_discrete k x)
  where
    go : Dec (k ≡ x) → 1 ≤ times k l
    go (yes e) = rw e (omega (arith, without_same o))
    go (no d) = omega (arith, without_else k o d)

-- A tree that a line's undoing leaves, with its listing; every slot of the tree before but the one that is freed is a slot of it.
pub record Left {t : Live} (h : Sound t) (u : Live) (freed : ℕ) (l : List Entry) : Type 0 where
  pub fit : Fit u
  pub sound : Sound u
  pub capacity : slots_of u.names ≡ slots_of t.names
  pub keeps : (k : ℕ) → k ≢ freed → Stands k h.tree → Stands k sound.tree
  pub lists : listing sound ≡ l

stays_is : {t u : Live} → stays t ≡ stays u → t ≡ u
stays_is e = cc

not_stays : {u : Live} → misfit ≡ stays u → ⊥
not_stays e = let z : ◌≡◌ {A = ℕ} 0 1 = cc in omega arith

pick_stays : (b : Bool) (o : Undo) {u : Live} → pick b o misfit ≡ stays u → (b ≡ true) × (o ≡ stays u)
pick_stays true o e = (refl, e)
pick_stays false o e = absurd (not_stays e)

-- What one line's undoing says, does to the slots, and leaves.
pub record Stepped {t : Live} (h : Sound t) (j : JournalLine) (u : Live) : Type 0 where
  pub after : List Entry
  pub undone : UndoneTo (slots_of t.names) j (listing h) after
  pub slot : SlotUndone h j u
  pub left : Left h u (freed_by t j) after

module _ {t : Live} (fit : Fit t) (h : Sound t) (j : JournalLine) where
  frees : (x : ℕ) → j.kind ≡ insert_kind → sought_in t j.hash j.key ≡ some x → x ≡ freed_by t j
  unfolding freed_by
  frees x kind s = rw (eq-eqb j.kind insert_kind kind, s)

  took_back : (u : Live) → j.kind ≡ insert_kind → taken_back t (sought_in t j.hash j.key) j.place ≡ stays u → Stepped h j u
  took_back u kind e = go (seen fit h j.hash j.key)
    where
      go : Seen h j.hash j.key → Stepped h j u
      go (absent n s) = absurd (not_stays (rw s at e))
      go (there x z n s) =
          let a = pick_stays _ _ (rw s at e) in
          let p : cell t.cells x place ≡ j.place = eqb-true _ _ a.0 in
          let is : entry_of t x ≡ line_entry j = λ i. entry (n i).hash (n i).key (p i) in
          let g = shrunk-sound fit h x z in
          let left : Left h (shrunk t x) x (without j.hash j.key (listing h)) =
          record {
            fit = shrunk_fit fit h x z;
            sound = g.sound;
            capacity = shrunk_capacity t x;
            keeps = λ k d w. omega (arith, without_else k g.slotted d);
            lists = shrunk-listing fit g ∙ ap (λ (r : Pair). without r.hash r.key (listing h)) n;
          } in
          record {
            after = without j.hash j.key (listing h);
            undone = insert_line kind (subst (λ (r : Entry). In r (listing h)) is (stands-listed h x z));
            slot = subst (λ (v : Live). SlotUndone h j v) (stays_is a.1)
                (freeing kind (record { stands = z; named = n; placed = p }) g.frees);
            left = subst (λ (i : ℕ). Left h u i (without j.hash j.key (listing h))) (frees x kind s)
                (subst (λ (v : Live). Left h v x (without j.hash j.key (listing h))) (stays_is a.1) left);
          }

  -- What a return asks, and what it leaves behind a slot y of the chain, or at the front.
  record Returned (y : ℕ) (u : Live) : Type 0 where
    can : CanReturn (slots_of t.names) j (listing h)
    lowest : Lowest t (lowest_free t)
    takes : Takes t u (lowest_free t) j.hash j.key j.place
    front : y ≡ null → Left h u (freed_by t j) (line_entry j ∷ listing h)
    behind_one_lem : (prior_hash prior_key : ℕ) → y ≢ null → pair_of t.names y ≡ pair prior_hash prior_key
        → Left h u (freed_by t j) (behind prior_hash prior_key (line_entry j) (listing h))

  returned : (u : Live) (y : ℕ) → (y ≡ null) ⊎ Stands y h.tree
      → put_back t (lowest_free t) (sought_in t j.hash j.key) j y ≡ stays u → Returned y u
  returned u y seat e = go (seen fit h j.hash j.key)
    where
      sits : (y ≡ null) ⊎ Stands y h.tree → (y ≡ null) ⊎ (1 ≤ times y h.chain)
      sits (inl q) = inl q
      sits (inr z) = inr (in_chain h y z)

      placed : (Has t.names h.tree j.hash j.key → ⊥) → Dec (lowest_free t ≡ null)
          → put_back t (lowest_free t) none j y ≡ stays u → Returned y u
      placed n (yes d) q = absurd (not_stays (rw (eq-eqb (lowest_free t) null d) at q))
      placed n (no d) q =
          let a = pick_stays _ _ (rw (ne_eqb (lowest_free t) null d) at q) in
          let f = lowest_free_lem t d in
          let g = grown-sound fit h (lowest_free t) y j.hash j.key j.place f.inside f.unused (sits seat) n in
          let left : (l : List Entry) → listing g.sound ≡ l → Left h u (freed_by t j) l =
          λ l w. subst (λ (v : Live). Left h v (freed_by t j) l) (stays_is a.1) (record {
            fit = grown_fit fit h (lowest_free t) y j.hash j.key j.place f.inside f.unused (sits seat) n;
            sound = g.sound;
            capacity = grown_capacity t (lowest_free t) y j.hash j.key j.place;
            keeps = λ k d z. still_there g.slotted k z;
            lists = w;
          }) in
          record {
            can = record { lacks = listing-lacks h j.hash j.key n; room = (free_room fit h).0 d; small = ltb-true _ _ a.0 };
            lowest = f;
            takes = subst (λ (v : Live). Takes t v (lowest_free t) j.hash j.key j.place) (stays_is a.1) g.takes;
            front = λ w. left (line_entry j ∷ listing h) (grown_front fit g w);
            behind_one_lem = λ prior_hash prior_key w named. left (behind prior_hash prior_key (line_entry j) (listing h))
                (grown-behind fit g prior_hash prior_key w named);
          }

      go : Seen h j.hash j.key → Returned y u
      go (there x z n s) = absurd (not_stays (rw s at e))
      go (absent n s) = placed n (ℕ_discrete (lowest_free t) null) (rw s at e)

  gave_back : (u : Live) → j.kind ≡ remove_kind → put_back t (lowest_free t) (sought_in t j.hash j.key) j null ≡ stays u → Stepped h j u
  gave_back u kind e =
      let r = returned u null (inl refl) e in
      record {
        after = line_entry j ∷ listing h;
        undone = remove_line kind r.can;
        slot = taking (inl kind) r.lowest r.takes;
        left = r.front refl;
      }

  gave_behind : (u : Live) → j.kind ≡ noted_kind
      → put_behind t (lowest_free t) (sought_in t j.prior_hash j.prior_key) (sought_in t j.hash j.key) j ≡ stays u → Stepped h j u
  gave_behind u kind e = go (seen fit h j.prior_hash j.prior_key)
    where
      go : Seen h j.prior_hash j.prior_key → Stepped h j u
      go (absent n s) = absurd (not_stays (rw s at e))
      go (there y z n s) =
          let r = returned u y (inr z) (rw s at e) in
          let d : y ≢ null = λ q. omega (arith, tree_inside h y z, small fit) in
          let is : entry_of t y ≡ entry j.prior_hash j.prior_key (cell t.cells y place) =
          λ i. entry (n i).hash (n i).key (cell t.cells y place) in
          record {
            after = behind j.prior_hash j.prior_key (line_entry j) (listing h);
            undone = behind_line kind r.can (cell t.cells y place, subst (λ (q : Entry). In q (listing h)) is (stands-listed h y z));
            slot = taking (inr kind) r.lowest r.takes;
            left = r.behind_one_lem j.prior_hash j.prior_key d n;
          }

  -- The two halves of a replace line's place.
  abbrev new_half : ℕ
  new_half = j.place % 4294967296

  abbrev old_half : ℕ
  old_half = j.place / 4294967296

  moved_back : (u : Live) → j.kind ≡ replace_kind → placed_back t (sought_in t j.hash j.key) j.place ≡ stays u → Stepped h j u
  moved_back u kind e = go (seen fit h j.hash j.key)
    where
      go : Seen h j.hash j.key → Stepped h j u
      go (absent n s) = absurd (not_stays (rw s at e))
      go (there x z n s) =
          let a = pick_stays _ _ (rw s at e) in
          let b = pick_stays _ _ a.1 in
          let p : cell t.cells x place ≡ new_half = eqb-true _ _ a.0 in
          let is : entry_of t x ≡ entry j.hash j.key new_half = λ i. entry (n i).hash (n i).key (p i) in
          let g = placed_sound fit h x old_half z in
          let left : Left h (placed_at t x old_half) (freed_by t j) (with_place j.hash j.key old_half (listing h)) =
          record {
            fit = g.fit;
            sound = g.sound;
            capacity = ap (λ (l : List ℕ). slots_of l) g.only.names;
            keeps = λ k d w. subst (λ (v : Tree). Stands k v) (sym g.tree) w;
            lists = placed_listing fit g z j.hash j.key n;
          } in
          record {
            after = with_place j.hash j.key old_half (listing h);
            undone = replace_line {new = new_half} {old = old_half} kind (omega arith) (omega arith) (ltb-true _ _ b.0)
                (subst (λ (r : Entry). In r (listing h)) is (stands-listed h x z));
            slot = subst (λ (v : Live). SlotUndone h j v) (stays_is b.1)
                (placing {new = new_half} {old = old_half} kind (omega arith) (omega arith) (record { stands = z; named = n; placed = p })
                g.only);
            left = subst (λ (v : Live). Left h v (freed_by t j) (with_place j.hash j.key old_half (listing h))) (stays_is b.1) left;
          }

  pub undone_step : (u : Live) → undone t j ≡ stays u → Stepped h j u
  unfolding undone_into
  undone_step u e =
      go (ℕ_discrete j.kind insert_kind) (ℕ_discrete j.kind remove_kind) (ℕ_discrete j.kind noted_kind)
      (ℕ_discrete j.kind replace_kind) e
    where
      go : Dec (j.kind ≡ insert_kind) → Dec (j.kind ≡ remove_kind) → Dec (j.kind ≡ noted_kind) → Dec (j.kind ≡ replace_kind)
          → undone t j ≡ stays u → Stepped h j u
      go (yes p) b c d q = took_back u p (rw (eq-eqb j.kind insert_kind p) at q)
      go (no a) (yes p) c d q = gave_back u p (rw (ne_eqb j.kind insert_kind a, eq-eqb j.kind remove_kind p) at q)
      go (no a) (no b) (yes p) d q =
          gave_behind u p (rw (ne_eqb j.kind insert_kind a, ne_eqb j.kind remove_kind b, eq-eqb j.kind noted_kind p) at q)
      go (no a) (no b) (no c) (yes p) q =
          moved_back u p
          (rw (ne_eqb j.kind insert_kind a, ne_eqb j.kind remove_kind b, ne_eqb j.kind noted_kind c, eq-eqb j.kind replace_kind p)
          at q)
      go (no a) (no b) (no c) (no d) q =
          absurd (not_stays (rw (
            ne_eqb j.kind insert_kind a,
            ne_eqb j.kind remove_kind b,
            ne_eqb j.kind noted_kind c,
            ne_eqb j.kind replace_kind d,
          ) at q))

  -- The slot of an entry of the listing is the one that is found.
  sought_slot : {e : Entry} → In e (listing h) → (x : ℕ) × (sought_in t e.hash e.key ≡ some x) × (cell t.cells x place ≡ e.at)
  unfolding sought_in
  sought_slot {e} i =
      let s = listed-stands h i in
      let named : pair_of t.names s.slot ≡ pair e.hash e.key = λ k. pair (s.is k).hash (s.is k).key in (
        s.slot,
        ap (λ (r : Answer). r.value) (found_at fit h e.hash e.key s.slot s.stands named),
        ap (λ (r : Entry). r.at) s.is,
      )

  free_of : CanReturn (slots_of t.names) j (listing h) → (sought_in t j.hash j.key ≡ none) × (lowest_free t ≢ null)
  unfolding sought_in
  free_of c = (
    ap (λ (r : Answer). r.value) (found_none fit h j.hash j.key (lacking h j.hash j.key c.lacks)),
    (free_room fit h).1 c.room,
  )

  -- A line that fits is undone.
  pub undone-fits : {l : List Entry} → UndoneTo (slots_of t.names) j (listing h) l → (u : Live) × (undone t j ≡ stays u)
  unfolding undone_into
  undone-fits (insert_line kind i) =
      let s = sought_slot i in
      (shrunk t s.0, rw (eq-eqb j.kind insert_kind kind, s.1, eq-eqb (cell t.cells s.0 place) j.place s.2))
  undone-fits (remove_line kind c) =
      let f = free_of c in (
        grown t (lowest_free t) null j.hash j.key j.place,
        rw (
          ne_eqb j.kind insert_kind (omega arith),
          eq-eqb j.kind remove_kind kind,
          f.0,
          ne_eqb (lowest_free t) null f.1,
          lt-ltb j.place 4294967296 c.small,
        ),
      )
  undone-fits (behind_line kind c i) =
      let f = free_of c in
      let s = sought_slot i.1 in (
        grown t (lowest_free t) s.0 j.hash j.key j.place,
        rw (
          ne_eqb j.kind insert_kind (omega arith),
          ne_eqb j.kind remove_kind (omega arith),
          eq-eqb j.kind noted_kind kind,
          s.1,
          f.0,
          ne_eqb (lowest_free t) null f.1,
          lt-ltb j.place 4294967296 c.small,
        ),
      )
  undone-fits (replace_line {new} {old} kind w a b i) =
      let s = sought_slot i in
      let p : cell t.cells s.0 place ≡ new_half = s.2 ∙ omega arith in
      let q : old_half < 4294967296 = omega arith in (
        placed_at t s.0 old_half,
        rw (
          ne_eqb j.kind insert_kind (omega arith),
          ne_eqb j.kind remove_kind (omega arith),
          ne_eqb j.kind noted_kind (omega arith),
          eq-eqb j.kind replace_kind kind,
          s.1,
          eq-eqb (cell t.cells s.0 place) new_half p,
          lt-ltb old_half 4294967296 q,
        ),
      )

-- So many lines undone.
pub record Rolled {t : Live} (h : Sound t) (lines : List ℕ) (m k : ℕ) (u : Live) : Type 0 where
  pub fit : Fit u
  pub sound : Sound u
  pub capacity : slots_of u.names ≡ slots_of t.names
  pub undoes : Undoes (slots_of t.names) lines m k (listing h) (listing sound)
  pub lined : LinesUndone lines m sound k t h

module _ (lines : List ℕ) (m : ℕ) where
  one_more_lem : (k : ℕ) {t v u : Live} (h : Sound t) → m ≤ k → (s : Stepped h (line_of lines k) v) → Rolled s.left.sound lines m k u
      → Rolled h lines m (suc k) u
  one_more_lem k {t} h w s r =
      let x : Undoes (slots_of t.names) lines m k (listing s.left.sound) (listing r.sound) =
      rw (← s.left.capacity) r.undoes in
      record {
        fit = r.fit;
        sound = r.sound;
        capacity = r.capacity ∙ s.left.capacity;
        undoes = down w s.undone
            (subst (λ (l : List Entry). Undoes (slots_of t.names) lines m k l (listing r.sound)) s.left.lists x);
        lined = below w (record {
          listed = subst (λ (l : List Entry). UndoneTo (slots_of t.names) (line_of lines k) (listing h) l) (sym s.left.lists)
              s.undone;
          slot = s.slot;
        }) r.lined;
      }

  pub unrolled_undoes : (c : ℕ) {t : Live} → Fit t → (h : Sound t) (u : Live) → unrolled c t lines m ≡ stays u → Rolled h lines m (m + c) u
  unfolding unrolled
  unrolled_undoes zero {t} fit h u e =
      let same : t ≡ u = stays_is e in
      let z : m + 0 ≡ m = omega arith in
      let r : Rolled h lines m (m + 0) t = record { fit = fit; sound = h; capacity = refl; undoes = back z; lined = at_mark z } in
      subst (λ (v : Live). Rolled h lines m (m + 0) v) same r
  unrolled_undoes (suc c) {t} fit h u e = go (undone t (line_of lines (m + c))) refl (λ v g f q. unrolled_undoes c f g u q)
    where
      go : (o : Undo) → undone t (line_of lines (m + c)) ≡ o
          → ((v : Live) (g : Sound v) → Fit v → unrolled c v lines m ≡ stays u → Rolled g lines m (m + c) u)
          → Rolled h lines m (m + suc c) u
      go (stays v) q rest =
          let z : m + suc c ≡ suc (m + c) = omega arith in
          let s = undone_step fit h (line_of lines (m + c)) v q in
          subst (λ (k : ℕ). Rolled h lines m k u) (sym z)
          (one_more_lem (m + c) h (omega arith) s (rest v s.left.sound s.left.fit (rw (q, unrolled) at e)))
      go misfit q rest = absurd (not_stays (rw (q, unrolled) at e))

  -- And lines that fit are undone.
  pub undoes_unrolled : (c k : ℕ) {n : ℕ} {l l' : List Entry} {t : Live} → Undoes n lines m k l l' → k ≡ m + c → Fit t → (h : Sound t)
      → l ≡ listing h → n ≡ slots_of t.names
      → (u : Live) × (unrolled c t lines m ≡ stays u)
  unfolding unrolled
  undoes_unrolled zero k {t = t} x e fit h q r = (t, refl)
  undoes_unrolled (suc c) k (back z) e fit h q r = absurd (omega arith)
  undoes_unrolled (suc c) (suc k) {n} {l} {l'} {t} (down {mid = mid} w o x) e fit h q r =
      let z : k ≡ m + c = omega arith in
      let here : UndoneTo (slots_of t.names) (line_of lines k) (listing h) mid = rw (← r, ← q) o in
      let f = undone-fits fit h (line_of lines k) here in
      let s = undone_step fit h (line_of lines k) f.0 f.1 in
      let same : mid ≡ listing s.left.sound = undone_one here s.undone ∙ sym s.left.lists in
      let rest = undoes_unrolled c k x z s.left.fit s.left.sound same (r ∙ sym s.left.capacity) in
      let w : undone t (line_of lines (m + c)) ≡ stays f.0 = rw (← z) f.1 in
      (rest.0, rw (w, unrolled) rest.1)
