-- Demand 3: after any calls the lines from the mark up fit, and undoing them leaves the listing of the mark.
-- An accepted insert, remove or replace appends a line that takes it back, a rollback undoes the last of them,
-- and a refused call changes nothing.
use mathlib.Core.Path.{◌≡◌, refl, sym, ◌∙◌, subst}
use mathlib.Core.Logic.{◌≢◌, ◌⊎◌, inl, inr}
use mathlib.Core.List.{List, [], ◌∷◌}
use Prim.Native.Nat.{ℕ, suc, ◌-◌, ◌<◌, ◌≤◌}
use native.Mathlib.Numerals.{add-one}
use native.Mathlib.Omega.{arith}
use lib.ListN.{length, get_or}
use Rattle.slots.specs.Words.{place, cell}
use Rattle.slots.specs.Pairs.{pair, pair_of}
use Rattle.slots.specs.Answers.{given}
use Rattle.tree_rules.specs.Tree.{Tree}
use Rattle.redblack.specs.Holding.{Stands}
use Rattle.tree_rules.specs.Find.{slots_of}
use Rattle.index_rules.specs.Live.{Live, Fit}
use Rattle.index_rules.specs.Sound.{Sound}
use Rattle.index_rules.specs.Index.{Index, FitIndex, JournalLine, length_of, at}
use Rattle.index_rules.specs.Insert.{inserts}
use Rattle.index_rules.specs.Remove.{removes}
use Rattle.index_rules.specs.Replace.{replaces}
use Rattle.index_rules.specs.Rollback.{rolls}
use Rattle.index_rules.specs.Contents.{Entry, entry, entry_of, contents, listing, without, In}
use Rattle.index_rules.specs.Undoing.{UndoneTo, Undoes, back, down}
use Rattle.index_rules.specs.Calls.{Call, insert_call, remove_call, replace_call, rollback_call, after, Allowed, nothing, inserting}
use Rattle.index_rules.specs.Calls.{removing, replacing, rolling, Places, OneLine}
use Rattle.index_rules.specs.Claims.{Demand3}
use Rattle.index_rules.proofs.Listing.{ascends_map, ascends_same, length_without, first_all, without_in, with_all}
use Rattle.index_rules.proofs.Undoing.{undoes_one, undoes_cut, undoes_frame, undoes_places, insert_undone, remove_undone}
use Rattle.index_rules.proofs.Undoing.{replace_undone}
use Rattle.index_rules.proofs.Journal.{same_line}
use Rattle.index_rules.proofs.Lists.{stands-listed, listing_distinct}
use Rattle.index_rules.proofs.Unrolling.{tree_one, listing_most}
use Rattle.index_rules.proofs.Inserting.{insert_claims, insert_settled}
use Rattle.index_rules.proofs.Removing.{remove_claims, remove_settled}
use Rattle.index_rules.proofs.Replacing.{replace_claims, replace_settled}
use Rattle.index_rules.proofs.Rolling.{rollback_claims, rollback_settled}
use Rattle.index_rules.proofs.Finding.{list_claims}

-- Trees with one listing have one list of contents.
listing_holds : {t u : Live} → Fit t → Fit u → (h : Sound t) (g : Sound u) → listing h ≡ listing g → contents h ≡ contents g
listing_holds {t} {u} fit fit' h g q =
    ascends_same (contents h) (contents g) (ascends_map t h.t4) (ascends_map u g.t4)
    (λ e i. ((list_claims u fit').same g e).0 (subst (λ (l : List Entry). In e l) q (((list_claims t fit).same h e).1 i)))
    (λ e i. ((list_claims t fit).same h e).0 (subst (λ (l : List Entry). In e l) (sym q) (((list_claims u fit').same g e).1 i)))

module _ (ix : Index) (h : Sound ix.live) where
  abbrev mark : ℕ
  mark = length_of ix.lines

  abbrev slot_count : ℕ
  slot_count = slots_of ix.live.names

  -- What holds after any calls.
  record Good (jx : Index) : Type 0 where
    fit : FitIndex jx
    sound : Sound jx.live
    capacity : slots_of jx.live.names ≡ slot_count
    above : mark ≤ length_of jx.lines
    kept : (i : ℕ) → 0 < i → i < at mark 0 → get_or jx.lines i 0 ≡ get_or ix.lines i 0
    undoes : Undoes slot_count jx.lines mark (length_of jx.lines) (listing sound) (listing h)
    places : Places (listing sound)

  -- A line appended that takes the change back.
  line_good : {jx kx : Index} (j : JournalLine) (g : Good jx) (s : Sound kx.live) → FitIndex kx
      → slots_of kx.live.names ≡ slots_of jx.live.names
      → OneLine jx.lines kx.lines j → UndoneTo slot_count j (listing s) (listing g.sound) → Places (listing s) → Good kx
  line_good {jx} {kx} j g s fit cap o undone words =
      let k = length_of jx.lines in
      let older : Undoes slot_count kx.lines mark k (listing g.sound) (listing h) =
      undoes_frame kx.lines
      (λ i a b. same_line jx.lines kx.lines i (λ w l m. o.below w (omega arith) (omega arith))) g.undoes in
      let all : Undoes slot_count kx.lines mark (suc k) (listing s) (listing h) =
      down g.above (subst (λ (i : JournalLine). UndoneTo slot_count i (listing s) (listing g.sound)) (sym o.line) undone) older in
      let len : length_of kx.lines ≡ suc k = o.count ∙ add-one k in
      record {
        fit = fit;
        sound = s;
        capacity = cap ∙ g.capacity;
        above = omega (arith, o.count, g.above);
        kept = λ i a b. o.below i a (omega (arith, g.above)) ∙ g.kept i a b;
        undoes = subst (λ (i : ℕ). Undoes slot_count kx.lines mark i (listing s) (listing h)) (sym len) all;
        places = words;
      }

  insert_good : (jx : Index) (hash key p : ℕ) → p < 4294967296 → Good jx → (x : ℕ) → (inserts jx hash key p).answer ≡ given x
      → Good (inserts jx hash key p).left
  insert_good jx hash key p small g x q =
      let d = (insert_claims jx hash key p).done x q g.sound in
      line_good _ g d.0 d.1 d.6 d.5 (rw d.3 (insert_undone slot_count (entry hash key p) (listing g.sound)))
      (subst (λ (l : List Entry). Places l) (sym d.3)
      (first_all (λ (e : Entry). e.at < 4294967296) (entry hash key p) (listing g.sound) small g.places))

  -- The entry of a slot that a call found.
  was_listed : (jx : Index) (g : Good jx) (r : Sound jx.live) (hash key x : ℕ) → Stands x r.tree
      → pair_of jx.live.names x ≡ pair hash key
      → In (entry hash key (cell jx.live.cells x place)) (listing g.sound)
  was_listed jx g r hash key x z n =
      let stands : Stands x g.sound.tree = subst (λ (u : Tree). Stands x u) (tree_one g.fit.tree r g.sound) z in
      let is : entry_of jx.live x ≡ entry hash key (cell jx.live.cells x place) =
      λ i. entry (n i).hash (n i).key (cell jx.live.cells x place) in
      subst (λ (e : Entry). In e (listing g.sound)) is (stands-listed g.sound x stands)

  remove_good : (jx : Index) (hash key : ℕ) → Good jx → (x : ℕ) → (removes jx hash key).answer ≡ given x → Good (removes jx hash key).left
  remove_good jx hash key g x q =
      let claim = remove_claims jx hash key in
      let r = (claim.asks.accepted x).0 q in
      let d = claim.done x q g.sound in
      let e = entry hash key (cell jx.live.cells x place) in
      let was = was_listed jx g r.1.0 hash key x r.1.1 r.1.2 in
      let distinct = listing_distinct g.sound g.fit.tree in
      let room : length (without hash key (listing g.sound)) < slot_count =
      omega (arith, length_without e (listing g.sound) distinct was, listing_most g.fit.tree g.sound, g.capacity) in
      line_good d.5.0 g d.0 d.1 d.6 d.5.2 (rw d.3 (remove_undone distinct d.5.1 room (g.places e was)))
      (subst (λ (l : List Entry). Places l) (sym d.3) (λ y i. g.places y (without_in hash key (listing g.sound) y i)))

  replace_good : (jx : Index) (hash key p : ℕ) → p < 4294967296 → Good jx → (x : ℕ) → (replaces jx hash key p).answer ≡ given x
      → Good (replaces jx hash key p).left
  replace_good jx hash key p small g x q =
      let claim = replace_claims jx hash key p in
      let r = (claim.asks.accepted x).0 q in
      let d = claim.done x q g.sound in
      let e = entry hash key (cell jx.live.cells x place) in
      let was = was_listed jx g r.1.0 hash key x r.1.1 r.1.2 in
      let distinct = listing_distinct g.sound g.fit.tree in
      line_good _ g d.0 d.1 d.7 d.6
      (rw d.3 (replace_undone slot_count e p (listing g.sound) distinct was small (g.places e was)))
      (subst (λ (l : List Entry). Places l) (sym d.3)
      (with_all (λ (e : Entry). e.at < 4294967296) hash key p (listing g.sound) small g.places))

  -- A rollback to a mark above: the lines above it are undone, and the rest still fit.
  rollback_good : (jx : Index) (m : ℕ) → mark ≤ m → Good jx → (c : ℕ) → (rolls jx m).answer ≡ given c → Good (rolls jx m).left
  rollback_good jx m w g c q =
      let claim = rollback_claims jx m in
      let r = (claim.accepted c).0 q in
      let d = claim.done c q g.sound in
      let s = d.0 in
      let b = d.3 in
      let cut = undoes_cut m w r.1 g.undoes in
      let here : Undoes slot_count jx.lines m (length_of jx.lines) (listing g.sound) (listing s) = rw (← g.capacity) d.2 in
      let same : cut.0 ≡ listing s = undoes_one cut.1 here in
      let lines' = (rolls jx m).left.lines in
      let rest : Undoes slot_count lines' mark m (listing s) (listing h) =
      undoes_frame lines' (λ i a l. same_line jx.lines lines' i (λ w c e. b.below w (omega arith) (omega arith)))
      (subst (λ (l : List Entry). Undoes slot_count jx.lines mark m l (listing h)) same cut.2) in
      record {
        fit = d.1;
        sound = s;
        capacity = d.4 ∙ g.capacity;
        above = omega (arith, b.count);
        kept = λ j a l. b.below j a (omega arith) ∙ g.kept j a l;
        undoes = subst (λ (i : ℕ). Undoes slot_count lines' mark i (listing s) (listing h)) (sym b.count) rest;
        places = undoes_places here g.places;
      }

  stay : {jx kx : Index} → kx ≡ jx → Good jx → Good kx
  stay e g = subst Good (sym e) g

  calls_good : (calls : List Call) → Allowed mark calls → (jx : Index) → Good jx → Good (after calls jx)
  unfolding after
  calls_good [] nothing jx g = g
  calls_good (insert_call hash key p ∷ cs) (inserting small a) jx g =
      calls_good cs a (inserts jx hash key p).left (go (insert_settled jx hash key p))
    where
      go : ((inserts jx hash key p).answer.number ≢ 0) ⊎ ((x : ℕ) × ((inserts jx hash key p).answer ≡ given x))
          → Good (inserts jx hash key p).left
      go (inl n) = stay ((insert_claims jx hash key p).nothing_written n) g
      go (inr r) = insert_good jx hash key p small g r.0 r.1
  calls_good (remove_call hash key ∷ cs) (removing a) jx g = calls_good cs a (removes jx hash key).left (go (remove_settled jx hash key))
    where
      go : ((removes jx hash key).answer.number ≢ 0) ⊎ ((x : ℕ) × ((removes jx hash key).answer ≡ given x))
          → Good (removes jx hash key).left
      go (inl n) = stay ((remove_claims jx hash key).asks.nothing_written n) g
      go (inr r) = remove_good jx hash key g r.0 r.1
  calls_good (replace_call hash key p ∷ cs) (replacing small a) jx g =
      calls_good cs a (replaces jx hash key p).left (go (replace_settled jx hash key p))
    where
      go : ((replaces jx hash key p).answer.number ≢ 0) ⊎ ((x : ℕ) × ((replaces jx hash key p).answer ≡ given x))
          → Good (replaces jx hash key p).left
      go (inl n) = stay ((replace_claims jx hash key p).asks.nothing_written n) g
      go (inr r) = replace_good jx hash key p small g r.0 r.1
  calls_good (rollback_call m ∷ cs) (rolling w a) jx g = calls_good cs a (rolls jx m).left (go (rollback_settled jx m))
    where
      go : ((rolls jx m).answer.number ≢ 0) ⊎ ((c : ℕ) × ((rolls jx m).answer ≡ given c)) → Good (rolls jx m).left
      go (inl n) = stay ((rollback_claims jx m).nothing_written n) g
      go (inr r) = rollback_good jx m w g r.0 r.1

  pub demand_three : (fit : FitIndex ix) (words : Places (contents h)) (calls : List Call) (allowed : Allowed mark calls)
      → Demand3 ix fit h words calls allowed
  demand_three fit words calls allowed =
      let start : Good ix =
      record {
        fit = fit;
        sound = h;
        capacity = refl;
        above = omega arith;
        kept = λ j a b. refl;
        undoes = back refl;
        places = λ e i. words e (((list_claims ix.live fit.tree).same h e).0 i);
      } in
      let g = calls_good calls allowed ix start in
      let jx = after calls ix in
      let claim = rollback_claims jx mark in
      let here : Undoes (slots_of jx.live.names) jx.lines mark (length_of jx.lines) (listing g.sound) (listing h) =
      rw g.capacity g.undoes in
      let q = (claim.accepted (length_of jx.lines - mark)).1 (g.fit, g.above, refl, (g.sound, (listing h, here))) in
      let d = claim.done (length_of jx.lines - mark) q g.sound in
      let same = undoes_one d.2 here in
      record {
        accepted = q;
        sound = d.0;
        holds = listing_holds d.1.tree fit.tree d.0 h same;
        listed = same;
        kept = λ j a b. d.3.below j a b ∙ g.kept j a b;
        journal = d.3;
      }
