-- Entries inserted one after another into a sound index: when the next one is taken, and what it is refused with,
-- as insert's own claims say.
use mathlib.Core.Path.{◌≡◌, refl, ap, sym, ◌∙◌, subst}
use mathlib.Core.Logic.{◌≢◌}
use mathlib.Core.Bool.{Bool, true, false}
use mathlib.Core.List.{List, [], ◌∷◌, ◌++◌}
use Prim.Native.Nat.{ℕ, suc, ◌+◌, ◌-◌, ◌<◌}
use native.Mathlib.Decide.{ℕ_discrete, dec_lt}
use native.Mathlib.Omega.{arith}
use lib.ListN.{length}
use Rattle.slots.specs.Words.{null, place, cell, pick}
use Rattle.slots.specs.Pairs.{pair, pair_of, before}
use Rattle.slots.specs.Answers.{some, given, refused}
use Rattle.tree_rules.specs.Find.{slots_of}
use Rattle.redblack.specs.Holding.{Stands, Has}
use Rattle.index_rules.specs.Sound.{Sound}
use Rattle.index_rules.specs.Index.{Index, Outcome, FitIndex, length_of, lines_of, insert_kind, plain_line}
use Rattle.index_rules.specs.Insert.{inserts, lowest_free}
use Rattle.index_rules.specs.Rollback.{rolls}
use Rattle.index_rules.specs.Contents.{Entry, entry, entry_of, contents, listing, put, HasPair, Lacks}
use Rattle.index_rules.specs.Calls.{Call, insert_call, after, Allowed, nothing, Places, Lowest, NoneFree, OneLine}
use Rattle.index_rules.specs.Claims.{Inserts}
use Rattle.index_rules.proofs.Rules.{small}
use Rattle.index_rules.proofs.Free.{lowest_free_lem, none_free}
use Rattle.index_rules.proofs.Journal.{same_line}
use Rattle.index_rules.proofs.Deciding.{Seen, there, absent, seen}
use Rattle.index_rules.proofs.Holding.{stands_in, lacks-map}
use Rattle.index_rules.proofs.Listing.{in_lacks}
use Rattle.index_rules.proofs.Lists.{listing-length}
use Rattle.index_rules.proofs.Unrolling.{free_room, listing_most}
use Rattle.index_rules.proofs.Inserting.{insert_claims}
use Rattle.index_rules.proofs.Demanding.{demand_three}
use Rattle.upload_rules.specs.Parts.{put_all, Enters, none as differ-none, insert_calls}
use Rattle.upload_rules.specs.Left.{front_all, EntryLines, none, more, Uploaded}
use Rattle.upload_rules.proofs.Differing.{differ_one}
use Rattle.upload_rules.proofs.Sections.{length_one, put_all_one}
use Rattle.upload_rules.proofs.Restoring.{after_one, allowed_one}

length-put : (e : Entry) (l : List Entry) → length (put e l) ≡ suc (length l)
unfolding put
length-put e [] = refl
length-put e (x ∷ l) = go (before e.hash e.key x.hash x.key) (length-put e l)
  where
    go : (b : Bool) → length (put e l) ≡ suc (length l) → length (pick b (e ∷ (x ∷ l)) (x ∷ put e l)) ≡ suc (suc (length l))
    go true f = refl
    go false f = ap suc f

length-put_all : (es l : List Entry) → length (put_all es l) ≡ length l + length es
unfolding put_all
length-put_all [] l = omega arith
length-put_all (e ∷ es) l = let a = length-put_all es (put e l) in let b = length-put e l in omega arith

front_one : (es : List Entry) (e : Entry) (l : List Entry) → front_all (es ++ (e ∷ [])) l ≡ e ∷ front_all es l
unfolding front_all
front_one [] e l = refl
front_one (d ∷ es) e l = front_one es e (d ∷ l)

calls_one : (es : List Entry) (e : Entry) → insert_calls (es ++ (e ∷ [])) ≡ insert_calls es ++ (insert_call e.hash e.key e.at ∷ [])
calls_one [] e = refl
calls_one (d ∷ es) e = ap (λ (cs : List Call). insert_call d.hash d.key d.at ∷ cs) (calls_one es e)

-- One line more leaves the lines below as they were, and is the line of its entry.
lines_one : {lines lines' : List ℕ} {k : ℕ} {es : List Entry} (e : Entry) → EntryLines lines k es → k + length es ≡ length_of lines
    → OneLine lines lines' (plain_line insert_kind e.hash e.key e.at) → EntryLines lines' k (es ++ (e ∷ []))
lines_one {lines} {lines'} e (none {k}) n o =
    let same : length_of lines ≡ k = omega arith in
    subst (λ (j : ℕ). EntryLines lines' j (e ∷ [])) same (more o.line none)
lines_one {lines} {lines'} e (more {k} q w) n o =
    more (same_line lines lines' k (λ i a b. o.below i (omega arith) (omega arith)) ∙ q) (lines_one e w (omega arith) o)

module _ (ix : Index) (fits : FitIndex ix) (h : Sound ix.live) (words : Places (contents h)) where
  abbrev pub mark : ℕ
  mark = length_of ix.lines

  abbrev pub slots_in : ℕ
  slots_in = slots_of ix.live.names

  abbrev pub lines_in : ℕ
  lines_in = lines_of ix.lines

  -- The index after the inserts of these entries, all of them taken.
  pub record Taken (es : List Entry) (jx : Index) : Type 0 where
    pub left : Uploaded ix h es jx
    pub capacity : slots_of jx.live.names ≡ slots_in
    pub wide : lines_of jx.lines ≡ lines_in
    pub can : Enters ix h es
    pub allowed : Allowed mark (insert_calls es)
    pub is : jx ≡ after (insert_calls es) ix

  pub taken_none : Taken [] ix
  unfolding put_all front_all after
  taken_none =
      record {
        left = record { fit = fits; sound = h; holds = refl; listed = refl; long = omega arith; kept = λ j a b. refl; lined = none };
        capacity = refl;
        wide = refl;
        can = record {
          differ = differ-none;
          room = omega (arith, listing-length h, listing_most fits.tree h);
          journal = omega (arith, fits.within, fits.words);
        };
        allowed = nothing;
        is = refl;
      }

  -- A rollback to the mark is accepted.
  pub taken_back_lem : {es : List Entry} {jx : Index} → Taken es jx → (rolls jx mark).answer ≡ given (length_of jx.lines - mark)
  taken_back_lem {es} t = let e = t.is in rw e (demand_three ix h fits words (insert_calls es) t.allowed).accepted

  module _ {es : List Entry} {jx : Index} (t : Taken es jx) (e : Entry) where
    abbrev pub insertion : Outcome
    insertion = inserts jx e.hash e.key e.at

    claim : Inserts jx e.hash e.key e.at
    claim = insert_claims jx e.hash e.key e.at

    -- The pair lacks in what the index holds.
    abbrev pub New : Type 0
    New = Lacks e.hash e.key (put_all es (contents h))

    -- Or it is there.
    abbrev pub Old : Type 0
    Old = HasPair e.hash e.key (put_all es (contents h))

    count : length (listing t.left.sound) ≡ length (contents h) + length es
    count = listing-length t.left.sound ∙ ap length t.left.holds ∙ length-put_all es (contents h)

    lacking : New → Has jx.live.names t.left.sound.tree e.hash e.key → ⊥
    lacking w a =
        let l : Lacks e.hash e.key (contents t.left.sound) = rw t.left.holds w in
        let n = a.named in
        in_lacks (stands_in t.left.sound a.slot a.stands) l (λ i. (n i).hash) (λ i. (n i).key)

    has : (x : ℕ) → Stands x t.left.sound.tree → pair_of jx.live.names x ≡ pair e.hash e.key → Old
    has x s q =
        let p = cell jx.live.cells x place in
        let i = stands_in t.left.sound x s in
        let same : entry_of jx.live x ≡ entry e.hash e.key p = λ i. entry (q i).hash (q i).key p in
        (p, rw t.left.holds at (rw same at i))

    lacks : (Has jx.live.names t.left.sound.tree e.hash e.key → ⊥) → New
    lacks n = rw t.left.holds at (lacks-map jx.live _ e.hash e.key (λ k z q. n (record { slot = k; stands = z; named = q })))

    free_slot : length (contents h) + length es < slots_in → (x : ℕ) × Lowest jx.live x
    free_slot l =
        let d : lowest_free jx.live ≢ null = (free_room t.left.fit.tree t.left.sound).1 (omega (arith, count, t.capacity)) in
        (lowest_free jx.live, lowest_free_lem jx.live d)

    pub takes_one : e.at < 4294967296 → New → length (contents h) + length es < slots_in → mark + length es < lines_in
        → (x : ℕ) × (insertion.answer ≡ given x) × Taken (es ++ (e ∷ [])) insertion.left
    takes_one s w r l =
        let u = t.left in
        let f = free_slot r in
        let q = (claim.accepted f.0).1 (u.fit, (u.sound, lacking w, f.1, omega (arith, u.long, t.wide))) in
        let d = claim.done f.0 q u.sound in
        let o = d.5 in
        let n = length_one es e in
        let calls = calls_one es e in (
          f.0,
          q,
          record {
            left = record {
              fit = d.1;
              sound = d.0;
              holds = d.2 ∙ ap (put e) u.holds ∙ sym (put_all_one es e (contents h));
              listed = d.3 ∙ ap (λ (k : List Entry). e ∷ k) u.listed ∙ sym (front_one es e (listing h));
              long = o.count ∙ omega (arith, u.long);
              kept = λ j a b. o.below j a (omega (arith, u.long)) ∙ u.kept j a b;
              lined = lines_one e u.lined (sym u.long) o;
            };
            capacity = d.6 ∙ t.capacity;
            wide = omega (arith, o.long, t.wide);
            can = record { differ = differ_one es (contents h) e t.can.differ w; room = omega arith; journal = omega arith };
            allowed = rw calls (allowed_one e.hash e.key s t.allowed);
            is = rw calls (ap (λ (i : Index). (inserts i e.hash e.key e.at).left) t.is
                ∙ sym (after_one (insert_calls es) (insert_call e.hash e.key e.at) ix));
          },
        )

    -- 3 has the slot of the pair.
    pub three-at : (x : ℕ) (g : Sound jx.live) → Stands x g.tree → pair_of jx.live.names x ≡ pair e.hash e.key
        → insertion.answer ≡ record { number = 3; value = some x }
    three-at x g s p = (claim.three x).1 (t.left.fit, (g, s, p))

    pub five_full : New → length (contents h) + length es ≡ slots_in → insertion.answer ≡ refused 5
    five_full w l =
        let none_left : NoneFree jx.live =
        (none_free jx.live (small t.left.fit.tree)).0 (no_free (ℕ_discrete (lowest_free jx.live) null)) in
        claim.five.1 (t.left.fit, (t.left.sound, lacking w, none_left))
      where
        no_free : Dec (lowest_free jx.live ≡ null) → lowest_free jx.live ≡ null
        no_free (yes z) = z
        no_free (no d) = absurd (omega (arith, (free_room t.left.fit.tree t.left.sound).0 d, count, t.capacity))

    pub six_unlined : New → length (contents h) + length es < slots_in → mark + length es ≡ lines_in → insertion.answer ≡ refused 6
    six_unlined w r l =
        claim.six.1 (t.left.fit, (t.left.sound, lacking w, free_slot r, omega (arith, t.left.long, t.wide)))

    -- Taken, or refused with 3, 5 or 6 for its reason.
    pub data Judged : Type 0 where
      takes : (x : ℕ) → insertion.answer ≡ given x → Taken (es ++ (e ∷ [])) insertion.left → Judged
      present : (x : ℕ) → Stands x t.left.sound.tree → pair_of jx.live.names x ≡ pair e.hash e.key → Old
          → insertion.answer ≡ record { number = 3; value = some x } → Judged
      full : New → length (contents h) + length es ≡ slots_in → insertion.answer ≡ refused 5 → Judged
      unlined : New → length (contents h) + length es < slots_in → mark + length es ≡ lines_in → insertion.answer ≡ refused 6 → Judged

    pub judged : e.at < 4294967296 → Judged
    judged s = go (seen t.left.fit.tree t.left.sound e.hash e.key)
      where
        third : New → length (contents h) + length es < slots_in → Dec (mark + length es < lines_in) → Judged
        third w r (yes l) = let q = takes_one s w r l in takes q.0 q.1 q.2
        third w r (no n) = let l : mark + length es ≡ lines_in = omega (arith, t.can.journal) in unlined w r l (six_unlined w r l)

        second : New → Dec (length (contents h) + length es < slots_in) → Judged
        second w (yes r) = third w r (dec_lt (mark + length es) lines_in)
        second w (no n) = let l : length (contents h) + length es ≡ slots_in = omega (arith, t.can.room) in full w l (five_full w l)

        go : Seen t.left.sound e.hash e.key → Judged
        go (there x st p q) = present x st p (has x st p) (three-at x t.left.sound st p)
        go (absent m q) = second (lacks m) (dec_lt (length (contents h) + length es) slots_in)

    -- A pair that is there has a slot.
    pub three_there : Old → (x : ℕ) × (insertion.answer ≡ record { number = 3; value = some x })
    three_there n = go (seen t.left.fit.tree t.left.sound e.hash e.key)
      where
        go : Seen t.left.sound e.hash e.key → (x : ℕ) × (insertion.answer ≡ record { number = 3; value = some x })
        go (there x s p q) = (x, three-at x t.left.sound s p)
        go (absent m q) = absurd (in_lacks n.1 (lacks m) refl refl)
