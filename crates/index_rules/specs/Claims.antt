-- What crate `index_rules` proves of the live tree, in one record. Every statement of the crate stands here.
use Rattle.std.specs.Prelude.{◌≡◌, ◌≢◌, ◌↔◌, true, List, [], ◌∷◌, ℕ, ◌+◌, ◌-◌, ◌*◌, ◌^◌, ◌<◌, ◌≤◌, length, get_or}
use Rattle.slots.specs.Words.{null, place, cell}
use Rattle.slots.specs.Pairs.{pair, pair_of}
use Rattle.slots.specs.Answers.{some, given, nothing, refused}
use Rattle.tree_rules.specs.Find.{slots_of, Follows, Lost, Here, Missed}
use Rattle.tree_rules.specs.Looks.{LooksAt}
use Rattle.tree_rules.specs.Check.{passed, failed, strayed, Walks}
use Rattle.index_rules.specs.Live.{Live, Unsized, unsized_of, Fit, FitUnsized, root_word, count_of}
use Rattle.index_rules.specs.Find.{finds}
use Rattle.index_rules.specs.Check.{checks}
use Rattle.index_rules.specs.Sound.{Sound, T1, T2, T3, T4, T5, T6, T7, T8, rule1, rule2, rule3, rule4, rule5, rule6, rule7, rule8}
use Rattle.index_rules.specs.Sound.{sounds}
use Rattle.tree_rules.specs.Tree.{Tree, slots, times, Rising}
use Rattle.redblack.specs.Balance.{OneFewer}
use Rattle.redblack.specs.Holding.{Stands, Has}
use Rattle.index_rules.specs.Index.{Index, FitIndex, Outcome, JournalLine, length_of, lines_of, at, insert_kind, replace_kind, plain_line}
use Rattle.index_rules.specs.Index.{both_places}
use Rattle.index_rules.specs.Insert.{inserts}
use Rattle.index_rules.specs.Remove.{removes}
use Rattle.index_rules.specs.Replace.{replaces}
use Rattle.index_rules.specs.Rollback.{rolls}
use Rattle.index_rules.specs.Ranks.{kths, positions}
use Rattle.index_rules.specs.Fresh.{FitLengths, freshes}
use Rattle.index_rules.specs.Contents.{Entry, entry, contents, listing, HoldSame, put, without, with_place, In, StandsAt}
use Rattle.index_rules.specs.Undoing.{Undoes, Fits, LinesUndone}
use Rattle.index_rules.specs.Checked.{NoneBelow, sounds_index, floor_after, inserts_sound, removes_sound, replaces_sound, rolls_sound}
use Rattle.index_rules.specs.Batch.{FitCalls, batched, batches, singly, accepted_in, answered_with}
use Rattle.index_rules.specs.Calls.{Call, called, after, Allowed, Places, Lowest, NoneFree, Takes, Frees, OnlyPlace, Notes, OneLine}
use Rattle.index_rules.specs.Calls.{BackTo}

-- find on any words, for any pair.
pub record Finds (t : Unsized) (hash key : ℕ) : Type 0 where
  -- 1 Unfit, "slice lengths disagree, a capacity .. breaks its rule": exactly then
  pub one : ((finds t hash key).answer ≡ refused 1) ↔ (FitUnsized t → ⊥)
  -- 9 Lost: exactly where the words are fit and the search is lost
  pub nine : ((finds t hash key).answer ≡ refused 9) ↔ (FitUnsized t × Lost t.names t.cells (root_word t.head) hash key)
  -- the slot, and Nothing, exactly where the words are fit and the search comes to them
  pub at : (slot : ℕ)
      → ((finds t hash key).answer ≡ given slot) ↔ (FitUnsized t × Here t.names t.cells (root_word t.head) hash key slot)
  pub none : ((finds t hash key).answer ≡ nothing) ↔ (FitUnsized t × Missed t.names t.cells (root_word t.head) hash key)
  -- 1 has no looks; on fit words they are the slots that the search follows from the root, in order
  pub unfit_looks : (FitUnsized t → ⊥) → (finds t hash key).looks ≡ []
  pub looks : FitUnsized t → LooksAt t.names hash key (Follows t.names t.cells (root_word t.head) hash key) (finds t hash key)

-- check, the source's own, on any words.
pub record Checks (t : Unsized) : Type 0 where
  pub one : (checks t ≡ refused 1) ↔ (FitUnsized t → ⊥)
  -- "9": the root or one of a node's own five links out of range, or more visits than slots, where the walk comes to it
  pub nine : (checks t ≡ refused 9) ↔ (FitUnsized t × Walks t.names t.cells (root_word t.head) (slots_of t.names) strayed)
  -- "Passes, or the first failing test with its slot"
  pub passes : (checks t ≡ nothing)
      ↔ (FitUnsized t × ((v : ℕ) × Walks t.names t.cells (root_word t.head) (slots_of t.names) (passed v)))
  pub fails : (test slot : ℕ)
      → (checks t ≡ record { number = 100 + test; value = some slot })
      ↔ (FitUnsized t × Walks t.names t.cells (root_word t.head) (slots_of t.names) (failed test slot))

-- The full check on any words: "yes exactly if sound", and each rule's own test exactly where the rule holds, given those before it.
pub record Sounds (t : Live) : Type 0 where
  pub one : (sounds t ≡ refused 1) ↔ (Fit t → ⊥)
  pub yes : (sounds t ≡ given 1) ↔ (Fit t × Sound t)
  pub no : (sounds t ≡ given 0) ↔ (Fit t × (Sound t → ⊥))
  -- "Passing check_invariants is not soundness", but a sound tree passes
  pub passes_too : Fit t → Sound t → checks (unsized_of t) ≡ nothing
  pub rule_one : (rule1 t ≡ true) ↔ T1 t
  pub rule_two : (rule2 t ≡ true) ↔ T2 t
  pub rule_three : Fit t → T1 t → (rule3 t ≡ true) ↔ ((tree : Tree) × T3 t tree)
  pub rule_four : Fit t → T1 t → {tree : Tree} → T3 t tree → (rule4 t ≡ true) ↔ T4 t tree
  pub rule_five : Fit t → T1 t → {tree : Tree} → T3 t tree → (rule5 t ≡ true) ↔ T5 tree
  pub rule_six : Fit t → T1 t → {tree : Tree} → T3 t tree → (rule6 t ≡ true) ↔ T6 tree
  pub rule_seven : Fit t → T1 t → (rule7 t ≡ true) ↔ ((chain : List ℕ) × T7 t chain)
  pub rule_eight : Fit t → T1 t → {tree : Tree} → T3 t tree → (rule8 t ≡ true) ↔ T8 t tree

-- The full check of a tree with its journal, on any words.
pub record SoundsIndex (ix : Index) : Type 0 where
  pub one : (sounds_index ix ≡ refused 1) ↔ (FitIndex ix → ⊥)
  pub yes : (sounds_index ix ≡ given 1) ↔ (FitIndex ix × Sound ix.live)
  pub no : (sounds_index ix ≡ given 0) ↔ (FitIndex ix × (Sound ix.live → ⊥))

-- find on a sound tree: the slot exactly where the pair is, Nothing exactly where it is not, never 9; and no slot is looked at twice.
pub record FindsSound (t : Live) (fit : Fit t) (h : Sound t) (hash key : ℕ) : Type 0 where
  pub at : (slot : ℕ)
      → ((finds (unsized_of t) hash key).answer ≡ given slot) ↔ (Stands slot h.tree × (pair_of t.names slot ≡ pair hash key))
  pub none : ((finds (unsized_of t) hash key).answer ≡ nothing) ↔ (Has t.names h.tree hash key → ⊥)
  pub never_nine : (finds (unsized_of t) hash key).answer ≡ refused 9 → ⊥
  pub once : (x : ℕ) → times x (finds (unsized_of t) hash key).looks ≤ 1
  -- "two to the power of nodes looked at is at most (n+1) squared", detours at a null child included
  pub not_deep : 2 ^ length (finds (unsized_of t) hash key).looks ≤ (count_of t + 1) * (count_of t + 1)

-- The contents of a sound tree are one list, and it strictly rises: two trees have equal contents exactly if they hold the same.
pub record Contained (t : Live) (fit : Fit t) : Type 0 where
  pub one : (h g : Sound t) → contents h ≡ contents g
  pub rising : (h : Sound t) → Rising t.names (slots h.tree)
  pub many : (h : Sound t) → length (contents h) ≡ count_of t
  pub same : (h : Sound t) (u : Live) (g : Sound u) → HoldSame h g ↔ (contents h ≡ contents g)

-- The listing of a sound tree is one list, with the very entries of the contents, each once.
pub record Lists (t : Live) (fit : Fit t) : Type 0 where
  pub one : (h g : Sound t) → listing h ≡ listing g
  pub same : (h : Sound t) (e : Entry) → In e (listing h) ↔ In e (contents h)
  pub many : (h : Sound t) → length (listing h) ≡ length (contents h)

-- insert on any words: each refusal exactly when the rules' table says and no earlier number holds.
pub record Inserts (ix : Index) (hash key p : ℕ) : Type 0 where
  -- 1 Unfit, "slice lengths disagree, a capacity .. breaks its rule, or the journal's length passes its capacity"
  pub one : ((inserts ix hash key p).answer ≡ refused 1) ↔ (FitIndex ix → ⊥)
  -- 2 Damaged, "the tree is not sound"
  pub two : ((inserts ix hash key p).answer ≡ refused 2) ↔ (FitIndex ix × (Sound ix.live → ⊥))
  -- 3 Present, "the pair is there; its slot is returned too"
  pub three : (slot : ℕ) → ((inserts ix hash key p).answer ≡ record { number = 3; value = some slot })
      ↔ (FitIndex ix × ((h : Sound ix.live) × Stands slot h.tree × (pair_of ix.live.names slot ≡ pair hash key)))
  -- 5 Full, "no free slot"
  pub five : ((inserts ix hash key p).answer ≡ refused 5)
      ↔ (FitIndex ix × ((h : Sound ix.live) × (Has ix.live.names h.tree hash key → ⊥) × NoneFree ix.live))
  -- 6 Journal full, "no line left"
  pub six : ((inserts ix hash key p).answer ≡ refused 6)
      ↔ (FitIndex ix
      × ((h : Sound ix.live) × (Has ix.live.names h.tree hash key → ⊥) × ((x : ℕ) × Lowest ix.live x)
      × (length_of ix.lines ≡ lines_of ix.lines)))
  -- accepted exactly else, and it answers the lowest free slot
  pub accepted : (x : ℕ) → ((inserts ix hash key p).answer ≡ given x)
      ↔ (FitIndex ix
      × ((h : Sound ix.live) × (Has ix.live.names h.tree hash key → ⊥) × Lowest ix.live x
      × (length_of ix.lines < lines_of ix.lines)))
  -- "A refusal .. writes nothing."
  pub nothing_written : ((inserts ix hash key p).answer.number ≢ 0) → (inserts ix hash key p).left ≡ ix
  -- accepted: sound after, with exactly this entry more, and in front of the listing; the chain is the new slot and then the old chain;
  -- exactly one line more, of kind 1; the slot answered is the one that took the pair
  pub done : (x : ℕ) → (inserts ix hash key p).answer ≡ given x → (h : Sound ix.live)
      → (g : Sound (inserts ix hash key p).left.live) × FitIndex (inserts ix hash key p).left
      × (contents g ≡ put (entry hash key p) (contents h)) × (listing g ≡ entry hash key p ∷ listing h) × (g.chain ≡ x ∷ h.chain)
      × OneLine ix.lines (inserts ix hash key p).left.lines (plain_line insert_kind hash key p)
      × (slots_of (inserts ix hash key p).left.live.names ≡ slots_of ix.live.names)
      × Takes ix.live (inserts ix hash key p).left.live x hash key p

-- A call on a pair that has to be there, of outcome o on any words.
pub record AsksPresent (ix : Index) (hash key : ℕ) (o : Outcome) : Type 0 where
  pub one : (o.answer ≡ refused 1) ↔ (FitIndex ix → ⊥)
  pub two : (o.answer ≡ refused 2) ↔ (FitIndex ix × (Sound ix.live → ⊥))
  -- 4 Absent, "it is not" there
  pub four : (o.answer ≡ refused 4) ↔ (FitIndex ix × ((h : Sound ix.live) × (Has ix.live.names h.tree hash key → ⊥)))
  pub six : (o.answer ≡ refused 6)
      ↔ (FitIndex ix × ((h : Sound ix.live) × Has ix.live.names h.tree hash key × (length_of ix.lines ≡ lines_of ix.lines)))
  -- accepted exactly else, and it answers the slot that has the pair
  pub accepted : (x : ℕ) → (o.answer ≡ given x)
      ↔ (FitIndex ix
      × ((h : Sound ix.live) × Stands x h.tree × (pair_of ix.live.names x ≡ pair hash key)
      × (length_of ix.lines < lines_of ix.lines)))
  pub nothing_written : (o.answer.number ≢ 0) → o.left ≡ ix

-- remove on any words.
pub record Removes (ix : Index) (hash key : ℕ) : Type 0 where
  pub asks : AsksPresent ix hash key (removes ix hash key)
  -- accepted: sound after, with exactly this pair's entry gone, from the listing too; the chain without the slot; exactly one line more, of
  -- kind 2, with the place it had and a note of what stood before it; the slot answered is free
  pub done : (x : ℕ) → (removes ix hash key).answer ≡ given x → (h : Sound ix.live)
      → (g : Sound (removes ix hash key).left.live) × FitIndex (removes ix hash key).left
      × (contents g ≡ without hash key (contents h)) × (listing g ≡ without hash key (listing h)) × OneFewer x h.chain g.chain
      × ((j : JournalLine) × Notes (entry hash key (cell ix.live.cells x place)) (listing h) j
      × OneLine ix.lines (removes ix hash key).left.lines j)
      × (slots_of (removes ix hash key).left.live.names ≡ slots_of ix.live.names)
      × Frees ix.live (removes ix hash key).left.live x

-- replace on any words, whatever the old place is.
pub record Replaces (ix : Index) (hash key p : ℕ) : Type 0 where
  pub asks : AsksPresent ix hash key (replaces ix hash key p)
  -- accepted: sound after, the same tree and chain, with exactly this pair's place changed, where it stands in the listing; exactly one
  -- line more, of kind 3, with both places; no other word of the tree is another
  pub done : (x : ℕ) → (replaces ix hash key p).answer ≡ given x → (h : Sound ix.live)
      → (g : Sound (replaces ix hash key p).left.live) × FitIndex (replaces ix hash key p).left
      × (contents g ≡ with_place hash key p (contents h)) × (listing g ≡ with_place hash key p (listing h)) × (g.tree ≡ h.tree)
      × (g.chain ≡ h.chain)
      × OneLine ix.lines (replaces ix hash key p).left.lines
      (plain_line replace_kind hash key (both_places p (cell ix.live.cells x place)))
      × (slots_of (replaces ix hash key p).left.live.names ≡ slots_of ix.live.names)
      × OnlyPlace ix.live (replaces ix hash key p).left.live x p

-- rollback on any words.
pub record Rolls (ix : Index) (m : ℕ) : Type 0 where
  pub one : ((rolls ix m).answer ≡ refused 1) ↔ (FitIndex ix → ⊥)
  pub two : ((rolls ix m).answer ≡ refused 2) ↔ (FitIndex ix × (Sound ix.live → ⊥))
  -- 7 Bad mark, "mark above the length"
  pub seven : ((rolls ix m).answer ≡ refused 7) ↔ (FitIndex ix × Sound ix.live × (length_of ix.lines < m))
  -- 8 Misfit, "the lines do not fit"
  pub eight : ((rolls ix m).answer ≡ refused 8)
      ↔ (FitIndex ix × (m ≤ length_of ix.lines)
      × ((h : Sound ix.live) × (Fits (slots_of ix.live.names) ix.lines m (length_of ix.lines) (listing h) → ⊥)))
  -- accepted exactly else, and it answers the lines undone
  pub accepted : (c : ℕ) → ((rolls ix m).answer ≡ given c)
      ↔ (FitIndex ix × (m ≤ length_of ix.lines) × (c ≡ length_of ix.lines - m)
      × ((h : Sound ix.live) × Fits (slots_of ix.live.names) ix.lines m (length_of ix.lines) (listing h)))
  pub nothing_written : ((rolls ix m).answer.number ≢ 0) → (rolls ix m).left ≡ ix
  -- accepted: sound after, the listing is the one that undoing gives, and the journal is back at the mark
  pub done : (c : ℕ) → (rolls ix m).answer ≡ given c → (h : Sound ix.live)
      → (g : Sound (rolls ix m).left.live) × FitIndex (rolls ix m).left
      × Undoes (slots_of ix.live.names) ix.lines m (length_of ix.lines) (listing h) (listing g)
      × BackTo m ix.lines (rolls ix m).left.lines × (slots_of (rolls ix m).left.live.names ≡ slots_of ix.live.names)
  -- and line by line, from the last down, each undone "by the same drivers": an insert's slot is freed, a removed pair takes the lowest
  -- free slot, and "undoing a replace line writes the old place and nothing else"
  pub line_by_line : (c : ℕ) → (rolls ix m).answer ≡ given c → (h : Sound ix.live)
      → (g : Sound (rolls ix m).left.live) × LinesUndone ix.lines m g (length_of ix.lines) ix.live h

-- One check for many calls, on an index that it said yes to.
pub record OnceChecked (ix : Index) (fit : FitIndex ix) (h : Sound ix.live) : Type 0 where
  -- after an accepted or a refused call the check would say yes again
  pub again : (c : Call) → FitIndex (called c ix).left × Sound (called c ix).left.live
  -- so the next call needs none: without it a call comes to the same, a search for a free slot from a floor below which none is free too
  pub insert : (f hash key p : ℕ) → NoneBelow f ix.live → inserts_sound f ix hash key p ≡ inserts ix hash key p
  pub remove : (hash key : ℕ) → removes_sound ix hash key ≡ removes ix hash key
  pub replace : (hash key p : ℕ) → replaces_sound ix hash key p ≡ replaces ix hash key p
  pub rollback : (m : ℕ) → rolls_sound ix m ≡ rolls ix m
  -- and the floor that goes along is one again
  pub floor : (c : Call) (f : ℕ) → NoneBelow f ix.live → NoneBelow (floor_after c (called c ix).answer f) (called c ix).left.live

-- A batch on any words: "Answers, tree and journal are those of the same calls made singly".
pub record Batches (ix : Index) (calls answers : List ℕ) : Type 0 where
  pub one : ((batches ix calls answers).answer ≡ refused 1) ↔ ((FitIndex ix × FitCalls calls answers) → ⊥)
  pub two : ((batches ix calls answers).answer ≡ refused 2) ↔ ((FitIndex ix × FitCalls calls answers) × (Sound ix.live → ⊥))
  -- "nothing is done"
  pub nothing_written : (batches ix calls answers).answer.number ≢ 0
      → batches ix calls answers ≡ batched (batches ix calls answers).answer ix answers
  -- else it answers how many calls were accepted, each of which has its line
  pub done : FitIndex ix → Sound ix.live → (c : FitCalls calls answers)
      → (batches ix calls answers
      ≡ batched (given (accepted_in (singly c.made ix))) (after c.made ix) (answered_with (singly c.made ix) answers))
      × (length_of (after c.made ix).lines ≡ length_of ix.lines + accepted_in (singly c.made ix))

-- The k-th call on any words.
pub record Kths (t : Live) (k : ℕ) : Type 0 where
  pub one : (kths t k ≡ refused 1) ↔ (Fit t → ⊥)
  pub two : (kths t k ≡ refused 2) ↔ (Fit t × (Sound t → ⊥))
  -- 15 Out of range exactly if k is not below the count
  pub fifteen : (kths t k ≡ refused 15) ↔ (Fit t × Sound t × (count_of t ≤ k))
  -- else the slot of the k-th entry of the contents
  pub slot : (x : ℕ) → (kths t k ≡ given x) ↔ (Fit t × ((h : Sound t) × (k < length (contents h)) × (get_or (slots h.tree) k null ≡ x)))

-- The position call on any words.
pub record Positions (t : Live) (hash key : ℕ) : Type 0 where
  pub one : (positions t hash key ≡ refused 1) ↔ (Fit t → ⊥)
  pub two : (positions t hash key ≡ refused 2) ↔ (Fit t × (Sound t → ⊥))
  pub four : (positions t hash key ≡ refused 4) ↔ (Fit t × ((h : Sound t) × (Has t.names h.tree hash key → ⊥)))
  -- else exactly the number of smaller pairs: as many entries of the contents stand before the pair's own
  pub place : (k : ℕ) → (positions t hash key ≡ given k) ↔ (Fit t × ((h : Sound t) × StandsAt k hash key (contents h)))
  -- each of the two calls undoes the other
  pub undone : (k x : ℕ) → kths t k ≡ given x → pair_of t.names x ≡ pair hash key → positions t hash key ≡ given k
  pub done_again : (k : ℕ) → positions t hash key ≡ given k → (x : ℕ) × (kths t k ≡ given x) × (pair_of t.names x ≡ pair hash key)

-- An empty index is written into any slices of fit lengths, whatever their words were.
pub record Freshes (ix : Index) : Type 0 where
  pub one : ((freshes ix).answer ≡ refused 1) ↔ (FitLengths ix → ⊥)
  pub made : ((freshes ix).answer ≡ given 1) ↔ FitLengths ix
  pub nothing_written : ((freshes ix).answer.number ≢ 0) → (freshes ix).left ≡ ix
  -- sound, with no entry, and every word of the journal 0
  pub done : FitLengths ix
      → (g : Sound (freshes ix).left.live) × FitIndex (freshes ix).left × (contents g ≡ []) × (length_of (freshes ix).left.lines ≡ 0)
      × ((j : ℕ) → get_or (freshes ix).left.lines j 0 ≡ 0) × (slots_of (freshes ix).left.live.names ≡ slots_of ix.live.names)

-- Demand 3: "Take a sound tree and a journal within .. limits, and note the journal's length. Make any inserts and removes on them,
-- refused ones too, and rollbacks to that mark or later ones; nothing else writes the two. A rollback to the mark is then accepted, the
-- tree is sound and holds the very pairs and places it held at the mark, and the journal's kept lines are the old ones." "Demand 3 allows
-- replaces among the calls."
pub record Demand3 (ix : Index) (fit : FitIndex ix) (h : Sound ix.live) (words : Places (contents h)) (calls : List Call)
    (allowed : Allowed (length_of ix.lines) calls) : Type 0 where
  pub accepted : (rolls (after calls ix) (length_of ix.lines)).answer ≡ given (length_of (after calls ix).lines - length_of ix.lines)
  pub sound : Sound (rolls (after calls ix) (length_of ix.lines)).left.live
  pub holds : contents sound ≡ contents h
  -- "listing from first gives the same pairs in the same order as at the mark", with their places
  pub listed : listing sound ≡ listing h
  -- the lines below the mark are word for word the old ones
  pub kept : (j : ℕ) → 0 < j → j < at (length_of ix.lines) 0
      → get_or (rolls (after calls ix) (length_of ix.lines)).left.lines j 0 ≡ get_or ix.lines j 0
  -- the length is the mark, the lines undone are zero, and the words past the length just before are untouched
  pub journal : BackTo (length_of ix.lines) (after calls ix).lines (rolls (after calls ix) (length_of ix.lines)).left.lines

pub record Claims : Type 0 where
  pub find : (t : Unsized) (hash key : ℕ) → Finds t hash key
  pub check : (t : Unsized) → Checks t
  pub sound : (t : Live) → Sounds t
  pub sound-index : (ix : Index) → SoundsIndex ix
  pub find_sound : (t : Live) (fit : Fit t) (h : Sound t) (hash key : ℕ) → FindsSound t fit h hash key
  pub holds : (t : Live) (fit : Fit t) → Contained t fit
  pub lists : (t : Live) (fit : Fit t) → Lists t fit
  pub insert : (ix : Index) (hash key p : ℕ) → Inserts ix hash key p
  pub remove : (ix : Index) (hash key : ℕ) → Removes ix hash key
  pub replace : (ix : Index) (hash key p : ℕ) → Replaces ix hash key p
  pub rollback : (ix : Index) (m : ℕ) → Rolls ix m
  pub once_checked : (ix : Index) (fit : FitIndex ix) (h : Sound ix.live) → OnceChecked ix fit h
  pub batch : (ix : Index) (calls answers : List ℕ) → Batches ix calls answers
  pub kth : (t : Live) (k : ℕ) → Kths t k
  pub position : (t : Live) (hash key : ℕ) → Positions t hash key
  pub fresh : (ix : Index) → Freshes ix
  pub demand3 : (ix : Index) (fit : FitIndex ix) (h : Sound ix.live) (words : Places (contents h)) (calls : List Call)
      (allowed : Allowed (length_of ix.lines) calls)
      → Demand3 ix fit h words calls allowed
