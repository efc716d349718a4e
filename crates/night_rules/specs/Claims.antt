-- What crate `night_rules` proves, in one record. Every statement of the crate stands here.
use Rattle.std.specs.Prelude.{◌≡◌, ◌≢◌, ◌⊎◌, ◌↔◌, true, List, [], ◌∷◌, map, ℕ, ◌<◌, ◌≤◌, length, get_or}
use Rattle.slots.specs.Words.{null}
use Rattle.slots.specs.Answers.{given, refused}
use Rattle.tree_rules.specs.Find.{slots_of}
use Rattle.tree_rules.specs.Tree.{Tree}
use Rattle.redblack.specs.Holding.{Stands}
use Rattle.index_rules.specs.Live.{Live, Fit, lent_tree, count_of}
use Rattle.index_rules.specs.Sound.{Sound, T1, T2, T3, T4, T5, T6, T7, T8, sounds}
use Rattle.index_rules.specs.Contents.{Entry, entry_of, contents, listing, In}
use Rattle.night_rules.specs.Account.{WayDown, Account, tells_slot, tells_header, tells_pair, tells_ways, tells_sound, shown_words}
use Rattle.night_rules.specs.Shows.{Shows1, Header1, Shows3, Shows4, Shows5, Shows6, Shows7, Shows8}
use Rattle.night_rules.specs.Reason.{Reason}
use Rattle.night_rules.specs.Breach.{BreaksAt, breach}
use Rattle.night_rules.specs.Finding.{Examined}
use Rattle.night_rules.specs.Why.{shows1, shows3, shows4, shows5, shows6, shows7, shows8, why, whys}
use Rattle.night_rules.specs.Salvage.{Salvaged, salvaged, salvages}
use Rattle.night_rules.specs.Saved.{ClearedTree, FitSalvage, KeptSlot, Reports, slot_entry, kept_below, kept_down, Filled}

-- "Given the rules before it, a rule holds exactly if no slot, nor the header, shows it broken." T4 to T6 and T8 are asked of the tree that
-- has T3.
pub record Complete (t : Live) : Type 0 where
  pub one : T1 t ↔ (((i : ℕ) → Shows1 t i → ⊥) × (Header1 t → ⊥))
  pub three : T1 t → T2 t → ((tree : Tree) × T3 t tree) ↔ ((i : ℕ) → Shows3 t i → ⊥)
  pub four : {tree : Tree} → T3 t tree → T4 t tree ↔ ((i : ℕ) → Shows4 t tree i → ⊥)
  pub five : {tree : Tree} → T3 t tree → T5 tree ↔ ((i : ℕ) → Shows5 t i → ⊥)
  pub six : {tree : Tree} → T3 t tree → T6 tree ↔ ((i : ℕ) → Shows6 t i → ⊥)
  pub seven : T1 t → T2 t → ((chain : List ℕ) × T7 t chain) ↔ ((i : ℕ) → Shows7 t i → ⊥)
  pub eight : T1 t → {tree : Tree} → T3 t tree → T8 t tree ↔ ((i : ℕ) → Shows8 t tree i → ⊥)

-- The test of one slot is true exactly where the slot shows the rule broken.
pub record Tested (t : Live) (i : ℕ) : Type 0 where
  pub one : (shows1 t i ≡ true) ↔ Shows1 t i
  pub three : T1 t → (shows3 t i ≡ true) ↔ Shows3 t i
  pub four : {tree : Tree} → T3 t tree → (shows4 t i ≡ true) ↔ Shows4 t tree i
  pub five : (shows5 t i ≡ true) ↔ Shows5 t i
  pub six : {tree : Tree} → T3 t tree → (shows6 t i ≡ true) ↔ Shows6 t i
  pub seven : T1 t → (shows7 t i ≡ true) ↔ Shows7 t i
  pub eight : T1 t → {tree : Tree} → T3 t tree → (shows8 t i ≡ true) ↔ Shows8 t tree i

-- Eight words in a row.
abbrev pub eight_words : ℕ → ℕ → ℕ → ℕ → ℕ → ℕ → ℕ → ℕ → List ℕ
eight_words a b c d e f g h = a ∷ (b ∷ (c ∷ (d ∷ (e ∷ (f ∷ (g ∷ (h ∷ [])))))))

-- "Slot, other, then two ways, each its last slot, side, blacks", word by word, and "words of `shown` that say nothing are null".
pub record ShownTable : Type 0 where
  pub slot : (rule i : ℕ)
      → ((tells_slot rule i).rule ≡ rule) × (shown_words (tells_slot rule i) ≡ eight_words i null null null null null null null)
  pub header : (rule : ℕ)
      → ((tells_header rule).rule ≡ rule) × (shown_words (tells_header rule) ≡ eight_words null null null null null null null null)
  -- "`other` is that next slot"
  pub pair : (i j : ℕ) → ((tells_pair i j).rule ≡ 4) × (shown_words (tells_pair i j) ≡ eight_words i j null null null null null null)
  -- "The first way goes by the left link, the second by the right."
  pub ways : (i : ℕ) (w v : WayDown) → ((tells_ways i w v).rule ≡ 6)
      × (shown_words (tells_ways i w v) ≡ eight_words i null w.last w.side w.blacks v.last v.side v.blacks)
  pub sound : (tells_sound.rule ≡ 0) × (shown_words tells_sound ≡ eight_words null null null null null null null null)

-- What is told of a tree whose slices fit.
pub record Reasons (t : Live) : Type 0 where
  -- nothing but that it is sound, exactly of a sound tree
  pub sound : (why t ≡ tells_sound) ↔ Sound t
  pub number : ((why t).rule ≡ 0) ↔ Sound t
  -- else a true reason, and there is no other
  pub reason : (Sound t → ⊥) → Reason t (why t)
  pub only : (w : Account) → Reason t w → w ≡ why t
  -- "two reasons of one tree are equal", and a sound tree has none
  pub one_reason : (w v : Account) → Reason t w → Reason t v → w ≡ v
  pub no_reason : Sound t → (w : Account) → Reason t w → ⊥

-- The call on any words: "Refusals: 1 only".
pub record Whys (t : Live) (shown : List ℕ) : Type 0 where
  -- "1 where the tree's slices do not fit or `shown` is not eight words, and `shown` stays as it was"
  pub one : ((whys t shown).answer ≡ refused 1) ↔ ((Fit t × (length shown ≡ 8)) → ⊥)
  pub stays : (whys t shown).answer ≡ refused 1 → (whys t shown).shown ≡ shown
  pub only_one : (m : ℕ) → m ≢ 0 → (whys t shown).answer.number ≡ m → (whys t shown).answer ≡ refused 1
  -- 0 exactly where the full check says yes
  pub sound : ((whys t shown).answer ≡ given 0) ↔ ((length shown ≡ 8) × (sounds t ≡ given 1))
  -- "for a sound tree all eight are" null
  pub nulls : (whys t shown).answer ≡ given 0 → (whys t shown).shown ≡ shown_words tells_sound
  -- else the number and the words of the one true reason
  pub reason : (k : ℕ) → (whys t shown).answer ≡ given k → k ≢ 0
      → (w : Account) × Reason t w × (w.rule ≡ k) × ((whys t shown).shown ≡ shown_words w)

-- What a salvage that is not refused comes to, of the names and cells of a first tree and a cleared second one.
pub record Saves (names cells : List ℕ) (u : Live) (report : List ℕ) (o : Salvaged) : Type 0 where
  pub reports : (i : ℕ) → i < slots_of names → Reports names cells o.report i
  -- "Words of the report past the slots stay."
  pub past : (i : ℕ) → slots_of names ≤ i → get_or o.report i null ≡ get_or report i null
  pub long : length o.report ≡ length report
  -- "It answers the slots kept."
  pub answer : o.answer ≡ given (kept_below o.report (slots_of names))
  -- "After every call not refused it is sound", and of the same capacity
  pub fit : Fit o.into
  pub same : slots_of o.into.names ≡ slots_of names
  pub sound : Sound o.into
  -- "holds the entries of the kept slots and no others", as many as are kept
  pub holds : (e : Entry)
      → In e (contents sound) ↔ ((i : ℕ) × (i < slots_of names) × KeptSlot o.report i × (slot_entry names cells i ≡ e))
  pub many : length (contents sound) ≡ kept_below o.report (slots_of names)
  -- "Kept slots go to slots 0, 1, 2 and so on of the second tree, in their order"
  pub placed : (i : ℕ) → i < slots_of names → KeptSlot o.report i → Stands (kept_below o.report i) sound.tree
      × (entry_of o.into (kept_below o.report i) ≡ slot_entry names cells i)
  -- "the listing has the last kept slot first"
  pub lists : listing sound ≡ map (slot_entry names cells) (kept_down o.report (slots_of names))
  -- "as the inserts of these entries in their order leave it"
  pub filled : Filled u (map (slot_entry names cells) (kept_down o.report (slots_of names))) o.into
  -- "From a sound tree it gives the same pairs and places, and every slot is kept or free."
  pub whole : (head sizes : List ℕ) → Fit (lent_tree names cells head sizes) → (h : Sound (lent_tree names cells head sizes))
      → (contents sound ≡ contents h) × ((i : ℕ) → i < slots_of names → KeptSlot o.report i ⊎ (get_or o.report i null ≡ 1))

-- The call on any words: "Refusals: 1 only".
pub record Salvages (names cells : List ℕ) (u : Live) (report : List ℕ) : Type 0 where
  pub one : ((salvages names cells u report).answer ≡ refused 1) ↔ (FitSalvage names cells u report → ⊥)
  -- "A refused call writes nothing."
  pub nothing_written : (salvages names cells u report).answer.number ≢ 0 → salvages names cells u report ≡ salvaged (refused 1) u report
  pub done : FitSalvage names cells u report → Saves names cells u report (salvages names cells u report)

pub record Claims : Type 0 where
  pub complete : (t : Live) → Fit t → Complete t
  pub tested : (t : Live) → Fit t → (i : ℕ) → i < slots_of t.names → Tested t i
  pub shown : ShownTable
  pub reasons : (t : Live) → Fit t → Reasons t
  -- how the rule is broken, at the slot or in the header, is true of the tree
  pub breaches : (t : Live) → Fit t → (w : Account) → Reason t w → BreaksAt t w (breach t w)
  -- what is found on any words: each finding exactly when, and true
  pub examined : (t : Live) → Examined t
  pub whys : (t : Live) (shown : List ℕ) → Whys t shown
  -- "cleared exactly if it is sound and its count is 0"
  pub cleared : (u : Live) → Fit u → ClearedTree u ↔ (Sound u × (count_of u ≡ 0))
  pub salvages : (names cells : List ℕ) (u : Live) (report : List ℕ) → Salvages names cells u report
