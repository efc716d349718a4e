-- The words of loose slots are written: a bin reads none of them, so the set is accepted but for these slots as it was.
use mathlib.Core.Path.{◌≡◌, refl, sym, subst, ◌∙◌}
use mathlib.Core.Logic.{◌⊎◌, inl, inr, ◌↔◌}
use mathlib.Core.List.{List}
use Prim.Native.Nat.{ℕ, ◌<◌, ◌≤◌}
use native.Mathlib.Decide.{ℕ_discrete}
use native.Mathlib.Omega.{arith}
use Rattle.slots.specs.Words.{place, state, parent, left, right, prev, next, free, cell}
use Rattle.tree_rules.specs.Check.{LinksNamed}
use Rattle.tree_rules.specs.Find.{slots_of}
use Rattle.tree_rules.specs.Tree.{slots, times}
use Rattle.index_rules.specs.Sound.{Cleared}
use Rattle.set_rules.specs.Words.{Set, Fit, Bin, bin_at}
use Rattle.set_rules.specs.Accepted.{slotted, BinThere, HeldIn, listed, grown, EntryOf, InOne}
use Rattle.set_rules.proofs.Fit.{small}
use Rattle.move_rules.specs.Moving.{rewritten}
use Rattle.move_rules.proofs.Framing.{BinLists}
use Rattle.move_rules.proofs.Framing.{Untouched, there_over, there_back, SameHeader, Left, entry-over, entry_back, good_list_frame}
use Rattle.move_rules.proofs.Framing.{shaped_frame, linked_frame, lists_own, lists_frame}
use Rattle.move_rules.proofs.Loose.{Loose}

module _ (s : Set) (P : ℕ → Type 0) (l cells : List ℕ) where
  abbrev t : Set
  t = rewritten s s.bins s.heads cells

  pub record Threads : Type 0 where
    pub fit : Fit t
    pub loose : Loose s P
    pub pending : (x : ℕ) → 1 ≤ times x l → P x
    pub spares : (x : ℕ) → times x l ≡ 0 → Untouched s.cells cells x
    pub states : (x : ℕ) → cell cells x state ≡ cell s.cells x state
    pub links : (x : ℕ) → 1 ≤ times x l → LinksNamed (slots_of s.names) cells x

  module _ (g : Threads) where
    among : {A : Type 0} (x : ℕ) → (1 ≤ times x l → A) → (times x l ≡ 0 → A) → A
    among {A} x this that = go (ℕ_discrete (times x l) 0)
      where
        go : Dec (times x l ≡ 0) → A
        go (yes e) = that e
        go (no d) = this (omega arith)

    still : (m j x : ℕ) → EntryOf s m j x → Untouched s.cells cells x
    still m j x e = g.spares x (among x (λ z. absurd (g.loose.nowhere x (g.pending x z) m j e)) (λ z. z))

    same : (h : ℕ) → SameHeader s s.bins s.heads cells h
    same h = record { root = refl; first = refl; count = refl }

    kept : (m j : ℕ) → BinThere s m j → Left s s.bins s.heads cells (bin_at s m j)
    kept m j p =
        record { header = λ h e. same h; slots = λ {l = v} d x z. still m j x (record { there = p; held = v; holds = d; member = z }) }

    over : (m j x : ℕ) → EntryOf s m j x → EntryOf t m j x
    over m j x e = entry-over s s.bins s.heads cells refl (kept m j e.there) e

    back : (m j x : ℕ) → EntryOf t m j x → EntryOf s m j x
    back m j x e =
        let p = there_back s s.bins s.heads cells e.there in
        entry_back s s.bins s.heads cells refl (kept m j p) g.fit g.loose.lists g.loose.trees e

    old : {m j : ℕ} → BinThere t m j → BinThere s m j
    old p = there_back s s.bins s.heads cells p

    new : {m j : ℕ} → BinThere s m j → BinThere t m j
    new p = there_over s s.bins s.heads cells p

    held_still : (m j : ℕ) → BinThere s m j → {c : Bin} {v : List ℕ} → bin_at s m j ≡ c → HeldIn s c v → (x : ℕ) → 1 ≤ times x v
        → Untouched s.cells cells x
    held_still m j p {c} {v} e d x z = (kept m j p).slots (subst (λ (y : Bin). HeldIn s y v) (sym e) d) x z

    pub threaded_loose : Loose t P
    threaded_loose =
        record {
          none_bad = λ m j p e. g.loose.none_bad m j (old p) e;
          words =
              record {
                states = λ x n. rw (g.states x) (g.loose.words.states x n);
                links = λ x n. among x (g.links x) (λ z. named x z (g.loose.words.links x n));
              };
          last_unmoved = λ m j p. g.loose.last_unmoved m j (old p);
          parent_moved_lem = λ m j p. g.loose.parent_moved_lem m j (old p);
          home = λ m j x e. g.loose.home m j x (back m j x e);
          heads =
              record {
                lists = λ m j n h a p q. g.loose.heads.lists m j n h a (old p) (old q);
                trees = λ m j n h a p q. g.loose.heads.trees m j n h a (old p) (old q);
              };
          lists =
              λ m j a p e. (let v = g.loose.lists m j a (old p) e in
              good_list_frame s s.bins s.heads cells a v (held_still m j (old p) e (listed v.ends)));
          headers =
              record {
                roots = λ m j h p. g.loose.headers.roots m j h (old p);
                firsts = λ m j h p. g.loose.headers.firsts m j h (old p);
                other_root = λ h w n. g.loose.headers.other_root h w (λ m j p. n m j (new p));
                other_first = λ h w n. g.loose.headers.other_first h w (λ m j p. n m j (new p));
                other-count = λ h w n. g.loose.headers.other-count h w (λ m j p. n m j (new p));
              };
          trees =
              λ m j h p e. (let v = g.loose.trees m j h (old p) e in
              shaped_frame s s.bins s.heads cells h v (same h) (held_still m j (old p) e (grown v.rooted)));
          chains =
              λ m j h p e. (let v = g.loose.chains m j h (old p) e in
              record {
                visits = v.visits;
                linked = linked_frame (λ x z. still m j x ((v.own x).0 z)) v.linked;
                count = v.count;
                own = λ x. (λ z. over m j x ((v.own x).0 z), λ z. (v.own x).1 (back m j x z));
              });
          used = λ x n d. go x (g.loose.used x n (λ e. d (g.states x ∙ e)));
          cleared = λ x n e. blank x n (sym (g.states x) ∙ e);
          inside = g.loose.inside;
          busy = λ x p e. g.loose.busy x p (sym (g.states x) ∙ e);
          nowhere = λ x p m j e. g.loose.nowhere x p m j (back m j x e);
        }
      where
        named : (x : ℕ) → times x l ≡ 0 → LinksNamed (slots_of s.names) s.cells x → LinksNamed (slots_of s.names) cells x
        named x z w =
            let u = g.spares x z in
            record {
              parents = rw (u parent refl) w.parents;
              lefts = rw (u left refl) w.lefts;
              rights = rw (u right refl) w.rights;
              prevs = rw (u prev refl) w.prevs;
              nexts = rw (u next refl) w.nexts;
            }

        go : (x : ℕ) → InOne s x ⊎ P x → InOne t x ⊎ P x
        go x (inl o) =
            inl (record {
              table = o.table;
              index = o.index;
              entry = over o.table o.index x o.entry;
              only = λ m j e. o.only m j (back m j x e);
            })
        go x (inr p) = inr p

        -- a free slot is not loose
        blank : (x : ℕ) → x < slots_of s.names → cell s.cells x state ≡ free → Cleared (slotted t) x
        blank x n e =
            let u = g.spares x (among x (λ z. absurd (g.loose.busy x (g.pending x z) e)) (λ z. z)) in
            let c = g.loose.cleared x n e in
            record {
              hash = c.hash;
              key = c.key;
              placed = u place refl ∙ c.placed;
              parents = u parent refl ∙ c.parents;
              lefts = u left refl ∙ c.lefts;
              rights = u right refl ∙ c.rights;
              prevs = u prev refl ∙ c.prevs;
              nexts = u next refl ∙ c.nexts;
            }

    pub threaded_entries : (m j x : ℕ) → EntryOf t m j x ↔ EntryOf s m j x
    threaded_entries m j x = (back m j x, over m j x)

    pub threaded_lists : (m j : ℕ) → BinThere s m j → {v : List ℕ} → BinLists s (bin_at s m j) v → BinLists t (bin_at t m j) v
    threaded_lists m j p w =
        lists_frame s s.bins s.heads cells (kept m j p).header
        (λ x z. still m j x (lists_own s (small g.fit) g.loose.chains p refl w x z)) w
