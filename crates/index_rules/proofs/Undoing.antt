-- Undoing goes by the lines alone: it ends in one way, it can be cut at any mark, and other words of the journal do not matter. The line of
-- a call takes the call back.
use mathlib.Core.Path.{◌≡◌, refl, ap, sym, ◌∙◌, subst}
use mathlib.Core.Logic.{◌≢◌}
use mathlib.Core.List.{List, [], ◌∷◌, ◌++◌, append_assoc}
use Prim.Native.Nat.{ℕ, suc, ◌<◌, ◌≤◌}
use native.Mathlib.Decide.{ℕ_discrete}
use native.Mathlib.Omega.{arith}
use lib.ListN.{length}
use Rattle.index_rules.specs.Contents.{Entry, without, behind, with_place, In, first, Lacks, empty}
use Rattle.index_rules.specs.Index.{JournalLine, insert_kind, replace_kind, plain_line, noted_line, both_places, line_of}
use Rattle.index_rules.specs.Undoing.{line_entry, UndoneTo, insert_line, remove_line, behind_line, replace_line, Undoes, back, down}
use Rattle.index_rules.specs.Calls.{Notes, none, one, Places}
use Rattle.index_rules.proofs.Listing.{Distinct, distinct_lower, distinct_upper, lacks_append, in_at, without_at, behind-at}
use Rattle.index_rules.proofs.Listing.{without_in, first_all, behind_all, with_all, in_with, with_again}

-- A line is undone in one way.
pub undone_one : {n : ℕ} {j : JournalLine} {l a b : List Entry} → UndoneTo n j l a → UndoneTo n j l b → a ≡ b
undone_one (insert_line p i) (insert_line q k) = refl
undone_one (insert_line p i) (remove_line q c) = absurd (omega arith)
undone_one (insert_line p i) (behind_line q c k) = absurd (omega arith)
undone_one (insert_line p i) (replace_line q w x y k) = absurd (omega arith)
undone_one (remove_line p c) (insert_line q k) = absurd (omega arith)
undone_one (remove_line p c) (remove_line q d) = refl
undone_one (remove_line p c) (behind_line q d k) = absurd (omega arith)
undone_one (remove_line p c) (replace_line q w x y k) = absurd (omega arith)
undone_one (behind_line p c i) (insert_line q k) = absurd (omega arith)
undone_one (behind_line p c i) (remove_line q d) = absurd (omega arith)
undone_one (behind_line p c i) (behind_line q d k) = refl
undone_one (behind_line p c i) (replace_line q w x y k) = absurd (omega arith)
undone_one (replace_line p v s r i) (insert_line q k) = absurd (omega arith)
undone_one (replace_line p v s r i) (remove_line q d) = absurd (omega arith)
undone_one (replace_line p v s r i) (behind_line q d k) = absurd (omega arith)
undone_one {j = j} {l} (replace_line {old = old} p v s r i) (replace_line {old = old'} q w x y k) =
    let same : old ≡ old' = omega arith in
    ap (λ (o : ℕ). with_place j.hash j.key o l) same

-- Undoing leaves 32-bit places.
undone_places : {n : ℕ} {j : JournalLine} {l l' : List Entry} → UndoneTo n j l l' → Places l → Places l'
undone_places {j = j} {l} (insert_line p i) w = λ e k. w e (without_in j.hash j.key l e k)
undone_places {j = j} {l} (remove_line p c) w = first_all (λ (e : Entry). e.at < 4294967296) (line_entry j) l c.small w
undone_places {j = j} {l} (behind_line p c i) w =
    behind_all (λ (e : Entry). e.at < 4294967296) j.prior_hash j.prior_key (line_entry j) l c.small w
undone_places {j = j} {l} (replace_line {old = old} p v s r i) w = with_all (λ (e : Entry). e.at < 4294967296) j.hash j.key old l r w

pub undoes_places : {n m : ℕ} {lines : List ℕ} {k : ℕ} {l l' : List Entry} → Undoes n lines m k l l' → Places l → Places l'
undoes_places (back e) w = w
undoes_places (down h o u) w = undoes_places u (undone_places o w)

module _ {n m : ℕ} {lines : List ℕ} where
  -- In one way.
  pub undoes_one : {k : ℕ} {l a b : List Entry} → Undoes n lines m k l a → Undoes n lines m k l b → a ≡ b
  undoes_one (back e) (back f) = refl
  undoes_one (back e) (down h o u) = absurd (omega arith)
  undoes_one (down h o u) (back f) = absurd (omega arith)
  undoes_one (down {k} h o u) (down {l' = r} g q v) = undoes_one u (subst (λ (l : List Entry). Undoes n lines m k l r) (undone_one q o) v)

  -- Cut at a mark.
  pub undoes_cut : {k : ℕ} {l l' : List Entry} (mid : ℕ) → m ≤ mid → mid ≤ k → Undoes n lines m k l l'
      → (c : List Entry) × Undoes n lines mid k l c × Undoes n lines m mid c l'
  undoes_cut {k} {l} mid h w (back e) = let p : k ≡ mid = omega arith in let q : mid ≡ m = omega arith in (l, back p, back q)
  undoes_cut mid h w (down {k} {l} {mid = step} {l'} g o u) = go (ℕ_discrete mid (suc k)) (λ d. undoes_cut mid h (omega arith) u)
    where
      go : Dec (mid ≡ suc k) → (mid ≢ suc k → (c : List Entry) × Undoes n lines mid k step c × Undoes n lines m mid c l')
          → (c : List Entry) × Undoes n lines mid (suc k) l c × Undoes n lines m mid c l'
      go (yes e) rest = (l, back (sym e), subst (λ (j : ℕ). Undoes n lines m j l l') (sym e) (down g o u))
      go (no d) rest = let r = rest d in let w : mid ≤ k = omega arith in (r.0, down w o r.1, r.2)

-- Other words do not matter.
pub undoes_frame : {n m : ℕ} {lines : List ℕ} {k : ℕ} {l l' : List Entry} (lines' : List ℕ)
    → ((j : ℕ) → m ≤ j → j < k → line_of lines' j ≡ line_of lines j)
    → Undoes n lines m k l l' → Undoes n lines' m k l l'
undoes_frame lines' s (back e) = back e
undoes_frame {n} lines' s (down {k} {l} {mid} h o u) =
    down h (subst (λ (j : JournalLine). UndoneTo n j l mid) (sym (s k h (omega arith))) o)
    (undoes_frame lines' (λ j a b. s j a (omega arith)) u)

-- An insert's line takes its entry from the front.
pub insert_undone : (n : ℕ) (e : Entry) (l : List Entry) → UndoneTo n (plain_line insert_kind e.hash e.key e.at) (e ∷ l) l
insert_undone n e l =
    subst (λ (r : List Entry). UndoneTo n (plain_line insert_kind e.hash e.key e.at) (e ∷ l) r) (without_at e [] l empty)
    (insert_line refl first)

-- A remove's line puts its entry back where it stood.
pub remove_undone : {n : ℕ} {e : Entry} {l : List Entry} {j : JournalLine} → Distinct l → Notes e l j
    → length (without e.hash e.key l) < n
    → e.at < 4294967296 → UndoneTo n j (without e.hash e.key l) l
remove_undone {n} {e} {l} d (none b q) room small =
    let less : without e.hash e.key l ≡ b = ap (without e.hash e.key) q ∙ without_at e [] b empty in
    let lacks : Lacks e.hash e.key b = distinct_upper e [] b (rw q at d) in
    rw (less, q) (remove_line refl (record { lacks = lacks; room = rw less at room; small = small }))
remove_undone {n} {e} {l} d (one a b q r) room small =
    let split : l ≡ (a ++ (q ∷ [])) ++ (e ∷ b) = r ∙ sym (append_assoc a (q ∷ []) (e ∷ b)) in
    let lower = distinct_lower e (a ++ (q ∷ [])) b (rw split at d) in
    let upper = distinct_upper e (a ++ (q ∷ [])) b (rw split at d) in
    let less : without e.hash e.key l ≡ a ++ (q ∷ b) =
    ap (without e.hash e.key) split ∙ without_at e (a ++ (q ∷ [])) b lower ∙ append_assoc a (q ∷ []) b in
    let lacks : Lacks e.hash e.key (a ++ (q ∷ b)) = rw (append_assoc a (q ∷ []) b) at (lacks_append lower upper) in
    let again : behind q.hash q.key e (a ++ (q ∷ b)) ≡ l = behind-at q e a b (distinct_lower q a (e ∷ b) (rw r at d)) ∙ sym r in
    rw less
    (subst (λ (k : List Entry). UndoneTo n (noted_line e.hash e.key e.at q.hash q.key) (a ++ (q ∷ b)) k) again
    (behind_line refl (record { lacks = lacks; room = rw less at room; small = small }) (q.at, in_at q a b)))

-- A replace's line gives its entry the old place.
pub replace_undone : (n : ℕ) (e : Entry) (p : ℕ) (l : List Entry) → Distinct l → In e l → p < 4294967296 → e.at < 4294967296
    → UndoneTo n (plain_line replace_kind e.hash e.key (both_places p e.at)) (with_place e.hash e.key p l) l
replace_undone n e p l d i new old =
    subst (λ (r : List Entry). UndoneTo n (plain_line replace_kind e.hash e.key (both_places p e.at))
    (with_place e.hash e.key p l) r)
    (with_again e l d i p)
    (replace_line refl refl new old (in_with e l d i p))
