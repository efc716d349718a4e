-- Every claim of the crate holds: the laws of the other files, put together.
use mathlib.Core.Path.{◌≡◌, refl, ◌∙◌, sym}
use mathlib.Core.Logic.{◌≢◌, ◌⊎◌, inl, inr}
use mathlib.Core.List.{List, [], append-nil}
use mathlib.Core.Bool.{Bool, true, false}
use Prim.Native.Nat.{ℕ, suc, zero, ◌*◌, ◌<◌, ◌≤◌}
use lib.ListN.{length}
use native.Mathlib.Omega.{arith}
use native.Mathlib.Decide.{ℕ_discrete}
use lib.Dec.{eqb}
use borrow.Author.Tests.{eq-eqb, ne_eqb, ltb-true, eqb-false}
use Rattle.slots.specs.Words.{null, place, state, parent, prev, next, fields, Colour, red, Side, other, toward}
use Rattle.slots.proofs.Laws.{pick_eq, cell_across}
use Rattle.redblack.specs.Links.{Links, read, painted, is_red, done}
use Rattle.redblack.specs.Rotate.{rotated}
use Rattle.redblack.specs.Insertion.{insertion_turn, insertion_turns, balanced_insertion}
use Rattle.tree_rules.specs.Tree.{Tree}
use Rattle.redblack.specs.Sided.{Sided, Way, fork, plug, slots, Site, home}
use Rattle.redblack.specs.Balance.{Mended, crown, void}
use Rattle.redblack.specs.Kept.{Aside}
use Rattle.redblack.specs.Holding.{Holds, plain}
use Rattle.redblack.specs.Claims.{PlainWords, Rotates, BalancesInsertion, BalancesDeletion, RemovesSlot, HangsSlot, KeepsSizes, Traps}
use Rattle.redblack.specs.Claims.{Claims, spun, AsSource}
use Rattle.redblack.proofs.Ends.{Outcome, on}
use Rattle.redblack.proofs.Frames.{cell_of, whole}
use Rattle.redblack.proofs.Order.{slots-plug, around_spin}
use Rattle.redblack.proofs.Depth.{depth}
use Rattle.redblack.proofs.Rotation.{rotation}
use Rattle.redblack.proofs.Deletion.{turn_root, turn_red, deletion_root, deletion_done, deletion}
use Rattle.redblack.proofs.Trade.{dive}
use Rattle.redblack.proofs.Bridge.{sided, plain_sided, plain-slots, plain-count, site_holds, holds_site, sound-plain, plain-sound}
use Rattle.redblack.proofs.Bridge.{plain-height, height-plain, plain_wants, wants_plain, plain-outcome}
use Rattle.redblack.proofs.Spotting.{depth_cap, spotted_link}
use Rattle.redblack.proofs.Plain.{hung_balanced, slot_removed, removed_spares, slot_hung, hung_spares}
use Rattle.redblack.proofs.Sizes.{rotation_tree, insertion_tree, deletion_tree, removal_tree, hanging_tree}
use Rattle.redblack.proofs.Kept.{read-write, rotated_keeps, insertion_keeps, deletion_keeps, removed_keeps, inserted_keeps}
use Rattle.redblack.proofs.Kept.{place_aside, prev_aside, next_aside}
use Rattle.redblack.proofs.Removed.{removed-left, removed-right}
use Rattle.redblack.proofs.Swapped.{trade_tree}
use Rattle.redblack.specs.Source.{WildMemory}
use Rattle.redblack.proofs.Guards.{Short}
use Rattle.redblack.proofs.Driver.{smallest_is, trade_is}
use Rattle.redblack.proofs.Source.{left_is, right_is, body_insertion, insertion_is, body_deletion, deletion_is}
use Rattle.redblack.proofs.Outside.{rotation_spares, insertion_spares, deletion_spares}

-- A view of the whole at any place, and back.
viewed : {n : ℕ} {s : Links} (C : Way) (t : Sided) → Holds n s (plain (plug C t)) → Site n s C t
viewed C t h = rw (append-nil C) at (dive C {E = []} (holds_site (plug C t) h))

-- Of the seven fields three are neither the state nor a link.
field_of : (f : ℕ) → Aside f → (f ≡ place) ⊎ ((f ≡ prev) ⊎ (f ≡ next))
field_of f a = go (ℕ_discrete f place) (ℕ_discrete f prev)
  where
    go : Dec (f ≡ place) → Dec (f ≡ prev) → (f ≡ place) ⊎ ((f ≡ prev) ⊎ (f ≡ next))
    go (yes e) c = inl e
    go (no d) (yes e) = inr (inl e)
    go (no d) (no c) =
        let l : f < 7 = ltb-true f fields a.small in
        let h1 : 1 ≢ f = eqb-false 1 f a.not_state in
        let h2 : 2 ≢ f = eqb-false 2 f a.not_parent in
        let h3 : 3 ≢ f = eqb-false 3 f a.not_left in
        let h4 : 4 ≢ f = eqb-false 4 f a.not_right in
        inr (inr (omega arith))

aside_of : (f : ℕ) → (f ≡ place) ⊎ ((f ≡ prev) ⊎ (f ≡ next)) → Aside f
aside_of f (inl e) = rw e place_aside
aside_of f (inr (inl e)) = rw e prev_aside
aside_of f (inr (inr e)) = rw e next_aside

word_claims : PlainWords
word_claims =
    record {
      named = λ t. (sided t, plain_sided t);
      order = λ t. sym (plain-slots t);
      held = λ n s C t. (λ h. site_holds (plug C t) (whole C h), viewed C t);
      balanced = λ t. (λ v. sound-plain v.1, plain-sound t);
      height = λ t h. (λ v. (sound-plain v, height-plain v), λ v. plain-height t h v.0 v.1);
      wants = λ C t h v. (λ w. wants_plain v w.1, plain_wants C v);
      absent = λ j t. (λ a. (a.solid, plain-count j t ∙ a.nowhere), λ a. record { solid = a.0; nowhere = sym (plain-count j t) ∙ a.1 });
      asides = λ f. (field_of f, aside_of f);
    }

-- A rotation: the laws of proofs/Rotation, and what its two tests come to.
spun-slots : (σ : Side) (p : ℕ) (C : Way) (cp cr : Colour) (a b d : Sided) (r : ℕ)
    → slots (plug C (fork σ (crown C cr) (fork σ cp a p b) r d)) ≡ slots (plug C (fork σ cp a p (fork σ cr b r d)))
unfolding slots
spun-slots σ p C cp cr a b d r =
    slots-plug C (fork σ (crown C cr) (fork σ cp a p b) r d) (fork σ cp a p (fork σ cr b r d))
    (around_spin σ (slots a) p (slots b) r (slots d))

spun-null : (σ : Side) (s : Links) (p : ℕ) → p ≡ null → spun σ s p ≡ s
unfolding rotated
spun-null σ s p e = pick_eq _ _ e

spun_childless : (σ : Side) (s : Links) (p : ℕ) → read s p (toward (other σ)) ≡ null → spun σ s p ≡ s
unfolding rotated
spun_childless σ s p e = go (eqb p null) refl
  where
    go : (t : Bool) → eqb p null ≡ t → spun σ s p ≡ s
    go true f = rw f
    go false f = rw (f, e)

rotation_claims : (σ : Side) (s : Links) (p : ℕ) → Rotates σ s p
rotation_claims σ s p =
    record {
      held = rotation;
      order = spun-slots σ p;
      spares = λ h k. rotation_spares h k (on σ) (on (other σ));
      keeps = λ f a. rotated_keeps a s p (on σ) (on (other σ));
      no_slot = spun-null σ s p;
      no_child_lem = spun_childless σ s p;
      crowned = λ h. (let v = rotation h in (elim v.way [ home e ↦ e ], (cell_of v.tree).hued));
    }

source_claims : (wild : WildMemory) (s : Links) → length s.cells ≤ 7 * null → AsSource wild s
source_claims w s l =
    let h : Short s = record { ends = l } in
    record {
      left_rotation = λ p. sym (left_is w s p h);
      right_rotation = λ p. sym (right_is w s p h);
      insertion_turn_lem = λ x d. sym (body_insertion w s x h (ne_eqb x null d));
      insertion = λ turns x d. sym (insertion_is w turns s x h (ne_eqb x null d));
      deletion_turn_lem = λ x. sym (body_deletion w s x h);
      deletion = λ turns x. sym (deletion_is w turns s x h);
      successor = λ turns q d. sym (smallest_is w turns s q (ne_eqb q null d));
      trading = λ p t d e. sym (trade_is w s p t h (ne_eqb p null d) (ne_eqb t null e));
    }

insertion_claims : (n budget : ℕ) (s : Links) (x : ℕ) → BalancesInsertion n budget s x
insertion_claims n budget s x =
    record {
      mends = λ t u v k h l. hung_balanced budget s v k h l;
      enough = λ t h. depth_cap t h;
      spares = λ h k. insertion_spares h k budget;
      keeps = λ f a. insertion_keeps a budget s x;
    }

-- Where the part stands for itself, the whole is the outcome.
stayed : {n : ℕ} {s : Links} {C : Way} {t : Sided} → Mended n s C t t → Outcome n s (slots (plug C t))
stayed {t = t} m =
    record { tree = plug m.path t; height = m.height; site = whole m.path m.site; sound = m.sound; same = m.same t }

deletion_claims : (n budget : ℕ) (s : Links) (x : ℕ) → BalancesDeletion n budget s x
deletion_claims n budget s x =
    record {
      mends = λ w v h l. deletion budget w v h l;
      staying = λ w v h l. plain-outcome (stayed (deletion budget w v h l));
      going = λ w h l. deletion budget w void h l;
      blackened = λ h l. deletion_done budget s x l (turn_red h);
      enough = λ h. depth h;
      spares = λ h k. deletion_spares h k budget;
      keeps = λ f a. deletion_keeps a budget s x;
    }

removal_claims : (n budget : ℕ) (s : Links) (t : Tree) (p : ℕ) → RemovesSlot n budget s t p
removal_claims n budget s t p =
    record {
      removes = λ h v c l. slot_removed budget s p h v c l;
      trades = λ h v c a b l. (let r = trade_tree t budget p h v c a b l in (r.heir, r.next, r.held, r.first));
      no_left = removed-left budget s p;
      no_right = removed-right budget s p;
      spares = λ h v c j z. removed_spares budget s p j h v c z;
      keeps = λ f a. removed_keeps a budget s p;
    }

hanging_claims : (n budget : ℕ) (names : List ℕ) (s : Links) (t : Tree) (x hash key : ℕ) → HangsSlot n budget names s t x hash key
hanging_claims n budget names s t x hash key =
    record {
      hangs = λ h v r none w z e l. slot_hung t budget names s x hash key h v r none w z e l;
      spares = λ h v r none w z l j d y. hung_spares t budget names s x hash key j h v r none w z l d y;
      keeps = λ f a. inserted_keeps a budget s x _ (spotted_link budget names s hash key);
    }

-- The sizes.
sizes_claims : (n budget : ℕ) (s : Links) (t : Tree) → KeepsSizes n budget s t
sizes_claims n budget s t =
    record {
      rotation = λ h z σ p c u k. rotation_tree t σ p h z c u k;
      insertion = λ x h z c u k. insertion_tree t budget x h z c u k;
      deletion = λ x h z c u k. deletion_tree t budget x h z c u k;
      removal = λ p h v z c l u k. removal_tree t budget p h v z c l u k;
      hanging = λ names x hash key h v z up none w f l u k. hanging_tree t budget names x hash key h v z up none w f l u k;
    }

-- The traps: the tests that come before the colour.
turn_no_grandparent : (s : Links) (x : ℕ) → read s x parent ≢ null → is_red s (read s x parent) ≡ true
    → read s (read s x parent) parent ≡ null → insertion_turn s x ≡ done s
unfolding insertion_turn
turn_no_grandparent s x d e z = rw (ne_eqb (read s x parent) null d, e, eq-eqb (read s (read s x parent) parent) null z)

turns_no_grandparent : (s : Links) (budget x : ℕ) → read s x parent ≢ null → is_red s (read s x parent) ≡ true
    → read s (read s x parent) parent ≡ null → insertion_turns budget s x ≡ s
unfolding insertion_turns
turns_no_grandparent s zero x d e z = refl
turns_no_grandparent s (suc budget) x d e z = rw (turn_no_grandparent s x d e z, insertion_turns)

-- To paint x red changes no link and makes no red slot black.
still_red : (s : Links) (x k : ℕ) → is_red s k ≡ true → is_red (painted s x red) k ≡ true
still_red s x k e = read-write (λ (v : ℕ). eqb v 2 ≡ true) s.cells x state 2 k state refl e

still_links : (s : Links) (x k : ℕ) → read (painted s x red) k parent ≡ read s k parent
still_links s x k = cell_across s.cells x state 2 k parent refl refl refl

painted-under_red : (s : Links) (budget x p : ℕ) → read s x parent ≡ p → p ≢ null → is_red s p ≡ true → read s p parent ≡ null
    → balanced_insertion budget s x ≡ painted s x red
unfolding balanced_insertion
painted-under_red s budget x p u d e z =
    let f : read (painted s x red) x parent ≡ p = still_links s x x ∙ u in
    turns_no_grandparent (painted s x red) budget x (rw f d) (rw f (still_red s x p e)) (rw f (still_links s x p ∙ z))

trap_claims : (s : Links) → Traps s
trap_claims s =
    record {
      at_root = turn_root s;
      as_it_was = λ m. deletion_root m s;
      root_stays_red = λ m e. rw (deletion_root m s) e;
      no_grandparent = turn_no_grandparent s;
      red_under_red = λ m x d e z. (painted-under_red s m x (read s x parent) refl d e z, still_red s x (read s x parent) e);
    }

pub claims : Claims
claims =
    record {
      plain_words = word_claims;
      rotates = rotation_claims;
      as_source = source_claims;
      balances_insertion = insertion_claims;
      balances_deletion = deletion_claims;
      removes_slot = removal_claims;
      hangs_slot = hanging_claims;
      keeps_sizes = sizes_claims;
      traps = trap_claims;
    }
