-- A list is that of the slots which next visits from first on: as many are met as are visited, and their lines are those of their entries.
use mathlib.Core.Path.{◌≡◌, refl, ap, ◌∙◌}
use mathlib.Core.Bool.{Bool, true, false}
use mathlib.Core.List.{List, [], ◌∷◌, ◌++◌, map}
use Prim.Native.Nat.{ℕ, zero, suc, ◌≤◌}
use native.Mathlib.Omega.{arith}
use lib.ListN.{length, length-map}
use lib.Dec.{eqb, ltb}
use borrow.Author.Tests.{eqb-true, ltb-true}
use Rattle.slots.specs.Words.{null, pick, next, cell}
use Rattle.slots.specs.Answers.{Value, none, some}
use Rattle.tree_rules.specs.Chain.{Chain, ended, linked}
use Rattle.tree_rules.specs.Find.{slots_of}
use Rattle.tree_rules.proofs.Chaining.{chain_most}
use Rattle.index_rules.specs.Live.{Live, Fit, fits, first_of}
use Rattle.index_rules.specs.Contents.{entry_of}
use Rattle.index_rules.proofs.Fit.{fit_fits, fits_fit, half, false_of}
use Rattle.script_rules.specs.Text.{digits}
use Rattle.script_rules.specs.Letters.{entry_text, entry_texts, listing_text, NextVisits, over, visit}
use Rattle.script_rules.specs.Answers.{more, met, entry_line, entry_lines, list_text}
use Rattle.script_rules.specs.Claims.{PrintsList}
use Rattle.script_rules.proofs.Listing.{met-null, met_on}

-- Visits for each of the slots are enough.
met_visits : (n : ℕ) (cells : List ℕ) (v : ℕ) {i : ℕ} {l : List ℕ} → n ≤ null → NextVisits n cells i l → length l ≤ v
    → met v n cells i ≡ some (length l)
met_visits n cells v s (over e) h = met-null v n cells _ e
met_visits n cells zero s (visit w c) h = absurd (omega arith)
met_visits n cells (suc v) {i} s (visit w c) h = met_on v n cells i (omega arith) w ∙ ap more (met_visits n cells v s c (omega arith))

-- And what is counted is visited.
abbrev Visited : ℕ → ℕ → List ℕ → ℕ → Type 0
Visited v n cells i = (l : List ℕ) × NextVisits n cells i l × (length l ≤ v)

visits_met : (v n : ℕ) (cells : List ℕ) (i : ℕ) {c : ℕ} → met v n cells i ≡ some c → Visited v n cells i
unfolding met
visits_met zero n cells i {c} e = go (eqb i null) refl e
  where
    go : (s : Bool) → eqb i null ≡ s → pick s (some 0) none ≡ some c → Visited 0 n cells i
    go true p f = ([], over (eqb-true i null p), omega arith)
    go false p f = let z : ◌≡◌ {A = ℕ} 0 1 = cc in absurd (omega arith)
visits_met (suc v) n cells i {c} e =
    go (λ d q. visits_met v n cells (cell cells i next) q) (eqb i null) refl (ltb i n) refl (met v n cells (cell cells i next)) refl e
  where
    go : ((d : ℕ) → met v n cells (cell cells i next) ≡ some d → Visited v n cells (cell cells i next))
        → (s : Bool) → eqb i null ≡ s → (t : Bool) → ltb i n ≡ t → (r : Value) → met v n cells (cell cells i next) ≡ r
        → pick s (some 0) (pick t (more r) none) ≡ some c → Visited (suc v) n cells i
    go again true p t q r k f = ([], over (eqb-true i null p), omega arith)
    go again false p true q (some d) k f = let w = again d k in (i ∷ w.0, visit (ltb-true i n q) w.1, omega (arith, w.2))
    go again false p true q none k f = let z : ◌≡◌ {A = ℕ} 0 1 = cc in absurd (omega arith)
    go again false p false q r k f = let z : ◌≡◌ {A = ℕ} 0 1 = cc in absurd (omega arith)

lost_none : (v n : ℕ) (cells : List ℕ) (i : ℕ) → ((l : List ℕ) → NextVisits n cells i l → length l ≤ v → ⊥) → met v n cells i ≡ none
lost_none v n cells i h = go (met v n cells i) refl
  where
    go : (r : Value) → met v n cells i ≡ r → met v n cells i ≡ none
    go (some c) q = let w = visits_met v n cells i q in absurd (h w.0 w.1 w.2)
    go none q = q

module _ (t : Live) where
  visits_lines : {i : ℕ} {l : List ℕ} → NextVisits (slots_of t.names) t.cells i l
      → entry_lines (length l) t.names t.cells i ≡ entry_texts (map (entry_of t) l)
  unfolding entry_line entry_lines entry_texts
  visits_lines (over e) = refl
  visits_lines {i} (visit w c) = ap (λ (m : List ℕ). entry_text (entry_of t i) ++ m) (visits_lines c)

  small : Fit t → slots_of t.names ≤ null
  small fit = omega (arith, half fit, fit.most)

  chain_visits : {q i : ℕ} {l : List ℕ} → Chain (slots_of t.names) t.cells q i l → NextVisits (slots_of t.names) t.cells i l
  chain_visits (ended e) = over e
  chain_visits (linked w p c) = visit w (chain_visits c)

  pub chain_printed : PrintsList t (list_text t)
  unfolding list_text digits
  chain_printed =
      record {
        unfit = λ h. rw (false_of (fits t) (λ e. h (fits_fit t e)));
        chain = λ fit l. along fit;
        lost = λ fit h. rw (fit_fits t fit, lost_none (slots_of t.names) (slots_of t.names) t.cells (first_of t) h);
        sound = λ fit h.
            along fit (chain_visits h.t7.linked) (chain_most (slots_of t.names) t.cells (small fit) (first_of t) h.t7.linked);
      }
    where
      along : Fit t → {l : List ℕ} → NextVisits (slots_of t.names) t.cells (first_of t) l → length l ≤ slots_of t.names
          → list_text t ≡ listing_text (map (entry_of t) l)
      along fit {l} c h =
          rw (
            fit_fits t fit,
            met_visits (slots_of t.names) t.cells (slots_of t.names) (small fit) c h,
            visits_lines c,
            length-map l (entry_of t),
          )
