-- What a whole file comes to, whichever bytes it has: one verdict, and zeros on a refusal.
use mathlib.Core.Path.{◌≡◌, refl, ap, sym, ◌∙◌, subst}
use mathlib.Core.Bool.{Bool, true, false}
use mathlib.Core.Logic.{◌≢◌, ◌↔◌}
use mathlib.Core.List.{List}
use Prim.Native.Nat.{ℕ}
use native.Mathlib.Omega.{arith}
use lib.Dec.{eqb}
use borrow.Author.Tests.{eqb-true, eqb-false, eq-eqb, ne_eqb}
use Rattle.slots.specs.Answers.{Answer, refused}
use Rattle.endian.specs.Bytes.{Bytes}
use Rattle.upload_rules.specs.Reader.{Note, unsaid, said, note_answer}
use Rattle.upload_rules.proofs.Ranges.{pick_both, no_test}
use Rattle.set_rules.specs.Words.{Set, Fit, fits}
use Rattle.set_rules.specs.Accepted.{Accepted}
use Rattle.set_rules.specs.Accepting.{accepted}
use Rattle.set_rules.proofs.Fit.{fits_exactly}
use Rattle.set_rules.proofs.Accepting.{yes_accepted, accepted_yes}
use Rattle.file_rules.specs.File.{counts_in}
use Rattle.file_rules.specs.Loader.{Loader, new_loader, taken_of, loader_answer}
use Rattle.file_rules.specs.Loading.{Loading, loading, LoadOutcome, load_refused, bytes_loaded, cut_out, end_judged, end_loaded}
use Rattle.file_rules.specs.Loading.{load_whole, GoesOn}
use Rattle.file_rules.specs.Faults.{WholeFile, LoadVerdict}
use Rattle.file_rules.proofs.Ranges.{end_open, end_said, bytes_go}
use Rattle.file_rules.proofs.Testing.{start_goes}
use Rattle.file_rules.proofs.CutOut.{NotedFault, on, off}
use Rattle.file_rules.proofs.Bringing.{between_words}
use Rattle.file_rules.proofs.Returning.{filled_to, set_runs, cut_back}
use Rattle.file_rules.proofs.Tight.{bytes_tight, start_tight}
use Rattle.file_rules.proofs.Refusing.{long_refused, over-refused}
use Rattle.file_rules.proofs.Why.{bytes_kept, cut_loadable, Why, why}
use Rattle.file_rules.proofs.Shortness.{begun_short, short_stays}
use Rattle.file_rules.specs.Faults as F
use Rattle.file_rules.proofs.CutOut as O
use Rattle.file_rules.proofs.Why as W

-- The number of what the end comes to.
abbrev end_number : Loading → ℕ
end_number d = (loader_answer d.loader).number

-- The end of four whole sections.
module _ (r : Loader) (u s : Set) (four : r.section ≡ 4) (cut : cut_out r u ≡ s) where
  end_yes : Fit s → Accepted s → end_number (end_judged r u) ≡ 0
  unfolding end_judged
  end_yes f a =
      rw (eq-eqb r.section 4 four, ap fits cut ∙ (fits_exactly s).1 f, ap accepted cut ∙ accepted_yes f a)

  end_unfit : (Fit s → ⊥) → end_number (end_judged r u) ≡ 1
  unfolding end_judged load_refused
  end_unfit n = go (fits (cut_out r u)) refl
    where
      go : (b : Bool) → fits (cut_out r u) ≡ b → end_number (end_judged r u) ≡ 1
      go true e = absurd (n ((fits_exactly s).0 (ap fits (sym cut) ∙ e)))
      go false e = rw (eq-eqb r.section 4 four, e)

  end_damaged : Fit s → (Accepted s → ⊥) → end_number (end_judged r u) ≡ 2
  unfolding end_judged load_refused
  end_damaged f n = go (accepted (cut_out r u)) refl
    where
      go : (b : Bool) → accepted (cut_out r u) ≡ b → end_number (end_judged r u) ≡ 2
      go true e = absurd (n (yes_accepted f (ap accepted (sym cut) ∙ e)))
      go false e = rw (eq-eqb r.section 4 four, ap fits cut ∙ (fits_exactly s).1 f, e)

end_short : (r : Loader) (u : Set) → r.section ≢ 4 → end_number (end_judged r u) ≡ 12
unfolding end_judged load_refused
end_short r u n = rw (ne_eqb r.section 4 n)

module _ (t : Set) {l : List ℕ} (k : Bytes l) where
  abbrev came : Loading
  came = bytes_loaded (loading new_loader t) l

  whole_number : (load_whole t l).answer.number ≡ end_number (end_loaded came)
  whole_number = ap (λ (o : LoadOutcome). o.answer.number) (O.whole_is t l k)

  said_number : (n : ℕ) → came.loader.note ≡ said (refused n) → (load_whole t l).answer.number ≡ n
  said_number n e = whole_number ∙ ap end_number (end_said came e) ∙ ap (λ (x : Note). (note_answer x (taken_of came.loader)).number) e

  pub came_whole : (s : Set) → WholeFile t l s → came ≡ loading (between_words 4 0 (counts_in s)) (filled_to t s (counts_in s) 4)
  came_whole s w = ap (bytes_loaded (loading new_loader t)) w.is ∙ set_runs s t w.loadable

  whole_end : (s : Set) (w : WholeFile t l s)
      → end_loaded came ≡ end_judged (between_words 4 0 (counts_in s)) (filled_to t s (counts_in s) 4)
  whole_end s w = ap end_loaded (came_whole s w) ∙ end_open (loading (between_words 4 0 (counts_in s)) (filled_to t s (counts_in s) 4)) refl

  open_number : came.loader.note ≡ unsaid → (load_whole t l).answer.number ≡ end_number (end_judged came.loader came.set)
  open_number u = whole_number ∙ ap end_number (end_open came u)

  came_goes : GoesOn came
  came_goes = bytes_go (loading new_loader t) k (start_goes t)

  is_whole : came.loader.note ≡ unsaid → came.loader.section ≡ 4 → WholeFile t l (cut_out came.loader came.set)
  is_whole u e =
      let g = came_goes in
      let h = bytes_tight (loading new_loader t) k (start_goes t) (start_tight t) u in
      record {
        loadable = cut_loadable came.loader t came.set (bytes_kept (loading new_loader t) l) g.fit.limits (g.room u)
            (λ s m. h.wholes s (omega arith));
        is = O.came_bytes_lem t l k u ∙ O.came_cut came.loader came.set (g.room u) g.fit e;
      }

  -- From the reason to the number.
  verdict_number : {n : ℕ} → LoadVerdict t l n → (load_whole t l).answer.number ≡ n
  verdict_number (F.accepts s w f a) = whole_number ∙ ap end_number (whole_end s w) ∙ end_yes _ _ s refl (cut_back s t w.loadable) f a
  verdict_number (F.unfit s w f) = whole_number ∙ ap end_number (whole_end s w) ∙ end_unfit _ _ s refl (cut_back s t w.loadable) f
  verdict_number (F.damaged s w f a) = whole_number ∙ ap end_number (whole_end s w) ∙ end_damaged _ _ s refl (cut_back s t w.loadable) f a
  verdict_number (F.over o) = said_number 14 (over-refused t l o)
  verdict_number (F.long o) = said_number 13 (long_refused t l o)
  verdict_number (F.short o) =
      let s = short_stays t o in
      let early = o.early in
      open_number s.unnoted ∙ end_short came.loader came.set (λ e. let h = s.here in omega arith)

  -- From the state to the verdict.
  judge : (s : Set) → WholeFile t l s → (b c : Bool) → fits s ≡ b → accepted s ≡ c → (n : ℕ) × LoadVerdict t l n
  judge s w false c e f = (1, F.unfit s w (λ h. no_test e ((fits_exactly s).1 h)))
  judge s w true true e f = (0, F.accepts s w ((fits_exactly s).0 e) (yes_accepted ((fits_exactly s).0 e) f))
  judge s w true false e f = (2, F.damaged s w ((fits_exactly s).0 e) (λ h. no_test f (accepted_yes ((fits_exactly s).0 e) h)))

  some_verdict : (n : ℕ) × LoadVerdict t l n
  some_verdict = go came.loader.note refl (O.bytes_noted (loading new_loader t) l on)
    where
      told : (a : Answer) → Why t l a → (n : ℕ) × LoadVerdict t l n
      told _ (W.long x) = (13, F.long x)
      told _ (W.over x) = (14, F.over x)

      fourth : came.loader.note ≡ unsaid → (b : Bool) → eqb came.loader.section 4 ≡ b → (n : ℕ) × LoadVerdict t l n
      fourth u true e =
          let s = cut_out came.loader came.set in
          judge s (is_whole u (eqb-true _ _ e)) (fits s) (accepted s) refl refl
      fourth u false e =
          let g = came_goes in
          let n = eqb-false came.loader.section 4 e in
          let m = g.fit.sections in (
            12,
            F.short (begun_short t came.loader came.set g.fit (g.room u) (bytes_kept (loading new_loader t) l) l
                (O.came_bytes_lem t l k u)
                (bytes_tight (loading new_loader t) k (start_goes t) (start_tight t) u)
                (omega arith)),
          )

      go : (n : Note) → came.loader.note ≡ n → NotedFault n → (n : ℕ) × LoadVerdict t l n
      go _ u on = fourth u (eqb came.loader.section 4) refl
      go _ u (off j h) = told (refused j) (why t k (refused j) u)

  -- "Refusals .. exactly when".
  pub verdicts : (n : ℕ) → ((load_whole t l).answer.number ≡ n) ↔ LoadVerdict t l n
  verdicts n =
      (λ e. let v = some_verdict in subst (LoadVerdict t l) (sym (verdict_number v.1) ∙ e) v.1, λ v. verdict_number v)

-- A refusal has no value with it.
abbrev PlainRefusal : Loading → Type 0
PlainRefusal d = (loader_answer d.loader).number ≢ 0 → loader_answer d.loader ≡ refused (loader_answer d.loader).number

end_plain : (r : Loader) (t : Set) → PlainRefusal (end_judged r t)
unfolding end_judged load_refused
end_plain r t =
    pick_both PlainRefusal (eqb r.section 4) _ _
    (pick_both PlainRefusal (fits (cut_out r t)) _ _
    (pick_both PlainRefusal (accepted (cut_out r t)) _ _ (λ h. absurd (h refl)) (λ h. refl))
    (λ h. refl))
    (λ h. refl)

pub whole_plain : (t : Set) (l : List ℕ) → PlainRefusal (end_loaded (bytes_loaded (loading new_loader t) l))
whole_plain t l =
    let d = bytes_loaded (loading new_loader t) l in
    go d d.loader.note refl (O.bytes_noted (loading new_loader t) l on)
  where
    go : (d : Loading) (n : Note) → d.loader.note ≡ n → NotedFault n → PlainRefusal (end_loaded d)
    go d _ u on = rw (end_open d u) (end_plain d.loader d.set)
    go d _ u (off j h) = rw (end_said d u) (rw u (λ n. refl))
