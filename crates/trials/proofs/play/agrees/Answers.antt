use mathlib.Core.Path.{◌≡◌, ap, sym, ◌∙◌}
use mathlib.Core.Logic.{◌≢◌, ◌⊎◌, inl, inr}
use mathlib.Core.Bool.{Bool, true, false, not, false≢true}
use mathlib.Core.List.{List}
use Prim.Native.Nat.{ℕ, ◌<◌, ◌≤◌}
use denote.Ref.{Bor}
use lib.ListN.{length, get_or}
use lib.Dec.{eqb, ltb}
use borrow.Author.Tests.{ltb-true, ltb-false, eq-eqb, eqb-true, not-false}
use Rattle.std.specs.Prelude.{Option, None, Some, IfSome}
use Rattle.std.specs.Option.{is_some, option_eq}
use Rattle.std.proofs.lemmas.List.{get_or_default}
use Rattle.trials.proofs.Steps.{agreed-over, agreed-other, agreed_on}
use Rattle.trials.proofs.play.agrees.Goals as goal

-- A byte that is read, if there is one, against one that is wanted.
record Read (xs : List ℕ) (at : ℕ) (b : Bor ℕ) (o : Option (Bor ℕ)) (r : Bool) : Type 0 where
  there : is_some o ≡ ltb at (length xs)
  byte : IfSome o (λ x. x.now ≡ get_or xs at x.now)
  other : r ≡ not (option_eq (λ x y. eqb x.now y.now) o (Some b))

read_other : {xs : List ℕ} {at : ℕ} {b : Bor ℕ} (o : Option (Bor ℕ)) {r : Bool} → Read xs at b o r → r ≡ true
    → (length xs ≤ at) ⊎ (get_or xs at 0 ≢ b.now)
read_other None h e = inl (ltb-false _ _ (sym h.there))
read_other {xs} {at} {b} (Some x) h e =
    let l = ltb-true at (length xs) (sym h.there) in
    inr (λ s. absurd (false≢true (sym (h.other ∙ ap not (eq-eqb x.now b.now (h.byte ∙ get_or_default xs at x.now 0 l ∙ s))) ∙ e)))

read_same : {xs : List ℕ} {at : ℕ} {b : Bor ℕ} (o : Option (Bor ℕ)) {r : Bool} → Read xs at b o r → r ≡ false
    → (at < length xs) × (get_or xs at 0 ≡ b.now)
read_same None h e = absurd (false≢true (sym e ∙ h.other))
read_same {xs} {at} {b} (Some x) h e =
    let l = ltb-true at (length xs) (sym h.there) in
    (l, sym (h.byte ∙ get_or_default xs at x.now 0 l) ∙ eqb-true _ _ (not-false _ (sym h.other ∙ e)))

pub returns-then-ne : goal.returns-then-ne
returns-then-ne c =
    let a = c.args in
    let g = c.get.ensures.lookup in
    let o = read_other c.get.result (record { there = g.0; byte = g.1; other = c.ne.ensures }) c.if-ne.true in
    agreed-other a.expected.now c.loop-byte.at a.part.now c.loop-byte.byte-index c.loop-byte-test.true o ∙ c.loop-byte.invariant

pub loop-byte-preserved : goal.loop-byte-preserved
loop-byte-preserved c =
    let a = c.args in
    let g = c.get.ensures.lookup in
    let s = read_same c.get.result (record { there = g.0; byte = g.1; other = c.ne.ensures }) c.if-ne.false in
    agreed_on a.expected.now c.loop-byte.at a.part.now c.loop-byte.byte-index c.loop-byte-test.true s.0 s.1 ∙ c.loop-byte.invariant

pub returns : goal.returns
returns c =
    let a = c.args in
    agreed-over a.expected.now c.loop-byte.at a.part.now c.loop-byte.byte-index c.loop-byte-test.false ∙ c.loop-byte.invariant
