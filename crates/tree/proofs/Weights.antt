-- What T8's walk counts is what T3's walk spends: each slot takes a visit. So the visits tell a subtree's size, and the walk need not add.
use mathlib.Core.Path.{◌≡◌, sym, ◌∙◌}
use mathlib.Core.List.{List}
use Prim.Native.Nat.{ℕ, zero, suc, ◌+◌, ◌-◌}
use native.Mathlib.Numerals.{sub-one}
use native.Mathlib.Omega.{arith}
use Rattle.slots.specs.Words.{null, left, right, cell}
use Rattle.slots.specs.Answers.{some}
use Rattle.slots.proofs.Laws.{some_is}
use Rattle.tree_rules.specs.Rules.{reached, with_parts, slots_below}
use Rattle.tree_rules.proofs.Reaching.{refuted}
use Rattle.tree_rules.proofs.Weighing.{Summed, summed_parts}
use Rattle.tree.proofs.Depth.{null_or, Stepped, stepped, at_once}
use Rattle.tree.proofs.Ruling.{weigh_null, weigh_zero, weigh_on}

module _ (n : ℕ) (cells sizes : List ℕ) where
  none_spent : (depth f q i v rest w : ℕ) → i ≡ null → reached f n cells q i v ≡ some rest
      → slots_below depth cells sizes i ≡ some w → w + rest ≡ v
  none_spent depth f q i v rest w z r e =
      let a : 0 ≡ w = some_is (weigh_null cells sizes i depth z ∙ e) in
      let b : v ≡ rest = some_is (sym (at_once n cells f q i v z) ∙ r) in
      omega (arith, a, b)

  pub weight_spent : (depth f q i v rest w : ℕ) → reached f n cells q i v ≡ some rest
      → slots_below depth cells sizes i ≡ some w → w + rest ≡ v
  unfolding with_parts
  weight_spent zero f q i v rest w r e =
      null_or cells i (λ z. none_spent 0 f q i v rest w z r e) (λ d. refuted (weigh_zero cells sizes i d ∙ e))
  weight_spent (suc depth) f q i v rest w r e =
      null_or cells i (λ z. none_spent (suc depth) f q i v rest w z r e)
      (λ d. go (stepped n cells f q i v rest d r)
      (summed_parts sizes i _ _ w (rw sub-one at (sym (weigh_on cells sizes i (suc depth) d (omega arith)) ∙ e)))
      (weight_spent depth) (weight_spent depth))
    where
      go : (s : Stepped n cells q i v rest) (p : Summed sizes i w (slots_below depth cells sizes (cell cells i left))
          (slots_below depth cells sizes (cell cells i right)))
          → ((g q j x y z : ℕ) → reached g n cells q j x ≡ some y → slots_below depth cells sizes j ≡ some z → z + y ≡ x)
          → ((g q j x y z : ℕ) → reached g n cells q j x ≡ some y → slots_below depth cells sizes j ≡ some z → z + y ≡ x)
          → w + rest ≡ v
      go s p f g =
          omega (
            arith,
            s.spent,
            p.all,
            f s.fuel i (cell cells i left) (v - 1) s.between p.lefts s.lefts p.first,
            g s.fuel i (cell cells i right) s.between rest p.rights s.rights p.second,
          )
