-- A list has at most as many slots as there are, so that more visits than slots come to so many more that are left.
use mathlib.Core.Path.{◌≡◌, refl, ap, sym, ◌∙◌}
use mathlib.Core.List.{List}
use Prim.Native.Nat.{ℕ, ◌+◌, ◌-◌, ◌≤◌}
use native.Mathlib.Omega.{arith}
use lib.ListN.{length}
use Rattle.slots.specs.Words.{null}
use Rattle.slots.specs.Answers.{Value, none, some}
use Rattle.tree_rules.specs.Find.{slots_of}
use Rattle.tree_rules.proofs.Counting.{length_most}
use Rattle.tree_rules.proofs.Reaching.{refuted}
use Rattle.set_rules.specs.Accepting.{list_fine}
use Rattle.set_rules.proofs.Lists.{Walked, apart_once, listed_inside, list_walked, walked_list}
use Rattle.sets.proofs.Hanging.{lists_of}

module _ (names cells : List ℕ) (few : slots_of names ≤ null) (len i x v : ℕ) where
  few_slots : {r : ℕ} (w : Walked (lists_of names cells) few len i x v r) → length w.visits ≤ slots_of names
  few_slots w =
      length_most (slots_of names) w.visits (λ k y. listed_inside (lists_of names cells) few w.ends k y)
      (apart_once (lists_of names cells) few w.apart)

  module _ (more : slots_of names ≤ v) where
    pub spare_wrong : none ≡ list_fine (slots_of names) names cells len i x → none ≡ list_fine v names cells len i x
    spare_wrong e = go (list_fine v names cells len i x) refl
      where
        go : (a : Value) → list_fine v names cells len i x ≡ a → none ≡ list_fine v names cells len i x
        go none p = sym p
        go (some r) p =
            let w = list_walked (lists_of names cells) few len i v x r p in
            refuted
            (e ∙ walked_list (lists_of names cells) few len i (slots_of names) w.ends w.apart w.plain w.home (few_slots w))

    pub spare_left : {r : ℕ} → some r ≡ list_fine (slots_of names) names cells len i x
        → (r ≤ slots_of names) × (some (r + (v - slots_of names)) ≡ list_fine v names cells len i x)
    spare_left {r} e =
        let w = list_walked (lists_of names cells) few len i (slots_of names) x r (sym e) in (
          omega (arith, w.spent),
          ap some (omega (arith, w.spent))
              ∙ sym (walked_list (lists_of names cells) few len i v w.ends w.apart w.plain w.home (omega (arith, w.spent))),
        )
