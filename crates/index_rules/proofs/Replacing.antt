-- replace: the slot that has the pair gets another place, and a line of kind 3 says which it was.
use mathlib.Core.Path.{◌≡◌, ap, sym, ◌∙◌, subst}
use mathlib.Core.Logic.{◌≢◌, ◌⊎◌}
use mathlib.Core.List.{List}
use Prim.Native.Nat.{ℕ, ◌<◌}
use native.Mathlib.Omega.{arith}
use Rattle.slots.specs.Words.{place, cell}
use Rattle.slots.specs.Pairs.{pair, pair_of}
use Rattle.slots.specs.Answers.{given}
use Rattle.tree_rules.specs.Tree.{Tree}
use Rattle.redblack.specs.Holding.{Stands}
use Rattle.index_rules.specs.Sound.{Sound}
use Rattle.index_rules.specs.Index.{Index, FitIndex, length_of, lines_of, replace_kind, plain_line, both_places}
use Rattle.index_rules.specs.Replace.{after_replace, replaces}
use Rattle.index_rules.specs.Contents.{contents, listing, with_place}
use Rattle.index_rules.specs.Calls.{OneLine, OnlyPlace}
use Rattle.index_rules.specs.Claims.{Replaces}
use Rattle.index_rules.proofs.Journal.{lines_capacity, one_line}
use Rattle.index_rules.proofs.Placing.{placed_sound, placed_contents}
use Rattle.index_rules.proofs.Lists.{placed_listing}
use Rattle.index_rules.proofs.Unrolling.{tree_one}
use Rattle.index_rules.proofs.Present.{asks_present, present_left, present_settled}
use Rattle.tree_rules.specs.Find.{slots_of}

module _ (ix : Index) (hash key p : ℕ) where
  -- What an accepted replace leaves, of the very tree h.
  Leaves : Sound ix.live → ℕ → Index → Type 0
  Leaves h x jx =
      (g : Sound jx.live) × FitIndex jx × (contents g ≡ with_place hash key p (contents h))
      × (listing g ≡ with_place hash key p (listing h))
      × (g.tree ≡ h.tree) × (g.chain ≡ h.chain)
      × OneLine ix.lines jx.lines (plain_line replace_kind hash key (both_places p (cell ix.live.cells x place)))
      × (slots_of jx.live.names ≡ slots_of ix.live.names) × OnlyPlace ix.live jx.live x p

  leaves : FitIndex ix → (h : Sound ix.live) (x : ℕ) → Stands x h.tree → pair_of ix.live.names x ≡ pair hash key
      → length_of ix.lines < lines_of ix.lines → Leaves h x (after_replace ix hash key p x)
  unfolding Leaves after_replace
  leaves fit h x z n l =
      let g = placed_sound fit.tree h x p z in
      let j =
      one_line ix.lines (plain_line replace_kind hash key (both_places p (cell ix.live.cells x place)))
      (omega (arith, fit.within, fit.words, lines_capacity fit)) in (
        g.sound,
        record {
          tree = g.fit;
          capacity = fit.capacity;
          most = fit.most;
          words = j.long ∙ fit.words;
          within = omega (arith, j.count, fit.within, lines_capacity fit);
        },
        placed_contents fit.tree g z hash key n,
        placed_listing fit.tree g z hash key n,
        g.tree,
        g.chain,
        j,
        ap (λ (l : List ℕ). slots_of l) g.only.names,
        g.only,
      )

  pub replace_claims : Replaces ix hash key p
  unfolding replaces Leaves
  replace_claims = record { asks = asks_present ix hash key (after_replace ix hash key p); done = done }
    where
      done : (x : ℕ) → (replaces ix hash key p).answer ≡ given x → (h : Sound ix.live) → Leaves h x (replaces ix hash key p).left
      done x q h =
          let r = ((asks_present ix hash key (after_replace ix hash key p)).accepted x).0 q in
          let z = subst (λ (u : Tree). Stands x u) (tree_one r.0.tree r.1.0 h) r.1.1 in
          subst (Leaves h x) (sym (present_left ix hash key (after_replace ix hash key p) x q)) (leaves r.0 h x z r.1.2 r.1.3)

  -- Refused, or given a slot.
  pub replace_settled : ((replaces ix hash key p).answer.number ≢ 0) ⊎ ((x : ℕ) × ((replaces ix hash key p).answer ≡ given x))
  unfolding replaces
  replace_settled = present_settled ix hash key (after_replace ix hash key p)
