-- remove: the slot that has the pair leaves, and a line of kind 2 says so, with what stood before it.
use mathlib.Core.Path.{◌≡◌, ap, sym, ◌∙◌, subst}
use mathlib.Core.Logic.{◌≢◌, ◌⊎◌}
use Prim.Native.Nat.{ℕ, ◌<◌}
use native.Mathlib.Omega.{arith}
use Rattle.slots.specs.Words.{place, cell}
use Rattle.slots.specs.Pairs.{Pair, pair, pair_of}
use Rattle.slots.specs.Answers.{given}
use Rattle.tree_rules.specs.Tree.{Tree}
use Rattle.redblack.specs.Balance.{OneFewer}
use Rattle.redblack.specs.Holding.{Stands}
use Rattle.index_rules.specs.Sound.{Sound}
use Rattle.index_rules.specs.Index.{Index, FitIndex, JournalLine, length_of, lines_of}
use Rattle.index_rules.specs.Remove.{removal_of, after_remove, removes}
use Rattle.index_rules.specs.Contents.{entry, contents, listing, without}
use Rattle.index_rules.specs.Calls.{Frees, Notes, OneLine}
use Rattle.index_rules.specs.Claims.{Removes}
use Rattle.index_rules.proofs.Journal.{lines_capacity, one_line}
use Rattle.index_rules.proofs.Shrinking.{shrunk_fit, shrunk-sound}
use Rattle.index_rules.proofs.Holding.{shrunk-contents}
use Rattle.index_rules.proofs.Lists.{shrunk-listing, removal_notes}
use Rattle.index_rules.proofs.Unrolling.{tree_one, shrunk_capacity}
use Rattle.index_rules.proofs.Present.{asks_present, present_left, present_settled}
use Rattle.tree_rules.specs.Find.{slots_of}

module _ (ix : Index) (hash key : ℕ) where
  -- What an accepted removal leaves, of the very tree h.
  Leaves : Sound ix.live → ℕ → Index → Type 0
  Leaves h x jx =
      (g : Sound jx.live) × FitIndex jx × (contents g ≡ without hash key (contents h)) × (listing g ≡ without hash key (listing h))
      × OneFewer x h.chain g.chain
      × ((j : JournalLine) × Notes (entry hash key (cell ix.live.cells x place)) (listing h) j × OneLine ix.lines jx.lines j)
      × (slots_of jx.live.names ≡ slots_of ix.live.names)
      × Frees ix.live jx.live x

  leaves : FitIndex ix → (h : Sound ix.live) (x : ℕ) → Stands x h.tree → pair_of ix.live.names x ≡ pair hash key
      → length_of ix.lines < lines_of ix.lines → Leaves h x (after_remove ix hash key x)
  unfolding Leaves after_remove
  leaves fit h x z n l =
      let g = shrunk-sound fit.tree h x z in
      let j = one_line ix.lines (removal_of ix.live hash key x) (omega (arith, fit.within, fit.words, lines_capacity fit)) in (
        g.sound,
        record {
          tree = shrunk_fit fit.tree h x z;
          capacity = fit.capacity;
          most = fit.most;
          words = j.long ∙ fit.words;
          within = omega (arith, j.count, fit.within, lines_capacity fit);
        },
        shrunk-contents g ∙ ap (λ (r : Pair). without r.hash r.key (contents h)) n,
        shrunk-listing fit.tree g ∙ ap (λ (r : Pair). without r.hash r.key (listing h)) n,
        g.chain,
        (removal_of ix.live hash key x, removal_notes fit.tree h x hash key z n, j),
        shrunk_capacity ix.live x,
        g.frees,
      )

  pub remove_claims : Removes ix hash key
  unfolding removes Leaves
  remove_claims = record { asks = asks_present ix hash key (after_remove ix hash key); done = done }
    where
      done : (x : ℕ) → (removes ix hash key).answer ≡ given x → (h : Sound ix.live) → Leaves h x (removes ix hash key).left
      done x q h =
          let r = ((asks_present ix hash key (after_remove ix hash key)).accepted x).0 q in
          let z = subst (λ (u : Tree). Stands x u) (tree_one r.0.tree r.1.0 h) r.1.1 in
          subst (Leaves h x) (sym (present_left ix hash key (after_remove ix hash key) x q)) (leaves r.0 h x z r.1.2 r.1.3)

  -- Refused, or given a slot.
  pub remove_settled : ((removes ix hash key).answer.number ≢ 0) ⊎ ((x : ℕ) × ((removes ix hash key).answer ≡ given x))
  unfolding removes
  remove_settled = present_settled ix hash key (after_remove ix hash key)
