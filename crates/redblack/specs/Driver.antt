-- The published crate's remove_tree_node, where the slot has two children: node.rs, lines 600 to 681, in the words of specs/Source.antt.
use Rattle.std.specs.Prelude.{not, ℕ, zero, suc, eqb}
use Rattle.slots.specs.Words.{null, pick}
use Rattle.tree_rules.specs.Source.{is-null}
use Rattle.redblack.specs.Source.{Memory, WildMemory, set_root, parent_of, left_of_lem, right_of, red_of, set-parent, set-left, set-right}
use Rattle.redblack.specs.Source.{set_red}

module _ (w : WildMemory) where
  -- Lines 601 to 609, the smallest slot from there: the loop, for at most so many turns.
  unfoldable pub smallest : ℕ → Memory → ℕ → ℕ
  smallest zero m successor = successor
  smallest (suc turns) m successor =
      let successor_left = left_of_lem w m successor in  -- 604, 608
      pick (not (is-null successor_left)) (smallest turns m successor_left) successor  -- 605

  -- Lines 619 to 648.
  unfoldable pub lower : Memory → ℕ → ℕ → ℕ → Memory
  lower m p p_right successor =
      pick (eqb successor p_right)  -- 619
      (let m = set-parent w m p successor in  -- 622
      set-right w m successor p)  -- 623
      (let successor_parent = parent_of w m successor in  -- 625
      let m = set-parent w m p successor_parent in  -- 626
      let m = pick (not (is-null successor_parent))  -- 627
      (pick (eqb successor (left_of_lem w m successor_parent))  -- 628
      (set-left w m successor_parent p)  -- 633
      (set-right w m successor_parent p))  -- 637
      m in
      let m = set-right w m successor p_right in  -- 642
      pick (not (is-null p_right)) (set-parent w m p_right successor) m)  -- 643

  -- Lines 664 to 681.
  unfoldable pub rehung : Memory → ℕ → ℕ → ℕ → Memory
  rehung m p p_parent successor =
      pick (is-null p_parent)  -- 664
      (set_root m successor)  -- 666
      (pick (eqb p (left_of_lem w m p_parent))  -- 667
      (set-left w m p_parent successor)  -- 672
      (set-right w m p_parent successor))  -- 676

  unfoldable pub trade : Memory → ℕ → ℕ → ℕ → ℕ → Memory
  trade m p p_left p_right successor =
      let color = red_of w m successor in  -- 611
      let m = set_red w m successor (red_of w m p) in  -- 612
      let m = set_red w m p color in  -- 615
      let successor_right = right_of w m successor in  -- 617
      let p_parent = parent_of w m p in  -- 618
      let m = lower m p p_right successor in
      let m = set-left w m p null in  -- 650
      let m = set-right w m p successor_right in  -- 651
      let m = pick (not (is-null successor_right)) (set-parent w m successor_right p) m in  -- 652
      let m = set-left w m successor p_left in  -- 657
      let m = pick (not (is-null p_left)) (set-parent w m p_left successor) m in  -- 658
      let m = set-parent w m successor p_parent in  -- 663
      rehung m p p_parent successor
