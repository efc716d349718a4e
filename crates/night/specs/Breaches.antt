-- What the code's breach stands for.
use Rattle.night_rules.specs.Breach.{Breach, stray_link, stray_state, left_hash, left_key, left_field, stray_root, stray_first, miscount}
use Rattle.night_rules.specs.Breach.{root_count}
use Rattle.night_rules.specs.Breach.{first_count, root_under, orphan, disowned, child_elsewhere, child_twice, off_root, falls, red_root}
use Rattle.night_rules.specs.Breach.{red_under}
use Rattle.night_rules.specs.Breach.{uneven, first_behind, prev_astray, next_astray, off_first, wrong_size, free_size}
use Rattle.night.specs.declared.breach.Breach.{Breach as BreachCode}
use Rattle.night.specs.declared.breach.Breach.TheVariants.{StrayLink, StrayState, LeftHash, LeftKey, LeftField, StrayRoot}
use Rattle.night.specs.declared.breach.Breach.TheVariants.{StrayFirst}
use Rattle.night.specs.declared.breach.Breach.TheVariants.{Miscount, RootCount, FirstCount, RootUnder, Orphan, Disowned}
use Rattle.night.specs.declared.breach.Breach.TheVariants.{ChildElsewhere}
use Rattle.night.specs.declared.breach.Breach.TheVariants.{ChildTwice, OffRoot, Falls, RedRoot, RedUnder, Uneven, FirstBehind}
use Rattle.night.specs.declared.breach.Breach.TheVariants.{PrevAstray, NextAstray, OffFirst, WrongSize, FreeSize}

abbrev pub breach_of : BreachCode → Breach
breach_of (StrayLink f x) = stray_link f x
breach_of (StrayState s) = stray_state s
breach_of (LeftHash v) = left_hash v
breach_of (LeftKey v) = left_key v
breach_of (LeftField f v) = left_field f v
breach_of (StrayRoot x) = stray_root x
breach_of (StrayFirst x) = stray_first x
breach_of (Miscount c u) = miscount c u
breach_of (RootCount c x) = root_count c x
breach_of (FirstCount c x) = first_count c x
breach_of (RootUnder p) = root_under p
breach_of Orphan = orphan
breach_of (Disowned p l r) = disowned p l r
breach_of (ChildElsewhere f x p) = child_elsewhere f x p
breach_of (ChildTwice x) = child_twice x
breach_of (OffRoot x) = off_root x
breach_of (Falls h k at own j) = falls h k at own j
breach_of RedRoot = red_root
breach_of (RedUnder f x) = red_under f x
breach_of (Uneven a b) = uneven a b
breach_of (FirstBehind p) = first_behind p
breach_of (PrevAstray p x) = prev_astray p x
breach_of (NextAstray x p) = next_astray x p
breach_of (OffFirst x) = off_first x
breach_of (WrongSize s m) = wrong_size s m
breach_of (FreeSize s) = free_size s
