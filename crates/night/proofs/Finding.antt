-- A breach and a finding are read back off what they mean.
use mathlib.Core.Path.{◌≡◌, refl, ap, sym, ◌∙◌}
use Rattle.std.specs.Prelude.{Option, None, Some, Result, Ok, Err}
use Rattle.night_rules.specs.Account.{Account}
use Rattle.night_rules.specs.Breach.{Breach, stray_link, stray_state, left_hash, left_key, left_field, stray_root, stray_first, miscount}
use Rattle.night_rules.specs.Breach.{root_count}
use Rattle.night_rules.specs.Breach.{first_count, root_under, orphan, disowned, child_elsewhere, child_twice, off_root, falls, red_root}
use Rattle.night_rules.specs.Breach.{red_under}
use Rattle.night_rules.specs.Breach.{uneven, first_behind, prev_astray, next_astray, off_first, wrong_size, free_size}
use Rattle.night_rules.specs.Finding.{Finding, sound, broken, unfit}
use Rattle.night.specs.Breaches.{breach_of}
use Rattle.night.specs.Found.{finding_of}
use Rattle.night.specs.declared.account.Account.{Account as AccountCode}
use Rattle.night.specs.declared.breach.Breach.{Breach as BreachCode}
use Rattle.night.specs.declared.breach.Breach.TheVariants.{StrayLink, StrayState, LeftHash, LeftKey, LeftField, StrayRoot}
use Rattle.night.specs.declared.breach.Breach.TheVariants.{StrayFirst}
use Rattle.night.specs.declared.breach.Breach.TheVariants.{Miscount, RootCount, FirstCount, RootUnder, Orphan, Disowned}
use Rattle.night.specs.declared.breach.Breach.TheVariants.{ChildElsewhere}
use Rattle.night.specs.declared.breach.Breach.TheVariants.{ChildTwice, OffRoot, Falls, RedRoot, RedUnder, Uneven, FirstBehind}
use Rattle.night.specs.declared.breach.Breach.TheVariants.{PrevAstray, NextAstray, OffFirst, WrongSize, FreeSize}
use Rattle.slots.specs.declared.answer.Unfit.{Unfit}

abbrev breach_back : Breach → BreachCode
breach_back (stray_link f x) = StrayLink f x
breach_back (stray_state s) = StrayState s
breach_back (left_hash v) = LeftHash v
breach_back (left_key v) = LeftKey v
breach_back (left_field f v) = LeftField f v
breach_back (stray_root x) = StrayRoot x
breach_back (stray_first x) = StrayFirst x
breach_back (miscount c u) = Miscount c u
breach_back (root_count c x) = RootCount c x
breach_back (first_count c x) = FirstCount c x
breach_back (root_under p) = RootUnder p
breach_back orphan = Orphan
breach_back (disowned p l r) = Disowned p l r
breach_back (child_elsewhere f x p) = ChildElsewhere f x p
breach_back (child_twice x) = ChildTwice x
breach_back (off_root x) = OffRoot x
breach_back (falls h k at own j) = Falls h k at own j
breach_back red_root = RedRoot
breach_back (red_under f x) = RedUnder f x
breach_back (uneven a b) = Uneven a b
breach_back (first_behind p) = FirstBehind p
breach_back (prev_astray p x) = PrevAstray p x
breach_back (next_astray x p) = NextAstray x p
breach_back (off_first x) = OffFirst x
breach_back (wrong_size s m) = WrongSize s m
breach_back (free_size s) = FreeSize s

breach_back_lem : (b : BreachCode) → breach_back (breach_of b) ≡ b
breach_back_lem (StrayLink f x) = refl
breach_back_lem (StrayState s) = refl
breach_back_lem (LeftHash v) = refl
breach_back_lem (LeftKey v) = refl
breach_back_lem (LeftField f v) = refl
breach_back_lem (StrayRoot x) = refl
breach_back_lem (StrayFirst x) = refl
breach_back_lem (Miscount c u) = refl
breach_back_lem (RootCount c x) = refl
breach_back_lem (FirstCount c x) = refl
breach_back_lem (RootUnder p) = refl
breach_back_lem Orphan = refl
breach_back_lem (Disowned p l r) = refl
breach_back_lem (ChildElsewhere f x p) = refl
breach_back_lem (ChildTwice x) = refl
breach_back_lem (OffRoot x) = refl
breach_back_lem (Falls h k at own j) = refl
breach_back_lem RedRoot = refl
breach_back_lem (RedUnder f x) = refl
breach_back_lem (Uneven a b) = refl
breach_back_lem (FirstBehind p) = refl
breach_back_lem (PrevAstray p x) = refl
breach_back_lem (NextAstray x p) = refl
breach_back_lem (OffFirst x) = refl
breach_back_lem (WrongSize s m) = refl
breach_back_lem (FreeSize s) = refl

abbrev pub account_back : Account → AccountCode
account_back w =
    record {
      rule = w.rule;
      slot = w.slot;
      other = w.other;
      one = record { last = w.one.last; side = w.one.side; blacks = w.one.blacks };
      two = record { last = w.two.last; side = w.two.side; blacks = w.two.blacks };
    }

abbrev FindingCode : Type 0
FindingCode = Result (Option (AccountCode × BreachCode)) Unfit

abbrev finding_back : Finding → FindingCode
finding_back sound = Ok None
finding_back (broken w b) = Ok (Some (account_back w, breach_back b))
finding_back unfit = Err (record {})

finding_back_lem : (f : FindingCode) → finding_back (finding_of f) ≡ f
finding_back_lem (Ok None) = refl
finding_back_lem (Ok (Some found)) = ap (λ b. Ok (Some (found.0, b))) (breach_back_lem found.1)
finding_back_lem (Err _) = refl

pub breach_one_to_one : (a b : BreachCode) → breach_of a ≡ breach_of b → a ≡ b
breach_one_to_one a b e = sym (breach_back_lem a) ∙ ap breach_back e ∙ breach_back_lem b

pub finding_one_to_one : (a b : FindingCode) → finding_of a ≡ finding_of b → a ≡ b
finding_one_to_one a b e = sym (finding_back_lem a) ∙ ap finding_back e ∙ finding_back_lem b
