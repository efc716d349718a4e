-- Each arm is the sentence of its own variant.
-- Parts: what is written for a variant is written for its breach; the sentences of T1 and T2; those of T3, on the links of the tree; those
-- of T4 to T6, on order and colours; those of T7, on the chain; those of T8, on the sizes; all in one law.
use mathlib.Core.Path.{◌≡◌, ap, sym, ◌∙◌}
use Rattle.script_rules.specs.Feeding.{Paper, typed}
use Rattle.night.specs.Breaches.{breach_of}
use Rattle.night.specs.declared.breach.Breach.{Breach}
use Rattle.dump_rules.specs.Sentence.{sentence}
use Rattle.dump.proofs.say.say.Goals as goal

-- What is written for a variant is written for the breach that is it.
sure : (p : Paper) {q : Paper} {a b : Breach} → q ≡ typed p (sentence (breach_of b)) → a ≡ b → q ≡ typed p (sentence (breach_of a))
sure p e f = e ∙ ap (λ x. typed p (sentence (breach_of x))) (sym f)

pub returns-in-StrayLink : goal.returns-in-StrayLink
unfolding sentence
returns-in-StrayLink c = sure _ c.fill.ensures c.in-StrayLink.is

pub returns-in-StrayState : goal.returns-in-StrayState
unfolding sentence
returns-in-StrayState c = sure _ c.fill-in-StrayState.ensures c.in-StrayState.is

pub returns-in-LeftHash : goal.returns-in-LeftHash
unfolding sentence
returns-in-LeftHash c = sure _ c.fill-in-LeftHash.ensures c.in-LeftHash.is

pub returns-in-LeftKey : goal.returns-in-LeftKey
unfolding sentence
returns-in-LeftKey c = sure _ c.fill-in-LeftKey.ensures c.in-LeftKey.is

pub returns-in-LeftField : goal.returns-in-LeftField
unfolding sentence
returns-in-LeftField c = sure _ c.fill-in-LeftField.ensures c.in-LeftField.is

pub returns-in-StrayRoot : goal.returns-in-StrayRoot
unfolding sentence
returns-in-StrayRoot c = sure _ c.fill-in-StrayRoot.ensures c.in-StrayRoot.is

pub returns-in-StrayFirst : goal.returns-in-StrayFirst
unfolding sentence
returns-in-StrayFirst c = sure _ c.fill-in-StrayFirst.ensures c.in-StrayFirst.is

pub returns-in-Miscount : goal.returns-in-Miscount
unfolding sentence
returns-in-Miscount c = sure _ c.fill-in-Miscount.ensures c.in-Miscount.is

pub returns-in-RootCount : goal.returns-in-RootCount
unfolding sentence
returns-in-RootCount c = sure _ c.fill-in-RootCount.ensures c.in-RootCount.is

pub returns-in-FirstCount : goal.returns-in-FirstCount
unfolding sentence
returns-in-FirstCount c = sure _ c.fill-in-FirstCount.ensures c.in-FirstCount.is

pub returns-in-RootUnder : goal.returns-in-RootUnder
unfolding sentence
returns-in-RootUnder c = sure _ c.fill-in-RootUnder.ensures c.in-RootUnder.is

pub returns-in-Orphan : goal.returns-in-Orphan
unfolding sentence
returns-in-Orphan c = sure _ c.put_word.ensures c.in-Orphan.is

pub returns-in-Disowned : goal.returns-in-Disowned
unfolding sentence
returns-in-Disowned c = sure _ c.fill-in-Disowned.ensures c.in-Disowned.is

pub returns-in-ChildElsewhere : goal.returns-in-ChildElsewhere
unfolding sentence
returns-in-ChildElsewhere c = sure _ c.fill-in-ChildElsewhere.ensures c.in-ChildElsewhere.is

pub returns-in-ChildTwice : goal.returns-in-ChildTwice
unfolding sentence
returns-in-ChildTwice c = sure _ c.fill-in-ChildTwice.ensures c.in-ChildTwice.is

pub returns-in-OffRoot : goal.returns-in-OffRoot
unfolding sentence
returns-in-OffRoot c = sure _ c.fill-in-OffRoot.ensures c.in-OffRoot.is

pub returns-in-Falls : goal.returns-in-Falls
unfolding sentence
returns-in-Falls c = sure _ c.fill-in-Falls.ensures c.in-Falls.is

pub returns-in-RedRoot : goal.returns-in-RedRoot
unfolding sentence
returns-in-RedRoot c = sure _ c.put_word-in-RedRoot.ensures c.in-RedRoot.is

pub returns-in-RedUnder : goal.returns-in-RedUnder
unfolding sentence
returns-in-RedUnder c = sure _ c.fill-in-RedUnder.ensures c.in-RedUnder.is

pub returns-in-Uneven : goal.returns-in-Uneven
unfolding sentence
returns-in-Uneven c = sure _ c.fill-in-Uneven.ensures c.in-Uneven.is

pub returns-in-FirstBehind : goal.returns-in-FirstBehind
unfolding sentence
returns-in-FirstBehind c = sure _ c.fill-in-FirstBehind.ensures c.in-FirstBehind.is

pub returns-in-PrevAstray : goal.returns-in-PrevAstray
unfolding sentence
returns-in-PrevAstray c = sure _ c.fill-in-PrevAstray.ensures c.in-PrevAstray.is

pub returns-in-NextAstray : goal.returns-in-NextAstray
unfolding sentence
returns-in-NextAstray c = sure _ c.fill-in-NextAstray.ensures c.in-NextAstray.is

pub returns-in-OffFirst : goal.returns-in-OffFirst
unfolding sentence
returns-in-OffFirst c = sure _ c.fill-in-OffFirst.ensures c.in-OffFirst.is

pub returns-in-WrongSize : goal.returns-in-WrongSize
unfolding sentence
returns-in-WrongSize c = sure _ c.fill-in-WrongSize.ensures c.in-WrongSize.is

pub returns-in-FreeSize : goal.returns-in-FreeSize
unfolding sentence
returns-in-FreeSize c = sure _ c.fill-in-FreeSize.ensures c.in-FreeSize.is
